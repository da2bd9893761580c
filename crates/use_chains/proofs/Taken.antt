-- A filter over what is left of a list, one item further.
use Rattle.std.proofs.Common.{◌≡◌, ◌<◌, ◌+◌, ◌&&◌, ◌||◌, ℕ, Bool, true, false, List, [], ◌∷◌, ◌++◌, length, get_or, drop, map, filter, refl, ap, sym, ◌∙◌, cond}
use Rattle.std.proofs.lemmas.Bool.{and_left, and_right}
use Rattle.spv_module.specs.declared.inst.Inst.{Inst}
use Rattle.spv_module.specs.declared.inst.Function.{Function}
use Rattle.spv_ops.specs.Operands.{is_id}
use Rattle.spv_ops.specs.declared.Op.{Op}
use Rattle.spv_ops.specs.OpGroups.{takes_of}
use Rattle.spv_ops.specs.declared.Takes.{Takes}
use Rattle.spv_ops.specs.declared.Takes.TheVariants.{Labels}
use Rattle.use_chains.specs.Slots.{are_labels, has_labels, is_base, is_slot, is_slot_in, is_taken, is_value_by, is_value, mention, slots_of_inst}
use Rattle.std.specs.List.{enumerate_from}
use Rattle.std.proofs.lemmas.List.{drop_more, append_assoc}

pub taken_yes : {X Y : Type 0} (test : ℕ × X → Bool) (f : ℕ × X → Y) (done : List Y) (xs : List X) (k : ℕ) (d : X) → k < length xs → test (k, get_or xs k d) ≡ true
    → (done ++ f (k, get_or xs k d) ∷ []) ++ map f (filter test (enumerate_from (k + 1) (drop (k + 1) xs))) ≡ done ++ map f (filter test (enumerate_from k (drop k xs)))
taken_yes {X} {Y} test f done xs k d inside e =
    let rest : List (ℕ × X) = enumerate_from (k + 1) (drop (k + 1) xs) in
    let here : map f (filter test (enumerate_from k (drop k xs))) ≡ f (k, get_or xs k d) ∷ map f (filter test rest) =
    ap (λ ys. map f (filter test (enumerate_from k ys))) (drop_more xs k d inside) ∙ ap (λ b. map f (cond b ((k, get_or xs k d) ∷ filter test rest) (filter test rest))) e in
    append_assoc done (f (k, get_or xs k d) ∷ []) (map f (filter test rest)) ∙ ap (λ ys. done ++ ys) (sym here)

pub taken_no : {X Y : Type 0} (test : ℕ × X → Bool) (f : ℕ × X → Y) (done : List Y) (xs : List X) (k : ℕ) (d : X) → k < length xs → test (k, get_or xs k d) ≡ false
    → done ++ map f (filter test (enumerate_from (k + 1) (drop (k + 1) xs))) ≡ done ++ map f (filter test (enumerate_from k (drop k xs)))
taken_no {X} {Y} test f done xs k d inside e =
    let rest : List (ℕ × X) = enumerate_from (k + 1) (drop (k + 1) xs) in
    let here : map f (filter test (enumerate_from k (drop k xs))) ≡ map f (filter test rest) =
    ap (λ ys. map f (filter test (enumerate_from k ys))) (drop_more xs k d inside) ∙ ap (λ b. map f (cond b ((k, get_or xs k d) ∷ filter test rest) (filter test rest))) e in
    ap (λ ys. done ++ ys) (sym here)

none_taken : {X : Type 0} (test : ℕ × X → Bool) (n : ℕ) (xs : List X) → ((k : ℕ) (x : X) → test (k, x) ≡ false) → filter test (enumerate_from n xs) ≡ []
none_taken test n [] none = refl
none_taken test n (x ∷ xs) none = ap (λ b. cond b ((n, x) ∷ filter test (enumerate_from (n + 1) xs)) (filter test (enumerate_from (n + 1) xs))) (none n x) ∙ none_taken test (n + 1) xs none

no_value_by : (t : Takes) (k : ℕ) → are_labels t ≡ true → is_value_by t k ≡ false
no_value_by Labels k e = refl
no_value_by t k e = cc

no_value : (o : Op) (k : ℕ) → has_labels o ≡ true → is_value o k ≡ false
no_value o k e = no_value_by (takes_of o) k e

-- what mentions labels alone has no slots
no_slot : (f : Function) (reached : List Bool) (i : Inst) (k : ℕ) → has_labels i.op ≡ true → is_slot f reached i k ≡ false
no_slot f reached i k e = and_right (is_id i.op i.args k) (is_value i.op k && is_taken f reached i k) (and_left (is_value i.op k) (is_taken f reached i k) (no_value i.op k e))

pub no_slots : (f : Function) (reached : List Bool) (here : Bool) (b n : ℕ) (i : Inst) → has_labels i.op ≡ true → slots_of_inst f reached here b (n, i) ≡ []
no_slots f reached here b n i e =
    ap (map (mention b n i)) (none_taken (λ (operand : ℕ × ℕ). is_slot_in f reached here i operand.0) 0 i.args (λ k x. and_right (here || is_base i k) (is_slot f reached i k) (no_slot f reached i k e)))
