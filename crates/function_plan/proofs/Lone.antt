-- The moves of one phi.
use Rattle.std.proofs.Common.{◌≡◌, ◌==◌, ◌≤◌, ℕ, Bool, true, false, List, [], ◌∷◌, ◌++◌, Option, Some, None, cond, if◌then◌else◌, length, get_or, drop, map, filter, find, refl, sym, ◌∙◌, ap, subst, arith}
use Rattle.std.specs.List.{flat_map}
use Rattle.std.specs.declared.vec.Vec.{Vec}
use Rattle.std.specs.declared.alloc.Global.{Global}
use Rattle.std.proofs.lemmas.Bool.{eq-eqb}
use Rattle.std.proofs.lemmas.List.{append-nil}
use Rattle.spv_module.specs.declared.inst.Inst.{Inst}
use Rattle.spv_module.specs.declared.inst.Block.{Block}
use Rattle.spv_module.specs.declared.inst.Function.{Function}
use Rattle.hoist_plan.specs.declared.form.Form.{Form}
use Rattle.phi_copies.specs.declared.moves.Move.{Move}
use Rattle.phi_copies.specs.Sequence.{Pair, target, IsSequence}
use Rattle.function_plan.specs.declared.edge_moves.Moves.{Moves}
use Rattle.function_plan.specs.Once.{with_id, once_by, no_id}
use Rattle.function_plan.specs.Phis.{is_live_phi, live_phis, pair_with, values_in, comes_from, given_words, given_by, pairs_into, firsts}
use Rattle.function_plan.specs.Moved.{items_at, moves_from, single, first_moves, left_moves, AreMovesFor}
use Rattle.function_plan.proofs.Moving.{none_left}
use Rattle.function_plan.proofs.One.{single_moves}
use Rattle.function_plan.proofs.Phied.{one, given_step}

-- the operands of a phi, two at a time
pub given_two : (gs : List Inst) (f : Function) (b r : ℕ) (words : List ℕ) → 2 ≤ length words → given_words gs f b r words ≡ one gs f b r (get_or words 0 0) (get_or words 1 0) ++ given_words gs f b r (drop 2 words)
given_two gs f b r [] long = absurd (omega arith)
given_two gs f b r (x ∷ []) long = absurd (omega arith)
given_two gs f b r (x ∷ y ∷ rest) long = given_step gs f b r x y rest

pub left_end : (o : Option (Vec Move Global)) → left_moves o [] ≡ items_at o
left_end None = refl
left_end (Some m) = refl

own_key : (n : ℕ) → (n == n) ≡ true
own_key n = eq-eqb n n refl

none_again : (gs : List Inst) (r : ℕ) (seen : ℕ → Bool) (vs : List (ℕ × ℕ)) → seen r ≡ true → once_by target seen (map (pair_with gs r) vs) ≡ []
none_again gs r seen [] e = refl
none_again gs r seen (v ∷ vs) e = step (seen r) e (none_again gs r seen vs e)
  where
    step : (x : Bool) → x ≡ true → once_by target seen (map (pair_with gs r) vs) ≡ [] → (elim x as (λ _. List Pair) [ true ↦ once_by target seen (map (pair_with gs r) vs) | false ↦ pair_with gs r v ∷ once_by target (with_id r seen) (map (pair_with gs r) vs) ]) ≡ []
    step true h rest = rest
    step false h rest = cc

first_by : (gs : List Inst) (r : ℕ) (vs : List (ℕ × ℕ)) → IsSequence (firsts (map (pair_with gs r) vs)) (first_moves (map (pair_with gs r) vs))
first_by gs r [] = none_left
first_by gs r (v ∷ vs) =
    let p : Pair = pair_with gs r v in
    let seen : with_id r no_id r ≡ true = ap (λ b. elim b as (λ _. Bool) [ true ↦ true | false ↦ false ]) (own_key r) in
    let only : firsts (p ∷ map (pair_with gs r) vs) ≡ p ∷ [] = ap (λ ps. p ∷ ps) (none_again gs r (with_id r no_id) vs seen) in
    subst (λ (ps : List Pair). IsSequence ps (single p)) (sym only) (single_moves p (p ∷ []) (single p) refl refl)

-- the first pair of each edge makes its moves
pub first_sequence : (gs : List Inst) (f : Function) (b : ℕ) (phi : Inst) → IsSequence (firsts (given_by gs f b phi)) (first_moves (given_by gs f b phi))
first_sequence gs f b phi = first_by gs phi.result (filter (comes_from f b) (values_in phi.args))

-- all that is given by the only live phi
pub only_given : {A B : Type 0} (g : A → List B) (xs : List A) (x : A) → xs ≡ x ∷ [] → flat_map g xs ≡ g x
only_given g xs x is = ap (flat_map g) is ∙ append-nil (g x)

no_items : {A : Type 0} (zs : List A) → length zs ≡ 0 → zs ≡ []
no_items [] e = refl
no_items (z ∷ zs) e = absurd (omega (arith, e))

pub only_found : {A : Type 0} (p : A → Bool) (xs : List A) (x : A) → length (filter p xs) ≡ 1 → find p xs ≡ Some x → filter p xs ≡ x ∷ []
only_found p [] x size found = cc
only_found p (y ∷ ys) x size found = step (p y) (only_found p ys x) size found
  where
    step : (b : Bool) → (length (filter p ys) ≡ 1 → find p ys ≡ Some x → filter p ys ≡ x ∷ []) → length (if b then y ∷ filter p ys else filter p ys) ≡ 1 → (cond b (Some y) (find p ys)) ≡ Some x → (if b then y ∷ filter p ys else filter p ys) ≡ x ∷ []
    step true later few first = let same : y ≡ x = cc in ap (λ z. z ∷ filter p ys) same ∙ ap (λ zs. x ∷ zs) (no_items (filter p ys) (omega (arith, few)))
    step false later few first = later few first

-- the moves of the edges into a block with one live phi
pub moves_one : (gs : List Inst) (form : ℕ → Form) (f : Function) (block : Block) (phi : Inst) (moves : Moves) → length (live_phis form block) ≡ 1 → find (is_live_phi form) block.insts ≡ Some phi → ((b : ℕ) → IsSequence (firsts (given_by gs f b phi)) (items_at (moves_from moves b))) → AreMovesFor gs form f block moves
moves_one gs form f block phi moves size found made b =
    let all : pairs_into gs form f b block ≡ given_by gs f b phi = only_given (given_by gs f b) (live_phis form block) phi (only_found (is_live_phi form) block.insts phi size found) in
    subst (λ (ps : List Pair). IsSequence (firsts ps) (items_at (moves_from moves b))) (sym all) (made b)
