-- Where T23 is not broken, no literal of a switch stands twice.
use Rattle.std.proofs.Common.{◌≡◌, ◌<◌, ◌≤◌, ◌+◌, ◌==◌, ◌%◌, ℕ, Bool, true, false, cond, List, [], ◌∷◌, map, filter, drop, count_by, nat_le, Option, Some, inl, inr, refl, sym, ap, ◌∙◌, subst, if◌then◌else◌, arith}
use Rattle.std.specs.Prelude.{◌⊎◌, slice_get, Contains}
use Rattle.std.specs.List.{list_any, enumerate_from}
use Rattle.std.proofs.lemmas.Bool.Decides.{eqb_tells, nat_tests}
use Rattle.std.proofs.lemmas.List.Sums.{sum_by-cons}
use Rattle.spv_ops.specs.OpGroups.{group_of}
use Rattle.spv_ops.specs.declared.OpGroup.TheVariants as groups
use Rattle.spv_ops.specs.declared.Terminator.TheVariants as ends
use Rattle.spv_ops.specs.declared.Op.{Op}
use Rattle.spv_ops.specs.declared.Op.TheVariants as code
use Rattle.spv_module.specs.declared.inst.Inst.{Inst}
use Rattle.spv_module.specs.declared.inst.Block.{Block}
use Rattle.spv_module.specs.declared.inst.Function.{Function}
use Rattle.spv_decor.specs.Rows.{word}
use Rattle.spv_index.specs.Locals.{insts_of, type_in}
use Rattle.structure_rules.specs.declared.graph.Exit.TheVariants.{Switch}
use Rattle.structure_rules.specs.Graph.{terminator, exit_of}
use Rattle.structure_recover.specs.Follows.{firsts}
use Rattle.profile_rules.specs.TypeRows.{value_fails, is_int}
use Rattle.profile_rules.specs.FlowRules.{every_second, has_repeat, breaks_t23_switch}
use Rattle.profile_rules.specs.TypeRules.{is_flow_broken}
use Rattle.module_semantics.specs.Setting.{Setting}
use Rattle.list_law.proofs.Numbers.{number_itself}
use Rattle.call_law.specs.Known.{IsFunctionOf}
use Rattle.function_law.proofs.CaseGroups.{IsNoWord, AreOnceWords}
use Rattle.typed_law.specs.Conforms.{IsConforming}
use Rattle.typed_law.proofs.Lists.{or_left, or_right}
use Rattle.typed_law.proofs.Rules.{flow_right}
use Rattle.grammar_law.proofs.Ruled.Ruled.{contains_of}
use Rattle.claim_law.proofs.Claim.Listed.{in_flat, at_place}
use Rattle.grammar_law.proofs.Unit.Lists.{as_among}
use Rattle.text_law.proofs.Naming.Labels.{found_among}

-- how often a word stands among these
abbrev times : ℕ → List ℕ → ℕ
times x ws = count_by (λ (y : ℕ). y == x) ws

times_more : (x w : ℕ) (ws : List ℕ) → times x (w ∷ ws) ≡ cond (w == x) 1 0 + times x ws
times_more x w ws = sum_by-cons (λ (y : ℕ). cond (y == x) 1 0) w ws

no_word : (x : ℕ) (ws : List ℕ) → times x ws ≡ 0 → IsNoWord x ws
no_word x [] none = tt
no_word x (w ∷ ws) none = by_test (w == x) (eqb_tells w x) (sym (times_more x w ws) ∙ none) (no_word x ws)
  where
    by_test : (t : Bool) → ((t ≡ true) × (w ≡ x)) ⊎ ((t ≡ false) × (w ≡ x → ⊥)) → cond t 1 0 + times x ws ≡ 0 → (times x ws ≡ 0 → IsNoWord x ws) → IsNoWord x (w ∷ ws)
    by_test true e none later = absurd (omega (arith, none))
    by_test false (inl e) none later = cc
    by_test false (inr e) none later = (e.1, later (let rest : times x ws ≡ 0 = omega (arith, none) in rest))

-- none of these stands twice among all
once_by : (all ws : List ℕ) → ((x : ℕ) → times x ws ≤ times x all) → list_any (λ (w : ℕ). nat_le 2 (times w all)) ws ≡ false → AreOnceWords ws
once_by all [] few off = tt
once_by all (w ∷ ws) few off =
    let own = or_left (nat_le 2 (times w all)) (list_any (λ (x : ℕ). nat_le 2 (times x all)) ws) off in
    let le = few w in
    let more : times w (w ∷ ws) ≡ 1 + times w ws = times_more w w ws ∙ ap (λ (t : Bool). cond t 1 0 + times w ws) (number_itself w) in (
      no_word w ws (none_left (times w all) (times w (w ∷ ws)) (times w ws) own le more),
      once_by all ws (λ x. let bound = few x in let next = times_more x w ws in below (times x all) (times x (w ∷ ws)) (times x ws) (cond (w == x) 1 0) bound next) (or_right (nat_le 2 (times w all)) (list_any (λ (x : ℕ). nat_le 2 (times x all)) ws) off),
    )
  where
    none_left : (n a c : ℕ) → nat_le 2 n ≡ false → a ≤ n → a ≡ 1 + c → c ≡ 0
    none_left n a c off le more = let few : n < 2 = grind (arith, nat_tests, off) in omega (arith, few, le, more)

    below : (n a c k : ℕ) → a ≤ n → a ≡ k + c → c ≤ n
    below n a c k le more = omega (arith, le, more)

once_words : (ws : List ℕ) → has_repeat ws ≡ false → AreOnceWords ws
once_words ws off = once_by ws ws (λ x. (let same : times x ws ≤ times x ws = omega arith in same)) off

-- the words at even places, counted from a number
abbrev even_words : ℕ → List ℕ → List ℕ
even_words n ws = map (λ (o : ℕ × ℕ). o.1) (filter (λ (o : ℕ × ℕ). o.0 % 2 == 0) (enumerate_from n ws))

even_two : (n w v : ℕ) (ws : List ℕ) → n % 2 ≡ 0 → even_words n (w ∷ v ∷ ws) ≡ w ∷ even_words (n + 1 + 1) ws
even_two n w v ws even =
    let odd : (n + 1) % 2 ≡ 1 = omega (arith, even) in
    ap (λ (t : Bool). map (λ (o : ℕ × ℕ). o.1) (if t then (n, w) ∷ filter (λ (o : ℕ × ℕ). o.0 % 2 == 0) (enumerate_from (n + 1) (v ∷ ws)) else filter (λ (o : ℕ × ℕ). o.0 % 2 == 0) (enumerate_from (n + 1) (v ∷ ws)))) (ap (λ (k : ℕ). k == 0) even)
    ∙ ap (λ (t : Bool). w ∷ map (λ (o : ℕ × ℕ). o.1) (if t then (n + 1, v) ∷ filter (λ (o : ℕ × ℕ). o.0 % 2 == 0) (enumerate_from (n + 1 + 1) ws) else filter (λ (o : ℕ × ℕ). o.0 % 2 == 0) (enumerate_from (n + 1 + 1) ws))) (ap (λ (k : ℕ). k == 0) odd)

after_two : (n : ℕ) → n % 2 ≡ 0 → (n + 1 + 1) % 2 ≡ 0
after_two n even = omega (arith, even)

-- literals stand there
no_first : (x n : ℕ) (ws : List ℕ) → n % 2 ≡ 0 → IsNoWord x (even_words n ws) → IsNoWord x (firsts ws)
no_first x n [] even none = tt
no_first x n (w ∷ []) even none = tt
no_first x n (w ∷ v ∷ ws) even none =
    let parts = subst (IsNoWord x) (even_two n w v ws even) none in
    (parts.0, no_first x (n + 1 + 1) ws (after_two n even) parts.1)

once_firsts : (n : ℕ) (ws : List ℕ) → n % 2 ≡ 0 → AreOnceWords (even_words n ws) → AreOnceWords (firsts ws)
once_firsts n [] even once = tt
once_firsts n (w ∷ []) even once = tt
once_firsts n (w ∷ v ∷ ws) even once =
    let parts = subst AreOnceWords (even_two n w v ws even) once in
    (no_first w (n + 1 + 1) ws (after_two n even) parts.0, once_firsts (n + 1 + 1) ws (after_two n even) parts.1)

switch_group : (o : Op) → exit_of o ≡ Switch → group_of o ≡ groups.Terminator ends.Switch
unfolding group_of
switch_group code.Switch e = refl
switch_group o e = cc

module _ (s : Setting) (entry : Option (List ℕ)) (right : IsConforming s.of entry) (f : Function) (is_one : IsFunctionOf f s.of.functions) where
  in_it : Contains s.of.functions f
  in_it = contains_of s.of.functions f is_one

  pub literals_once : (b : ℕ) (block : Block) (i : Inst) → slice_get f.blocks b ≡ Some block → terminator block ≡ Some i → exit_of i.op ≡ Switch → AreOnceWords (firsts (drop 2 i.args))
  literals_once b block i at has exit =
      let there = as_among (insts_of f) i (in_flat (λ (x : Block). x.insts) f.blocks block i (at_place f.blocks b block at) (found_among _ block.insts i has)) in
      let flow = flow_right s.of entry right f in_it i there in
      let told : breaks_t23_switch s.of.globals (type_in s.of.globals f) i ≡ false = ap (is_flow_broken s.of f flow.0 i) (sym (switch_group i.op exit)) ∙ flow.1 in
      once_firsts 0 (drop 2 i.args) refl (once_words (every_second 0 (drop 2 i.args)) (or_right (value_fails is_int s.of.globals (type_in s.of.globals f) (word i 0)) (has_repeat (every_second 0 (drop 2 i.args))) told))
