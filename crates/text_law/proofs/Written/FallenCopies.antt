-- Into a case target that is fallen into, and has no flag, no copies are made: it has no live phi.
use Rattle.std.proofs.Common.{◌≡◌, ◌<◌, ◌≤◌, ◌+◌, ◌==◌, ◌||◌, ℕ, zero, suc, Bool, true, false, List, [], ◌∷◌, length, map, filter, flat_map, find, reverse, Option, Some, None, is_some, inl, inr, refl, sym, ap, ◌∙◌, subst, if◌then◌else◌, arith}
use Rattle.std.specs.Prelude.{slice_get, option_map}
use Rattle.std.specs.Option.{option_map_or}
use Rattle.std.specs.List.{list_any, enumerate_from}
use Rattle.std.proofs.lemmas.List.{reverse-append}
use Rattle.std.proofs.lemmas.Bool.{and_from}
use Rattle.spv_module.specs.State.{ModuleState}
use Rattle.spv_module.specs.declared.inst.Inst.{Inst}
use Rattle.spv_module.specs.declared.inst.Block.{Block}
use Rattle.spv_module.specs.declared.inst.Function.{Function}
use Rattle.structure_rules.specs.Graph.{graph}
use Rattle.structure_rules.specs.Nesting.{Links, first_of}
use Rattle.structure_rules.specs.Structure.{fall_links}
use Rattle.block_graph.proofs.Within.{graph_sized}
use Rattle.nest_place.specs.Links.{turned_links}
use Rattle.switch_ladder.specs.Ladder.{fallen_from}
use Rattle.switch_ladder.specs.Flags.{needs_fell}
use Rattle.conformance.specs.Rules.{Options}
use Rattle.hoist_plan.specs.declared.form.Form.{Form}
use Rattle.phi_copies.specs.declared.moves.Move.{Move}
use Rattle.phi_copies.specs.Sequence.{Pair, AreNext, IsSequence}
use Rattle.function_plan.specs.Phis.{is_live_phi, has_live_phi, phi_block, phi_blocks, given_by, pairs_into, pairs, firsts}
use Rattle.glsl_ast.specs.Tree.{TranslationUnit}
use Rattle.function_text.specs.Functions.{FunctionPlan, written, label_of, when, blocks_of, move_text, copies_text}
use Rattle.unit_rules.specs.Translation.{IsPlanOf}
use Rattle.unit_rules.specs.Unit.{source_of, IsUnitOf}
use Rattle.expr_forward.specs.Scope.{Scope}
use Rattle.name_alloc.specs.declared.claims.Key.TheVariants.{Fell}
use Rattle.claim_law.specs.Claimed.{IsIn}
use Rattle.claim_law.proofs.Claim.Listed.{in_flat, any_in}
use Rattle.typed_law.proofs.Lists.{clash}
use Rattle.grammar_law.proofs.Unit.Lists.{same_test, numbered_first}
use Rattle.text_law.proofs.Naming.Tree.{among_that}
use Rattle.text_law.proofs.Moves.PhiOperands.{some_behind}
use Rattle.safe_law.proofs.Flags.{planned, found}

-- what leads somewhere is led to
turned_some : (links : Links) (t u : ℕ) → first_of links t ≡ Some u → is_some (first_of (turned_links links) u) ≡ true
turned_some [] t u is = cc
turned_some (l ∷ links) t u is = by_first (l.0 == t) is (turned_some links t u)
  where
    later : (b : Bool) → is_some (first_of (turned_links links) u) ≡ true → is_some (option_map (λ (q : ℕ × ℕ). q.1) (if b then Some (l.1, l.0) else find (λ (q : ℕ × ℕ). q.0 == u) (turned_links links))) ≡ true
    later true on = refl
    later false on = on

    here : (b : Bool) → b ≡ true → is_some (option_map (λ (q : ℕ × ℕ). q.1) (if b then Some (l.1, l.0) else find (λ (q : ℕ × ℕ). q.0 == u) (turned_links links))) ≡ true
    here true on = refl
    here false on = cc

    second_is : Some l.1 ≡ Some u → l.1 ≡ u
    second_is e = cc

    by_first : (b : Bool) → option_map (λ (q : ℕ × ℕ). q.1) (if b then Some l else find (λ (q : ℕ × ℕ). q.0 == t) links) ≡ Some u → (first_of links t ≡ Some u → is_some (first_of (turned_links links) u) ≡ true) → is_some (first_of (turned_links (l ∷ links)) u) ≡ true
    by_first true is next = here (l.1 == u) (same_test l.1 u (second_is is))
    by_first false is next = later (l.1 == u) (next is)

-- of no pairs there are no moves
none_next : (h : List Move) → AreNext [] h → h ≡ []
none_next [] next = refl
none_next (m ∷ h) next = elim next.0 [
  | inl c ↦ (let below = c.first.holds.still.below in absurd (omega (arith, below)))
  | inr c ↦ (let below = c.first.holds.below in absurd (omega (arith, below)))
]

no_moves : (moves : List Move) → IsSequence [] moves → moves ≡ []
no_moves [] is = refl
no_moves (m ∷ ms) is = absurd (some_behind (reverse ms) m (sym (reverse-append (m ∷ []) ms) ∙ none_next (reverse (m ∷ ms)) is.next))

none_pass : (test : Inst → Bool) (xs : List Inst) → list_any test xs ≡ false → filter test xs ≡ []
none_pass test [] off = refl
none_pass test (x ∷ xs) off = by_test (test x) off (none_pass test xs)
  where
    by_test : (b : Bool) → (b || list_any test xs) ≡ false → (list_any test xs ≡ false → filter test xs ≡ []) → (if b then x ∷ filter test xs else filter test xs) ≡ []
    by_test true off next = cc
    by_test false off next = next off

module _ (m : ModuleState) (o : Options) (unit : TranslationUnit) (u : IsUnitOf m o unit) (p : FunctionPlan) (among : IsIn p u.plans) where
  abbrev F : Function
  F = (planned m o unit u p among).0

  abbrev plan : IsPlanOf (source_of m o u.entry) (found m o unit u p among) F p
  plan = (planned m o unit u p among).1

  abbrev form : ℕ → Form
  form = p.scope.form

  -- a block with a live phi is among those that have one
  phi_there : (t : ℕ) (block : Block) → slice_get F.blocks t ≡ Some block → has_live_phi form block ≡ true → list_any (λ b. b == t) (phi_blocks form F) ≡ true
  phi_there t block there on =
      any_in (λ b. b == t) (phi_blocks form F) t
      (in_flat (phi_block form) (enumerate_from 0 F.blocks) (t, block) t (numbered_first F.blocks t block there) (subst (λ (b : Bool). IsIn t (if b then t ∷ [] else [])) (sym on) (inl refl)))
      (same_test t t refl)

  unflagged : (t : ℕ) → (blocks_of p).fell t ≡ None → p.fell t ≡ false
  unflagged t none = by_flag (p.fell t) refl none
    where
      by_flag : (b : Bool) → p.fell t ≡ b → when b (p.scope.setting.key (Fell (label_of p t))) ≡ None → p.fell t ≡ false
      by_flag true at is = cc
      by_flag false at is = at

  no_phi : (t : ℕ) (block : Block) → slice_get F.blocks t ≡ Some block → is_some (fallen_from (graph F) t) ≡ true → p.fell t ≡ false → has_live_phi form block ≡ false
  no_phi t block there fallen off = by_test (has_live_phi form block) refl
    where
      inside : (bs : List Block) (k : ℕ) → slice_get bs k ≡ Some block → k < length bs
      inside [] k at = cc
      inside (b ∷ bs) zero at = omega arith
      inside (b ∷ bs) (suc k) at = let less = inside bs k at in omega (arith, less)

      by_test : (b : Bool) → has_live_phi form block ≡ b → b ≡ false
      by_test false on = refl
      by_test true on =
          let needs : needs_fell (graph F) (phi_blocks form F) t ≡ true = and_from (is_some (fallen_from (graph F) t)) (list_any (λ b. b == t) (phi_blocks form F)) fallen (phi_there t block there on) in
          let low = inside F.blocks t there in
          let size = graph_sized F in
          clash (sym (plan.fell_is t ∙ among_that (needs_fell (graph F) (phi_blocks form F)) (length (graph F)) 0 t needs (let least : 0 ≤ t = omega arith in least) (let high : t < 0 + length (graph F) = omega (arith, low, size) in high)) ∙ off)

  no_pairs : (h t : ℕ) → is_some (fallen_from (graph F) t) ≡ true → p.fell t ≡ false → pairs m.globals form F h t ≡ []
  no_pairs h t fallen off = by_block (slice_get F.blocks t) refl
    where
      by_block : (x : Option Block) → slice_get F.blocks t ≡ x → option_map_or (pairs_into m.globals form F h) x [] ≡ []
      by_block None there = refl
      by_block (Some block) there = ap (λ (l : List Inst). flat_map (given_by m.globals F h) l) (none_pass (is_live_phi form) block.insts (no_phi t block there fallen off))

  written_is : written p ≡ F
  written_is = ap (λ (w : Scope). w.setting.function) plan.scope_is

  pub fallen_copies : (h t v : ℕ) → first_of (fall_links (graph (written p))) t ≡ Some v → (blocks_of p).fell v ≡ None → copies_text p h v ≡ []
  fallen_copies h t v falls none =
      let fallen : is_some (fallen_from (graph F) v) ≡ true = turned_some (fall_links (graph F)) t v (subst (λ (f : Function). first_of (fall_links (graph f)) t ≡ Some v) written_is falls) in
      let moves : p.moves h v ≡ [] = no_moves (p.moves h v) (subst (λ (l : List Pair). IsSequence (firsts l) (p.moves h v)) (no_pairs h v fallen (unflagged v none)) (plan.moves_are h v)) in
      ap (map (move_text p h v)) moves
