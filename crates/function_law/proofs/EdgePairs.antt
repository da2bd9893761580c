-- The pairs of a plan are those of the phis of a block: one for each that has a variable, in their order, whose source has what the phi takes.
use Rattle.std.proofs.Common.{◌≡◌, ◌++◌, not, ℕ, Bool, true, false, List, [], ◌∷◌, map, filter, flat_map, Option, Some, None, inl, inr, refl, sym, ap, ◌∙◌, subst, if◌then◌else◌}
use Rattle.std.specs.Prelude.{◌&&◌, option_map}
use Rattle.spv_module.specs.declared.inst.Inst.{Inst}
use Rattle.spv_module.specs.declared.inst.Block.{Block}
use Rattle.spv_module.specs.declared.inst.Function.{Function}
use Rattle.spv_types.specs.Tree.{ValueTree}
use Rattle.op_semantics.specs.Component.{each_one}
use Rattle.phi_copies.specs.Sequence.{Pair}
use Rattle.phi_copies.specs.Meaning.{value as value_by}
use Rattle.hoist_plan.specs.declared.form.Form.{Form}
use Rattle.function_plan.specs.Phis.{is_gone, is_live_phi, is_constant_id, source_by, source_of, pair_with, given_by, pairs_into}
use Rattle.module_semantics.specs.Setting.{Setting, global_variable}
use Rattle.module_semantics.specs.State.{Held, global, value, pointer, Conf}
use Rattle.module_semantics.specs.Operands.{of_module, value_at, as_value}
use Rattle.module_semantics.specs.Steps.{is_phi, phis, phi_value}
use Rattle.fits_law.proofs.Operations.{before_some}
use Rattle.agree_law.specs.Agree.{Naming, value_of}
use Rattle.agree_law.specs.Blocks.{IsOf}
use Rattle.edge_law.specs.Copies.{V, IsPaired, ArePairs}
use Rattle.function_law.specs.Edges.{IsGiven, AreConstants}

-- the live phis of a block are among its first instructions
pub live_pairs : (gs : List Inst) (form : ℕ → Form) (f : Function) (b : ℕ) (is : List Inst) → flat_map (given_by gs f b) (filter (is_live_phi form) is) ≡ flat_map (given_by gs f b) (filter (is_live_phi form) (filter is_phi is))
live_pairs gs form f b [] = refl
live_pairs gs form f b (i ∷ is) = by_phi (is_phi i) refl (not (is_gone (form i.result))) refl (live_pairs gs form f b is)
  where
    Pairs : List Inst → List Pair
    Pairs is = flat_map (given_by gs f b) (filter (is_live_phi form) is)

    With : Bool → Inst → List Inst → List Pair
    With t i is = flat_map (given_by gs f b) (if t then i ∷ filter (is_live_phi form) is else filter (is_live_phi form) is)

    here : (t u : Bool) → is_phi i ≡ t → not (is_gone (form i.result)) ≡ u → is_live_phi form i ≡ (t && u)
    here t u e g = ap (λ q. q && not (is_gone (form i.result))) e ∙ ap (λ q. t && q) g

    by_phi : (t : Bool) → is_phi i ≡ t → (u : Bool) → not (is_gone (form i.result)) ≡ u → Pairs is ≡ Pairs (filter is_phi is) → Pairs (i ∷ is) ≡ Pairs (filter is_phi (i ∷ is))
    by_phi false e u g later = ap (λ q. With q i is) (here false u e g) ∙ (later ∙ sym (ap (λ t. Pairs (if t then i ∷ filter is_phi is else filter is_phi is)) e))
    by_phi true e u g later =
        ap (λ q. With q i is) (here true u e g) ∙ (kept u
        ∙ (sym (ap (λ q. With q i (filter is_phi is)) (here true u e g)) ∙ sym (ap (λ t. Pairs (if t then i ∷ filter is_phi is else filter is_phi is)) e)))
      where
        kept : (u : Bool) → With u i is ≡ With u i (filter is_phi is)
        kept true = ap (λ l. given_by gs f b i ++ l) later
        kept false = later

module _ (m : Naming) (s : Setting) (gs : List Inst) (form : ℕ → Form) (f : Function) (b label : ℕ) (c : Conf) (constants : ℕ → V) (are : AreConstants gs s c.top constants) where
  -- the source of a pair has what the id has, where that is a value
  source_has : (n : ℕ) (u : ValueTree) → value_at s c.top n ≡ Some u → value_by V constants (value_of c) (source_of gs n) ≡ Some u
  source_has n u e = by_kind (is_constant_id gs n) refl
    where
      by_variable : (g : Option Inst) → as_value (elim g [ Some v ↦ Some (pointer (global n) []) | None ↦ option_map value (s.constants n) ]) ≡ Some u → s.constants n ≡ Some u
      by_variable (Some v) e = cc
      by_variable None e = by_value (s.constants n) e
        where
          by_value : (k : Option ValueTree) → as_value (option_map value k) ≡ Some u → k ≡ Some u
          by_value None e = cc
          by_value (Some v) e = e

      has : Option Held → Option ValueTree
      has o = as_value (elim o [ Some h ↦ Some h | None ↦ of_module s n ])

      by_own : (o : Option Held) → s.constants n ≡ None → has o ≡ Some u → as_value o ≡ Some u
      by_own None none e = let never : None ≡ Some u = sym none ∙ by_variable (global_variable s n) e in cc
      by_own (Some (value v)) none e = e
      by_own (Some (pointer r path)) none e = cc

      by_kind : (t : Bool) → is_constant_id gs n ≡ t → value_by V constants (value_of c) (source_by (is_constant_id gs n) n) ≡ Some u
      by_kind true is = ap (λ t. value_by V constants (value_of c) (source_by t n)) is ∙ are.same n is ∙ by_variable (global_variable s n) (ap has (sym (are.unset n is)) ∙ e)
      by_kind false is = ap (λ t. value_by V constants (value_of c) (source_by t n)) is ∙ by_own (c.top.ids n) (are.only n is) e

  abbrev live : Inst → Bool
  live = is_live_phi form

  abbrev Pairs : List Inst → List Pair
  Pairs is = flat_map (given_by gs f b) (filter live is)

  -- a phi that has a variable, and one that has none
  abbrev With : Bool → Inst → List Inst → List Pair
  With t i is = flat_map (given_by gs f b) (if t then i ∷ filter live is else filter live is)

  live_is : (i : Inst) (t : Bool) → is_phi i ≡ true → not (is_gone (form i.result)) ≡ t → is_live_phi form i ≡ t
  live_is i t phi e = ap (λ q. q && not (is_gone (form i.result))) phi ∙ e

  given_is : (i : Inst) → (g : IsGiven m form f b label i) → given_by gs f b i ≡ pair_with gs i.result g.source ∷ []
  given_is i g = ap (λ l. map (pair_with gs i.result) l) g.one

  pub pairs_are_in : (is : List Inst) (vs : List ValueTree) → ((i : Inst) → IsOf i is → IsGiven m form f b label i) → each_one (phi_value s c.top label) is ≡ Some vs → ArePairs m constants (value_of c) is vs (Pairs is)
  pairs_are_in [] [] all e = tt
  pairs_are_in [] (v ∷ vs) all e = cc
  pairs_are_in (i ∷ is) vs all e =
      let q = before_some (phi_value s c.top label i) (each_one (phi_value s c.top label) is) vs e in
      subst (λ l. ArePairs m constants (value_of c) (i ∷ is) l (Pairs (i ∷ is))) (sym q.4) (by_form (m.is_outer i.result) refl q.0 q.1 q.2 (pairs_are_in is q.1 (λ j of. all j (inr of)) q.3))
    where
      g : IsGiven m form f b label i
      g = all i (inl refl)

      by_form : (t : Bool) → m.is_outer i.result ≡ t → (v : ValueTree) (ws : List ValueTree) → phi_value s c.top label i ≡ Some v → ArePairs m constants (value_of c) is ws (Pairs is) → ArePairs m constants (value_of c) (i ∷ is) (v ∷ ws) (Pairs (i ∷ is))
      by_form false outer v ws has later = inl (outer, subst (ArePairs m constants (value_of c) is ws) (sym (ap (λ t. With t i is) (live_is i false g.phi (sym g.outer ∙ outer)))) later)
      by_form true outer v ws has later =
          let text : Pairs (i ∷ is) ≡ pair_with gs i.result g.source ∷ Pairs is = ap (λ t. With t i is) (live_is i true g.phi (sym g.outer ∙ outer)) ∙ ap (λ l. l ++ Pairs is) (given_is i g) in
          let takes : value_at s c.top g.source.0 ≡ Some v = ap (λ (o : Option ℕ). elim o as (λ o. Option ValueTree) [ None ↦ None | Some n ↦ value_at s c.top n ]) (sym g.from) ∙ has in
          inr (subst (IsPaired m constants (value_of c) i v (ArePairs m constants (value_of c) is ws)) (sym text) (refl, source_has g.source.0 v takes, later))

  -- The pairs of the edge from a block are those of the phis of the block to which it leads.
  pub pairs_are : (block : Block) (vs : List ValueTree) → phis block ≡ filter is_phi block.insts → ((i : Inst) → IsOf i (phis block) → IsGiven m form f b label i) → each_one (phi_value s c.top label) (phis block) ≡ Some vs
      → ArePairs m constants (value_of c) (phis block) vs (pairs_into gs form f b block)
  pairs_are block vs first all e = subst (ArePairs m constants (value_of c) (phis block) vs) (sym (live_pairs gs form f b block.insts ∙ ap Pairs (sym first))) (pairs_are_in (phis block) vs all e)
