-- A function has at most as many spares as its live phis have values: an edge has at most as many as the phis have values for it.
use Rattle.std.proofs.Common.{◌≡◌, ◌≤◌, ◌+◌, ◌==◌, ◌&&◌, ℕ, Bool, true, false, List, [], ◌∷◌, ◌++◌, length, filter, Option, Some, None, inl, inr, refl, sym, ap, ◌∙◌, subst, arith, if◌then◌else◌}
use Rattle.std.specs.Prelude.{flat_map, slice_get}
use Rattle.std.specs.Option.{option_map_or}
use Rattle.std.specs.List.{enumerate_from, range_with_len}
use Rattle.std.proofs.lemmas.List.{length-append, length-map}
use Rattle.std.proofs.lemmas.Bool.Decides.{eqb_tells}
use Rattle.std.proofs.lemmas.Option.{same_Some}
use Rattle.spv_module.specs.declared.inst.Inst.{Inst}
use Rattle.spv_module.specs.declared.inst.Block.{Block}
use Rattle.spv_module.specs.declared.inst.Function.{Function}
use Rattle.spv_index.specs.Locals.{block_in}
use Rattle.structure_recover.proofs.Counting.{kid_sum, one}
use Rattle.region_law.specs.Leads.{In, AreApart}
use Rattle.structure_rules.specs.declared.graph.Exit.{Exit as Terminator}
use Rattle.structure_rules.specs.declared.graph.Exit.TheVariants as terminator
use Rattle.structure_rules.specs.declared.graph.Node.{Node}
use Rattle.structure_rules.specs.Graph.{graph, nth, leads_to, is_conditional}
use Rattle.block_graph.proofs.Within.{graph_sized}
use Rattle.nest_place.specs.Nests.{IsSound}
use Rattle.nest_place.proofs.Outward.{reached_inside}
use Rattle.structure_recover.specs.Follows.{target, switch_targets}
use Rattle.structure_recover.proofs.Shape.{FitsExit, graph_shaped}
use Rattle.structure_rules.specs.Structure.{is_pair_of_same}
use Rattle.structure_recover.proofs.Onward.{target_leads}
use Rattle.structure_recover.proofs.Rounds.{not_true}
use Rattle.tree_law.proofs.SwitchOrder.{in_range, range_apart}
use Rattle.phi_copies.specs.declared.moves.Move.{Move}
use Rattle.phi_copies.specs.declared.moves.Move.TheVariants.{Set, Save, Restore}
use Rattle.phi_copies.specs.Sequence.{IsSequence, is_save, saves}
use Rattle.phi_copies.proofs.Reading.{as_number, saves_cons}
use Rattle.grammar_law.proofs.Grammar.Moving.{edge_saves}
use Rattle.name_alloc.specs.declared.claims.Key.{Key}
use Rattle.function_text.specs.Functions.{FunctionPlan, written}
use Rattle.grammar_law.proofs.Unit.Lists.{of_numbered_first}
use Rattle.claim_law.specs.Claimed.{IsIn}
use Rattle.text_law.specs.Variables.{phi_pairs}
use Rattle.text_law.proofs.Variables.Plans.{spare_of_move, edge_spares, to_spares, exit_spares, block_spares, spares}
use Rattle.hoist_plan.specs.declared.form.Form.{Form}
use Rattle.function_plan.specs.Phis.{firsts, is_live_phi, values_in, is_block, comes_from, pair_with, given_by, pairs_into, pairs}
use Rattle.text_law.proofs.Variables.Sums.{sum_same, sum_both, sum_none}
use Rattle.text_law.proofs.Variables.Falls.{swapped, sum_filtered}

-- sums of what is at most as much
pub sum_less : (v w : ℕ → ℕ) (ts : List ℕ) → ((t : ℕ) → In t ts → v t ≤ w t) → kid_sum v ts ≤ kid_sum w ts
sum_less v w [] less = omega arith
sum_less v w (t ∷ ts) less = let a = less t (inl refl) in let b = sum_less v w ts (λ u i. less u (inr i)) in omega (arith, a, b)

-- at most one block is the one that is found
one_block : (o : Option ℕ) (bs : List ℕ) → AreApart bs → kid_sum (λ b. one (is_block b o)) bs ≤ 1
one_block None bs apart = let none = sum_none (λ b. 0) bs (λ b i. refl) in omega (arith, none)
one_block (Some c) bs apart = by_list bs apart
  where
    other : (ts : List ℕ) → (In c ts → ⊥) → kid_sum (λ b. one (c == b)) ts ≡ 0
    other ts off = sum_none (λ b. one (c == b)) ts (λ b i. elim (eqb_tells c b) [ inl w ↦ absurd (off (subst (λ (x : ℕ). In x ts) (sym w.1) i)) | inr w ↦ ap one w.0 ])

    by_list : (ts : List ℕ) → AreApart ts → kid_sum (λ b. one (c == b)) ts ≤ 1
    by_list [] apart = omega arith
    by_list (t ∷ ts) apart = elim (eqb_tells c t) [
      | inl w ↦ (let a : one (c == t) ≡ 1 = ap one w.0 in let b = other ts (λ i. apart.0 (subst (λ (x : ℕ). In x ts) w.1 i)) in omega (arith, a, b))
      | inr w ↦ (let a : one (c == t) ≡ 0 = ap one w.0 in let b = by_list ts apart.1 in omega (arith, a, b))
    ]

module _ (gs : List Inst) (form : ℕ → Form) (f : Function) (bs : List ℕ) (apart : AreApart bs) where
  -- the values that come from a block, of all
  from_blocks : (vs : List (ℕ × ℕ)) → kid_sum (λ b. length (filter (comes_from f b) vs)) bs ≤ length vs
  from_blocks [] = let none = sum_none (λ b. 0) bs (λ b i. refl) in omega (arith, none)
  from_blocks (v ∷ vs) =
      let a = sum_same (λ b. length (filter (comes_from f b) (v ∷ vs))) (λ b. one (comes_from f b v) + length (filter (comes_from f b) vs)) bs (λ b i. by_test b (comes_from f b v)) in
      let c = sum_both (λ b. one (comes_from f b v)) (λ b. length (filter (comes_from f b) vs)) bs in
      let d = one_block (block_in f v.1) bs apart in
      let e = from_blocks vs in
      omega (arith, a, c, d, e)
    where
      by_test : (b : ℕ) (q : Bool) → length (if q then v ∷ filter (comes_from f b) vs else filter (comes_from f b) vs) ≡ one q + length (filter (comes_from f b) vs)
      by_test b true = omega arith
      by_test b false = omega arith

  abbrev given : ℕ → List Inst → ℕ
  given b is = length (flat_map (given_by gs f b) (filter (is_live_phi form) is))

  abbrev values : List Inst → ℕ
  values is = length (flat_map (λ (i : Inst). values_in i.args) (filter (is_live_phi form) is))

  -- of the live phis of a block
  from_phis : (is : List Inst) → kid_sum (λ b. given b is) bs ≤ values is
  from_phis [] = let none = sum_none (λ b. 0) bs (λ b i. refl) in omega (arith, none)
  from_phis (i ∷ is) = by_phi (is_live_phi form i) (from_phis is)
    where
      by_phi : (q : Bool) → kid_sum (λ b. given b is) bs ≤ values is
          → kid_sum (λ b. length (flat_map (given_by gs f b) (if q then i ∷ filter (is_live_phi form) is else filter (is_live_phi form) is))) bs ≤ length (flat_map (λ (j : Inst). values_in j.args) (if q then i ∷ filter (is_live_phi form) is else filter (is_live_phi form) is))
      by_phi false rest = rest
      by_phi true rest =
          let a = sum_same (λ b. length (given_by gs f b i ++ flat_map (given_by gs f b) (filter (is_live_phi form) is))) (λ b. length (filter (comes_from f b) (values_in i.args)) + given b is) bs (λ b t. each b) in
          let c = sum_both (λ b. length (filter (comes_from f b) (values_in i.args))) (λ b. given b is) bs in
          let d = from_blocks (values_in i.args) in
          let e = length-append (values_in i.args) (flat_map (λ (j : Inst). values_in j.args) (filter (is_live_phi form) is)) in
          omega (arith, a, c, d, e, rest)
        where
          each : (b : ℕ) → length (given_by gs f b i ++ flat_map (given_by gs f b) (filter (is_live_phi form) is)) ≡ length (filter (comes_from f b) (values_in i.args)) + given b is
          each b =
              let x = length-append (given_by gs f b i) (flat_map (given_by gs f b) (filter (is_live_phi form) is)) in
              let y = length-map (filter (comes_from f b) (values_in i.args)) (pair_with gs i.result) in
              omega (arith, x, y)

-- of a list, at least what one, or two, of it count
one_less : (v : ℕ → ℕ) (t : ℕ) (ts : List ℕ) → In t ts → v t ≤ kid_sum v ts
one_less v t [] there = absurd there
one_less v t (u ∷ ts) (inl same) = let e : v t ≡ v u = ap v same in omega (arith, e)
one_less v t (u ∷ ts) (inr there) = let e = one_less v t ts there in omega (arith, e)

two_less : (v : ℕ → ℕ) (t u : ℕ) (ts : List ℕ) → In t ts → In u ts → (t ≡ u → ⊥) → v t + v u ≤ kid_sum v ts
two_less v t u [] a b apart = absurd a
two_less v t u (x ∷ ts) (inl a) (inl b) apart = absurd (apart (a ∙ sym b))
two_less v t u (x ∷ ts) (inl a) (inr b) apart = let e : v t ≡ v x = ap v a in let d = one_less v u ts b in omega (arith, e, d)
two_less v t u (x ∷ ts) (inr a) (inl b) apart = let e : v u ≡ v x = ap v b in let d = one_less v t ts a in omega (arith, e, d)
two_less v t u (x ∷ ts) (inr a) (inr b) apart = let d = two_less v t u ts a b apart in omega (arith, d)

length_flat : (h : ℕ → List Key) (ts : List ℕ) → length (flat_map h ts) ≡ kid_sum (λ t. length (h t)) ts
length_flat h [] = refl
length_flat h (t ∷ ts) = let a = length-append (h t) (flat_map h ts) in let b = length_flat h ts in omega (arith, a, b)

module _ (form : ℕ → Form) where
  abbrev values_of : List Inst → ℕ
  values_of is = length (flat_map (λ (i : Inst). values_in i.args) (filter (is_live_phi form) is))

  values_both : (a b : List Inst) → values_of (a ++ b) ≡ values_of a + values_of b
  values_both [] b = omega arith
  values_both (i ∷ a) b = by_test (is_live_phi form i) (values_both a b)
    where
      by_test : (q : Bool) → values_of (a ++ b) ≡ values_of a + values_of b
          → length (flat_map (λ (j : Inst). values_in j.args) (if q then i ∷ filter (is_live_phi form) (a ++ b) else filter (is_live_phi form) (a ++ b))) ≡ length (flat_map (λ (j : Inst). values_in j.args) (if q then i ∷ filter (is_live_phi form) a else filter (is_live_phi form) a)) + values_of b
      by_test false e = e
      by_test true e =
          let x = length-append (values_in i.args) (flat_map (λ (j : Inst). values_in j.args) (filter (is_live_phi form) (a ++ b))) in
          let y = length-append (values_in i.args) (flat_map (λ (j : Inst). values_in j.args) (filter (is_live_phi form) a)) in
          omega (arith, e, x, y)

  -- of blocks with their numbers
  values_all : (v : ℕ → ℕ) (bs : List Block) (from : ℕ) → ((b : ℕ × Block) → IsIn b (enumerate_from from bs) → values_of b.1.insts ≡ v b.0) → values_of (flat_map (λ (b : Block). b.insts) bs) ≡ kid_sum v (range_with_len from (length bs))
  values_all v [] from each = refl
  values_all v (b ∷ bs) from each =
      let a = values_both b.insts (flat_map (λ (c : Block). c.insts) bs) in
      let c : values_of b.insts ≡ v from = each (from, b) (inl refl) in
      let d = values_all v bs (from + 1) (λ q i. each q (inr i)) in
      omega (arith, a, c, d)

module _ (gs : List Inst) (p : FunctionPlan) (sound : IsSound (graph (written p))) (moves_are : (b t : ℕ) → IsSequence (firsts (pairs gs p.scope.form (written p) b t)) (p.moves b t)) where
  abbrev f : Function
  f = written p

  abbrev g : List Node
  g = graph f

  abbrev all : List ℕ
  all = range_with_len 0 (length g)

  abbrev many : ℕ → ℕ → ℕ
  many b t = length (pairs gs p.scope.form f b t)

  moves_length : (b t : ℕ) (ms : List Move) → length (flat_map (spare_of_move p b t) ms) ≡ saves ms
  moves_length b t [] = refl
  moves_length b t (Set v s ∷ ms) = let c = saves_cons (Set v s) ms in let d = moves_length b t ms in let n : as_number (is_save (Set v s)) ≡ 0 = refl in omega (arith, c, d, n)
  moves_length b t (Restore v k ∷ ms) = let c = saves_cons (Restore v k) ms in let d = moves_length b t ms in let n : as_number (is_save (Restore v k)) ≡ 0 = refl in omega (arith, c, d, n)
  moves_length b t (Save k v ∷ ms) = let c = saves_cons (Save k v) ms in let d = moves_length b t ms in let n : as_number (is_save (Save k v)) ≡ 1 = refl in omega (arith, c, d, n)

  edge_few : (b t : ℕ) → length (edge_spares p b t) ≤ many b t
  edge_few b t = let a = moves_length b t (p.moves b t) in let c = edge_saves (pairs gs p.scope.form f b t) (p.moves b t) (moves_are b t) in omega (arith, a, c)

  pub in_all : (b k t : ℕ) → (nth g b).reached ≡ true → target g b k ≡ Some t → In t all
  in_all b k t here at = let less = reached_inside g t (sound.reached b t here (target_leads (nth g b) k t at)) in in_range 0 (length g) t (omega arith) (omega (arith, less))

  to_few : (b k : ℕ) → (nth g b).reached ≡ true → length (to_spares p b (target g b k)) ≤ kid_sum (many b) all
  to_few b k here = by_target (target g b k) refl
    where
      by_target : (o : Option ℕ) → target g b k ≡ o → length (to_spares p b o) ≤ kid_sum (many b) all
      by_target None at = omega arith
      by_target (Some t) at = let a = edge_few b t in let c = one_less (many b) t all (in_all b k t here at) in omega (arith, a, c)

  -- the targets of a conditional differ
  pub differ : (b t u : ℕ) → (nth g b).reached ≡ true → is_conditional (nth g b).exit ≡ true → target g b 0 ≡ Some t → target g b 1 ≡ Some u → t ≡ u → ⊥
  differ b t u here con first second same = by_targets (nth g b).targets (by_exit (nth g b).exit con ((graph_shaped f).fits b)) off first second
    where
      off : is_pair_of_same (nth g b).targets ≡ false
      off = not_true (is_pair_of_same (nth g b).targets) (λ e. sound.fine.1.1.1.1.1.0 (nth g b).exit_at (b, reached_inside g b here, here, (ap (λ q. q && is_pair_of_same (nth g b).targets) con ∙ e, refl)))

      by_exit : (e : Terminator) → is_conditional e ≡ true → FitsExit e (length (nth g b).targets) → length (nth g b).targets ≤ 2
      by_exit terminator.Branch con fit = cc
      by_exit terminator.Conditional con fit = fit
      by_exit terminator.Switch con fit = cc
      by_exit terminator.Leave con fit = cc

      by_targets : (ts : List ℕ) → length ts ≤ 2 → is_pair_of_same ts ≡ false → slice_get ts 0 ≡ Some t → slice_get ts 1 ≡ Some u → ⊥
      by_targets [] few apart a c = cc
      by_targets (x ∷ []) few apart a c = cc
      by_targets (x ∷ y ∷ z ∷ zs) few apart a c = absurd (omega (arith, few))
      by_targets (x ∷ y ∷ []) few apart a c = elim (eqb_tells x y) [
        | inl w ↦ (let never : true ≡ false = sym w.0 ∙ apart in cc)
        | inr w ↦ w.1 (same_Some x t a ∙ (same ∙ sym (same_Some y u c)))
      ]

  both_few : (b : ℕ) → (nth g b).reached ≡ true → is_conditional (nth g b).exit ≡ true → length (to_spares p b (target g b 0) ++ to_spares p b (target g b 1)) ≤ kid_sum (many b) all
  both_few b here con =
      let a = length-append (to_spares p b (target g b 0)) (to_spares p b (target g b 1)) in
      let c = by_targets (target g b 0) (target g b 1) refl refl in
      omega (arith, a, c)
    where
      by_targets : (o q : Option ℕ) → target g b 0 ≡ o → target g b 1 ≡ q → length (to_spares p b o) + length (to_spares p b q) ≤ kid_sum (many b) all
      by_targets None None x y = omega arith
      by_targets (Some t) None x y = let a = edge_few b t in let c = one_less (many b) t all (in_all b 0 t here x) in omega (arith, a, c)
      by_targets None (Some u) x y = let a = edge_few b u in let c = one_less (many b) u all (in_all b 1 u here y) in omega (arith, a, c)
      by_targets (Some t) (Some u) x y =
          let a = edge_few b t in
          let e = edge_few b u in
          let c = two_less (many b) t u all (in_all b 0 t here x) (in_all b 1 u here y) (differ b t u here con x y) in
          omega (arith, a, e, c)

  switch_few : (b : ℕ) → length (flat_map (edge_spares p b) (switch_targets g b)) ≤ kid_sum (many b) all
  switch_few b =
      let a = length_flat (edge_spares p b) (switch_targets g b) in
      let c = sum_less (λ t. length (edge_spares p b t)) (many b) (switch_targets g b) (λ t i. edge_few b t) in
      let d = sum_filtered (many b) (λ t. leads_to t (nth g b)) all in
      let e = sum_less (λ t. if leads_to t (nth g b) then many b t else 0) (many b) all (λ t i. by_test t (leads_to t (nth g b))) in
      omega (arith, a, c, d, e)
    where
      by_test : (t : ℕ) (q : Bool) → (if q then many b t else 0) ≤ many b t
      by_test t true = omega arith
      by_test t false = omega arith

  block_few : (b : ℕ) → length (block_spares p b) ≤ kid_sum (many b) all
  block_few b = by_reached (nth g b).reached refl
    where
      by_exit : (e : Terminator) → (nth g b).exit ≡ e → (nth g b).reached ≡ true → length (exit_spares p b e) ≤ kid_sum (many b) all
      by_exit terminator.Branch at here = to_few b 0 here
      by_exit terminator.Conditional at here = both_few b here (ap is_conditional at)
      by_exit terminator.Switch at here = switch_few b
      by_exit terminator.Leave at here = omega arith

      by_reached : (q : Bool) → (nth g b).reached ≡ q → length (if q then exit_spares p b (nth g b).exit else []) ≤ kid_sum (many b) all
      by_reached true here = by_exit (nth g b).exit refl here
      by_reached false here = omega arith

  abbrev values_at : ℕ → ℕ
  values_at t = option_map_or (λ (c : Block). values_of p.scope.form c.insts) (slice_get f.blocks t) 0

  target_few : (t : ℕ) → kid_sum (λ b. many b t) all ≤ values_at t
  target_few t = by_block (slice_get f.blocks t)
    where
      by_block : (o : Option Block) → kid_sum (λ b. length (option_map_or (pairs_into gs p.scope.form f b) o [])) all ≤ option_map_or (λ (c : Block). values_of p.scope.form c.insts) o 0
      by_block None = let none = sum_none (λ b. 0) all (λ b i. refl) in omega (arith, none)
      by_block (Some c) = from_phis gs p.scope.form f all (range_apart 0 (length g)) c.insts

  pub few_spares : length (spares p) ≤ length (phi_pairs gs f p.scope.form p.scope.carried)
  few_spares =
      let a = length_flat (block_spares p) all in
      let b = sum_less (λ b. length (block_spares p b)) (λ b. kid_sum (many b) all) all (λ b i. block_few b) in
      let c = swapped many all all in
      let d = sum_less (λ t. kid_sum (λ b. many b t) all) values_at all (λ t i. target_few t) in
      let e = values_all p.scope.form values_at f.blocks 0 (λ b there. sym (ap (λ (o : Option Block). option_map_or (λ (q : Block). values_of p.scope.form q.insts) o 0) (of_numbered_first f.blocks b.0 b.1 there))) in
      let size : kid_sum values_at (range_with_len 0 (length f.blocks)) ≡ kid_sum values_at all = ap (λ (n : ℕ). kid_sum values_at (range_with_len 0 n)) (sym (graph_sized f)) in
      omega (arith, a, b, c, d, e, size)
