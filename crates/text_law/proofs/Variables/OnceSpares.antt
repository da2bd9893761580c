-- Keys of the spares of a planned function are apart: of an edge by their numbers, and of edges by the labels of their blocks.
use Rattle.std.proofs.Common.{◌≡◌, ◌<◌, ◌≤◌, ◌+◌, ℕ, Bool, true, false, List, [], ◌∷◌, ◌++◌, reverse, filter, length, Option, Some, None, append-nil, append_assoc, inl, inr, refl, sym, ap, ◌∙◌, subst, arith, if◌then◌else◌}
use Rattle.std.specs.Prelude.{◌⊎◌, flat_map}
use Rattle.std.specs.List.{range_with_len}
use Rattle.std.proofs.lemmas.List.{reverse-append}
use Rattle.spv_module.specs.declared.inst.Inst.{Inst}
use Rattle.spv_module.specs.declared.inst.Function.{Function}
use Rattle.structure_rules.specs.declared.graph.Exit.{Exit as Terminator}
use Rattle.structure_rules.specs.declared.graph.Exit.TheVariants as terminator
use Rattle.structure_rules.specs.declared.graph.Node.{Node}
use Rattle.structure_rules.specs.Graph.{graph, nth, leads_to, is_conditional, is_switch}
use Rattle.block_graph.proofs.Within.{graph_sized}
use Rattle.structure_recover.specs.Follows.{target, switch_targets}
use Rattle.phi_copies.specs.declared.moves.Move.{Move}
use Rattle.phi_copies.specs.declared.moves.Move.TheVariants.{Set, Save, Restore}
use Rattle.phi_copies.specs.Sequence.{Pair, is_proper, is_save, saves, IsCopyNext, IsSaveNext, AreNext, IsSequence}
use Rattle.phi_copies.proofs.Reading.{as_number, saves_cons}
use Rattle.function_plan.specs.Phis.{pairs, firsts}
use Rattle.name_alloc.specs.declared.claims.Key.{Key}
use Rattle.name_alloc.specs.declared.claims.Key.TheVariants.{Spare}
use Rattle.text_rules.specs.Claims.{label}
use Rattle.function_text.specs.Functions.{FunctionPlan, written}
use Rattle.region_law.specs.Leads.{In, AreApart as AreApartNumbers}
use Rattle.claim_law.specs.Claimed.{IsIn}
use Rattle.grammar_law.proofs.Unit.Lists.{of_filter, of_flat}
use Rattle.grammar_law.proofs.Grammar.Moving.{save_number}
use Rattle.tree_law.proofs.SwitchOrder.{range_apart}
use Rattle.text_law.proofs.Variables.Plans.{IsKnown, spare_of_move, edge_spares, to_spares, exit_spares, block_spares, spares}
use Rattle.text_law.proofs.Variables.Named.{AllKeys, all_both, all_flat, in_all, as_in}
use Rattle.text_law.proofs.Variables.Few.{in_all as leads_in, differ}
use Rattle.text_law.proofs.Variables.Apart.{KeysApart, keys_joined}

-- the parts of the key of a spare
abbrev from_of : Key → ℕ
from_of (Spare a b k) = a.0
from_of _ = 0

abbrev to_of : Key → ℕ
to_of (Spare a b k) = b.0
to_of _ = 0

abbrev count_of : Key → ℕ
count_of (Spare a b k) = k
count_of _ = 0

-- what numbers give is apart where a mark tells the number
flat_apart : (h : ℕ → List Key) (mark : Key → ℕ) (tag : ℕ → ℕ) (ts : List ℕ) → AreApartNumbers ts → ((t : ℕ) → In t ts → KeysApart (h t)) → ((t : ℕ) → In t ts → AllKeys (λ k. mark k ≡ tag t) (h t)) → ((t u : ℕ) → In t ts → In u ts → tag t ≡ tag u → t ≡ u) → KeysApart (flat_map h ts)
flat_apart h mark tag [] apart each marked own = tt
flat_apart h mark tag (t ∷ ts) apart each marked own =
    keys_joined (h t) (flat_map h ts) (each t (inl refl)) (flat_apart h mark tag ts apart.1 (λ u i. each u (inr i)) (λ u i. marked u (inr i)) (λ a b x y. own a b (inr x) (inr y))) (λ k l r.
    let j = of_flat h ts k r in
    let j_in = as_in ts j.0 j.1 in
    apart.0 (subst (λ (n : ℕ). In n ts) (own j.0 t (inr j_in) (inl refl) (sym (marked j.0 (inr j_in) k j.2) ∙ marked t (inl refl) k l)) j_in))

-- the last moves of a history
next_part : (ps : List Pair) (xs ys : List Move) → AreNext ps (xs ++ ys) → AreNext ps ys
next_part ps [] ys next = next
next_part ps (x ∷ xs) ys next = next_part ps xs ys next.1

module _ (p : FunctionPlan) (b t : ℕ) (ps : List Pair) where
  abbrev of_moves : List Move → List Key
  of_moves ms = flat_map (spare_of_move p b t) ms

  -- behind a history: their numbers are not below the spares that it has
  moves_apart : (ms h : List Move) → AreNext ps (reverse ms ++ h) → AllKeys (λ k. saves h ≤ count_of k) (of_moves ms) × KeysApart (of_moves ms)
  moves_apart [] h next = ((λ k none. absurd none), tt)
  moves_apart (x ∷ ms) h next = by_move x (next_part ps (reverse ms) (x ∷ h) moved).0 (saves_cons x h) (moves_apart ms (x ∷ h) moved)
    where
      moved : AreNext ps (reverse ms ++ (x ∷ h))
      moved = subst (AreNext ps) (ap (λ (l : List Move). l ++ h) (reverse-append (x ∷ []) ms) ∙ append_assoc (reverse ms) (x ∷ []) h) next

      by_move : (y : Move) → IsCopyNext ps h y ⊎ IsSaveNext ps h y → saves (y ∷ h) ≡ as_number (is_save y) + saves h → AllKeys (λ k. saves (y ∷ h) ≤ count_of k) (of_moves ms) × KeysApart (of_moves ms) → AllKeys (λ k. saves h ≤ count_of k) (of_moves (y ∷ ms)) × KeysApart (of_moves (y ∷ ms))
      by_move (Set v s) way more rest = ((λ k there. let low = rest.0 k there in let none : as_number (is_save (Set v s)) ≡ 0 = refl in omega (arith, low, more, none)), rest.1)
      by_move (Restore v n) way more rest = ((λ k there. let low = rest.0 k there in let none : as_number (is_save (Restore v n)) ≡ 0 = refl in omega (arith, low, more, none)), rest.1)
      by_move (Save n v) way more rest =
          let one : as_number (is_save (Save n v)) ≡ 1 = refl in
          let number = (save_number ps h n v way).0 in (
            (λ k there. elim there [
              | inl same ↦ (let its : n ≡ count_of k = ap count_of same in omega (arith, its, number))
              | inr later ↦ (let low = rest.0 k later in omega (arith, low, more, one))
            ]),
            ((λ there. let low = rest.0 _ there in absurd (omega (arith, low, more, one, number))), rest.1),
          )

module _ (p : FunctionPlan) (known : IsKnown p) (gs : List Inst) (moves_are : (b t : ℕ) → IsSequence (firsts (pairs gs p.scope.form (written p) b t)) (p.moves b t))
    (labels : (a b : ℕ) → a < length (written p).blocks → b < length (written p).blocks → label (written p) a ≡ label (written p) b → a ≡ b) where
  abbrev f : Function
  f = written p

  abbrev g : List Node
  g = graph f

  abbrev all : List ℕ
  all = range_with_len 0 (length g)

  pub own_label : (a b : ℕ) → In a all → In b all → label f a ≡ label f b → a ≡ b
  own_label a b x y same =
      let size = graph_sized f in
      let less = in_all (length g) 0 a x in
      let low = in_all (length g) 0 b y in
      labels a b (omega (arith, less, size)) (omega (arith, low, size)) same

  -- of an edge
  edge_apart : (b t : ℕ) → KeysApart (edge_spares p b t)
  edge_apart b t =
      let ps : List Pair = filter is_proper (firsts (pairs gs p.scope.form f b t)) in
      (moves_apart p b t ps (p.moves b t) [] (subst (AreNext ps) (sym (append-nil (reverse (p.moves b t)))) (moves_are b t).next)).1

  abbrev OfEdge : ℕ → ℕ → Key → Type 0
  OfEdge b t k = (from_of k ≡ label f b) × (to_of k ≡ label f t)

  edge_marked : (b t : ℕ) → AllKeys (OfEdge b t) (edge_spares p b t)
  edge_marked b t = all_flat (OfEdge b t) (spare_of_move p b t) (p.moves b t) (λ x i. by_move x)
    where
      by_move : (x : Move) → AllKeys (OfEdge b t) (spare_of_move p b t x)
      by_move (Set v s) = λ k none. absurd none
      by_move (Restore v n) = λ k none. absurd none
      by_move (Save n v) = λ k there. elim there [ inl same ↦ (sym (ap from_of same), sym (ap to_of same)) | inr none ↦ absurd none ]

  -- of the edges that leave a block
  abbrev FromBlock : ℕ → Key → Type 0
  FromBlock b k = from_of k ≡ label f b

  to_marked : (b : ℕ) (o : Option ℕ) → AllKeys (FromBlock b) (to_spares p b o)
  to_marked b None = λ k none. absurd none
  to_marked b (Some t) = λ k there. (edge_marked b t k there).0

  exit_marked : (b : ℕ) (e : Terminator) → AllKeys (FromBlock b) (exit_spares p b e)
  exit_marked b terminator.Branch = to_marked b (target g b 0)
  exit_marked b terminator.Conditional = all_both (FromBlock b) (to_spares p b (target g b 0)) (to_spares p b (target g b 1)) (to_marked b (target g b 0)) (to_marked b (target g b 1))
  exit_marked b terminator.Switch = all_flat (FromBlock b) (edge_spares p b) (switch_targets g b) (λ t i. λ k there. (edge_marked b t k there).0)
  exit_marked b terminator.Leave = λ k none. absurd none

  block_marked : (b : ℕ) → AllKeys (FromBlock b) (block_spares p b)
  block_marked b = by_reached (nth g b).reached
    where
      by_reached : (q : Bool) → AllKeys (FromBlock b) (if q then exit_spares p b (nth g b).exit else [])
      by_reached true = exit_marked b (nth g b).exit
      by_reached false = λ k none. absurd none

  to_apart : (b : ℕ) (o : Option ℕ) → KeysApart (to_spares p b o)
  to_apart b None = tt
  to_apart b (Some t) = edge_apart b t

  in_range_of : (b t : ℕ) → In t (switch_targets g b) → In t all
  in_range_of b t there = as_in all t (of_filter (λ u. leads_to u (nth g b)) all t (in_list (switch_targets g b) t there)).0
    where
      in_list : (ts : List ℕ) (u : ℕ) → In u ts → IsIn u ts
      in_list [] u there = absurd there
      in_list (v ∷ ts) u (inl same) = inl (sym same)
      in_list (v ∷ ts) u (inr there) = inr (in_list ts u there)

  module _ (b : ℕ) (here : (nth g b).reached ≡ true) where
    both_apart : is_conditional (nth g b).exit ≡ true → KeysApart (to_spares p b (target g b 0) ++ to_spares p b (target g b 1))
    both_apart con = keys_joined (to_spares p b (target g b 0)) (to_spares p b (target g b 1)) (to_apart b (target g b 0)) (to_apart b (target g b 1)) (by_targets (target g b 0) (target g b 1) refl refl)
      where
        by_targets : (o q : Option ℕ) → target g b 0 ≡ o → target g b 1 ≡ q → (k : Key) → IsIn k (to_spares p b o) → IsIn k (to_spares p b q) → ⊥
        by_targets None q x y k l r = l
        by_targets (Some t) None x y k l r = r
        by_targets (Some t) (Some u) x y k l r =
            differ gs p known.sound moves_are b t u here con x y
            (own_label t u (leads_in gs p known.sound moves_are b 0 t here x) (leads_in gs p known.sound moves_are b 1 u here y) (sym (edge_marked b t k l).1 ∙ (edge_marked b u k r).1))

    exit_apart : (e : Terminator) → (nth g b).exit ≡ e → KeysApart (exit_spares p b e)
    exit_apart terminator.Branch at = to_apart b (target g b 0)
    exit_apart terminator.Conditional at = both_apart (ap is_conditional at)
    exit_apart terminator.Switch at =
        flat_apart (edge_spares p b) to_of (label f) (switch_targets g b) (known.told.order_is b here (ap is_switch at)).all_apart (λ t i. edge_apart b t) (λ t i. λ k there. (edge_marked b t k there).1)
        (λ t u x y. own_label t u (in_range_of b t x) (in_range_of b u y))
    exit_apart terminator.Leave at = tt

  -- The law: of all edges.
  pub spares_apart : KeysApart (spares p)
  spares_apart = flat_apart (block_spares p) from_of (label f) all (range_apart 0 (length g)) (λ b i. by_reached b (nth g b).reached refl) (λ b i. block_marked b) own_label
    where
      by_reached : (b : ℕ) (q : Bool) → (nth g b).reached ≡ q → KeysApart (if q then exit_spares p b (nth g b).exit else [])
      by_reached b true here = exit_apart b here (nth g b).exit refl
      by_reached b false here = tt
