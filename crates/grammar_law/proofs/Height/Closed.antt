-- What edges lead to from a reached block is reached: as many steps as there are blocks mark all that any number of steps marks, since each step that is not the last marks one more.
use Rattle.std.proofs.Common.{◌≡◌, ◌<◌, ◌≤◌, ℕ, zero, suc, Bool, true, false, List, [], ◌∷◌, length, inl, inr, refl, sym, ◌∙◌, arith}
use Rattle.std.specs.Prelude.{◌⊎◌}
use Rattle.spv_words.specs.Breaks.{NoRuleBroken}
use Rattle.spv_module.specs.declared.inst.Function.{Function}
use Rattle.structure_rules.specs.declared.graph.Node.{Node}
use Rattle.structure_rules.specs.Graph.{nth, is_marked, leads_to, nodes, reach, reached, graph}
use Rattle.structure_rules.specs.Structure.{BrokenIn, structure_rules}
use Rattle.block_graph.specs.Within.{IsClosed}
use Rattle.block_graph.proofs.Walks.{length-reach, reach_start, reach_more, reach_edge, reach_le, reach_marked}
use Rattle.block_graph.proofs.Within.{graph_within, graph_reached}
use Rattle.nest_place.specs.Nests.{IsSound}
use Rattle.nest_place.proofs.Outward.{grounded}

abbrev IsPart : List Bool → List Bool → Type 0
IsPart xs bs = (t : ℕ) → is_marked xs t ≡ true → is_marked bs t ≡ true

marks_in : List Bool → ℕ
marks_in [] = 0
marks_in (true ∷ bs) = suc (marks_in bs)
marks_in (false ∷ bs) = marks_in bs

marks_le : (bs : List Bool) → marks_in bs ≤ length bs
unfolding marks_in
marks_le [] = omega arith
marks_le (true ∷ bs) = let rest = marks_le bs in omega (arith, rest)
marks_le (false ∷ bs) = let rest = marks_le bs in omega (arith, rest)

part_le : (xs bs : List Bool) → length xs ≡ length bs → IsPart xs bs → marks_in xs ≤ marks_in bs
unfolding marks_in
part_le [] bs e part = omega arith
part_le (a ∷ xs) [] e part = absurd (omega (arith, e))
part_le (true ∷ xs) (true ∷ bs) e part = let rest = part_le xs bs (omega (arith, e)) (λ t. part (suc t)) in omega (arith, rest)
part_le (true ∷ xs) (false ∷ bs) e part = let no : false ≡ true = part 0 refl in cc
part_le (false ∷ xs) (true ∷ bs) e part = let rest = part_le xs bs (omega (arith, e)) (λ t. part (suc t)) in omega (arith, rest)
part_le (false ∷ xs) (false ∷ bs) e part = let rest = part_le xs bs (omega (arith, e)) (λ t. part (suc t)) in omega (arith, rest)

both : (a b : Bool) (xs bs : List Bool) → (b ≡ true → a ≡ true) → IsPart bs xs → IsPart (b ∷ bs) (a ∷ xs)
both a b xs bs first rest zero e = first e
both a b xs bs first rest (suc t) e = rest t e

grows : (xs bs : List Bool) → length xs ≡ length bs → IsPart xs bs → IsPart bs xs ⊎ (marks_in xs < marks_in bs)
unfolding marks_in
grows [] [] e part = inl (λ t m. m)
grows [] (b ∷ bs) e part = absurd (omega (arith, e))
grows (a ∷ xs) [] e part = absurd (omega (arith, e))
grows (true ∷ xs) (true ∷ bs) e part =
    elim (grows xs bs (omega (arith, e)) (λ t. part (suc t))) [
      | inl same ↦ inl (both true true xs bs (λ m. m) same)
      | inr more ↦ inr (omega (arith, more))
    ]
grows (true ∷ xs) (false ∷ bs) e part = let no : false ≡ true = part 0 refl in cc
grows (false ∷ xs) (true ∷ bs) e part = let rest = part_le xs bs (omega (arith, e)) (λ t. part (suc t)) in inr (omega (arith, rest))
grows (false ∷ xs) (false ∷ bs) e part =
    elim (grows xs bs (omega (arith, e)) (λ t. part (suc t))) [
      | inl same ↦ inl (both false false xs bs (λ m. m) same)
      | inr more ↦ inr (omega (arith, more))
    ]

some_marked : (bs : List Bool) → is_marked bs 0 ≡ true → 0 < marks_in bs
unfolding marks_in
some_marked [] e = cc
some_marked (true ∷ bs) e = omega arith
some_marked (false ∷ bs) e = cc

module _ (ns : List Node) where
  -- after so many steps none marks more
  abbrev IsStill : ℕ → Type 0
  IsStill k = IsPart (reach ns (suc k)) (reach ns k)

  still : (n : ℕ) → 0 < length ns → ((k : ℕ) × (k ≤ n) × IsStill k) ⊎ (n < marks_in (reach ns n))
  still zero some = inr (some_marked (reach ns 0) (reach_start ns some))
  still (suc n) some =
      elim (still n some) [
        | inl found ↦ (let low : found.0 ≤ n = found.1 in inl (found.0, omega (arith, low), found.2))
        | inr many ↦
            elim (grows (reach ns n) (reach ns (suc n)) (length-reach ns n ∙ sym (length-reach ns (suc n))) (λ t m. reach_more ns n t m)) [
              | inl same ↦ inl (n, omega arith, same)
              | inr more ↦ inr (omega (arith, many, more))
            ]
      ]

  closed_by : (k n : ℕ) → k ≤ n → 0 < length ns → IsStill k → IsClosed ns (reach ns n)
  closed_by k n low some same p t marked edge inside =
      let next : (q u : ℕ) → is_marked (reach ns k) q ≡ true → leads_to u (nth ns q) ≡ true → u < length ns → is_marked (reach ns k) u ≡ true = λ q u m to within. same u (reach_edge ns k q u m to within) in
      let early : is_marked (reach ns k) p ≡ true = reach_marked ns (reach ns k) n (λ any. reach_le ns 0 k 0 (omega arith) (reach_start ns any)) next p marked in
      reach_le ns k n t low (next p t early edge inside)

  closed : IsClosed ns (reach ns (length ns))
  closed p t marked edge inside =
      let some : 0 < length ns = omega (arith, inside) in
      elim (still (length ns) some) [
        | inl found ↦ closed_by found.0 (length ns) found.1 some found.2 p t marked edge inside
        | inr many ↦ (let most = marks_le (reach ns (length ns)) in let size = length-reach ns (length ns) in absurd (omega (arith, many, most, size)))
      ]

pub closed_reached : (ns : List Node) → IsClosed ns (reached ns)
unfolding reached
closed_reached ns = closed ns

pub sound-of : (f : Function) → NoRuleBroken (BrokenIn (graph f)) structure_rules → IsSound (graph f)
sound-of f fine = record {
  within = graph_within f;
  reached = graph_reached f (reached (nodes f)) refl (closed_reached (nodes f));
  grounded = grounded (graph f) fine.1.1.1.1.0;
  fine = fine;
}
