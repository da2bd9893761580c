-- A phi takes one source from a block: where it has one from there, and no label stands in it twice (T22).
use Rattle.std.proofs.Common.{◌≡◌, ◌⊎◌, ◌≤◌, ◌+◌, ◌==◌, ◌%◌, ℕ, suc, Bool, true, false, List, [], ◌∷◌, length, map, filter, nat_le, Option, Some, inl, inr, refl, sym, ap, ◌∙◌, if◌then◌else◌, arith}
use Rattle.std.specs.Prelude.{count_by, slice_get}
use Rattle.std.specs.List.{enumerate_from}
use Rattle.std.proofs.lemmas.Bool.Decides.{eqb_tells, nat_tests}
use Rattle.std.proofs.lemmas.List.Sums.{sum_by-cons}
use Rattle.spv_module.specs.declared.inst.Block.{Block}
use Rattle.spv_module.specs.declared.inst.Function.{Function}
use Rattle.spv_index.specs.Locals.{block_in}
use Rattle.profile_rules.specs.FlowRules.{every_second, has_repeat}
use Rattle.phi_copies.proofs.Reading.{as_number}
use Rattle.function_plan.specs.Phis.{values_in, comes_from}
use Rattle.module_semantics.specs.Steps.{source_from}
use Rattle.list_law.proofs.Numbers.{odd_on, even_again}
use Rattle.claim_law.specs.Claimed.{IsIn}
use Rattle.grammar_law.proofs.Unit.Lists.{none_passes}
use Rattle.function_law.proofs.PhiSources.{comes_is}

-- the labels of pairs
abbrev labels : List (ℕ × ℕ) → List ℕ
labels vs = map (λ (v : ℕ × ℕ). v.1) vs

abbrev seconds : ℕ → List ℕ → List ℕ
seconds n ws = map (λ (o : ℕ × ℕ). o.1) (filter (λ (o : ℕ × ℕ). o.0 % 2 == 1) (enumerate_from n ws))

even_no : (n : ℕ) → (n % 2 == 0) ≡ true → (n % 2 == 1) ≡ false
even_no n e = grind (arith, nat_tests, e)

labels_are : (n : ℕ) (ws : List ℕ) → (n % 2 == 0) ≡ true → seconds n ws ≡ labels (values_in ws)
labels_are n [] e = refl
labels_are n (a ∷ []) e = rw (even_no n e) refl
labels_are n (a ∷ b ∷ ws) e = pair n a b ws e ∙ ap (λ l. b ∷ l) (labels_are (n + 1 + 1) ws (even_again n e))
  where
    pair : (n a b : ℕ) (ws : List ℕ) → (n % 2 == 0) ≡ true → seconds n (a ∷ b ∷ ws) ≡ b ∷ seconds (n + 1 + 1) ws
    pair n a b ws e = rw (even_no n e, odd_on n e) refl

abbrev has_label : ℕ → ℕ × ℕ → Bool
has_label label v = v.1 == label

label_in : (label id : ℕ) (args : List ℕ) → source_from label args ≡ Some id → IsIn label (labels (values_in args))
label_in label id [] e = cc
label_in label id (v ∷ []) e = cc
label_in label id (v ∷ l ∷ rest) e = by_test (eqb_tells l label) e (label_in label id rest)
  where
    by_test : (((l == label) ≡ true) × (l ≡ label)) ⊎ (((l == label) ≡ false) × (l ≡ label → ⊥)) → source_from label (v ∷ l ∷ rest) ≡ Some id → (source_from label rest ≡ Some id → IsIn label (labels (values_in rest))) → IsIn label (l ∷ labels (values_in rest))
    by_test (inl w) e later = inl w.1
    by_test (inr w) e later = inr (later (sym (ap (λ (t : Bool). elim t as (λ t. Option ℕ) [ true ↦ Some v | false ↦ source_from label rest ]) w.0) ∙ e))

-- as many pairs have a label as it stands among the labels
many_pairs : (label : ℕ) (vs : List (ℕ × ℕ)) → count_by (λ (x : ℕ). x == label) (labels vs) ≡ length (filter (has_label label) vs)
many_pairs label [] = refl
many_pairs label (v ∷ vs) = by_test (v.1 == label) refl (many_pairs label vs)
  where
    by_test : (t : Bool) → (v.1 == label) ≡ t → count_by (λ (x : ℕ). x == label) (labels vs) ≡ length (filter (has_label label) vs) → count_by (λ (x : ℕ). x == label) (v.1 ∷ labels vs) ≡ length (if t then v ∷ filter (has_label label) vs else filter (has_label label) vs)
    by_test true on later = (let first : as_number (v.1 == label) ≡ 1 = ap as_number on in omega (arith, sum_by-cons (λ (x : ℕ). as_number (x == label)) v.1 (labels vs), first, later))
    by_test false off later = (let first : as_number (v.1 == label) ≡ 0 = ap as_number off in omega (arith, sum_by-cons (λ (x : ℕ). as_number (x == label)) v.1 (labels vs), first, later))

first_has : (label id : ℕ) (args : List ℕ) → source_from label args ≡ Some id → (more : List (ℕ × ℕ)) × (filter (has_label label) (values_in args) ≡ (id, label) ∷ more)
first_has label id [] e = cc
first_has label id (v ∷ []) e = cc
first_has label id (v ∷ l ∷ rest) e = by_test (eqb_tells l label) e (first_has label id rest)
  where
    kept : List (ℕ × ℕ)
    kept = filter (has_label label) (values_in rest)

    is_id : (x : Bool) → x ≡ true → elim x as (λ t. Option ℕ) [ true ↦ Some v | false ↦ source_from label rest ] ≡ Some id → v ≡ id
    is_id true on e = cc
    is_id false on e = cc

    by_test : (((l == label) ≡ true) × (l ≡ label)) ⊎ (((l == label) ≡ false) × (l ≡ label → ⊥)) → source_from label (v ∷ l ∷ rest) ≡ Some id → (source_from label rest ≡ Some id → (more : List (ℕ × ℕ)) × (kept ≡ (id, label) ∷ more)) → (more : List (ℕ × ℕ)) × (filter (has_label label) ((v, l) ∷ values_in rest) ≡ (id, label) ∷ more)
    by_test (inl w) e later = (kept, ap (λ (t : Bool). if t then (v, l) ∷ kept else kept) w.0 ∙ (ap (λ (n : ℕ). (n, l) ∷ kept) (is_id (l == label) w.0 e) ∙ ap (λ (n : ℕ). (id, n) ∷ kept) w.1))
    by_test (inr w) e later =
        let r = later (sym (ap (λ (t : Bool). elim t as (λ t. Option ℕ) [ true ↦ Some v | false ↦ source_from label rest ]) w.0) ∙ e) in
        (r.0, ap (λ (t : Bool). if t then (v, l) ∷ kept else kept) w.0 ∙ r.1)

no_more : (label id : ℕ) (xs more : List (ℕ × ℕ)) → xs ≡ (id, label) ∷ more → length xs ≤ 1 → more ≡ []
no_more label id xs [] is few = refl
no_more label id xs (m ∷ more) is few = let many : length xs ≡ suc (suc (length more)) = ap length is in absurd (omega (arith, many, few))

below_two : (n : ℕ) → nat_le 2 n ≡ false → n ≤ 1
below_two n e = grind (arith, nat_tests, e)

module _ (f : Function) (b : ℕ) (from : Block) (there : slice_get f.blocks b ≡ Some from) (place : block_in f from.label.0 ≡ Some b) where
  same_kept : (vs : List (ℕ × ℕ)) → filter (comes_from f b) vs ≡ filter (has_label from.label.0) vs
  same_kept [] = refl
  same_kept (v ∷ vs) = ap (λ (t : Bool). if t then v ∷ filter (comes_from f b) vs else filter (comes_from f b) vs) (comes_is f b from there place v.0 v.1) ∙ ap (λ (l : List (ℕ × ℕ)). if v.1 == from.label.0 then v ∷ l else l) (same_kept vs)

  pub one_source : (args : List ℕ) (id : ℕ) → has_repeat (every_second 1 args) ≡ false → source_from from.label.0 args ≡ Some id → filter (comes_from f b) (values_in args) ≡ (id, from.label.0) ∷ []
  one_source args id off has =
      let label : ℕ = from.label.0 in
      let all : every_second 1 args ≡ labels (values_in args) = labels_are 0 args refl in
      let none : has_repeat (labels (values_in args)) ≡ false = ap has_repeat (sym all) ∙ off in
      let few = below_two (count_by (λ (x : ℕ). x == label) (labels (values_in args))) (none_passes (λ w. nat_le 2 (count_by (λ x. x == w) (labels (values_in args)))) (labels (values_in args)) label (label_in label id args has) none) in
      let first = first_has label id args has in
      let many = many_pairs label (values_in args) in
      same_kept (values_in args) ∙ (first.1 ∙ ap (λ l. (id, label) ∷ l) (no_more label id (filter (has_label label) (values_in args)) first.0 first.1 (let le : length (filter (has_label label) (values_in args)) ≤ 1 = omega (arith, few, many) in le)))
