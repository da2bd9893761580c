-- The items to which one leads are those of which it is the parent.
use Rattle.std.proofs.Common.{◌≡◌, ◌≢◌, ◌<◌, ◌≤◌, ◌+◌, ◌==◌, ◌&&◌, ◌||◌, ◌⊎◌, not, ℕ, zero, suc, Bool, true, false, List, [], ◌∷◌, length, if◌then◌else◌, Option, Some, None, filter, refl, ap, sym, ◌∙◌, subst, inl, inr, arith}
use Rattle.std.specs.List.{list_any, range_with_len, slice_get}
use Rattle.std.proofs.lemmas.Bool.Decides.{eqb_tells}
use Rattle.list_law.proofs.Numbers.{number_other}
use Rattle.list_law.proofs.Tests.{not_both}
use Rattle.spv_module.specs.declared.inst.Function.{Function}
use Rattle.structure_rules.specs.declared.graph.Merge.{Merge}
use Rattle.structure_rules.specs.declared.graph.Merge.TheVariants.{Absent, Selection, Loop as LoopMerge}
use Rattle.structure_rules.specs.declared.graph.Exit.{Exit as Terminator}
use Rattle.structure_rules.specs.declared.graph.Exit.TheVariants as terminator
use Rattle.structure_rules.specs.declared.graph.Node.{Node}
use Rattle.structure_rules.specs.declared.graph.Role.{Role}
use Rattle.structure_rules.specs.declared.graph.Role.TheVariants.{First, Merge as MergeOf, Continue, Case as CaseOf, Inside}
use Rattle.structure_rules.specs.Graph.{nth, named, leads_to, merge_block, merge_named, continue_target, continue_named, is_conditional, is_selection, is_value}
use Rattle.structure_rules.specs.Nesting.{role, other_than, first_of, name_links, case_links, entry_links}
use Rattle.structure_rules.specs.EdgeKinds.{is_enter, entered_from}
use Rattle.structure_rules.specs.Structure.{is_bad_merge, is_pair_of_same}
use Rattle.nest_place.specs.Nests.{IsSound}
use Rattle.nest_place.proofs.LinkLemmas.{equal_nat, same_nat, has_first}
use Rattle.nest_place.proofs.Naming.{name_from}
use Rattle.nest_place.proofs.Parenthood.{edge_if, case_from, entry_from}
use Rattle.nest_place.proofs.Outward.{reached_inside, other_first}
use Rattle.nest_place.proofs.Around.{IsLoopMerge, role_facts, continue_header_is}
use Rattle.nest_place.proofs.OneKind.{enter_view, switch_selects, value_some}
use Rattle.structure_recover.specs.declared.region.Exit.TheVariants.{Edge, Return, Lost, Closed}
use Rattle.structure_recover.specs.declared.edges.Start.TheVariants.{Block, Body}
use Rattle.structure_recover.specs.declared.edges.Next.{Next}
use Rattle.structure_recover.specs.declared.edges.Next.TheVariants.{At, Stop}
use Rattle.structure_recover.specs.Follows.{is_loop_merge, heads_loop, is_plain, target, Carries, CarriesTo, if_reached, merged, IsAfter, other_block, continue_block, switch_targets}
use Rattle.structure_recover.proofs.Shape.{FitsExit, IsShaped}
use Rattle.structure_recover.proofs.Rounds.{merge_role, continue_facts, continue_role, selection_no_loop, not_true}
use Rattle.structure_recover.proofs.Counting.{Test, one, hits, kid_sum, IsStep}

-- the tests on one item, and on the parents of a block or of the loop that it heads
abbrev pub same : Bool → ℕ → Test
same true a true b = a == b
same true a false b = false
same false a true b = false
same false a false b = a == b

abbrev pub up : List Node → Role → Test
up g First y b = false
up g (MergeOf h) y b = same (heads_loop g h) h y b
up g (Continue h) y b = same (heads_loop g h) h y b
up g (CaseOf s) y b = same false s y b
up g (Inside p) y b = same false p y b

no_and : (b : Bool) → (b && false) ≡ false
no_and true = refl
no_and false = refl

zero_if : (b : Bool) → b ≡ false → one b ≡ 0
zero_if b e = ap one e

one_if : (b : Bool) → b ≡ true → one b ≡ 1
one_if b e = ap one e

kid_none : (t : ℕ) (e : Bool) (ts : List ℕ) → e ≡ false → kid_sum (λ k. one ((k == t) && e)) ts ≡ 0
kid_none t e [] off = refl
kid_none t e (k ∷ ts) off =
    let here : one ((k == t) && e) ≡ 0 = zero_if ((k == t) && e) (ap (λ b. (k == t) && b) off ∙ no_and (k == t)) in
    let rest : kid_sum (λ k. one ((k == t) && e)) ts ≡ 0 = kid_none t e ts off in
    omega (arith, here, rest)

kid_apart : (t k : ℕ) (e : Bool) → (k ≡ t → ⊥) → one ((k == t) && e) ≡ 0
kid_apart t k e apart = ap (λ b. one (b && e)) (number_other k t apart)

kid_past : (P : ℕ → Bool) (t : ℕ) (e : Bool) (i n : ℕ) → t < i → kid_sum (λ k. one ((k == t) && e)) (filter P (range_with_len i n)) ≡ 0
kid_past P t e i zero past = refl
kid_past P t e i (suc n) past = by_test (kid_past P t e (i + 1) n (omega (arith, past))) (P i)
  where
    here : one ((i == t) && e) ≡ 0
    here = kid_apart t i e (λ same. omega (arith, past, same))

    by_test : kid_sum (λ k. one ((k == t) && e)) (filter P (range_with_len (i + 1) n)) ≡ 0 → (b : Bool) → kid_sum (λ k. one ((k == t) && e)) (if b then i ∷ filter P (range_with_len (i + 1) n) else filter P (range_with_len (i + 1) n)) ≡ 0
    by_test rest true = omega (arith, here, rest)
    by_test rest false = rest

-- a number that passes stands once in a range
kid_once : (P : ℕ → Bool) (t : ℕ) (e : Bool) (i n : ℕ) → e ≡ true → P t ≡ true → i ≤ t → t < i + n → kid_sum (λ k. one ((k == t) && e)) (filter P (range_with_len i n)) ≡ 1
kid_once P t e i zero is passes low high = absurd (omega (arith, low, high))
kid_once P t e i (suc n) is passes low high = elim (eqb_tells i t) [ inl w ↦ at w.1 | inr w ↦ later w.1 (kid_once P t e (i + 1) n is passes (let apart = w.1 in omega (arith, low, apart)) (omega (arith, high))) (P i) ]
  where
    at : i ≡ t → kid_sum (λ k. one ((k == t) && e)) (filter P (range_with_len i (suc n))) ≡ 1
    at own =
        let first : P i ≡ true = ap P own ∙ passes in
        let here : one ((i == t) && e) ≡ 1 = ap (λ k. one ((k == t) && e)) own ∙ (ap (λ b. one (b && e)) (same_nat t) ∙ ap one is) in
        let rest : kid_sum (λ k. one ((k == t) && e)) (filter P (range_with_len (i + 1) n)) ≡ 0 = kid_past P t e (i + 1) n (omega (arith, own)) in
        ap (λ b. kid_sum (λ k. one ((k == t) && e)) (if b then i ∷ filter P (range_with_len (i + 1) n) else filter P (range_with_len (i + 1) n))) first ∙ omega (arith, here, rest)

    later : i ≢ t → kid_sum (λ k. one ((k == t) && e)) (filter P (range_with_len (i + 1) n)) ≡ 1 → (b : Bool) → kid_sum (λ k. one ((k == t) && e)) (if b then i ∷ filter P (range_with_len (i + 1) n) else filter P (range_with_len (i + 1) n)) ≡ 1
    later apart rest true = let here : one ((i == t) && e) ≡ 0 = kid_apart t i e apart in omega (arith, here, rest)
    later apart rest false = rest

-- no block that ends in OpBranch or leaves the function heads a selection
plain_unselected : (g : List Node) (b : ℕ) → IsSound g → (nth g b).reached ≡ true → is_plain (nth g b).exit ≡ true → is_selection (nth g b).merge ≡ true → ⊥
plain_unselected g b sound here ends sel = sound.fine.0 (nth g b).merge_at (b, reached_inside g b here, here, inl (bad (nth g b).merge (nth g b).exit sel ends, refl))
  where
    bad : (m : Merge) (x : Terminator) → is_selection m ≡ true → is_plain x ≡ true → is_bad_merge m x ≡ true
    bad Absent x e f = cc
    bad (LoopMerge m c) x e f = cc
    bad (Selection m) terminator.Branch e f = refl
    bad (Selection m) terminator.Leave e f = refl
    bad (Selection m) terminator.Conditional e f = cc
    bad (Selection m) terminator.Switch e f = cc

abbrev merged_at : Role → ℕ → Bool
merged_at (MergeOf k) h = k == h
merged_at _ h = false

abbrev named_at : Role → ℕ → Bool
named_at (MergeOf k) h = k == h
named_at (Continue k) h = k == h
named_at _ h = false

merged_is : (r : Role) (h : ℕ) → merged_at r h ≡ true → r ≡ MergeOf h
merged_is First h e = cc
merged_is (MergeOf k) h e = ap (λ q. MergeOf q) (equal_nat k h e)
merged_is (Continue k) h e = cc
merged_is (CaseOf s) h e = cc
merged_is (Inside p) h e = cc

named_is : (r : Role) (h : ℕ) → named_at r h ≡ true → (r ≡ MergeOf h) ⊎ (r ≡ Continue h)
named_is First h e = cc
named_is (MergeOf k) h e = inl (ap (λ q. MergeOf q) (equal_nat k h e))
named_is (Continue k) h e = inr (ap (λ q. Continue q) (equal_nat k h e))
named_is (CaseOf s) h e = cc
named_is (Inside p) h e = cc

same_block : (x : Bool) (k h : ℕ) → same x k false h ≡ (not x && (k == h))
same_block true k h = refl
same_block false k h = refl

same_loop : (x : Bool) (k h : ℕ) → same x k true h ≡ (x && (k == h))
same_loop true k h = refl
same_loop false k h = refl

-- what is said of one of two blocks is said of the other where they are the same
and_same : (F : ℕ → Bool) (k h : ℕ) → (F k && (k == h)) ≡ (F h && (k == h))
and_same F k h = elim (eqb_tells k h) [
  | inl w ↦ ap (λ q. F q && (k == h)) w.1
  | inr w ↦ ap (λ b. F k && b) w.0 ∙ (no_and (F k) ∙ sym (ap (λ b. F h && b) w.0 ∙ no_and (F h)))
]

pub or_none : (b : Bool) → (b || false) ≡ b
or_none true = refl
or_none false = refl

-- the parent that is a block, and the one that is a loop
up_block : (g : List Node) (r : Role) (h : ℕ) → up g r false h ≡ (is_value h (entered_from r) || (not (heads_loop g h) && named_at r h))
up_block g First h = sym (no_and (not (heads_loop g h)))
up_block g (MergeOf k) h = same_block (heads_loop g k) k h ∙ and_same (λ q. not (heads_loop g q)) k h
up_block g (Continue k) h = same_block (heads_loop g k) k h ∙ and_same (λ q. not (heads_loop g q)) k h
up_block g (CaseOf s) h = sym (ap (λ b. (s == h) || b) (no_and (not (heads_loop g h))) ∙ or_none (s == h))
up_block g (Inside p) h = sym (ap (λ b. (p == h) || b) (no_and (not (heads_loop g h))) ∙ or_none (p == h))

up_loop : (g : List Node) (r : Role) (h : ℕ) → heads_loop g h ≡ true → up g r true h ≡ named_at r h
up_loop g First h is = refl
up_loop g (MergeOf k) h is = same_loop (heads_loop g k) k h ∙ (and_same (heads_loop g) k h ∙ ap (λ b. b && (k == h)) is)
up_loop g (Continue k) h is = same_loop (heads_loop g k) k h ∙ (and_same (heads_loop g) k h ∙ ap (λ b. b && (k == h)) is)
up_loop g (CaseOf s) h is = refl
up_loop g (Inside p) h is = refl

-- a block that no loop's header is continues no loop
sum_block : (r : Role) (h : ℕ) (loops : Bool) → loops ≡ false → (r ≡ Continue h → ⊥) → one (is_value h (entered_from r)) + one (merged_at r h) ≡ one (is_value h (entered_from r) || (not loops && named_at r h))
sum_block r h true e apart = cc
sum_block First h false e apart = refl
sum_block (MergeOf k) h false e apart = omega arith
sum_block (Continue k) h false e apart = sym (zero_if (k == h) (number_other k h (λ own. apart (ap (λ q. Continue q) own))))
sum_block (CaseOf s) h false e apart = by_test (s == h)
  where
    by_test : (b : Bool) → one b + 0 ≡ one (b || false)
    by_test true = refl
    by_test false = refl
sum_block (Inside s) h false e apart = by_test (s == h)
  where
    by_test : (b : Bool) → one b + 0 ≡ one (b || false)
    by_test true = refl
    by_test false = refl

sum_loop : (r : Role) (h : ℕ) → (r ≡ Continue h → ⊥) → merged_at r h ≡ named_at r h
sum_loop First h apart = refl
sum_loop (MergeOf k) h apart = refl
sum_loop (Continue k) h apart = sym (number_other k h (λ own. apart (ap (λ q. Continue q) own)))
sum_loop (CaseOf s) h apart = refl
sum_loop (Inside s) h apart = refl

continue_named_by : (m : Merge) (t : ℕ) → list_any (λ x. x == t) (named m) ≡ true → is_value t (merge_named m) ≡ false → continue_named m ≡ Some t
continue_named_by Absent t named other = cc
continue_named_by (Selection m) t named other = by_test (m == t) named other
  where
    by_test : (b : Bool) → (b || false) ≡ true → b ≡ false → None ≡ Some t
    by_test true e f = cc
    by_test false e f = cc
continue_named_by (LoopMerge m c) t named other = ap (λ q. Some q) (equal_nat c t (by_tests (m == t) (c == t) named other))
  where
    by_tests : (a b : Bool) → (a || (b || false)) ≡ true → a ≡ false → b ≡ true
    by_tests true b e f = cc
    by_tests false true e f = refl
    by_tests false false e f = cc

other_apart : (t h : ℕ) (o : Option ℕ) → other_than t o ≡ Some h → h ≡ t → ⊥
other_apart t h None e own = cc
other_apart t h (Some k) e own = by_test (k == t) refl e
  where
    by_test : (b : Bool) → (k == t) ≡ b → (if b then None else Some k) ≡ Some h → ⊥
    by_test true is e = cc
    by_test false is e = let equal : k ≡ h = cc in not_both (k == t) (ap (λ q. q == t) (equal ∙ own) ∙ same_nat t) is

loop_merges : (m : Merge) → IsLoopMerge m → is_loop_merge m ≡ true
loop_merges Absent is = absurd is
loop_merges (Selection m) is = absurd is
loop_merges (LoopMerge m c) is = refl

list_has : (x t : ℕ) (ts : List ℕ) → x ≡ t → list_any (λ q. q == t) (x ∷ ts) ≡ true
list_has x t ts own = ap (λ b. b || list_any (λ q. q == t) ts) (ap (λ q. q == t) own ∙ same_nat t)

abbrev pub at_block : List Node → ℕ → Test
at_block g t = same (heads_loop g t) t

pub block_hits : (g : List Node) (t u : ℕ) → same (heads_loop g t) t (heads_loop g u) u ≡ (t == u)
block_hits g t u = elim (eqb_tells t u) [
  | inl w ↦ ap (λ x. same (heads_loop g t) t (heads_loop g x) x) (sym w.1) ∙ (own (heads_loop g t) ∙ sym w.0)
  | inr w ↦ apart (heads_loop g t) (heads_loop g u) w.0 ∙ sym w.0
]
  where
    own : (x : Bool) → same x t x t ≡ true
    own true = same_nat t
    own false = same_nat t

    apart : (x y : Bool) → (t == u) ≡ false → same x t y u ≡ false
    apart true true e = e
    apart true false e = refl
    apart false true e = refl
    apart false false e = e

module _ (f : Function) (g : List Node) (sound : IsSound g) (shaped : IsShaped g) (t : ℕ) (there : (nth g t).reached ≡ true) where
  enter_leads : (h : ℕ) → (nth g h).reached ≡ true → is_enter g h t ≡ true → leads_to t (nth g h) ≡ true
  enter_leads h here e = elim (enter_view g sound h here t e) [
    | inl r ↦ (edge_if (nth g h) t (case_from g t h (has_first (case_links g) t h ((role_facts g t).cased h r).1)).2).1
    | inr r ↦ (edge_if (nth g h) t (entry_from g t h (has_first (entry_links g) t h ((role_facts g t).entered h r).2)).2).1
  ]

  not_continued : (h : ℕ) → heads_loop g h ≡ false → role g t ≡ Continue h → ⊥
  not_continued h off is = not_both (heads_loop g h) (loop_merges (nth g h).merge (continue_header_is g t h is)) off

  kid_hits : (h k : ℕ) (n : Next) → Carries g h k n → hits g (at_block g t) n ≡ one ((k == t) && is_enter g h t)
  kid_hits h k n c = elim (eqb_tells k t) [ inl w ↦ own w.0 w.1 n c | inr w ↦ other w.0 w.1 n c ]
    where
      own : (k == t) ≡ true → k ≡ t → (n : Next) → Carries g h k n → hits g (at_block g t) n ≡ one ((k == t) && is_enter g h t)
      own on is (At (Block u)) c =
          ap one (block_hits g t u ∙ (ap (λ x. t == x) (c.0 ∙ is) ∙ same_nat t)) ∙ sym (ap (λ b. one (b && is_enter g h t)) on ∙ ap one (subst (λ x. is_enter g h x ≡ true) is c.1))
      own on is (At (Body u)) c = absurd c
      own on is (Stop (Edge a u x)) c = sym (ap (λ b. one (b && is_enter g h t)) on ∙ ap one (subst (λ x. is_enter g h x ≡ false) is c.3))
      own on is (Stop (Return a)) c = absurd c
      own on is (Stop (Lost a)) c = absurd c
      own on is (Stop Closed) c = absurd c

      other : (k == t) ≡ false → k ≢ t → (n : Next) → Carries g h k n → hits g (at_block g t) n ≡ one ((k == t) && is_enter g h t)
      other off is (At (Block u)) c = ap one (block_hits g t u ∙ number_other t u (λ e. is (sym (e ∙ c.0)))) ∙ sym (ap (λ b. one (b && is_enter g h t)) off)
      other off is (At (Body u)) c = absurd c
      other off is (Stop e) c = sym (ap (λ b. one (b && is_enter g h t)) off)

  no_entry : (h : ℕ) → (nth g h).reached ≡ true → (nth g h).targets ≡ [] → is_enter g h t ≡ false
  no_entry h here empty = not_true (is_enter g h t) (λ e. not_both (leads_to t (nth g h)) (enter_leads h here e) (ap (list_any (λ x. x == t)) empty))

  one_target : (h a : ℕ) → (nth g h).reached ≡ true → (nth g h).targets ≡ a ∷ [] → ((a == t) && is_enter g h t) ≡ is_enter g h t
  one_target h a here only = by_tests (a == t) (is_enter g h t) (λ e. sym (or_none (a == t)) ∙ (sym (ap (list_any (λ x. x == t)) only) ∙ enter_leads h here e))
    where
      by_tests : (x y : Bool) → (y ≡ true → x ≡ true) → (x && y) ≡ y
      by_tests true y imp = refl
      by_tests false true imp = imp refl
      by_tests false false imp = refl

  branch_hits : (h : ℕ) (n : Next) (ts : List ℕ) → (nth g h).reached ≡ true → (nth g h).targets ≡ ts → length ts ≤ 1 → CarriesTo g h (slice_get ts 0) n → hits g (at_block g t) n ≡ one (is_enter g h t)
  branch_hits h n [] here is fit c = ap (hits g (at_block g t)) c ∙ sym (ap one (no_entry h here is))
  branch_hits h n (a ∷ []) here is fit c = kid_hits h a n c ∙ ap one (one_target h a here is)
  branch_hits h n (a ∷ b ∷ ts) here is fit c = absurd (omega (arith, fit))

  pair_hits : (h : ℕ) (n m : Next) (ts : List ℕ) → (nth g h).reached ≡ true → (nth g h).targets ≡ ts → length ts ≤ 2 → is_pair_of_same ts ≡ false → CarriesTo g h (slice_get ts 0) n → CarriesTo g h (slice_get ts 1) m → hits g (at_block g t) n + hits g (at_block g t) m ≡ one (is_enter g h t)
  pair_hits h n m [] here is fit apart c d =
      let a : hits g (at_block g t) n ≡ 0 = ap (hits g (at_block g t)) c in
      let b : hits g (at_block g t) m ≡ 0 = ap (hits g (at_block g t)) d in
      let e : one (is_enter g h t) ≡ 0 = ap one (no_entry h here is) in
      omega (arith, a, b, e)
  pair_hits h n m (x ∷ []) here is fit apart c d =
      let a : hits g (at_block g t) n ≡ one (is_enter g h t) = kid_hits h x n c ∙ ap one (one_target h x here is) in
      let b : hits g (at_block g t) m ≡ 0 = ap (hits g (at_block g t)) d in
      omega (arith, a, b)
  pair_hits h n m (x ∷ y ∷ []) here is fit apart c d =
      let a : hits g (at_block g t) n ≡ one ((x == t) && is_enter g h t) = kid_hits h x n c in
      let b : hits g (at_block g t) m ≡ one ((y == t) && is_enter g h t) = kid_hits h y m d in
      let e = by_tests (x == t) (y == t) (is_enter g h t) (λ e. sym (ap (list_any (λ z. z == t)) is) ∙ enter_leads h here e) (λ xt yt. not_both (x == y) (ap (λ z. z == y) (equal_nat x t xt) ∙ (ap (λ z. t == z) (equal_nat y t yt) ∙ same_nat t)) apart) in
      omega (arith, a, b, e)
    where
      by_tests : (u v w : Bool) → (w ≡ true → (u || (v || false)) ≡ true) → (u ≡ true → v ≡ true → ⊥) → one (u && w) + one (v && w) ≡ one w
      by_tests true true w imp apart = absurd (apart refl refl)
      by_tests true false w imp apart = omega arith
      by_tests false true w imp apart = omega arith
      by_tests false false true imp apart = let never = imp refl in cc
      by_tests false false false imp apart = refl
  pair_hits h n m (x ∷ y ∷ z ∷ ts) here is fit apart c d = absurd (omega (arith, fit))

  merged_tells : (h : ℕ) → merged_at (role g t) h ≡ true → merge_block g h ≡ Some t
  merged_tells h e = value_some t (merge_block g h) ((role_facts g t).merged h (merged_is (role g t) h e)).1

  merged_hits : (h : ℕ) → (nth g h).reached ≡ true → hits g (at_block g t) (merged g h) ≡ one (merged_at (role g t) h)
  merged_hits h here = by_merge (merge_block g h) refl
    where
      by_reached : (m : ℕ) (b : Bool) → merge_block g h ≡ Some m → (nth g m).reached ≡ b → hits g (at_block g t) (if b then At (Block m) else Stop Closed) ≡ one (merged_at (role g t) h)
      by_reached m true is live = elim (eqb_tells t m) [
        | inl w ↦
            let role_is : role g t ≡ MergeOf h = merge_role g h t sound here (is ∙ ap (λ x. Some x) (sym w.1)) in
            ap one (block_hits g t m ∙ w.0) ∙ sym (ap (λ r. one (merged_at r h)) role_is ∙ ap one (same_nat h))
        | inr w ↦
            let none : merged_at (role g t) h ≡ false = not_true (merged_at (role g t) h) (λ e. let both : Some m ≡ Some t = sym is ∙ merged_tells h e in w.1 (let equal : t ≡ m = cc in equal)) in
            ap one (block_hits g t m ∙ w.0) ∙ sym (ap one none)
      ]
      by_reached m false is live =
          let none : merged_at (role g t) h ≡ false = not_true (merged_at (role g t) h) (λ e. let both : Some m ≡ Some t = sym is ∙ merged_tells h e in let equal : m ≡ t = cc in not_both (nth g t).reached there (subst (λ x. (nth g x).reached ≡ false) equal live)) in
          sym (ap one none)

      by_merge : (o : Option ℕ) → merge_block g h ≡ o → hits g (at_block g t) (if_reached g o) ≡ one (merged_at (role g t) h)
      by_merge None is = sym (ap one (not_true (merged_at (role g t) h) (λ e. let never : None ≡ Some t = sym is ∙ merged_tells h e in cc)))
      by_merge (Some m) is = by_reached m (nth g m).reached is refl

  -- a header that is no loop's names the block as its merge block
  unnamed : (h : ℕ) → (is_selection (nth g h).merge ≡ true → ⊥) → (not (heads_loop g h) && named_at (role g t) h) ≡ false
  unnamed h off = by_tests (heads_loop g h) (named_at (role g t) h) refl refl
    where
      selects : (m : Merge) → is_loop_merge m ≡ false → is_value t (merge_named m) ≡ true → is_selection m ≡ true
      selects Absent e f = cc
      selects (Selection m) e f = refl
      selects (LoopMerge m c) e f = cc

      by_tests : (x y : Bool) → heads_loop g h ≡ x → named_at (role g t) h ≡ y → (not x && y) ≡ false
      by_tests true y e f = refl
      by_tests false false e f = refl
      by_tests false true e f = elim (named_is (role g t) h f) [
        | inl r ↦ absurd (off (selects (nth g h).merge e ((role_facts g t).merged h r).1))
        | inr r ↦ absurd (not_continued h e r)
      ]

  only_enters : (h : ℕ) → (is_selection (nth g h).merge ≡ true → ⊥) → up g (role g t) false h ≡ is_enter g h t
  only_enters h off = up_block g (role g t) h ∙ (ap (λ b. is_enter g h t || b) (unnamed h off) ∙ or_none (is_enter g h t))

  different : (h : ℕ) → (nth g h).reached ≡ true → is_conditional (nth g h).exit ≡ true → is_pair_of_same (nth g h).targets ≡ false
  different h here con = not_true (is_pair_of_same (nth g h).targets) (λ e. sound.fine.1.1.1.1.1.0 (nth g h).exit_at (h, reached_inside g h here, here, (ap (λ b. b && is_pair_of_same (nth g h).targets) con ∙ e, refl)))

  two_fit : (h : ℕ) → is_conditional (nth g h).exit ≡ true → length (nth g h).targets ≤ 2
  two_fit h con = by_exit (nth g h).exit con (shaped.fits h)
    where
      by_exit : (x : Terminator) → is_conditional x ≡ true → FitsExit x (length (nth g h).targets) → length (nth g h).targets ≤ 2
      by_exit terminator.Branch e fit = cc
      by_exit terminator.Conditional e fit = fit
      by_exit terminator.Switch e fit = cc
      by_exit terminator.Leave e fit = cc

  both_hit : (h : ℕ) (n m : Next) → (nth g h).reached ≡ true → is_conditional (nth g h).exit ≡ true → CarriesTo g h (target g h 0) n → CarriesTo g h (target g h 1) m → hits g (at_block g t) n + hits g (at_block g t) m ≡ one (is_enter g h t)
  both_hit h n m here con c d = pair_hits h n m (nth g h).targets here refl (two_fit h con) (different h here con) c d

  plain_by : (b : ℕ) (n : Next) (x : Terminator) → (nth g b).reached ≡ true → is_plain x ≡ true → FitsExit x (length (nth g b).targets) → IsAfter f g b x n → hits g (at_block g t) n ≡ one (is_enter g b t)
  plain_by b n terminator.Branch here plain fit a = branch_hits b n (nth g b).targets here refl fit a
  plain_by b n terminator.Leave here plain fit a = ap (hits g (at_block g t)) a ∙ sym (ap one (no_entry b here (no_targets (nth g b).targets fit)))
    where
      no_targets : (ts : List ℕ) → length ts ≤ 0 → ts ≡ []
      no_targets [] fit = refl
      no_targets (x ∷ ts) fit = absurd (omega (arith, fit))
  plain_by b n terminator.Conditional here plain fit a = cc
  plain_by b n terminator.Switch here plain fit a = cc

  continue_to : (h : ℕ) → role g t ≡ Continue h → continue_block g h ≡ Some t
  continue_to h is =
      let facts = (role_facts g t).continued h is in
      let link = has_first (name_links g) t h (other_first t h (first_of (name_links g) t) facts.0) in
      let goes : continue_target g h ≡ Some t = continue_named_by (nth g h).merge t (name_from g t h link).2 facts.1 in
      let apart : (t == h) ≡ false = number_other t h (λ own. other_apart t h (first_of (name_links g) t) facts.0 (sym own)) in
      ap (other_block g h) goes ∙ (ap (λ b. if b && not (t == h) then Some t else None) there ∙ ap (λ b. if not b then Some t else None) apart)

  pub block_step : IsStep f g (at_block g t) (up g (role g t))
  block_step = record {
    plain_step = λ b n here plain a. plain_by b n (nth g b).exit here plain (shaped.fits b) a ∙ sym (ap one (only_enters b (plain_unselected g b sound here plain)));
    choose_step = λ h n m here con sel c d. (
        let loops = selection_no_loop (nth g h).merge sel in
        let a : hits g (at_block g t) n + hits g (at_block g t) m ≡ one (is_enter g h t) = both_hit h n m here con c d in
        let b : hits g (at_block g t) (merged g h) ≡ one (merged_at (role g t) h) = merged_hits h here in
        let e : one (is_enter g h t) + one (merged_at (role g t) h) ≡ one (up g (role g t) false h) = sum_block (role g t) h (heads_loop g h) loops (not_continued h loops) ∙ sym (ap one (up_block g (role g t) h)) in
        omega (arith, a, b, e));
    loose_step = λ h n m here con sel c d. both_hit h n m here con c d ∙ sym (ap one (only_enters h (λ e. not_both (is_selection (nth g h).merge) e sel)));
    loop_step = λ h here loops gone. (
        let a : one (same (heads_loop g t) t false h) ≡ 0 = ap one (body_apart h loops) in
        let b : hits g (at_block g t) (merged g h) ≡ one (merged_at (role g t) h) = merged_hits h here in
        let e : one (merged_at (role g t) h) ≡ one (up g (role g t) true h) = ap one (sum_loop (role g t) h (λ r. let never : None ≡ Some t = sym gone ∙ continue_to h r in cc) ∙ sym (up_loop g (role g t) h loops)) in
        omega (arith, a, b, e));
    loop_on_step = λ h c here loops is. (
        let a : one (same (heads_loop g t) t false h) ≡ 0 = ap one (body_apart h loops) in
        let b : hits g (at_block g t) (merged g h) ≡ one (merged_at (role g t) h) = merged_hits h here in
        let d : hits g (at_block g t) (At (Block c)) + one (merged_at (role g t) h) ≡ one (up g (role g t) true h) = on_continue h c here loops is in
        omega (arith, a, b, d));
    kid = λ h k. one ((k == t) && is_enter g h t);
    kid_step = λ h k n here leads c. kid_hits h k n c;
    switch_step = λ h here is. (
        let sel = switch_selects g sound h here is in
        let loops = selection_no_loop (nth g h).merge sel in
        let a : kid_sum (λ k. one ((k == t) && is_enter g h t)) (switch_targets g h) ≡ one (is_enter g h t) = kids h here (is_enter g h t) refl in
        let b : hits g (at_block g t) (merged g h) ≡ one (merged_at (role g t) h) = merged_hits h here in
        let e : one (is_enter g h t) + one (merged_at (role g t) h) ≡ one (up g (role g t) false h) = sum_block (role g t) h (heads_loop g h) loops (not_continued h loops) ∙ sym (ap one (up_block g (role g t) h)) in
        omega (arith, a, b, e));
  }
    where
      body_apart : (h : ℕ) → heads_loop g h ≡ true → same (heads_loop g t) t false h ≡ false
      body_apart h loops = same_block (heads_loop g t) t h ∙ (and_same (λ x. not (heads_loop g x)) t h ∙ ap (λ b. not b && (t == h)) loops)

      on_continue : (h c : ℕ) → (nth g h).reached ≡ true → heads_loop g h ≡ true → continue_block g h ≡ Some c → hits g (at_block g t) (At (Block c)) + one (merged_at (role g t) h) ≡ one (up g (role g t) true h)
      on_continue h c here loops is = elim (eqb_tells t c) [
        | inl w ↦
            let r : role g t ≡ Continue h = ap (role g) w.1 ∙ continue_role g h c sound here (continue_facts g h c is) in
            let x : hits g (at_block g t) (At (Block c)) ≡ 1 = ap one (block_hits g t c ∙ w.0) in
            let y : one (merged_at (role g t) h) ≡ 0 = ap (λ r. one (merged_at r h)) r in
            let z : one (up g (role g t) true h) ≡ 1 = ap one (up_loop g (role g t) h loops ∙ (ap (λ r. named_at r h) r ∙ same_nat h)) in
            omega (arith, x, y, z)
        | inr w ↦
            let x : hits g (at_block g t) (At (Block c)) ≡ 0 = ap one (block_hits g t c ∙ w.0) in
            let y : one (merged_at (role g t) h) ≡ one (up g (role g t) true h) = ap one (sum_loop (role g t) h (λ r. let both : Some c ≡ Some t = sym is ∙ continue_to h r in w.1 (let equal : t ≡ c = cc in equal)) ∙ sym (up_loop g (role g t) h loops)) in
            omega (arith, x, y)
      ]

      kids : (h : ℕ) → (nth g h).reached ≡ true → (e : Bool) → is_enter g h t ≡ e → kid_sum (λ k. one ((k == t) && is_enter g h t)) (switch_targets g h) ≡ one (is_enter g h t)
      kids h here false is = kid_none t (is_enter g h t) (switch_targets g h) is ∙ sym (ap one is)
      kids h here true is =
          kid_once (λ k. leads_to k (nth g h)) t (is_enter g h t) 0 (length g) is (enter_leads h here is) (omega arith) (let low = reached_inside g t there in omega (arith, low)) ∙ sym (ap one is)
