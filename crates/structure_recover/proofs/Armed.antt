-- The targets of a switch are its arms' targets, in the order in which they stand in the function.
use Rattle.std.proofs.Common.{◌≡◌, ◌≢◌, ◌<◌, ◌≤◌, ◌+◌, ◌==◌, ◌||◌, ℕ, zero, suc, Bool, true, false, List, [], ◌∷◌, length, get_or, map, filter, drop, if◌then◌else◌, Option, refl, ap, sym, ◌∙◌, subst, inl, inr, arith}
use Rattle.std.specs.List.{list_any, range_with_len, slice_get, zip}
use Rattle.std.specs.List.Sorted.{IsStrictlyIncreasing, IsStrictlySortedBy}
use Rattle.std.specs.Ordering.{nat_cmp, MatchOrdering}
use Rattle.std.specs.declared.cmp.Ordering.{Ordering}
use Rattle.std.specs.declared.cmp.Ordering.TheVariants.{Less, Equal, Greater}
use Rattle.std.proofs.lemmas.Cmp.{ranked}
use Rattle.std.proofs.lemmas.Map.Keys.{sorted_from_strictly_increasing}
use Rattle.std.proofs.lemmas.Bool.Decides.{eqb_tells}
use Rattle.std.proofs.lemmas.Bool.{or_right}
use Rattle.list_law.proofs.Numbers.{number_other}
use Rattle.spv_module.specs.declared.inst.Function.{Function}
use Rattle.structure_rules.specs.declared.graph.Node.{Node}
use Rattle.structure_rules.specs.Graph.{nth, leads_to, is_value}
use Rattle.nest_place.specs.Nests.{IsSound}
use Rattle.nest_place.proofs.LinkLemmas.{same_nat}
use Rattle.nest_place.proofs.Verdict.{edge_inside}
use Rattle.structure_recover.specs.declared.arms.Arm.{Arm}
use Rattle.structure_recover.specs.Follows.{switch_targets, labels_to, literals_by, last_inst}
use Rattle.structure_recover.specs.Arms.{IsArm, AreArms, AreTargets, AreLabelled, Adds, target_of}

-- each number is at least this one, and more than the one before it
abbrev Rises : ℕ → List ℕ → Type 0
Rises low [] = Unit {0}
Rises low (k ∷ ks) = (low ≤ k) × Rises (k + 1) ks

less_is : (r : Ordering) (x y : ℕ) → r ≡ Less → MatchOrdering r (x < y) (x ≡ y) (y < x) → x < y
less_is Less x y e m = m
less_is Equal x y e m = cc
less_is Greater x y e m = cc

rises : (ks : List ℕ) (low : ℕ) → IsStrictlySortedBy nat_cmp ks → ((k : ℕ) (rest : List ℕ) → ks ≡ k ∷ rest → low ≤ k) → Rises low ks
unfolding IsStrictlySortedBy
rises [] low s first = tt
rises (k ∷ []) low s first = (first k [] refl, tt)
rises (k ∷ y ∷ ys) low s first =
    let up : k < y = less_is (nat_cmp k y) k y s.0.0 (ranked k y (nat_cmp k y) refl) in
    (first k (y ∷ ys) refl, rises (y ∷ ys) (k + 1) s.1 (λ z rest e. (let same : y ≡ z = cc in omega (arith, up, same))))

none_below : (ks : List ℕ) (low t : ℕ) → Rises low ks → t < low → list_any (λ k. k == t) ks ≡ false
none_below [] low t up less = refl
none_below (k ∷ ks) low t up less =
    let le : low ≤ k = up.0 in
    ap (λ b. b || list_any (λ x. x == t) ks) (number_other k t (λ e. omega (arith, e, le, less))) ∙ none_below ks (k + 1) t up.1 (omega (arith, le, less))

here_is : (k : ℕ) (ks : List ℕ) → list_any (λ x. x == k) (k ∷ ks) ≡ true
here_is k ks = ap (λ b. b || list_any (λ x. x == k) ks) (same_nat k)

past : (k t : ℕ) (ks : List ℕ) → k ≢ t → list_any (λ x. x == t) (k ∷ ks) ≡ list_any (λ x. x == t) ks
past k t ks apart = ap (λ b. b || list_any (λ x. x == t) ks) (number_other k t apart)

filter_takes : (p : ℕ → Bool) (i : ℕ) (xs : List ℕ) → p i ≡ true → filter p (i ∷ xs) ≡ i ∷ filter p xs
filter_takes p i xs e = ap (λ b. if b then i ∷ filter p xs else filter p xs) e

filter_drops : (p : ℕ → Bool) (i : ℕ) (xs : List ℕ) → p i ≡ false → filter p (i ∷ xs) ≡ filter p xs
filter_drops p i xs e = ap (λ b. if b then i ∷ filter p xs else filter p xs) e

-- rising numbers are those of a range that are among them
rising_filter : (p : ℕ → Bool) (n i : ℕ) (ks : List ℕ) → Rises i ks → ((t : ℕ) → i ≤ t → t < i + n → list_any (λ k. k == t) ks ≡ p t) → ((t : ℕ) → list_any (λ k. k == t) ks ≡ true → t < i + n) → ks ≡ filter p (range_with_len i n)
rising_filter p zero i [] up same low = refl
rising_filter p zero i (k ∷ ks) up same low = absurd (let less = low k (here_is k ks) in let le : i ≤ k = up.0 in omega (arith, less, le))
rising_filter p (suc n) i [] up same low =
    rising_filter p n (i + 1) [] tt (λ t a b. same t (omega (arith, a)) (omega (arith, b))) (λ t e. cc)
    ∙ sym (filter_drops p i (range_with_len (i + 1) n) (sym (same i (omega arith) (omega arith))))
rising_filter p (suc n) i (k ∷ ks) up same low = elim (eqb_tells k i) [
  | inl w ↦
      let own : k ≡ i = w.1 in
      let passes : p i ≡ true = sym (same i (omega arith) (omega arith)) ∙ ap (λ b. b || list_any (λ x. x == i) ks) w.0 in
      let rest = rising_filter p n (i + 1) ks (subst (λ q. Rises (q + 1) ks) own up.1) (λ t a b. sym (past k t ks (λ e. omega (arith, e, own, a))) ∙ same t (omega (arith, a)) (omega (arith, b))) (λ t e. let less = low t (or_right (k == t) (list_any (λ x. x == t) ks) e) in omega (arith, less)) in
      ap (λ q. q ∷ ks) own ∙ (ap (λ q. i ∷ q) rest ∙ sym (filter_takes p i (range_with_len (i + 1) n) passes))
  | inr w ↦
      let le : i ≤ k = up.0 in
      let apart : k ≢ i = w.1 in
      let off : p i ≡ false = sym (same i (omega arith) (omega arith)) ∙ none_below (k ∷ ks) (i + 1) i ((let more : i + 1 ≤ k = omega (arith, le, apart) in more), up.1) (omega arith) in
      rising_filter p n (i + 1) (k ∷ ks) ((let more : i + 1 ≤ k = omega (arith, le, apart) in more), up.1) (λ t a b. same t (omega (arith, a)) (omega (arith, b))) (λ t e. let less = low t e in omega (arith, less))
      ∙ sym (filter_drops p i (range_with_len (i + 1) n) off)
]

-- each of these is one of them
any_own : (ts : List ℕ) (k d : ℕ) → k < length ts → list_any (λ t. t == get_or ts k d) ts ≡ true
any_own [] k d less = absurd (omega (arith, less))
any_own (t ∷ ts) zero d less = ap (λ b. b || list_any (λ x. x == t) ts) (same_nat t)
any_own (t ∷ ts) (suc k) d less = or_right (t == get_or ts k d) (list_any (λ x. x == get_or ts k d) ts) (any_own ts k d (omega (arith, less)))

-- the blocks to which a node leads, each once, in their order
pub are_targets : (g : List Node) (h : ℕ) (n : Node) (ts order : List ℕ) → IsSound g → (nth g h).reached ≡ true → n ≡ nth g h → ts ≡ n.targets
    → IsStrictlyIncreasing order → ((q : ℕ) → list_any (λ t. t == q) order ≡ list_any (λ t. t == q) ts) → AreTargets g h order
are_targets g h n ts order sound here n_is ts_is up same = record { all = order_filter; leads = λ k d less. sym (leads (get_or order k d)) ∙ any_own order k d less }
  where
    leads : (q : ℕ) → list_any (λ t. t == q) order ≡ leads_to q (nth g h)
    leads q = same q ∙ ap (list_any (λ t. t == q)) (ts_is ∙ ap (λ (m : Node). m.targets) n_is)

    order_filter : order ≡ switch_targets g h
    order_filter =
        rising_filter (λ t. leads_to t (nth g h)) (length g) 0 order (rises order 0 (sorted_from_strictly_increasing order up) (λ k rest e. omega arith))
        (λ t a b. leads t) (λ t e. let less = edge_inside g h t sound here (sym (leads t) ∙ e) in omega (arith, less))

-- an arm's target is among the targets
any_target : (arms : List Arm) (k : ℕ) (d : Arm) → k < length arms → list_any (λ t. t == (get_or arms k d).target) (map target_of arms) ≡ true
any_target [] k d less = absurd (omega (arith, less))
any_target (a ∷ arms) zero d less = ap (λ b. b || list_any (λ t. t == a.target) (map target_of arms)) (same_nat a.target)
any_target (a ∷ arms) (suc k) d less = or_right (a.target == (get_or arms k d).target) (list_any (λ t. t == (get_or arms k d).target) (map target_of arms)) (any_target arms k d (omega (arith, less)))

pub are_arms : (f : Function) (g : List Node) (h : ℕ) (order ts ls : List ℕ) (default : Option ℕ) (bare arms : List Arm)
    → IsSound g → (nth g h).reached ≡ true → ts ≡ (nth g h).targets → ls ≡ literals_by (last_inst (slice_get f.blocks h)) → default ≡ slice_get ts 0
    → IsStrictlyIncreasing order → ((q : ℕ) → list_any (λ t. t == q) order ≡ list_any (λ t. t == q) ts)
    → map target_of bare ≡ order → AreLabelled default [] bare → Adds (zip (drop 1 ts) ls) bare arms → AreArms f g h arms
are_arms f g h order ts ls default bare arms sound here ts_is ls_is default_is up same targets labelled adds = record { targets = all_targets ∙ order_filter; each = each }
  where
    leads : (q : ℕ) → list_any (λ t. t == q) order ≡ leads_to q (nth g h)
    leads q = same q ∙ ap (list_any (λ t. t == q)) ts_is

    all_targets : map (λ (a : Arm). a.target) arms ≡ order
    all_targets = adds.targets ∙ targets

    order_filter : order ≡ switch_targets g h
    order_filter = (are_targets g h (nth g h) ts order sound here refl ts_is up same).all

    each : (k : ℕ) (d : Arm) → k < length arms → IsArm f g h (get_or arms k d)
    each k d less =
        let a = get_or arms k d in
        let is = (adds.labelled default [] labelled).each k d less in
        record {
          leads = sym (leads a.target) ∙ (ap (list_any (λ t. t == a.target)) (sym all_targets) ∙ any_target arms k d less);
          labels = is.labels ∙ ap (λ x. labels_to x a.target) (ap (λ x. zip (drop 1 x) ls) ts_is ∙ ap (zip (drop 1 (nth g h).targets)) ls_is);
          default = is.mark ∙ ap (is_value a.target) (default_is ∙ ap (λ x. slice_get x 0) ts_is);
        }
