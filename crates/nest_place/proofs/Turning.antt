-- Following falls, and heights.
use Rattle.std.proofs.Common.{◌≡◌, ◌≢◌, ◌<◌, ◌≤◌, ◌+◌, ◌-◌, ℕ, zero, suc, true, List, length, get_or, replicate, Option, Some, None, IfSome, refl, ap, sym, ◌∙◌, subst, inl, inr, arith, below_more}
use Rattle.std.specs.List.{slice_index}
use Rattle.std.specs.Option.{option_and_then}
use Rattle.std.proofs.Math.ListN.{set}
use Rattle.std.proofs.lemmas.Bool.{cases_lt}
use Rattle.std.proofs.lemmas.Bool.Decides.{eqb_tells}
use Rattle.std.proofs.lemmas.List.{get_or-set_same, get_or-set_other}
use Rattle.spv_words.specs.declared.rule.Rule.TheVariants.{K11}
use Rattle.structure_rules.specs.declared.graph.Node.{Node}
use Rattle.structure_rules.specs.Graph.{nth}
use Rattle.structure_rules.specs.Nesting.{Links, first_of, has_link}
use Rattle.structure_rules.specs.Structure.{BrokenIn, fall_links, falls_from, after_falls, IsOnCycle}
use Rattle.nest_place.specs.Checks.{IsUnbroken}
use Rattle.nest_place.specs.Links.{IsTable, IsSingle, turned_links}
use Rattle.nest_place.specs.Cycles.{Table, entry, steps, Returns, AreInverse, IsReady, AreHeights, FallsOnCycle, SomeCyclic}
use Rattle.list_law.proofs.Lists.{any_itself}
use Rattle.nest_place.proofs.LinkLemmas.{has_first}
use Rattle.nest_place.proofs.Each.{member_at}
use Rattle.nest_place.proofs.Reading.{NoneBelow, none_start, none_at_all, nth_read, targets_inside}
use Rattle.nest_place.proofs.Falling.{turned_has}

-- the two tables of the falls are inverse
pub inverse : (links : Links) (next last : Table) → IsTable links next → IsSingle links → IsTable (turned_links links) last → AreInverse next last
inverse links next last n single l = record {
  back = λ v u e.
      let first : first_of (turned_links links) v ≡ Some u = sym (l v) ∙ e in
      let link : has_link links u v ≡ true = sym (turned_has links v u) ∙ has_first (turned_links links) v u first in
      n u ∙ single u v link;
}

some_not_none : (x : ℕ) (o : Option ℕ) → o ≡ None → o ≡ Some x → ⊥
some_not_none x o none some = let clash : None ≡ Some x = sym none ∙ some in cc

-- one height more
pub ready_kept : (next heights : Table) (at h u k : ℕ) → entry heights at ≡ None → IsReady next heights u k → IsReady next (set heights at (Some h)) u k
ready_kept next heights at h u k free ready = by_next (entry next u) ready
  where
    by_next : (o : Option ℕ) → IfSome o (λ t. (j : ℕ) × (entry heights t ≡ Some j) × (j < k)) → IfSome o (λ t. (j : ℕ) × (entry (set heights at (Some h)) t ≡ Some j) × (j < k))
    by_next None r = tt
    by_next (Some t) r =
        let apart : t ≢ at = λ e. some_not_none r.0 (entry heights at) free (ap (entry heights) (sym e) ∙ r.1) in
        (r.0, get_or-set_other heights at t (Some h) None apart ∙ r.1, r.2)

pub heights_set : (next heights : Table) (at h : ℕ) → AreHeights next heights → at < length heights → entry heights at ≡ None → IsReady next heights at h → AreHeights next (set heights at (Some h))
heights_set next heights at h all room free ready = record {
  fall = λ u k e. elim (eqb_tells u at) [
    | inl w ↦
        let here : entry (set heights at (Some h)) u ≡ Some h = ap (entry (set heights at (Some h))) w.1 ∙ get_or-set_same heights at (Some h) None room in
        let same : h ≡ k = (let s : Some h ≡ Some k = sym here ∙ e in cc) in
        subst (λ q. IsReady next (set heights at (Some h)) u q) same (subst (λ q. IsReady next (set heights at (Some h)) q h) (sym w.1) (ready_kept next heights at h at h free ready))
    | inr w ↦
        let before : entry heights u ≡ Some k = sym (get_or-set_other heights at u (Some h) None w.1) ∙ e in
        ready_kept next heights at h u k free (all.fall u k before)
  ];
}

pub ready_before : (next last heights : Table) (at h v : ℕ) → AreInverse next last → at < length heights → entry last at ≡ Some v → IsReady next (set heights at (Some h)) v (h + 1)
ready_before next last heights at h v inv room e =
    subst (λ o. IfSome o (λ t. (j : ℕ) × (entry (set heights at (Some h)) t ≡ Some j) × (j < h + 1))) (sym (inv.back at v e))
    (h, get_or-set_same heights at (Some h) None room, (let less : h < h + 1 = omega arith in less))

pub ready_tail : (next heights : Table) (u k : ℕ) → entry next u ≡ None → IsReady next heights u k
ready_tail next heights u k e = subst (λ o. IfSome o (λ t. (j : ℕ) × (entry heights t ≡ Some j) × (j < k))) (sym e) tt

none_among : (n u : ℕ) → entry (replicate n None) u ≡ None
none_among zero u = refl
none_among (suc n) zero = refl
none_among (suc n) (suc u) = none_among n u

pub heights_none : (next heights : Table) (n : ℕ) → heights ≡ replicate n None → AreHeights next heights
heights_none next heights n is = record { fall = λ u k e. absurd (some_not_none k (entry heights u) (ap (λ t. entry t u) is ∙ none_among n u) e) }

-- steps, the last of them first
pub steps_back : (next : Table) (n u : ℕ) → steps next (suc n) u ≡ option_and_then (entry next) (steps next n u)
unfolding steps
steps_back next zero u = by_entry (entry next u)
  where
    by_entry : (o : Option ℕ) → option_and_then (λ v. Some v) o ≡ o
    by_entry None = refl
    by_entry (Some v) = refl
steps_back next (suc n) u = by_entry (entry next u) (steps_back next n)
  where
    by_entry : (o : Option ℕ) → ((v : ℕ) → steps next (suc n) v ≡ option_and_then (entry next) (steps next n v)) → option_and_then (steps next (suc n)) o ≡ option_and_then (entry next) (option_and_then (steps next n) o)
    by_entry None on = refl
    by_entry (Some v) on = on v

steps_none : (next : Table) (n k u : ℕ) → steps next n u ≡ None → steps next (k + n) u ≡ None
steps_none next n zero u e = let same : 0 + n ≡ n = omega arith in ap (λ m. steps next m u) same ∙ e
steps_none next n (suc k) u e =
    let same : suc k + n ≡ suc (k + n) = omega arith in
    ap (λ m. steps next m u) same ∙ (steps_back next (k + n) u ∙ ap (option_and_then (entry next)) (steps_none next n k u e))

-- the turns so far do not lead back
pub record IsTurning (next : Table) (from at k : ℕ) : Type 0 where
  pub here : steps next k from ≡ Some at
  pub apart : (m : ℕ) → m < k → steps next (suc m) from ≡ Some from → ⊥

pub turning_start : (next : Table) (from : ℕ) → IsTurning next from from 0
unfolding steps
turning_start next from = record { here = refl; apart = λ m h e. absurd (omega (arith, h)) }

step_to : (next : Table) (from at k to : ℕ) → IsTurning next from at k → entry next at ≡ Some to → steps next (suc k) from ≡ Some to
step_to next from at k to t e = steps_back next k from ∙ (ap (option_and_then (entry next)) t.here ∙ e)

pub turning_next : (next : Table) (from at k to : ℕ) → IsTurning next from at k → entry next at ≡ Some to → (to ≡ from → ⊥) → IsTurning next from to (k + 1)
turning_next next from at k to t e apart =
    let one : suc k ≡ k + 1 = omega arith in
    record {
      here = subst (λ m. steps next m from ≡ Some to) one (step_to next from at k to t e);
      apart = below_more (λ m. steps next (suc m) from ≡ Some from → ⊥) k t.apart (λ back. apart (let same : Some to ≡ Some from = sym (step_to next from at k to t e) ∙ back in cc));
    }

pub turning_returns : (next : Table) (from at k to : ℕ) → IsTurning next from at k → k < length next → entry next at ≡ Some to → to ≡ from → Returns next from
turning_returns next from at k to t inside e same = (k, inside, step_to next from at k to t e ∙ ap (λ q. Some q) same)

pub turning_ends : (next : Table) (from at k : ℕ) → IsTurning next from at k → entry next at ≡ None → Returns next from → ⊥
turning_ends next from at k t none back =
    elim (cases_lt back.0 k) [
      | inl less ↦ t.apart back.0 less back.2
      | inr more ↦
          let stuck : steps next (suc k) from ≡ None = steps_back next k from ∙ (ap (option_and_then (entry next)) t.here ∙ none) in
          let split : back.0 - k + suc k ≡ suc back.0 = omega (arith, more) in
          some_not_none from (steps next (suc back.0) from) (ap (λ m. steps next m from) (sym split) ∙ steps_none next (suc k) (back.0 - k) from stuck) back.2
    ]

pub turning_all : (next : Table) (from at k : ℕ) → IsTurning next from at k → length next ≤ k → Returns next from → ⊥
turning_all next from at k t all back = let inside : back.0 < length next = back.1 in t.apart back.0 (omega (arith, inside, all)) back.2

-- steps lead down
lower : (next heights : Table) (n u v k : ℕ) → AreHeights next heights → entry heights u ≡ Some k → steps next n u ≡ Some v → (j : ℕ) × (entry heights v ≡ Some j) × (j + n ≤ k)
unfolding steps
lower next heights zero u v k all high is =
    let same : u ≡ v = cc in
    (k, subst (λ q. entry heights q ≡ Some k) same high, (let le : k + 0 ≤ k = omega arith in le))
lower next heights (suc n) u v k all high is = by_next (entry next u) (all.fall u k high) is (λ t j e. lower next heights n t v j all e)
  where
    by_next : (o : Option ℕ) → IfSome o (λ t. (j : ℕ) × (entry heights t ≡ Some j) × (j < k)) → option_and_then (steps next n) o ≡ Some v → ((t j : ℕ) → entry heights t ≡ Some j → steps next n t ≡ Some v → (i : ℕ) × (entry heights v ≡ Some i) × (i + n ≤ j)) → (i : ℕ) × (entry heights v ≡ Some i) × (i + suc n ≤ k)
    by_next None r e on = cc
    by_next (Some t) r e on =
        let down = on t r.0 r.1 e in
        let less : r.0 < k = r.2 in
        let below : down.0 + n ≤ r.0 = down.2 in
        (down.0, down.1, (let le : down.0 + suc n ≤ k = omega (arith, less, below) in le))

pub never_returns : (next heights : Table) (u k : ℕ) → AreHeights next heights → entry heights u ≡ Some k → Returns next u → ⊥
never_returns next heights u k all high back =
    let down = lower next heights (suc back.0) u u k all high back.2 in
    let same : down.0 ≡ k = (let s : Some down.0 ≡ Some k = sym down.1 ∙ high in cc) in
    let below : down.0 + suc back.0 ≤ k = down.2 in
    absurd (omega (arith, same, below))

-- steps by the table are falls
falls_are_steps : (links : Links) (next : Table) (n u : ℕ) → IsTable links next → after_falls links n u ≡ steps next n u
unfolding steps after_falls
falls_are_steps links next zero u all = refl
falls_are_steps links next (suc n) u all = ap (option_and_then (after_falls links n)) (sym (all u)) ∙ by_entry (entry next u) (λ v. falls_are_steps links next n v all)
  where
    by_entry : (o : Option ℕ) → ((v : ℕ) → after_falls links n v ≡ steps next n v) → option_and_then (after_falls links n) o ≡ option_and_then (steps next n) o
    by_entry None on = refl
    by_entry (Some v) on = on v

on_cycle : (g : List Node) (next : Table) (u : ℕ) → IsTable (fall_links g) next → length next ≡ length g → Returns next u → IsOnCycle g u
on_cycle g next u all size back = (back.0, (let inside : back.0 < length next = back.1 in let h : back.0 < length g = omega (arith, inside, size) in h), falls_are_steps (fall_links g) next (suc back.0) u all ∙ back.2)

off_cycle : (g : List Node) (next : Table) (u : ℕ) → IsTable (fall_links g) next → length next ≡ length g → IsOnCycle g u → Returns next u
off_cycle g next u all size cycle = (cycle.0, (let inside : cycle.0 < length g = cycle.1 in let h : cycle.0 < length next = omega (arith, inside, size) in h), sym (falls_are_steps (fall_links g) next (suc cycle.0) u all) ∙ cycle.2)

abbrev pub IsCyclicExit : List Node → Table → ℕ → Node → Type 0
IsCyclicExit g next b n = SomeCyclic g next b n.targets

pub cyclic_bad : (g : List Node) (next : Table) (b : ℕ) (n : Node) → IsTable (fall_links g) next → length next ≡ length g → b < length g → n ≡ get_or g b n → n.reached ≡ true → SomeCyclic g next b n.targets → BrokenIn g K11 n.exit_at
cyclic_bad g next b n all size inside read here cyclic =
    let node : n ≡ nth g b = nth_read g b n inside read in
    subst (λ (m : Node). m.reached ≡ true → SomeCyclic g next b m.targets → BrokenIn g K11 m.exit_at) (sym node) (λ h c.
    (b, inside, h, ((slice_index (nth g b).targets c.0, c.2.0, any_itself (nth g b).targets c.0 c.1, c.2.1, on_cycle g next c.2.0 all size c.2.2), refl))) here cyclic

pub cycles_fine : (g : List Node) (next : Table) (i : ℕ) → IsTable (fall_links g) next → length next ≡ length g → length g ≤ i → NoneBelow g i (IsCyclicExit g next) → IsUnbroken g K11
cycles_fine g next i all size past none at broken =
    let bad = broken.3.0 in
    let k = member_at (nth g broken.0).targets bad.0 bad.2 in
    none_at_all g i (IsCyclicExit g next) past none (broken.0, broken.1, broken.2, (k.0, k.1, (bad.1, ap (falls_from g broken.0) k.2 ∙ bad.3, off_cycle g next bad.1 all size bad.4)))

pub ruleset climb_rules = (heights_set, ready_before, ready_tail)

pub ruleset height_rules = (heights_none)

pub ruleset return_rules = (turning_start, turning_next, turning_returns, turning_ends, turning_all)

-- an edge that is no fall, and one whose case target is on no cycle
pub no_fall : (g : List Node) (next : Table) (b t : ℕ) → falls_from g b t ≡ None → FallsOnCycle g next b t → ⊥
no_fall g next b t none falls = some_not_none falls.0 (falls_from g b t) none falls.1

pub no_cycle : (g : List Node) (next : Table) (b t u : ℕ) → falls_from g b t ≡ Some u → (Returns next u → ⊥) → FallsOnCycle g next b t → ⊥
no_cycle g next b t u from never falls = never (let same : falls.0 ≡ u = (let s : Some falls.0 ≡ Some u = sym falls.1 ∙ from in cc) in subst (Returns next) same falls.2)

pub ruleset falls_rules = (no_fall, no_cycle)

pub ruleset cycle_rules = (none_start, targets_inside, cyclic_bad)
