-- A case target into which another falls is the target of one switch: so what the switches that are reached count for it counts once.
use Rattle.std.proofs.Common.{◌≡◌, ◌+◌, ◌<◌, ◌&&◌, ℕ, Bool, true, false, List, [], ◌∷◌, length, filter, Option, Some, None, refl, sym, ap, ◌∙◌, arith, if◌then◌else◌}
use Rattle.std.specs.List.{range_with_len}
use Rattle.std.proofs.lemmas.Bool.{and_parts}
use Rattle.structure_rules.specs.declared.graph.Node.{Node}
use Rattle.structure_rules.specs.Graph.{nth, leads_to, is_switch}
use Rattle.structure_rules.specs.Nesting.{case_links}
use Rattle.nest_place.specs.Nests.{IsSound}
use Rattle.nest_place.proofs.LinkLemmas.{has_first}
use Rattle.nest_place.proofs.Parenthood.{edge_if, case_from}
use Rattle.nest_place.proofs.Outward.{reached_inside}
use Rattle.nest_place.proofs.Around.{role_facts}
use Rattle.structure_recover.specs.Follows.{switch_targets}
use Rattle.structure_recover.proofs.Counting.{kid_sum}
use Rattle.switch_ladder.specs.Ladder.{fallen_from}
use Rattle.tree_law.proofs.SwitchOrder.{in_range, range_apart, switch_own, back, fall_is}
use Rattle.text_law.proofs.Variables.Sums.{sum_same, sum_both, sum_none, sum_only, only, only_other, only_own}
use Rattle.text_law.proofs.Variables.Totals.{if_reached}

pub swapped : (F : ℕ → ℕ → ℕ) (as' bs : List ℕ) → kid_sum (λ a. kid_sum (F a) bs) as' ≡ kid_sum (λ b. kid_sum (λ a. F a b) as') bs
swapped F [] bs = sym (sum_none (λ b. 0) bs (λ b i. refl))
swapped F (a ∷ as') bs = let rest = swapped F as' bs in let both = sum_both (F a) (λ b. kid_sum (λ c. F c b) as') bs in omega (arith, rest, both)

pub sum_filtered : (v : ℕ → ℕ) (p : ℕ → Bool) (ts : List ℕ) → kid_sum v (filter p ts) ≡ kid_sum (λ t. if p t then v t else 0) ts
sum_filtered v p [] = refl
sum_filtered v p (t ∷ ts) = by_test (p t) (sum_filtered v p ts)
  where
    by_test : (b : Bool) → kid_sum v (filter p ts) ≡ kid_sum (λ u. if p u then v u else 0) ts → kid_sum v (if b then t ∷ filter p ts else filter p ts) ≡ (if b then v t else 0) + kid_sum (λ u. if p u then v u else 0) ts
    by_test true e = omega (arith, e)
    by_test false e = omega (arith, e)

-- what a switch counts for its targets
abbrev pub of_switch : List Node → (ℕ → ℕ) → ℕ → ℕ
of_switch g v h = if is_switch (nth g h).exit then kid_sum v (switch_targets g h) else 0

module _ (g : List Node) (sound : IsSound g) (v : ℕ → ℕ) (none : (t : ℕ) → fallen_from g t ≡ None → v t ≡ 0) where
  abbrev all : List ℕ
  all = range_with_len 0 (length g)

  abbrev is_of : ℕ → ℕ → Bool
  is_of h t = (nth g h).reached && (is_switch (nth g h).exit && leads_to t (nth g h))

  abbrev one_target : ℕ → ℕ → ℕ
  one_target h t = if is_of h t then v t else 0

  by_targets : (h : ℕ) → if_reached g (of_switch g v) h ≡ kid_sum (one_target h) all
  by_targets h = by_tests (nth g h).reached (is_switch (nth g h).exit)
    where
      by_tests : (a b : Bool) → (if a then (if b then kid_sum v (switch_targets g h) else 0) else 0) ≡ kid_sum (λ t. if a && (b && leads_to t (nth g h)) then v t else 0) all
      by_tests true true = sum_filtered v (λ t. leads_to t (nth g h)) all
      by_tests true false = sym (sum_none (λ t. 0) all (λ t i. refl))
      by_tests false b = sym (sum_none (λ t. 0) all (λ t i. refl))

  -- the switch of a case target
  record IsSwitchOf (t : ℕ) : Type 0 where
    pub switch : ℕ
    pub within : switch < length g
    pub of_it : is_of switch t ≡ true
    pub alone : (h : ℕ) → is_of h t ≡ true → switch ≡ h

  switch_of_target : (t u : ℕ) → fallen_from g t ≡ Some u → IsSwitchOf t
  switch_of_target t u is =
      let fall = fall_is g sound u t (back g sound u t is) in
      let s = fall.switch in
      let link = has_first (case_links g) t s ((role_facts g t).cased s fall.to).1 in
      let from = case_from g t s link in
      let edge = edge_if (nth g s) t from.2 in
      record {
        switch = s;
        within = reached_inside g s edge.0;
        of_it = ap (λ (a : Bool). a && (is_switch (nth g s).exit && leads_to t (nth g s))) edge.0 ∙ (ap (λ (a : Bool). a && leads_to t (nth g s)) from.1 ∙ edge.1);
        alone = λ h on.
            let a = and_parts (nth g h).reached (is_switch (nth g h).exit && leads_to t (nth g h)) on in
            let b = and_parts (is_switch (nth g h).exit) (leads_to t (nth g h)) a.1 in
            switch_own g sound t h s a.0 b.0 b.1 fall.to;
      }

  by_switches : (t : ℕ) → kid_sum (λ h. one_target h t) all ≡ v t
  by_switches t = by_fall (fallen_from g t) refl
    where
      nothing : v t ≡ 0 → (b : Bool) → (if b then v t else 0) ≡ 0
      nothing zero_is true = zero_is
      nothing zero_is false = refl

      by_fall : (o : Option ℕ) → fallen_from g t ≡ o → kid_sum (λ h. one_target h t) all ≡ v t
      by_fall None is = sum_none (λ h. one_target h t) all (λ h i. nothing (none t is) (is_of h t)) ∙ sym (none t is)
      by_fall (Some u) is =
          let w = switch_of_target t u is in
          sum_same (λ h. one_target h t) (only w.switch (v t)) all (λ h i. each w h (is_of h t) refl)
          ∙ sum_only w.switch (v t) all (range_apart 0 (length g)) (let less = w.within in in_range 0 (length g) w.switch (omega arith) (omega (arith, less)))
        where
          each : (w : IsSwitchOf t) (h : ℕ) (b : Bool) → is_of h t ≡ b → (if b then v t else 0) ≡ only w.switch (v t) h
          each w h true on = sym (only_own w.switch (v t) h (w.alone h on))
          each w h false off = sym (only_other w.switch (v t) h (λ same. clash (sym w.of_it ∙ (ap (λ k. is_of k t) same ∙ off))))
            where
              clash : true ≡ false → ⊥
              clash e = cc

  pub falls_once : kid_sum (if_reached g (of_switch g v)) all ≡ kid_sum v all
  falls_once =
      sum_same (if_reached g (of_switch g v)) (λ h. kid_sum (one_target h) all) all (λ h i. by_targets h)
      ∙ (swapped one_target all all
      ∙ sum_same (λ t. kid_sum (λ h. one_target h t) all) v all (λ t i. by_switches t))
