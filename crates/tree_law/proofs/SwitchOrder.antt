-- The targets of a switch, as they are written: each once, followed by that into which it falls.
use Rattle.std.proofs.Common.{◌≡◌, ◌<◌, ◌≤◌, ◌+◌, ◌==◌, ◌&&◌, not, ℕ, zero, suc, Bool, true, false, List, [], ◌∷◌, ◌++◌, length, map, filter, cond, Option, Some, None, is_none, if◌then◌else◌, inl, inr, ◌⊎◌, ⊎_elim, refl, sym, ap, ◌∙◌, subst, arith}
use Rattle.std.specs.List.{list_any, concat, range_with_len, filter_map, cons_option}
use Rattle.std.specs.Option.{option_map, option_map_or, option_and_then}
use Rattle.std.proofs.lemmas.Bool.{false≢true, and_parts, and_from, or_cases, or_left, or_right}
use Rattle.std.proofs.lemmas.Bool.Decides.{eqb_tells}
use Rattle.structure_rules.specs.declared.graph.Node.{Node}
use Rattle.structure_rules.specs.declared.graph.Role.{Role}
use Rattle.structure_rules.specs.declared.graph.Role.TheVariants.{First, Merge as MergeOf, Continue, Case as CaseOf, Inside}
use Rattle.structure_rules.specs.declared.graph.Part.{Part}
use Rattle.structure_rules.specs.declared.graph.Part.TheVariants.{If, Loop, Cont, Case}
use Rattle.structure_rules.specs.Graph.{nth, leads_to, edges, is_switch, is_value}
use Rattle.structure_rules.specs.Nesting.{Links, has_link, first_of, role, name_links, case_links, case_targets, header_of}
use Rattle.structure_rules.specs.EdgeKinds.{innermost, case_switch, case_target, case_of, are_same, is_fall, is_enter, entered_from}
use Rattle.structure_rules.specs.Structure.{falls_from, fall_link, fall_links, after_falls}
use Rattle.nest_place.specs.Links.{turned_links}
use Rattle.nest_place.specs.Steps.{IsFormed}
use Rattle.nest_place.specs.Nests.{IsSound}
use Rattle.nest_place.proofs.LinkLemmas.{same_nat, equal_nat, has_first as has_first_link}
use Rattle.nest_place.proofs.Each.{filter_has, has_filter, has_each, link_to}
use Rattle.nest_place.proofs.Parenthood.{no_link, edge_if, case_from, clash_parents, cases_are_parents}
use Rattle.nest_place.proofs.Outward.{reached_inside}
use Rattle.nest_place.proofs.Around.{IsNested, inner_nested, role_facts}
use Rattle.nest_place.proofs.Falling.{fall_from, innermost_is, turned_has, edges_reached}
use Rattle.nest_place.proofs.OneKind.{one_header}
use Rattle.structure_recover.specs.Follows.{switch_targets}
use Rattle.structure_recover.proofs.Rounds.{enters_case}
use Rattle.switch_ladder.specs.Ladder.{fallen_from, begins_chain, chain_of as chain_by, chains_of}
use Rattle.list_law.proofs.Options.{none_by}
use Rattle.region_law.specs.Leads.{In, AreApart, AreInOrder, IsOrder}
use Rattle.tree_law.specs.Chain.{chain, after, chains}
use Rattle.tree_law.proofs.Order.{in_left, in_right, in_either, apart_joined, in_order_on, all_last, has_first, chain_of, in_chains, chains_apart, chains_ordered}

pub in_list : (t : ℕ) (xs : List ℕ) → list_any (λ u. u == t) xs ≡ true → In t xs
in_list t [] e = absurd (false≢true e)
in_list t (x ∷ xs) e = elim (or_cases (x == t) (list_any (λ u. u == t) xs) e) [ inl h ↦ inl (sym (equal_nat x t h)) | inr h ↦ inr (in_list t xs h) ]

pub list_in : (t : ℕ) (xs : List ℕ) → In t xs → list_any (λ u. u == t) xs ≡ true
list_in t [] h = absurd h
list_in t (x ∷ xs) (inl e) = or_left (x == t) (list_any (λ u. u == t) xs) (ap (λ q. x == q) e ∙ same_nat x)
list_in t (x ∷ xs) (inr h) = or_right (x == t) (list_any (λ u. u == t) xs) (list_in t xs h)

pub in_filter : (p : ℕ → Bool) (xs : List ℕ) (t : ℕ) → In t xs → p t ≡ true → In t (filter p xs)
in_filter p xs t h e = in_list t (filter p xs) (has_filter p xs t (list_in t xs h) e)

filter_in : (p : ℕ → Bool) (xs : List ℕ) (t : ℕ) → In t (filter p xs) → In t xs × (p t ≡ true)
filter_in p xs t h = let f = filter_has p xs t (list_in t (filter p xs) h) in (in_list t xs f.0, f.1)

filter_apart : (p : ℕ → Bool) (xs : List ℕ) → AreApart xs → AreApart (filter p xs)
filter_apart p [] a = tt
filter_apart p (x ∷ xs) a =
    let rest = filter_apart p xs a.1 in
    elim (p x) as (λ b. AreApart (cond b (x ∷ filter p xs) (filter p xs))) [ true ↦ ((λ h. a.0 (filter_in p xs x h).0), rest) | false ↦ rest ]

range_low : (a n t : ℕ) → In t (range_with_len a n) → a ≤ t
range_low a zero t h = absurd h
range_low a (suc n) t (inl e) = omega (arith, e)
range_low a (suc n) t (inr h) = let low = range_low (a + 1) n t h in omega (arith, low)

pub range_apart : (a n : ℕ) → AreApart (range_with_len a n)
range_apart a zero = tt
range_apart a (suc n) = ((λ h. let low = range_low (a + 1) n a h in absurd (omega (arith, low))), range_apart (a + 1) n)

pub in_range : (a n t : ℕ) → a ≤ t → t < a + n → In t (range_with_len a n)
in_range a zero t low high = absurd (omega (arith, low, high))
in_range a (suc n) t low high = elim (eqb_tells a t) [ inl w ↦ inl (sym w.1) | inr w ↦ inr (in_range (a + 1) n t (above w.1) (omega (arith, high))) ]
  where
    above : (a ≡ t → ⊥) → a + 1 ≤ t
    above apart = by_less (a + 1) refl
      where
        by_less : (k : ℕ) → k ≡ a + 1 → a + 1 ≤ t
        by_less k is = elim (at_least a t low) [ inl e ↦ absurd (apart e) | inr l ↦ l ]
          where
            at_least : (a t : ℕ) → a ≤ t → (a ≡ t) ⊎ (a + 1 ≤ t)
            at_least zero zero l = inl refl
            at_least zero (suc t) l = inr (omega arith)
            at_least (suc a) zero l = absurd (omega (arith, l))
            at_least (suc a) (suc t) l = elim (at_least a t (omega (arith, l))) [ inl e ↦ inl (ap (λ k. suc k) e) | inr m ↦ inr (omega (arith, m)) ]

-- a chain of links is a chain by the first of them
same_chain : (links : Links) (n t : ℕ) → chain_by links n t ≡ chain (first_of links) n t
same_chain links zero t = refl
same_chain links (suc n) t = by_first (first_of links t) (λ u. same_chain links n u)
  where
    by_first : (o : Option ℕ) → ((u : ℕ) → chain_by links n u ≡ chain (first_of links) n u) → t ∷ option_map_or (chain_by links n) o [] ≡ t ∷ option_map_or (chain (first_of links) n) o []
    by_first None on = refl
    by_first (Some u) on = ap (λ c. t ∷ c) (on u)

same_chains : (links : Links) (n : ℕ) (ss : List ℕ) → concat (map (chain_by links n) ss) ≡ chains (first_of links) n ss
same_chains links n [] = refl
same_chains links n (s ∷ ss) = ap (λ c. c ++ concat (map (chain_by links n) ss)) (same_chain links n s) ∙ ap (λ c. chain (first_of links) n s ++ c) (same_chains links n ss)

same_after : (links : Links) (n t : ℕ) → after_falls links n t ≡ after (first_of links) n t
unfolding after_falls
same_after links zero t = refl
same_after links (suc n) t = by_first (first_of links t) (λ u. same_after links n u)
  where
    by_first : (o : Option ℕ) → ((u : ℕ) → after_falls links n u ≡ after (first_of links) n u) → option_and_then (after_falls links n) o ≡ option_and_then (after (first_of links) n) o
    by_first None on = refl
    by_first (Some u) on = on u

same_case : (s : ℕ) (r : Role) → is_value s (case_of r) ≡ true → r ≡ CaseOf s
same_case s First e = cc
same_case s (MergeOf h) e = cc
same_case s (Continue h) e = cc
same_case s (CaseOf r) e = ap (λ q. CaseOf q) (equal_nat r s e)
same_case s (Inside p) e = cc

-- a case falls into one of the same switch
pub record IsFall (g : List Node) (u t : ℕ) : Type 0 where
  pub switch : ℕ
  pub from : role g u ≡ CaseOf switch
  pub to : role g t ≡ CaseOf switch
  pub from_reached : (nth g u).reached ≡ true
  pub to_reached : (nth g t).reached ≡ true

none_some : (x : ℕ) (o : Option ℕ) → is_none o ≡ true → o ≡ Some x → ⊥
none_some x None e is = cc
none_some x (Some y) e is = cc

cons_has : (o : Option (ℕ × ℕ)) (ls : Links) (a b : ℕ) → has_link ls a b ≡ true → has_link (cons_option o ls) a b ≡ true
cons_has None ls a b e = e
cons_has (Some l) ls a b e = or_right ((l.0 == a) && (l.1 == b)) (has_link ls a b) e

links_in : (g : List Node) (b t u : ℕ) (ts : List ℕ) → list_any (λ x. x == t) ts ≡ true → falls_from g b t ≡ Some u → has_link (filter_map (fall_link g b) ts) u t ≡ true
links_in g b t u [] e is = cc
links_in g b t u (x ∷ ts) e is = elim (or_cases (x == t) (list_any (λ y. y == t) ts) e) [
  | inl here ↦
      let one : fall_link g b x ≡ Some (u, t) = ap (fall_link g b) (equal_nat x t here) ∙ ap (λ o. option_map (λ v. (v, t)) o) is in
      subst (λ o. has_link (cons_option o (filter_map (fall_link g b) ts)) u t ≡ true) (sym one) (or_left ((u == u) && (t == t)) (has_link (filter_map (fall_link g b) ts) u t) (and_from (u == u) (t == t) (same_nat u) (same_nat t)))
  | inr there ↦ cons_has (fall_link g b x) (filter_map (fall_link g b) ts) u t (links_in g b t u ts there is)
]

fall_to : (g : List Node) (b t u : ℕ) → (nth g b).reached ≡ true → leads_to t (nth g b) ≡ true → falls_from g b t ≡ Some u → has_link (fall_links g) u t ≡ true
unfolding fall_links
fall_to g b t u here leads falls =
    let own : 0 + b ≡ b = omega arith in
    has_each (λ b n. filter_map (fall_link g b) (edges n)) 0 g b u t (reached_inside g b here)
    (subst (λ k. has_link (filter_map (fall_link g k) (edges (nth g b))) u t ≡ true) (sym own)
    (links_in g b t u (edges (nth g b)) (subst (λ ts. list_any (λ x. x == t) ts ≡ true) (sym (edges_reached (nth g b) here)) leads) falls))

module _ (g : List Node) (sound : IsSound g) where
  abbrev next : ℕ → Option ℕ
  next = first_of (fall_links g)

  single_next : (u t : ℕ) → has_link (fall_links g) u t ≡ true → next u ≡ Some t
  single_next u t e = by_first (next u) refl
    where
      by_first : (o : Option ℕ) → next u ≡ o → o ≡ Some t
      by_first None is = absurd (no_link (fall_links g) u t is e)
      by_first (Some v) is = elim (eqb_tells v t) [
        | inl w ↦ ap (λ q. Some q) w.1
        | inr w ↦ absurd (sound.fine.1.1.1.1.1.1.1.1.0 (nth g u).at (u, v, t, has_first_link (fall_links g) u v is, e, w.1, refl))
      ]

  single_prev : (t u : ℕ) → has_link (fall_links g) u t ≡ true → fallen_from g t ≡ Some u
  single_prev t u e = by_first (fallen_from g t) refl
    where
      by_first : (o : Option ℕ) → fallen_from g t ≡ o → o ≡ Some u
      by_first None is = absurd (no_link (turned_links (fall_links g)) t u is (turned_has (fall_links g) t u ∙ e))
      by_first (Some v) is = elim (eqb_tells v u) [
        | inl w ↦ ap (λ q. Some q) w.1
        | inr w ↦ absurd (sound.fine.1.1.1.1.1.1.1.1.1.0 (nth g t).at (t, v, u, sym (turned_has (fall_links g) t v) ∙ has_first_link (turned_links (fall_links g)) t v is, e, w.1, refl))
      ]

  -- an edge that falls is one of the links
  pub fall_links_are : (b t u : ℕ) → (nth g b).reached ≡ true → leads_to t (nth g b) ≡ true → falls_from g b t ≡ Some u → next u ≡ Some t
  fall_links_are b t u here leads falls = single_next u t (fall_to g b t u here leads falls)

  there : (t u : ℕ) → next t ≡ Some u → fallen_from g u ≡ Some t
  there t u e = single_prev u t (has_first_link (fall_links g) t u e)

  pub back : (t u : ℕ) → fallen_from g u ≡ Some t → next t ≡ Some u
  back t u e = single_next t u (sym (turned_has (fall_links g) u t) ∙ has_first_link (turned_links (fall_links g)) u t e)

  pub fall_is : (u t : ℕ) → next u ≡ Some t → IsFall g u t
  fall_is u t e =
      let from = fall_from g u t (has_first_link (fall_links g) u t e) in
      by_fall from.0 from.2 from.3 (is_fall g from.0 t) refl from.4
    where
      by_part : (b : ℕ) → (nth g b).reached ≡ true → leads_to t (nth g b) ≡ true → (o : Option Part) → innermost g b ≡ o → option_and_then case_target o ≡ Some u → are_same (option_and_then case_switch o) (case_of (role g t)) ≡ true → IsFall g u t
      by_part b here leads None is e same = cc
      by_part b here leads (Some (If h)) is e same = cc
      by_part b here leads (Some (Loop h)) is e same = cc
      by_part b here leads (Some (Cont h)) is e same = cc
      by_part b here leads (Some (Case s v)) is e same =
          let first = innermost_is g b (Case s v) is in
          let nested : IsNested g (suc b) (Case s v ∷ first.0) = subst (IsNested g (suc b)) first.1 (inner_nested g b sound.grounded here) in
          let own : v ≡ u = cc in
          record {
            switch = s;
            from = subst (λ q. role g q ≡ CaseOf s) own nested.2.1;
            to = same_case s (role g t) same;
            from_reached = subst (λ q. (nth g q).reached ≡ true) own nested.2.2;
            to_reached = sound.reached b t here leads;
          }

      by_fall : (b : ℕ) → (nth g b).reached ≡ true → leads_to t (nth g b) ≡ true → (q : Bool) → is_fall g b t ≡ q → (if q then option_and_then case_target (innermost g b) else None) ≡ Some u → IsFall g u t
      by_fall b here leads false is e = cc
      by_fall b here leads true is e = by_part b here leads (innermost g b) refl e (and_parts _ _ is).0

  below : (t u : ℕ) → next t ≡ Some u → u < length g
  below t u e = reached_inside g u (fall_is t u e).to_reached

  low : (t u : ℕ) → next t ≡ Some u → t < length g
  low t u e = reached_inside g t (fall_is t u e).from_reached

  no_cycle : (t n : ℕ) → n < length g → after next (suc n) t ≡ Some t → ⊥
  no_cycle t n less e = by_next (next t) refl e
    where
      by_next : (o : Option ℕ) → next t ≡ o → option_and_then (after next n) o ≡ Some t → ⊥
      by_next None is h = cc
      by_next (Some v) is h =
          let from = fall_from g t v (has_first_link (fall_links g) t v is) in
          sound.fine.1.1.1.1.1.1.1.1.1.1.0 (nth g from.0).exit_at (from.0, from.1, from.2, ((v, t, from.3, from.4, (n, less, same_after (fall_links g) (suc n) t ∙ e)), refl))

  keeps : (h n t x : ℕ) → In x (chain next n t) → role g t ≡ CaseOf h → role g x ≡ CaseOf h
  keeps h zero t x i r = absurd i
  keeps h (suc n) t x (inl e) r = ap (role g) e ∙ r
  keeps h (suc n) t x (inr i) r = by_next (next t) refl i (λ u q w. keeps h n u x q w)
    where
      by_next : (o : Option ℕ) → next t ≡ o → In x (option_map_or (chain next n) o []) → ((u : ℕ) → In x (chain next n u) → role g u ≡ CaseOf h → role g x ≡ CaseOf h) → role g x ≡ CaseOf h
      by_next None is i on = absurd i
      by_next (Some u) is i on =
          let fall = fall_is t u is in
          let same : CaseOf fall.switch ≡ CaseOf h = sym fall.from ∙ r in
          on u i (fall.to ∙ same)

  keeps_back : (h n t x : ℕ) → In x (chain next n t) → role g x ≡ CaseOf h → role g t ≡ CaseOf h
  keeps_back h zero t x i r = absurd i
  keeps_back h (suc n) t x (inl e) r = ap (role g) (sym e) ∙ r
  keeps_back h (suc n) t x (inr i) r = by_next (next t) refl i (λ u q w. keeps_back h n u x q w)
    where
      by_next : (o : Option ℕ) → next t ≡ o → In x (option_map_or (chain next n) o []) → ((u : ℕ) → In x (chain next n u) → role g x ≡ CaseOf h → role g u ≡ CaseOf h) → role g t ≡ CaseOf h
      by_next None is i on = absurd i
      by_next (Some u) is i on =
          let fall = fall_is t u is in
          let same : CaseOf fall.switch ≡ CaseOf h = sym fall.to ∙ on u i r in
          fall.from ∙ same

  formed : IsFormed g
  formed = record { within = sound.within; reached = sound.reached; first = sound.fine.1.0; single = λ t h e. single t h e }
    where
      single : (t h : ℕ) → has_link (name_links g) t h ≡ true → first_of (name_links g) t ≡ Some h
      single t h e = by_first (first_of (name_links g) t) refl
        where
          by_first : (o : Option ℕ) → first_of (name_links g) t ≡ o → o ≡ Some h
          by_first None is = absurd (no_link (name_links g) t h is e)
          by_first (Some k) is = ap (λ q. Some q) (one_header g sound t k h (has_first_link (name_links g) t k is) e)

  -- a case target of a switch is of no other
  pub switch_own : (t h q : ℕ) → (nth g h).reached ≡ true → is_switch (nth g h).exit ≡ true → leads_to t (nth g h) ≡ true → role g t ≡ CaseOf q → q ≡ h
  unfolding case_links
  switch_own t h q here is leads r = elim (eqb_tells q h) [
    | inl w ↦ w.1
    | inr w ↦ absurd (sound.fine.1.1.1.0 (nth g t).at (clash_parents g (case_links g) (record { block = t; first = q; second = h }) (cases_are_parents g formed) (first, second, w.1)))
  ]
    where
      facts : (header_of g t ≡ None) × (first_of (case_links g) t ≡ Some q)
      facts = (role_facts g t).cased q r

      first : has_link (case_links g) t q ≡ true
      first = has_first_link (case_links g) t q facts.1

      second : has_link (case_links g) t h ≡ true
      second =
          link_to (λ s n. case_targets g n) g t h (reached_inside g h here)
          (subst (λ b. list_any (λ x. x == t) (if b then filter (λ k. is_none (header_of g k)) (edges (nth g h)) else []) ≡ true) (sym is)
          (has_filter (λ k. is_none (header_of g k)) (edges (nth g h)) t (subst (λ ts. list_any (λ x. x == t) ts ≡ true) (sym (edges_reached (nth g h) here)) leads) (ap is_none facts.0)))

  pub enters_own : (t h : ℕ) → role g t ≡ CaseOf h → is_enter g h t ≡ true
  enters_own t h r = ap (λ q. is_value h (entered_from q)) r ∙ same_nat h

  module _ (h : ℕ) (here : (nth g h).reached ≡ true) (is : is_switch (nth g h).exit ≡ true) where
    abbrev starts : List ℕ
    starts = filter (begins_chain g h) (switch_targets g h)

    leads_of : (t : ℕ) → In t (switch_targets g h) → leads_to t (nth g h) ≡ true
    leads_of t i = (filter_in (λ t. leads_to t (nth g h)) (range_with_len 0 (length g)) t i).1

    target_of : (t : ℕ) → role g t ≡ CaseOf h → In t (switch_targets g h)
    target_of t r =
        let link = has_first_link (case_links g) t h ((role_facts g t).cased h r).1 in
        let edge = edge_if (nth g h) t (case_from g t h link).2 in
        let inside : t < length g = reached_inside g t (sound.reached h t here edge.1) in
        in_filter (λ t. leads_to t (nth g h)) (range_with_len 0 (length g)) t (in_range 0 (length g) t (omega arith) (omega (arith, inside))) edge.1

    start_role : (s : ℕ) → In s starts → (role g s ≡ CaseOf h) × (fallen_from g s ≡ None)
    start_role s i =
        let f = filter_in (begins_chain g h) (switch_targets g h) s i in
        let tests = and_parts (is_enter g h s) (is_none (fallen_from g s)) f.1 in
        (enters_case g h s sound here is (leads_of s f.0) tests.0, none_by (fallen_from g s) tests.1)

    role_start : (s : ℕ) → role g s ≡ CaseOf h → fallen_from g s ≡ None → In s starts
    role_start s r none = in_filter (begins_chain g h) (switch_targets g h) s (target_of s r) (and_from (is_enter g h s) (is_none (fallen_from g s)) (enters_own s h r) (ap is_none none))

    inside : (t : ℕ) → role g t ≡ CaseOf h → t < length g
    inside t r = (filter_low t (target_of t r))
      where
        filter_low : (t : ℕ) → In t (switch_targets g h) → t < length g
        filter_low t i = reached_inside g t (sound.reached h t here (leads_of t i))

    chained_role : (x : ℕ) → In x (chains next (length g) starts) → role g x ≡ CaseOf h
    chained_role x i =
        let c = chain_of next (fallen_from g) (length g) there back below low no_cycle x starts i in
        keeps h (length g) c.0 x c.2 (start_role c.0 c.1).0

    role_chained : (x : ℕ) → role g x ≡ CaseOf h → In x (chains next (length g) starts)
    role_chained x r =
        let f = has_first next (fallen_from g) (length g) there back below low no_cycle x (inside x r) in
        in_chains next (fallen_from g) (length g) there back below low no_cycle x f.0 starts (role_start f.0 (keeps_back h (length g) f.0 x f.2 r) f.1) f.2

    -- the chains, and then the targets that stand in none
    by_chains : (cs : List ℕ) → cs ≡ chains next (length g) starts → IsOrder next (cs ++ filter (λ t. not (list_any (λ u. u == t) cs)) (switch_targets g h)) (switch_targets g h)
    by_chains cs same = record {
      apart =
          apart_joined cs others
          (subst AreApart (sym same) (chains_apart next (fallen_from g) (length g) there back below low no_cycle starts (filter_apart (begins_chain g h) (switch_targets g h) all_apart) (λ s i. (start_role s i).1)))
          (filter_apart (λ t. not (list_any (λ u. u == t) cs)) (switch_targets g h) all_apart)
          (λ x l r. not_both x l r);
      all_apart = all_apart;
      in_all = λ t i. ⊎_elim (λ l. target_of t (chained_role t (subst (In t) same l))) (λ r. (filter_in (λ t. not (list_any (λ u. u == t) cs)) (switch_targets g h) t r).0) (in_either t cs others i);
      in_order = λ t i. by_test t i (list_any (λ u. u == t) cs) refl;
      falls_on =
          in_order_on next cs others
          (subst (AreInOrder next) (sym same) (chains_ordered next (fallen_from g) (length g) there back below low no_cycle starts (λ s i. inside s (start_role s i).0)))
          (all_last next others (λ x i. last x i (next x) refl));
    }
      where
        others : List ℕ
        others = filter (λ t. not (list_any (λ u. u == t) cs)) (switch_targets g h)

        all_apart : AreApart (switch_targets g h)
        all_apart = filter_apart (λ t. leads_to t (nth g h)) (range_with_len 0 (length g)) (range_apart 0 (length g))

        not_both : (x : ℕ) → In x cs → In x others → ⊥
        not_both x l r =
            let in_cs = list_in x cs l in
            let not_in = (filter_in (λ t. not (list_any (λ u. u == t) cs)) (switch_targets g h) x r).1 in
            let never : false ≡ true = ap not (sym in_cs) ∙ not_in in false≢true never

        by_test : (t : ℕ) → In t (switch_targets g h) → (b : Bool) → list_any (λ u. u == t) cs ≡ b → In t (cs ++ others)
        by_test t i true e = in_left t cs others (in_list t cs e)
        by_test t i false e = in_right t cs others (in_filter (λ t. not (list_any (λ u. u == t) cs)) (switch_targets g h) t i (ap not e))

        last : (x : ℕ) → In x others → (o : Option ℕ) → next x ≡ o → next x ≡ None
        last x i None e = e
        last x i (Some u) e =
            let fall = fall_is x u e in
            let target = (filter_in (λ t. not (list_any (λ u. u == t) cs)) (switch_targets g h) x i).0 in
            let own = switch_own x h fall.switch here is (leads_of x target) fall.from in
            absurd (not_both x (subst (In x) (sym same) (role_chained x (fall.from ∙ ap (λ q. CaseOf q) own))) i)

    pub order_is : IsOrder next (concat (chains_of g h) ++ filter (λ t. not (list_any (λ u. u == t) (concat (chains_of g h)))) (switch_targets g h)) (switch_targets g h)
    order_is = by_chains (concat (chains_of g h)) (same_chains (fall_links g) (length g) starts)
