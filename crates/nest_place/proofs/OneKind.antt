-- Where no rule of structured control flow is broken, an edge has one kind.
use Rattle.std.proofs.Common.{◌≡◌, ◌≢◌, ◌<◌, ◌==◌, ◌&&◌, ◌||◌, ◌⊎◌, not, ℕ, suc, Bool, true, false, List, [], ◌∷◌, ◌++◌, if◌then◌else◌, Option, Some, None, refl, ap, sym, ◌∙◌, subst, inl, inr, arith, MatchOption}
use Rattle.std.specs.List.{list_any, find, slice_get}
use Rattle.std.specs.Option.{option_and_then}
use Rattle.std.proofs.lemmas.Bool.Decides.{eqb_tells}
use Rattle.std.proofs.lemmas.Bool.{and_parts, or_left, or_right, false_from_ne_true, not-false}
use Rattle.structure_rules.specs.declared.graph.Merge.{Merge}
use Rattle.structure_rules.specs.declared.graph.Merge.TheVariants.{Absent, Selection, Loop as LoopMerge}
use Rattle.structure_rules.specs.declared.graph.Exit.{Exit}
use Rattle.structure_rules.specs.declared.graph.Exit.TheVariants.{Branch, Conditional, Switch, Leave}
use Rattle.structure_rules.specs.declared.graph.Node.{Node}
use Rattle.structure_rules.specs.declared.graph.Role.{Role}
use Rattle.structure_rules.specs.declared.graph.Role.TheVariants.{First, Merge as MergeOf, Continue, Case as CaseOf, Inside}
use Rattle.structure_rules.specs.declared.graph.Part.{Part}
use Rattle.structure_rules.specs.declared.graph.Part.TheVariants.{If, Loop, Cont, Case}
use Rattle.structure_rules.specs.declared.graph.EdgeKind.{EdgeKind}
use Rattle.structure_rules.specs.declared.graph.EdgeKind.TheVariants as kind
use Rattle.structure_rules.specs.Graph.{nth, named, is_value, is_conditional, is_switch, is_selection, merge_block, merge_named, continue_target, continue_named, leads_to}
use Rattle.structure_rules.specs.Nesting.{name_links, has_link, first_of, header_of, other_than, role_by, role, switch_of, entry_links, parent_of, own_part, opened, place, place_step, inner}
use Rattle.structure_rules.specs.EdgeKinds.{is_if, is_loop, loop_header, body_header, continue_header, if_header, case_switch, case_target, nearest_loop, innermost, innermost_switch, merges_to, continues_to, is_back, is_continue, is_break, is_switch_break, is_merge_edge, is_fall, is_enter, case_of, entered_from, are_same, has_kind, has_some_kind}
use Rattle.structure_rules.specs.Structure.{names_twice, names_badly, is_shared}
use Rattle.nest_place.specs.Nests.{IsSound}
use Rattle.nest_place.proofs.LinkLemmas.{same_nat, equal_nat, has_first}
use Rattle.nest_place.proofs.Naming.{name_from, name_to, other_link, shared_any}
use Rattle.nest_place.proofs.Parenthood.{no_link}
use Rattle.nest_place.proofs.Outward.{place_is, reached_inside}
use Rattle.nest_place.proofs.Around.{header, IsLoopMerge, IsNested, role_facts, case_switch_is, inner_nested, place_nested}
use Rattle.nest_place.proofs.Falling.{innermost_is}

pub value_some : (x : ℕ) (o : Option ℕ) → is_value x o ≡ true → o ≡ Some x
value_some x None e = cc
value_some x (Some y) e = ap (λ q. Some q) (equal_nat y x e)

-- a block has one header
pub one_header : (g : List Node) → IsSound g → (t h k : ℕ) → has_link (name_links g) t h ≡ true → has_link (name_links g) t k ≡ true → h ≡ k
one_header g sound t h k one two =
    elim (eqb_tells h k) [
      | inl w ↦ w.1
      | inr w ↦
          let from = name_from g t k two in
          let shared : is_shared g k t ≡ true = other_link t k (name_links g) h one w.1 in
          let badly : names_badly g k (nth g k) ≡ true = or_right (is_value k (merge_named (nth g k).merge)) _ (or_right (names_twice (nth g k).merge) _ (shared_any g k t (named (nth g k).merge) from.2 shared)) in
          absurd (sound.fine.1.1.0 (nth g k).merge_at (k, from.0, from.1, (badly, refl)))
    ]

-- a header is not its own merge block
pub not_own : (g : List Node) → IsSound g → (h : ℕ) → (nth g h).reached ≡ true → merge_block g h ≡ Some h → ⊥
not_own g sound h here own =
    sound.fine.1.1.0 (nth g h).merge_at (h, reached_inside g h here, here, (or_left _ _ (ap (is_value h) own ∙ same_nat h), refl))

twice_by : (m : Merge) (t : ℕ) → merge_named m ≡ Some t → continue_named m ≡ Some t → names_twice m ≡ true
twice_by Absent t a b = cc
twice_by (Selection m) t a b = cc
twice_by (LoopMerge m c) t a b = let one : m ≡ t = cc in let two : c ≡ t = cc in ap (λ q. q == c) (one ∙ sym two) ∙ same_nat c

-- the merge block of a loop is not its continue target
pub not_twice : (g : List Node) → IsSound g → (h t : ℕ) → (nth g h).reached ≡ true → merge_block g h ≡ Some t → continue_target g h ≡ Some t → ⊥
not_twice g sound h t here merge target =
    sound.fine.1.1.0 (nth g h).merge_at (h, reached_inside g h here, here, (or_right (is_value h (merge_named (nth g h).merge)) _ (or_left (names_twice (nth g h).merge) _ (twice_by (nth g h).merge t merge target)), refl))

both_false : (a b : Bool) → a ≡ true → ((a && b) ≡ true → ⊥) → b ≡ false
both_false true b e never = false_from_ne_true b never
both_false false b e never = cc

-- a switch has a selection
pub switch_selects : (g : List Node) → IsSound g → (s : ℕ) → (nth g s).reached ≡ true → is_switch (nth g s).exit ≡ true → is_selection (nth g s).merge ≡ true
switch_selects g sound s here switch =
    not-false (is_selection (nth g s).merge) (both_false (is_switch (nth g s).exit) (not (is_selection (nth g s).merge)) switch (λ bad.
    sound.fine.0 (nth g s).exit_at (s, reached_inside g s here, here, inr (bad, refl))))

pub selection_names : (m : Merge) (t : ℕ) → merge_named m ≡ Some t → list_any (λ x. x == t) (named m) ≡ true
selection_names Absent t e = cc
selection_names (Selection m) t e = let same : m ≡ t = cc in or_left _ _ (ap (λ q. q == t) same ∙ same_nat t)
selection_names (LoopMerge m c) t e = let same : m ≡ t = cc in or_left _ _ (ap (λ q. q == t) same ∙ same_nat t)

pub target_names : (m : Merge) (t : ℕ) → continue_named m ≡ Some t → list_any (λ x. x == t) (named m) ≡ true
target_names Absent t e = cc
target_names (Selection m) t e = cc
target_names (LoopMerge m c) t e = let same : c ≡ t = cc in or_right (m == t) _ (or_left _ _ (ap (λ q. q == t) same ∙ same_nat t))

pub merge_link : (g : List Node) (t h : ℕ) → (nth g h).reached ≡ true → merge_block g h ≡ Some t → has_link (name_links g) t h ≡ true
merge_link g t h here e = name_to g t h (reached_inside g h here) here (selection_names (nth g h).merge t e)

pub target_link : (g : List Node) (t h : ℕ) → (nth g h).reached ≡ true → continue_target g h ≡ Some t → has_link (name_links g) t h ≡ true
target_link g t h here e = name_to g t h (reached_inside g h here) here (target_names (nth g h).merge t e)

-- another block that a header names has that header
pub header_is : (g : List Node) → IsSound g → (t h : ℕ) → has_link (name_links g) t h ≡ true → h ≢ t → header_of g t ≡ Some h
header_is g sound t h link apart = by_first (first_of (name_links g) t) refl
  where
    by_apart : (k : ℕ) → k ≢ t → other_than t (Some k) ≡ Some k
    by_apart k far = elim (eqb_tells k t) [ inl w ↦ absurd (far w.1) | inr w ↦ ap (λ b. if b then None else Some k) w.0 ]

    by_first : (o : Option ℕ) → first_of (name_links g) t ≡ o → other_than t o ≡ Some h
    by_first None is = absurd (no_link (name_links g) t h is link)
    by_first (Some k) is =
        let same : k ≡ h = one_header g sound t k h (has_first (name_links g) t k is) link in
        ap (λ q. other_than t (Some q)) same ∙ by_apart h apart

-- the nearest loop among constructs
nested_loop : (g : List Node) (n : ℕ) (ps : List Part) (p : Part) → IsNested g n ps → find is_loop ps ≡ Some p → (header p < n) × ((nth g (header p)).reached ≡ true) × IsLoopMerge (nth g (header p)).merge
nested_loop g n [] p is e = cc
nested_loop g n (If h ∷ ps) p is e = let later = nested_loop g h ps p is.4 e in ((let less : header p < h = later.0 in let more : h < n = is.0 in let lt : header p < n = omega (arith, less, more) in lt), later.1, later.2)
nested_loop g n (Loop h ∷ ps) p is e = let same : Loop h ≡ p = cc in subst (λ q. (header q < n) × ((nth g (header q)).reached ≡ true) × IsLoopMerge (nth g (header q)).merge) same (is.0, is.1, is.2)
nested_loop g n (Cont h ∷ ps) p is e = let same : Cont h ≡ p = cc in subst (λ q. (header q < n) × ((nth g (header q)).reached ≡ true) × IsLoopMerge (nth g (header q)).merge) same (is.0, is.1, is.2)
nested_loop g n (Case s t ∷ ps) p is e = let later = nested_loop g s ps p is.4 e in ((let less : header p < s = later.0 in let more : s < n = is.0 in let lt : header p < n = omega (arith, less, more) in lt), later.1, later.2)

-- the innermost case construct with no loop before it
pub record IsSwitchOf (g : List Node) (ps : List Part) (s : ℕ) : Type 0 where
  pub reached : (nth g s).reached ≡ true
  pub switch : is_switch (nth g s).exit ≡ true
  pub outside : (p : Part) → find is_loop ps ≡ Some p → find is_loop (place g s) ≡ Some p

nested_switch : (g : List Node) (n : ℕ) (ps : List Part) (s u : ℕ) → IsNested g n ps → find (λ p. not (is_if p)) ps ≡ Some (Case s u) → IsSwitchOf g ps s
nested_switch g n [] s u is e = cc
nested_switch g n (If h ∷ ps) s u is e = let later = nested_switch g h ps s u is.4 e in record { reached = later.reached; switch = later.switch; outside = later.outside }
nested_switch g n (Loop h ∷ ps) s u is e = cc
nested_switch g n (Cont h ∷ ps) s u is e = cc
nested_switch g n (Case r v ∷ ps) s u is e =
    let same : r ≡ s = cc in
    subst (λ q. IsSwitchOf g (Case r v ∷ ps) q) same (record { reached = is.1; switch = is.2.0; outside = λ p found. ap (find is_loop) (sym is.3) ∙ found })

switch_no_own : (c : Bool) (m : Merge) (b : ℕ) → c ≡ false → is_selection m ≡ true → opened c m b ≡ []
switch_no_own c Absent b e f = refl
switch_no_own true (Selection m) b e f = cc
switch_no_own false (Selection m) b e f = refl
switch_no_own c (LoopMerge m t) b e f = cc

switch_no_conditional : (x : Exit) → is_switch x ≡ true → is_conditional x ≡ false
switch_no_conditional Branch e = cc
switch_no_conditional Conditional e = cc
switch_no_conditional Switch e = refl
switch_no_conditional Leave e = cc

case_by : (o : Option Part) (s : ℕ) → option_and_then case_switch o ≡ Some s → (u : ℕ) × (o ≡ Some (Case s u))
case_by None s e = cc
case_by (Some (If h)) s e = cc
case_by (Some (Loop h)) s e = cc
case_by (Some (Cont h)) s e = cc
case_by (Some (Case r v)) s e = (v, (let same : r ≡ s = cc in ap (λ q. Some (Case q v)) same))

module _ (g : List Node) (sound : IsSound g) (b : ℕ) (here : (nth g b).reached ≡ true) where
  nested : IsNested g (suc b) (inner g b)
  nested = inner_nested g b sound.grounded here

  switch_is : (s : ℕ) → innermost_switch g b ≡ Some s → IsSwitchOf g (inner g b) s
  switch_is s e = by_exit (is_switch (nth g b).exit) refl e
    where
      by_exit : (x : Bool) → is_switch (nth g b).exit ≡ x → (if x then Some b else option_and_then case_switch (find (λ p. not (is_if p)) (inner g b))) ≡ Some s → IsSwitchOf g (inner g b) s
      by_exit true is e =
          let same : b ≡ s = cc in
          let none : own_part g b ≡ [] = switch_no_own (is_conditional (nth g b).exit) (nth g b).merge b (switch_no_conditional (nth g b).exit is) (switch_selects g sound b here is) in
          subst (λ q. IsSwitchOf g (inner g b) q) same (record { reached = here; switch = is; outside = λ p found. ap (λ ps. find is_loop (ps ++ place g b)) (sym none) ∙ found })
      by_exit false is e = let part = case_by (find (λ p. not (is_if p)) (inner g b)) s e in nested_switch g (suc b) (inner g b) s part.0 nested part.1

  -- a switch is not the innermost construct of its own edges
  no_switch : (p : Part) → innermost g b ≡ Some p → is_switch (nth g b).exit ≡ true → ⊥
  no_switch p e is = by_exit (is_switch (nth g b).exit) is e
    where
      by_exit : (x : Bool) → x ≡ true → (if x then None else slice_get (inner g b) 0) ≡ Some p → ⊥
      by_exit true is e = cc
      by_exit false is e = cc

  module _ (t : ℕ) where
    pub break_view : is_break g b t ≡ true → (p : Part) × (find is_loop (inner g b) ≡ Some p) × (merge_block g (header p) ≡ Some t)
    break_view e = by_part (find is_loop (inner g b)) refl e
      where
        by_part : (o : Option Part) → find is_loop (inner g b) ≡ o → merges_to g t (option_and_then loop_header o) ≡ true → (p : Part) × (find is_loop (inner g b) ≡ Some p) × (merge_block g (header p) ≡ Some t)
        by_part None is e = cc
        by_part (Some (If h)) is e = cc
        by_part (Some (Loop h)) is e = (Loop h, is, value_some t (merge_block g h) e)
        by_part (Some (Cont h)) is e = (Cont h, is, value_some t (merge_block g h) e)
        by_part (Some (Case s u)) is e = cc

    continue_view : is_continue g b t ≡ true → (h : ℕ) × (find is_loop (inner g b) ≡ Some (Loop h)) × (continue_target g h ≡ Some t) × (h ≢ t)
    continue_view e = by_part (find is_loop (inner g b)) refl e
      where
        apart : (h : ℕ) → not (h == t) ≡ true → h ≢ t
        apart h e same = let yes : (h == t) ≡ true = ap (λ q. q == t) same ∙ same_nat t in let no : not true ≡ true = ap not (sym yes) ∙ e in cc

        by_part : (o : Option Part) → find is_loop (inner g b) ≡ o → (continues_to g t (option_and_then body_header o) && not (is_value t (option_and_then body_header o))) ≡ true → (h : ℕ) × (find is_loop (inner g b) ≡ Some (Loop h)) × (continue_target g h ≡ Some t) × (h ≢ t)
        by_part None is e = cc
        by_part (Some (If h)) is e = cc
        by_part (Some (Loop h)) is e = let parts = and_parts (is_value t (continue_target g h)) (not (h == t)) e in (h, is, value_some t (continue_target g h) parts.0, apart h parts.1)
        by_part (Some (Cont h)) is e = cc
        by_part (Some (Case s u)) is e = cc

    switch_view : is_switch_break g b t ≡ true → (s : ℕ) × (innermost_switch g b ≡ Some s) × (merge_block g s ≡ Some t)
    switch_view e = by_switch (innermost_switch g b) refl e
      where
        by_switch : (o : Option ℕ) → innermost_switch g b ≡ o → merges_to g t o ≡ true → (s : ℕ) × (innermost_switch g b ≡ Some s) × (merge_block g s ≡ Some t)
        by_switch None is e = cc
        by_switch (Some s) is e = (s, is, value_some t (merge_block g s) e)

    merge_view : is_merge_edge g b t ≡ true → (h : ℕ) × (innermost g b ≡ Some (If h)) × (merge_block g h ≡ Some t)
    merge_view e = by_part (innermost g b) refl e
      where
        by_part : (o : Option Part) → innermost g b ≡ o → merges_to g t (option_and_then if_header o) ≡ true → (h : ℕ) × (innermost g b ≡ Some (If h)) × (merge_block g h ≡ Some t)
        by_part None is e = cc
        by_part (Some (If h)) is e = (h, is, value_some t (merge_block g h) e)
        by_part (Some (Loop h)) is e = cc
        by_part (Some (Cont h)) is e = cc
        by_part (Some (Case s u)) is e = cc

    back_view : is_back g b t ≡ true → (p : Part) × (find is_loop (inner g b) ≡ Some p) × (header p ≡ t)
    back_view e = by_part (find is_loop (inner g b)) refl (and_parts (is_value t (option_and_then loop_header (nearest_loop g b))) (is_value t (option_and_then continue_header (innermost g b)) || is_value t (continue_target g t)) e).0
      where
        by_part : (o : Option Part) → find is_loop (inner g b) ≡ o → is_value t (option_and_then loop_header o) ≡ true → (p : Part) × (find is_loop (inner g b) ≡ Some p) × (header p ≡ t)
        by_part None is e = cc
        by_part (Some (If h)) is e = cc
        by_part (Some (Loop h)) is e = (Loop h, is, equal_nat h t e)
        by_part (Some (Cont h)) is e = (Cont h, is, equal_nat h t e)
        by_part (Some (Case s u)) is e = cc

    same_case : (s : ℕ) (r : Role) → is_value s (case_of r) ≡ true → r ≡ CaseOf s
    same_case s First e = cc
    same_case s (MergeOf h) e = cc
    same_case s (Continue h) e = cc
    same_case s (CaseOf r) e = ap (λ q. CaseOf q) (equal_nat r s e)
    same_case s (Inside p) e = cc

    fall_view : is_fall g b t ≡ true → (s u : ℕ) × (innermost g b ≡ Some (Case s u)) × (role g t ≡ CaseOf s)
    fall_view e = by_part (innermost g b) refl (and_parts (are_same (option_and_then case_switch (innermost g b)) (case_of (role g t))) (not (is_value t (option_and_then case_target (innermost g b)))) e).0
      where
        by_part : (o : Option Part) → innermost g b ≡ o → are_same (option_and_then case_switch o) (case_of (role g t)) ≡ true → (s u : ℕ) × (innermost g b ≡ Some (Case s u)) × (role g t ≡ CaseOf s)
        by_part None is e = cc
        by_part (Some (If h)) is e = cc
        by_part (Some (Loop h)) is e = cc
        by_part (Some (Cont h)) is e = cc
        by_part (Some (Case s u)) is e = (s, u, is, same_case s (role g t) e)

    enter_by : (r : Role) → is_value b (entered_from r) ≡ true → (r ≡ CaseOf b) ⊎ (r ≡ Inside b)
    enter_by First e = cc
    enter_by (MergeOf h) e = cc
    enter_by (Continue h) e = cc
    enter_by (CaseOf s) e = inl (ap (λ q. CaseOf q) (equal_nat s b e))
    enter_by (Inside p) e = inr (ap (λ q. Inside q) (equal_nat p b e))

    pub enter_view : is_enter g b t ≡ true → (role g t ≡ CaseOf b) ⊎ (role g t ≡ Inside b)
    enter_view e = enter_by (role g t) e

    merge_facts : (h : ℕ) → innermost g b ≡ Some (If h) → ((nth g h).reached ≡ true) × (is_selection (nth g h).merge ≡ true) × (is_conditional (nth g h).exit ≡ true) × ((p : Part) → find is_loop (inner g b) ≡ Some p → find is_loop (place g h) ≡ Some p)
    merge_facts h e =
        let first = innermost_is g b (If h) e in
        let n : IsNested g (suc b) (If h ∷ first.0) = subst (IsNested g (suc b)) first.1 nested in
        (n.1, n.2.0, n.2.1, (λ p found. ap (find is_loop) (sym n.3) ∙ (ap (find is_loop) (sym first.1) ∙ found)))

    merge_named_by : is_merge_edge g b t ≡ true → (h : ℕ) × (has_link (name_links g) t h ≡ true) × (header_of g t ≡ Some h)
    merge_named_by e =
        let v = merge_view e in
        let f = merge_facts v.0 v.1 in
        let link : has_link (name_links g) t v.0 ≡ true = merge_link g t v.0 f.0 v.2 in
        (v.0, link, header_is g sound t v.0 link (λ same. not_own g sound v.0 f.0 (v.2 ∙ ap (λ q. Some q) (sym same))))

    switch_named_by : is_switch_break g b t ≡ true → (s : ℕ) × (has_link (name_links g) t s ≡ true) × (header_of g t ≡ Some s)
    switch_named_by e =
        let v = switch_view e in
        let f = switch_is v.0 v.1 in
        let link : has_link (name_links g) t v.0 ≡ true = merge_link g t v.0 f.reached v.2 in
        (v.0, link, header_is g sound t v.0 link (λ same. not_own g sound v.0 f.reached (v.2 ∙ ap (λ q. Some q) (sym same))))

    break_named_by : is_break g b t ≡ true → (h : ℕ) × (has_link (name_links g) t h ≡ true) × (header_of g t ≡ Some h)
    break_named_by e =
        let v = break_view e in
        let f = nested_loop g (suc b) (inner g b) v.0 nested v.1 in
        let link : has_link (name_links g) t (header v.0) ≡ true = merge_link g t (header v.0) f.1 v.2 in
        (header v.0, link, header_is g sound t (header v.0) link (λ same. not_own g sound (header v.0) f.1 (v.2 ∙ ap (λ q. Some q) (sym same))))

    continue_named_by : is_continue g b t ≡ true → (h : ℕ) × (has_link (name_links g) t h ≡ true) × (header_of g t ≡ Some h)
    continue_named_by e =
        let v = continue_view e in
        let f = nested_loop g (suc b) (inner g b) (Loop v.0) nested v.1 in
        let link : has_link (name_links g) t v.0 ≡ true = target_link g t v.0 f.1 v.2 in
        (v.0, link, header_is g sound t v.0 link v.3)

    clash_none : (h : ℕ) → header_of g t ≡ Some h → header_of g t ≡ None → ⊥
    clash_none h some none = let clash : Some h ≡ None = sym some ∙ none in cc

    enter_unnamed : is_enter g b t ≡ true → header_of g t ≡ None
    enter_unnamed e = elim (enter_view e) [
      | inl r ↦ ((role_facts g t).cased b r).0
      | inr r ↦ ((role_facts g t).entered b r).0
    ]

    fall_unnamed : is_fall g b t ≡ true → header_of g t ≡ None
    fall_unnamed e = let v = fall_view e in ((role_facts g t).cased v.0 v.3).0

    selection_loop : (m : Merge) → is_selection m ≡ true → IsLoopMerge m → ⊥
    selection_loop Absent e l = l
    selection_loop (Selection m) e l = l
    selection_loop (LoopMerge m c) e l = cc

    merge_switch : is_merge_edge g b t ≡ true → is_switch_break g b t ≡ true → ⊥
    merge_switch e f =
        let v = merge_view e in let m = merge_facts v.0 v.1 in
        let w = switch_view f in let s = switch_is w.0 w.1 in
        let same : v.0 ≡ w.0 = one_header g sound t v.0 w.0 (merge_link g t v.0 m.0 v.2) (merge_link g t w.0 s.reached w.2) in
        let none : is_conditional (nth g w.0).exit ≡ false = switch_no_conditional (nth g w.0).exit s.switch in
        let some : is_conditional (nth g w.0).exit ≡ true = subst (λ q. is_conditional (nth g q).exit ≡ true) same m.2 in
        let clash : true ≡ false = sym some ∙ none in cc

    merge_break : is_merge_edge g b t ≡ true → is_break g b t ≡ true → ⊥
    merge_break e f =
        let v = merge_view e in let m = merge_facts v.0 v.1 in
        let w = break_view f in let l = nested_loop g (suc b) (inner g b) w.0 nested w.1 in
        let same : v.0 ≡ header w.0 = one_header g sound t v.0 (header w.0) (merge_link g t v.0 m.0 v.2) (merge_link g t (header w.0) l.1 w.2) in
        selection_loop (nth g (header w.0)).merge (subst (λ q. is_selection (nth g q).merge ≡ true) same m.1) l.2

    merge_continue : is_merge_edge g b t ≡ true → is_continue g b t ≡ true → ⊥
    merge_continue e f =
        let v = merge_view e in let m = merge_facts v.0 v.1 in
        let w = continue_view f in let l = nested_loop g (suc b) (inner g b) (Loop w.0) nested w.1 in
        let same : v.0 ≡ w.0 = one_header g sound t v.0 w.0 (merge_link g t v.0 m.0 v.2) (target_link g t w.0 l.1 w.2) in
        selection_loop (nth g w.0).merge (subst (λ q. is_selection (nth g q).merge ≡ true) same m.1) l.2

    switch_break : is_switch_break g b t ≡ true → is_break g b t ≡ true → ⊥
    switch_break e f =
        let v = switch_view e in let s = switch_is v.0 v.1 in
        let w = break_view f in let l = nested_loop g (suc b) (inner g b) w.0 nested w.1 in
        let same : v.0 ≡ header w.0 = one_header g sound t v.0 (header w.0) (merge_link g t v.0 s.reached v.2) (merge_link g t (header w.0) l.1 w.2) in
        selection_loop (nth g (header w.0)).merge (subst (λ q. is_selection (nth g q).merge ≡ true) same (switch_selects g sound v.0 s.reached s.switch)) l.2

    switch_continue : is_switch_break g b t ≡ true → is_continue g b t ≡ true → ⊥
    switch_continue e f =
        let v = switch_view e in let s = switch_is v.0 v.1 in
        let w = continue_view f in let l = nested_loop g (suc b) (inner g b) (Loop w.0) nested w.1 in
        let same : v.0 ≡ w.0 = one_header g sound t v.0 w.0 (merge_link g t v.0 s.reached v.2) (target_link g t w.0 l.1 w.2) in
        selection_loop (nth g w.0).merge (subst (λ q. is_selection (nth g q).merge ≡ true) same (switch_selects g sound v.0 s.reached s.switch)) l.2

    break_continue : is_break g b t ≡ true → is_continue g b t ≡ true → ⊥
    break_continue e f =
        let v = break_view e in
        let w = continue_view f in let l = nested_loop g (suc b) (inner g b) (Loop w.0) nested w.1 in
        let parts : Some v.0 ≡ Some (Loop w.0) = sym v.1 ∙ w.1 in
        let part : v.0 ≡ Loop w.0 = cc in
        not_twice g sound w.0 t l.1 (subst (λ q. merge_block g (header q) ≡ Some t) part v.2) w.2

    enter_fall : is_enter g b t ≡ true → is_fall g b t ≡ true → ⊥
    enter_fall e f =
        let v = fall_view f in
        elim (enter_view e) [
          | inl r ↦
              let roles : CaseOf v.0 ≡ CaseOf b = sym v.3 ∙ r in
              let same : v.0 ≡ b = cc in
              no_switch (Case v.0 v.1) v.2 (subst (λ q. is_switch (nth g q).exit ≡ true) same (case_switch_is g t v.0 v.3))
          | inr r ↦ let roles : CaseOf v.0 ≡ Inside b = sym v.3 ∙ r in cc
        ]

    back_continue : is_back g b t ≡ true → is_continue g b t ≡ true → ⊥
    back_continue e f =
        let v = back_view e in let w = continue_view f in
        let parts : Some v.0 ≡ Some (Loop w.0) = sym v.1 ∙ w.1 in
        let part : v.0 ≡ Loop w.0 = cc in
        w.3 (sym (ap header part) ∙ v.2)

    back_break : is_back g b t ≡ true → is_break g b t ≡ true → ⊥
    back_break e f =
        let v = back_view e in let w = break_view f in
        let parts : Some v.0 ≡ Some w.0 = sym v.1 ∙ w.1 in
        let part : v.0 ≡ w.0 = cc in
        let l = nested_loop g (suc b) (inner g b) w.0 nested w.1 in
        let own : header w.0 ≡ t = sym (ap header part) ∙ v.2 in
        not_own g sound (header w.0) l.1 (w.2 ∙ ap (λ q. Some q) (sym own))

    -- a block is in none of its own constructs
    not_inside : (nth g t).reached ≡ true → (p : Part) → header p ≡ t → find is_loop (place g t) ≡ Some p → ⊥
    not_inside there p own found =
        let l = nested_loop g t (place g t) p (place_nested g t sound.grounded there) found in
        let less : header p < t = l.0 in
        absurd (omega (arith, less, own))

    pub role_merge : (s : ℕ) → header_of g t ≡ Some s → merge_block g s ≡ Some t → role g t ≡ MergeOf s
    unfolding role
    role_merge s named merges =
        let test : is_value t (merge_block g s) ≡ true = ap (is_value t) merges ∙ same_nat t in
        ap (λ h. role_by g t h (switch_of g t) (first_of (entry_links g) t)) named ∙ ap (λ q. if q then MergeOf s else Continue s) test

    merged_place : (nth g t).reached ≡ true → (s : ℕ) → role g t ≡ MergeOf s → place g t ≡ place g s
    merged_place there s is = place_is g t sound.grounded there ∙ ap (λ r. place_step g t r (place g)) is

    cased_place : (nth g t).reached ≡ true → (s : ℕ) → role g t ≡ CaseOf s → place g t ≡ Case s t ∷ place g s
    cased_place there s is = place_is g t sound.grounded there ∙ ap (λ r. place_step g t r (place g)) is

    back_switch : (nth g t).reached ≡ true → is_back g b t ≡ true → is_switch_break g b t ≡ true → ⊥
    back_switch there e f =
        let v = back_view e in let w = switch_view f in let s = switch_is w.0 w.1 in
        let link : has_link (name_links g) t w.0 ≡ true = merge_link g t w.0 s.reached w.2 in
        let named : header_of g t ≡ Some w.0 = header_is g sound t w.0 link (λ same. not_own g sound w.0 s.reached (w.2 ∙ ap (λ q. Some q) (sym same))) in
        not_inside there v.0 v.2 (ap (find is_loop) (merged_place there w.0 (role_merge w.0 named w.2)) ∙ s.outside v.0 v.1)

    back_merge : (nth g t).reached ≡ true → is_back g b t ≡ true → is_merge_edge g b t ≡ true → ⊥
    back_merge there e f =
        let v = back_view e in let w = merge_view f in let m = merge_facts w.0 w.1 in
        let link : has_link (name_links g) t w.0 ≡ true = merge_link g t w.0 m.0 w.2 in
        let named : header_of g t ≡ Some w.0 = header_is g sound t w.0 link (λ same. not_own g sound w.0 m.0 (w.2 ∙ ap (λ q. Some q) (sym same))) in
        not_inside there v.0 v.2 (ap (find is_loop) (merged_place there w.0 (role_merge w.0 named w.2)) ∙ m.3 v.0 v.1)

    back_fall : (nth g t).reached ≡ true → is_back g b t ≡ true → is_fall g b t ≡ true → ⊥
    back_fall there e f =
        let v = back_view e in let w = fall_view f in
        let first = innermost_is g b (Case w.0 w.1) w.2 in
        let n : IsNested g (suc b) (Case w.0 w.1 ∷ first.0) = subst (IsNested g (suc b)) first.1 nested in
        let found : find is_loop (place g w.0) ≡ Some v.0 = ap (find is_loop) (sym n.3) ∙ (ap (find is_loop) (sym first.1) ∙ v.1) in
        not_inside there v.0 v.2 (ap (find is_loop) (cased_place there w.0 w.3) ∙ found)

    back_enter : (nth g t).reached ≡ true → is_back g b t ≡ true → is_enter g b t ≡ true → ⊥
    back_enter there e f =
        let v = back_view e in
        let l = nested_loop g (suc b) (inner g b) v.0 nested v.1 in
        let parent : parent_of (role g t) ≡ Some b = elim (enter_view f) [ inl r ↦ ap parent_of r | inr r ↦ ap parent_of r ] in
        let up = sound.grounded.up t b there parent in
        let less : b < t = up.0 in
        let low : header v.0 < suc b = l.0 in
        let own : header v.0 ≡ t = v.2 in
        absurd (omega (arith, less, low, own))

    named_enter : (h : ℕ) → header_of g t ≡ Some h → is_enter g b t ≡ true → ⊥
    named_enter h named e = clash_none h named (enter_unnamed e)

    named_fall : (h : ℕ) → header_of g t ≡ Some h → is_fall g b t ≡ true → ⊥
    named_fall h named e = clash_none h named (fall_unnamed e)

-- an edge has one kind
pub one_kind : (g : List Node) → IsSound g → (b t : ℕ) → (nth g b).reached ≡ true → (nth g t).reached ≡ true → (j k : EdgeKind) → has_kind g b t j ≡ true → has_kind g b t k ≡ true → j ≡ k
one_kind g sound b t here there kind.Enter kind.Enter e f = refl
one_kind g sound b t here there kind.Enter kind.Merge e f = absurd (let n = merge_named_by g sound b here t f in named_enter g sound b here t n.0 n.2 e)
one_kind g sound b t here there kind.Enter kind.SwitchBreak e f = absurd (let n = switch_named_by g sound b here t f in named_enter g sound b here t n.0 n.2 e)
one_kind g sound b t here there kind.Enter kind.Break e f = absurd (let n = break_named_by g sound b here t f in named_enter g sound b here t n.0 n.2 e)
one_kind g sound b t here there kind.Enter kind.Continue e f = absurd (let n = continue_named_by g sound b here t f in named_enter g sound b here t n.0 n.2 e)
one_kind g sound b t here there kind.Enter kind.Back e f = absurd (back_enter g sound b here t there f e)
one_kind g sound b t here there kind.Enter kind.Fall e f = absurd (enter_fall g sound b here t e f)
one_kind g sound b t here there kind.Merge kind.Enter e f = absurd (let n = merge_named_by g sound b here t e in named_enter g sound b here t n.0 n.2 f)
one_kind g sound b t here there kind.Merge kind.Merge e f = refl
one_kind g sound b t here there kind.Merge kind.SwitchBreak e f = absurd (merge_switch g sound b here t e f)
one_kind g sound b t here there kind.Merge kind.Break e f = absurd (merge_break g sound b here t e f)
one_kind g sound b t here there kind.Merge kind.Continue e f = absurd (merge_continue g sound b here t e f)
one_kind g sound b t here there kind.Merge kind.Back e f = absurd (back_merge g sound b here t there f e)
one_kind g sound b t here there kind.Merge kind.Fall e f = absurd (let n = merge_named_by g sound b here t e in named_fall g sound b here t n.0 n.2 f)
one_kind g sound b t here there kind.SwitchBreak kind.Enter e f = absurd (let n = switch_named_by g sound b here t e in named_enter g sound b here t n.0 n.2 f)
one_kind g sound b t here there kind.SwitchBreak kind.Merge e f = absurd (merge_switch g sound b here t f e)
one_kind g sound b t here there kind.SwitchBreak kind.SwitchBreak e f = refl
one_kind g sound b t here there kind.SwitchBreak kind.Break e f = absurd (switch_break g sound b here t e f)
one_kind g sound b t here there kind.SwitchBreak kind.Continue e f = absurd (switch_continue g sound b here t e f)
one_kind g sound b t here there kind.SwitchBreak kind.Back e f = absurd (back_switch g sound b here t there f e)
one_kind g sound b t here there kind.SwitchBreak kind.Fall e f = absurd (let n = switch_named_by g sound b here t e in named_fall g sound b here t n.0 n.2 f)
one_kind g sound b t here there kind.Break kind.Enter e f = absurd (let n = break_named_by g sound b here t e in named_enter g sound b here t n.0 n.2 f)
one_kind g sound b t here there kind.Break kind.Merge e f = absurd (merge_break g sound b here t f e)
one_kind g sound b t here there kind.Break kind.SwitchBreak e f = absurd (switch_break g sound b here t f e)
one_kind g sound b t here there kind.Break kind.Break e f = refl
one_kind g sound b t here there kind.Break kind.Continue e f = absurd (break_continue g sound b here t e f)
one_kind g sound b t here there kind.Break kind.Back e f = absurd (back_break g sound b here t f e)
one_kind g sound b t here there kind.Break kind.Fall e f = absurd (let n = break_named_by g sound b here t e in named_fall g sound b here t n.0 n.2 f)
one_kind g sound b t here there kind.Continue kind.Enter e f = absurd (let n = continue_named_by g sound b here t e in named_enter g sound b here t n.0 n.2 f)
one_kind g sound b t here there kind.Continue kind.Merge e f = absurd (merge_continue g sound b here t f e)
one_kind g sound b t here there kind.Continue kind.SwitchBreak e f = absurd (switch_continue g sound b here t f e)
one_kind g sound b t here there kind.Continue kind.Break e f = absurd (break_continue g sound b here t f e)
one_kind g sound b t here there kind.Continue kind.Continue e f = refl
one_kind g sound b t here there kind.Continue kind.Back e f = absurd (back_continue g sound b here t f e)
one_kind g sound b t here there kind.Continue kind.Fall e f = absurd (let n = continue_named_by g sound b here t e in named_fall g sound b here t n.0 n.2 f)
one_kind g sound b t here there kind.Back kind.Enter e f = absurd (back_enter g sound b here t there e f)
one_kind g sound b t here there kind.Back kind.Merge e f = absurd (back_merge g sound b here t there e f)
one_kind g sound b t here there kind.Back kind.SwitchBreak e f = absurd (back_switch g sound b here t there e f)
one_kind g sound b t here there kind.Back kind.Break e f = absurd (back_break g sound b here t e f)
one_kind g sound b t here there kind.Back kind.Continue e f = absurd (back_continue g sound b here t e f)
one_kind g sound b t here there kind.Back kind.Back e f = refl
one_kind g sound b t here there kind.Back kind.Fall e f = absurd (back_fall g sound b here t there e f)
one_kind g sound b t here there kind.Fall kind.Enter e f = absurd (enter_fall g sound b here t f e)
one_kind g sound b t here there kind.Fall kind.Merge e f = absurd (let n = merge_named_by g sound b here t f in named_fall g sound b here t n.0 n.2 e)
one_kind g sound b t here there kind.Fall kind.SwitchBreak e f = absurd (let n = switch_named_by g sound b here t f in named_fall g sound b here t n.0 n.2 e)
one_kind g sound b t here there kind.Fall kind.Break e f = absurd (let n = break_named_by g sound b here t f in named_fall g sound b here t n.0 n.2 e)
one_kind g sound b t here there kind.Fall kind.Continue e f = absurd (let n = continue_named_by g sound b here t f in named_fall g sound b here t n.0 n.2 e)
one_kind g sound b t here there kind.Fall kind.Back e f = absurd (back_fall g sound b here t there f e)
one_kind g sound b t here there kind.Fall kind.Fall e f = refl

-- the kind that was found is the only one
pub only_kind : (nest g : List Node) (b a t : ℕ) (o : Option EdgeKind) (j : EdgeKind) → IsSound nest → nest ≡ g → a ≡ b → MatchOption o (has_some_kind nest a t ≡ false) (λ kind. has_kind nest a t kind ≡ true) → o ≡ Some j → (nth g b).reached ≡ true → leads_to t (nth g b) ≡ true → (k : EdgeKind) → has_kind g b t k ≡ true → k ≡ j
only_kind nest g b a t o j sound same block tells is here leads k e =
    let whole : IsSound g = subst IsSound same sound in
    let found : has_kind nest a t j ≡ true = subst (λ q. MatchOption q (has_some_kind nest a t ≡ false) (λ kind. has_kind nest a t kind ≡ true)) is tells in
    let told : has_kind g b t j ≡ true = subst (λ q. has_kind g q t j ≡ true) block (subst (λ q. has_kind q a t j ≡ true) same found) in
    one_kind g whole b t here (whole.reached b t here leads) k j e told
