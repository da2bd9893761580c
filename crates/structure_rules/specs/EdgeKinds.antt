-- What an edge from block b to block t does (SPIR-V 1.6, section 2.11).
use Rattle.std.specs.Prelude.{ℕ, ◌&&◌, ◌||◌, not, Bool, true, false, List, [], ◌∷◌, Option, Some, None, find, slice_get, if◌then◌else◌}
use Rattle.std.specs.Option.{option_map_or, option_and_then}
use Rattle.std.specs.List.{list_any}
use Rattle.structure_rules.specs.declared.graph.Node.{Node}
use Rattle.structure_rules.specs.declared.graph.Role.{Role}
use Rattle.structure_rules.specs.declared.graph.Role.TheVariants.{Case as CaseOf, Inside}
use Rattle.structure_rules.specs.declared.graph.Part.{Part}
use Rattle.structure_rules.specs.declared.graph.Part.TheVariants.{If, Loop, Cont, Case}
use Rattle.structure_rules.specs.declared.graph.EdgeKind.{EdgeKind}
use Rattle.structure_rules.specs.declared.graph.EdgeKind.TheVariants as kind
use Rattle.structure_rules.specs.Graph.{nth, merge_block, continue_target, is_switch, is_value}
use Rattle.structure_rules.specs.Nesting.{inner, role}

abbrev pub is_if : Part → Bool
is_if (If h) = true
is_if _ = false

-- a loop, or its continue construct
abbrev pub is_loop : Part → Bool
is_loop (Loop h) = true
is_loop (Cont h) = true
is_loop _ = false

-- the header of a loop whose body this is, and of one whose continue construct this is
abbrev pub body_header : Part → Option ℕ
body_header (Loop h) = Some h
body_header _ = None

abbrev pub continue_header : Part → Option ℕ
continue_header (Cont h) = Some h
continue_header _ = None

abbrev pub loop_header : Part → Option ℕ
loop_header (Loop h) = Some h
loop_header (Cont h) = Some h
loop_header _ = None

abbrev pub if_header : Part → Option ℕ
if_header (If h) = Some h
if_header _ = None

abbrev pub case_switch : Part → Option ℕ
case_switch (Case s t) = Some s
case_switch _ = None

abbrev pub case_target : Part → Option ℕ
case_target (Case s t) = Some t
case_target _ = None

-- the nearest loop or continue construct
abbrev pub nearest_loop : List Node → ℕ → Option Part
nearest_loop g b = find is_loop (inner g b)

-- the innermost construct; that of a switch is its own, which is no part of a place
abbrev pub innermost : List Node → ℕ → Option Part
innermost g b = if is_switch (nth g b).exit then None else slice_get (inner g b) 0

-- the innermost switch with no loop or continue construct before it
abbrev pub innermost_switch : List Node → ℕ → Option ℕ
innermost_switch g b = if is_switch (nth g b).exit then Some b else option_and_then case_switch (find (λ p. not (is_if p)) (inner g b))

-- the header is there, and names t as its merge block, or as its continue target
abbrev pub merges_to : List Node → ℕ → Option ℕ → Bool
merges_to g t o = option_map_or (λ h. is_value t (merge_block g h)) o false

abbrev pub continues_to : List Node → ℕ → Option ℕ → Bool
continues_to g t o = option_map_or (λ h. is_value t (continue_target g h)) o false

-- t is the nearest loop's header, from its continue construct or where it is its own continue target
abbrev pub is_back : List Node → ℕ → ℕ → Bool
is_back g b t =
    is_value t (option_and_then loop_header (nearest_loop g b)) &&
    (is_value t (option_and_then continue_header (innermost g b)) || is_value t (continue_target g t))

-- t is another block than the header, and the continue target of the nearest loop, from its body
abbrev pub is_continue : List Node → ℕ → ℕ → Bool
is_continue g b t =
    continues_to g t (option_and_then body_header (nearest_loop g b)) &&
    not (is_value t (option_and_then body_header (nearest_loop g b)))

-- t is the nearest loop's merge block
abbrev pub is_break : List Node → ℕ → ℕ → Bool
is_break g b t = merges_to g t (option_and_then loop_header (nearest_loop g b))

-- t is the merge block of the innermost switch
abbrev pub is_switch_break : List Node → ℕ → ℕ → Bool
is_switch_break g b t = merges_to g t (innermost_switch g b)

-- the innermost construct is a selection, and t is its merge block
abbrev pub is_merge_edge : List Node → ℕ → ℕ → Bool
is_merge_edge g b t = merges_to g t (option_and_then if_header (innermost g b))

-- the switch of a case target
abbrev pub case_of : Role → Option ℕ
case_of (CaseOf s) = Some s
case_of _ = None

-- the parent of a block that is no merge block and no continue target
abbrev pub entered_from : Role → Option ℕ
entered_from (CaseOf s) = Some s
entered_from (Inside p) = Some p
entered_from _ = None

-- the two are there and equal
abbrev pub are_same : Option ℕ → Option ℕ → Bool
are_same a b = option_map_or (λ x. is_value x b) a false

-- the innermost construct is a case construct, and t is another case target of its switch
abbrev pub is_fall : List Node → ℕ → ℕ → Bool
is_fall g b t =
    are_same (option_and_then case_switch (innermost g b)) (case_of (role g t)) &&
    not (is_value t (option_and_then case_target (innermost g b)))

-- t is no merge block and no continue target, and b is its parent
abbrev pub is_enter : List Node → ℕ → ℕ → Bool
is_enter g b t = is_value b (entered_from (role g t))

-- the edge is of this kind
abbrev pub has_kind : List Node → ℕ → ℕ → EdgeKind → Bool
has_kind g b t kind.Enter = is_enter g b t
has_kind g b t kind.Merge = is_merge_edge g b t
has_kind g b t kind.SwitchBreak = is_switch_break g b t
has_kind g b t kind.Break = is_break g b t
has_kind g b t kind.Continue = is_continue g b t
has_kind g b t kind.Back = is_back g b t
has_kind g b t kind.Fall = is_fall g b t

abbrev pub all_kinds : List EdgeKind
all_kinds = kind.Enter ∷ kind.Merge ∷ kind.SwitchBreak ∷ kind.Break ∷ kind.Continue ∷ kind.Back ∷ kind.Fall ∷ []

abbrev pub has_some_kind : List Node → ℕ → ℕ → Bool
has_some_kind g b t = list_any (has_kind g b t) all_kinds
