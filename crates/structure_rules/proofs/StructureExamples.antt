-- The definitions of structured control flow, computed on functions.
use Rattle.std.proofs.Common.{◌≡◌, ℕ, true, false, List, [], ◌∷◌, map, filter, refl, inl, inr, ◌∙◌, sym, lit<, lit≤, length}
use Rattle.std.specs.List.{range_with_len}
use Rattle.spv_words.specs.declared.rule.Rule.TheVariants.{K1, K2, K3, K4, K5, K6, K7, K8, K9, K10, K11}
use Rattle.spv_ops.specs.Opcode.{number}
use Rattle.spv_ops.specs.OpGroups.{group_of}
use Rattle.spv_ops.specs.declared.Op.{Op}
use Rattle.spv_ops.specs.declared.Op.TheVariants as code
use Rattle.spv_module.specs.declared.inst.Inst.{Inst}
use Rattle.spv_module.specs.declared.inst.Block.{Block}
use Rattle.spv_module.specs.declared.inst.Function.{Function}
use Rattle.structure_rules.specs.declared.graph.Merge.TheVariants.{Absent, Selection}
use Rattle.structure_rules.specs.declared.graph.Exit.TheVariants.{Branch, Conditional, Leave}
use Rattle.structure_rules.specs.declared.graph.Node.{Node}
use Rattle.structure_rules.specs.declared.graph.Role.{Role}
use Rattle.structure_rules.specs.declared.graph.Role.TheVariants as role_
use Rattle.structure_rules.specs.declared.graph.Part.{Part}
use Rattle.structure_rules.specs.declared.graph.Part.TheVariants.{If, Loop, Cont, Case}
use Rattle.structure_rules.specs.declared.graph.EdgeKind.{EdgeKind}
use Rattle.structure_rules.specs.declared.graph.EdgeKind.TheVariants as kind
use Rattle.structure_rules.specs.Graph.{graph, nodes, reach, reached, grown, nth, edges}
use Rattle.structure_rules.specs.Nesting.{name_links, case_links, entry_links, role, outward, place, nesting}
use Rattle.structure_rules.specs.EdgeKinds.{has_kind, all_kinds}
use Rattle.structure_rules.specs.Structure.{BrokenIn, fall_links, after_falls}

inst : Op → ℕ → List ℕ → Inst
inst o at args = record { op = o; at = at; ty = 0; result = 0; args = args }

abbrev block : ℕ → ℕ → List Inst → Block
block label at insts = record { label = record { 0 = label }; at = at; insts = insts }

abbrev function : List Block → Function
function blocks = record { id = record { 0 = 1 }; ty = record { 0 = 7 }; result = record { 0 = 6 }; at = 102; params = []; blocks = blocks }

-- for each block its role, the constructs round it, and its nesting
abbrev roles : List Node → List Role
roles g = map (role g) (range_with_len 0 (length g))

abbrev places : List Node → List (List Part)
places g = map (place g) (range_with_len 0 (length g))

abbrev nestings : List Node → List ℕ
nestings g = map (nesting g) (range_with_len 0 (length g))

-- for each edge of each block its kinds
abbrev kinds_of : List Node → ℕ → List (List EdgeKind)
kinds_of g b = map (λ t. filter (has_kind g b t) all_kinds) (edges (nth g b))

abbrev kinds : List Node → List (List (List EdgeKind))
kinds g = map (kinds_of g) (range_with_len 0 (length g))

-- a conditional with a merge block: block 1 is the then branch, block 2 the merge block
abbrev selection : Function
selection = function (
    block 16 107 (inst code.SelectionMerge 109 (30 ∷ 0 ∷ []) ∷ inst code.BranchConditional 112 (23 ∷ 24 ∷ 30 ∷ []) ∷ []) ∷
    block 24 116 (inst code.Branch 118 (30 ∷ []) ∷ []) ∷
    block 30 120 (inst code.Return 122 [] ∷ []) ∷ [])

selection_graph : graph selection ≡ (
    record { at = 107; merge = Selection 2; merge_at = 109; exit = Conditional; exit_at = 112; targets = 1 ∷ 2 ∷ []; reached = true } ∷
    record { at = 116; merge = Absent; merge_at = 0; exit = Branch; exit_at = 118; targets = 2 ∷ []; reached = true } ∷
    record { at = 120; merge = Absent; merge_at = 0; exit = Leave; exit_at = 122; targets = []; reached = true } ∷ [])
unfolding inst number group_of graph nodes reach reached grown
selection_graph = refl

selection_roles : roles (graph selection) ≡ role_.First ∷ role_.Inside 0 ∷ role_.Merge 0 ∷ []
unfolding inst number group_of graph nodes reach reached grown name_links case_links entry_links role
selection_roles = refl

selection_places : places (graph selection) ≡ [] ∷ (If 0 ∷ []) ∷ [] ∷ []
unfolding inst number group_of graph nodes reach reached grown name_links case_links entry_links role outward
selection_places = refl

selection_nesting : nestings (graph selection) ≡ 0 ∷ 1 ∷ 0 ∷ []
unfolding inst number group_of graph nodes reach reached grown name_links case_links entry_links role outward
selection_nesting = refl

selection_kinds : kinds (graph selection) ≡ ((kind.Enter ∷ []) ∷ (kind.Merge ∷ []) ∷ []) ∷ ((kind.Merge ∷ []) ∷ []) ∷ [] ∷ []
unfolding inst number group_of graph nodes reach reached grown name_links case_links entry_links role outward
selection_kinds = refl

-- a conditional whose branches meet in a block that is no merge block: that block has two parents
abbrev two_parents : Function
two_parents = function (
    block 16 107 (inst code.SelectionMerge 109 (30 ∷ 0 ∷ []) ∷ inst code.BranchConditional 112 (23 ∷ 24 ∷ 25 ∷ []) ∷ []) ∷
    block 24 116 (inst code.Branch 118 (26 ∷ []) ∷ []) ∷
    block 25 120 (inst code.Branch 122 (26 ∷ []) ∷ []) ∷
    block 26 124 (inst code.Branch 126 (30 ∷ []) ∷ []) ∷
    block 30 128 (inst code.Return 130 [] ∷ []) ∷ [])

two_parents_refused : BrokenIn (graph two_parents) K4 124
unfolding inst number group_of graph nodes reach reached grown name_links case_links entry_links role outward
two_parents_refused = (3, lit< tt, refl, ((λ e. cc), (λ p only. let one : 1 ≡ p = only.1 1 refl in let two : 2 ≡ p = only.1 2 refl in let same : 1 ≡ 2 = one ∙ sym two in cc), refl))

-- a block inside the inner selection goes to the merge block of the outer one
abbrev jump_out : Function
jump_out = function (
    block 16 107 (inst code.SelectionMerge 109 (30 ∷ 0 ∷ []) ∷ inst code.BranchConditional 112 (23 ∷ 24 ∷ 30 ∷ []) ∷ []) ∷
    block 24 116 (inst code.SelectionMerge 118 (31 ∷ 0 ∷ []) ∷ inst code.BranchConditional 121 (23 ∷ 25 ∷ 31 ∷ []) ∷ []) ∷
    block 25 125 (inst code.Branch 127 (30 ∷ []) ∷ []) ∷
    block 31 129 (inst code.Branch 131 (30 ∷ []) ∷ []) ∷
    block 30 133 (inst code.Return 135 [] ∷ []) ∷ [])

jump_out_refused : BrokenIn (graph jump_out) K7 127
unfolding inst number group_of graph nodes reach reached grown name_links case_links entry_links role outward
jump_out_refused = (2, lit< tt, refl, (refl, refl))

-- a loop with a header, a test, a body and a continue target
abbrev for_loop : Function
for_loop = function (
    block 16 107 (inst code.Branch 109 (31 ∷ []) ∷ []) ∷
    block 31 111 (inst code.LoopMerge 113 (35 ∷ 34 ∷ 0 ∷ []) ∷ inst code.Branch 117 (32 ∷ []) ∷ []) ∷
    block 32 119 (inst code.BranchConditional 121 (41 ∷ 33 ∷ 35 ∷ []) ∷ []) ∷
    block 33 125 (inst code.Branch 127 (34 ∷ []) ∷ []) ∷
    block 34 129 (inst code.Branch 131 (31 ∷ []) ∷ []) ∷
    block 35 133 (inst code.Return 135 [] ∷ []) ∷ [])

for_loop_places : places (graph for_loop) ≡ [] ∷ [] ∷ (Loop 1 ∷ []) ∷ (Loop 1 ∷ []) ∷ (Cont 1 ∷ []) ∷ [] ∷ []
unfolding inst number group_of graph nodes reach reached grown name_links case_links entry_links role outward
for_loop_places = refl

for_loop_nesting : nestings (graph for_loop) ≡ 0 ∷ 0 ∷ 1 ∷ 2 ∷ 1 ∷ 0 ∷ []
unfolding inst number group_of graph nodes reach reached grown name_links case_links entry_links role outward
for_loop_nesting = refl

for_loop_kinds : kinds (graph for_loop) ≡
    ((kind.Enter ∷ []) ∷ []) ∷ ((kind.Enter ∷ []) ∷ []) ∷ ((kind.Enter ∷ []) ∷ (kind.Break ∷ []) ∷ []) ∷
    ((kind.Continue ∷ []) ∷ []) ∷ ((kind.Back ∷ []) ∷ []) ∷ [] ∷ []
unfolding inst number group_of graph nodes reach reached grown name_links case_links entry_links role outward
for_loop_kinds = refl

-- the continue target goes into the body, or leaves the loop
abbrev continued : ℕ → Function
continued label = function (
    block 16 107 (inst code.Branch 109 (31 ∷ []) ∷ []) ∷
    block 31 111 (inst code.LoopMerge 113 (35 ∷ 34 ∷ 0 ∷ []) ∷ inst code.Branch 117 (32 ∷ []) ∷ []) ∷
    block 32 119 (inst code.BranchConditional 121 (41 ∷ 33 ∷ 35 ∷ []) ∷ []) ∷
    block 33 125 (inst code.Branch 127 (34 ∷ []) ∷ []) ∷
    block 34 129 (inst code.Branch 131 (label ∷ []) ∷ []) ∷
    block 35 133 (inst code.Return 135 [] ∷ []) ∷ [])

continued_refused : BrokenIn (graph (continued 33)) K7 131
unfolding inst number group_of graph nodes reach reached grown name_links case_links entry_links role outward
continued_refused = (4, lit< tt, refl, (refl, refl))

continued_breaks : kinds_of (graph (continued 35)) 4 ≡ (kind.Break ∷ []) ∷ []
unfolding inst number group_of graph nodes reach reached grown name_links case_links entry_links role outward
continued_breaks = refl

-- a loop of one block, which is its own continue target
abbrev one_block : Function
one_block = function (
    block 16 107 (inst code.Branch 109 (31 ∷ []) ∷ []) ∷
    block 31 111 (inst code.LoopMerge 124 (35 ∷ 31 ∷ 0 ∷ []) ∷ inst code.BranchConditional 128 (44 ∷ 31 ∷ 35 ∷ []) ∷ []) ∷
    block 35 132 (inst code.Return 134 [] ∷ []) ∷ [])

one_block_roles : roles (graph one_block) ≡ role_.First ∷ role_.Inside 0 ∷ role_.Merge 1 ∷ []
unfolding inst number group_of graph nodes reach reached grown name_links case_links entry_links role outward
one_block_roles = refl

one_block_kinds : kinds (graph one_block) ≡ ((kind.Enter ∷ []) ∷ []) ∷ ((kind.Back ∷ []) ∷ (kind.Break ∷ []) ∷ []) ∷ [] ∷ []
unfolding inst number group_of graph nodes reach reached grown name_links case_links entry_links role outward
one_block_kinds = refl

-- a switch in a loop, one of whose cases falls into another: blocks 3 and 4 are the case targets
abbrev switch_in_loop : Function
switch_in_loop = function (
    block 16 107 (inst code.Branch 109 (31 ∷ []) ∷ []) ∷
    block 31 111 (inst code.LoopMerge 113 (35 ∷ 34 ∷ 0 ∷ []) ∷ inst code.Branch 117 (32 ∷ []) ∷ []) ∷
    block 32 119 (inst code.SelectionMerge 130 (37 ∷ 0 ∷ []) ∷ inst code.Switch 133 (40 ∷ 37 ∷ 1 ∷ 51 ∷ 2 ∷ 52 ∷ 3 ∷ 35 ∷ 5 ∷ 34 ∷ []) ∷ []) ∷
    block 51 144 (inst code.Branch 149 (52 ∷ []) ∷ []) ∷
    block 52 151 (inst code.Branch 161 (37 ∷ []) ∷ []) ∷
    block 37 163 (inst code.Branch 165 (34 ∷ []) ∷ []) ∷
    block 34 167 (inst code.Branch 169 (31 ∷ []) ∷ []) ∷
    block 35 171 (inst code.Return 173 [] ∷ []) ∷ [])

switch_in_loop_roles : roles (graph switch_in_loop) ≡
    role_.First ∷ role_.Inside 0 ∷ role_.Inside 1 ∷ role_.Case 2 ∷ role_.Case 2 ∷ role_.Merge 2 ∷ role_.Continue 1 ∷ role_.Merge 1 ∷ []
unfolding inst number group_of graph nodes reach reached grown name_links case_links entry_links role outward
switch_in_loop_roles = refl

switch_in_loop_places : places (graph switch_in_loop) ≡
    [] ∷ [] ∷ (Loop 1 ∷ []) ∷ (Case 2 3 ∷ Loop 1 ∷ []) ∷ (Case 2 4 ∷ Loop 1 ∷ []) ∷ (Loop 1 ∷ []) ∷ (Cont 1 ∷ []) ∷ [] ∷ []
unfolding inst number group_of graph nodes reach reached grown name_links case_links entry_links role outward
switch_in_loop_places = refl

switch_in_loop_nesting : nestings (graph switch_in_loop) ≡ 0 ∷ 0 ∷ 1 ∷ 2 ∷ 2 ∷ 1 ∷ 1 ∷ 0 ∷ []
unfolding inst number group_of graph nodes reach reached grown name_links case_links entry_links role outward
switch_in_loop_nesting = refl

switch_in_loop_kinds : kinds (graph switch_in_loop) ≡
    ((kind.Enter ∷ []) ∷ []) ∷ ((kind.Enter ∷ []) ∷ []) ∷
    ((kind.SwitchBreak ∷ []) ∷ (kind.Enter ∷ []) ∷ (kind.Enter ∷ []) ∷ (kind.Break ∷ []) ∷ (kind.Continue ∷ []) ∷ []) ∷
    ((kind.Fall ∷ []) ∷ []) ∷ ((kind.SwitchBreak ∷ []) ∷ []) ∷ ((kind.Continue ∷ []) ∷ []) ∷ ((kind.Back ∷ []) ∷ []) ∷ [] ∷ []
unfolding inst number group_of graph nodes reach reached grown name_links case_links entry_links role outward
switch_in_loop_kinds = refl

switch_in_loop_falls : fall_links (graph switch_in_loop) ≡ (3, 4) ∷ []
unfolding inst number group_of graph nodes reach reached grown name_links case_links entry_links role outward fall_links
switch_in_loop_falls = refl

-- the targets of a conditional are the same
abbrev same_targets : Function
same_targets = function (
    block 16 107 (inst code.SelectionMerge 109 (30 ∷ 0 ∷ []) ∷ inst code.BranchConditional 112 (23 ∷ 24 ∷ 24 ∷ []) ∷ []) ∷
    block 24 116 (inst code.Branch 118 (30 ∷ []) ∷ []) ∷
    block 30 120 (inst code.Return 122 [] ∷ []) ∷ [])

same_targets_refused : BrokenIn (graph same_targets) K6 112
unfolding inst number group_of graph nodes reach reached grown
same_targets_refused = (0, lit< tt, refl, (refl, refl))

-- a conditional without a merge block enters a block by each edge
abbrev two_enters : Function
two_enters = function (
    block 16 107 (inst code.BranchConditional 109 (23 ∷ 24 ∷ 25 ∷ []) ∷ []) ∷
    block 24 113 (inst code.Return 115 [] ∷ []) ∷
    block 25 116 (inst code.Return 118 [] ∷ []) ∷ [])

two_enters_refused : BrokenIn (graph two_enters) K8 109
unfolding inst number group_of graph nodes reach reached grown name_links case_links entry_links role outward
two_enters_refused = (0, lit< tt, refl, (refl, refl))

-- a loop header names itself as its merge block
abbrev own_merge : Function
own_merge = function (
    block 16 107 (inst code.Branch 109 (31 ∷ []) ∷ []) ∷
    block 31 111 (inst code.LoopMerge 113 (31 ∷ 34 ∷ 0 ∷ []) ∷ inst code.Branch 117 (34 ∷ []) ∷ []) ∷
    block 34 119 (inst code.Branch 121 (31 ∷ []) ∷ []) ∷ [])

own_merge_refused : BrokenIn (graph own_merge) K3 113
unfolding inst number group_of graph nodes reach reached grown name_links
own_merge_refused = (1, lit< tt, refl, (refl, refl))

-- two cases fall into each other
abbrev fall_cycle : Function
fall_cycle = function (
    block 16 107 (inst code.SelectionMerge 109 (30 ∷ 0 ∷ []) ∷ inst code.Switch 112 (14 ∷ 30 ∷ 1 ∷ 24 ∷ 2 ∷ 25 ∷ []) ∷ []) ∷
    block 24 119 (inst code.Branch 121 (25 ∷ []) ∷ []) ∷
    block 25 123 (inst code.Branch 125 (24 ∷ []) ∷ []) ∷
    block 30 127 (inst code.Return 129 [] ∷ []) ∷ [])

fall_cycle_links : fall_links (graph fall_cycle) ≡ (1, 2) ∷ (2, 1) ∷ []
unfolding inst number group_of graph nodes reach reached grown name_links case_links entry_links role outward fall_links
fall_cycle_links = refl

fall_cycle_refused : BrokenIn (graph fall_cycle) K11 121
unfolding inst number group_of graph nodes reach reached grown name_links case_links entry_links role outward fall_links after_falls
fall_cycle_refused = (1, lit< tt, refl, ((2, 1, refl, refl, (1, lit< tt, refl)), refl))

fall_cycle_refused_too : BrokenIn (graph fall_cycle) K11 125
unfolding inst number group_of graph nodes reach reached grown name_links case_links entry_links role outward fall_links after_falls
fall_cycle_refused_too = (2, lit< tt, refl, ((1, 2, refl, refl, (1, lit< tt, refl)), refl))

-- a block that is not reached, and what it names, does not count
abbrev unreached : Function
unreached = function (
    block 16 107 (inst code.Return 109 [] ∷ []) ∷
    block 24 110 (inst code.SelectionMerge 112 (16 ∷ 0 ∷ []) ∷ inst code.Branch 115 (16 ∷ []) ∷ []) ∷ [])

unreached_marks : reached (nodes unreached) ≡ true ∷ false ∷ []
unfolding inst number group_of nodes reach reached grown
unreached_marks = refl

unreached_roles : roles (graph unreached) ≡ role_.First ∷ role_.First ∷ []
unfolding inst number group_of graph nodes reach reached grown name_links case_links entry_links role
unreached_roles = refl

-- OpSelectionMerge before OpBranch
abbrev merge_before_branch : Function
merge_before_branch = function (
    block 16 107 (inst code.SelectionMerge 109 (30 ∷ 0 ∷ []) ∷ inst code.Branch 112 (30 ∷ []) ∷ []) ∷
    block 30 114 (inst code.Return 116 [] ∷ []) ∷ [])

merge_before_branch_refused : BrokenIn (graph merge_before_branch) K1 109
unfolding inst number group_of graph nodes reach reached grown
merge_before_branch_refused = (0, lit< tt, refl, inl (refl, refl))

-- OpSwitch without OpSelectionMerge
abbrev switch_without_merge : Function
switch_without_merge = function (
    block 16 107 (inst code.Switch 109 (14 ∷ 30 ∷ []) ∷ []) ∷
    block 30 112 (inst code.Return 114 [] ∷ []) ∷ [])

switch_without_merge_refused : BrokenIn (graph switch_without_merge) K1 109
unfolding inst number group_of graph nodes reach reached grown
switch_without_merge_refused = (0, lit< tt, refl, inr (refl, refl))

-- a branch to the first block
abbrev to_the_first : Function
to_the_first = function (
    block 16 107 (inst code.Branch 109 (24 ∷ []) ∷ []) ∷
    block 24 111 (inst code.Branch 113 (16 ∷ []) ∷ []) ∷ [])

to_the_first_refused : BrokenIn (graph to_the_first) K2 113
unfolding inst number group_of graph nodes reach reached grown
to_the_first_refused = (1, lit< tt, refl, inl (refl, refl))

-- a merge block that stands before its header
abbrev merge_before_header : Function
merge_before_header = function (
    block 16 107 (inst code.Branch 109 (31 ∷ []) ∷ []) ∷
    block 30 111 (inst code.Return 113 [] ∷ []) ∷
    block 31 114 (inst code.SelectionMerge 116 (30 ∷ 0 ∷ []) ∷ inst code.BranchConditional 119 (23 ∷ 24 ∷ 30 ∷ []) ∷ []) ∷
    block 24 123 (inst code.Branch 125 (30 ∷ []) ∷ []) ∷ [])

merge_before_header_refused : BrokenIn (graph merge_before_header) K5 111
unfolding inst number group_of graph nodes reach reached grown name_links case_links entry_links role
merge_before_header_refused = (1, lit< tt, refl, ((2, refl, lit≤ tt), refl))

-- one case falls into two
abbrev falls_into_two : Function
falls_into_two = function (
    block 16 107 (inst code.SelectionMerge 109 (30 ∷ 0 ∷ []) ∷ inst code.Switch 112 (14 ∷ 30 ∷ 1 ∷ 24 ∷ 2 ∷ 25 ∷ 3 ∷ 26 ∷ []) ∷ []) ∷
    block 24 121 (inst code.BranchConditional 123 (23 ∷ 25 ∷ 26 ∷ []) ∷ []) ∷
    block 25 127 (inst code.Branch 129 (30 ∷ []) ∷ []) ∷
    block 26 131 (inst code.Branch 133 (30 ∷ []) ∷ []) ∷
    block 30 135 (inst code.Return 137 [] ∷ []) ∷ [])

falls_into_two_refused : BrokenIn (graph falls_into_two) K9 121
unfolding inst number group_of graph nodes reach reached grown name_links case_links entry_links role outward fall_links
falls_into_two_refused = (1, 2, 3, refl, refl, (λ e. cc), refl)

-- two cases fall into one
abbrev two_fall : Function
two_fall = function (
    block 16 107 (inst code.SelectionMerge 109 (30 ∷ 0 ∷ []) ∷ inst code.Switch 112 (14 ∷ 30 ∷ 1 ∷ 24 ∷ 2 ∷ 25 ∷ 3 ∷ 26 ∷ []) ∷ []) ∷
    block 24 121 (inst code.Branch 123 (26 ∷ []) ∷ []) ∷
    block 25 125 (inst code.Branch 127 (26 ∷ []) ∷ []) ∷
    block 26 129 (inst code.Branch 131 (30 ∷ []) ∷ []) ∷
    block 30 133 (inst code.Return 135 [] ∷ []) ∷ [])

two_fall_refused : BrokenIn (graph two_fall) K10 129
unfolding inst number group_of graph nodes reach reached grown name_links case_links entry_links role outward fall_links
two_fall_refused = (3, 1, 2, refl, refl, (λ e. cc), refl)
