-- The control-flow graph of a function: a node for each block, and which blocks are reached. All numbers of blocks are their indexes in the function.
use Rattle.std.specs.Prelude.{ℕ, zero, suc, ◌==◌, ◌&&◌, ◌||◌, Bool, true, false, List, [], ◌∷◌, Option, Some, None, find, map, take, drop, length, unwrap_or, slice_index, slice_index_or, if◌then◌else◌}
use Rattle.std.specs.Option.{option_map_or}
use Rattle.std.specs.List.{list_any, zip, range_with_len}
use Rattle.spv_ops.specs.Groups.{is_merge, is_terminator}
use Rattle.spv_ops.specs.Opcode.{is}
use Rattle.spv_ops.specs.OpGroups.{group_of}
use Rattle.spv_ops.specs.declared.OpGroup.{OpGroup}
use Rattle.spv_ops.specs.declared.OpGroup.TheVariants.{Terminator as ending}
use Rattle.spv_ops.specs.declared.Terminator.{Terminator}
use Rattle.spv_ops.specs.declared.Terminator.TheVariants as ends
use Rattle.spv_ops.specs.declared.Op.{Op}
use Rattle.spv_ops.specs.declared.Op.TheVariants as code
use Rattle.spv_module.specs.declared.inst.Inst.{Inst}
use Rattle.spv_module.specs.declared.inst.Block.{Block}
use Rattle.spv_module.specs.declared.inst.Function.{Function}
use Rattle.spv_index.specs.Locals.{block_in}
use Rattle.structure_rules.specs.declared.graph.Merge.{Merge}
use Rattle.structure_rules.specs.declared.graph.Merge.TheVariants.{Absent, Selection, Loop}
use Rattle.structure_rules.specs.declared.graph.Exit.{Exit}
use Rattle.structure_rules.specs.declared.graph.Exit.TheVariants.{Branch, Conditional, Switch, Leave}
use Rattle.structure_rules.specs.declared.graph.Node.{Node}

-- the first OpLoopMerge or OpSelectionMerge of a block
abbrev pub merge_inst : Block → Option Inst
merge_inst b = find (λ (i : Inst). is_merge i.op) b.insts

abbrev pub terminator : Block → Option Inst
terminator b = find (λ (i : Inst). is_terminator i.op) b.insts

-- the word at which an instruction stands, or 0 where there is none
abbrev pub word_of : Option Inst → ℕ
word_of i = option_map_or (λ (i : Inst). i.at) i 0

-- the block with this label; a label that no block has, which another rule forbids, counts as that of the first block
abbrev pub index_of : Function → ℕ → ℕ
index_of f label = unwrap_or (block_in f label) 0

-- the second of each two words: the labels of OpSwitch behind its selector
abbrev pub seconds : List ℕ → List ℕ
seconds [] = []
seconds (w ∷ []) = []
seconds (w ∷ label ∷ ws) = label ∷ seconds ws

-- the kind of a terminator: what leads to no block leaves the function
abbrev pub exit_at_end : Terminator → Exit
exit_at_end ends.Branch = Branch
exit_at_end ends.BranchConditional = Conditional
exit_at_end ends.Switch = Switch
exit_at_end ends.Return = Leave
exit_at_end ends.ReturnValue = Leave
exit_at_end ends.Unreachable = Leave

-- what is no terminator leads nowhere
abbrev pub exit_in : OpGroup → Exit
exit_in (ending end) = exit_at_end end
exit_in _ = Leave

abbrev pub exit_of : Op → Exit
exit_of o = exit_in (group_of o)

abbrev pub exit_by : Option Inst → Exit
exit_by None = Leave
exit_by (Some i) = exit_of i.op

-- the labels to which it leads: those of OpSwitch with its default first
abbrev pub labels_by : Exit → List ℕ → List ℕ
labels_by Branch args = take 1 args
labels_by Conditional args = take 2 (drop 1 args)
labels_by Switch args = seconds args
labels_by Leave args = []

abbrev pub target_labels : Option Inst → List ℕ
target_labels None = []
target_labels (Some i) = labels_by (exit_by (Some i)) i.args

-- what a merge instruction names
abbrev pub merge_by : (ℕ → ℕ) → Option Inst → Merge
merge_by index None = Absent
merge_by index (Some i) =
    if is i.op code.LoopMerge then Loop (index (slice_index i.args 0)) (index (slice_index i.args 1))
    else Selection (index (slice_index i.args 0))

-- the node of a block, before it is told which blocks are reached
abbrev pub node_by : (ℕ → ℕ) → Block → Node
node_by index b = record {
  at = b.at;
  merge = merge_by index (merge_inst b);
  merge_at = word_of (merge_inst b);
  exit = exit_by (terminator b);
  exit_at = word_of (terminator b);
  targets = map index (target_labels (terminator b));
  reached = false;
}

unfoldable pub nodes : Function → List Node
nodes f = map (node_by (index_of f)) f.blocks

-- the block is among those that are marked
abbrev pub is_marked : List Bool → ℕ → Bool
is_marked marks b = slice_index_or marks b false

-- an edge leads from the block to block t
abbrev pub leads_to : ℕ → Node → Bool
leads_to t n = list_any (λ x. x == t) n.targets

-- an edge leads from a marked block to block t
abbrev pub is_entered : List Bool → List Node → ℕ → Bool
is_entered marks ns t = list_any (λ (p : Bool × Node). p.0 && leads_to t p.1) (zip marks ns)

-- the marked blocks, and those to which an edge leads from these
unfoldable pub grown : List Node → List Bool → List Bool
grown ns marks = map (λ t. is_marked marks t || is_entered marks ns t) (range_with_len 0 (length ns))

-- the blocks that at most so many edges reach from the first block
unfoldable pub reach : List Node → ℕ → List Bool
reach ns zero = map (λ t. t == 0) (range_with_len 0 (length ns))
reach ns (suc n) = grown ns (reach ns n)

-- as many edges as there are blocks reach each block that is reached
unfoldable pub reached : List Node → List Bool
reached ns = reach ns (length ns)

abbrev pub told : List Bool → List Node → List Node
told marks ns = map (λ (p : Bool × Node). record p.1 { reached = p.0 }) (zip marks ns)

-- the graph of a function
unfoldable pub graph : Function → List Node
graph f = told (reached (nodes f)) (nodes f)

-- no block
abbrev pub no_node : Node
no_node = record { at = 0; merge = Absent; merge_at = 0; exit = Leave; exit_at = 0; targets = []; reached = false }

abbrev pub nth : List Node → ℕ → Node
nth g b = slice_index_or g b no_node

-- the edges of a reached block
abbrev pub edges : Node → List ℕ
edges n = if n.reached then n.targets else []

abbrev pub named : Merge → List ℕ
named Absent = []
named (Selection m) = m ∷ []
named (Loop m c) = m ∷ c ∷ []

-- the blocks that the merge instruction of a reached block names
abbrev pub names : Node → List ℕ
names n = if n.reached then named n.merge else []

-- the merge block that it names, and the continue target
abbrev pub merge_named : Merge → Option ℕ
merge_named Absent = None
merge_named (Selection m) = Some m
merge_named (Loop m c) = Some m

abbrev pub continue_named : Merge → Option ℕ
continue_named (Loop m c) = Some c
continue_named _ = None

abbrev pub merge_block : List Node → ℕ → Option ℕ
merge_block g b = merge_named (nth g b).merge

abbrev pub continue_target : List Node → ℕ → Option ℕ
continue_target g b = continue_named (nth g b).merge

abbrev pub is_conditional : Exit → Bool
is_conditional Conditional = true
is_conditional _ = false

abbrev pub is_switch : Exit → Bool
is_switch Switch = true
is_switch _ = false

abbrev pub is_selection : Merge → Bool
is_selection (Selection m) = true
is_selection _ = false

-- the value is there, and is this
abbrev pub is_value : ℕ → Option ℕ → Bool
is_value x o = option_map_or (λ y. y == x) o false
