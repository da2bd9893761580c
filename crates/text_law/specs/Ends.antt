-- How the blocks of a function end, as the text of its tree has it.
use Rattle.std.specs.Prelude.{◌≡◌, ℕ, Bool, true, false, List, Some, is_some, slice_get, slice_index}
use Rattle.std.specs.Option.{option_map_or}
use Rattle.spv_ops.specs.Opcode.{is}
use Rattle.spv_ops.specs.declared.Op.TheVariants as code
use Rattle.spv_module.specs.declared.inst.Inst.{Inst}
use Rattle.spv_module.specs.declared.inst.Block.{Block}
use Rattle.spv_module.specs.declared.inst.Function.{Function}
use Rattle.spv_index.specs.Locals.{block_in}
use Rattle.structure_rules.specs.declared.graph.Exit.{Exit}
use Rattle.structure_rules.specs.declared.graph.Exit.TheVariants.{Branch, Conditional, Switch, Leave}
use Rattle.structure_rules.specs.Graph.{terminator, target_labels, nth, graph}
use Rattle.structure_recover.specs.Follows.{last_inst}
use Rattle.region_law.specs.Leads.{Term, jump, branch, table, return, lost, In}

-- by what the terminator does, and where it leads; what leads to no block returns, or is lost
abbrev pub term_by : Exit → List ℕ → Bool → Term
term_by Branch ts is_lost = jump (slice_index ts 0)
term_by Conditional ts is_lost = branch (slice_index ts 0) (slice_index ts 1)
term_by Switch ts is_lost = table
term_by Leave ts true = lost
term_by Leave ts false = return

-- OpUnreachable
abbrev pub is_lost_block : Function → ℕ → Bool
is_lost_block f b = option_map_or (λ (i : Inst). is i.op code.Unreachable) (last_inst (slice_get f.blocks b)) false

abbrev pub term_of : Function → ℕ → Term
term_of f b = term_by (nth (graph f) b).exit (nth (graph f) b).targets (is_lost_block f b)

-- each label to which a terminator leads is that of a block of the function
pub record HasLabels (f : Function) : Type 0 where
  pub there : (b : ℕ) (block : Block) (i : Inst) → slice_get f.blocks b ≡ Some block → terminator block ≡ Some i → (label : ℕ) → In label (target_labels (Some i)) → is_some (block_in f label) ≡ true
