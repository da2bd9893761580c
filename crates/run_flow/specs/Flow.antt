-- The steps of the definition, from where the block or the function is known to which they lead.
use Rattle.std.specs.Prelude.{ℕ, ◌≡◌, List, [], Option, Some, option_map, option_and_then, drop, map, slice_get}
use Rattle.spv_ops.specs.declared.Terminator.{Terminator}
use Rattle.spv_module.specs.declared.inst.Inst.{Inst}
use Rattle.spv_module.specs.declared.inst.Block.{Block}
use Rattle.spv_module.specs.declared.inst.Function.{Function}
use Rattle.spv_module.specs.declared.tree.Value.{Value}
use Rattle.spv_types.specs.Tree.{ValueTree}
use Rattle.spv_types.specs.View.{value_of}
use Rattle.op_semantics.specs.Component.{each_one}
use Rattle.traces.specs.Runs.{Act, goes}
use Rattle.profile_rules.specs.Entry.{function_of}
use Rattle.step_run.specs.declared.program.Step.{Step}
use Rattle.module_semantics.specs.Setting.{Setting}
use Rattle.module_semantics.specs.State as state
use Rattle.module_semantics.specs.Accesses.{initial_in}
use Rattle.module_semantics.specs.Operands.{held}
use Rattle.module_semantics.specs.Steps as steps
use Rattle.module_semantics.specs.Steps.{with_some}
use Rattle.memory_places.specs.Kernel.{Kernel}
use Rattle.run_state.specs.declared.held.Held.{Held}
use Rattle.run_state.specs.declared.conf.Conf.{Conf}
use Rattle.run_state.specs.Ids.{held_of}
use Rattle.run_state.specs.Confs.{conf_of}
use Rattle.run_operands.specs.Looks.{Ids, held_by, value_by}
use Rattle.run_acts.specs.Narrowed.{narrowed}
use Rattle.run_acts.specs.Acts.{IsAct}

abbrev pub values_of : List Value → List ValueTree
values_of vs = map value_of vs

abbrev pub all_held : List Held → List state.Held
all_held hs = map held_of hs

-- what a phi takes from the block with this label
abbrev pub phi_by : Kernel → Ids → ℕ → Inst → Option ValueTree
phi_by k ids from i = option_and_then (value_by k ids) (steps.source_from from i.args)

-- an argument as the call has it
abbrev pub passed_by : Kernel → Ids → ℕ → ℕ → Option state.Held
passed_by k ids depth id = option_map (steps.passed depth) (held_by k ids id)

-- what a step is of an act that looks at no instruction
abbrev pub IsMoveOf : (Setting → state.Conf → Act state.Conf) → Setting → Conf → Conf → Step → Type 0
IsMoveOf act s old new step = IsAct (narrowed (act s (conf_of s.of.functions old))) (conf_of s.of.functions old) (conf_of s.of.functions new) step

-- an edge to the block at this place, to the block with this label, and at the end of a block
abbrev pub edge_to : ℕ → Block → Setting → state.Conf → Act state.Conf
edge_to t b s c = with_some (each_one (steps.phi_value s c.top (steps.present_label c.top)) (steps.phis b)) (λ values. goes [] (steps.gone_to c t b values))

abbrev pub edge_by : ℕ → Setting → state.Conf → Act state.Conf
edge_by label s c = steps.edge_step s c label

abbrev pub branch_by : Terminator → Setting → state.Conf → List Inst → Inst → Act state.Conf
branch_by end s c rest i = steps.branch_step end s c i

-- a call of this function
abbrev pub call_to : Function → Setting → state.Conf → List Inst → Inst → Act state.Conf
call_to f s c rest i = with_some (each_one (held s c.top) (drop 1 i.args)) (λ arguments. goes [] (steps.called s c rest i f arguments))

-- the return of a value
abbrev pub return_value_by : Setting → state.Conf → List Inst → Inst → Act state.Conf
return_value_by s c rest i = steps.return_value_step s c i

-- the function with this id stands at this place
abbrev pub IsCalled : List Function → ℕ → ℕ → Function → Type 0
IsCalled fs id place f = (slice_get fs place ≡ Some f) × (function_of fs id ≡ Some f)

-- the first moment of a call whose ids have this
abbrev pub first_of : Setting → Function → Ids → state.Frame
first_of s f ids = record { function = f; block = 0; rest = steps.first_insts f.blocks; ids = ids; variables = initial_in s f }
