-- What operands have at a moment of a run.
use Rattle.std.specs.Prelude.{ℕ, Bool, List, [], drop, take, Option, Some, None, option_map, slice_index}
use Rattle.spv_ops.specs.declared.Op.{Op}
use Rattle.spv_ops.specs.declared.Op.TheVariants as code
use Rattle.spv_module.specs.declared.inst.Inst.{Inst}
use Rattle.spv_types.specs.Tree.{ValueTree, truth, word}
use Rattle.op_semantics.specs.Component.{each_one}
use Rattle.spv_ops.specs.Operands.{operands, ids_among, literals_among}
use Rattle.module_semantics.specs.Setting.{Setting, global_variable}
use Rattle.module_semantics.specs.State.{Root, global, Held, value, pointer, Frame}

-- a variable of the module is a pointer to itself, a constant its value
abbrev pub of_module : Setting → ℕ → Option Held
of_module s id = elim (global_variable s id) [ Some v ↦ Some (pointer (global id) []) | None ↦ option_map value (s.constants id) ]

-- what an id has; an id of the function has nothing before it is set
abbrev pub held : Setting → Frame → ℕ → Option Held
held s f id = elim (f.ids id) [ Some h ↦ Some h | None ↦ of_module s id ]

abbrev pub as_value : Option Held → Option ValueTree
as_value (Some (value v)) = Some v
as_value _ = None

abbrev pub as_word : Option ValueTree → Option ℕ
as_word (Some (word w)) = Some w
as_word _ = None

abbrev pub as_truth : Option ValueTree → Option Bool
as_truth (Some (truth b)) = Some b
as_truth _ = None

abbrev pub value_at : Setting → Frame → ℕ → Option ValueTree
value_at s f id = as_value (held s f id)

abbrev pub word_at : Setting → Frame → ℕ → Option ℕ
word_at s f id = as_word (value_at s f id)

abbrev pub truth_at : Setting → Frame → ℕ → Option Bool
truth_at s f id = as_truth (value_at s f id)

-- a pointer's variable and indexes
abbrev pub Target : Type 0
Target = Root × List ℕ

abbrev pub as_pointer : Option Held → Option Target
as_pointer (Some (pointer r path)) = Some (r, path)
as_pointer _ = None

abbrev pub pointer_at : Setting → Frame → ℕ → Option Target
pointer_at s f id = as_pointer (held s f id)

-- operand word k of an instruction
abbrev pub arg : Inst → ℕ → ℕ
arg i k = slice_index i.args k

-- of the operand words of an operation, those that are ids of values, and those that are literals (SPIR-V 1.6, section "Instructions")
abbrev pub value_operands : Op → List ℕ → List ℕ
value_operands code.ExtInst args = drop 2 args
value_operands o args = ids_among (operands o) args

abbrev pub literal_operands : Op → List ℕ → List ℕ
literal_operands code.ExtInst args = take 1 (drop 1 args)
literal_operands o args = literals_among (operands o) args

-- the values of operands, where each has one
abbrev pub values_at : Setting → Frame → List ℕ → Option (List ValueTree)
values_at s f ids = each_one (value_at s f) ids

abbrev pub words_at : Setting → Frame → List ℕ → Option (List ℕ)
words_at s f ids = each_one (word_at s f) ids
