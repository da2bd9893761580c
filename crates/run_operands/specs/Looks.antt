-- What operands have, from what the ids of the present call have.
use Rattle.std.specs.Prelude.{ℕ, Bool, List, Option, Some, None, option_map, option_and_then}
use Rattle.std.specs.Borrow.{Bor}
use Rattle.spv_module.specs.declared.inst.Inst.{Inst}
use Rattle.spv_module.specs.declared.tree.Value.{Value}
use Rattle.spv_types.specs.Tree.{Tree, ValueTree}
use Rattle.spv_types.specs.View.{value_of}
use Rattle.spv_types.specs.Types.{type_tree}
use Rattle.op_semantics.specs.Component.{each_one}
use Rattle.op_semantics.specs.Value.{op_value}
use Rattle.module_semantics.specs.State.{Held}
use Rattle.module_semantics.specs.Operands.{of_module, as_value, as_word, as_truth, Target, as_pointer, value_operands, literal_operands}
use Rattle.memory_places.specs.Kernel.{Kernel, plain}

abbrev pub Ids : Type 0
Ids = ℕ → Option Held

-- a value where it stands, if there is one
abbrev pub found : Option (Bor Value) → Option ValueTree
found v = option_map (λ (r : Bor Value). value_of r.now) v

module _ (k : Kernel) (ids : Ids) where
  abbrev pub held_by : ℕ → Option Held
  held_by id = elim (ids id) [ Some h ↦ Some h | None ↦ of_module (plain k) id ]

  abbrev pub value_by : ℕ → Option ValueTree
  value_by id = as_value (held_by id)

  abbrev pub word_by : ℕ → Option ℕ
  word_by id = as_word (value_by id)

  abbrev pub truth_by : ℕ → Option Bool
  truth_by id = as_truth (value_by id)

  abbrev pub pointer_by : ℕ → Option Target
  pointer_by id = as_pointer (held_by id)

  abbrev pub values_by : List ℕ → Option (List ValueTree)
  values_by list = each_one value_by list

  abbrev pub words_by : List ℕ → Option (List ℕ)
  words_by list = each_one word_by list

  -- the value of an operation
  abbrev pub computed_by : Inst → Option ValueTree
  computed_by i = option_and_then (λ (t : Tree). option_and_then (op_value i.op t (literal_operands i.op i.args)) (values_by (value_operands i.op i.args))) (type_tree k.of.globals i.ty)
