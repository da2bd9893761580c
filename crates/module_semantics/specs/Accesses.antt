-- Variables: what they have at the start, which of them other invocations see, and what is read from and written to the others.
use Rattle.std.specs.Prelude.{ℕ, Bool, true, false, List, [], ◌∷◌, Option, Some, None, option_map, option_and_then}
use Rattle.spv_ops.specs.Enumerants.{decoration_number, built_in_of_number}
use Rattle.spv_ops.specs.declared.Decoration.TheVariants as decoration
use Rattle.spv_ops.specs.declared.BuiltIn.{BuiltIn}
use Rattle.spv_ops.specs.declared.BuiltIn.TheVariants as built
use Rattle.spv_ops.specs.declared.StorageClass.{StorageClass}
use Rattle.spv_ops.specs.declared.StorageClass.TheVariants as storage
use Rattle.spv_module.specs.declared.inst.Inst.{Inst}
use Rattle.spv_module.specs.declared.inst.Function.{Function}
use Rattle.spv_types.specs.Tree.{Tree, ValueTree, word, many, values_in}
use Rattle.spv_types.specs.Types.{type_tree}
use Rattle.spv_types.specs.Leaves.{zero_of}
use Rattle.spv_index.specs.Locals.{inst_in}
use Rattle.traces.specs.Invocations.{Invocation, Triple}
use Rattle.module_semantics.specs.Setting.{Setting, as_variable, global_variable}
use Rattle.module_semantics.specs.Memory.{decorated, class_of, variable_type}
use Rattle.module_semantics.specs.State.{Root, global, own, lent, Frame, Conf, put, with_top, call_at, with_call, with_variable}

-- a variable begins with its initializer, or with zero where it has none
abbrev pub initial_by : Setting → Option Tree → List ℕ → Option ValueTree
initial_by s t (class ∷ initializer ∷ rest) = s.constants initializer
initial_by s t _ = option_map zero_of t

abbrev pub initial : Setting → Inst → Option ValueTree
initial s v = initial_by s (type_tree s.of.globals (variable_type s v)) v.args

abbrev pub initial_in : Setting → Function → ℕ → Option ValueTree
initial_in s f id = option_and_then (initial s) (option_and_then as_variable (inst_in f id))

abbrev pub initial_private : Setting → ℕ → Option ValueTree
initial_private s id = option_and_then (initial s) (global_variable s id)

-- the value of a built-in variable (SPIR-V 1.6, section 3.21)
abbrev pub three : Triple → ValueTree
three t = many (values_in (word t.0 ∷ word t.1 ∷ word t.2 ∷ []))

abbrev pub built_in_value : Invocation → BuiltIn → Option ValueTree
built_in_value inv built.NumWorkgroups = Some (three inv.num_workgroups)
built_in_value inv built.WorkgroupId = Some (three inv.workgroup_id)
built_in_value inv built.LocalInvocationId = Some (three inv.local_invocation_id)
built_in_value inv built.GlobalInvocationId = Some (three inv.global_invocation_id)
built_in_value inv built.LocalInvocationIndex = Some (word inv.local_invocation_index)
built_in_value inv built.WorkgroupSize = None

abbrev pub input_value : Setting → Inst → Option ValueTree
input_value s v = option_and_then (built_in_value s.invocation) (built_in_of_number (decorated s (decoration_number decoration.BuiltIn) v.result))

-- other invocations see the variable: accesses to it are events
abbrev pub is_seen : StorageClass → Bool
is_seen storage.StorageBuffer = true
is_seen storage.Uniform = true
is_seen storage.PushConstant = true
is_seen storage.Workgroup = true
is_seen _ = false

abbrev pub if_seen : Inst → Option StorageClass → Option Inst
if_seen v (Some class) = elim (is_seen class) [ true ↦ Some v | false ↦ None ]
if_seen v None = None

abbrev pub seen_if : Inst → Option Inst
seen_if v = if_seen v (class_of v)

abbrev pub seen : Setting → Root → Option Inst
seen s (global id) = option_and_then seen_if (global_variable s id)
seen s _ = None

-- the value of a variable that no other invocation sees
abbrev pub global_value_by : Setting → Conf → Inst → Option StorageClass → Option ValueTree
global_value_by s c v (Some storage.Private) = c.privates v.result
global_value_by s c v (Some storage.Input) = input_value s v
global_value_by s c v _ = None

abbrev pub global_value : Setting → Conf → Inst → Option ValueTree
global_value s c v = global_value_by s c v (class_of v)

abbrev pub kept : Setting → Conf → Root → Option ValueTree
kept s c (global id) = option_and_then (global_value s c) (global_variable s id)
kept s c (own id) = c.top.variables id
kept s c (lent depth id) = option_and_then (λ (f : Frame). f.variables id) (call_at depth c.below)

-- the state with another value of it
abbrev pub with_lent : ℕ → ℕ → ValueTree → Conf → Option Frame → Conf
with_lent depth id v c None = c
with_lent depth id v c (Some f) = record c { below = with_call depth (with_variable id v f) c.below }

abbrev pub keeping : Root → ValueTree → Conf → Conf
keeping (global id) v c = record c { privates = put c.privates id v }
keeping (own id) v c = with_top c (with_variable id v c.top)
keeping (lent depth id) v c = with_lent depth id v c (call_at depth c.below)
