-- What is written of an instruction tells its step, and whether it has a result.
use Rattle.std.proofs.Common.{◌≡◌, ◌&&◌, not, Bool, true, false, inl, inr, refl, ap}
use Rattle.std.specs.Prelude.{◌⊎◌}
use Rattle.std.proofs.lemmas.Bool.{not-true}
use Rattle.spv_ops.specs.Opcode.{is, number}
use Rattle.spv_ops.specs.Groups.{is_terminator, is_chain}
use Rattle.spv_ops.specs.OpGroups.{group_of}
use Rattle.spv_ops.specs.Shape.{shape, is_pure}
use Rattle.spv_ops.specs.declared.Op.{Op}
use Rattle.spv_ops.specs.declared.Op.TheVariants as code
use Rattle.spv_ops.specs.declared.OpGroup.{OpGroup}
use Rattle.spv_ops.specs.declared.OpGroup.TheVariants as groups
use Rattle.spv_ops.specs.declared.AtomicOp.{AtomicOp}
use Rattle.spv_ops.specs.declared.AtomicOp.TheVariants as atomics
use Rattle.spv_module.specs.Inst.{has_type, has_result}
use Rattle.hoist_plan.specs.Plan.{is_always_named}
use Rattle.module_semantics.specs.Steps as steps
use Rattle.module_semantics.specs.Steps.{step_in, step_kind}
use Rattle.expr_forward.specs.declared.kinds.InstKind.{InstKind}
use Rattle.expr_forward.specs.declared.kinds.InstKind.TheVariants as kind
use Rattle.expr_forward.specs.declared.kinds.OperationKind.{OperationKind}
use Rattle.expr_forward.specs.Kinds.{kind_in, kind_of}
use Rattle.expr_forward.specs.Statements.{has_result as gives_word}
use Rattle.grammar_law.proofs.Formed.Inner.{is_inner}

load_in : (g : OpGroup) → kind_in g ≡ kind.Load → step_in g ≡ steps.load
load_in groups.Load e = refl
load_in g e = cc

pub load_step : (o : Op) → kind_of o ≡ kind.Load → step_kind o ≡ steps.load
unfolding kind_of step_kind
load_step o e = load_in (group_of o) e

store_in : (g : OpGroup) → kind_in g ≡ kind.Store → step_in g ≡ steps.store
store_in groups.Store e = refl
store_in g e = cc

pub store_step : (o : Op) → kind_of o ≡ kind.Store → step_kind o ≡ steps.store
unfolding kind_of step_kind
store_step o e = store_in (group_of o) e

pub same_atomic : (a b : AtomicOp) → kind.Atomic a ≡ kind.Atomic b → a ≡ b
same_atomic a b e = cc

atomic_in : (g : OpGroup) (a : AtomicOp) → kind_in g ≡ kind.Atomic a → step_in g ≡ steps.atomic a
atomic_in (groups.Atomic b) a e = ap steps.atomic (same_atomic b a e)
atomic_in g a e = cc

pub atomic_step : (o : Op) (a : AtomicOp) → kind_of o ≡ kind.Atomic a → step_kind o ≡ steps.atomic a
unfolding kind_of step_kind
atomic_step o a e = atomic_in (group_of o) a e

control_in : (g : OpGroup) → kind_in g ≡ kind.ControlBarrier → step_in g ≡ steps.control_barrier
control_in groups.ControlBarrier e = refl
control_in g e = cc

pub control_step : (o : Op) → kind_of o ≡ kind.ControlBarrier → step_kind o ≡ steps.control_barrier
unfolding kind_of step_kind
control_step o e = control_in (group_of o) e

memory_in : (g : OpGroup) → kind_in g ≡ kind.MemoryBarrier → step_in g ≡ steps.memory_barrier
memory_in groups.MemoryBarrier e = refl
memory_in g e = cc

pub memory_step : (o : Op) → kind_of o ≡ kind.MemoryBarrier → step_kind o ≡ steps.memory_barrier
unfolding kind_of step_kind
memory_step o e = memory_in (group_of o) e

chain_in : (g : OpGroup) → kind_in g ≡ kind.Chain → step_in g ≡ steps.chain
chain_in groups.Chain e = refl
chain_in g e = cc

pub chain_step : (o : Op) → kind_of o ≡ kind.Chain → step_kind o ≡ steps.chain
unfolding kind_of step_kind
chain_step o e = chain_in (group_of o) e

composite_in : (g : OpGroup) → kind_in g ≡ kind.CompositeInsert → step_in g ≡ steps.operation
composite_in groups.CompositeInsert e = refl
composite_in g e = cc

pub composite_step : (o : Op) → kind_of o ≡ kind.CompositeInsert → step_kind o ≡ steps.operation
unfolding kind_of step_kind
composite_step o e = composite_in (group_of o) e

vector_in : (g : OpGroup) → kind_in g ≡ kind.VectorInsertDynamic → step_in g ≡ steps.operation
vector_in groups.VectorInsertDynamic e = refl
vector_in g e = cc

pub vector_step : (o : Op) → kind_of o ≡ kind.VectorInsertDynamic → step_kind o ≡ steps.operation
unfolding kind_of step_kind
vector_step o e = vector_in (group_of o) e

-- a value: an operation, or the length of an array
abbrev is_length : OpGroup → Bool
is_length groups.ArrayLength = true
is_length _ = false

length_in : (g : OpGroup) → is_length g ≡ true → step_in g ≡ steps.array_length
length_in groups.ArrayLength e = refl
length_in g e = cc

operation_in : (g : OpGroup) (q : OperationKind) → kind_in g ≡ kind.Value q → is_length g ≡ false → step_in g ≡ steps.operation
operation_in groups.ArrayLength q e off = cc
operation_in g q e off = cc

value_in : (g : OpGroup) (q : OperationKind) → kind_in g ≡ kind.Value q → (step_in g ≡ steps.operation) ⊎ (step_in g ≡ steps.array_length)
value_in g q e = by_test (is_length g) refl
  where
    by_test : (b : Bool) → is_length g ≡ b → (step_in g ≡ steps.operation) ⊎ (step_in g ≡ steps.array_length)
    by_test true on = inr (length_in g on)
    by_test false off = inl (operation_in g q e off)

pub value_step : (o : Op) (q : OperationKind) → kind_of o ≡ kind.Value q → (step_kind o ≡ steps.operation) ⊎ (step_kind o ≡ steps.array_length)
unfolding kind_of step_kind
value_step o q e = value_in (group_of o) q e

-- nothing is written: a variable, or a merge instruction
abbrev is_outer_group : OpGroup → Bool
is_outer_group groups.Phi = true
is_outer_group (groups.Terminator o) = true
is_outer_group _ = false

silent_in : (g : OpGroup) → kind_in g ≡ kind.Silent → is_inner g ≡ true → is_outer_group g ≡ false → (step_in g ≡ steps.variable) ⊎ (step_in g ≡ steps.merge)
silent_in groups.Variable e inner off = inl refl
silent_in groups.Merge e inner off = inr refl
silent_in g e inner off = cc

outer_group : (o : Op) → is o code.Phi ≡ false → is_terminator o ≡ false → is_outer_group (group_of o) ≡ false
unfolding group_of number
outer_group code.Phi phi end = cc
outer_group o phi end = cc

pub silent_step : (o : Op) → kind_of o ≡ kind.Silent → is_inner (group_of o) ≡ true → is o code.Phi ≡ false → is_terminator o ≡ false → (step_kind o ≡ steps.variable) ⊎ (step_kind o ≡ steps.merge)
unfolding kind_of step_kind
silent_step o e inner phi end = silent_in (group_of o) e inner (outer_group o phi end)

-- kinds that have a result, by their opcodes
abbrev pub gives : InstKind → Bool
gives kind.Load = true
gives kind.Call = true
gives (kind.Atomic a) = gives_word a
gives kind.Chain = true
gives kind.CompositeInsert = true
gives kind.VectorInsertDynamic = true
gives (kind.Value q) = true
gives _ = false

abbrev implied : Bool → Bool → Bool
implied true b = b
implied false b = true

implies : (a b : Bool) → implied a b ≡ true → a ≡ true → b ≡ true
implies true b e on = e
implies false b e on = cc

gives_by : (o : Op) → implied (gives (kind_of o)) (has_result o) ≡ true
unfolding kind_of group_of shape
gives_by code.Load = refl
gives_by o = refl

pub gives_result : (o : Op) → gives (kind_of o) ≡ true → has_result o ≡ true
gives_result o on = implies (gives (kind_of o)) (has_result o) (gives_by o) on

-- and kinds that have none
abbrev pub effects : InstKind → Bool
effects kind.Store = true
effects (kind.Atomic a) = not (gives_word a)
effects kind.ControlBarrier = true
effects kind.MemoryBarrier = true
effects _ = false

effects_by : (o : Op) → implied (effects (kind_of o)) (not (has_type o)) ≡ true
unfolding kind_of group_of shape
effects_by code.Store = refl
effects_by o = refl

pub no_type : (o : Op) → effects (kind_of o) ≡ true → has_type o ≡ false
no_type o on = not-true (has_type o) (implies (effects (kind_of o)) (not (has_type o)) (effects_by o) on)

-- so of variables and of merge instructions
abbrev is_merge : steps.StepKind → Bool
is_merge steps.merge = true
is_merge _ = false

merge_by : (o : Op) → implied (is_merge (step_kind o)) (not (has_type o)) ≡ true
unfolding step_kind group_of shape
merge_by code.LoopMerge = refl
merge_by o = refl

pub variable_gives : (o : Op) → step_kind o ≡ steps.variable → (is o code.Variable ≡ true) × (has_result o ≡ true)
unfolding step_kind group_of number shape
variable_gives code.Variable step = (refl, refl)
variable_gives o step = cc

pub merge_no_type : (o : Op) → step_kind o ≡ steps.merge → has_type o ≡ false
merge_no_type o step = not-true (has_type o) (implies (is_merge (step_kind o)) (not (has_type o)) (merge_by o) (ap is_merge step))

-- loads, calls and atomic instructions have an effect, and are named wherever they are live
abbrev pub accesses : InstKind → Bool
accesses kind.Load = true
accesses kind.Call = true
accesses (kind.Atomic a) = gives_word a
accesses _ = false

accesses_by : (o : Op) → implied (accesses (kind_of o)) (is_always_named o && not (is_pure o)) ≡ true
unfolding kind_of group_of shape
accesses_by code.Load = refl
accesses_by o = refl

both_parts : (a b : Bool) → (a && not b) ≡ true → (a ≡ true) × (b ≡ false)
both_parts true true on = cc
both_parts true false on = (refl, refl)
both_parts false b on = cc

pub always_named : (o : Op) → accesses (kind_of o) ≡ true → (is_always_named o ≡ true) × (is_pure o ≡ false)
always_named o on = both_parts (is_always_named o) (is_pure o) (implies (accesses (kind_of o)) (is_always_named o && not (is_pure o)) (accesses_by o) on)

-- these are kept for their effect
abbrev pub is_effect : InstKind → Bool
is_effect kind.Load = true
is_effect kind.Store = true
is_effect kind.Call = true
is_effect (kind.Atomic a) = true
is_effect _ = false

effect_by : (o : Op) → implied (is_effect (kind_of o)) (not (is_pure o)) ≡ true
unfolding kind_of group_of shape
effect_by code.Load = refl
effect_by o = refl

pub effect_of : (o : Op) → is_effect (kind_of o) ≡ true → is_pure o ≡ false
effect_of o on = not-true (is_pure o) (implies (is_effect (kind_of o)) (not (is_pure o)) (effect_by o) on)

-- a variable is no chain
pub variable_no_chain : (o : Op) → is o code.Variable ≡ true → is_chain o ≡ false
unfolding number
variable_no_chain code.Variable on = refl
variable_no_chain o on = cc

-- operations that stand in expressions are not always named
abbrev is_value_kind : InstKind → Bool
is_value_kind (kind.Value q) = true
is_value_kind _ = false

value_by : (o : Op) → implied (is_value_kind (kind_of o)) (not (is_always_named o)) ≡ true
unfolding kind_of group_of
value_by code.Undef = refl
value_by o = refl

pub value_unnamed : (o : Op) (q : OperationKind) → kind_of o ≡ kind.Value q → is_always_named o ≡ false
value_unnamed o q e = not-true (is_always_named o) (implies (is_value_kind (kind_of o)) (not (is_always_named o)) (value_by o) (ap is_value_kind e))
