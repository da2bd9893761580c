-- What is taken of the words that are told.
use Rattle.std.proofs.Common.{◌≡◌, ℕ, List, refl, ap}
use Rattle.std.specs.Prelude.{Option, Some, None, is_some, slice_index, if◌then◌else◌}
use Rattle.spv_ops.specs.declared.AtomicOp.{AtomicOp}
use Rattle.spv_ops.specs.declared.AtomicOp.TheVariants as atomics
use Rattle.spv_ops.specs.declared.Op.{Op}
use Rattle.spv_ops.specs.declared.OpGroup.{OpGroup}
use Rattle.spv_ops.specs.OpGroups.{group_of}
use Rattle.spv_module.specs.declared.inst.Inst.{Inst}
use Rattle.spv_types.specs.Tree.{word}
use Rattle.module_semantics.specs.Setting.{Setting}
use Rattle.module_semantics.specs.State.{Conf}
use Rattle.module_semantics.specs.Steps.{set_value, set_found, step_in, step_kind}
use Rattle.run_acts.specs.Narrowed.{narrowed, told_words}
use Rattle.run_memory.specs.declared.atomics.Update.{Update}
use Rattle.run_memory.specs.Outcomes.{updated_by}

-- every atomic instruction but a store has a result
pub found_is : (c : Conf) (rest : List Inst) (i : Inst) (o : AtomicOp) (words : List ℕ) → (o ≡ atomics.Store → ⊥) → set_value c rest i (word (slice_index words 0)) ≡ set_found c rest i o words
found_is c rest i atomics.Store words other = absurd (other refl)
found_is c rest i o words other = refl

pub kind_is : (o : Op) (g : OpGroup) → g ≡ group_of o → step_in g ≡ step_kind o
unfolding step_kind
kind_is o g is = ap step_in is

-- what is updated is found, and nothing else is
pub update_taken : (s : Setting) (c : Conf) (rest : List Inst) (i : Inst) (o : AtomicOp) (u : Option Update) (words : List ℕ) → told_words (narrowed (updated_by s c rest i o u)) words c ≡ (if is_some u then set_found c rest i o words else c)
update_taken s c rest i o None words = refl
update_taken s c rest i o (Some u) words = refl
