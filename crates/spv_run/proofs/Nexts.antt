-- The act of a state, by the instruction that is next.
use Rattle.std.proofs.Common.{◌≡◌, [], ◌∷◌, refl, ap, sym, subst}
use Rattle.std.specs.Prelude.{Result, IfOk}
use Rattle.spv_ops.specs.OpGroups.{group_of}
use Rattle.spv_ops.specs.declared.AtomicOp.{AtomicOp}
use Rattle.spv_ops.specs.declared.OpGroup.{OpGroup}
use Rattle.spv_ops.specs.declared.OpGroup.TheVariants as groups
use Rattle.spv_ops.specs.declared.Terminator.{Terminator}
use Rattle.spv_module.specs.declared.inst.Inst.{Inst}
use Rattle.step_run.specs.declared.program.Step.{Step}
use Rattle.step_run.specs.declared.program.Step.TheVariants.{Fails}
use Rattle.module_semantics.specs.Setting.{Setting}
use Rattle.module_semantics.specs.Steps.{StepKind, operation, step_in, step_kind, step_by, act_on, act}
use Rattle.run_state.specs.declared.conf.Conf.{Conf}
use Rattle.run_state.specs.Confs.{frame_of, behind, conf_of}
use Rattle.run_acts.specs.Narrowed.{narrowed}
use Rattle.run_acts.specs.Acts.{IsAct, IsStepOf}
use Rattle.spv_run.specs.Runs.{act_by}

module _ (s : Setting) (old new : Conf) where
  pub no_next : (frame_of s.of.functions old.top).rest ≡ [] → IsAct (act_by s (conf_of s.of.functions old)) (conf_of s.of.functions old) (conf_of s.of.functions old) Fails
  unfolding act
  no_next none = (ap (λ l. narrowed (act_on s (conf_of s.of.functions old) l)) none, refl)

  pub with_next : (i : Inst) (g : OpGroup) (step : Step) → (frame_of s.of.functions old.top).rest ≡ i ∷ behind s.of.functions old → g ≡ group_of i.op → IsStepOf (step_by (step_in g)) s old new i step → IsAct (act_by s (conf_of s.of.functions old)) (conf_of s.of.functions old) (conf_of s.of.functions new) step
  unfolding act step_kind
  with_next i g step next group is =
      subst (λ l. IsAct (narrowed (act_on s (conf_of s.of.functions old) l)) (conf_of s.of.functions old) (conf_of s.of.functions new) step) (sym next)
      (subst (λ (h : OpGroup). IsStepOf (step_by (step_in h)) s old new i step) group is)

  pub act_is : (i : Inst) → (frame_of s.of.functions old.top).rest ≡ i ∷ behind s.of.functions old → narrowed (step_by (step_kind i.op) s (conf_of s.of.functions old) (behind s.of.functions old) i) ≡ act_by s (conf_of s.of.functions old)
  unfolding act
  act_is i next = ap (λ l. narrowed (act_on s (conf_of s.of.functions old) l)) (sym next)

  -- by what kind of step it is
  pub of_kind : {E : Type 0} (i : Inst) (r : Result Step E) (k j : StepKind) → k ≡ j → IfOk r (IsStepOf (step_by j) s old new i) → IfOk r (IsStepOf (step_by k) s old new i)
  of_kind i r k j same h = subst (λ k. IfOk r (IsStepOf (step_by k) s old new i)) (sym same) h

-- what is of no other group is an operation
pub others_operate : (g : OpGroup) → (g ≡ groups.Variable → ⊥) → (g ≡ groups.Load → ⊥) → (g ≡ groups.Store → ⊥) → (g ≡ groups.Chain → ⊥) → (g ≡ groups.ArrayLength → ⊥) → ((o : AtomicOp) → g ≡ groups.Atomic o → ⊥) → (g ≡ groups.ControlBarrier → ⊥) → (g ≡ groups.MemoryBarrier → ⊥) → (g ≡ groups.Call → ⊥) → (g ≡ groups.Merge → ⊥) → ((e : Terminator) → g ≡ groups.Terminator e → ⊥) → step_in g ≡ operation
others_operate groups.Variable a b c d e f g h i j k = absurd (a refl)
others_operate groups.Load a b c d e f g h i j k = absurd (b refl)
others_operate groups.Store a b c d e f g h i j k = absurd (c refl)
others_operate groups.Chain a b c d e f g h i j k = absurd (d refl)
others_operate groups.ArrayLength a b c d e f g h i j k = absurd (e refl)
others_operate (groups.Atomic o) a b c d e f g h i j k = absurd (f o refl)
others_operate groups.ControlBarrier a b c d e f g h i j k = absurd (g refl)
others_operate groups.MemoryBarrier a b c d e f g h i j k = absurd (h refl)
others_operate groups.Call a b c d e f g h i j k = absurd (i refl)
others_operate groups.Merge a b c d e f g h i j k = absurd (j refl)
others_operate (groups.Terminator o) a b c d e f g h i j k = absurd (k o refl)
others_operate _ a b c d e f g h i j k = refl
