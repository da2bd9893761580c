-- What the act of a step is, by one of its operands, and what set and advance do.
use Rattle.std.proofs.Common.{◌≡◌, List, [], refl, ap, sym, subst}
use Rattle.std.specs.Prelude.{Option, Some, None}
use Rattle.spv_module.specs.declared.inst.Inst.{Inst}
use Rattle.spv_module.specs.declared.inst.Function.{Function}
use Rattle.traces.specs.Runs.{Act, goes}
use Rattle.step_run.specs.declared.program.Step.{Step}
use Rattle.step_run.specs.declared.program.Step.TheVariants.{Moves, Fails}
use Rattle.module_semantics.specs.State as state
use Rattle.module_semantics.specs.State.{Conf}
use Rattle.module_semantics.specs.Steps as steps
use Rattle.module_semantics.specs.Steps.{with_some}
use Rattle.run_state.specs.declared.conf.Conf as own
use Rattle.run_state.specs.Confs.{conf_of, behind, IsSet, IsAdvanced}
use Rattle.run_state.proofs.States.{set_conf, advanced_conf}
use Rattle.run_acts.specs.Narrowed.{narrowed}
use Rattle.run_acts.specs.Acts.{IsAct}

-- without an operand the step has no meaning; with it, it is what is said of it
pub acts_without : {A : Type 0} (o : Option A) (f : A → Act Conf) (old new : Conf) → None ≡ o → new ≡ old → IsAct (narrowed (with_some o f)) old new Fails
acts_without o f old new none same = subst (λ o. IsAct (narrowed (with_some o f)) old new Fails) none (refl, same)

pub acts_with : {A : Type 0} (a : A) (o : Option A) (f : A → Act Conf) (old new : Conf) (step : Step) → Some a ≡ o → IsAct (narrowed (f a)) old new step → IsAct (narrowed (with_some o f)) old new step
acts_with a o f old new step some is = subst (λ o. IsAct (narrowed (with_some o f)) old new step) some is

pub set_acts : (fs : List Function) (old new : own.Conf) (i : Inst) (h : state.Held) → IsSet old i.result h new → IsAct (goes [] (steps.set (conf_of fs old) (behind fs old) i h)) (conf_of fs old) (conf_of fs new) Moves
set_acts fs old new i h is = ap (goes []) (sym (set_conf fs old new i h is))

pub advance_acts : (fs : List Function) (old new : own.Conf) → IsAdvanced old new → IsAct (goes [] (steps.advanced (conf_of fs old) (behind fs old))) (conf_of fs old) (conf_of fs new) Moves
advance_acts fs old new is = ap (goes []) (sym (advanced_conf fs old new is))
