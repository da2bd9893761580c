use Rattle.std.proofs.Common.{ℕ, List, ap, sym, subst, refl, ◌∙◌}
use Rattle.traces.specs.Events.{Event}
use Rattle.traces.specs.Runs.{Act, goes}
use Rattle.step_run.specs.Answers.{answers_in}
use Rattle.module_semantics.specs.State.{Conf}
use Rattle.module_semantics.specs.Operands.{arg, word_at}
use Rattle.module_semantics.specs.Steps.{advanced}
use Rattle.memory_places.specs.Kernel.{setting_for}
use Rattle.run_state.specs.Confs.{conf_of, behind}
use Rattle.run_acts.specs.Acts.{IsAct}
use Rattle.run_memory.proofs.Barring.{barrier_goes, barrier_fails, barrier_takes_none}
use Rattle.run_memory.proofs.barriers.barrier_step.Goals as goal

pub make-requires-clause-given : goal.make-requires-clause-given
make-requires-clause-given c = ap answers_in c.in_ok-events-in-Some.ensures ∙ barrier_takes_none c.args.barrier c.in-Some.semantics

pub returns-in-None-clause-step : goal.returns-in-None-clause-step
returns-in-None-clause-step c = λ told.
    let s = setting_for c.args.site.now.map.now told in
    let fs = c.args.site.now.map.now.of.functions in
    let d = conf_of fs c.args.conf.now in
    let rest = behind fs c.args.conf.now in
    let i = c.args.site.now.inst.now in
    (barrier_fails s d rest i c.args.barrier (c.in-None.ensures ∙ ap (λ (k : ℕ). word_at s d.top (arg i k)) c.place_of.ensures), refl)

pub returns-in_ok-events-in-Some-clause-step : goal.returns-in_ok-events-in-Some-clause-step
returns-in_ok-events-in-Some-clause-step c = λ told.
    let s = setting_for c.args.site.now.map.now told in
    let fs = c.args.site.now.map.now.of.functions in
    let d = conf_of fs c.args.conf.now in
    let rest = behind fs c.args.conf.now in
    let i = c.args.site.now.inst.now in
    let h = barrier_goes s d rest i c.args.barrier c.in-Some.semantics (c.in-Some.ensures ∙ ap (λ (k : ℕ). word_at s d.top (arg i k)) c.place_of.ensures) ∙ ap (λ (es : List Event). goes es (advanced d rest)) (sym c.in_ok-events-in-Some.ensures) in
    subst (λ (a : Act Conf). IsAct a d (conf_of fs c.make.new.conf) c.make.result) (sym h) (c.make.ensures fs)
