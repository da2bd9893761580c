use Rattle.std.proofs.Common.{◌≡◌, ◌∙◌, ap, sym}
use Rattle.std.specs.Prelude.{Some, None}
use Rattle.profile_rules.specs.Entry.{function_of}
use Rattle.module_semantics.specs.Operands.{arg}
use Rattle.std.proofs.lemmas.Result.{IfOk-weaker}
use Rattle.run_flow.proofs.Moves.{no_function, of_function}
use Rattle.run_flow.proofs.calls.call_step.Goals as goal

pub returns-in-None-clause-step : goal.returns-in-None-clause-step
returns-in-None-clause-step c = λ told.
    let none : function_of c.args.site.now.map.now.of.functions (arg c.args.site.now.inst.now 0) ≡ None = ap (λ fs. function_of fs (arg c.args.site.now.inst.now 0)) (sym c.requires.functions) ∙ ap (function_of c.args.routines.now) (sym c.operand.ensures) ∙ c.in-None.ensures in
    no_function c.args.site.now.map.now told c.args.conf.now c.args.conf.now c.args.site.now.inst.now none

pub returns-in-Some-clause-step : goal.returns-in-Some-clause-step
returns-in-Some-clause-step c = λ told.
    let some : function_of c.args.site.now.map.now.of.functions (arg c.args.site.now.inst.now 0) ≡ Some c.in-Some.routine.now = ap (λ fs. function_of fs (arg c.args.site.now.inst.now 0)) (sym c.requires.functions) ∙ ap (function_of c.args.routines.now) (sym c.operand.ensures) ∙ c.in-Some.ensures.1 in
    IfOk-weaker c.begin_call.result _ _ (λ step is. of_function c.args.site.now.map.now told c.args.conf.now c.begin_call.new.conf c.args.site.now.inst.now c.in-Some.routine.now step some is) (c.begin_call.ensures.step told)
