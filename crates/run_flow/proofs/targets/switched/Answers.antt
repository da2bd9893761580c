use Rattle.std.proofs.Common.{◌∙◌, ap, sym, drop}
use Rattle.std.specs.Prelude.{Some, option_map}
use Rattle.module_semantics.specs.Operands.{arg}
use Rattle.module_semantics.specs.Steps.{case_label}
use Rattle.run_flow.proofs.targets.switched.Goals as goal

pub returns-in-Some : goal.returns-in-Some
returns-in-Some c =
    let i = c.args.inst.now in
    ap Some (c.case_label.ensures ∙ ap (λ d. case_label c.in-Some.selector d c.cases_of.result.now) c.operand.ensures ∙ ap (case_label c.in-Some.selector (arg i 1)) c.cases_of.ensures)
    ∙ ap (option_map (λ w. case_label w (arg i 1) (drop 2 i.args))) (sym c.in-Some.is)
