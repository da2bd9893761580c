use Rattle.std.proofs.Common.{◌≡◌, ◌++◌, List, [], ◌∷◌, Err, Result, IfErr, rules, subst, sym}
use Rattle.spv_words.specs.declared.rule.Rule.{Rule}
use Rattle.spv_words.specs.declared.rule.Rule.TheVariants.{P5, P6, P7, P8, P9, P10, P13, P14, P15, P16, P17, P18, P19, P20}
use Rattle.spv_words.specs.declared.rule.Fault.{Fault}
use Rattle.spv_module.specs.State.{ModuleState}
use Rattle.spv_module.specs.declared.inst.Inst.{Inst}
use Rattle.declaration_check.specs.Grouped.{IsBroken}
use Rattle.declaration_check.proofs.Groups.{joined}
use Rattle.declaration_check.proofs.declarations.check_all.Goals as goal

pub returns-in_err-check_variables-clause-refused : goal.returns-in_err-check_variables-clause-refused
returns-in_err-check_variables-clause-refused c =
    let is : c.from_residual-in_err-check_variables.result ≡ Err c.in_err-check_variables.field-0.0 = search rules in
    let P : Result (Unit {0}) Fault → Type 0 = λ r. IfErr r (IsBroken c.args.context.now c.args.entry.now) in
    subst P (sym is) (c.in_err-check_variables.ensures c.args.entry.now).refused

pub returns-in_err-check_types-clause-refused : goal.returns-in_err-check_types-clause-refused
returns-in_err-check_types-clause-refused c =
    let is : c.from_residual-in_err-check_types.result ≡ Err c.in_err-check_types.field-0.0 = search rules in
    let P : Result (Unit {0}) Fault → Type 0 = λ r. IfErr r (IsBroken c.args.context.now c.args.entry.now) in
    subst P (sym is) (c.in_err-check_types.ensures c.args.entry.now).refused

pub returns-clause-passes : goal.returns-clause-passes
returns-clause-passes c =
    let m : ModuleState = c.args.context.now in
    let entry : Inst = c.args.entry.now in
    let variables : List Rule = P13 ∷ P14 ∷ P15 ∷ P16 ∷ [] in
    let types : List Rule = P17 ∷ P18 ∷ P19 ∷ P20 ∷ [] in
    joined m entry (P5 ∷ P6 ∷ P7 ∷ P8 ∷ P9 ∷ P10 ∷ []) (variables ++ types) c.in_ok-check_head.ensures.passes
    (joined m entry variables types (c.in_ok-check_variables.ensures entry).passes (c.in_ok-check_types.ensures entry).passes)
