use Rattle.std.proofs.Common.{rules, ◌≡◌, ◌<◌, Err, IfErr, length, subst, sym}
use Rattle.spv_words.specs.declared.rule.Fault.TheVariants.{Memory}
use Rattle.module_check.specs.Structure.{IsStructured, IsUnstructured}
use Rattle.module_check.proofs.Functions.{structured_more, structured_all, unstructured, graphs_more}
use Rattle.module_check.proofs.structure.check_structure.Goals as goal

pub returns-in_err-push-clause-refused : goal.returns-in_err-push-clause-refused
returns-in_err-push-clause-refused c =
    let inside : c.loop-function.function-index < length c.args.functions.now = search rules in
    let is : c.from_residual-in_err-push.result ≡ Err Memory = search rules in
    subst (λ r. IfErr r (IsUnstructured c.args.functions.now)) (sym is) (unstructured c.args.functions.now c.loop-function.function-index c.function-item.result Memory inside c.function-item.is tt)

pub loop-function-preserved : goal.loop-function-preserved
loop-function-preserved c =
    let inside : c.loop-function.function-index < length c.args.functions.now = search rules in
    let here : IsStructured c.function-item.result = record { unbroken = c.in_ok-places_by.ensures.passes; shallow = c.in_ok-places_by.ensures.within } in (
      structured_more c.args.functions.now c.loop-function.function-index c.function-item.result inside c.function-item.is c.loop-function.invariant.0 here,
      graphs_more c.args.functions.now c.loop-function.function-index c.function-item.result _ _ c.in_ok-places_by.field-0 inside c.function-item.is c.loop-function.invariant.1 c.in_ok-places_by.ensures.places c.in_ok-push.ensures.items,
    )

pub returns-clause-passes : goal.returns-clause-passes
returns-clause-passes c = structured_all c.args.functions.now c.loop-function.function-index (search rules) c.loop-function.invariant.0
