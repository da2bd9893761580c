use Rattle.std.proofs.Common.{◌||◌, ◌==◌, get_or, sym, ap, ◌∙◌}
use Rattle.std.proofs.lemmas.List.Folds.{list_any_more}
use Rattle.spv_module.specs.declared.inst.Id.{Id}
use Rattle.unit_text.proofs.plans.ids_of.Goals as goal

pub loop-id-preserved : goal.loop-id-preserved
loop-id-preserved c = λ n.
    c.in_ok-insert.ensures n
    ∙ (ap (λ b. b || ((get_or c.args.order.now c.loop-id.id-index (record { 0 = 0 })).0 == n)) (c.loop-id.invariant n) ∙ sym (list_any_more (λ (id : Id). id.0 == n) c.args.order.now c.loop-id.id-index (record { 0 = 0 }) c.loop-id-test.true))
