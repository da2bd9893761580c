use Rattle.std.proofs.Common.{rules, refl}
use Rattle.std.specs.Borrow.{Bor}
use Rattle.spv_module.specs.declared.tree.Value.{Value}
use Rattle.spv_types.specs.View.{value_of}
use Rattle.value_ops.specs.References.{plain_references}
use Rattle.run_state.specs.Ids.{ids_of}
use Rattle.run_operands.specs.Looks.{value_by}
use Rattle.run_operands.proofs.Founds.{result_found}
use Rattle.run_operands.proofs.look.values.Goals as goal

pub returns : goal.returns
returns c = result_found _ (λ (r : Bor Value). value_of r.now) (value_by c.args.map.now (ids_of c.args.ids.now)) (λ id r p. search rules) c.each.result plain_references c.args.list.now (λ v. refl) c.each.ensures
