use Rattle.std.proofs.Common.{◌≡◌, ℕ, subst, option_map}
use Rattle.std.specs.Borrow.{Bor}
use Rattle.spv_module.specs.declared.tree.Value.{Value}
use Rattle.spv_types.specs.View.{value_of}
use Rattle.run_state.specs.Ids.{ids_of}
use Rattle.run_operands.specs.Looks.{value_by}
use Rattle.run_memory.proofs.operands.value_at.Goals as goal

pub returns : goal.returns
returns c = subst (λ (n : ℕ). option_map (λ (v : Bor Value). value_of v.now) c.value.result ≡ value_by c.args.map.now (ids_of c.args.ids.now) n) c.operand.ensures c.value.ensures
