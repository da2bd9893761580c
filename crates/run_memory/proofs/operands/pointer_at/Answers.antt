use Rattle.std.proofs.Common.{◌≡◌, ℕ, subst, option_map}
use Rattle.run_state.specs.Ids.{ids_of}
use Rattle.run_operands.specs.Targets.{target_of}
use Rattle.run_operands.specs.Looks.{pointer_by}
use Rattle.run_memory.proofs.operands.pointer_at.Goals as goal

pub returns : goal.returns
returns c = subst (λ (n : ℕ). option_map target_of c.pointer.result ≡ pointer_by c.args.map.now (ids_of c.args.ids.now) n) c.operand.ensures c.pointer.ensures
