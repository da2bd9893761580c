use Rattle.std.proofs.Common.{◌≡◌, ℕ, subst}
use Rattle.run_state.specs.Ids.{ids_of}
use Rattle.run_operands.specs.Looks.{word_by}
use Rattle.run_memory.proofs.operands.word_at.Goals as goal

pub returns : goal.returns
returns c = subst (λ (n : ℕ). c.word.result ≡ word_by c.args.map.now (ids_of c.args.ids.now) n) c.operand.ensures c.word.ensures
