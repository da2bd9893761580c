use Rattle.std.proofs.Common.{arith, get_or}
use Rattle.std.proofs.lemmas.Result.{MatchResult-weaker}
use Rattle.phi_copies.specs.Sequence.{no_pair}
use Rattle.function_plan.proofs.One.{single_moves, one_of, two_of}
use Rattle.function_plan.proofs.moves.moves_by.Goals as goal

pub returns-in-len1 : goal.returns-in-len1
returns-in-len1 c =
    MatchResult-weaker c.single_move.result c.single_move.ensures (λ moves is. single_moves (get_or c.args.pairs.now 0 no_pair) c.args.pairs.now moves.items (one_of c.args.pairs.now no_pair (omega arith) (omega arith)) is) (λ e no. no)

pub moves_of_two-requires : goal.moves_of_two-requires
moves_of_two-requires c = two_of c.args.pairs.now no_pair no_pair (omega arith) (omega arith)
