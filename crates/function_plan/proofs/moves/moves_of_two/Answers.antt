use Rattle.std.proofs.Common.{◌∙◌, sym}
use Rattle.std.proofs.lemmas.Result.{MatchResult-weaker}
use Rattle.function_plan.proofs.One.{two_moves}
use Rattle.function_plan.proofs.moves.moves_of_two.Goals as goal

pub returns-then-go_in_order : goal.returns-then-go_in_order
returns-then-go_in_order c = MatchResult-weaker c.two_moves.result c.two_moves.ensures (λ moves is. two_moves c.args.pair c.args.other c.args.pairs.now moves.items c.requires (sym c.go_in_order.ensures ∙ c.if-go_in_order.true) is) (λ e no. no)
