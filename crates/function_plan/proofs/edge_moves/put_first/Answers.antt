use Rattle.std.proofs.Common.{sym, ◌∙◌}
use Rattle.function_plan.proofs.Edges.{put_kept, put_new}
use Rattle.function_plan.proofs.edge_moves.put_first.Goals as goal

pub returns-then-contains_key : goal.returns-then-contains_key
returns-then-contains_key c = put_kept c.args.tree.now c.args.from c.args.own (sym c.contains_key.ensures ∙ c.if-contains_key.true)

pub returns : goal.returns
returns c = put_new c.args.tree.now c.insert.new.self c.args.from c.args.own (sym c.contains_key.ensures ∙ c.if-contains_key.false) (λ b. c.in_ok-insert.ensures.updates.0 b)
