use Rattle.constant_values.proofs.Evaluation.{put_some}
use Rattle.constant_values.proofs.evaluate.insert.Goals as goal

pub returns : goal.returns
returns c = λ q. put_some c.args.values.now c.insert.new.self c.args.id q c.args.value (c.in_ok-insert.ensures.updates.0 q)
