use Rattle.std.proofs.Common.{◌≡◌, rules}
use Rattle.std.specs.Prelude.{None, option_map}
use Rattle.spv_types.specs.View.{value_of}
use Rattle.constant_values.specs.Held.{value_in}
use Rattle.constant_values.proofs.Evaluation.{put_none}
use Rattle.constant_values.proofs.evaluate.put.Goals as goal

pub returns-in-None : goal.returns-in-None
returns-in-None c =
    let none : option_map value_of c.args.value ≡ None = search rules in
    λ q. put_none (value_in c.args.values.now) c.args.id q (option_map value_of c.args.value) none
