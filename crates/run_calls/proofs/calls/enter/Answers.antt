use Rattle.std.proofs.Common.{◌≡◌, ◌+◌, ◌++◌, ◌∷◌, [], rules}
use Rattle.run_calls.proofs.Begun.{begun}
use Rattle.run_calls.proofs.calls.enter.Goals as goal

pub returns-clause-entered : goal.returns-clause-entered
returns-clause-entered c = λ fs.
    let new : c.replace-waiting.new.dest ≡ c.args.frame = search rules in
    let is : c.replace-waiting.result ≡ c.args.conf.now.top = search rules in
    let list : c.push.new.self.items ≡ c.args.conf.now.below.items ++ (record c.replace-waiting.result { at = c.replace-waiting.result.at + 1 }, c.args.waits) ∷ [] = search rules in
    begun fs c.args.conf.now c.args.frame c.replace-waiting.new.dest c.replace-waiting.result c.push.new.self.items c.args.waits new is list
