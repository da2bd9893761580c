use Rattle.std.proofs.Common.{◌≡◌, ◌++◌, ◌∷◌, [], rules}
use Rattle.spv_types.specs.View.{value_of}
use Rattle.run_calls.proofs.Returned.{gave, back}
use Rattle.run_calls.proofs.returns.give.Goals as goal

pub returns-in-Ok-clause-given : goal.returns-in-Ok-clause-given
returns-in-Ok-clause-given c = λ fs.
    let items : c.args.conf.now.below.items ≡ c.pop.new.self.items ++ (c.in-Some.frame, c.in-Some.id) ∷ [] = search rules in
    gave fs c.args.conf.now c.in-Some.frame c.in-Some.id c.put.new.ids c.pop.new.self.items (value_of c.args.value) items c.in-Ok.ensures.put

pub returns-in_ok-push-in-Err-clause-err : goal.returns-in_ok-push-in-Err-clause-err
returns-in_ok-push-in-Err-clause-err c = λ fs.
    let items : c.args.conf.now.below.items ≡ c.pop.new.self.items ++ (c.in-Some.frame, c.in-Some.id) ∷ [] = search rules in
    let pushed : c.push.new.self.items ≡ c.pop.new.self.items ++ (record c.in-Some.frame { ids = c.put.new.ids }, c.in-Some.id) ∷ [] = search rules in
    back fs c.args.conf.now c.in-Some.frame c.in-Some.id c.put.new.ids c.pop.new.self.items c.push.new.self.items items pushed c.in-Err.ensures.err
