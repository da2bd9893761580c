use Rattle.std.proofs.Common.{rules, ◌==◌, not}
use Rattle.std.proofs.lemmas.Fn.{filter_same}
use Rattle.run_state.proofs.chain.unlist.Goals as goal

pub returns : goal.returns
returns c = filter_same _ (λ x. not (x == c.args.id)) _ (λ x b f' k. search rules) c.args.list.now.items c.retain.new.self.items c.retain.ensures.filtered
