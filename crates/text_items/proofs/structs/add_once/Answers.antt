use Rattle.std.proofs.Common.{sym, ◌∙◌}
use Rattle.text_items.proofs.Parts.{gone_again, gone_more}
use Rattle.text_items.proofs.structs.add_once.Goals as goal

pub returns-then-has-clause-found : goal.returns-then-has-clause-found
returns-then-has-clause-found c = λ id. gone_again c.args.module.now.globals c.args.seen.now c.args.found.now c.args.ty id c.requires (sym c.has.ensures ∙ c.if-has.true)

pub returns-clause-those : goal.returns-clause-those
returns-clause-those c = gone_more c.args.module.now.globals c.args.seen.now c.args.found.now c.mark.new.seen c.add_type.new.found c.args.ty c.requires c.in_ok-mark.ensures c.in_ok-add_type.ensures
