use Rattle.glsl_ast.specs.View.{member_of}
use Rattle.text_check.specs.Items.{is_member}
use Rattle.text_check.specs.Words.{declares}
use Rattle.text_check.proofs.Lists.{some_seen, none_seen}
use Rattle.text_check.proofs.items.are_members.Goals as goal

pub returns-then-not-is_empty : goal.returns-then-not-is_empty
returns-then-not-is_empty c = some_seen (is_member (declares c.args.structs.now)) member_of c.args.members.now c.is_empty.result c.each_member.result c.is_empty.ensures c.if-not-is_empty.true c.each_member.ensures

pub returns-else-not-is_empty : goal.returns-else-not-is_empty
returns-else-not-is_empty c = none_seen (is_member (declares c.args.structs.now)) member_of c.args.members.now c.is_empty.result c.is_empty.ensures c.if-not-is_empty.false
