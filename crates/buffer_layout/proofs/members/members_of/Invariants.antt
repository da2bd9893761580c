use Rattle.std.proofs.Common.{◌≡◌, ◌++◌, drop, map}
use Rattle.layout_rules.specs.Blocks.{members_from}
use Rattle.buffer_layout.specs.Members.{member_of}
use Rattle.buffer_layout.proofs.members.members_of.Given as goal

abbrev pub invariant-loop-k : goal.invariant-loop-k
invariant-loop-k l = map member_of l.members.items ++ members_from l.decor l.module.globals l.block l.k (drop l.k l.block.args) ≡ members_from l.decor l.module.globals l.block 0 l.block.args
