use Rattle.std.proofs.Common.{map, arith}
use Rattle.std.specs.List.{enumerate_from}
use Rattle.glsl_ast.specs.View.{member_of}
use Rattle.text_rules.specs.Declarations.{member_decl}
use Rattle.text_items.specs.Names.{item_names}
use Rattle.text_items.proofs.Joined.{member_push}
use Rattle.text_items.proofs.blocks.members.Goals as goal

pub loop-k-preserved : goal.loop-k-preserved
loop-k-preserved c =
    member_push member_of (member_decl c.args.written.now.source (item_names c.args.written.now.source c.args.names.now) c.args.variable.now c.args.block.now) c.push.new.self.items c.loop-k.members.items (map (member_decl c.args.written.now.source (item_names c.args.written.now.source c.args.names.now) c.args.variable.now c.args.block.now) (enumerate_from 0 c.args.types.now)) c.loop-k.k c.args.types.now 0 c.in_ok-member.member (omega arith) c.in_ok-push.ensures.items c.in_ok-member.ensures c.loop-k.invariant
