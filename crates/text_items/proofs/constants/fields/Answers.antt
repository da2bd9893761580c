use Rattle.std.proofs.Common.{map, arith}
use Rattle.std.specs.List.{enumerate_from}
use Rattle.glsl_ast.specs.View.{field_of}
use Rattle.text_items.specs.Names.{field_at}
use Rattle.text_items.specs.Wording.{source_of, names_of}
use Rattle.text_items.proofs.Joined.{member_push}
use Rattle.text_items.proofs.constants.fields.Goals as goal

pub loop-k-preserved : goal.loop-k-preserved
loop-k-preserved c =
    member_push field_of (field_at (source_of c.args.wording.now) (names_of c.args.wording.now) c.args.inst.now) c.push.new.self.items c.loop-k.fields.items (map (field_at (source_of c.args.wording.now) (names_of c.args.wording.now) c.args.inst.now) (enumerate_from 0 c.args.types.now)) c.loop-k.k c.args.types.now 0 c.in_ok-field.field (omega arith) c.in_ok-push.ensures.items c.in_ok-field.ensures c.loop-k.invariant
