use Rattle.std.proofs.Common.{◌<◌, length, arith}
use Rattle.std.proofs.lemmas.Grind.{common_steps}
use Rattle.control_text.proofs.Rows.{entering_some}
use Rattle.control_text.proofs.writer.Writer.entering.Goals as goal

pub returns : goal.returns
returns g c =
    let some : 0 < length c.args.region.now.items.items = grind (arith, common_steps, c.is_empty.ensures, c.if-is_empty.false) in
    rw (entering_some (g.B.BlockText.blocks c.args.self.now.blocks.now) c.args.edge.from c.args.edge.to c.args.region.now some) c.copies.ensures
