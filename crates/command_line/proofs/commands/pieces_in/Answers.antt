use Rattle.std.proofs.Common.{◌≡◌, ◌&&◌, true, sym, ◌∙◌}
use Rattle.std.specs.Prelude.{nat_le, slice_index}
use Rattle.command_line.proofs.Pieces.{parsed, unparsed}
use Rattle.command_line.proofs.commands.pieces_in.Goals as goal

pub returns-in-Ok-clause-pieces : goal.returns-in-Ok-clause-pieces
returns-in-Ok-clause-pieces c =
    let test : (nat_le 49 (slice_index c.args.word.now 0) && nat_le (slice_index c.args.word.now 0) 57) ≡ true = cc in
    c.in_range.ensures.pieces ∙ parsed c.args.word.now c.in-Ok.number c.parse.result c.in-Ok.is test c.parse.ensures.value.0

pub returns-in-Err-clause-pieces : goal.returns-in-Err-clause-pieces
returns-in-Err-clause-pieces c =
    let test : (nat_le 49 (slice_index c.args.word.now 0) && nat_le (slice_index c.args.word.now 0) 57) ≡ true = cc in
    sym (unparsed c.args.word.now c.in-Err.field-0 c.parse.result c.in-Err.is test c.parse.ensures.value.0)
