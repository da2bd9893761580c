use Rattle.std.proofs.Common.{append_assoc}
use Rattle.module_gen.proofs.pieces.put_selection.Goals as goal

pub returns-clause-insts : goal.returns-clause-insts
returns-clause-insts c = rw (c.in_ok-put_rows.ensures, c.in_ok-put_loaded.ensures) (simp append_assoc)
