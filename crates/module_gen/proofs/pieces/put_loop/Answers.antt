use Rattle.std.proofs.Common.{append_assoc}
use Rattle.module_gen.proofs.pieces.put_loop.Goals as goal

pub returns-clause-insts : goal.returns-clause-insts
returns-clause-insts c =
    rw (c.in_ok-put_rows-2.ensures, c.in_ok-put_loaded.ensures, c.in_ok-put_rows.ensures) (simp append_assoc)
