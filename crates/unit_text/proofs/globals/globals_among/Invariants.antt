use Rattle.std.proofs.Common.{◌≡◌, ℕ, take}
use Rattle.expr_forward.specs.Globals.{global_in}
use Rattle.unit_text.specs.Reached.{expr_among}
use Rattle.unit_text.proofs.globals.globals_among.Given as goal

abbrev pub invariant-loop-inst : goal.invariant-loop-inst
invariant-loop-inst l = (n : ℕ) → global_in l.globals n ≡ expr_among l.readings l.names (take l.inst-index l.insts) n
