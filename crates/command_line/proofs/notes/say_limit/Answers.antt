use Rattle.std.proofs.Common.{List, ℕ, refl, subst}
use Rattle.command_line.specs.Lines.{limit_line}
use Rattle.command_line.specs.Wrote.{Wrote}
use Rattle.command_line.proofs.Writes.{goes_then}
use Rattle.command_line.proofs.notes.say_limit.Goals as goal

pub returns : goal.returns
returns g c =
    subst (λ (name : List ℕ). Wrote g.N.Sink.written g.N.Sink.faults g.N.Sink.wants c.args.notes.now c.put.new.notes (limit_line name c.args.number) c.put.result) c.as_bytes.ensures.value
    ((goes_then _ _ _ (goes_then _ _ _ (goes_then _ _ _ (goes_then _ _ _ c.put-start.ensures c.put-named.ensures) c.put-blank.ensures) c.put_number-numbered.ensures) c.put.ensures).from_ok tt refl)
