use Rattle.std.proofs.Common.{◌≡◌, ℕ, List, map, refl, inl, inr}
use Rattle.cc_outside.specs.Causes.{Rose}
use Rattle.command_line.specs.State.{CommandState}
use Rattle.command_line.specs.declared.endings.Ending.TheVariants.{Memory}
use Rattle.command_line.specs.Commands.{command_of}
use Rattle.command_line.specs.Asked.{bytes_of}
use Rattle.cross_core.specs.Answers.{IsAnswer, above}
use Rattle.command_line.specs.Endings.{IsOutput, ReadFails}
use Rattle.command_line.specs.Carried.{Carried, IsComplete}
use Rattle.command_line.specs.Wrote.{Said}
use Rattle.command_line.proofs.Ends.{of_any, read_none}
use Rattle.cross_core.proofs.Given.{given_words}
use Rattle.cross_core.proofs.top.cross.Goals as goal

pub carry_out-requires : goal.carry_out-requires
carry_out-requires g c = given_words (map (λ w. w.now) c.args.words.now) c.in-Ok.command c.in-Ok.ensures.read

pub returns-in-Err-Memory-clause-carried : goal.returns-in-Err-Memory-clause-carried
returns-in-Err-Memory-clause-carried g c =
    let P : CommandState → Type 0 = λ command.
    Carried command (above command) (g.S.Source.left c.args.input.now) (g.S.Source.left c.args.input.now) (g.S.Source.faults c.args.input.now) (g.S.Source.faults c.args.input.now) (c.args.input.now ≡ c.args.input.now)
    (λ ending. IsOutput g.K.Sink.written g.K.Sink.faults (IsAnswer command (bytes_of command (g.S.Source.left c.args.input.now))) c.args.output.now c.args.output.now ending)
    (λ line. Said g.N.Sink.written g.N.Sink.faults g.N.Sink.wants c.args.notes.now c.say-in-Err-Memory.new.notes line) (c.say-in-Err-Memory.new.notes ≡ c.args.notes.now) 6 in
    let each : (command : CommandState) → P command = λ command.
    record {
      ending = Memory;
      is = refl;
      cause = of_any (bytes_of command (g.S.Source.left c.args.input.now)) (λ bytes. Unit {0}) (λ bytes. tt);
      read = read_none command.pieces (c.args.input.now ≡ c.args.input.now) _ _ refl;
      kept = inl refl;
      line = c.say-in-Err-Memory.ensures.line;
      none = λ e. cc;
    } in
    of_any (command_of (map (λ w. w.now) c.args.words.now)) P each

pub returns-in-Err-Memory-clause-complete : goal.returns-in-Err-Memory-clause-complete
returns-in-Err-Memory-clause-complete g c =
    let P : CommandState → List ℕ → Type 0 = λ command bytes.
    IsComplete command.options (above command bytes) bytes (ReadFails command.pieces (g.S.Source.faults c.args.input.now) (g.S.Source.faults c.args.input.now)) (Rose (g.K.Sink.faults c.args.output.now) (g.K.Sink.faults c.args.output.now)) 6 in
    let each : (command : CommandState) (bytes : List ℕ) → P command bytes = λ command bytes.
    record { succeeds = λ n w l m a. inr refl; many = λ n l a. inr (inl refl); refuses = λ n l m. inr refl; long = λ n e. inr refl; limited = λ n l e. inr (inl refl) } in
    of_any (command_of (map (λ w. w.now) c.args.words.now)) _ (λ command. of_any (bytes_of command (g.S.Source.left c.args.input.now)) (P command) (each command))
