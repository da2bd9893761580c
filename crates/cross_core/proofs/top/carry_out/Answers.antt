use Rattle.std.proofs.Common.{refl, sym, ◌∙◌}
use Rattle.command_line.proofs.Ends.{no_usage, complete, write_rose}
use Rattle.command_line.specs.Asked.{bytes_of}
use Rattle.cross_core.specs.Answers.{IsAnswer, above}
use Rattle.cross_core.proofs.Ran.{Ran, on_input, on_generated}
use Rattle.cross_core.proofs.top.carry_out.Goals as goal
use Rattle.cross_core.proofs.top.carry_out.Goals.{in-None, in-Some}

pub returns-clause-no_usage : goal.returns-clause-no_usage
returns-clause-no_usage g c =
    let ran : Ran g.S.Source.left g.S.Source.faults g.K.Sink.written g.K.Sink.faults c.args.command.now c.args.input.now c.match-pieces.input c.args.output.now c.match-pieces.output c.match-pieces.ending =
    elim c.match-pieces.branch [
      | in-None w ↦
          let on = w.run_on_input-ending.ensures in
          rw (w.ending-is, w.input-is, w.output-is) (on_input _ _ _ _ _ _ _ _ _ _ (sym c.pieces.ensures.pieces ∙ w.in-None.is) on.cause on.read on.output)
      | in-Some w ↦
          let on = w.run_on_generated-ending.ensures in
          rw (w.ending-is, w.input-is, w.output-is) (on_generated _ _ _ _ _ _ _ _ _ _ w.in-Some.pieces (sym c.pieces.ensures.pieces ∙ w.in-Some.is) refl on.cause on.output)
    ] in
    λ is. no_usage _ (above c.args.command.now) _ _ c.match-pieces.ending ran.cause (sym c.status.ensures ∙ is)

pub returns-clause-complete : goal.returns-clause-complete
returns-clause-complete g c =
    let ran : Ran g.S.Source.left g.S.Source.faults g.K.Sink.written g.K.Sink.faults c.args.command.now c.args.input.now c.match-pieces.input c.args.output.now c.match-pieces.output c.match-pieces.ending =
    elim c.match-pieces.branch [
      | in-None w ↦
          let on = w.run_on_input-ending.ensures in
          rw (w.ending-is, w.input-is, w.output-is) (on_input _ _ _ _ _ _ _ _ _ _ (sym c.pieces.ensures.pieces ∙ w.in-None.is) on.cause on.read on.output)
      | in-Some w ↦
          let on = w.run_on_generated-ending.ensures in
          rw (w.ending-is, w.input-is, w.output-is) (on_generated _ _ _ _ _ _ _ _ _ _ w.in-Some.pieces (sym c.pieces.ensures.pieces ∙ w.in-Some.is) refl on.cause on.output)
    ] in
    complete _ (above c.args.command.now) _ _ c.match-pieces.ending _ _ ran.cause
    (λ e. write_rose g.K.Sink.written g.K.Sink.faults (IsAnswer c.args.command.now (bytes_of c.args.command.now (g.S.Source.left c.args.input.now))) c.args.output.now c.match-pieces.output c.match-pieces.ending e ran.kept) c.status.ensures

pub returns-clause-carried : goal.returns-clause-carried
returns-clause-carried g c =
    let ran : Ran g.S.Source.left g.S.Source.faults g.K.Sink.written g.K.Sink.faults c.args.command.now c.args.input.now c.match-pieces.input c.args.output.now c.match-pieces.output c.match-pieces.ending =
    elim c.match-pieces.branch [
      | in-None w ↦
          let on = w.run_on_input-ending.ensures in
          rw (w.ending-is, w.input-is, w.output-is) (on_input _ _ _ _ _ _ _ _ _ _ (sym c.pieces.ensures.pieces ∙ w.in-None.is) on.cause on.read on.output)
      | in-Some w ↦
          let on = w.run_on_generated-ending.ensures in
          rw (w.ending-is, w.input-is, w.output-is) (on_generated _ _ _ _ _ _ _ _ _ _ w.in-Some.pieces (sym c.pieces.ensures.pieces ∙ w.in-Some.is) refl on.cause on.output)
    ] in
    record { ending = c.match-pieces.ending; is = c.status.ensures; cause = ran.cause; read = ran.read; kept = ran.kept; line = c.say.ensures.line; none = c.say.ensures.quiet }
