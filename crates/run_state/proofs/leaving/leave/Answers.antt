use Rattle.std.proofs.Common.{refl, ap, ◌∙◌}
use Rattle.run_state.specs.Confs.{frame_of, calls_of}
use Rattle.run_state.proofs.States.{calls_push}
use Rattle.run_state.proofs.leaving.leave.Goals as goal

pub returns-in-Some : goal.returns-in-Some
returns-in-Some g c = (
  (frame_of g.fs c.in-Some.frame, c.in-Some.field-0-1),
  (calls_of g.fs c.pop.new.self.items, (ap (calls_of g.fs) c.in-Some.ensures.items ∙ calls_push g.fs c.pop.new.self.items (c.in-Some.frame, c.in-Some.field-0-1), refl)),
)
