use Rattle.std.proofs.Common.{◌≡◌}
use Rattle.group_items.specs.Events.{events_of}
use Rattle.group_items.specs.Playing.{IsAt}
use Rattle.group_items.specs.Played.{IsThrough}
use Rattle.group_items.proofs.sequence.play_all.Given as goal

abbrev pub ghost-take : goal.ghost-take
ghost-take g a = g.d

abbrev pub invariant-loop-item : goal.invariant-loop-item
invariant-loop-item g l = record {
  at : IsAt g.d (g.R.Runner.at l.side) l.play;
  counted : g.R.Runner.count l.side ≡ g.R.Runner.count l.initial.side;
  runs : g.R.Runner.runs l.side ≡ g.R.Runner.runs l.initial.side;
  through : IsThrough g.d (g.R.Runner.runs l.initial.side) (events_of l.initial.play.events.items) l.items l.item-index (events_of l.play.events.items) l.waits;
}
