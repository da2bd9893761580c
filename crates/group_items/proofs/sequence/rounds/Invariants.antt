use Rattle.std.proofs.Common.{◌≡◌, ℕ, ◌-◌}
use Rattle.group_items.specs.Events.{events_of}
use Rattle.group_items.specs.Schedule.{Goes, rounds, most_weight}
use Rattle.group_items.specs.Playing.{IsAt}
use Rattle.group_items.proofs.sequence.rounds.Given as goal

abbrev pub ghost-play_all : goal.ghost-play_all
ghost-play_all g a = g.d

abbrev pub invariant-loop-turn : goal.invariant-loop-turn
invariant-loop-turn g l = record {
  at : IsAt g.d (g.R.Runner.at l.side) l.play;
  counted : g.R.Runner.count l.side ≡ g.d.count;
  runs : g.R.Runner.runs l.side ≡ g.R.Runner.runs l.initial.side;
  goes : (n : ℕ) × Goes g.d (g.R.Runner.runs l.initial.side) (events_of l.initial.play.events.items) (rounds g.d.count n) (events_of l.play.events.items);
}

abbrev pub decreases-loop-turn : goal.decreases-loop-turn
decreases-loop-turn g l = most_weight - l.play.weight
