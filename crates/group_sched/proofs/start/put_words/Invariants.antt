use Rattle.std.proofs.Common.{◌≡◌, ◌*◌, drop}
use Rattle.group_sched.specs.Stores.{words_in, rooms_in, location_in}
use Rattle.group_sched.specs.Start.{spread}
use Rattle.group_sched.proofs.start.put_words.Given as goal

abbrev pub invariant-loop-k : goal.invariant-loop-k
invariant-loop-k l = record {
  rooms : rooms_in l.store ≡ rooms_in l.initial.store;
  put : spread (location_in l.base) (4 * l.k) (drop l.k l.words) (words_in l.store) ≡ spread (location_in l.base) 0 l.words (words_in l.initial.store);
}
