use Rattle.std.proofs.Common.{Some, List, ap}
use Rattle.traces.specs.Events.{Location, reading}
use Rattle.run_memory.proofs.loads.read_event.Goals as goal

pub returns : goal.returns
returns c = λ told. ap (λ (l : List Location). Some (reading l)) (c.in_ok-places.ensures told)
