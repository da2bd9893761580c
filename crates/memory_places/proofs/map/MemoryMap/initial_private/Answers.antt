use Rattle.std.proofs.Common.{◌≡◌, subst}
use Rattle.module_semantics.specs.Accesses.{initial_private}
use Rattle.memory_places.specs.Kernel.{Kernel, setting_for}
use Rattle.memory_places.specs.Starts.{start_of}
use Rattle.memory_places.proofs.map.MemoryMap.initial_private.Goals as goal

pub returns : goal.returns
returns c = λ told. subst (λ (k : Kernel). start_of c.in_ok-initial_private.field-0 ≡ initial_private (setting_for k told) c.args.id) c.self.view_is c.in_ok-initial_private.ensures
