use Rattle.std.proofs.Common.{◌≡◌, subst}
use Rattle.module_semantics.specs.Run.{have_values}
use Rattle.memory_places.specs.Kernel.{Kernel, setting_for}
use Rattle.memory_places.proofs.map.MemoryMap.have_values.Goals as goal

pub returns : goal.returns
returns c = λ told. subst (λ (k : Kernel). c.self.inside.fine ≡ have_values (setting_for k told)) c.self.view_is c.self.invariant.fine_is
