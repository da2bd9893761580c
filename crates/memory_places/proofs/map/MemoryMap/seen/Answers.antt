use Rattle.std.proofs.Common.{◌≡◌, subst}
use Rattle.std.specs.Option.{option_copied}
use Rattle.module_semantics.specs.Accesses.{seen}
use Rattle.module_semantics.specs.State.{global}
use Rattle.memory_places.specs.Kernel.{Kernel, setting_for}
use Rattle.memory_places.proofs.map.MemoryMap.seen.Goals as goal

pub returns : goal.returns
returns c = λ told. subst (λ (k : Kernel). option_copied c.seen.result ≡ seen (setting_for k told) (global c.args.id)) c.self.view_is c.seen.ensures
