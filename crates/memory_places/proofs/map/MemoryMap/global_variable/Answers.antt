use Rattle.std.proofs.Common.{◌≡◌, subst}
use Rattle.std.specs.Option.{option_copied}
use Rattle.module_semantics.specs.Setting.{global_variable}
use Rattle.memory_places.specs.Kernel.{Kernel, setting_for}
use Rattle.memory_places.proofs.map.MemoryMap.global_variable.Goals as goal

pub returns : goal.returns
returns c = λ told. subst (λ (k : Kernel). option_copied c.global_variable.result ≡ global_variable (setting_for k told) c.args.id) c.self.view_is c.global_variable.ensures
