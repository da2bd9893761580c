use Rattle.std.proofs.Common.{◌≡◌, ◌∙◌, subst}
use Rattle.module_semantics.specs.Memory.{elements}
use Rattle.memory_places.specs.Kernel.{Kernel, sized}
use Rattle.memory_places.proofs.Positions.{elements_told}
use Rattle.memory_places.proofs.map.MemoryMap.elements.Goals as goal

pub returns : goal.returns
returns c = λ told e.
    subst (λ (k : Kernel). c.elements.result ≡ elements (sized k.of c.args.sizes.now) c.args.variable.now c.args.member) c.self.view_is c.elements.ensures
    ∙ elements_told c.args.self.now told c.args.sizes.now c.args.variable.now c.args.member e
