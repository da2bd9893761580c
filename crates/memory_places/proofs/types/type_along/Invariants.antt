use Rattle.std.proofs.Common.{◌≡◌, drop}
use Rattle.module_semantics.specs.Memory.{type_along}
use Rattle.memory_places.specs.Kernel.{bare}
use Rattle.memory_places.proofs.types.type_along.Given as goal

abbrev pub invariant-loop-index : goal.invariant-loop-index
invariant-loop-index l = (type_along (bare l.«module») l.part (drop l.index-index l.indexes) ≡ type_along (bare l.«module») l.ty l.indexes)
