use Rattle.std.proofs.Common.{◌≡◌, ◌≤◌, ◌+◌, min, drop}
use Rattle.module_semantics.specs.Memory.{bytes_along}
use Rattle.memory_places.specs.Capped.{most_bytes}
use Rattle.memory_places.specs.Kernel.{bare}
use Rattle.memory_places.proofs.types.bytes_along.Given as goal

abbrev pub invariant-loop-index : goal.invariant-loop-index
invariant-loop-index l = (l.bytes ≤ most_bytes) × (min most_bytes (l.bytes + bytes_along (bare l.«module») l.part (drop l.index-index l.indexes)) ≡ min most_bytes (bytes_along (bare l.«module») l.ty l.indexes))
