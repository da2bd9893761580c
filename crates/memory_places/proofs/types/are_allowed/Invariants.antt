use Rattle.std.proofs.Common.{◌≡◌, drop}
use Rattle.module_semantics.specs.Memory.{are_allowed}
use Rattle.memory_places.specs.Kernel.{bare_with}
use Rattle.memory_places.proofs.types.are_allowed.Given as goal

abbrev pub invariant-loop-index : goal.invariant-loop-index
invariant-loop-index l = (are_allowed (bare_with l.«module» l.values) l.part (drop l.index-index l.indexes) ≡ are_allowed (bare_with l.«module» l.values) l.ty l.indexes)
