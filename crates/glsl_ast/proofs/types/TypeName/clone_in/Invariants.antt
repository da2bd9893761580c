use Rattle.std.proofs.Common.{◌≡◌, map, take}
use Rattle.glsl_ast.specs.View.{extent_of}
use Rattle.glsl_ast.proofs.types.TypeName.clone_in.Given as goal

abbrev pub invariant-loop-extent : goal.invariant-loop-extent
invariant-loop-extent l = map extent_of l.extents.items ≡ map extent_of (take l.extent-index l.extent-items)
