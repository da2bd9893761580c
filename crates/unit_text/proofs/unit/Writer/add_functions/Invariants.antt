use Rattle.std.proofs.Common.{◌≡◌, ◌++◌, map, take}
use Rattle.std.specs.List.{flat_map}
use Rattle.glsl_ast.specs.View.{decl_of}
use Rattle.unit_text.specs.Reached.{decls_at}
use Rattle.unit_text.proofs.unit.Writer.add_functions.Given as goal

abbrev pub invariant-loop-id : goal.invariant-loop-id
invariant-loop-id l = map decl_of l.items.items ≡ map decl_of l.initial.items.items ++ flat_map (decls_at l.self.readings.now l.self.names.now l.self.globals.now l.plans) (take l.id-index l.order)
