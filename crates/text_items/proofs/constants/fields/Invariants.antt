use Rattle.std.proofs.Common.{◌≡◌, ◌++◌, map, drop}
use Rattle.std.specs.List.{enumerate_from}
use Rattle.glsl_ast.specs.View.{field_of}
use Rattle.text_items.specs.Names.{field_at}
use Rattle.text_items.specs.Wording.{source_of, names_of}
use Rattle.text_items.proofs.constants.fields.Given as goal

abbrev pub invariant-loop-k : goal.invariant-loop-k
invariant-loop-k l = map field_of l.fields.items ++ map (field_at (source_of l.wording) (names_of l.wording) l.inst) (enumerate_from l.k (drop l.k l.types)) ≡ map (field_at (source_of l.wording) (names_of l.wording) l.inst) (enumerate_from 0 l.types)
