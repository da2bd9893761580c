use Rattle.std.proofs.Common.{◌≡◌, map, filter, take}
use Rattle.std.specs.Prelude.{is_some}
use Rattle.spv_ops.specs.Enumerants.{decoration_number}
use Rattle.spv_ops.specs.declared.Decoration.{Decoration}
use Rattle.spv_decor.specs.Rows.{value_of}
use Rattle.glsl_ast.specs.declared.items.Qual.{Qual}
use Rattle.text_items.proofs.qualifiers.of_id.Given as goal

abbrev pub invariant-loop-qual : goal.invariant-loop-qual
invariant-loop-qual l = l.quals.items ≡ map (λ (q : Qual × Decoration). q.0) (filter (λ (q : Qual × Decoration). is_some (value_of l.decor l.id.0 (decoration_number q.1))) (take l.qual-index l.rows))
