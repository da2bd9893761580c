use Rattle.std.proofs.Common.{◌≡◌, ◌++◌, map, drop, string_bytes}
use Rattle.glsl_ast.specs.View.{base_of, extent_of}
use Rattle.glsl_grammar.specs.Layout.{base_text, extents_text}
use Rattle.text_report.proofs.types.type_name.Given as goal

abbrev pub invariant-loop-extent : goal.invariant-loop-extent
invariant-loop-extent l = string_bytes l.text ++ extents_text (map extent_of (drop l.extent-index l.extent-items)) ≡ base_text (base_of l.ty.base) ++ extents_text (map extent_of l.extent-items)
