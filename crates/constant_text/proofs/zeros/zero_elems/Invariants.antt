use Rattle.std.proofs.Common.{◌≡◌, map, replicate}
use Rattle.glsl_ast.specs.View.{expr_of}
use Rattle.text_rules.specs.Types.{zero_elem}
use Rattle.constant_text.proofs.zeros.zero_elems.Given as goal

abbrev pub invariant-loop : goal.invariant-loop
invariant-loop l = map expr_of l.exprs.items ≡ replicate l.counter (zero_elem l.elem)
