use Rattle.std.proofs.Common.{List, refl, ◌++◌}
use Rattle.glsl_ast.specs.declared.items.Size.{Size}
use Rattle.glsl_grammar.specs.Layout.{more_sizes_text}
use Rattle.glsl_grammar.specs.Layout.{size_text}
use Rattle.glsl_grammar.specs.Marks.{mark_text}
use Rattle.glsl_grammar.specs.declared.marks.Mark.TheVariants as mark
use Rattle.glsl_print.proofs.Parts.{sizes-cons}
use Rattle.glsl_print.proofs.Steps.{remains_copy, remains_none, goes_then}
use Rattle.glsl_print.proofs.printing.print_more_sizes.Goals as goal

pub loop-size-preserved : goal.loop-size-preserved
loop-size-preserved g c = remains_copy (λ (xs : List Size). more_sizes_text xs) (λ (x : Size). mark_text mark.Comma ++ size_text x) _ _ _ (λ y ys. sizes-cons y ys) c.loop-size-test.true c.loop-size.invariant (goes_then c.put_mark.ensures c.print_size.ensures)

pub returns : goal.returns
returns g c = remains_none (λ (xs : List Size). more_sizes_text xs) _ _ c.loop-size-test.false refl c.loop-size.invariant
