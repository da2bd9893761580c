use Rattle.std.proofs.Common.{List, refl, sym, ap}
use Rattle.glsl_ast.specs.declared.items.Qual.{Qual}
use Rattle.glsl_grammar.specs.Layout.{quals_text}
use Rattle.glsl_grammar.specs.Layout.{qual_mark}
use Rattle.glsl_grammar.specs.Marks.{mark_text}
use Rattle.glsl_print.proofs.Steps.{remains_copy, remains_none, goes_as}
use Rattle.glsl_print.proofs.items.print_quals.Goals as goal

pub loop-qual-preserved : goal.loop-qual-preserved
loop-qual-preserved g c = remains_copy (λ (xs : List Qual). quals_text xs) (λ (x : Qual). mark_text (qual_mark x)) _ _ _ (λ y ys. refl) c.loop-qual-test.true c.loop-qual.invariant (goes_as (ap mark_text (sym c.qual_mark.ensures)) c.put_mark.ensures)

pub returns : goal.returns
returns g c = remains_none (λ (xs : List Qual). quals_text xs) _ _ c.loop-qual-test.false refl c.loop-qual.invariant
