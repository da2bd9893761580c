use Rattle.std.proofs.Common.{List, refl, map, ◌++◌}
use Rattle.glsl_ast.specs.declared.items.Param.{Param}
use Rattle.glsl_ast.specs.View.{param_of}
use Rattle.glsl_grammar.specs.Layout.{more_params_text}
use Rattle.glsl_grammar.specs.Layout.{param_text}
use Rattle.glsl_grammar.specs.Marks.{mark_text}
use Rattle.glsl_grammar.specs.declared.marks.Mark.TheVariants as mark
use Rattle.glsl_print.proofs.Parts.{params-cons}
use Rattle.glsl_print.proofs.Steps.{remains_item, remains_none, goes_then}
use Rattle.glsl_print.proofs.items.print_more_params.Goals as goal

pub loop-param-preserved : goal.loop-param-preserved
loop-param-preserved g c = remains_item (λ (xs : List Param). more_params_text (map param_of xs)) (λ (x : Param). mark_text mark.Comma ++ param_text (param_of x)) _ _ _ (λ y ys. params-cons (param_of y) (map param_of ys)) c.loop-param-test.true c.param-item.is c.loop-param.invariant (goes_then c.put_mark.ensures c.print_param.ensures)

pub returns : goal.returns
returns g c = remains_none (λ (xs : List Param). more_params_text (map param_of xs)) _ _ c.loop-param-test.false refl c.loop-param.invariant
