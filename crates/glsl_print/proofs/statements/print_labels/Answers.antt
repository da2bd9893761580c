use Rattle.std.proofs.Common.{List, refl}
use Rattle.glsl_ast.specs.declared.statements.Label.{Label}
use Rattle.glsl_grammar.specs.Layout.{labels_text}
use Rattle.glsl_grammar.specs.Layout.{label_text}
use Rattle.glsl_print.proofs.Steps.{remains_copy, remains_none}
use Rattle.glsl_print.proofs.statements.print_labels.Goals as goal

pub loop-label-preserved : goal.loop-label-preserved
loop-label-preserved g c = remains_copy (λ (xs : List Label). labels_text xs) (λ (x : Label). label_text x) _ _ _ (λ y ys. refl) c.loop-label-test.true c.loop-label.invariant c.print_label.ensures

pub returns : goal.returns
returns g c = remains_none (λ (xs : List Label). labels_text xs) _ _ c.loop-label-test.false refl c.loop-label.invariant
