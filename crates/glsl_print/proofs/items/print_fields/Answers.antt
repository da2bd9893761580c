use Rattle.std.proofs.Common.{List, refl, map}
use Rattle.glsl_ast.specs.declared.items.Field.{Field}
use Rattle.glsl_ast.specs.View.{field_of}
use Rattle.glsl_grammar.specs.Layout.{fields_text}
use Rattle.glsl_grammar.specs.Layout.{field_text}
use Rattle.glsl_print.proofs.Steps.{remains_item, remains_none}
use Rattle.glsl_print.proofs.items.print_fields.Goals as goal

pub loop-field-preserved : goal.loop-field-preserved
loop-field-preserved g c = remains_item (λ (xs : List Field). fields_text (map field_of xs)) (λ (x : Field). field_text (field_of x)) _ _ _ (λ y ys. refl) c.loop-field-test.true c.field-item.is c.loop-field.invariant c.print_field.ensures

pub returns : goal.returns
returns g c = remains_none (λ (xs : List Field). fields_text (map field_of xs)) _ _ c.loop-field-test.false refl c.loop-field.invariant
