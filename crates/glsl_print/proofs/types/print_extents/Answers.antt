use Rattle.std.proofs.Common.{List, refl, map}
use Rattle.glsl_ast.specs.declared.types.Extent.{Extent}
use Rattle.glsl_ast.specs.View.{extent_of}
use Rattle.glsl_grammar.specs.Layout.{extents_text}
use Rattle.glsl_grammar.specs.Layout.{extent_text}
use Rattle.glsl_print.proofs.Steps.{remains_item, remains_none}
use Rattle.glsl_print.proofs.types.print_extents.Goals as goal

pub loop-extent-preserved : goal.loop-extent-preserved
loop-extent-preserved g c = remains_item (λ (xs : List Extent). extents_text (map extent_of xs)) (λ (x : Extent). extent_text (extent_of x)) _ _ _ (λ y ys. refl) c.loop-extent-test.true c.extent-item.is c.loop-extent.invariant c.print_extent.ensures

pub returns : goal.returns
returns g c = remains_none (λ (xs : List Extent). extents_text (map extent_of xs)) _ _ c.loop-extent-test.false refl c.loop-extent.invariant
