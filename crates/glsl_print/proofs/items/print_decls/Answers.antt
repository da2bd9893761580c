use Rattle.std.proofs.Common.{List, refl, map}
use Rattle.glsl_ast.specs.declared.items.Decl.{Decl}
use Rattle.glsl_ast.specs.View.{decl_of}
use Rattle.glsl_grammar.specs.Layout.{decls_text}
use Rattle.glsl_grammar.specs.Layout.{decl_text}
use Rattle.glsl_print.proofs.Steps.{remains_item, remains_none}
use Rattle.glsl_print.proofs.items.print_decls.Goals as goal

pub loop-decl-preserved : goal.loop-decl-preserved
loop-decl-preserved g c = remains_item (λ (xs : List Decl). decls_text (map decl_of xs)) (λ (x : Decl). decl_text (decl_of x)) _ _ _ (λ y ys. refl) c.loop-decl-test.true c.decl-item.is c.loop-decl.invariant c.print_decl.ensures

pub returns : goal.returns
returns g c = remains_none (λ (xs : List Decl). decls_text (map decl_of xs)) _ _ c.loop-decl-test.false refl c.loop-decl.invariant
