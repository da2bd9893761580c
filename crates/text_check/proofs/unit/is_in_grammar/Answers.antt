use Rattle.std.proofs.Common.{◌≡◌, ◌&&◌, true, List, map, sym, subst, ◌∙◌}
use Rattle.std.specs.List.{list_all}
use Rattle.std.proofs.lemmas.Bool.{and_from}
use Rattle.glsl_ast.specs.View.{decl_of, unit_of}
use Rattle.glsl_ast.specs.declared.items.Decl.{Decl}
use Rattle.glsl_ast.specs.declared.items.Size.{Size}
use Rattle.text_check.specs.Items.{is_size, are_items, none}
use Rattle.text_check.specs.Statements.{has_some}
use Rattle.text_check.proofs.Grammar.{unit_is}
use Rattle.text_check.proofs.unit.is_in_grammar.Goals as goal

pub returns-then-sizes-clause-grammar : goal.returns-then-sizes-clause-grammar
returns-then-sizes-clause-grammar c = λ h.
    let sizes = subst (λ (ss : List Size). (has_some ss && list_all is_size ss) ≡ true) c.deref.ensures.value (sym c.are_sizes-sizes.ensures ∙ c.if-sizes.true) in
    let items = subst (λ (ds : List Decl). are_items none (map decl_of ds) ≡ true) c.deref-2.ensures.value (sym c.in_ok-items.ensures ∙ h) in
    unit_is (unit_of c.args.unit.now) (and_from _ _ sizes items)
