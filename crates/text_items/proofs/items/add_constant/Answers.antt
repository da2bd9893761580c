use Rattle.std.proofs.Common.{◌∷◌, [], ◌++◌, ◌∙◌, ap, map}
use Rattle.std.proofs.lemmas.List.{map-append}
use Rattle.glsl_ast.specs.Tree as tree
use Rattle.glsl_ast.specs.View.{decl_of}
use Rattle.text_items.proofs.items.add_constant.Goals as goal

pub returns : goal.returns
returns c =
    ap (map decl_of) c.in_ok-push.ensures.items
    ∙ (map-append decl_of c.args.items.now.items (c.in_ok-constant.constant ∷ []) ∙ ap (λ (d : tree.Decl). map decl_of c.args.items.now.items ++ d ∷ []) c.in_ok-constant.ensures)
