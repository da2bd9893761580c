use Rattle.std.proofs.Common.{◌∷◌, [], ◌++◌, ◌∙◌, List, sym, ap, map}
use Rattle.glsl_ast.specs.Tree.{Decl}
use Rattle.glsl_ast.specs.View.{decl_of}
use Rattle.text_rules.specs.Constants.{Source}
use Rattle.text_rules.specs.Declarations.{constant_decl}
use Rattle.text_items.specs.Names.{item_names}
use Rattle.text_items.proofs.Fits.{constant_item}
use Rattle.text_items.proofs.items.add_declaration.Goals as goal

pub returns-in_ok-add_constant : goal.returns-in_ok-add_constant
returns-in_ok-add_constant c =
    c.in_ok-add_constant.ensures
    ∙ ap (λ (d : List Decl). map decl_of c.args.items.now.items ++ d)
    (ap (λ (o : Source). constant_decl o (item_names o c.args.names.now) c.args.inst.now ∷ []) c.readings.ensures
    ∙ sym (constant_item c.args.written.now.source c.args.written.now.reached (item_names c.args.written.now.source c.args.names.now) c.args.inst.now (sym c.has_struct.ensures ∙ c.if-has_struct.false) (sym c.has_constant.ensures ∙ c.if-has_constant.true)))
