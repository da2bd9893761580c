use Rattle.std.proofs.Common.{◌≡◌, map, option_map, ap, sym, ◌∙◌}
use Rattle.std.specs.Prelude.{find, option_and_then}
use Rattle.std.proofs.lemmas.Result.{IfOk-weaker}
use Rattle.list_law.proofs.Lists.{find_map}
use Rattle.glsl_ast.specs.View.{decl_of}
use Rattle.text_report.specs.Constants.{declares, declared_data}
use Rattle.text_report.proofs.constants.declared_constant.Goals as goal

pub returns-in-Some : goal.returns-in-Some
returns-in-Some c =
    let found : option_and_then declared_data (find (declares c.args.id) (map decl_of c.args.items.now)) ≡ declared_data (decl_of c.in-Some.item.now) =
    ap (option_and_then declared_data) (find_map (declares c.args.id) decl_of c.args.items.now ∙ ap (option_map decl_of) (sym c.in-Some.ensures)) in
    IfOk-weaker c.declared_value.result _ _ (λ v e. e ∙ sym found) c.declared_value.ensures

pub returns-in-None : goal.returns-in-None
returns-in-None c = sym (ap (option_and_then declared_data) (find_map (declares c.args.id) decl_of c.args.items.now ∙ ap (option_map decl_of) (sym c.in-None.ensures)))
