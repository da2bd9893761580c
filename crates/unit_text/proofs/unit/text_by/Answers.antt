use Rattle.std.proofs.Common.{◌∙◌, ◌++◌, List, ap, map, subst}
use Rattle.std.specs.List.{flat_map}
use Rattle.glsl_ast.specs.Tree.{Decl, translation_unit}
use Rattle.glsl_ast.specs.View.{decl_of}
use Rattle.glsl_ast.specs.declared.items.Size.{Size}
use Rattle.text_rules.specs.Constants.{sizes_by}
use Rattle.function_plan.specs.declared.plan.FunctionPlan.{FunctionPlan}
use Rattle.unit_text.specs.Reached.{decls_at, IsWritten}
use Rattle.unit_text.proofs.unit.text_by.Goals as goal

pub returns : goal.returns
returns c =
    let s = c.args.readings.now in
    let plans = c.as_slice-planned.result.now in
    let names = c.in_ok-names.field-0.names in
    let added = c.in_ok-add_planned.ensures in
    let order = c.args.order.now in
    let size = c.args.entry.now.size.items in
    let unit = translation_unit c.in_ok-sizes.sizes.items (map decl_of c.add_planned.new.items.items) in
    let items_are = added.items_are ∙ ap (λ (ds : List Decl). ds ++ flat_map (decls_at s names added.globals plans) order) c.in_ok-names.ensures.items_are in
    let sizes_are = c.in_ok-sizes.ensures ∙ ap (sizes_by s.overrides) c.as_slice.ensures.value in
    let written : IsWritten s size order plans unit = record {
      names = names;
      globals = added.globals;
      named = c.in_ok-names.ensures.named;
      globals_are = added.globals_are;
      unit_is =
          ap (λ (zs : List Size). translation_unit zs (map decl_of c.add_planned.new.items.items)) sizes_are
          ∙ ap (translation_unit (sizes_by s.overrides size)) items_are;
    } in
    subst (λ (ps : List FunctionPlan). IsWritten s size order ps unit) c.as_slice-planned.ensures.value written
