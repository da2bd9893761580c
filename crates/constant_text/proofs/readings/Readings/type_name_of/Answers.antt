use Rattle.std.proofs.Common.{◌≡◌, Option, Some, IfOk, Bor, option_copied, subst, sym, ap, ◌∙◌}
use Rattle.std.specs.Option.{option_map_or}
use Rattle.spv_module.specs.State.{ModuleState}
use Rattle.spv_module.specs.Held.{global}
use Rattle.spv_module.specs.declared.inst.Inst.{Inst}
use Rattle.spv_types.specs.Tree.{uint}
use Rattle.glsl_ast.specs.View.{type_of}
use Rattle.text_rules.specs.Types.{type_text}
use Rattle.text_rules.specs.Outlines.{outline_at}
use Rattle.text_rules.specs.Declarations.{spelling}
use Rattle.constant_text.specs.Named.{id_names}
use Rattle.constant_text.proofs.readings.Readings.type_name_of.Goals as goal

pub returns-in-Some : goal.returns-in-Some
returns-in-Some c =
    let s = c.args.self.now in
    let of_module = ap (λ (m : ModuleState). global m.globals c.args.ty) c.module.ensures in
    let there : global s.of.globals c.args.ty ≡ Some c.in-Some.inst.now = sym of_module ∙ (sym c.global.ensures ∙ ap (λ (p : Option (Bor Inst)). option_copied p) c.in-Some.is) in
    subst (λ (o : Option Inst). IfOk c.type_name_at.result (λ t. type_of t ≡ type_text (spelling s (id_names c.args.names.now)) (option_map_or (outline_at s.of.globals) o uint))) (sym there) c.type_name_at.ensures
