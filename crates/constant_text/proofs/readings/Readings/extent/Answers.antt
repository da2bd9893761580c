use Rattle.std.proofs.Common.{◌≡◌, ℕ, Option, Some, None, IfOk, Bor, option_copied, subst, sym, ap, ◌∙◌}
use Rattle.std.specs.Option.{option_map_or}
use Rattle.spv_module.specs.State.{ModuleState}
use Rattle.spv_module.specs.Held.{global}
use Rattle.spv_module.specs.declared.inst.Id.{Id}
use Rattle.spv_module.specs.declared.inst.Inst.{Inst}
use Rattle.spv_module.specs.declared.tree.Length.{Length}
use Rattle.spv_module.specs.declared.tree.Length.TheVariants.{Spec}
use Rattle.glsl_ast.specs.Tree.{Text, Extent, number}
use Rattle.glsl_ast.specs.View.{extent_of}
use Rattle.text_rules.specs.Constants.{Source, reading}
use Rattle.text_rules.specs.Declarations.{extent_by, length_extent}
use Rattle.constant_text.specs.Named.{id_names}
use Rattle.constant_text.proofs.readings.Readings.extent.Goals as goal

-- the extent of a length, from the constant that was found
found_is : (s : Source) (ids : ℕ → Text) (l : Length) (id : Id) (m : ModuleState) (found : Option (Bor Inst)) → l ≡ Spec id → m ≡ s.of → option_copied found ≡ global m.globals id.0 → length_extent s ids l ≡ option_map_or (λ (g : Inst). extent_by s ids g (reading s g)) (option_copied found) (number 0)
found_is s ids l id m found is of finds =
    ap (length_extent s ids) is
    ∙ ap (λ (o : Option Inst). option_map_or (λ (g : Inst). extent_by s ids g (reading s g)) o (number 0)) (sym (finds ∙ ap (λ (n : ModuleState). global n.globals id.0) of))

by_found : (s : Source) (ids : ℕ → Text) (x : Extent) (found o : Option (Bor Inst)) → x ≡ option_map_or (λ (g : Inst). extent_by s ids g (reading s g)) (option_copied found) (number 0) → found ≡ o → x ≡ option_map_or (λ (g : Inst). extent_by s ids g (reading s g)) (option_copied o) (number 0)
by_found s ids x found o is same = is ∙ ap (λ (p : Option (Bor Inst)). option_map_or (λ (g : Inst). extent_by s ids g (reading s g)) (option_copied p) (number 0)) same

pub returns-in-None : goal.returns-in-None
returns-in-None c =
    let ids = id_names c.args.names.now in
    sym (by_found c.args.self.now ids (length_extent c.args.self.now ids c.args.length) c.global.result None (found_is c.args.self.now ids c.args.length c.in-Spec.id c.module.result.now c.global.result c.in-Spec.is c.module.ensures c.global.ensures) c.in-None.is)

pub returns-in-Some : goal.returns-in-Some
returns-in-Some c =
    let ids = id_names c.args.names.now in
    let same = by_found c.args.self.now ids (length_extent c.args.self.now ids c.args.length) c.global.result (Some c.in-Some.inst) (found_is c.args.self.now ids c.args.length c.in-Spec.id c.module.result.now c.global.result c.in-Spec.is c.module.ensures c.global.ensures) c.in-Some.is in
    subst (λ (y : Extent). IfOk c.constant_extent.result (λ x. extent_of x ≡ y)) (sym same) c.constant_extent.ensures
