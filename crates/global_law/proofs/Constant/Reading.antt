-- However a constant is read, its expression says the value that it has in the run: by its literal, by its name, or as the size of workgroups or a part of it.
use Rattle.std.proofs.Common.{◌≡◌, ◌==◌, ℕ, Bool, true, false, List, [], Option, Some, None, refl, sym, ap, ◌∙◌, subst, if◌then◌else◌}
use Rattle.std.specs.List.{position_from}
use Rattle.std.proofs.lemmas.Option.{same_Some}
use Rattle.spv_module.specs.Held.{global}
use Rattle.spv_module.specs.Lists.{id}
use Rattle.spv_module.specs.declared.inst.Inst.{Inst}
use Rattle.spv_module.specs.declared.tree.Elem.TheVariants as elem
use Rattle.spv_types.specs.Tree as plain
use Rattle.spv_types.specs.Tree.{Tree, ValueTree}
use Rattle.spv_types.specs.Types.{type_tree}
use Rattle.profile_rules.specs.declared.given.Given.{Given}
use Rattle.profile_rules.specs.Entry.{is_size_composite}
use Rattle.module_semantics.specs.Setting.{Setting}
use Rattle.name_alloc.specs.declared.claims.Key.{Key}
use Rattle.name_alloc.specs.declared.claims.Key.TheVariants.{Id}
use Rattle.glsl_ast.specs.Tree.{Text, name, member}
use Rattle.traces.specs.Outcomes.{Result, got, or_stuck}
use Rattle.glsl_semantics.specs.Shapes.{Typed, typed}
use Rattle.glsl_semantics.specs.States.{State, value}
use Rattle.glsl_semantics.specs.Expressions.{Program, Argument, named, then_fetch}
use Rattle.text_rules.specs.declared.readings.Reading.{Reading}
use Rattle.text_rules.specs.declared.readings.Reading.TheVariants.{Plain, Named, GroupSize, GroupSizePart}
use Rattle.text_rules.specs.Constants.{Source, free_spec_id, has_literal, reading_by_literal, reading_by_part, reading_by_spec, reading, size_ids, axis_text, group_size_text, expr_by, constant_expr}
use Rattle.plan_law.specs.InOrder.{IsAmong, AreRising}
use Rattle.type_law.specs.Shaped.{HaveResults, HasConstants}
use Rattle.global_law.specs.Parts.{StructNames, shape_in}
use Rattle.global_law.specs.Walks.{struct_names}
use Rattle.lowering_law.specs.Says.{Says}
use Rattle.global_law.specs.Sources.{source_of, chosen}
use Rattle.global_law.proofs.Global.Plain.{plain_says}
use Rattle.global_law.specs.Items.{AreSpecIds, AreSizes}
use Rattle.global_law.proofs.Constant.GroupSizes.{size_value, size_has, part_is_of, part_says}

-- what a reading tells
pub size_reading : (source : Source) (g : Inst) → reading source g ≡ GroupSize → is_size_composite source.of.heads g ≡ true
size_reading source g e = by_size (is_size_composite source.of.heads g) (free_spec_id source g.result) e
  where
    by_literal : (b : Bool) → reading_by_literal b ≡ GroupSize → ⊥
    by_literal true e = cc
    by_literal false e = cc

    by_part : (o : Option ℕ) → reading_by_part o ≡ GroupSize → ⊥
    by_part None e = cc
    by_part (Some axis) e = cc

    by_size : (b : Bool) (o : Option ℕ) → (if b then GroupSize else reading_by_spec source g o) ≡ GroupSize → b ≡ true
    by_size true o e = refl
    by_size false None e = absurd (by_literal (has_literal source g) e)
    by_size false (Some k) e = absurd (by_part (position_from (λ (part : ℕ). part == g.result) 0 (size_ids source)) e)

pub part_reading : (source : Source) (g : Inst) (axis : ℕ) → reading source g ≡ GroupSizePart axis → position_from (λ (part : ℕ). part == g.result) 0 (size_ids source) ≡ Some axis
part_reading source g axis e = by_size (is_size_composite source.of.heads g) (free_spec_id source g.result) e
  where
    by_part : (o : Option ℕ) → reading_by_part o ≡ GroupSizePart axis → o ≡ Some axis
    by_part None e = cc
    by_part (Some k) e = let same : k ≡ axis = cc in ap (λ q. Some q) same

    by_literal : (b : Bool) → reading_by_literal b ≡ GroupSizePart axis → ⊥
    by_literal true e = cc
    by_literal false e = cc

    by_size : (b : Bool) (o : Option ℕ) → (if b then GroupSize else reading_by_spec source g o) ≡ GroupSizePart axis → position_from (λ (part : ℕ). part == g.result) 0 (size_ids source) ≡ Some axis
    by_size true o e = cc
    by_size false None e = absurd (by_literal (has_literal source g) e)
    by_size false (Some k) e = by_part (position_from (λ (part : ℕ). part == g.result) 0 (size_ids source)) e

module _ (s : Setting) (overrides : List (ℕ × Given)) (key : Key → Text) (have : HasConstants s (chosen s overrides)) (results : HaveResults s.of.globals) (rising : AreRising 0 s.of.globals) (spec_ids : AreSpecIds (source_of s overrides)) (are : AreSizes (source_of s overrides)) where
  abbrev source : Source
  source = source_of s overrides

  abbrev names : ℕ → Text
  names n = key (Id (id n))

  abbrev Y : StructNames
  Y = struct_names key

  module _ (p : Program) (calls : Text → List Argument → State → Result (Option Typed × State)) (z : State) (size : named p z group_size_text ≡ Some (value (size_value s overrides))) where
    -- a name says what it stands for
    name_said : (x : Text) (v : Typed) → named p z x ≡ Some (value v) → Says p calls z (name x) v
    name_said x v is = ap (λ o. then_fetch (or_stuck o (λ y. got [] (y, z))) (λ v q. got [] (v, q))) is

    pub reads_says : (h : Inst) (t : Tree) (v : ValueTree) → IsAmong h s.of.globals → global s.of.globals h.result ≡ Some h → s.constants h.result ≡ Some v → type_tree s.of.globals h.ty ≡ Some t → (reading source h ≡ Named → named p z (names h.result) ≡ Some (value (typed (shape_in s Y t) v)))
        → Says p calls z (constant_expr source names h) (typed (shape_in s Y t) v)
    reads_says h t v there own has shape by_name = by_reading (reading source h) refl
      where
        same_type : (u : Tree) → type_tree s.of.globals h.ty ≡ Some u → u ≡ t
        same_type u e = same_Some u t (sym e ∙ shape)

        by_reading : (r : Reading) → reading source h ≡ r → Says p calls z (constant_expr source names h) (typed (shape_in s Y t) v)
        by_reading Plain reads = let w = plain_says s overrides have results p calls z Y names h.result h v own reads has in subst (λ u. Says p calls z (constant_expr source names h) (typed (shape_in s Y u) v)) (same_type w.0 w.1) w.2
        by_reading Named reads = subst (λ r. Says p calls z (expr_by source names h r) (typed (shape_in s Y t) v)) (sym reads) (name_said (names h.result) (typed (shape_in s Y t) v) (by_name reads))
        by_reading GroupSize reads =
            let w = size_has s overrides have results rising spec_ids are h v there own (size_reading source h reads) has in
            subst (λ r. Says p calls z (expr_by source names h r) (typed (shape_in s Y t) v)) (sym reads)
            (subst (λ u. Says p calls z (name group_size_text) (typed (shape_in s Y u) v)) (same_type (plain.vector elem.Uint 3) w.0) (subst (λ u. Says p calls z (name group_size_text) u) w.1 (name_said group_size_text (size_value s overrides) size)))
        by_reading (GroupSizePart axis) reads =
            let w = part_is_of s overrides have results rising spec_ids are h axis v own has (part_reading source h axis reads) in
            subst (λ r. Says p calls z (expr_by source names h r) (typed (shape_in s Y t) v)) (sym reads)
            (subst (λ u. Says p calls z (member (name group_size_text) (axis_text axis)) (typed (shape_in s Y u) v)) (same_type plain.uint w.typed_as) (part_says s overrides have results rising spec_ids are p calls z h axis v size w))
