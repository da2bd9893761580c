-- The length of an array that a constant gives is in a text that of the run, where it has one there.
use Rattle.std.proofs.Common.{◌≡◌, ℕ, true, List, Option, Some, None, refl, sym, ap, ◌∙◌, ◌^◌, Bool, false, if◌then◌else◌}
use Rattle.std.specs.Prelude.{nat_lt, option_and_then}
use Rattle.std.specs.Option.{option_map_or}
use Rattle.std.proofs.lemmas.Option.{same_Some}
use Rattle.spv_module.specs.Held.{global}
use Rattle.spv_module.specs.Lists.{id}
use Rattle.spv_module.specs.declared.inst.Id.{Id as IdOf}
use Rattle.spv_module.specs.declared.inst.Inst.{Inst}
use Rattle.spv_module.specs.declared.tree.Length.TheVariants.{Fixed, Spec}
use Rattle.spv_types.specs.Tree as plain
use Rattle.spv_types.specs.Tree.{Tree, ValueTree, word}
use Rattle.spv_types.specs.Types.{type_tree}
use Rattle.op_semantics.specs.Fits.{fits}
use Rattle.profile_rules.specs.declared.given.Given.{Given}
use Rattle.module_semantics.specs.Setting.{Setting}
use Rattle.module_semantics.specs.Memory.{length_by, length_from, array_length}
use Rattle.name_alloc.specs.declared.claims.Key.{Key}
use Rattle.name_alloc.specs.declared.claims.Key.TheVariants.{Id}
use Rattle.glsl_ast.specs.Tree as tree
use Rattle.glsl_ast.specs.Tree.{Text}
use Rattle.glsl_semantics.specs.Shapes as shapes
use Rattle.glsl_semantics.specs.Shapes.{Shape, typed}
use Rattle.glsl_semantics.specs.States.{value}
use Rattle.glsl_semantics.specs.Expressions.{Program, constant_length, size_length, with_extent}
use Rattle.text_rules.specs.declared.readings.Reading.{Reading}
use Rattle.text_rules.specs.declared.readings.Reading.TheVariants.{Plain, Named, GroupSize, GroupSizePart}
use Rattle.text_rules.specs.Constants.{Source, reading, plain_value, axis_text}
use Rattle.text_rules.specs.Declarations.{word_of, extent_by, length_extent}
use Rattle.type_law.specs.Shaped.{HaveResults, HasConstants}
use Rattle.global_law.specs.Parts.{shape_in}
use Rattle.global_law.specs.Walks.{struct_names}
use Rattle.global_law.specs.Sources.{source_of, chosen}
use Rattle.global_law.proofs.Global.Plain.{plain_has}

-- an array has some length in the text
pub extent_length : (p : Program) (source : Source) (ids : ℕ → Text) (n : IdOf) → (m : Option ℕ) × ((u : Shape) → with_extent p (length_extent source ids (Spec n)) u ≡ shapes.array u m)
extent_length p source ids n = by_global (global source.of.globals n.0)
  where
    by_reading : (g : Inst) (r : Reading) → (m : Option ℕ) × ((u : Shape) → with_extent p (extent_by source ids g r) u ≡ shapes.array u m)
    by_reading g Plain = (Some (word_of (plain_value source g)), λ u. refl)
    by_reading g Named = (constant_length (p.things (ids g.result)), λ u. refl)
    by_reading g GroupSize = (Some 0, λ u. refl)
    by_reading g (GroupSizePart axis) = (size_length p (axis_text axis), λ u. refl)

    by_global : (o : Option Inst) → (m : Option ℕ) × ((u : Shape) → with_extent p (option_map_or (λ (g : Inst). extent_by source ids g (reading source g)) o (tree.number 0)) u ≡ shapes.array u m)
    by_global None = (Some 0, λ u. refl)
    by_global (Some g) = by_reading g (reading source g)

-- the length of an array in the run is its constant's word
pub length_word : (s : Setting) (n k : ℕ) → array_length s n ≡ Some k → s.constants n ≡ Some (word k)
length_word s n k is = by_value (s.constants n) is
  where
    by_type : (t : Option Tree) (w : ℕ) → length_by t w ≡ Some k → w ≡ k
    by_type (Some plain.int) w e = by_test (nat_lt w (2 ^ 31)) e
      where
        by_test : (b : Bool) → (if b then Some w else None) ≡ Some k → w ≡ k
        by_test true e = same_Some w k e
        by_test false e = cc
    by_type (Some plain.boolean) w e = same_Some w k e
    by_type (Some plain.uint) w e = same_Some w k e
    by_type (Some (plain.vector d n)) w e = same_Some w k e
    by_type (Some (plain.array t l)) w e = same_Some w k e
    by_type (Some (plain.runtime t)) w e = same_Some w k e
    by_type (Some (plain.struct n ts)) w e = same_Some w k e
    by_type None w e = same_Some w k e

    by_value : (o : Option ValueTree) → length_from s n o ≡ Some k → o ≡ Some (word k)
    by_value None e = cc
    by_value (Some (word w)) e = ap (λ a. Some (word a)) (by_type (option_and_then (λ (g : Inst). type_tree s.of.globals g.ty) (global s.of.globals n)) w e)
    by_value (Some (plain.truth b)) e = cc
    by_value (Some (plain.many vs)) e = cc

module _ (s : Setting) (overrides : List (ℕ × Given)) (key : Key → Text) (p : Program) (u : Shape) (n : ℕ) (g : Inst) (there : global s.of.globals n ≡ Some g) where
  abbrev source : Source
  source = source_of s overrides

  abbrev ids : ℕ → Text
  ids k = key (Id (id k))

  -- as it is written
  extent_is : (r : Reading) → reading source g ≡ r → with_extent p (length_extent source ids (Spec (id n))) u ≡ with_extent p (extent_by source ids g r) u
  extent_is r reads = ap (λ o. with_extent p (option_map_or (λ (g : Inst). extent_by source ids g (reading source g)) o (tree.number 0)) u) there ∙ ap (λ r. with_extent p (extent_by source ids g r) u) reads

  -- by its literal
  pub plain_extent : HasConstants s (chosen s overrides) → HaveResults s.of.globals → (w : ℕ) → reading source g ≡ Plain → s.constants n ≡ Some (word w) → array_length s n ≡ Some w → with_extent p (length_extent source ids (Spec (id n))) u ≡ shapes.array u (array_length s n)
  plain_extent have results w reads has length =
      let c = plain_has s overrides have results n g (word w) there reads has in
      extent_is Plain reads ∙ ap (λ a. shapes.array u (Some (word_of a))) c.value ∙ ap (shapes.array u) (sym length)

  -- by its name
  pub named_extent : (w : ℕ) (t : Tree) → reading source g ≡ Named → type_tree s.of.globals g.ty ≡ Some t → fits t (word w) ≡ true → s.constants n ≡ Some (word w) → p.things (ids g.result) ≡ Some (value (typed (shape_in s (struct_names key) t) (word w)))
      → with_extent p (length_extent source ids (Spec (id n))) u ≡ shapes.array u (array_length s n)
  named_extent w t reads shape fit has thing =
      let module_is : array_length s n ≡ length_by (Some t) w = ap (length_from s n) has ∙ ap (λ o. length_by (option_and_then (λ (g : Inst). type_tree s.of.globals g.ty) o) w) there ∙ ap (λ o. length_by o w) shape in
      extent_is Named reads ∙ ap (λ o. shapes.array u (constant_length o)) thing ∙ ap (shapes.array u) (same_length t fit ∙ sym module_is)
    where
      same_length : (t : Tree) → fits t (word w) ≡ true → constant_length (Some (value (typed (shape_in s (struct_names key) t) (word w)))) ≡ length_by (Some t) w
      same_length plain.boolean fit = cc
      same_length plain.int fit = refl
      same_length plain.uint fit = refl
      same_length (plain.vector e n) fit = cc
      same_length (plain.array t (Fixed n)) fit = cc
      same_length (plain.array t (Spec n)) fit = cc
      same_length (plain.runtime t) fit = cc
      same_length (plain.struct n ts) fit = cc
