-- What the items of a text declare of structs stays: so the name of a struct stands for its members.
use Rattle.std.proofs.Common.{◌≡◌, ◌+◌, ◌++◌, ℕ, true, false, List, [], ◌∷◌, map, Option, Some, None, refl, sym, ap, ap₂, ◌∙◌, subst}
use Rattle.std.specs.Prelude.{bytes_eq, flat_map}
use Rattle.std.specs.List.{enumerate_from}
use Rattle.std.proofs.lemmas.Slice.Eq.{bytes_eq-Decides}
use Rattle.std.proofs.lemmas.Option.{same_Some}
use Rattle.spv_module.specs.Lists.{id}
use Rattle.spv_module.specs.declared.inst.Inst.{Inst}
use Rattle.spv_module.specs.declared.inst.Function.{Function}
use Rattle.spv_types.specs.Tree.{Tree, Trees, no_trees, tree}
use Rattle.spv_types.specs.Types.{both, all_trees, tree_before}
use Rattle.profile_rules.specs.declared.given.Given.{Given}
use Rattle.module_semantics.specs.Setting.{Setting}
use Rattle.name_alloc.specs.declared.claims.Key.{Key}
use Rattle.name_alloc.specs.declared.claims.Key.TheVariants.{Id}
use Rattle.glsl_ast.specs.Tree as items
use Rattle.glsl_ast.specs.Tree.{Text, Expr, Field, Decl}
use Rattle.glsl_semantics.specs.Shapes.{Typed, Fields, no_fields, field}
use Rattle.glsl_semantics.specs.Expressions.{Program}
use Rattle.glsl_semantics.specs.Items.{Declared, with_field, fields_of, with_global, with_item, with_items}
use Rattle.text_rules.specs.Constants.{Source}
use Rattle.text_rules.specs.Printed.{Reached}
use Rattle.text_rules.specs.Declarations.{Names, type_at, struct_decl, declaration, declarations}
use Rattle.type_law.proofs.Parts.{earlier_is}
use Rattle.global_law.specs.Parts.{StructNames, AreFields}
use Rattle.global_law.specs.Walks.{struct_names}
use Rattle.global_law.specs.Sources.{source_of}
use Rattle.global_law.specs.Names.{names_of}
use Rattle.global_law.proofs.Global.Blocks.{AreDeclared, shape_declared}

-- the item declares no struct of this name
abbrev pub IsOtherStruct : Text → Decl → Type 0
IsOtherStruct x (Decl.struct w fs) = bytes_eq x w ≡ false
IsOtherStruct x _ = Unit {0}

abbrev pub AreOtherStructs : Text → List Decl → Type 0
AreOtherStructs x [] = Unit {0}
AreOtherStructs x (i ∷ is) = IsOtherStruct x i × AreOtherStructs x is

-- items leave the structs of other names
struct_keeps : (d : Declared) (x : Text) (i : Decl) → IsOtherStruct x i → (with_item d i).program.structs x ≡ d.program.structs x
struct_keeps d x (Decl.struct w fs) off = ap (λ b. elim b as (λ b. Option Fields) [ true ↦ fields_of d.program fs | false ↦ d.program.structs x ]) off
struct_keeps d x (items.constant spec t w e) off = refl
struct_keeps d x (items.shared t w) off = refl
struct_keeps d x (items.global t w e) off = by_value _
  where
    by_value : (o : Option Typed) → (with_global w o d).program.structs x ≡ d.program.structs x
    by_value None = refl
    by_value (Some v) = refl
struct_keeps d x (items.block place r quals buffer w members w') off = refl
struct_keeps d x (Decl.function result w params body) off = refl

pub structs_keep : (is : List Decl) (d : Declared) (x : Text) → AreOtherStructs x is → (with_items d is).program.structs x ≡ d.program.structs x
structs_keep [] d x off = refl
structs_keep (i ∷ is) d x off = structs_keep is (with_item d i) x off.1 ∙ struct_keeps d x i off.0

module _ (s : Setting) (f : Function) (overrides : List (ℕ × Given)) (key : Key → Text) (calculated : Inst → Expr) where
  abbrev source : Source
  source = source_of s overrides

  abbrev N : Names
  N = names_of key calculated

  abbrev Gs : List Inst
  Gs = s.of.globals

  abbrev Y : StructNames
  Y = struct_names key

  abbrev member_field : Inst → ℕ × ℕ → Field
  member_field g m = items.field (type_at source N m.1) (N.member g.result m.0)

  -- the members of a struct
  fields_declared : (p : Program) (g : Inst) (k : ℕ) (ids : List ℕ) (ts : Trees) → all_trees (tree_before Gs g.at) ids ≡ Some ts → AreDeclared s f overrides key calculated p ts → (fs : Fields) × (fields_of p (map (member_field g) (enumerate_from k ids)) ≡ Some fs) × AreFields s Y g.result k ts fs
  fields_declared p g k [] ts all are = (no_fields, refl, subst (λ us. AreFields s Y g.result k us no_fields) (same_Some no_trees ts all) refl)
  fields_declared p g k (n ∷ ns) ts all are = by_parts (tree_before Gs g.at n) refl (all_trees (tree_before Gs g.at) ns) refl all are (λ us more there. fields_declared p g (k + 1) ns us more there)
    where
      by_parts : (o : Option Tree) → tree_before Gs g.at n ≡ o → (q : Option Trees) → all_trees (tree_before Gs g.at) ns ≡ q → both o q ≡ Some ts → AreDeclared s f overrides key calculated p ts
          → ((us : Trees) → all_trees (tree_before Gs g.at) ns ≡ Some us → AreDeclared s f overrides key calculated p us → (fs : Fields) × (fields_of p (map (member_field g) (enumerate_from (k + 1) ns)) ≡ Some fs) × AreFields s Y g.result (k + 1) us fs)
          → (fs : Fields) × (fields_of p (map (member_field g) (enumerate_from k (n ∷ ns))) ≡ Some fs) × AreFields s Y g.result k ts fs
      by_parts None is q more e are later = cc
      by_parts (Some t) is None more e are later = cc
      by_parts (Some t) is (Some us) more e are later =
          let whole : tree t us ≡ ts = same_Some (tree t us) ts e in
          let there : AreDeclared s f overrides key calculated p (tree t us) = subst (AreDeclared s f overrides key calculated p) (sym whole) are in
          let first = shape_declared s f overrides key calculated p n t (earlier_is s f g.at n t is) there.0 in
          let rest = later us more there.1 in
          let x = N.member g.result k in
          (field x first.0 rest.0, ap₂ (λ o fs. with_field x o fs) first.1 rest.1, subst (λ us. AreFields s Y g.result k us (field x first.0 rest.0)) whole (first.0, rest.0, refl, first.2, rest.2))

  -- the item of a struct
  pub struct_item : (d : Declared) (g : Inst) (ts : Trees) → all_trees (tree_before Gs g.at) g.args ≡ Some ts → AreDeclared s f overrides key calculated d.program ts → (fs : Fields) × ((with_item d (struct_decl source N g)).program.structs (key (Id (id g.result))) ≡ Some fs) × AreFields s Y g.result 0 ts fs
  struct_item d g ts all are =
      let x = key (Id (id g.result)) in
      let itself : bytes_eq x x ≡ true = (bytes_eq-Decides x x).1 refl in
      let fields = fields_declared d.program g 0 g.args ts all are in
      (fields.0, ap (λ b. elim b as (λ b. Option Fields) [ true ↦ fields_of d.program (map (member_field g) (enumerate_from 0 g.args)) | false ↦ d.program.structs x ]) itself ∙ fields.1, fields.2)
