-- What stands for the built-in variables in a text, whatever its items declare by other names, and that a module's have the same values.
use Rattle.std.proofs.Common.{◌≡◌, ℕ, true, false, List, [], ◌∷◌, Option, Some, None, refl, ap, ◌∙◌}
use Rattle.std.specs.Prelude.{bytes_eq, option_and_then, unwrap_or}
use Rattle.spv_ops.specs.Enumerants.{built_in_of_number, class_number, decoration_number}
use Rattle.spv_ops.specs.declared.BuiltIn.{BuiltIn}
use Rattle.spv_ops.specs.declared.BuiltIn.TheVariants as built
use Rattle.spv_ops.specs.declared.Decoration.TheVariants as decoration
use Rattle.spv_ops.specs.declared.StorageClass.TheVariants as storage
use Rattle.spv_module.specs.declared.inst.Inst.{Inst}
use Rattle.spv_module.specs.declared.tree.Elem.TheVariants as elem
use Rattle.spv_types.specs.Tree as plain
use Rattle.spv_types.specs.Tree.{Tree, ValueTree, word as word_value}
use Rattle.spv_decor.specs.Rows.{word, value_of}
use Rattle.op_semantics.specs.Fits.{fits}
use Rattle.module_semantics.specs.Setting.{Setting, global_variable}
use Rattle.module_semantics.specs.State.{global}
use Rattle.module_semantics.specs.Accesses.{three, built_in_value}
use Rattle.name_alloc.specs.declared.claims.Key.{Key}
use Rattle.glsl_ast.specs.Tree as tree
use Rattle.glsl_ast.specs.Tree.{Text, Expr, name, Decl}
use Rattle.glsl_ast.specs.declared.items.Size.{Size}
use Rattle.glsl_semantics.specs.Shapes.{Typed, typed}
use Rattle.glsl_semantics.specs.States.{Thing, value}
use Rattle.glsl_semantics.specs.Items.{Declared, put_text, with_global, built_ins, built_in_by, first_program, with_item, with_items, declared_by}
use Rattle.text_rules.specs.Constants.{Source}
use Rattle.text_items.specs.Globals.{built_in_name, built_in_text}
use Rattle.agree_law.specs.Agree.{Naming}
use Rattle.global_law.specs.Parts.{shape_in}
use Rattle.global_law.specs.Walks.{struct_names}
use Rattle.global_law.specs.Starts.{IsBuiltIn}

-- the item stands for something by another name
abbrev pub IsOtherName : Text → Decl → Type 0
IsOtherName x (tree.constant id t w e) = bytes_eq x w ≡ false
IsOtherName x (tree.shared t w) = bytes_eq x w ≡ false
IsOtherName x (tree.block place r quals buffer w members w') = bytes_eq x w' ≡ false
IsOtherName x _ = Unit {0}

abbrev pub AreOtherNames : Text → List Decl → Type 0
AreOtherNames x [] = Unit {0}
AreOtherNames x (i ∷ is) = IsOtherName x i × AreOtherNames x is

put_other : (f : Text → Option Thing) (w : Text) (a : Option Thing) (x : Text) → bytes_eq x w ≡ false → put_text f w a x ≡ f x
put_other f w a x off = ap (λ b. elim b as (λ b. Option Thing) [ true ↦ a | false ↦ f x ]) off

-- an item leaves what stands by other names
item_keeps : (d : Declared) (x : Text) (i : Decl) → IsOtherName x i → (with_item d i).program.things x ≡ d.program.things x
item_keeps d x (Decl.struct w fs) off = refl
item_keeps d x (tree.constant id t w e) off = put_other d.program.things w _ x off
item_keeps d x (tree.shared t w) off = put_other d.program.things w _ x off
item_keeps d x (tree.global t w e) off = by_value _
  where
    by_value : (o : Option Typed) → (with_global w o d).program.things x ≡ d.program.things x
    by_value None = refl
    by_value (Some v) = refl
item_keeps d x (tree.block place r quals buffer w members w') off = put_other d.program.things w' _ x off
item_keeps d x (Decl.function result w params body) off = refl

pub items_keep : (is : List Decl) (d : Declared) (x : Text) → AreOtherNames x is → (with_items d is).program.things x ≡ d.program.things x
items_keep [] d x off = refl
items_keep (i ∷ is) d x off = items_keep is (with_item d i) x off.1 ∙ item_keeps d x i off.0

-- the type of a built-in variable
abbrev pub built_in_shape : BuiltIn → Tree
built_in_shape built.LocalInvocationIndex = plain.uint
built_in_shape _ = plain.vector elem.Uint 3

-- it is a variable of a module
abbrev pub IsInputOne : BuiltIn → Type 0
IsInputOne built.WorkgroupSize = ⊥
IsInputOne _ = Unit {0}

module _ (s : Setting) (key : Key → Text) where
  -- it has in the text, before any item, the value that it has in the module
  pub record HasSame (sizes : List Size) (b : BuiltIn) : Type 0 where
    pub value_is : ValueTree
    pub has : built_in_value s.invocation b ≡ Some value_is
    pub fit : fits (built_in_shape b) value_is ≡ true
    pub thing : built_in_by (built_ins s.invocation sizes) (built_in_name (Some b)) ≡ Some (value (typed (shape_in s (struct_names key) (built_in_shape b)) value_is))

  same_there : (sizes : List Size) (b : BuiltIn) → IsInputOne b → HasSame sizes b
  same_there sizes built.NumWorkgroups is = record { value_is = three s.invocation.num_workgroups; has = refl; fit = refl; thing = refl }
  same_there sizes built.WorkgroupId is = record { value_is = three s.invocation.workgroup_id; has = refl; fit = refl; thing = refl }
  same_there sizes built.LocalInvocationId is = record { value_is = three s.invocation.local_invocation_id; has = refl; fit = refl; thing = refl }
  same_there sizes built.GlobalInvocationId is = record { value_is = three s.invocation.global_invocation_id; has = refl; fit = refl; thing = refl }
  same_there sizes built.LocalInvocationIndex is = record { value_is = word_value s.invocation.local_invocation_index; has = refl; fit = refl; thing = refl }
  same_there sizes built.WorkgroupSize is = absurd is

  -- So a built-in variable of the module begins a path: where it has its type (P14), and no item has its name.
  pub built_in_begins : (sizes : List Size) (items : List Decl) (m : Naming) (source : Source) (globals : ℕ → Option Expr) (n number : ℕ) (v : Inst) (b : BuiltIn) → global_variable s n ≡ Some v → word v 0 ≡ class_number storage.Input → value_of s.of.heads v.result (decoration_number decoration.BuiltIn) ≡ Some number → built_in_of_number number ≡ Some b → IsInputOne b
      → globals n ≡ Some (name (built_in_text number)) → m.is_outside (built_in_text number) ≡ true → AreOtherNames (built_in_text number) items → IsBuiltIn (declared_by s.invocation sizes items).program m s source key globals n (built_in_shape b) (global n) []
  unfolding declared_by
  built_in_begins sizes items m source globals n number v b there class told is one written outside others =
      let same = same_there sizes b one in
      let text : built_in_text number ≡ built_in_name (Some b) = ap built_in_name is in
      record {
        root = refl;
        whole = refl;
        inst = v;
        there = there;
        class = class;
        text = built_in_text number;
        written = written;
        outside = outside;
        value_is = same.value_is;
        has = ap (λ o. option_and_then (built_in_value s.invocation) (built_in_of_number (unwrap_or o 0))) told ∙ ap (option_and_then (built_in_value s.invocation)) is ∙ same.has;
        fit = same.fit;
        thing = items_keep items (record { program = first_program s.invocation sizes; shared_variables = 0; globals = []; is_stuck = false }) (built_in_text number) others ∙ ap (built_in_by (built_ins s.invocation sizes)) text ∙ same.thing;
      }
