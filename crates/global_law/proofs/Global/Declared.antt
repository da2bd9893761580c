-- The name of a type stands for the type of its shape.
use Rattle.std.proofs.Common.{◌≡◌, ◌⊎◌, ◌==◌, ◌&&◌, ℕ, zero, suc, Bool, true, false, List, [], ◌∷◌, Option, Some, None, inl, inr, refl, sym, ap, ap₂, ◌∙◌, subst, if◌then◌else◌}
use Rattle.std.specs.Prelude.{nat_le, option_map, slice_index}
use Rattle.std.specs.Option.{option_map_or}
use Rattle.std.proofs.lemmas.Bool.Decides.{eqb_tells}
use Rattle.std.proofs.lemmas.Option.{same_Some}
use Rattle.spv_ops.specs.Opcode.{is, number}
use Rattle.spv_ops.specs.declared.Op.{Op}
use Rattle.spv_ops.specs.declared.Op.TheVariants as code
use Rattle.spv_module.specs.Held.{global}
use Rattle.spv_module.specs.Lists.{id}
use Rattle.spv_module.specs.declared.inst.Inst.{Inst}
use Rattle.spv_module.specs.declared.tree.Elem.{Elem}
use Rattle.spv_module.specs.declared.tree.Elem.TheVariants as elem
use Rattle.spv_module.specs.declared.tree.Length.{Length}
use Rattle.spv_module.specs.declared.tree.Length.TheVariants.{Fixed, Spec}
use Rattle.spv_types.specs.declared.kind.TypeKind.{TypeKind}
use Rattle.spv_types.specs.declared.kind.TypeKind.TheVariants as kinds
use Rattle.spv_types.specs.Tree as plain
use Rattle.spv_types.specs.Tree.{Tree, Trees, no_trees}
use Rattle.spv_types.specs.Types.{kind, below, elem_of, length_of, length_by, sized_vector, vector_tree, array_tree, all_trees, tree_by_kind, tree_step, tree_before, tree_at, type_tree}
use Rattle.module_semantics.specs.Setting.{Setting}
use Rattle.name_alloc.specs.declared.claims.Key.{Key}
use Rattle.name_alloc.specs.declared.claims.Key.TheVariants.{Id}
use Rattle.glsl_ast.specs.Tree.{Text, Extent, TypeName, type_name, open_end, number as count}
use Rattle.glsl_semantics.specs.Shapes as shapes
use Rattle.glsl_semantics.specs.Shapes.{Shape, struct}
use Rattle.glsl_semantics.specs.Expressions.{Program, with_extent, with_extents, base_shape, type_of}
use Rattle.text_rules.specs.Types as types
use Rattle.text_rules.specs.Types.{Spelling, vector_base, type_text}
use Rattle.text_rules.specs.Outlines as outlines
use Rattle.text_rules.specs.Outlines.{basic_of, length_at, outline_by, outline_step, outline_before, outline}
use Rattle.text_rules.specs.Constants.{Source}
use Rattle.text_rules.specs.Declarations.{length_extent, spelling}
use Rattle.global_law.specs.Parts.{StructNames, shape_in, IsShape}
use Rattle.global_law.specs.Laid.{HasLengths}
use Rattle.global_law.specs.Walks.{struct_names}
use Rattle.global_law.proofs.Path.Parts.{only_shape}
use Rattle.global_law.specs.Names.{IsDeclared}

-- an extent before a type
extent_is : (p : Program) (x : Extent) (t : TypeName) (u : Shape) → type_of p t ≡ Some u → type_of p (types.with_extent x t) ≡ Some (with_extent p x u)
extent_is p x (type_name b es) u e = by_base (base_shape p b) e
  where
    by_base : (o : Option Shape) → option_map (with_extents p es) o ≡ Some u → option_map (with_extents p (x ∷ es)) o ≡ Some (with_extent p x u)
    by_base None e = cc
    by_base (Some v) e = ap (λ q. Some (with_extent p x q)) (same_Some (with_extents p es v) u e)

-- the name of a shape's type
module _ (p : Program) (s : Setting) (source : Source) (key : Key → Text) where
  abbrev S : Spelling
  S = spelling source (λ n. key (Id (id n)))

  abbrev Y : StructNames
  Y = struct_names key

  pub named_shape : (t : Tree) → IsDeclared p s source key t → (q : Shape) × (type_of p (type_text S t) ≡ Some q) × IsShape s Y t q
  named_shape plain.boolean is = (shapes.boolean, refl, refl)
  named_shape plain.int is = (shapes.int, refl, refl)
  named_shape plain.uint is = (shapes.uint, refl, refl)
  named_shape (plain.vector e n) is = (shapes.vector e n, by_elem e, refl)
    where
      by_elem : (e : Elem) → type_of p (type_name (vector_base e n) []) ≡ Some (shapes.vector e n)
      by_elem elem.Bool = refl
      by_elem elem.Int = refl
      by_elem elem.Uint = refl
  named_shape (plain.array t (Fixed n)) is =
      let w = named_shape t is in
      (shapes.array w.0 (Some n), extent_is p (count n) (type_text S t) w.0 w.1, (w.0, Some n, refl, w.2, refl))
  named_shape (plain.array t (Spec n)) is =
      let w = named_shape t is.0 in
      let l = is.1 in
      (shapes.array w.0 l.0, extent_is p (length_extent source (λ n. key (Id (id n))) (Spec n)) (type_text S t) w.0 w.1 ∙ ap (λ a. Some a) (l.1 w.0), (w.0, l.0, refl, w.2, l.2))
  named_shape (plain.runtime t) is =
      let w = named_shape t is in
      (shapes.runtime w.0, extent_is p open_end (type_text S t) w.0 w.1, (w.0, refl, w.2))
  named_shape (plain.struct n ts) is = (struct (key (Id (id n))) is.0, ap (λ o. option_map (with_extents p []) (option_map (struct (key (Id (id n)))) o)) is.1, (is.0, refl, is.2))

  -- of which no array has a specialization constant as its length
  pub named_type : (t : Tree) → HasLengths t → IsDeclared p s source key t → type_of p (type_text S t) ≡ Some (shape_in s Y t)
  named_type t lengths is = let w = named_shape t is in w.1 ∙ ap (λ q. Some q) (only_shape s Y t w.0 lengths w.2)

-- the length of an array, in its shape and in the outline by which it is named
constant_op : (o : Op) (n w : ℕ) (l : Length) → length_of o n w ≡ Some l → (if is o code.Constant then Fixed w else Spec (id n)) ≡ l
unfolding number
constant_op code.Constant n w l e = same_Some (Fixed w) l e
constant_op code.SpecConstantTrue n w l e = same_Some (Spec (id n)) l e
constant_op code.SpecConstantFalse n w l e = same_Some (Spec (id n)) l e
constant_op code.SpecConstant n w l e = same_Some (Spec (id n)) l e
constant_op code.SpecConstantComposite n w l e = same_Some (Spec (id n)) l e
constant_op code.SpecConstantOp n w l e = same_Some (Spec (id n)) l e
constant_op o n w l e = cc

length_same : (gs : List Inst) (n : ℕ) (l : Length) → length_by n (global gs n) ≡ Some l → length_at gs n ≡ l
length_same gs n l e = by_global (global gs n) e
  where
    by_global : (o : Option Inst) → length_by n o ≡ Some l → option_map_or (outlines.length_by n) o (Spec (id n)) ≡ l
    by_global None e = cc
    by_global (Some g) e = constant_op g.op n (slice_index g.args 0) l e

module _ (sp : Spelling) (gs : List Inst) where
  -- one type, from those before it
  step_same : (f : ℕ → Option Tree) (h : ℕ → Tree) (g : Inst) (t : Tree) → ((k : ℕ) (u : Tree) → f k ≡ Some u → type_text sp (h k) ≡ type_text sp u) → tree_at gs g ≡ Some t → (k : TypeKind) → tree_by_kind gs f g k ≡ Some t → type_text sp (outline_by gs h g k) ≡ type_text sp t
  step_same f h g t before at kinds.Bool e = ap (λ o. type_text sp (basic_of o)) at ∙ ap (λ a. type_text sp (basic_of (Some a))) (sym (same_Some plain.boolean t e)) ∙ ap (type_text sp) (same_Some plain.boolean t e)
  step_same f h g t before at kinds.Int e = ap (λ o. type_text sp (basic_of o)) at ∙ by_width (slice_index g.args 0 == 32) (slice_index g.args 1 == 0) (slice_index g.args 1 == 1) e
    where
      by_width : (w a b : Bool) → (if w then (if a then Some plain.uint else (if b then Some plain.int else None)) else None) ≡ Some t → type_text sp (basic_of (Some t)) ≡ type_text sp t
      by_width true true b e = subst (λ q. type_text sp (basic_of (Some q)) ≡ type_text sp q) (same_Some plain.uint t e) refl
      by_width true false true e = subst (λ q. type_text sp (basic_of (Some q)) ≡ type_text sp q) (same_Some plain.int t e) refl
      by_width true false false e = cc
      by_width false a b e = cc
  step_same f h g t before at kinds.Vector e = ap (λ o. type_text sp (basic_of o)) at ∙ by_part (f (slice_index g.args 0)) e
    where
      by_size : (d : Elem) (a b : Bool) → (if a && b then Some (plain.vector d (slice_index g.args 1)) else None) ≡ Some t → type_text sp (basic_of (Some t)) ≡ type_text sp t
      by_size d true true h = subst (λ q. type_text sp (basic_of (Some q)) ≡ type_text sp q) (same_Some (plain.vector d (slice_index g.args 1)) t h) refl
      by_size d true false h = cc
      by_size d false b h = cc

      by_elem : (o : Option Elem) → option_map_or (sized_vector (slice_index g.args 1)) o None ≡ Some t → type_text sp (basic_of (Some t)) ≡ type_text sp t
      by_elem None h = cc
      by_elem (Some d) h = by_size d (nat_le 2 (slice_index g.args 1)) (nat_le (slice_index g.args 1) 4) h

      by_part : (o : Option Tree) → vector_tree o (slice_index g.args 1) ≡ Some t → type_text sp (basic_of (Some t)) ≡ type_text sp t
      by_part None h = cc
      by_part (Some x) h = by_elem (elem_of x) h
  step_same f h g t before at kinds.Array e = by_part (f (slice_index g.args 0)) refl (length_by (slice_index g.args 1) (global gs (slice_index g.args 1))) refl e
    where
      by_part : (o : Option Tree) → f (slice_index g.args 0) ≡ o → (q : Option Length) → length_by (slice_index g.args 1) (global gs (slice_index g.args 1)) ≡ q → array_tree o q ≡ Some t → type_text sp (plain.array (h (slice_index g.args 0)) (length_at gs (slice_index g.args 1))) ≡ type_text sp t
      by_part None there q is e = cc
      by_part (Some x) there None is e = cc
      by_part (Some x) there (Some l) is e =
          ap₂ (λ a b. types.with_extent (sp.length a) b) (length_same gs (slice_index g.args 1) l is) (before (slice_index g.args 0) x there) ∙ ap (type_text sp) (same_Some (plain.array x l) t e)
  step_same f h g t before at kinds.Runtime e = by_part (f (slice_index g.args 0)) refl e
    where
      by_part : (o : Option Tree) → f (slice_index g.args 0) ≡ o → option_map plain.runtime o ≡ Some t → type_text sp (plain.runtime (h (slice_index g.args 0))) ≡ type_text sp t
      by_part None there e = cc
      by_part (Some x) there e = ap (types.with_extent open_end) (before (slice_index g.args 0) x there) ∙ ap (type_text sp) (same_Some (plain.runtime x) t e)
  step_same f h g t before at kinds.Struct e = by_parts (all_trees f g.args) e
    where
      by_parts : (o : Option Trees) → option_map (plain.struct g.result) o ≡ Some t → type_text sp (plain.struct g.result no_trees) ≡ type_text sp t
      by_parts None e = cc
      by_parts (Some ts) e = ap (type_text sp) (same_Some (plain.struct g.result ts) t e)
  step_same f h g t before at kinds.Other e = cc

  before_same : (n k : ℕ) (t : Tree) → tree_before gs n k ≡ Some t → type_text sp (outline_before gs n k) ≡ type_text sp t
  unfolding below
  before_same zero k t e = cc
  before_same (suc n) k t e = by_global (global gs k) e (λ j u. before_same n j u)
    where
      f : ℕ → Option Tree
      f = below (tree_step gs) None gs n

      h : ℕ → Tree
      h = below (outline_step gs) plain.uint gs n

      by_test : (g : Inst) (b : Bool) → ((b ≡ true) × (g.at ≡ n)) ⊎ ((b ≡ false) × (g.at ≡ n → ⊥)) → ((j : ℕ) (u : Tree) → f j ≡ Some u → type_text sp (h j) ≡ type_text sp u) → (if b then tree_step gs f g else f k) ≡ Some t → type_text sp (if b then outline_step gs h g else h k) ≡ type_text sp t
      by_test g true (inl w) before e = step_same f h g t before (ap (λ m. tree_step gs (below (tree_step gs) None gs m) g) w.1 ∙ e) (kind g.op) e
      by_test g true (inr w) before e = cc
      by_test g false w before e = before k t e

      by_global : (o : Option Inst) → option_map_or (λ (g : Inst). if g.at == n then tree_step gs f g else f k) o None ≡ Some t → ((j : ℕ) (u : Tree) → f j ≡ Some u → type_text sp (h j) ≡ type_text sp u)
          → type_text sp (option_map_or (λ (g : Inst). if g.at == n then outline_step gs h g else h k) o plain.uint) ≡ type_text sp t
      by_global None e before = cc
      by_global (Some g) e before = by_test g (g.at == n) (eqb_tells g.at n) before e

  -- A type is named by its outline as by its shape.
  pub outline_same : (ty : ℕ) (t : Tree) → type_tree gs ty ≡ Some t → type_text sp (outline gs ty) ≡ type_text sp t
  outline_same ty t e = by_global (global gs ty) e
    where
      by_global : (o : Option Inst) → option_map_or (tree_at gs) o None ≡ Some t → type_text sp (option_map_or (outlines.outline_at gs) o plain.uint) ≡ type_text sp t
      by_global None e = cc
      by_global (Some g) e = step_same (tree_before gs g.at) (outline_before gs g.at) g t (λ k u. before_same g.at k u) e (kind g.op) e
