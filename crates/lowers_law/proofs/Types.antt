-- Types of values as the blocks of a function name them, and the parts of composites to which literals lead.
use Rattle.std.proofs.Common.{◌≡◌, ◌⊎◌, ℕ, zero, suc, Bool, true, false, List, [], ◌∷◌, Option, Some, None, inl, inr, refl, sym, ap, ◌∙◌, unwrap_or, if◌then◌else◌}
use Rattle.std.specs.Prelude.{nat_lt, option_and_then, slice_index}
use Rattle.std.specs.Option.{option_map_or}
use Rattle.spv_ops.specs.Opcode.{is, number}
use Rattle.spv_ops.specs.declared.Op.{Op}
use Rattle.spv_ops.specs.declared.Op.TheVariants as code
use Rattle.spv_module.specs.Held.{global}
use Rattle.spv_module.specs.Lists.{id}
use Rattle.spv_module.specs.declared.inst.Inst.{Inst}
use Rattle.spv_module.specs.declared.inst.Function.{Function}
use Rattle.spv_module.specs.declared.tree.Elem.{Elem}
use Rattle.spv_module.specs.declared.tree.Elem.TheVariants as elem
use Rattle.spv_module.specs.declared.tree.Length.TheVariants.{Fixed, Spec}
use Rattle.spv_types.specs.Tree as plain
use Rattle.spv_types.specs.Tree.{Tree, Trees, no_trees, tree}
use Rattle.spv_types.specs.Types.{tree_at, type_tree}
use Rattle.op_semantics.specs.Fits.{elem_tree}
use Rattle.profile_rules.specs.declared.given.Given.{Given}
use Rattle.module_semantics.specs.Setting.{Setting}
use Rattle.module_semantics.specs.Memory.{part_by}
use Rattle.module_semantics.specs.Memory as module_memory
use Rattle.name_alloc.specs.declared.claims.Key.{Key}
use Rattle.name_alloc.specs.declared.claims.Key.TheVariants.{Id, Member}
use Rattle.glsl_ast.specs.Tree as ast
use Rattle.glsl_ast.specs.Tree.{Text, Expr, TypeName, type_name, Extent}
use Rattle.glsl_ast.specs.declared.expressions.Literal.TheVariants as literals
use Rattle.glsl_semantics.specs.Expressions.{Program}
use Rattle.vec_lowering.specs.Named.{text_or_none, shape_type, array_of}
use Rattle.vec_lowering.specs.Composite.{extracted, nth_or}
use Rattle.text_rules.specs.Types as types
use Rattle.text_rules.specs.Types.{type_text}
use Rattle.text_rules.specs.Outlines.{basic_of, basic_at, basic}
use Rattle.text_rules.specs.Constants.{Source}
use Rattle.text_rules.specs.Declarations.{spelling, type_at}
use Rattle.expr_forward.specs.Scope.{Scope, type_of}
use Rattle.expr_forward.specs.Paths.{composite_op_in, part_step_by, part_type, part_steps, further}
use Rattle.hoist_plan.specs.declared.form.Form.{Form}
use Rattle.unit_rules.specs.Translation.{text_of, id_text, names_of, scope_by}
use Rattle.list_law.proofs.Options.{some_unwrapped}
use Rattle.fits_law.specs.Takes.{nth_of, shape_at}
use Rattle.fits_law.specs.State.{value_shape}
use Rattle.type_law.proofs.Places.{part_leads}
use Rattle.lowering_law.specs.Arguments.{IsBasic}
use Rattle.global_law.specs.Parts.{HasMembersApart}
use Rattle.global_law.specs.Walks.{struct_names}
use Rattle.global_law.proofs.Path.Types.{op_of, declared_as, struct_number}
use Rattle.global_law.proofs.Global.Declared.{outline_same}
use Rattle.global_law.proofs.Global.Zeros.{HasZero}

-- scalars and vectors
pub of_basic : (t : Tree) → IsBasic t → basic_of (Some t) ≡ t
of_basic plain.boolean b = refl
of_basic plain.int b = refl
of_basic plain.uint b = refl
of_basic (plain.vector e n) b = refl
of_basic (plain.array t l) b = absurd b
of_basic (plain.runtime t) b = absurd b
of_basic (plain.struct k ts) b = absurd b

pub basic_by : (gs : List Inst) (ty : ℕ) (t : Tree) → type_tree gs ty ≡ Some t → basic gs ty ≡ basic_of (Some t)
basic_by gs ty t shaped = by_global (global gs ty) shaped
  where
    by_global : (o : Option Inst) → option_map_or (tree_at gs) o None ≡ Some t → option_map_or (basic_at gs) o plain.uint ≡ basic_of (Some t)
    by_global None e = cc
    by_global (Some g) e = ap basic_of e

pub decide_basic : (t : Tree) → IsBasic t ⊎ (IsBasic t → ⊥)
decide_basic plain.boolean = inl tt
decide_basic plain.int = inl tt
decide_basic plain.uint = inl tt
decide_basic (plain.vector e n) = inl tt
decide_basic (plain.array t l) = inr (λ b. b)
decide_basic (plain.runtime t) = inr (λ b. b)
decide_basic (plain.struct k ts) = inr (λ b. b)

pub text_is : (o : Option Text) → unwrap_or o [] ≡ text_or_none o
text_is None = refl
text_is (Some w) = refl

extent_same : (x : Extent) (t : TypeName) → types.with_extent x t ≡ array_of x t
extent_same x (type_name b xs) = refl

-- the member with a number, or another
nth_is : (ts : Trees) (k : ℕ) (u : Tree) → nth_of ts k ≡ Some u → nth_or ts k plain.boolean ≡ u
nth_is no_trees k u e = cc
nth_is (tree t ts) zero u e = cc
nth_is (tree t ts) (suc k) u e = nth_is ts k u e

part_same : (o : Op) (args : List ℕ) (k : ℕ) → slice_index args (if is o code.TypeStruct then k else 0) ≡ part_by o args k
unfolding number
part_same code.TypeStruct args k = refl
part_same o args k = refl

-- no part of a scalar
no_scalar_parts : (e : Elem) (k : ℕ) (ks : List ℕ) (t : Tree) → shape_at (elem_tree e) (k ∷ ks) ≡ Some t → ⊥
no_scalar_parts elem.Bool k ks t e = cc
no_scalar_parts elem.Int k ks t e = cc
no_scalar_parts elem.Uint k ks t e = cc

-- the module, its entry and its overrides; the names of keys; the function, how globals are read, the forms of values and which chains are mentioned in other blocks
module _ (s : Setting) (entry : ℕ) (overrides : List (ℕ × Given)) (found : Key → Option Text) (f : Function) (globals : ℕ → Option Expr) (form : ℕ → Form) (carried : ℕ → Bool) where
  abbrev pub Src : Source
  Src = record { of = s.of; entry = entry; overrides = overrides }

  abbrev pub W : Scope
  W = scope_by Src found found f globals form carried

  abbrev Gs : List Inst
  Gs = s.of.globals

  -- a type whose name stands for it in the text: its structs are declared, with members apart
  abbrev pub IsText : Program → Tree → Type 0
  IsText p t = HasZero p s Src (text_of found) t × HasMembersApart (struct_names (text_of found)) t

  -- the type of a value
  pub type_is : (n : ℕ) (t : Tree) → value_shape s f n ≡ Some t → type_tree Gs (type_of W n) ≡ Some t
  type_is n t shaped = some_unwrapped (type_tree Gs) _ t shaped

  -- the name of a type, by its shape
  module _ (p : Program) where
    shape_named : (t : Tree) → HasZero p s Src (text_of found) t → type_text (spelling Src (id_text found)) t ≡ shape_type found t
    shape_named plain.boolean z = refl
    shape_named plain.int z = refl
    shape_named plain.uint z = refl
    shape_named (plain.vector elem.Bool n) z = refl
    shape_named (plain.vector elem.Int n) z = refl
    shape_named (plain.vector elem.Uint n) z = refl
    shape_named (plain.array t (Fixed n)) z = ap (types.with_extent (ast.number n)) (shape_named t z) ∙ extent_same (ast.number n) (shape_type found t)
    shape_named (plain.array t (Spec l)) z = absurd z
    shape_named (plain.runtime t) z = absurd z
    shape_named (plain.struct k ts) z = ap (λ (w : Text). type_name (ast.struct w) []) (text_is (found (Id (id k))))

    pub type_named : (ty : ℕ) (t : Tree) → type_tree Gs ty ≡ Some t → HasZero p s Src (text_of found) t → type_at Src (names_of found) ty ≡ shape_type found t
    type_named ty t shaped z = outline_same (spelling Src (id_text found)) Gs ty t shaped ∙ shape_named t z

  -- the id of a struct is that of its type
  pub op_at : (ty : ℕ) (a : Tree) → type_tree Gs ty ≡ Some a → composite_op_in Gs ty ≡ op_of a
  op_at ty a shaped =
      let d = declared_as s ty a shaped in
      ap (λ (o : Option Inst). option_map_or (λ (g : Inst). g.op) o code.TypeArray) d.1 ∙ d.2

  pub part_at : (ty k : ℕ) → part_type W.setting ty k ≡ module_memory.part_type s ty k
  part_at ty k = by_global (global Gs ty)
    where
      by_global : (o : Option Inst) → option_map_or (λ (g : Inst). slice_index g.args (if is g.op code.TypeStruct then k else 0)) o 0 ≡ option_map_or (λ (g : Inst). part_by g.op g.args k) o 0
      by_global None = refl
      by_global (Some g) = part_same g.op g.args k

  -- the first step, by the opcode of the type
  first_step : (ty k : ℕ) (ks : List ℕ) (a : Tree) (x : Expr) → type_tree Gs ty ≡ Some a → further x (part_steps W.setting ty (k ∷ ks)) ≡ further x (part_step_by W.setting ty k (op_of a) ∷ part_steps W.setting (part_type W.setting ty k) ks)
  first_step ty k ks a x shaped = ap (λ (o : Op). further x (part_step_by W.setting ty k o ∷ part_steps W.setting (part_type W.setting ty k) ks)) (op_at ty a shaped)

  below_some : (b : Bool) (u t : Tree) (ks : List ℕ) → option_and_then (λ (v : Tree). shape_at v ks) (if b then Some u else None) ≡ Some t → shape_at u ks ≡ Some t
  below_some true u t ks e = e
  below_some false u t ks e = cc

  -- Literals lead to the part to which they lead in the shape.
  pub parts_are : (ks : List ℕ) (ty : ℕ) (a t : Tree) (x : Expr) → type_tree Gs ty ≡ Some a → shape_at a ks ≡ Some t → further x (part_steps W.setting ty ks) ≡ extracted found a ks x
  unfolding number
  parts_are [] ty a t x shaped at = refl
  parts_are (k ∷ ks) ty (plain.vector e n) t x shaped at = first_step ty k ks (plain.vector e n) x shaped ∙ by_more ks (below_some (nat_lt k n) (elem_tree e) t ks at)
    where
      by_more : (ks : List ℕ) → shape_at (elem_tree e) ks ≡ Some t → further x (part_step_by W.setting ty k code.TypeVector ∷ part_steps W.setting (part_type W.setting ty k) ks) ≡ extracted found (plain.vector e n) (k ∷ ks) x
      by_more [] at = refl
      by_more (j ∷ ks) at = absurd (no_scalar_parts e j ks t at)
  parts_are (k ∷ ks) ty (plain.array u (Fixed n)) t x shaped at =
      first_step ty k ks (plain.array u (Fixed n)) x shaped
      ∙ parts_are ks (part_type W.setting ty k) u t (Expr.index x (ast.literal (literals.Int k))) (ap (type_tree Gs) (part_at ty k) ∙ part_leads s ty k (plain.array u (Fixed n)) u shaped refl) (below_some (nat_lt k n) u t ks at)
  parts_are (k ∷ ks) ty (plain.array u (Spec l)) t x shaped at = cc
  parts_are (k ∷ ks) ty (plain.runtime u) t x shaped at = cc
  parts_are (k ∷ ks) ty (plain.struct j ts) t x shaped at =
      first_step ty k ks (plain.struct j ts) x shaped
      ∙ by_member (nth_of ts k) refl at (λ u there more. parts_are ks (part_type W.setting ty k) u t (Expr.member x (text_or_none (found (Member (id j) k)))) (ap (type_tree Gs) (part_at ty k) ∙ part_leads s ty k (plain.struct j ts) u shaped there) more)
    where
      by_member : (o : Option Tree) → nth_of ts k ≡ o → option_and_then (λ (v : Tree). shape_at v ks) o ≡ Some t
          → ((u : Tree) → nth_of ts k ≡ Some u → shape_at u ks ≡ Some t → further (Expr.member x (text_or_none (found (Member (id j) k)))) (part_steps W.setting (part_type W.setting ty k) ks) ≡ extracted found u ks (Expr.member x (text_or_none (found (Member (id j) k)))))
          → further x (part_step_by W.setting ty k code.TypeStruct ∷ part_steps W.setting (part_type W.setting ty k) ks) ≡ extracted found (plain.struct j ts) (k ∷ ks) x
      by_member None there at later = cc
      by_member (Some u) there at later =
          ap (λ (w : Text). further (Expr.member x w) (part_steps W.setting (part_type W.setting ty k) ks)) (text_is (found (Member (id ty) k)) ∙ ap (λ (n : ℕ). text_or_none (found (Member (id n) k))) (sym (struct_number s ty j ts shaped)))
          ∙ (later u there at ∙ ap (λ (v : Tree). extracted found v ks (Expr.member x (text_or_none (found (Member (id j) k))))) (sym (nth_is ts k u there)))
  parts_are (k ∷ ks) ty plain.boolean t x shaped at = cc
  parts_are (k ∷ ks) ty plain.int t x shaped at = cc
  parts_are (k ∷ ks) ty plain.uint t x shaped at = cc
