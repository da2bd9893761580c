-- What is asked of the names of types, of their parts and of lengths is not asked of names that may be seen: so where it holds of any words, it holds of unseen ones.
use Rattle.std.proofs.Common.{◌+◌, ℕ, Bool, true, false, List, [], ◌∷◌, drop, map, Option, Some, None, if◌then◌else◌}
use Rattle.std.specs.Prelude.{slice_index}
use Rattle.spv_ops.specs.declared.Op.{Op}
use Rattle.spv_module.specs.Lists.{id}
use Rattle.spv_module.specs.declared.inst.Inst.{Inst}
use Rattle.spv_module.specs.declared.tree.Length.{Length}
use Rattle.spv_module.specs.declared.tree.Length.TheVariants.{Fixed, Spec}
use Rattle.spv_types.specs.Tree as shape
use Rattle.spv_types.specs.Tree.{Tree, Trees, no_trees, tree}
use Rattle.hoist_plan.specs.declared.form.Form.{Form}
use Rattle.hoist_plan.specs.declared.form.Form.TheVariants.{Local, Hoisted}
use Rattle.name_alloc.specs.declared.claims.Key.TheVariants.{Id, Member}
use Rattle.op_semantics.specs.Value.{operation_of}
use Rattle.op_semantics.specs.declared.operation.Operation.{Operation}
use Rattle.op_semantics.specs.declared.operation.Operation.TheVariants as op
use Rattle.spv_ops.specs.Opcode.{is as is_code}
use Rattle.spv_ops.specs.declared.Op.TheVariants as code
use Rattle.glsl_ast.specs.Tree as text
use Rattle.glsl_ast.specs.Tree.{TypeName, type_name, Extent, Base, LStep, literal}
use Rattle.glsl_ast.specs.declared.expressions.Literal.TheVariants.{Int}
use Rattle.vec_lowering.specs.Named.{Naming}
use Rattle.vec_lowering.specs.Component.{axis_name}
use Rattle.vec_lowering.specs.Composite.{Argument, first_of, nth_or, array_part, struct_id, struct_parts}
use Rattle.text_rules.specs.Outlines.{basic}
use Rattle.text_rules.specs.Declarations.{shape_at, type_at, zero_at}
use Rattle.expr_forward.specs.Scope.{Setting, Scope}
use Rattle.expr_forward.specs.Paths.{composite_op_in, part_type, part_steps}
use Rattle.expr_forward.specs.Scope as scope
use Rattle.expr_forward.specs.Context.{operand}
use Rattle.expr_forward.specs.Values.{argument, value_words, literal_words, length_text, whole_argument}
use Rattle.expr_forward.specs.declared.kinds.OperationKind.{OperationKind}
use Rattle.expr_forward.specs.declared.kinds.OperationKind.TheVariants as kind
use Rattle.claim_law.specs.Uses.{Words, UsesExtent, UseExtents, UsesBase, UsesType, UsesExpr, UseSteps}
use Rattle.claim_law.specs.Named.{IsNamedLength, IsNamedType, AreNamedAlong, CanCopy, CanCopyParts, Asks, AsksIfAny}
use Rattle.claim_law.specs.Asked.{AsksOf, MeetsKind}
use Rattle.claim_law.specs.Statements.{AsksSet}
use Rattle.text_law.specs.Walks.{Outer}
use Rattle.text_law.specs.Unseen.{unseen}

module _ (W : Words) (o : Outer) where
  -- names of types
  pub extent_unseen : (e : Extent) → UsesExtent W e → UsesExtent (unseen o) e
  extent_unseen text.open_end has = tt
  extent_unseen (text.Extent.number n) has = has
  extent_unseen (text.Extent.named x) has = tt
  extent_unseen (text.Extent.size x) has = tt

  extents_unseen : (es : List Extent) → UseExtents W es → UseExtents (unseen o) es
  extents_unseen [] has = tt
  extents_unseen (e ∷ es) has = (extent_unseen e has.0, extents_unseen es has.1)

  base_unseen : (b : Base) → UsesBase W b → UsesBase (unseen o) b
  base_unseen text.Base.boolean has = tt
  base_unseen text.Base.int has = tt
  base_unseen text.Base.uint has = tt
  base_unseen (text.Base.bool_vec n) has = has
  base_unseen (text.Base.int_vec n) has = has
  base_unseen (text.Base.uint_vec n) has = has
  base_unseen (text.Base.struct x) has = tt

  pub type_unseen : (t : TypeName) → UsesType W t → UsesType (unseen o) t
  type_unseen (type_name b es) has = (base_unseen b has.0, extents_unseen es has.1)

  -- steps to a part, by literals
  step_unseen : (a b : Bool) (x y : List ℕ) (k : ℕ) (rest : List LStep) → (UseSteps W rest → UseSteps (unseen o) rest) → UseSteps W ((if a then LStep.member x else (if b then LStep.member y else LStep.index (literal (Int k)))) ∷ rest) → UseSteps (unseen o) ((if a then LStep.member x else (if b then LStep.member y else LStep.index (literal (Int k)))) ∷ rest)
  step_unseen true b x y k rest later has = (tt, later has.1)
  step_unseen false true x y k rest later has = (tt, later has.1)
  step_unseen false false x y k rest later has = (has.0, later has.1)

  pub parts_unseen : (w : Setting) (ty : ℕ) (ks : List ℕ) → UseSteps W (part_steps w ty ks) → UseSteps (unseen o) (part_steps w ty ks)
  parts_unseen w ty [] has = tt
  parts_unseen w ty (k ∷ ks) has =
      let q : Op = composite_op_in (scope.globals_in w) ty in
      step_unseen (is_code q code.TypeVector) (is_code q code.TypeStruct) (axis_name k) (w.key (Member (id ty) k)) k (part_steps w (part_type w ty k) ks) (parts_unseen w (part_type w ty k) ks) has

  module _ (names : Naming) where
    length_unseen : (l : Length) → IsNamedLength W names l → IsNamedLength (unseen o) names l
    length_unseen (Fixed n) has = has
    length_unseen (Spec n) has = tt

    named_unseen : (t : Tree) → IsNamedType W names t → IsNamedType (unseen o) names t
    named_unseen shape.boolean has = tt
    named_unseen shape.int has = tt
    named_unseen shape.uint has = tt
    named_unseen (shape.vector e n) has = has
    named_unseen (shape.array t l) has = (length_unseen l has.0, named_unseen t has.1)
    named_unseen (shape.runtime t) has = named_unseen t has
    named_unseen (shape.struct n ts) has = tt

    along_unseen : (t : Tree) (is : List ℕ) → AreNamedAlong W names t is → AreNamedAlong (unseen o) names t is
    along_unseen t [] has = tt
    along_unseen shape.boolean (i ∷ is) has = tt
    along_unseen shape.int (i ∷ is) has = tt
    along_unseen shape.uint (i ∷ is) has = tt
    along_unseen (shape.vector e n) (i ∷ is) has = tt
    along_unseen (shape.array t l) (i ∷ is) has = along_unseen t is has
    along_unseen (shape.runtime t) (i ∷ is) has = along_unseen t is has
    along_unseen (shape.struct n ts) (i ∷ is) has = (tt, along_unseen (nth_or ts i shape.boolean) is has.1)

    mutual
      copy_unseen : (t from : Tree) → CanCopy W names t from → CanCopy (unseen o) names t from
      copy_unseen shape.boolean from can = tt
      copy_unseen shape.int from can = tt
      copy_unseen shape.uint from can = tt
      copy_unseen (shape.vector e n) from can = tt
      copy_unseen (shape.runtime t) from can = tt
      copy_unseen (shape.array t l) from can = (named_unseen (shape.array t l) can.0, copy_unseen t (array_part from) can.1)
      copy_unseen (shape.struct n ts) from can = (tt, copies_unseen ts (struct_id from) (struct_parts from) 0 can.1)

      copies_unseen : (ts : Trees) (n : ℕ) (from : Trees) (k : ℕ) → CanCopyParts W names ts n from k → CanCopyParts (unseen o) names ts n from k
      copies_unseen no_trees n from k can = tt
      copies_unseen (tree t ts) n from k can = (tt, copy_unseen t (nth_or from k shape.boolean) can.1, copies_unseen ts n from (k + 1) can.2)

    -- what operations ask for
    asks_unseen : (q : Op) (operation : Operation) (t : Tree) (literals : List ℕ) (xs : List Argument) → Asks W names q operation t literals xs → Asks (unseen o) names q operation t literals xs
    asks_unseen q op.CompositeConstruct t literals xs asks = named_unseen t asks
    asks_unseen q op.CompositeExtract t literals xs asks = (along_unseen (first_of xs).shape literals asks.0, asks.1)
    asks_unseen q op.VectorShuffle t literals xs asks = named_unseen t asks
    asks_unseen q op.Copy t literals xs asks = λ on. copy_unseen t (first_of xs).shape (asks on)
    asks_unseen q operation t literals xs asks = tt

    any_unseen : (q : Op) (x : Option Operation) (t : Tree) (literals : List ℕ) (xs : List Argument) → AsksIfAny W names q x t literals xs → AsksIfAny (unseen o) names q x t literals xs
    any_unseen q None t literals xs asks = tt
    any_unseen q (Some operation) t literals xs asks = asks_unseen q operation t literals xs asks

    module _ (w : Scope) (IsUsable : ℕ → Type 0) (block : ℕ) where
      -- what is left of an operation
      abbrev pub IsLeftOf : Inst → OperationKind → Type 0
      IsLeftOf i kind.Undef = UsesExpr (unseen o) (zero_at w.setting.source w.names i.ty)
      IsLeftOf i kind.ArrayLength = UsesExpr (unseen o) (length_text w block i)
      IsLeftOf i kind.Other = (unseen o).value (w.setting.key (Id (id i.result)))
      IsLeftOf i _ = Unit {0}

      of_unseen : (number : ℕ) (i : Inst) (args : List ℕ) → AsksOf W names w IsUsable number i args → AsksOf (unseen o) names w IsUsable number i args
      of_unseen number i args asks value =
          any_unseen i.op (operation_of i.op (number ∷ [])) (basic (scope.globals w) i.ty) (literal_words i.op args) (map operand (map (argument w value) (value_words i.op args))) (asks value)

      -- The laws.
      pub kind_unseen : (i : Inst) (k : OperationKind) → MeetsKind W names w IsUsable block i k → IsLeftOf i k → MeetsKind (unseen o) names w IsUsable block i k
      kind_unseen i kind.Undef meets left = left
      kind_unseen i kind.CopyObject meets left = meets
      kind_unseen i kind.ArrayLength meets left = left
      kind_unseen i kind.CompositeExtract meets left = (meets.0, parts_unseen w.setting (scope.type_of w (slice_index i.args 0)) (drop 1 i.args) meets.1)
      kind_unseen i kind.CompositeConstruct meets left = (type_unseen (type_at w.setting.source w.names i.ty) meets.0, meets.1)
      kind_unseen i kind.CopyLogical meets left = (meets.0, λ value. any_unseen i.op (operation_of i.op (0 ∷ [])) (shape_at w.setting.source i.ty) [] (map operand (whole_argument w value (slice_index i.args 0) ∷ [])) (meets.1 value))
      kind_unseen i kind.Extended meets left = (meets.0, of_unseen (slice_index i.args 1) i (drop 2 i.args) meets.1)
      kind_unseen i kind.Plain meets left = (meets.0, of_unseen 0 i i.args meets.1)
      kind_unseen i kind.Other meets left = left

      pub set_unseen : (i : Inst) (form : Form) → AsksSet W names w IsUsable block i form → (unseen o).value (w.setting.key (Id (id i.result))) → AsksSet (unseen o) names w IsUsable block i form
      set_unseen i Local asks named = (type_unseen (type_at w.setting.source w.names i.ty) asks.0, named)
      set_unseen i Hoisted asks named = named
      set_unseen i form asks named = tt
