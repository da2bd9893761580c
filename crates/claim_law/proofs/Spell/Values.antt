-- The expressions of a function's values are made of the names that they ask for.
use Rattle.std.proofs.Common.{◌≡◌, ◌<◌, ◌&&◌, ℕ, zero, suc, Bool, true, false, List, [], ◌∷◌, Option, Some, None, drop, map, nat_le, inl, inr, refl, sym, subst, arith, unwrap_or, if◌then◌else◌}
use Rattle.std.specs.Prelude.{◌⊎◌, ◌==◌, option_map, slice_index}
use Rattle.std.specs.Option.{option_map_or}
use Rattle.std.proofs.lemmas.Bool.Decides.{nat_tests}
use Rattle.std.proofs.lemmas.Option.{same_Some}
use Rattle.spv_ops.specs.declared.Op.{Op}
use Rattle.spv_module.specs.Held.{global}
use Rattle.spv_module.specs.Lists.{id}
use Rattle.spv_module.specs.declared.inst.Inst.{Inst}
use Rattle.spv_module.specs.declared.tree.Elem.{Elem}
use Rattle.spv_module.specs.declared.tree.Length.{Length}
use Rattle.spv_types.specs.declared.kind.TypeKind.{TypeKind}
use Rattle.spv_types.specs.declared.kind.TypeKind.TheVariants as kinds
use Rattle.spv_types.specs.Tree.{Tree, Trees, boolean, int, uint, vector, array, runtime, struct}
use Rattle.spv_types.specs.Types.{kind, elem_of, sized_vector, vector_tree, length_by, array_tree, all_trees, tree_by_kind, tree_before, tree_at, type_tree}
use Rattle.hoist_plan.specs.declared.form.Form.{Form}
use Rattle.hoist_plan.specs.declared.form.Form.TheVariants.{Gone, Forwarded, Local, Hoisted}
use Rattle.name_alloc.specs.declared.claims.Key.TheVariants.{Id}
use Rattle.glsl_ast.specs.Tree.{Expr, LStep}
use Rattle.int_lowering.specs.declared.built_ins.BuiltIn.{BuiltIn}
use Rattle.int_lowering.specs.Term.{built_in_name}
use Rattle.vec_lowering.specs.Named.{Naming}
use Rattle.vec_lowering.specs.Component.{axis_name}
use Rattle.vec_lowering.specs.Lowered.{lowered_vector}
use Rattle.text_rules.specs.Outlines.{basic_of, basic_at, basic}
use Rattle.text_rules.specs.Declarations.{shape_at}
use Rattle.expr_forward.specs.declared.kinds.OperationKind.{OperationKind}
use Rattle.expr_forward.specs.declared.kinds.OperationKind.TheVariants as of_kind
use Rattle.expr_forward.specs.Scope.{Scope, Argument, globals, type_of}
use Rattle.expr_forward.specs.Context.{operand}
use Rattle.expr_forward.specs.Kinds.{operation_kind_of}
use Rattle.expr_forward.specs.Paths.{further, part_steps}
use Rattle.expr_forward.specs.Values.{argument, value_words, literal_words, whole_argument, by_kind, expression, forwarded, by_form, value_in, value}
use Rattle.claim_law.specs.Ranked.{ids_by_kind, operand_ids, AreBelow, IsForwardedBy}
use Rattle.claim_law.specs.Uses.{Words, UsesExpr, UsesMeasured, UseEach, UseSteps}
use Rattle.claim_law.specs.Named.{FitsShape, AreArguments}
use Rattle.claim_law.specs.Asked.{AreUsable, MeetsKind, Meets, IsAsked, AreRanked}
use Rattle.claim_law.proofs.Spell.Scalars.{each-uses}
use Rattle.claim_law.proofs.Spell.Composites.{lowered-uses}

-- vectors have two to four components
sized-fits : (n : ℕ) (e : Elem) (a b : Bool) (t : Tree) → nat_le 2 n ≡ a → nat_le n 4 ≡ b → (if a && b then Some (vector e n) else None) ≡ Some t → FitsShape t
sized-fits n e true true t low high is = subst FitsShape (same_Some (vector e n) t is) (grind (arith, nat_tests, low, high), grind (arith, nat_tests, low, high))
sized-fits n e true false t low high is = cc
sized-fits n e false b t low high is = cc

vector-fits : (o : Option Tree) (n : ℕ) (t : Tree) → vector_tree o n ≡ Some t → FitsShape t
vector-fits None n t is = cc
vector-fits (Some u) n t is = by_elem (elem_of u) is
  where
    by_elem : (o : Option Elem) → option_map_or (sized_vector n) o None ≡ Some t → FitsShape t
    by_elem None is = cc
    by_elem (Some e) is = sized-fits n e (nat_le 2 n) (nat_le n 4) t refl refl is

kind-fits : (gs : List Inst) (f : ℕ → Option Tree) (g : Inst) (k : TypeKind) (t : Tree) → tree_by_kind gs f g k ≡ Some t → FitsShape t
kind-fits gs f g kinds.Vector t is = vector-fits (f (slice_index g.args 0)) (slice_index g.args 1) t is
kind-fits gs f g kinds.Bool t is = subst FitsShape (same_Some boolean t is) tt
kind-fits gs f g kinds.Int t is = by_width (slice_index g.args 0 == 32) (slice_index g.args 1 == 0) (slice_index g.args 1 == 1) is
  where
    by_width : (a b c : Bool) → (if a then (if b then Some uint else (if c then Some int else None)) else None) ≡ Some t → FitsShape t
    by_width true true c is = subst FitsShape (same_Some uint t is) tt
    by_width true false true is = subst FitsShape (same_Some int t is) tt
    by_width true false false is = cc
    by_width false b c is = cc
kind-fits gs f g kinds.Array t is = by_part (f (slice_index g.args 0)) (length_by (slice_index g.args 1) (global gs (slice_index g.args 1))) is
  where
    by_part : (o : Option Tree) (l : Option Length) → array_tree o l ≡ Some t → FitsShape t
    by_part None l is = cc
    by_part (Some u) None is = cc
    by_part (Some u) (Some l) is = subst FitsShape (same_Some (array u l) t is) tt
kind-fits gs f g kinds.Runtime t is = by_part (f (slice_index g.args 0)) is
  where
    by_part : (o : Option Tree) → option_map runtime o ≡ Some t → FitsShape t
    by_part None is = cc
    by_part (Some u) is = subst FitsShape (same_Some (runtime u) t is) tt
kind-fits gs f g kinds.Struct t is = by_parts (all_trees f g.args) is
  where
    by_parts : (o : Option Trees) → option_map (struct g.result) o ≡ Some t → FitsShape t
    by_parts None is = cc
    by_parts (Some ts) is = subst FitsShape (same_Some (struct g.result ts) t is) tt
kind-fits gs f g kinds.Other t is = cc

at-fits : (gs : List Inst) (g : Inst) (t : Tree) → tree_at gs g ≡ Some t → FitsShape t
at-fits gs g t is = kind-fits gs (tree_before gs g.at) g (kind g.op) t is

pub shape-fits : (gs : List Inst) (ty : ℕ) → FitsShape (unwrap_or (type_tree gs ty) uint)
shape-fits gs ty = by_global (global gs ty)
  where
    by_shape : (g : Inst) (o : Option Tree) → tree_at gs g ≡ o → FitsShape (unwrap_or o uint)
    by_shape g None is = tt
    by_shape g (Some t) is = at-fits gs g t is

    by_global : (o : Option Inst) → FitsShape (unwrap_or (option_map_or (tree_at gs) o None) uint)
    by_global None = tt
    by_global (Some g) = by_shape g (tree_at gs g) refl

pub basic-fits : (gs : List Inst) (ty : ℕ) → FitsShape (basic gs ty)
basic-fits gs ty = by_global (global gs ty)
  where
    of-shape : (o : Option Tree) → ((t : Tree) → o ≡ Some t → FitsShape t) → FitsShape (basic_of o)
    of-shape None each = tt
    of-shape (Some boolean) each = tt
    of-shape (Some int) each = tt
    of-shape (Some uint) each = tt
    of-shape (Some (vector e n)) each = each (vector e n) refl
    of-shape (Some (array t l)) each = tt
    of-shape (Some (runtime t)) each = tt
    of-shape (Some (struct n ts)) each = tt

    by_global : (o : Option Inst) → FitsShape (option_map_or (basic_at gs) o uint)
    by_global None = tt
    by_global (Some g) = of-shape (tree_at gs g) (λ t is. at-fits gs g t is)

module _ (W : Words) where
  pub further-uses : (e : Expr) (ss : List LStep) → UsesExpr W e → UseSteps W ss → UsesExpr W (further e ss)
  further-uses e [] has steps = has
  further-uses e (LStep.member m ∷ ss) has steps = further-uses (Expr.member e m) ss (has, steps.0) steps.1
  further-uses e (LStep.index i ∷ ss) has steps = further-uses (Expr.index e i) ss (has, steps.0) steps.1

  pub further-measured : (e : Expr) (ss : List LStep) → UsesMeasured W e → UseSteps W ss → UsesMeasured W (further e ss)
  further-measured e [] has steps = has
  further-measured e (LStep.member m ∷ ss) has steps = further-measured (Expr.member e m) ss (has, steps.0) steps.1
  further-measured e (LStep.index i ∷ ss) has steps = further-measured (Expr.index e i) ss (has, steps.0) steps.1

module _ (W : Words) (built : (f : BuiltIn) → W.called (built_in_name f)) (axes : (k : ℕ) → W.member (axis_name k)) where
  module _ (names : Naming) (w : Scope) (IsUsable : ℕ → Type 0) (block : ℕ) (asked : IsAsked W names w IsUsable block) (rank : ℕ → ℕ) (ranked : AreRanked w IsUsable rank) where
    low-uses : (o : Op) (number : ℕ) (t : Tree) (xs : List Argument) (literals : List ℕ) → UsesExpr W (lowered_vector names o number t literals (map operand xs)) → UsesExpr W (w.lowered o number t xs literals)
    low-uses o number t xs literals has = subst (λ (f : Op → ℕ → Tree → List Argument → List ℕ → Expr). UsesExpr W (f o number t xs literals)) (sym asked.lowered_is) has

    -- where usable values below a rank are made so
    module _ (f : ℕ → Expr) (n : ℕ) (each : (m : ℕ) → rank m < n → IsUsable m → UsesExpr W (f m)) where
      arguments-are : (ns : List ℕ) → AreBelow rank n ns → AreUsable W names w IsUsable ns → AreArguments W (map operand (map (argument w f) ns))
      arguments-are [] below usable = tt
      arguments-are (m ∷ ns) below usable = (record { of = each m below.0 usable.0; shape = basic-fits (globals w) (type_of w m); word = asked.words m }, arguments-are ns below.1 usable.1)

      values-use : (ns : List ℕ) → AreBelow rank n ns → AreUsable W names w IsUsable ns → UseEach W (map f ns)
      values-use [] below usable = tt
      values-use (m ∷ ns) below usable = (each m below.0 usable.0, values-use ns below.1 usable.1)

      kind-uses : (i : Inst) (k : OperationKind) → AreBelow rank n (ids_by_kind k i) → MeetsKind W names w IsUsable block i k → UsesExpr W (by_kind w f block i k)
      kind-uses i of_kind.Undef below meets = meets
      kind-uses i of_kind.CopyObject below meets = each (slice_index i.args 0) below.0 meets
      kind-uses i of_kind.ArrayLength below meets = meets
      kind-uses i of_kind.CompositeExtract below meets = further-uses W (f (slice_index i.args 0)) (part_steps w.setting (type_of w (slice_index i.args 0)) (drop 1 i.args)) (each (slice_index i.args 0) below.0 meets.0) meets.1
      kind-uses i of_kind.CompositeConstruct below meets = (meets.0, each-uses W (map f i.args) (values-use i.args below meets.1))
      kind-uses i of_kind.CopyLogical below meets =
          let xs : List Argument = whole_argument w f (slice_index i.args 0) ∷ [] in
          low-uses i.op 0 (shape_at w.setting.source i.ty) xs []
          (lowered-uses W built axes names i.op 0 (shape_at w.setting.source i.ty) [] (map operand xs) (shape-fits (globals w) i.ty) (record { of = each (slice_index i.args 0) below.0 meets.0; shape = shape-fits (globals w) (type_of w (slice_index i.args 0)); word = tt }, tt) (meets.1 f))
      kind-uses i of_kind.Extended below meets =
          let args : List ℕ = drop 2 i.args in
          let xs : List Argument = map (argument w f) (value_words i.op args) in
          low-uses i.op (slice_index i.args 1) (basic (globals w) i.ty) xs (literal_words i.op args)
          (lowered-uses W built axes names i.op (slice_index i.args 1) (basic (globals w) i.ty) (literal_words i.op args) (map operand xs) (basic-fits (globals w) i.ty) (arguments-are (value_words i.op args) below meets.0) (meets.1 f))
      kind-uses i of_kind.Plain below meets =
          let xs : List Argument = map (argument w f) (value_words i.op i.args) in
          low-uses i.op 0 (basic (globals w) i.ty) xs (literal_words i.op i.args)
          (lowered-uses W built axes names i.op 0 (basic (globals w) i.ty) (literal_words i.op i.args) (map operand xs) (basic-fits (globals w) i.ty) (arguments-are (value_words i.op i.args) below meets.0) (meets.1 f))
      kind-uses i of_kind.Other below meets = meets

      expression-uses : (i : Inst) → AreBelow rank n (operand_ids i) → Meets W names w IsUsable block i → UsesExpr W (expression w f block i)
      expression-uses i below meets = kind-uses i (operation_kind_of i.op) below meets

    value-in-uses : (d n : ℕ) → rank n < d → IsUsable n → UsesExpr W (value_in w block d n)
    unfolding value_in
    value-in-uses zero n less usable = absurd (omega (arith, less))
    value-in-uses (suc d) n less usable = by_global (w.setting.global n) refl (value-in-uses d)
      where
        by_inst : (i : Inst) → IsForwardedBy w n i → Meets W names w IsUsable block i → ((m : ℕ) → rank m < d → IsUsable m → UsesExpr W (value_in w block d m)) → UsesExpr W (by_form w (value_in w block d) block n (w.form n))
        by_inst i by meets each =
            subst (λ (x : Form). UsesExpr W (by_form w (value_in w block d) block n x)) (sym by.form)
            (subst (λ (o : Option Inst). UsesExpr W (forwarded w (value_in w block d) block n o)) (sym by.there)
            (expression-uses (value_in w block d) (rank n) (λ m lower own. each m (omega (arith, less, lower)) own) i (ranked.falls n i usable by) meets))

        by_name : W.value (w.setting.key (Id (id n))) → (x : Form) → (x ≡ Forwarded → ⊥) → UsesExpr W (by_form w (value_in w block d) block n x)
        by_name named Forwarded other = absurd (other refl)
        by_name named Gone other = named
        by_name named Local other = named
        by_name named Hoisted other = named

        by_way : (W.value (w.setting.key (Id (id n))) × (w.form n ≡ Forwarded → ⊥)) ⊎ ((i : Inst) × IsForwardedBy w n i × Meets W names w IsUsable block i) → ((m : ℕ) → rank m < d → IsUsable m → UsesExpr W (value_in w block d m)) → UsesExpr W (by_form w (value_in w block d) block n (w.form n))
        by_way (inl named) each = by_name named.0 (w.form n) named.1
        by_way (inr by) each = by_inst by.0 by.1 by.2 each

        by_global : (o : Option Expr) → w.setting.global n ≡ o → ((m : ℕ) → rank m < d → IsUsable m → UsesExpr W (value_in w block d m)) → UsesExpr W (unwrap_or o (by_form w (value_in w block d) block n (w.form n)))
        by_global (Some e) is each = asked.read n e usable is
        by_global None is each = by_way (asked.ways n usable is) each

    -- the law: a usable value, as it is written
    pub value-uses : (n : ℕ) → IsUsable n → UsesExpr W (value w block n)
    value-uses n usable = let low = ranked.low n in value-in-uses 17 n (omega (arith, low)) usable

    -- and an operation on usable values
    pub operation-uses : (i : Inst) → AreBelow rank 17 (operand_ids i) → Meets W names w IsUsable block i → UsesExpr W (expression w (value w block) block i)
    operation-uses i below meets = expression-uses (value w block) 17 (λ m less usable. value-uses m usable) i below meets
