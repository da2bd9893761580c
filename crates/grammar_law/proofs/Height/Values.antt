-- Expressions of values: each result that stands in the expression of another makes it at most 40 higher, and so many stand in one another at most.
use Rattle.std.proofs.Common.{◌≡◌, ◌≤◌, ◌+◌, ◌*◌, ◌==◌, ℕ, zero, suc, Bool, true, false, List, [], ◌∷◌, Option, Some, None, drop, find, length, map, refl, inl, inr, arith, unwrap_or, if◌then◌else◌}
use Rattle.std.specs.Prelude.{slice_index}
use Rattle.std.specs.Option.{option_map_or}
use Rattle.spv_module.specs.Held.{global}
use Rattle.spv_module.specs.declared.inst.Inst.{Inst}
use Rattle.spv_types.specs.Tree.{Tree, boolean, int, uint, vector, array, runtime, struct}
use Rattle.spv_types.specs.Types.{tree_at}
use Rattle.spv_index.specs.Locals.{insts_of}
use Rattle.list_law.proofs.Numbers.{le_on}
use Rattle.plan_law.specs.InOrder.{IsAmong}
use Rattle.hoist_plan.specs.declared.form.Form.{Form}
use Rattle.hoist_plan.specs.declared.form.Form.TheVariants.{Gone, Forwarded, Local, Hoisted}
use Rattle.glsl_ast.specs.Tree.{Expr, exprs_in}
use Rattle.glsl_ast.specs.Height.{height}
use Rattle.text_rules.specs.Outlines.{basic_of, basic_at, basic}
use Rattle.text_rules.specs.Declarations.{spelling, shape_at, type_at}
use Rattle.vec_lowering.specs.Depth.{depth, deepest_argument, highest_argument}
use Rattle.expr_forward.specs.declared.kinds.OperationKind.{OperationKind}
use Rattle.expr_forward.specs.declared.kinds.OperationKind.TheVariants as kind
use Rattle.expr_forward.specs.Scope.{Scope, globals, inst_at, type_of}
use Rattle.expr_forward.specs.Context.{operand}
use Rattle.expr_forward.specs.Paths.{part_steps}
use Rattle.expr_forward.specs.Kinds.{operation_kind_of}
use Rattle.expr_forward.specs.Values.{argument, value_words, literal_words, operation_text, length_text, extraction_text, construction_text, whole_argument, logical_copy_text, by_kind, expression, forwarded, by_form, value_in, deepest, value}
use Rattle.grammar_law.specs.Shallow.{IsShallow}
use Rattle.grammar_law.proofs.Height.Lists.{map-le, exprs-le, build-le, zero-le}
use Rattle.grammar_law.proofs.Height.Pointers.{further-le, parts-le, parts-length, place-le}

-- the shape of a scalar or a vector is 1 deep
flat-of : (o : Option Tree) → depth (basic_of o) ≤ 1
flat-of None = omega arith
flat-of (Some boolean) = omega arith
flat-of (Some int) = omega arith
flat-of (Some uint) = omega arith
flat-of (Some (vector e n)) = omega arith
flat-of (Some (array t l)) = omega arith
flat-of (Some (runtime t)) = omega arith
flat-of (Some (struct n ts)) = omega arith

flat-basic : (gs : List Inst) (ty : ℕ) → depth (basic gs ty) ≤ 1
flat-basic gs ty = by_global (global gs ty)
  where
    by_global : (o : Option Inst) → depth (option_map_or (basic_at gs) o uint) ≤ 1
    by_global None = omega arith
    by_global (Some g) = flat-of (tree_at gs g)

-- what is found stands in the list
found-among : (n : ℕ) (is : List Inst) (i : Inst) → find (λ (j : Inst). j.result == n) is ≡ Some i → IsAmong i is
found-among n [] i e = cc
found-among n (j ∷ is) i e = by_test (j.result == n) e (found-among n is i)
  where
    by_test : (b : Bool) → (if b then Some j else find (λ (k : Inst). k.result == n) is) ≡ Some i → (find (λ (k : Inst). k.result == n) is ≡ Some i → IsAmong i is) → IsAmong i (j ∷ is)
    by_test true e later = inl (let same : j ≡ i = cc in same)
    by_test false e later = inr (later e)

module _ (w : Scope) (low : IsShallow w) where
  -- the expression of an operation, where those of values are so high
  module _ (value : ℕ → Expr) (n : ℕ) (each : (m : ℕ) → height (value m) ≤ n) where
    arguments-flat : (ns : List ℕ) → deepest_argument (map operand (map (argument w value) ns)) ≤ 15
    arguments-flat [] = omega arith
    arguments-flat (m ∷ ns) = let one = flat-basic (globals w) (type_of w m) in let rest = arguments-flat ns in omega (arith, one, rest)

    arguments-le : (ns : List ℕ) → highest_argument (map operand (map (argument w value) ns)) ≤ n
    arguments-le [] = omega arith
    arguments-le (m ∷ ns) = let one = each m in let rest = arguments-le ns in omega (arith, one, rest)

    operation-le : (number : ℕ) (i : Inst) (args : List ℕ) → height (operation_text w value number i args) ≤ n + 40
    operation-le number i args =
        let flat = flat-basic (globals w) i.ty in
        let high = arguments-le (value_words i.op args) in
        le_on _ _ _ (low.lowered i.op number (basic (globals w) i.ty) (map (argument w value) (value_words i.op args)) (literal_words i.op args) (omega (arith, flat)) (arguments-flat (value_words i.op args))) (omega (arith, high))

    copy-le : (i : Inst) → height (logical_copy_text w value i) ≤ n + 40
    copy-le i =
        let one = each (slice_index i.args 0) in
        let deep = low.shapes (type_of w (slice_index i.args 0)) in
        le_on _ _ _ (low.lowered i.op 0 (shape_at w.setting.source i.ty) (whole_argument w value (slice_index i.args 0) ∷ []) [] (low.shapes i.ty) (omega (arith, deep))) (omega (arith, one))

    extraction-le : (i : Inst) → 3 ≤ n → length (drop 1 i.args) ≤ 16 → height (extraction_text w value i) ≤ n + 40
    extraction-le i some few =
        let ty : ℕ = type_of w (slice_index i.args 0) in
        let steps = parts-le w.setting ty (drop 1 i.args) in
        let same = parts-length w.setting ty (drop 1 i.args) in
        le_on _ _ _ (further-le (value (slice_index i.args 0)) (part_steps w.setting ty (drop 1 i.args)) n (each (slice_index i.args 0)) (omega (arith, steps, some))) (omega (arith, few, same))

    construction-le : (i : Inst) → 2 ≤ n → height (construction_text w value i) ≤ n + 1
    construction-le i some = build-le (type_at w.setting.source w.names i.ty) (exprs_in (map value i.args)) n some (exprs-le (map value i.args) n (map-le height value i.args n each))

    length-le : (block : ℕ) (i : Inst) → height (length_text w block i) ≤ 22
    length-le block i = let place = place-le w low block (slice_index i.args 0) in omega (arith, place)

    pub by_kind-le : (block : ℕ) (i : Inst) (k : OperationKind) → 22 ≤ n → IsAmong i (insts_of w.setting.function) → operation_kind_of i.op ≡ k → height (by_kind w value block i k) ≤ n + 40
    by_kind-le block i kind.Undef some among is = let zero = zero-le (spelling w.setting.source w.names.id) (shape_at w.setting.source i.ty) in let deep = low.shapes i.ty in omega (arith, zero, deep, some)
    by_kind-le block i kind.CopyObject some among is = let one = each (slice_index i.args 0) in omega (arith, one)
    by_kind-le block i kind.ArrayLength some among is = let one = length-le block i in omega (arith, one, some)
    by_kind-le block i kind.CompositeExtract some among is = extraction-le i (omega (arith, some)) (low.extracted i among is)
    by_kind-le block i kind.CompositeConstruct some among is = le_on _ _ _ (construction-le i (omega (arith, some))) (omega arith)
    by_kind-le block i kind.CopyLogical some among is = copy-le i
    by_kind-le block i kind.Extended some among is = operation-le (slice_index i.args 1) i (drop 2 i.args)
    by_kind-le block i kind.Plain some among is = operation-le 0 i i.args
    by_kind-le block i kind.Other some among is = omega (arith, some)

    pub expression-le : (block : ℕ) (i : Inst) → 22 ≤ n → IsAmong i (insts_of w.setting.function) → height (expression w value block i) ≤ n + 40
    expression-le block i some among = by_kind-le block i (operation_kind_of i.op) some among refl

    form-le : (block m : ℕ) (f : Form) → 22 ≤ n → height (by_form w value block m f) ≤ n + 40
    form-le block m Forwarded some = by_inst (inst_at w m) refl
      where
        by_inst : (o : Option Inst) → inst_at w m ≡ o → height (forwarded w value block m o) ≤ n + 40
        by_inst None is = omega (arith, some)
        by_inst (Some i) is = expression-le block i some (found-among m (insts_of w.setting.function) i is)
    form-le block m Gone some = omega (arith, some)
    form-le block m Local some = omega (arith, some)
    form-le block m Hoisted some = omega (arith, some)

  read-le : (n : ℕ) (o : Option Expr) (e : Expr) → ((x : Expr) → o ≡ Some x → height x ≤ 3) → 3 ≤ n → height e ≤ n → height (unwrap_or o e) ≤ n
  read-le n None e each some p = p
  read-le n (Some x) e each some p = let one = each x refl in omega (arith, one, some)

  pub value_in-le : (block deep n : ℕ) → height (value_in w block deep n) ≤ 22 + deep * 40
  unfolding value_in
  value_in-le block zero n = omega arith
  value_in-le block (suc deep) n =
      read-le (22 + suc deep * 40) (w.setting.global n) (by_form w (value_in w block deep) block n (w.form n)) (low.constants n) (omega arith)
      (le_on _ _ _ (form-le (value_in w block deep) (22 + deep * 40) (value_in-le block deep) block n (w.form n) (omega arith)) (omega arith))

  -- a value is at most 702 high, and an operation on values 742
  pub value-le : (block n : ℕ) → height (value w block n) ≤ 702
  value-le block n = value_in-le block deepest n

  pub operation-of-le : (block : ℕ) (i : Inst) → IsAmong i (insts_of w.setting.function) → height (expression w (value w block) block i) ≤ 742
  operation-of-le block i among = expression-le (value w block) 702 (value-le block) block i (omega arith) among
