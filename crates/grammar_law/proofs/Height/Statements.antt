-- The statements of a block are at most 743 high.
use Rattle.std.proofs.Common.{◌≡◌, ◌≤◌, ◌+◌, ◌==◌, ℕ, zero, suc, Bool, true, false, List, [], ◌∷◌, Option, Some, None, drop, refl, sym, subst, inl, inr, arith, is_some, if◌then◌else◌, bit_and}
use Rattle.std.specs.Prelude.{flat_map, slice_get, slice_index, codes}
use Rattle.std.specs.Option.{option_map_or}
use Rattle.spv_ops.specs.declared.AtomicOp.{AtomicOp}
use Rattle.spv_ops.specs.declared.AtomicOp.TheVariants as atomic
use Rattle.spv_module.specs.Lists.{id}
use Rattle.spv_module.specs.declared.inst.Inst.{Inst}
use Rattle.spv_module.specs.declared.inst.Block.{Block}
use Rattle.spv_index.specs.Locals.{insts_of}
use Rattle.profile_rules.specs.MemoryRules.{pointee_of}
use Rattle.list_law.proofs.Numbers.{le_on}
use Rattle.plan_law.specs.InOrder.{IsAmong}
use Rattle.plan_law.proofs.Order.{among_left, among_right}
use Rattle.name_alloc.specs.declared.claims.Key.TheVariants.{Id}
use Rattle.hoist_plan.specs.declared.form.Form.{Form}
use Rattle.hoist_plan.specs.declared.form.Form.TheVariants.{Gone, Forwarded, Local, Hoisted}
use Rattle.glsl_ast.specs.Tree as text
use Rattle.glsl_ast.specs.Tree.{Text, Expr, exprs_in, Stmt, assign, LStep, lvalue}
use Rattle.glsl_ast.specs.Height.{highest, height, step_height, stmt_height}
use Rattle.text_rules.specs.Declarations.{type_at}
use Rattle.expr_forward.specs.declared.kinds.InstKind.{InstKind}
use Rattle.expr_forward.specs.declared.kinds.InstKind.TheVariants as kind
use Rattle.expr_forward.specs.Scope.{Scope, globals}
use Rattle.expr_forward.specs.Paths.{part_steps, place_expr}
use Rattle.expr_forward.specs.Values.{value, expression}
use Rattle.expr_forward.specs.Kinds.{kind_of}
use Rattle.expr_forward.specs.Statements.{set_by, set, call_argument, call_arguments, is_void, callee_text, call_text, word_by, atomic_name, compares, has_result, comparator, atomic_operand, atomic_arguments, atomic_text, bare_call, when_bit, memory_barrier, semantics, capture, captured_of, insert_text, is_variable_form, insert_where_named, inst_text, block_text}
use Rattle.grammar_law.specs.Shallow.{IsShallow}
use Rattle.grammar_law.proofs.Height.Lists.{append-le, map-le, exprs-le, type-le}
use Rattle.grammar_law.proofs.Height.Pointers.{index-le, parts-le, place-le, target-le}
use Rattle.grammar_law.proofs.Height.Values.{value-le, operation-of-le}
use Rattle.grammar_law.proofs.Height.Regions.{if-le}

-- an instruction of a block stands in the function
among-blocks : (blocks : List Block) (k : ℕ) (b : Block) (i : Inst) → slice_get blocks k ≡ Some b → IsAmong i b.insts → IsAmong i (flat_map (λ (c : Block). c.insts) blocks)
among-blocks [] k b i at among = cc
among-blocks (c ∷ blocks) zero b i at among = let same : c ≡ b = cc in among_left i c.insts (flat_map (λ (d : Block). d.insts) blocks) (subst (λ (d : Block). IsAmong i d.insts) (sym same) among)
among-blocks (c ∷ blocks) (suc k) b i at among = among_right i c.insts (flat_map (λ (d : Block). d.insts) blocks) (among-blocks blocks k b i at among)

flat-among-le : (g : Inst → List Stmt) (is : List Inst) (n : ℕ) → ((i : Inst) → IsAmong i is → highest stmt_height (g i) ≤ n) → highest stmt_height (flat_map g is) ≤ n
flat-among-le g [] n each = omega arith
flat-among-le g (i ∷ is) n each = append-le stmt_height (g i) (flat_map g is) n (each i (inl refl)) (flat-among-le g is n (λ j among. each j (inr among)))

-- statements that depend on a test
if-expr-le : (b : Bool) (x y : Expr) (n : ℕ) → height x ≤ n → height y ≤ n → height (if b then x else y) ≤ n
if-expr-le true x y n p q = p
if-expr-le false x y n p q = q

if-exprs-le : (b : Bool) (xs ys : List Expr) (n : ℕ) → highest height xs ≤ n → highest height ys ≤ n → highest height (if b then xs else ys) ≤ n
if-exprs-le true xs ys n p q = p
if-exprs-le false xs ys n p q = q

-- barriers
bit-le : (semantics bit : ℕ) (f : Text) → highest stmt_height (when_bit semantics bit f) ≤ 2
bit-le semantics bit f = if-le (bit_and semantics bit == 0) [] (bare_call f) 2 (omega arith) (omega arith)

memory-le : (semantics : ℕ) → highest stmt_height (memory_barrier semantics) ≤ 2
memory-le semantics = append-le stmt_height (when_bit semantics 0x40 (codes "memoryBarrierBuffer")) (when_bit semantics 0x100 (codes "memoryBarrierShared")) 2 (bit-le semantics 0x40 (codes "memoryBarrierBuffer")) (bit-le semantics 0x100 (codes "memoryBarrierShared"))

module _ (w : Scope) where
  -- a result gets a value
  set-by-le : (i : Inst) (e : Expr) (f : Form) (n : ℕ) → height e ≤ n → 2 ≤ n → highest stmt_height (set_by w i e f) ≤ n + 1
  set-by-le i e Local n p some = let one = type-le (type_at w.setting.source w.names i.ty) in omega (arith, one, p, some)
  set-by-le i e Hoisted n p some = omega (arith, p, some)
  set-by-le i e Gone n p some = omega arith
  set-by-le i e Forwarded n p some = omega arith

  set-le : (i : Inst) (e : Expr) (n : ℕ) → height e ≤ n → 2 ≤ n → highest stmt_height (set w i e) ≤ n + 1
  set-le i e n p some = set-by-le i e (w.form i.result) n p some

  call-le : (f : Text) (es : List Expr) (n : ℕ) → highest height es ≤ n → 1 ≤ n → height (Expr.call f (exprs_in es)) ≤ n + 1
  call-le f es n p some = let args = exprs-le es n p in omega (arith, args, some)

  does-le : (f : Text) (es : List Expr) (n : ℕ) → highest height es ≤ n → 1 ≤ n → highest stmt_height (Stmt.call f (exprs_in es) ∷ []) ≤ n + 1
  does-le f es n p some = let args = exprs-le es n p in omega (arith, args, some)

  word-le : (pointer n : ℕ) → height (word_by w pointer n) ≤ 1
  unfolding word_by
  word-le pointer n = omega arith

  module _ (low : IsShallow w) where
    argument-le : (block n : ℕ) → height (call_argument w block n) ≤ 702
    argument-le block n = if-expr-le (is_some (pointee_of (globals w) w.setting.function n)) (place_expr w.setting block n) (value w block n) 702 (le_on _ _ _ (place-le w low block n) (omega arith)) (value-le w low block n)

    called-le : (block : ℕ) (i : Inst) → highest stmt_height (call_text w block i) ≤ 743
    called-le block i =
        let args : highest height (call_arguments w block i) ≤ 702 = map-le height (call_argument w block) (drop 1 i.args) 702 (argument-le block) in
        if-le (is_void w i.ty) (Stmt.call (callee_text w i) (exprs_in (call_arguments w block i)) ∷ []) (set w i (Expr.call (callee_text w i) (exprs_in (call_arguments w block i)))) 743
        (le_on _ _ _ (does-le (callee_text w i) (call_arguments w block i) 702 args (omega arith)) (omega arith))
        (le_on _ _ _ (set-le i (Expr.call (callee_text w i) (exprs_in (call_arguments w block i))) 703 (call-le (callee_text w i) (call_arguments w block i) 702 args (omega arith)) (omega arith)) (omega arith))

    -- atomics
    operand-le : (block : ℕ) (i : Inst) (a : AtomicOp) → height (atomic_operand w block i a) ≤ 703
    operand-le block i atomic.Load = le_on _ _ _ (word-le (slice_index i.args 0) 0) (omega arith)
    operand-le block i atomic.IIncrement = le_on _ _ _ (word-le (slice_index i.args 0) 1) (omega arith)
    operand-le block i atomic.IDecrement = le_on _ _ _ (word-le (slice_index i.args 0) 0xFFFFFFFF) (omega arith)
    operand-le block i atomic.ISub = let zero = word-le (slice_index i.args 0) 0 in let one = value-le w low block (slice_index i.args 3) in omega (arith, zero, one)
    operand-le block i atomic.CompareExchange = le_on _ _ _ (value-le w low block (slice_index i.args 4)) (omega arith)
    operand-le block i atomic.Store = le_on _ _ _ (value-le w low block (slice_index i.args 3)) (omega arith)
    operand-le block i atomic.Exchange = le_on _ _ _ (value-le w low block (slice_index i.args 3)) (omega arith)
    operand-le block i atomic.IAdd = le_on _ _ _ (value-le w low block (slice_index i.args 3)) (omega arith)
    operand-le block i atomic.SMin = le_on _ _ _ (value-le w low block (slice_index i.args 3)) (omega arith)
    operand-le block i atomic.UMin = le_on _ _ _ (value-le w low block (slice_index i.args 3)) (omega arith)
    operand-le block i atomic.SMax = le_on _ _ _ (value-le w low block (slice_index i.args 3)) (omega arith)
    operand-le block i atomic.UMax = le_on _ _ _ (value-le w low block (slice_index i.args 3)) (omega arith)
    operand-le block i atomic.And = le_on _ _ _ (value-le w low block (slice_index i.args 3)) (omega arith)
    operand-le block i atomic.Or = le_on _ _ _ (value-le w low block (slice_index i.args 3)) (omega arith)
    operand-le block i atomic.Xor = le_on _ _ _ (value-le w low block (slice_index i.args 3)) (omega arith)

    comparator-le : (block : ℕ) (i : Inst) (a : AtomicOp) → highest height (comparator w block i a) ≤ 703
    comparator-le block i a = if-exprs-le (compares a) (value w block (slice_index i.args 5) ∷ []) [] 703 (let one = value-le w low block (slice_index i.args 5) in omega (arith, one)) (omega arith)

    arguments-le : (block : ℕ) (i : Inst) (a : AtomicOp) → highest height (atomic_arguments w block i a) ≤ 703
    arguments-le block i a =
        let place = place-le w low block (slice_index i.args 0) in
        let first = comparator-le block i a in
        let last = operand-le block i a in
        append-le height (place_expr w.setting block (slice_index i.args 0) ∷ comparator w block i a) (atomic_operand w block i a ∷ []) 703 (omega (arith, place, first)) (omega (arith, last))

    atomic-le : (block : ℕ) (i : Inst) (a : AtomicOp) → highest stmt_height (atomic_text w block i a) ≤ 743
    atomic-le block i a =
        if-le (has_result a) (set w i (Expr.call (atomic_name a) (exprs_in (atomic_arguments w block i a)))) (Stmt.call (atomic_name a) (exprs_in (atomic_arguments w block i a)) ∷ []) 743
        (le_on _ _ _ (set-le i (Expr.call (atomic_name a) (exprs_in (atomic_arguments w block i a))) 704 (call-le (atomic_name a) (atomic_arguments w block i a) 703 (arguments-le block i a) (omega arith)) (omega arith)) (omega arith))
        (le_on _ _ _ (does-le (atomic_name a) (atomic_arguments w block i a) 703 (arguments-le block i a) (omega arith)) (omega arith))

    -- chains and insertions
    capture-le : (i : Inst) (n : ℕ × ℕ) → stmt_height (capture w i n) ≤ 4
    capture-le i n = let one = index-le w low n.1 in omega (arith, one)

    insert-le : (block : ℕ) (i : Inst) (composite : ℕ) (steps : List LStep) (object : ℕ) → highest step_height steps ≤ 702 → highest stmt_height (insert_where_named w block i composite steps object) ≤ 743
    insert-le block i composite steps object low_steps =
        let one = value-le w low block object in
        if-le (is_variable_form (w.form i.result)) (insert_text w block i composite steps object) [] 743
        (append-le stmt_height (set w i (value w block composite)) (assign (lvalue (w.setting.key (Id (id i.result))) steps) (value w block object) ∷ []) 743
        (le_on _ _ _ (set-le i (value w block composite) 702 (value-le w low block composite) (omega arith)) (omega arith)) (omega (arith, one, low_steps)))
        (omega arith)

    inst-le : (block : ℕ) (i : Inst) (k : InstKind) → IsAmong i (insts_of w.setting.function) → highest stmt_height (inst_text w block i k) ≤ 743
    inst-le block i kind.Load among = le_on _ _ _ (set-le i (place_expr w.setting block (slice_index i.args 0)) 19 (place-le w low block (slice_index i.args 0)) (omega arith)) (omega arith)
    inst-le block i kind.Store among = let target = target-le w low block (slice_index i.args 0) in let one = value-le w low block (slice_index i.args 1) in omega (arith, target, one)
    inst-le block i kind.Call among = called-le block i
    inst-le block i (kind.Atomic a) among = atomic-le block i a
    inst-le block i kind.ControlBarrier among = append-le stmt_height (memory_barrier (semantics w (slice_index i.args 2))) (bare_call (codes "barrier")) 743 (le_on _ _ _ (memory-le (semantics w (slice_index i.args 2))) (omega arith)) (omega arith)
    inst-le block i kind.MemoryBarrier among = le_on _ _ _ (memory-le (semantics w (slice_index i.args 1))) (omega arith)
    inst-le block i kind.Chain among = le_on _ _ _ (map-le stmt_height (capture w i) (captured_of w i) 4 (capture-le i)) (omega arith)
    inst-le block i kind.CompositeInsert among =
        insert-le block i (slice_index i.args 1) (part_steps w.setting i.ty (drop 2 i.args)) (slice_index i.args 0) (le_on _ _ _ (parts-le w.setting i.ty (drop 2 i.args)) (omega arith))
    inst-le block i kind.VectorInsertDynamic among =
        insert-le block i (slice_index i.args 0) (text.LStep.index (value w block (slice_index i.args 2)) ∷ []) (slice_index i.args 1) (let one = value-le w low block (slice_index i.args 2) in omega (arith, one))
    inst-le block i (kind.Value o) among = set-le i (expression w (value w block) block i) 742 (operation-of-le w low block i among) (omega arith)
    inst-le block i kind.Silent among = omega arith

    pub block-le : (block : ℕ) → highest stmt_height (block_text w block) ≤ 743
    block-le block = by_block (slice_get w.setting.function.blocks block) refl
      where
        by_block : (o : Option Block) → slice_get w.setting.function.blocks block ≡ o → highest stmt_height (flat_map (λ (i : Inst). inst_text w block i (kind_of i.op)) (option_map_or (λ (b : Block). b.insts) o [])) ≤ 743
        by_block None at = omega arith
        by_block (Some b) at = flat-among-le (λ (i : Inst). inst_text w block i (kind_of i.op)) b.insts 743 (λ i among. inst-le block i (kind_of i.op) (among-blocks w.setting.function.blocks block b i at among))
