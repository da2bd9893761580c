-- The statements of a block and the copies of an edge write no names but those of ids, kept indexes and spares.
use Rattle.std.proofs.Common.{◌≡◌, ◌==◌, ℕ, Bool, true, false, List, [], ◌∷◌, ◌++◌, codes, drop, map, bit_and, is_some, if◌then◌else◌}
use Rattle.std.specs.Prelude.{flat_map, slice_index}
use Rattle.spv_ops.specs.declared.AtomicOp.{AtomicOp}
use Rattle.spv_ops.specs.declared.AtomicOp.TheVariants as atomic
use Rattle.spv_module.specs.Lists.{id}
use Rattle.spv_module.specs.declared.inst.Inst.{Inst}
use Rattle.profile_rules.specs.MemoryRules.{pointee_of}
use Rattle.hoist_plan.specs.declared.form.Form.{Form}
use Rattle.hoist_plan.specs.declared.form.Form.TheVariants.{Gone, Forwarded, Local, Hoisted}
use Rattle.name_alloc.specs.declared.claims.Key.TheVariants.{Id}
use Rattle.phi_copies.specs.declared.moves.Src.{Src}
use Rattle.phi_copies.specs.declared.moves.Src.TheVariants.{Var as Variable, Constant}
use Rattle.phi_copies.specs.declared.moves.Move.{Move}
use Rattle.phi_copies.specs.declared.moves.Move.TheVariants.{Set, Save, Restore}
use Rattle.glsl_ast.specs.Tree.{Text, Expr, exprs_in, Stmt, assign, stmts_in, LStep, lvalue}
use Rattle.write_law.specs.Writes.{StepsWrite, StmtsWrite}
use Rattle.vec_lowering.specs.Named.{Naming}
use Rattle.vec_lowering.specs.Lowered.{lowered_vector}
use Rattle.expr_forward.specs.declared.kinds.InstKind.{InstKind}
use Rattle.expr_forward.specs.declared.kinds.InstKind.TheVariants as kind
use Rattle.expr_forward.specs.Context.{operand}
use Rattle.expr_forward.specs.Scope.{Scope, globals}
use Rattle.expr_forward.specs.Kinds.{kind_of}
use Rattle.expr_forward.specs.Paths.{part_steps, place_expr}
use Rattle.expr_forward.specs.Values.{value, expression}
use Rattle.expr_forward.specs.Statements.{set_by, set, call_argument, call_arguments, is_void, callee_text, word_by, word_at_place, atomic_name, has_result, compares, comparator, atomic_operand, atomic_arguments, bare_call, when_bit, memory_barrier, semantics, capture, captured_of, insert_text, is_variable_form, insert_where_named, inst_text, insts_at, block_text}
use Rattle.function_text.specs.Functions.{FunctionPlan, constant_text, source_expr, spare_name, move_text, copies_text}
use Rattle.safe_law.specs.Safe.{IsSafe, AreSafe, AllWrite, HasSafeNames}
use Rattle.safe_law.proofs.SafeScalars.{if_safe, roots_in, exprs_write, call_safe}
use Rattle.safe_law.proofs.SafeValues.{place_writes, place_safe, index_safe, parts_write, expression_safe, value_safe}
use Rattle.safe_law.proofs.SafeParts.{both_are}

module _ (W : Text → Type 0) where
  abbrev S : Expr → Type 0
  S = IsSafe W

  both_write : (xs ys : List Stmt) → AllWrite W xs → AllWrite W ys → AllWrite W (xs ++ ys)
  both_write [] ys p q = q
  both_write (x ∷ xs) ys p q = (p.0, both_write xs ys p.1 q)

  if_write : (b : Bool) (xs ys : List Stmt) → AllWrite W xs → AllWrite W ys → AllWrite W (if b then xs else ys)
  if_write true xs ys p q = p
  if_write false xs ys p q = q

  pub as_stmts : (xs : List Stmt) → AllWrite W xs → StmtsWrite W (stmts_in xs)
  as_stmts [] are = tt
  as_stmts (x ∷ xs) are = (are.0, as_stmts xs are.1)

  -- a call as a statement
  call_writes : (f : Text) (es : List Expr) → AreSafe W es → AllWrite W (Stmt.call f (exprs_in es) ∷ [])
  call_writes f es are = ((roots_in W es are, exprs_write W es are), tt)

  memory_writes : (n : ℕ) → AllWrite W (memory_barrier n)
  memory_writes n =
      both_write (when_bit n 0x40 (codes "memoryBarrierBuffer")) (when_bit n 0x100 (codes "memoryBarrierShared"))
      (if_write (bit_and n 0x40 == 0) [] (bare_call (codes "memoryBarrierBuffer")) tt ((tt, tt), tt))
      (if_write (bit_and n 0x100 == 0) [] (bare_call (codes "memoryBarrierShared")) tt ((tt, tt), tt))

  module _ (lowering : Naming) (w : Scope) (names : HasSafeNames W w.setting) (lowered_is : w.lowered ≡ (λ op ext t args literals. lowered_vector lowering op ext t literals (map operand args))) where
    says : (block n : ℕ) → S (value w block n)
    says block n = value_safe W lowering w names lowered_is block n

    set_writes : (i : Inst) (e : Expr) (f : Form) → S e → AllWrite W (set_by w i e f)
    set_writes i e Local has = ((names.value i.result, has.1), tt)
    set_writes i e Hoisted has = ((names.value i.result, tt, has.1), tt)
    set_writes i e Gone has = tt
    set_writes i e Forwarded has = tt

    argument_safe : (block n : ℕ) → S (call_argument w block n)
    argument_safe block n = if_safe W (is_some (pointee_of (globals w) w.setting.function n)) (place_expr w.setting block n) (value w block n) (place_safe W w.setting names block n) (says block n)

    arguments_safe : (block : ℕ) (ns : List ℕ) → AreSafe W (map (call_argument w block) ns)
    arguments_safe block [] = tt
    arguments_safe block (n ∷ ns) = (argument_safe block n, arguments_safe block ns)

    kept_write : (i : Inst) (ns : List (ℕ × ℕ)) → AllWrite W (map (capture w i) ns)
    kept_write i [] = tt
    kept_write i (n ∷ ns) = ((names.kept (id i.result) n.0, tt, (index_safe W w.setting names n.1).1), kept_write i ns)

    comparator_safe : (block : ℕ) (i : Inst) (b : Bool) → AreSafe W (if b then value w block (slice_index i.args 5) ∷ [] else [])
    comparator_safe block i true = (says block (slice_index i.args 5), tt)
    comparator_safe block i false = tt

    -- the literal of a word in the type of what a pointer points to
    word_safe : (i : Inst) (n : ℕ) → S (word_at_place w i n)
    unfolding word_by
    word_safe i n = (tt, tt)

    operand_safe : (block : ℕ) (i : Inst) (a : AtomicOp) → S (atomic_operand w block i a)
    operand_safe block i atomic.Load = word_safe i 0
    operand_safe block i atomic.IIncrement = word_safe i 1
    operand_safe block i atomic.IDecrement = word_safe i 0xFFFFFFFF
    operand_safe block i atomic.ISub = (tt, ((word_safe i 0).1, (says block (slice_index i.args 3)).1))
    operand_safe block i atomic.CompareExchange = says block (slice_index i.args 4)
    operand_safe block i atomic.Store = says block (slice_index i.args 3)
    operand_safe block i atomic.Exchange = says block (slice_index i.args 3)
    operand_safe block i atomic.IAdd = says block (slice_index i.args 3)
    operand_safe block i atomic.SMin = says block (slice_index i.args 3)
    operand_safe block i atomic.UMin = says block (slice_index i.args 3)
    operand_safe block i atomic.SMax = says block (slice_index i.args 3)
    operand_safe block i atomic.UMax = says block (slice_index i.args 3)
    operand_safe block i atomic.And = says block (slice_index i.args 3)
    operand_safe block i atomic.Or = says block (slice_index i.args 3)
    operand_safe block i atomic.Xor = says block (slice_index i.args 3)

    atomic_safe : (block : ℕ) (i : Inst) (a : AtomicOp) → AreSafe W (atomic_arguments w block i a)
    atomic_safe block i a =
        both_are W (place_expr w.setting block (slice_index i.args 0) ∷ comparator w block i a) (atomic_operand w block i a ∷ []) (place_safe W w.setting names block (slice_index i.args 0), comparator_safe block i (compares a)) (operand_safe block i a, tt)

    inserted_write : (block : ℕ) (i : Inst) (composite : ℕ) (steps : List LStep) (object : ℕ) → StepsWrite W steps → AllWrite W (insert_where_named w block i composite steps object)
    inserted_write block i composite steps object has =
        if_write (is_variable_form (w.form i.result)) (insert_text w block i composite steps object) []
        (both_write (set w i (value w block composite)) (assign (lvalue (w.setting.key (Id (id i.result))) steps) (value w block object) ∷ []) (set_writes i (value w block composite) (w.form i.result) (says block composite)) ((names.value i.result, has, (says block object).1), tt))
        tt

    inst_writes : (block : ℕ) (i : Inst) (k : InstKind) → AllWrite W (inst_text w block i k)
    inst_writes block i kind.Load = set_writes i (place_expr w.setting block (slice_index i.args 0)) (w.form i.result) (place_safe W w.setting names block (slice_index i.args 0))
    inst_writes block i kind.Store = ((names.base _, place_writes W w.setting names block (slice_index i.args 0), (says block (slice_index i.args 1)).1), tt)
    inst_writes block i kind.Call =
        if_write (is_void w i.ty) (Stmt.call (callee_text w i) (exprs_in (call_arguments w block i)) ∷ []) (set w i (Expr.call (callee_text w i) (exprs_in (call_arguments w block i))))
        (call_writes (callee_text w i) (call_arguments w block i) (arguments_safe block (drop 1 i.args)))
        (set_writes i (Expr.call (callee_text w i) (exprs_in (call_arguments w block i))) (w.form i.result) (call_safe W (callee_text w i) (call_arguments w block i) (arguments_safe block (drop 1 i.args))))
    inst_writes block i (kind.Atomic a) =
        if_write (has_result a) (set w i (Expr.call (atomic_name a) (exprs_in (atomic_arguments w block i a)))) (Stmt.call (atomic_name a) (exprs_in (atomic_arguments w block i a)) ∷ [])
        (set_writes i (Expr.call (atomic_name a) (exprs_in (atomic_arguments w block i a))) (w.form i.result) (call_safe W (atomic_name a) (atomic_arguments w block i a) (atomic_safe block i a)))
        (call_writes (atomic_name a) (atomic_arguments w block i a) (atomic_safe block i a))
    inst_writes block i kind.ControlBarrier = both_write (memory_barrier (semantics w (slice_index i.args 2))) (bare_call (codes "barrier")) (memory_writes (semantics w (slice_index i.args 2))) ((tt, tt), tt)
    inst_writes block i kind.MemoryBarrier = memory_writes (semantics w (slice_index i.args 1))
    inst_writes block i kind.Chain = kept_write i (captured_of w i)
    inst_writes block i kind.CompositeInsert = inserted_write block i (slice_index i.args 1) (part_steps w.setting i.ty (drop 2 i.args)) (slice_index i.args 0) (parts_write W w.setting names i.ty (drop 2 i.args))
    inst_writes block i kind.VectorInsertDynamic = inserted_write block i (slice_index i.args 0) (LStep.index (value w block (slice_index i.args 2)) ∷ []) (slice_index i.args 1) ((says block (slice_index i.args 2)).1, tt)
    inst_writes block i (kind.Value o) = set_writes i (expression w (value w block) block i) (w.form i.result) (expression_safe W lowering w names lowered_is (value w block) (λ n. says block n) block i)
    inst_writes block i kind.Silent = tt

    insts_write : (block : ℕ) (is : List Inst) → AllWrite W (flat_map (λ (i : Inst). inst_text w block i (kind_of i.op)) is)
    insts_write block [] = tt
    insts_write block (i ∷ is) = both_write (inst_text w block i (kind_of i.op)) (flat_map (λ (j : Inst). inst_text w block j (kind_of j.op)) is) (inst_writes block i (kind_of i.op)) (insts_write block is)

    -- the statements of a block
    pub block_writes : (block : ℕ) → AllWrite W (block_text w block)
    block_writes block = insts_write block (insts_at w block)

  -- the copies of an edge
  module _ (p : FunctionPlan) (names : HasSafeNames W p.scope.setting) (b t : ℕ) (spares : (k : ℕ) → W (spare_name p b t k)) where
    constant_safe : (n : ℕ) → S (constant_text p.scope n)
    constant_safe n = index_safe W p.scope.setting names n

    source_safe : (x : Src) → S (source_expr p.scope x)
    source_safe (Variable v) = (names.value v.0, tt)
    source_safe (Constant c) = constant_safe c.0

    move_writes : (q : Move) (rest : List Stmt) → AllWrite W rest → AllWrite W (move_text p b t q ∷ rest)
    move_writes (Set v x) rest are = ((names.value v.0, tt, (source_safe x).1), are)
    move_writes (Save k v) rest are = ((spares k, tt), are)
    move_writes (Restore v k) rest are = ((names.value v.0, tt, tt), are)

    moves_write : (qs : List Move) → AllWrite W (map (move_text p b t) qs)
    moves_write [] = tt
    moves_write (q ∷ qs) = move_writes q (map (move_text p b t) qs) (moves_write qs)

    pub copies_write : AllWrite W (copies_text p b t)
    copies_write = moves_write (p.moves b t)
