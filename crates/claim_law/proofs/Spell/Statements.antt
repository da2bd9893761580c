-- The statements of a block are made of the names that its instructions ask for.
use Rattle.std.proofs.Common.{◌≡◌, ◌==◌, ℕ, Bool, true, false, List, [], ◌∷◌, ◌++◌, codes, drop, map, is_some, bit_and, inl, inr, sym, subst, if◌then◌else◌}
use Rattle.std.specs.Prelude.{◌⊎◌, flat_map, slice_index}
use Rattle.spv_ops.specs.declared.AtomicOp.{AtomicOp}
use Rattle.spv_ops.specs.declared.AtomicOp.TheVariants as atomic
use Rattle.spv_module.specs.Lists.{id}
use Rattle.spv_module.specs.declared.inst.Inst.{Inst}
use Rattle.profile_rules.specs.MemoryRules.{pointee_of}
use Rattle.hoist_plan.specs.declared.form.Form.{Form}
use Rattle.hoist_plan.specs.declared.form.Form.TheVariants.{Gone, Forwarded, Local, Hoisted}
use Rattle.name_alloc.specs.declared.claims.Key.TheVariants.{Id}
use Rattle.glsl_ast.specs.Tree.{Expr, exprs_in, Stmt, assign, LStep, LValue, lvalue}
use Rattle.int_lowering.specs.declared.built_ins.BuiltIn.{BuiltIn}
use Rattle.int_lowering.specs.Term.{built_in_name}
use Rattle.vec_lowering.specs.Named.{Naming}
use Rattle.vec_lowering.specs.Component.{axis_name}
use Rattle.expr_forward.specs.declared.kinds.InstKind.{InstKind}
use Rattle.expr_forward.specs.declared.kinds.InstKind.TheVariants as kind
use Rattle.expr_forward.specs.Scope.{Scope, globals}
use Rattle.expr_forward.specs.Kinds.{kind_of}
use Rattle.expr_forward.specs.Paths.{part_steps, place_text, lvalue_expr, place_expr}
use Rattle.expr_forward.specs.Values.{value, expression}
use Rattle.expr_forward.specs.Statements.{set_by, set, call_argument, call_arguments, is_void, callee_text, atomic_name, has_result, comparator, atomic_operand, atomic_arguments, bare_call, when_bit, memory_barrier, semantics, capture, captured_of, insert_text, is_variable_form, insert_where_named, inst_text}
use Rattle.claim_law.specs.Ranked.{operand_ids, AreBelow}
use Rattle.claim_law.specs.Uses.{Words, UsesExpr, UseEach, UseSteps, UsesLValue}
use Rattle.claim_law.specs.Asked.{IsAsked, AreRanked}
use Rattle.claim_law.specs.Statements.{EachStmt, AsksSet, AsksArgument, AskArguments, AskKept, AsksOperand, MeetsInst}
use Rattle.claim_law.proofs.Spell.Scalars.{each-uses}
use Rattle.claim_law.proofs.Spell.Values.{further-uses, value-uses, operation-uses}

module _ (W : Words) where
  pub both-stmts : (xs ys : List Stmt) → EachStmt W xs → EachStmt W ys → EachStmt W (xs ++ ys)
  both-stmts [] ys p q = q
  both-stmts (x ∷ xs) ys p q = (p.0, both-stmts xs ys p.1 q)

  pub if-stmts : (b : Bool) (xs ys : List Stmt) → EachStmt W xs → EachStmt W ys → EachStmt W (if b then xs else ys)
  if-stmts true xs ys p q = p
  if-stmts false xs ys p q = q

  place-uses : (l : LValue) → UsesLValue W l → UsesExpr W (lvalue_expr l)
  place-uses (lvalue x ss) has = further-uses W (Expr.name x) ss has.0 has.1

  -- what instructions make of usable values
  module _ (built : (f : BuiltIn) → W.called (built_in_name f)) (axes : (k : ℕ) → W.member (axis_name k)) (names : Naming) (w : Scope) (IsUsable : ℕ → Type 0) (block : ℕ) (asked : IsAsked W names w IsUsable block) (rank : ℕ → ℕ) (ranked : AreRanked w IsUsable rank) where
    says : (n : ℕ) → IsUsable n → UsesExpr W (value w block n)
    says n usable = value-uses W built axes names w IsUsable block asked rank ranked n usable

    pub set-uses : (i : Inst) (e : Expr) (f : Form) → AsksSet W names w IsUsable block i f → UsesExpr W e → EachStmt W (set_by w i e f)
    set-uses i e Local asks has = ((asks.0, asks.1, has), tt)
    set-uses i e Hoisted asks has = (((asks, tt), has), tt)
    set-uses i e Gone asks has = tt
    set-uses i e Forwarded asks has = tt

    argument-uses : (n : ℕ) (b : Bool) → AsksArgument W names w IsUsable block n b → UsesExpr W (if b then place_expr w.setting block n else value w block n)
    argument-uses n true asks = place-uses (place_text w.setting block n) asks
    argument-uses n false asks = says n asks

    arguments-use : (ns : List ℕ) → AskArguments W names w IsUsable block ns → UseEach W (map (call_argument w block) ns)
    arguments-use [] asks = tt
    arguments-use (n ∷ ns) asks = (argument-uses n (is_some (pointee_of (globals w) w.setting.function n)) asks.0, arguments-use ns asks.1)

    pub kept-uses : (i : Inst) (ns : List (ℕ × ℕ)) → AskKept W names w IsUsable block i ns → EachStmt W (map (capture w i) ns)
    kept-uses i [] asks = tt
    kept-uses i (n ∷ ns) asks = (((asks.0.0, tt), asks.0.1), kept-uses i ns asks.1)

    operand-uses : (i : Inst) (a : AtomicOp) → AsksOperand W names w IsUsable block i a → UseEach W (comparator w block i a ++ (atomic_operand w block i a ∷ []))
    operand-uses i atomic.Load asks = (asks, tt)
    operand-uses i atomic.IIncrement asks = (asks, tt)
    operand-uses i atomic.IDecrement asks = (asks, tt)
    operand-uses i atomic.ISub asks = ((asks.0, says (slice_index i.args 3) asks.1), tt)
    operand-uses i atomic.CompareExchange asks = (says (slice_index i.args 5) asks.1, (says (slice_index i.args 4) asks.0, tt))
    operand-uses i atomic.Store asks = (says (slice_index i.args 3) asks, tt)
    operand-uses i atomic.Exchange asks = (says (slice_index i.args 3) asks, tt)
    operand-uses i atomic.IAdd asks = (says (slice_index i.args 3) asks, tt)
    operand-uses i atomic.SMin asks = (says (slice_index i.args 3) asks, tt)
    operand-uses i atomic.UMin asks = (says (slice_index i.args 3) asks, tt)
    operand-uses i atomic.SMax asks = (says (slice_index i.args 3) asks, tt)
    operand-uses i atomic.UMax asks = (says (slice_index i.args 3) asks, tt)
    operand-uses i atomic.And asks = (says (slice_index i.args 3) asks, tt)
    operand-uses i atomic.Or asks = (says (slice_index i.args 3) asks, tt)
    operand-uses i atomic.Xor asks = (says (slice_index i.args 3) asks, tt)

    atomics-use : (i : Inst) (a : AtomicOp) → UsesLValue W (place_text w.setting block (slice_index i.args 0)) → AsksOperand W names w IsUsable block i a → UseEach W (atomic_arguments w block i a)
    atomics-use i a place asks = (place-uses (place_text w.setting block (slice_index i.args 0)) place, operand-uses i a asks)

    pub inserted-use : (i : Inst) (composite : ℕ) (steps : List LStep) (object : ℕ) → AsksSet W names w IsUsable block i (w.form i.result) → W.value (w.setting.key (Id (id i.result))) → IsUsable composite → UseSteps W steps → IsUsable object → EachStmt W (insert_where_named w block i composite steps object)
    inserted-use i composite steps object asks named whole has part =
        if-stmts (is_variable_form (w.form i.result)) (insert_text w block i composite steps object) []
        (both-stmts (set w i (value w block composite)) (assign (lvalue (w.setting.key (Id (id i.result))) steps) (value w block object) ∷ []) (set-uses i (value w block composite) (w.form i.result) asks (says composite whole)) (((named, has), says object part), tt))
        tt

    -- barriers
    module _ (barriers : (W.called (codes "memoryBarrierBuffer") × W.called (codes "memoryBarrierShared")) × W.called (codes "barrier")) where
      memory-uses : (n : ℕ) → EachStmt W (memory_barrier n)
      memory-uses n =
          both-stmts (when_bit n 0x40 (codes "memoryBarrierBuffer")) (when_bit n 0x100 (codes "memoryBarrierShared"))
          (if-stmts (bit_and n 0x40 == 0) [] (bare_call (codes "memoryBarrierBuffer")) tt ((barriers.0.0, tt), tt))
          (if-stmts (bit_and n 0x100 == 0) [] (bare_call (codes "memoryBarrierShared")) tt ((barriers.0.1, tt), tt))

      -- the law: what is written of an instruction
      pub inst-uses : (i : Inst) (k : InstKind) → AreBelow rank 17 (operand_ids i) → MeetsInst W names w IsUsable block i k → EachStmt W (inst_text w block i k)
      inst-uses i kind.Load below meets = set-uses i (place_expr w.setting block (slice_index i.args 0)) (w.form i.result) meets.0 (place-uses (place_text w.setting block (slice_index i.args 0)) meets.1)
      inst-uses i kind.Store below meets = ((meets.0, says (slice_index i.args 1) meets.1), tt)
      inst-uses i kind.Call below meets =
          let args = each-uses W (call_arguments w block i) (arguments-use (drop 1 i.args) meets.2) in
          if-stmts (is_void w i.ty) (Stmt.call (callee_text w i) (exprs_in (call_arguments w block i)) ∷ []) (set w i (Expr.call (callee_text w i) (exprs_in (call_arguments w block i)))) ((meets.1, args), tt)
          (set-uses i (Expr.call (callee_text w i) (exprs_in (call_arguments w block i))) (w.form i.result) meets.0 (meets.1, args))
      inst-uses i (kind.Atomic a) below meets =
          let args = each-uses W (atomic_arguments w block i a) (atomics-use i a meets.2 meets.3) in
          if-stmts (has_result a) (set w i (Expr.call (atomic_name a) (exprs_in (atomic_arguments w block i a)))) (Stmt.call (atomic_name a) (exprs_in (atomic_arguments w block i a)) ∷ [])
          (set-uses i (Expr.call (atomic_name a) (exprs_in (atomic_arguments w block i a))) (w.form i.result) meets.0 (meets.1, args)) ((meets.1, args), tt)
      inst-uses i kind.ControlBarrier below meets = both-stmts (memory_barrier (semantics w (slice_index i.args 2))) (bare_call (codes "barrier")) (memory-uses (semantics w (slice_index i.args 2))) ((barriers.1, tt), tt)
      inst-uses i kind.MemoryBarrier below meets = memory-uses (semantics w (slice_index i.args 1))
      inst-uses i kind.Chain below meets = kept-uses i (captured_of w i) meets
      inst-uses i kind.CompositeInsert below meets = inserted-use i (slice_index i.args 1) (part_steps w.setting i.ty (drop 2 i.args)) (slice_index i.args 0) meets.0 meets.1 meets.2 meets.3 meets.4
      inst-uses i kind.VectorInsertDynamic below meets =
          inserted-use i (slice_index i.args 0) (LStep.index (value w block (slice_index i.args 2)) ∷ []) (slice_index i.args 1) meets.0 meets.1 meets.2 (says (slice_index i.args 2) meets.3, tt) meets.4
      inst-uses i (kind.Value o) below meets = set-uses i (expression w (value w block) block i) (w.form i.result) meets.0 (operation-uses W built axes names w IsUsable block asked rank ranked i below meets.1)
      inst-uses i kind.Silent below meets = tt

      -- and of a list of instructions, of some of which nothing is written
      abbrev pub MeetsOne : Inst → Type 0
      MeetsOne i = (inst_text w block i (kind_of i.op) ≡ []) ⊎ (AreBelow rank 17 (operand_ids i) × MeetsInst W names w IsUsable block i (kind_of i.op))

      abbrev pub MeetEach : List Inst → Type 0
      MeetEach [] = Unit {0}
      MeetEach (i ∷ is) = MeetsOne i × MeetEach is

      one-uses : (i : Inst) → MeetsOne i → EachStmt W (inst_text w block i (kind_of i.op))
      one-uses i (inl silent) = subst (EachStmt W) (sym silent) tt
      one-uses i (inr meets) = inst-uses i (kind_of i.op) meets.0 meets.1

      pub insts-use : (is : List Inst) → MeetEach is → EachStmt W (flat_map (λ (i : Inst). inst_text w block i (kind_of i.op)) is)
      insts-use [] meet = tt
      insts-use (i ∷ is) meet = both-stmts (inst_text w block i (kind_of i.op)) (flat_map (λ (j : Inst). inst_text w block j (kind_of j.op)) is) (one-uses i meet.0) (insts-use is meet.1)
