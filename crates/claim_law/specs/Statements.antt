-- Which names stand in statements, and which the instructions of a block ask for.
use Rattle.std.specs.Prelude.{◌≡◌, ◌≤◌, ℕ, Bool, true, false, List, [], ◌∷◌, drop, length, Option, Some, None, is_some, slice_index}
use Rattle.spv_module.specs.Lists.{id}
use Rattle.spv_module.specs.declared.inst.Inst.{Inst}
use Rattle.spv_ops.specs.declared.AtomicOp.{AtomicOp}
use Rattle.spv_ops.specs.declared.AtomicOp.TheVariants as atomic
use Rattle.profile_rules.specs.MemoryRules.{pointee_of}
use Rattle.hoist_plan.specs.declared.form.Form.{Form}
use Rattle.hoist_plan.specs.declared.form.Form.TheVariants.{Local, Hoisted}
use Rattle.name_alloc.specs.declared.claims.Key.TheVariants.{Id, Captured}
use Rattle.glsl_ast.specs.Tree as tree
use Rattle.glsl_ast.specs.Tree.{Expr, Stmt, Stmts, no_stmts, Arms, no_arms}
use Rattle.glsl_grammar.specs.Spelled.{AreSpelledLabels}
use Rattle.glsl_grammar.specs.Scopes.{has_arms}
use Rattle.vec_lowering.specs.Named.{Naming}
use Rattle.text_rules.specs.Declarations.{type_at}
use Rattle.expr_forward.specs.declared.kinds.InstKind.{InstKind}
use Rattle.expr_forward.specs.declared.kinds.InstKind.TheVariants as kind
use Rattle.expr_forward.specs.Scope.{Scope, globals}
use Rattle.expr_forward.specs.Paths.{index_expr, part_steps, place_text}
use Rattle.expr_forward.specs.Statements.{callee_text, atomic_name, captured_of, word_at_place}
use Rattle.claim_law.specs.Uses.{Words, UsesType, UsesExpr, UseExprs, UseSteps, UsesLValue}
use Rattle.claim_law.specs.Asked.{Meets}

module _ (W : Words) where
  abbrev pub UsesIfSome : Option Expr → Type 0
  UsesIfSome None = Unit {0}
  UsesIfSome (Some e) = UsesExpr W e

  -- a switch has a group, and each group a label
  abbrev mutual
    pub UsesStmt : Stmt → Type 0
    UsesStmt (tree.Stmt.declare t w o) = UsesType W t × W.value w × UsesIfSome o
    UsesStmt (tree.Stmt.assign l e) = UsesLValue W l × UsesExpr W e
    UsesStmt (tree.Stmt.call w args) = W.called w × UseExprs W args
    UsesStmt (tree.Stmt.when e a) = UsesExpr W e × UseStmts a
    UsesStmt (tree.Stmt.either e a b) = UsesExpr W e × UseStmts a × UseStmts b
    UsesStmt (tree.Stmt.loop a) = UseStmts a
    UsesStmt (tree.Stmt.switch e arms) = UsesExpr W e × (has_arms arms ≡ true) × UseArms arms
    UsesStmt tree.Stmt.leave = Unit {0}
    UsesStmt tree.Stmt.again = Unit {0}
    UsesStmt (tree.Stmt.give o) = UsesIfSome o

    pub UseStmts : Stmts → Type 0
    UseStmts no_stmts = Unit {0}
    UseStmts (tree.Stmts.stmt s ss) = UsesStmt s × UseStmts ss

    pub UseArms : Arms → Type 0
    UseArms no_arms = Unit {0}
    UseArms (tree.Arms.arm ls b r) = (1 ≤ length ls) × AreSpelledLabels ls × UseStmts b × UseArms r

  abbrev pub EachStmt : List Stmt → Type 0
  EachStmt [] = Unit {0}
  EachStmt (s ∷ ss) = UsesStmt s × EachStmt ss

  module _ (names : Naming) (w : Scope) (IsUsable : ℕ → Type 0) (block : ℕ) where
    -- a result that gets a value
    abbrev pub AsksSet : Inst → Form → Type 0
    AsksSet i Local = UsesType W (type_at w.setting.source w.names i.ty) × W.value (w.setting.key (Id (id i.result)))
    AsksSet i Hoisted = W.value (w.setting.key (Id (id i.result)))
    AsksSet i _ = Unit {0}

    -- an argument of a call: a place or a value
    abbrev pub AsksArgument : ℕ → Bool → Type 0
    AsksArgument n true = UsesLValue W (place_text w.setting block n)
    AsksArgument n false = IsUsable n

    abbrev pub AskArguments : List ℕ → Type 0
    AskArguments [] = Unit {0}
    AskArguments (n ∷ ns) = AsksArgument n (is_some (pointee_of (globals w) w.setting.function n)) × AskArguments ns

    -- indexes that are kept
    abbrev pub AskKept : Inst → List (ℕ × ℕ) → Type 0
    AskKept i [] = Unit {0}
    AskKept i (n ∷ ns) = (W.value (w.setting.key (Captured (id i.result) n.0)) × UsesExpr W (index_expr w.setting n.1)) × AskKept i ns

    -- what an atomic instruction takes
    abbrev pub AsksOperand : Inst → AtomicOp → Type 0
    AsksOperand i atomic.Load = UsesExpr W (word_at_place w i 0)
    AsksOperand i atomic.IIncrement = UsesExpr W (word_at_place w i 1)
    AsksOperand i atomic.IDecrement = UsesExpr W (word_at_place w i 0xFFFFFFFF)
    AsksOperand i atomic.ISub = UsesExpr W (word_at_place w i 0) × IsUsable (slice_index i.args 3)
    AsksOperand i atomic.CompareExchange = IsUsable (slice_index i.args 4) × IsUsable (slice_index i.args 5)
    AsksOperand i _ = IsUsable (slice_index i.args 3)

    -- what is written of an instruction is made of usable values, and of these names
    abbrev pub MeetsInst : Inst → InstKind → Type 0
    MeetsInst i kind.Load = AsksSet i (w.form i.result) × UsesLValue W (place_text w.setting block (slice_index i.args 0))
    MeetsInst i kind.Store = UsesLValue W (place_text w.setting block (slice_index i.args 0)) × IsUsable (slice_index i.args 1)
    MeetsInst i kind.Call = AsksSet i (w.form i.result) × W.called (callee_text w i) × AskArguments (drop 1 i.args)
    MeetsInst i (kind.Atomic a) = AsksSet i (w.form i.result) × W.called (atomic_name a) × UsesLValue W (place_text w.setting block (slice_index i.args 0)) × AsksOperand i a
    MeetsInst i kind.Chain = AskKept i (captured_of w i)
    MeetsInst i kind.CompositeInsert = AsksSet i (w.form i.result) × W.value (w.setting.key (Id (id i.result))) × IsUsable (slice_index i.args 1) × UseSteps W (part_steps w.setting i.ty (drop 2 i.args)) × IsUsable (slice_index i.args 0)
    MeetsInst i kind.VectorInsertDynamic = AsksSet i (w.form i.result) × W.value (w.setting.key (Id (id i.result))) × IsUsable (slice_index i.args 0) × IsUsable (slice_index i.args 2) × IsUsable (slice_index i.args 1)
    MeetsInst i (kind.Value o) = AsksSet i (w.form i.result) × Meets W names w IsUsable block i
    MeetsInst i _ = Unit {0}
