-- Statements of names of the grammar are spelled, and declared where structs are.
use Rattle.std.proofs.Common.{List, [], ◌∷◌, Option, Some, None}
use Rattle.glsl_ast.specs.Tree as tree
use Rattle.glsl_ast.specs.Tree.{Text, Expr, LStep, LValue, lvalue, Stmt, Stmts, no_stmts, Arms, no_arms, stmts_in}
use Rattle.glsl_grammar.specs.Spelled.{AreSpelledSteps, IsSpelledLValue, IsSpelledIfSome, IsSpelledStmt, AreSpelledStmts, AreSpelledArms}
use Rattle.glsl_grammar.specs.Scopes.{AreDeclaredSteps, IsDeclaredLValue, IsDeclaredValue, IsDeclaredStmt, AreDeclaredStmts, AreDeclaredArms}
use Rattle.claim_law.specs.Uses.{Words, UseSteps, UsesLValue, AreSpelledWords, AreDeclaredWords}
use Rattle.claim_law.specs.Statements.{UsesIfSome, UsesStmt, UseStmts, UseArms, EachStmt}
use Rattle.claim_law.proofs.Spell.Grammar.{type-spelled, expr-spelled, exprs-spelled, type-declared, expr-declared, exprs-declared}

-- the statements of a list
pub list-uses : (W : Words) (ss : List Stmt) → EachStmt W ss → UseStmts W (stmts_in ss)
list-uses W [] has = tt
list-uses W (s ∷ ss) has = (has.0, list-uses W ss has.1)

module _ (W : Words) (spelled : AreSpelledWords W) where
  steps-spelled : (ss : List LStep) → UseSteps W ss → AreSpelledSteps ss
  steps-spelled [] has = tt
  steps-spelled (LStep.member w ∷ ss) has = (spelled.member w has.0, steps-spelled ss has.1)
  steps-spelled (LStep.index e ∷ ss) has = (expr-spelled W spelled e has.0, steps-spelled ss has.1)

  target-spelled : (l : LValue) → UsesLValue W l → IsSpelledLValue l
  target-spelled (lvalue w ss) has = (spelled.value w has.0, steps-spelled ss has.1)

  given-spelled : (o : Option Expr) → UsesIfSome W o → IsSpelledIfSome o
  given-spelled None has = tt
  given-spelled (Some e) has = expr-spelled W spelled e has

  mutual
    pub stmt-spelled : (s : Stmt) → UsesStmt W s → IsSpelledStmt s
    stmt-spelled (tree.Stmt.declare t w o) has = (type-spelled W spelled t has.0, (spelled.value w has.1, given-spelled o has.2))
    stmt-spelled (tree.Stmt.assign l e) has = (target-spelled l has.0, expr-spelled W spelled e has.1)
    stmt-spelled (tree.Stmt.call w args) has = (spelled.called w has.0, exprs-spelled W spelled args has.1)
    stmt-spelled (tree.Stmt.when e a) has = (expr-spelled W spelled e has.0, stmts-spelled a has.1)
    stmt-spelled (tree.Stmt.either e a b) has = (expr-spelled W spelled e has.0, (stmts-spelled a has.1, stmts-spelled b has.2))
    stmt-spelled (tree.Stmt.loop a) has = stmts-spelled a has
    stmt-spelled (tree.Stmt.switch e arms) has = (expr-spelled W spelled e has.0, arms-spelled arms has.2)
    stmt-spelled tree.Stmt.leave has = tt
    stmt-spelled tree.Stmt.again has = tt
    stmt-spelled (tree.Stmt.give o) has = given-spelled o has

    pub stmts-spelled : (ss : Stmts) → UseStmts W ss → AreSpelledStmts ss
    stmts-spelled no_stmts has = tt
    stmts-spelled (tree.Stmts.stmt s ss) has = (stmt-spelled s has.0, stmts-spelled ss has.1)

    arms-spelled : (as' : Arms) → UseArms W as' → AreSpelledArms as'
    arms-spelled no_arms has = tt
    arms-spelled (tree.Arms.arm ls b r) has = (has.1, (stmts-spelled b has.2, arms-spelled r has.3))

module _ (W : Words) (names : List Text) (apart : AreDeclaredWords W names) where
  steps-declared : (ss : List LStep) → UseSteps W ss → AreDeclaredSteps names ss
  steps-declared [] has = tt
  steps-declared (LStep.member w ∷ ss) has = steps-declared ss has.1
  steps-declared (LStep.index e ∷ ss) has = (expr-declared W names apart e has.0, steps-declared ss has.1)

  target-declared : (l : LValue) → UsesLValue W l → IsDeclaredLValue names l
  target-declared (lvalue w ss) has = (apart.value w has.0, steps-declared ss has.1)

  given-declared : (o : Option Expr) → UsesIfSome W o → IsDeclaredValue names o
  given-declared None has = tt
  given-declared (Some e) has = expr-declared W names apart e has

  mutual
    pub stmt-declared : (s : Stmt) → UsesStmt W s → IsDeclaredStmt names s
    stmt-declared (tree.Stmt.declare t w o) has = (type-declared W names apart t has.0, given-declared o has.2)
    stmt-declared (tree.Stmt.assign l e) has = (target-declared l has.0, expr-declared W names apart e has.1)
    stmt-declared (tree.Stmt.call w args) has = (apart.called w has.0, exprs-declared W names apart args has.1)
    stmt-declared (tree.Stmt.when e a) has = (expr-declared W names apart e has.0, stmts-declared a has.1)
    stmt-declared (tree.Stmt.either e a b) has = (expr-declared W names apart e has.0, stmts-declared a has.1, stmts-declared b has.2)
    stmt-declared (tree.Stmt.loop a) has = stmts-declared a has
    stmt-declared (tree.Stmt.switch e arms) has = (expr-declared W names apart e has.0, has.1, arms-declared arms has.2)
    stmt-declared tree.Stmt.leave has = tt
    stmt-declared tree.Stmt.again has = tt
    stmt-declared (tree.Stmt.give o) has = given-declared o has

    pub stmts-declared : (ss : Stmts) → UseStmts W ss → AreDeclaredStmts names ss
    stmts-declared no_stmts has = tt
    stmts-declared (tree.Stmts.stmt s ss) has = (stmt-declared s has.0, stmts-declared ss has.1)

    arms-declared : (as' : Arms) → UseArms W as' → AreDeclaredArms names as'
    arms-declared no_arms has = tt
    arms-declared (tree.Arms.arm ls b r) has = (has.0, stmts-declared b has.2, arms-declared r has.3)
