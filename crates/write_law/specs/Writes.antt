-- The names that statements write.
use Rattle.std.specs.Prelude.{List, [], ◌∷◌, Option, Some, None}
use Rattle.glsl_ast.specs.Tree.{Text, Expr, literal, name, build, not, flip, binary, choose, length_of, Exprs, no_exprs, expr, LStep, lvalue, Stmt, declare, assign, when, either, loop, switch, leave, again, give, Stmts, no_stmts, stmt, Arms, no_arms, arm}
use Rattle.glsl_semantics.specs.States.{Thing, variable}
use Rattle.glsl_semantics.specs.Expressions.{Argument}

-- the name at which a path begins
abbrev pub root : Expr → Option Text
root (name w) = Some w
root (Expr.member e x) = root e
root (Expr.index a i) = root a
root _ = None

-- Statements that write only names of W: those that they declare, those that they assign to, and those at which the arguments of calls begin.
module _ (W : Text → Type 0) where
  abbrev pub IsWritten : Option Text → Type 0
  IsWritten None = Unit {0}
  IsWritten (Some w) = W w

  abbrev pub RootsIn : Exprs → Type 0
  RootsIn no_exprs = Unit {0}
  RootsIn (expr e es) = IsWritten (root e) × RootsIn es

  abbrev mutual
    pub ExprWrites : Expr → Type 0
    ExprWrites (literal l) = Unit {0}
    ExprWrites (name w) = Unit {0}
    ExprWrites (build t args) = ExprsWrite args
    ExprWrites (Expr.call w args) = RootsIn args × ExprsWrite args
    ExprWrites (not e) = ExprWrites e
    ExprWrites (flip e) = ExprWrites e
    ExprWrites (binary o a b) = ExprWrites a × ExprWrites b
    ExprWrites (choose c a b) = ExprWrites c × ExprWrites a × ExprWrites b
    ExprWrites (Expr.member e x) = ExprWrites e
    ExprWrites (Expr.index a i) = ExprWrites a × ExprWrites i
    ExprWrites (length_of e) = ExprWrites e

    pub ExprsWrite : Exprs → Type 0
    ExprsWrite no_exprs = Unit {0}
    ExprsWrite (expr e es) = ExprWrites e × ExprsWrite es

  abbrev pub StepsWrite : List LStep → Type 0
  StepsWrite [] = Unit {0}
  StepsWrite (LStep.member w ∷ r) = StepsWrite r
  StepsWrite (LStep.index e ∷ r) = ExprWrites e × StepsWrite r

  abbrev mutual
    pub StmtWrites : Stmt → Type 0
    StmtWrites (declare t w None) = W w
    StmtWrites (declare t w (Some e)) = W w × ExprWrites e
    StmtWrites (assign (lvalue w ls) e) = W w × StepsWrite ls × ExprWrites e
    StmtWrites (Stmt.call w args) = RootsIn args × ExprsWrite args
    StmtWrites (when e a) = ExprWrites e × StmtsWrite a
    StmtWrites (either e a b) = ExprWrites e × StmtsWrite a × StmtsWrite b
    StmtWrites (loop a) = StmtsWrite a
    StmtWrites (switch e arms) = ExprWrites e × ArmsWrite arms
    StmtWrites leave = Unit {0}
    StmtWrites again = Unit {0}
    StmtWrites (give None) = Unit {0}
    StmtWrites (give (Some e)) = ExprWrites e

    pub StmtsWrite : Stmts → Type 0
    StmtsWrite no_stmts = Unit {0}
    StmtsWrite (stmt x r) = StmtWrites x × StmtsWrite r

    pub ArmsWrite : Arms → Type 0
    ArmsWrite no_arms = Unit {0}
    ArmsWrite (arm ls b r) = StmtsWrite b × ArmsWrite r

  -- a thing that is a variable, or a part of one, of such a name
  abbrev pub IsWithin : Thing → Type 0
  IsWithin (variable w path t v) = W w
  IsWithin _ = Unit {0}

  abbrev pub AreWithin : List Argument → Type 0
  AreWithin [] = Unit {0}
  AreWithin (a ∷ as') = IsWithin a.0 × AreWithin as'
