-- What the expressions of a statement do that could be seen from outside of a function, in the order of the text; the statements inside it are not its own (GLSL 4.60, chapters 5 and 6).
use Rattle.std.specs.Prelude.{Bool, true, false, List, [], ◌∷◌, ◌++◌, Option, Some, None}
use Rattle.glsl_ast.specs.Tree.{Text, Expr, literal, name, build, not, flip, binary, choose, length_of, Exprs, no_exprs, expr, LStep, LValue, lvalue, Stmt, declare, assign, when, either, loop, switch, leave, again, give}

-- a path that begins with this name is read, or assigned to; the function is called
pub data Deed : Type 0 where
  reads : Text → Deed
  assigns : Text → Deed
  calls : Text → Deed

-- of an expression, which is read or is what `length()` is asked of: that reads no path
abbrev mutual
  pub deeds : Bool → Expr → List Deed
  deeds read (literal l) = []
  deeds true (name x) = reads x ∷ []
  deeds false (name x) = []
  deeds read (build t args) = deeds_of args
  deeds read (Expr.call f args) = calls f ∷ deeds_of args
  deeds read (not e) = deeds true e
  deeds read (flip e) = deeds true e
  deeds read (binary o a b) = deeds true a ++ deeds true b
  deeds read (choose c a b) = deeds true c ++ (deeds true a ++ deeds true b)
  deeds read (Expr.member e x) = deeds read e
  deeds read (Expr.index a i) = deeds read a ++ deeds true i
  deeds read (length_of e) = deeds false e

  pub deeds_of : Exprs → List Deed
  deeds_of no_exprs = []
  deeds_of (expr e es) = deeds true e ++ deeds_of es

abbrev pub deeds_if : Option Expr → List Deed
deeds_if None = []
deeds_if (Some e) = deeds true e

abbrev pub step_deeds : List LStep → List Deed
step_deeds [] = []
step_deeds (LStep.member x ∷ steps) = step_deeds steps
step_deeds (LStep.index i ∷ steps) = deeds true i ++ step_deeds steps

abbrev pub place_deeds : LValue → List Deed
place_deeds (lvalue x steps) = assigns x ∷ step_deeds steps

-- a declaration does not assign the name that it declares
abbrev pub own_deeds : Stmt → List Deed
own_deeds (declare t x e) = deeds_if e
own_deeds (assign place e) = place_deeds place ++ deeds true e
own_deeds (Stmt.call f args) = calls f ∷ deeds_of args
own_deeds (when c a) = deeds true c
own_deeds (either c a b) = deeds true c
own_deeds (loop a) = []
own_deeds (switch c arms) = deeds true c
own_deeds leave = []
own_deeds again = []
own_deeds (give e) = deeds_if e
