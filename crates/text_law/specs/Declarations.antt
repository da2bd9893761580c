-- The variables that statements declare, in whatever braces.
use Rattle.std.specs.Prelude.{ℕ, ◌+◌, ◌≡◌, Bool, List, [], ◌∷◌, ◌++◌, Option, Some, None, is_some, is_none, bytes_eq, if◌then◌else◌}
use Rattle.glsl_ast.specs.Tree.{Text, Expr, Stmt, declare, when, either, loop, switch, Stmts, no_stmts, stmt, Arms, no_arms, arm}

-- the names of those that are declared so: with a value, or without one
module _ (so : Option Expr → Bool) where
  abbrev mutual
    pub declared_by : Stmt → List Text
    declared_by (declare t x e) = if so e then x ∷ [] else []
    declared_by (when c a) = declared a
    declared_by (either c a b) = declared a ++ declared b
    declared_by (loop a) = declared a
    declared_by (switch e arms) = declared_in arms
    declared_by _ = []

    pub declared : Stmts → List Text
    declared no_stmts = []
    declared (stmt s ss) = declared_by s ++ declared ss

    pub declared_in : Arms → List Text
    declared_in no_arms = []
    declared_in (arm labels b arms) = declared b ++ declared_in arms

-- with a value, and without one
abbrev pub valued : Stmts → List Text
valued ss = declared is_some ss

abbrev pub unset : Stmts → List Text
unset ss = declared is_none ss

-- those without a value, among the declarations with which a body begins
abbrev pub opened : Stmts → List Text
opened (stmt (declare t x (Some e)) ss) = opened ss
opened (stmt (declare t x None) ss) = x ∷ opened ss
opened _ = []

-- how often a name is declared
abbrev pub occurs : Text → List Text → ℕ
occurs x [] = 0
occurs x (y ∷ ys) = (if bytes_eq x y then 1 else 0) + occurs x ys

-- the same names, each as often
abbrev pub AreSame : List Text → List Text → Type 0
AreSame xs ys = (x : Text) → occurs x xs ≡ occurs x ys
