-- The body of a function from its begin to its end: where `for`, `switch` and `if` begin and end, and the statements that access memory, call functions of the text, or are barriers.
use Rattle.std.specs.Prelude.{◌||◌, Bool, List, [], ◌∷◌, filter, is_some}
use Rattle.glsl_ast.specs.Tree.{Text, Expr, Stmt, when, either, loop, switch, Stmts, no_stmts, stmt, Arms, no_arms, arm}
use Rattle.glsl_semantics.specs.Expressions.{atomic_function, barrier_event}
use Rattle.claim_law.specs.Told.{is_among}
use Rattle.text_law.specs.Deeds.{Deed, reads, assigns, calls, own_deeds}

-- the names with which paths to memory begin, and the names of the functions of the text
pub record Outer : Type 0 where
  pub memory : List Text
  pub functions : List Text

-- a function of GLSL that is atomic, and one that is a barrier (GLSL 4.60, sections 8.11 and 8.16)
abbrev pub is_atomic : Text → Bool
is_atomic f = is_some (atomic_function f)

abbrev pub is_barrier : Text → Bool
is_barrier f = is_some (barrier_event f)

-- it could be seen from outside
abbrev pub is_seen : Outer → Deed → Bool
is_seen o (reads x) = is_among o.memory x
is_seen o (assigns x) = is_among o.memory x
is_seen o (calls f) = is_among o.functions f || (is_atomic f || is_barrier f)

-- `for`, `switch`, `if` and the end of one of them; a statement whose own expressions do something that is seen
pub data Token : Type 0 where
  turns : Token
  chooses : Token
  tests : Expr → Token
  closes : Token
  does : List Deed → Token

abbrev pub if_any : List Deed → List Token → List Token
if_any [] ts = ts
if_any (d ∷ ds) ts = does (d ∷ ds) ∷ ts

abbrev pub own : Outer → Stmt → List Token → List Token
own o s ts = if_any (filter (is_seen o) (own_deeds s)) ts

-- a statement with what stands inside it; the tokens ts come behind
abbrev mutual
  pub walk_stmt : Outer → Stmt → List Token → List Token
  walk_stmt o (when c a) ts = own o (when c a) (tests c ∷ walk o a (closes ∷ ts))
  walk_stmt o (either c a b) ts = own o (either c a b) (tests c ∷ walk o a (walk o b (closes ∷ ts)))
  walk_stmt o (loop a) ts = turns ∷ walk o a (closes ∷ ts)
  walk_stmt o (switch c arms) ts = own o (switch c arms) (chooses ∷ walk_arms o arms (closes ∷ ts))
  walk_stmt o s ts = own o s ts

  pub walk : Outer → Stmts → List Token → List Token
  walk o no_stmts ts = ts
  walk o (stmt s ss) ts = walk_stmt o s (walk o ss ts)

  pub walk_arms : Outer → Arms → List Token → List Token
  walk_arms o no_arms ts = ts
  walk_arms o (arm labels a arms) ts = walk o a (walk_arms o arms ts)
