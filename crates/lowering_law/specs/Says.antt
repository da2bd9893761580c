-- When an expression says a value: it comes to it, makes no event, and changes nothing.
use Rattle.std.specs.Prelude.{◌≡◌, List, [], ◌∷◌, Option}
use Rattle.glsl_ast.specs.Tree.{Text, Expr, Exprs, no_exprs, expr}
use Rattle.traces.specs.Outcomes.{Result, got}
use Rattle.glsl_semantics.specs.Shapes.{Typed}
use Rattle.glsl_semantics.specs.States.{State}
use Rattle.glsl_semantics.specs.Expressions.{Program, Argument, evaluate}

module _ (p : Program) (calls : Text → List Argument → State → Result (Option Typed × State)) (s : State) where
  abbrev pub Says : Expr → Typed → Type 0
  Says e v = evaluate p calls e s ≡ got [] (v, s)

  abbrev pub AllSay : Exprs → List Typed → Type 0
  AllSay no_exprs [] = Unit {0}
  AllSay (expr e es) (v ∷ vs) = Says e v × AllSay es vs
  AllSay _ _ = ⊥
