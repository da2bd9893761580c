-- What statements do (GLSL 4.60, chapter 6), where a loop may make so many turns.
use Rattle.std.specs.Prelude.{ℕ, ◌==◌, Bool, true, false, List, [], ◌∷◌, Option, Some, None}
use Rattle.spv_types.specs.Tree.{word}
use Rattle.glsl_ast.specs.Tree.{Text, Expr, Exprs, no_exprs, expr, lvalue, Stmt, declare, assign, when, either, loop, switch, leave, again, give, Stmts, no_stmts, stmt, Arms, no_arms, arm}
use Rattle.glsl_ast.specs.declared.statements.Label.{Label}
use Rattle.glsl_ast.specs.declared.statements.Label.TheVariants as label
use Rattle.traces.specs.Outcomes.{Outcome, normal, breaks, continues, returns, turns, then_do, behind_switch, Result, got, or_stuck, on_got}
use Rattle.traces.specs.Outcomes as outcome
use Rattle.traces.specs.Events.{Event}
use Rattle.glsl_semantics.specs.Shapes.{Shape, int, uint, Typed, typed, shape_of, tree_of_value, same_shape}
use Rattle.glsl_semantics.specs.States.{State, declared, pushed, popped, store}
use Rattle.glsl_semantics.specs.Expressions.{Program, type_of, literal_value, as_truth, named, user, atomic, pure, barrier, unknown, call_kind, Argument, denote, arguments, evaluate, steps}

-- a run of statements may give a value
abbrev pub Run : Type 0
Run = Outcome State (Option Typed)

-- what was declared in braces is gone behind them
abbrev pub closed : Run → Run
closed (normal e s) = normal e (popped s)
closed (breaks e s) = breaks e (popped s)
closed (continues e s) = continues e (popped s)
closed (returns e v s) = returns e v (popped s)
closed (outcome.Outcome.cut e) = outcome.Outcome.cut e
closed (outcome.Outcome.waits e) = outcome.Outcome.waits e
closed (outcome.Outcome.stuck e) = outcome.Outcome.stuck e

abbrev pub in_braces : (State → Run) → State → Run
in_braces f s = closed (f (pushed s))

-- a new variable, with a value of its type or without one
abbrev pub with_variable : Text → Shape → State → State
with_variable w t s = record s { frames = declared s.frames w (record { shape = t; value = None }) }

abbrev pub with_first_value : Text → Shape → Typed → State → State
with_first_value w t v s = record s { frames = declared s.frames w (record { shape = t; value = Some (tree_of_value v) }) }

abbrev pub declaration : Text → Shape → Typed → State → Run
declaration w t v s = elim (same_shape t (shape_of v)) [ true ↦ normal [] (with_first_value w t v s) | false ↦ outcome.Outcome.stuck [] ]

-- The labels at which a switch is entered: those of the selector's value, or the default where there is none (section 6.2). A label has the selector's type.
abbrev pub is_case : Typed → Typed → Bool
is_case (typed int (word a)) (typed int (word b)) = a == b
is_case (typed uint (word a)) (typed uint (word b)) = a == b
is_case _ _ = false

abbrev pub has_case : Typed → List Label → Bool
has_case v [] = false
has_case v (label.Case l ∷ ls) = elim (is_case v (literal_value l)) [ true ↦ true | false ↦ has_case v ls ]
has_case v (label.Default ∷ ls) = has_case v ls

abbrev pub has_default : List Label → Bool
has_default [] = false
has_default (label.Case l ∷ ls) = has_default ls
has_default (label.Default ∷ ls) = true

abbrev pub any_case : Typed → Arms → Bool
any_case v no_arms = false
any_case v (arm ls b r) = elim (has_case v ls) [ true ↦ true | false ↦ any_case v r ]

abbrev pub entered : Typed → Arms → List Label → Bool
entered v arms ls = elim (any_case v arms) [ true ↦ has_case v ls | false ↦ has_default ls ]

-- the selector is an int or a uint
abbrev pub is_selector : Typed → Bool
is_selector (typed int (word a)) = true
is_selector (typed uint (word a)) = true
is_selector _ = false

-- a barrier has no operands
abbrev pub barrier_run : Event → Exprs → State → Run
barrier_run e no_exprs s = normal (e ∷ []) s
barrier_run e (expr a es) s = outcome.Outcome.stuck []

abbrev pub truth_then : Typed → (Bool → Run) → Run
truth_then v f = on_got (or_stuck (as_truth v) (λ t. got [] t)) f

module _ (p : Program) (calls : Text → List Argument → State → Result (Option Typed × State)) (k : ℕ) where
  abbrev mutual
    pub stmt_run : Stmt → State → Run
    stmt_run (declare t w None) s = on_got (or_stuck (type_of p t) (λ shape. got [] shape)) (λ shape. normal [] (with_variable w shape s))
    stmt_run (declare t w (Some e)) s = on_got (or_stuck (type_of p t) (λ shape. got [] shape)) (λ shape. on_got (evaluate p calls e s) (λ v. declaration w shape v.0 v.1))
    stmt_run (assign (lvalue w ls) e) s = on_got (or_stuck (named p s w) (λ x. steps p calls x ls s)) (λ x. on_got (evaluate p calls e x.1) (λ v. on_got (store x.0 v.0 v.1) (λ s. normal [] s)))
    stmt_run (Stmt.call w args) s = elim (call_kind p w) [
      | user ↦ on_got (arguments p calls args s) (λ x. on_got (calls w x.0 x.1) (λ r. normal [] r.1))
      | atomic a ↦ on_got (denote p calls (Expr.call w args) s) (λ x. normal [] x.1)
      | pure f ↦ on_got (denote p calls (Expr.call w args) s) (λ x. normal [] x.1)
      | barrier e ↦ barrier_run e args s
      | unknown ↦ outcome.Outcome.stuck []
    ]
    stmt_run (when e a) s = on_got (evaluate p calls e s) (λ v. truth_then v.0 (λ t. elim t [ true ↦ in_braces (stmts_run a) v.1 | false ↦ normal [] v.1 ]))
    stmt_run (either e a b) s = on_got (evaluate p calls e s) (λ v. truth_then v.0 (λ t. elim t [ true ↦ in_braces (stmts_run a) v.1 | false ↦ in_braces (stmts_run b) v.1 ]))
    stmt_run (loop a) s = turns k (in_braces (stmts_run a)) s
    stmt_run (switch e arms) s = on_got (evaluate p calls e s) (λ v. elim (is_selector v.0) [ true ↦ behind_switch (arms_run arms (entered v.0 arms) v.1) | false ↦ outcome.Outcome.stuck [] ])
    stmt_run leave s = breaks [] s
    stmt_run again s = continues [] s
    stmt_run (give None) s = returns [] None s
    stmt_run (give (Some e)) s = on_got (evaluate p calls e s) (λ v. returns [] (Some v.0) v.1)

    pub stmts_run : Stmts → State → Run
    stmts_run no_stmts s = normal [] s
    stmts_run (stmt x r) s = then_do (stmt_run x s) (stmts_run r)

    -- the groups of a switch: those before the one that is entered are passed over
    pub arms_run : Arms → (List Label → Bool) → State → Run
    arms_run no_arms q s = normal [] s
    arms_run (arm ls b r) q s = elim (q ls) [ true ↦ then_do (in_braces (stmts_run b) s) (arms_from r) | false ↦ arms_run r q s ]

    -- from here on each group goes on into the next
    pub arms_from : Arms → State → Run
    arms_from no_arms s = normal [] s
    arms_from (arm ls b r) s = then_do (in_braces (stmts_run b) s) (arms_from r)
