-- Statements one behind the others.
use Rattle.std.proofs.Common.{◌≡◌, ℕ, List, [], ◌∷◌, ◌++◌, Option, refl, sym, ap, ◌∙◌, append_assoc}
use Rattle.glsl_ast.specs.Tree.{Text, Stmt, stmts_in}
use Rattle.traces.specs.Events.{Event}
use Rattle.traces.specs.Outcomes.{normal, breaks, continues, returns, cut, waits, stuck, begun, then_do, Result}
use Rattle.traces.proofs.Moves.{begun_none}
use Rattle.glsl_semantics.specs.Shapes.{Typed}
use Rattle.glsl_semantics.specs.States.{State}
use Rattle.glsl_semantics.specs.Expressions.{Program, Argument}
use Rattle.glsl_semantics.specs.Statements.{Run, stmt_run, stmts_run}

begun_begun : (d e : List Event) (o : Run) → begun d (begun e o) ≡ begun (d ++ e) o
begun_begun d e (normal f s) = ap (λ l. normal l s) (sym (append_assoc d e f))
begun_begun d e (breaks f s) = ap (λ l. breaks l s) (sym (append_assoc d e f))
begun_begun d e (continues f s) = ap (λ l. continues l s) (sym (append_assoc d e f))
begun_begun d e (returns f v s) = ap (λ l. returns l v s) (sym (append_assoc d e f))
begun_begun d e (cut f) = ap cut (sym (append_assoc d e f))
begun_begun d e (waits f) = ap waits (sym (append_assoc d e f))
begun_begun d e (stuck f) = ap stuck (sym (append_assoc d e f))

then_begun : (d : List Event) (o : Run) (f : State → Run) → then_do (begun d o) f ≡ begun d (then_do o f)
then_begun d (normal e s) f = sym (begun_begun d e (f s))
then_begun d (breaks e s) f = refl
then_begun d (continues e s) f = refl
then_begun d (returns e v s) f = refl
then_begun d (cut e) f = refl
then_begun d (waits e) f = refl
then_begun d (stuck e) f = refl

then_then : (o : Run) (f g : State → Run) → then_do (then_do o f) g ≡ then_do o (λ s. then_do (f s) g)
then_then (normal e s) f g = then_begun e (f s) g
then_then (breaks e s) f g = refl
then_then (continues e s) f g = refl
then_then (returns e v s) f g = refl
then_then (cut e) f g = refl
then_then (waits e) f g = refl
then_then (stuck e) f g = refl

module _ (p : Program) (calls : Text → List Argument → State → Result (Option Typed × State)) (k : ℕ) where
  pub run_append : (xs ys : List Stmt) (s : State) → stmts_run p calls k (stmts_in (xs ++ ys)) s ≡ then_do (stmts_run p calls k (stmts_in xs) s) (stmts_run p calls k (stmts_in ys))
  run_append [] ys s = sym (begun_none (stmts_run p calls k (stmts_in ys) s))
  run_append (x ∷ xs) ys s =
      ap (then_do (stmt_run p calls k x s)) (λ i t. run_append xs ys t i)
      ∙ sym (then_then (stmt_run p calls k x s) (stmts_run p calls k (stmts_in xs)) (stmts_run p calls k (stmts_in ys)))

-- what holds of the state with which statements come to an end, in whichever way control goes on
abbrev pub OnOutcome : (State → Type 0) → Run → Type 0
OnOutcome I (normal e s) = I s
OnOutcome I (breaks e s) = I s
OnOutcome I (continues e s) = I s
OnOutcome I (returns e v s) = I s
OnOutcome I (cut e) = Unit {0}
OnOutcome I (waits e) = Unit {0}
OnOutcome I (stuck e) = Unit {0}
