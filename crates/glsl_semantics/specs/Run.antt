-- Calls of the functions of a text, and its run for one invocation.
use Rattle.std.specs.Prelude.{ℕ, bytes_eq, codes, Bool, true, false, List, [], ◌∷◌, Option, Some, None, reverse}
use Rattle.spv_types.specs.Tree.{ValueTree}
use Rattle.glsl_ast.specs.Tree.{Text, TypeName, Stmts, Param, param, Decl, TranslationUnit, translation_unit}
use Rattle.traces.specs.Events.{Event}
use Rattle.traces.specs.Invocations.{Invocation}
use Rattle.traces.specs.Outcomes.{Outcome, normal, breaks, continues, returns, Result, got, then_get, or_stuck}
use Rattle.traces.specs.Outcomes as outcome
use Rattle.traces.specs.Preservation.{TextRun, text_made, has_ended, was_cut, is_waiting, is_stuck}
use Rattle.glsl_semantics.specs.Shapes.{Shape, Typed, typed, shape_of, tree_of_value, same_shape}
use Rattle.glsl_semantics.specs.States.{Variable, Frame, State, found_in, store}
use Rattle.glsl_semantics.specs.Expressions.{Program, type_of, Argument}
use Rattle.glsl_semantics.specs.Statements.{Run, stmts_run}
use Rattle.glsl_semantics.specs.Items.{Declared, declared_by}

-- The parameters of a function with the values of the arguments, each of its type (GLSL 4.60, section 6.1.1). They stand in the same braces as the function's own variables.
abbrev pub parameter_if : Text → Argument → Option Shape → Option Frame → Option Frame
parameter_if w a (Some t) (Some f) = elim (same_shape t (shape_of a.1)) [ true ↦ Some ((w, record { shape = t; value = Some (tree_of_value a.1) }) ∷ f) | false ↦ None ]
parameter_if w a _ _ = None

abbrev pub parameters : Program → List Param → List Argument → Option Frame
parameters p [] [] = Some []
parameters p (param inout t w ∷ ps) (a ∷ as') = parameter_if w a (type_of p t) (parameters p ps as')
parameters p _ _ = None

-- a result is of the function's type; a function with a result that ends without `return` is stuck
abbrev pub is_result : Option Shape → Option Typed → Bool
is_result None None = true
is_result (Some t) (Some v) = same_shape t (shape_of v)
is_result _ _ = false

abbrev pub with_result : Bool → List Event → Option Typed → State → Result (Option Typed × State)
with_result true e v s = got e (v, s)
with_result false e v s = outcome.Result.stuck e

abbrev pub come_back : Option Shape → Run → Result (Option Typed × State)
come_back t (normal e s) = with_result (is_result t None) e None s
come_back t (breaks e s) = outcome.Result.stuck e
come_back t (continues e s) = outcome.Result.stuck e
come_back t (returns e v s) = with_result (is_result t v) e v s
come_back t (outcome.Outcome.cut e) = outcome.Result.cut e
come_back t (outcome.Outcome.waits e) = outcome.Result.waits e
come_back t (outcome.Outcome.stuck e) = outcome.Result.stuck e

-- the values that the `inout` parameters have at the end go back to their arguments, from left to right
abbrev pub typed_if : Variable → Option ValueTree → Option Typed
typed_if x None = None
typed_if x (Some v) = Some (typed x.shape v)

abbrev pub last_value : Option Variable → Option Typed
last_value None = None
last_value (Some x) = typed_if x x.value

abbrev pub copied_out : List Frame → List Param → List Argument → State → Result State
copied_out frames (param true t w ∷ ps) (a ∷ as') s = or_stuck (last_value (found_in frames w)) (λ v. then_get (store a.0 v s) (λ s. copied_out frames ps as' s))
copied_out frames (param false t w ∷ ps) (a ∷ as') s = copied_out frames ps as' s
copied_out frames _ _ s = got [] s

-- the caller's variables stand as before, but for these
abbrev pub returned : State → List Param → List Argument → Option Typed × State → Result (Option Typed × State)
returned caller ps args r = then_get (copied_out r.1.frames ps args (record r.1 { frames = caller.frames })) (λ s. got [] (r.0, s))

-- the type of the result: none of a function that is void
abbrev pub result_shape : Program → Option TypeName → Option (Option Shape)
result_shape p None = Some None
result_shape p (Some t) = some_if (type_of p t)
  where
    some_if : Option Shape → Option (Option Shape)
    some_if None = None
    some_if (Some s) = Some (Some s)

abbrev pub function_run : Program → ℕ → (Text → List Argument → State → Result (Option Typed × State)) → Option TypeName → List Param → Stmts → List Argument → State → Result (Option Typed × State)
function_run p k calls result ps body args s =
    or_stuck (result_shape p result) (λ t.
    or_stuck (parameters p ps args) (λ f.
    then_get (come_back t (stmts_run p calls k body (record s { frames = f ∷ [] }))) (returned s ps args)))

-- A call of the function with this name, among these items with the last one first: the functions that it calls stand before it.
abbrev pub calls_of : Program → ℕ → List Decl → Text → List Argument → State → Result (Option Typed × State)
calls_of p k [] w args s = outcome.Result.stuck []
calls_of p k (Decl.function result x params body ∷ before) w args s = elim (bytes_eq x w) [
  | true ↦ function_run p k (calls_of p k before) result params body args s
  | false ↦ calls_of p k before w args s
]
calls_of p k (i ∷ before) w args s = calls_of p k before w args s

abbrev pub ended_by : Result (Option Typed × State) → TextRun
ended_by (got e r) = text_made e has_ended
ended_by (outcome.Result.cut e) = text_made e was_cut
ended_by (outcome.Result.waits e) = text_made e is_waiting
ended_by (outcome.Result.stuck e) = text_made e is_stuck

abbrev pub main_run : Declared → ℕ → List Decl → List (List ℕ) → TextRun
main_run d k items answers = ended_by (calls_of d.program k (reverse items) (codes "main") [] (record { frames = []; globals = d.globals; answers = answers }))

abbrev pub run_if : Declared → ℕ → List Decl → List (List ℕ) → Bool → TextRun
run_if d k items answers true = text_made [] is_stuck
run_if d k items answers false = main_run d k items answers

-- The run of `main` in which each loop makes at most k turns: its events and how it ends, of this invocation, whose accesses take these answers in order.
abbrev pub text_run : TranslationUnit → Invocation → List (List ℕ) → ℕ → TextRun
text_run (translation_unit sizes items) inv answers k = let d : Declared = declared_by inv sizes items in run_if d k items answers d.is_stuck
