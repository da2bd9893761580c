-- A call changes of its caller's variables only what its `inout` arguments stand for, whatever the function does.
use Rattle.std.proofs.Common.{◌≡◌, ℕ, true, false, List, [], ◌∷◌, Option, Some, bytes_eq}
use Rattle.glsl_ast.specs.Tree.{Text, TypeName, Stmts, Param, param, Decl}
use Rattle.glsl_ast.specs.Tree as tree
use Rattle.traces.specs.Outcomes.{Result, got, cut, waits, stuck}
use Rattle.glsl_semantics.specs.Shapes.{Typed}
use Rattle.glsl_semantics.specs.States.{Frame, State, found_in, Thing, store}
use Rattle.glsl_semantics.specs.Expressions.{Program, Argument}
use Rattle.glsl_semantics.specs.Statements.{stmts_run}
use Rattle.glsl_semantics.specs.Items.{no_calls}
use Rattle.glsl_semantics.specs.Run.{parameters, last_value, copied_out, come_back, returned, result_shape, function_run, calls_of}
use Rattle.write_law.specs.Writes.{IsWithin, AreWithin}
use Rattle.write_law.proofs.Kept.{OnGot, IsKept, on_then, on_option, on_choice, store_keeps}

anything : {A : Type 0} (g : Result A) → OnGot (λ (a : A). Unit {0}) g
anything (got e a) = tt
anything (cut e) = tt
anything (waits e) = tt
anything (stuck e) = tt

module _ (p : Program) (k : ℕ) (W : Text → Type 0) (I : ℕ → State → Type 0) (kept : IsKept W I) (outside : (w : Text) (x : Thing) → p.things w ≡ Some x → IsWithin W x) (globals : (d : ℕ) (s : State) (g : Frame) → I d s → I d (record s { globals = g })) where
  out_keeps : (frames : List Frame) (ps : List Param) (args : List Argument) → AreWithin W args → (d : ℕ) (s : State) → I d s → OnGot (I d) (copied_out frames ps args s)
  out_keeps frames [] args q d s h = h
  out_keeps frames (param true t w ∷ ps) [] q d s h = h
  out_keeps frames (param false t w ∷ ps) [] q d s h = h
  out_keeps frames (param true t w ∷ ps) (a ∷ args) q d s h =
      on_option (I d) (last_value (found_in frames w)) _ (λ v. on_then (I d) (I d) (store a.0 v s) _ (store_keeps p no_calls k W I kept outside (λ d w xs s q h. tt) a.0 v d s q.0 h) (λ z hz. out_keeps frames ps args q.1 d z hz))
  out_keeps frames (param false t w ∷ ps) (a ∷ args) q d s h = out_keeps frames ps args q.1 d s h

  returned_keeps : (ps : List Param) (args : List Argument) → AreWithin W args → (d : ℕ) (s : State) (r : Option Typed × State) → I d s → OnGot (λ (r : Option Typed × State). I d r.1) (returned s ps args r)
  returned_keeps ps args q d s r h =
      on_then (I d) (λ (r : Option Typed × State). I d r.1) (copied_out r.1.frames ps args (record r.1 { frames = s.frames })) _
      (out_keeps r.1.frames ps args q d (record r.1 { frames = s.frames }) (kept.answers d (record s { globals = r.1.globals }) r.1.answers (globals d s r.1.globals h))) (λ z hz. hz)

  function_keeps : (calls : Text → List Argument → State → Result (Option Typed × State)) (result : Option TypeName) (ps : List Param) (body : Stmts) (args : List Argument) → AreWithin W args → (d : ℕ) (s : State) → I d s → OnGot (λ (r : Option Typed × State). I d r.1) (function_run p k calls result ps body args s)
  function_keeps calls result ps body args q d s h =
      on_option (λ (r : Option Typed × State). I d r.1) (result_shape p result) _ (λ t.
      on_option (λ (r : Option Typed × State). I d r.1) (parameters p ps args) _ (λ f.
      on_then (λ (r : Option Typed × State). Unit {0}) (λ (r : Option Typed × State). I d r.1) (come_back t (stmts_run p calls k body (record s { frames = f ∷ [] }))) (returned s ps args)
      (anything _) (λ r u. returned_keeps ps args q d s r h)))

  pub calls_keep : (items : List Decl) (d : ℕ) (w : Text) (args : List Argument) (s : State) → AreWithin W args → I d s → OnGot (λ (r : Option Typed × State). I d r.1) (calls_of p k items w args s)
  calls_keep [] d w args s q h = tt
  calls_keep (Decl.function result x params body ∷ before) d w args s q h =
      on_choice (λ (r : Option Typed × State). I d r.1) (bytes_eq x w) _ _ (function_keeps (calls_of p k before) result params body args q d s h) (calls_keep before d w args s q h)
  calls_keep (Decl.struct x fields ∷ before) d w args s q h = calls_keep before d w args s q h
  calls_keep (tree.constant id t x e ∷ before) d w args s q h = calls_keep before d w args s q h
  calls_keep (tree.shared t x ∷ before) d w args s q h = calls_keep before d w args s q h
  calls_keep (tree.global t x e ∷ before) d w args s q h = calls_keep before d w args s q h
  calls_keep (tree.block place rules quals buffer x members n ∷ before) d w args s q h = calls_keep before d w args s q h
