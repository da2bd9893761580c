-- The first moment of a run: of the function of an entry point, which has no parameters and no result.
use Rattle.std.specs.Prelude.{◌≡◌, ℕ, true, [], None, Some}
use Rattle.module_semantics.specs.Setting.{Setting}
use Rattle.module_semantics.specs.State.{Conf}
use Rattle.module_semantics.specs.Accesses.{initial_private}
use Rattle.module_semantics.specs.Run.{first_state}
use Rattle.fits_law.specs.State.{ConfFits}
use Rattle.glsl_ast.specs.Tree.{Text}
use Rattle.glsl_semantics.specs.States.{Frame, found}
use Rattle.agree_law.specs.Agree.{variable_with}
use Rattle.call_law.specs.Known.{IsFunctionOf}
use Rattle.function_law.specs.Texts.{FunctionText}

-- globals: the variables of the text, as they are at the start
pub record IsFirst (s : Setting) (More : Conf → Type 0) (globals : Frame) (t : FunctionText) : Type 0 where
  pub no_parameters : t.function.params ≡ []
  pub none_written : t.parameters ≡ []
  pub no_result : t.result ≡ None
  pub gives_none : t.naming.result ≡ None
  pub of_module : IsFunctionOf t.function s.of.functions
  pub fits : ConfFits s (first_state s t.function)
  pub more : More (first_state s t.function)
  pub privates : (n : ℕ) → t.naming.is_private n ≡ true → found globals (t.naming.name n) ≡ Some (variable_with (t.naming.shape n) (initial_private s n))
  pub outside : (x : Text) → t.naming.is_outside x ≡ true → found globals x ≡ None
