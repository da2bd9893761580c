-- The functions of a text, each with the function of the module of which it is the text.
use Rattle.std.specs.Prelude.{◌≡◌, ◌≢◌, ◌⊎◌, List, [], ◌∷◌, Option, Some}
use Rattle.spv_module.specs.declared.inst.Function.{Function}
use Rattle.glsl_ast.specs.Tree.{Text, TypeName, Stmt, stmts_in, Param, Decl}
use Rattle.glsl_ast.specs.Tree as tree
use Rattle.glsl_semantics.specs.Expressions.{Program}
use Rattle.glsl_semantics.specs.Run.{result_shape}
use Rattle.agree_law.specs.Agree.{Naming, AreApart}
use Rattle.function_law.specs.Passed.{AreTypedParameters, AreOnceIds}

pub record FunctionText : Type 0 where
  pub name : Text
  pub result : Option TypeName
  pub parameters : List Param
  pub statements : List Stmt
  pub function : Function
  pub naming : Naming

abbrev pub decl_of : FunctionText → Decl
decl_of t = tree.function t.result t.name t.parameters (stmts_in t.statements)

abbrev pub IsText : FunctionText → List FunctionText → Type 0
IsText t [] = ⊥
IsText t (u ∷ us) = (u ≡ t) ⊎ IsText t us

-- no two have one name
abbrev pub IsNoName : Text → List FunctionText → Type 0
IsNoName x [] = Unit {0}
IsNoName x (u ∷ us) = (u.name ≢ x) × IsNoName x us

abbrev pub AreOnceNames : List FunctionText → Type 0
AreOnceNames [] = Unit {0}
AreOnceNames (u ∷ us) = IsNoName u.name us × AreOnceNames us

-- its names are apart, and its types are those of its parameters and of its result
pub record IsFine (p : Program) (t : FunctionText) : Type 0 where
  pub apart : AreApart t.naming
  pub shape : result_shape p t.result ≡ Some t.naming.result
  pub typed : AreTypedParameters p t.naming t.function.params t.parameters
  pub once : AreOnceIds t.function.params
