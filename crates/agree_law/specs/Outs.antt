-- What a call leaves in its caller: the values that variables and pointer parameters of the caller get, each once.
use Rattle.std.specs.Prelude.{◌≡◌, ◌≢◌, ◌⊎◌, ℕ, true, false, List, [], ◌∷◌, Option, Some}
use Rattle.spv_types.specs.Tree.{ValueTree}
use Rattle.glsl_ast.specs.Tree.{Param, param}
use Rattle.glsl_semantics.specs.Shapes.{typed}
use Rattle.glsl_semantics.specs.States.{Frame, found_in, put_in, variable}
use Rattle.glsl_semantics.specs.Expressions.{Argument}
use Rattle.glsl_semantics.specs.Run.{last_value}
use Rattle.agree_law.specs.Agree.{Naming}

abbrev pub Outs : Type 0
Outs = List (ℕ × ValueTree)

abbrev pub IsOut : ℕ → ValueTree → Outs → Type 0
IsOut n v [] = ⊥
IsOut n v (o ∷ os) = ((n ≡ o.0) × (v ≡ o.1)) ⊎ IsOut n v os

abbrev pub NotOut : ℕ → Outs → Type 0
NotOut n [] = Unit {0}
NotOut n (o ∷ os) = (n ≢ o.0) × NotOut n os

abbrev pub AreOnce : Outs → Type 0
AreOnce [] = Unit {0}
AreOnce (o ∷ os) = NotOut o.0 os × AreOnce os

module _ (m : Naming) where
  -- each is a Function variable or a pointer parameter of the caller
  abbrev pub AreLent : Outs → Type 0
  AreLent [] = Unit {0}
  AreLent (o ∷ os) = ((m.is_variable o.0 ≡ true) ⊎ (m.is_lent o.0 ≡ true)) × AreLent os

  abbrev pub puts : Outs → List Frame → List Frame
  puts [] fs = fs
  puts (o ∷ os) fs = puts os (put_in fs (m.name o.0) o.1)

  -- the `inout` parameters have these values at the end, in these braces, and their arguments are these variables
  abbrev pub AreOuts : List Frame → List Param → List Argument → Outs → Type 0
  AreOuts fs [] [] [] = Unit {0}
  AreOuts fs (param true t w ∷ ps) (a ∷ as') (o ∷ os) = (last_value (found_in fs w) ≡ Some (typed (m.shape o.0) o.1)) × ((old : Option ValueTree) × (a.0 ≡ variable (m.name o.0) [] (m.shape o.0) old)) × AreOuts fs ps as' os
  AreOuts fs (param false t w ∷ ps) (a ∷ as') os = AreOuts fs ps as' os
  AreOuts fs _ _ _ = ⊥
