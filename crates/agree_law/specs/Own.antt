-- A variable that stands in the braces of the function, and in none inside these.
use Rattle.std.specs.Prelude.{◌≡◌, false, List, [], ◌∷◌, Some}
use Rattle.glsl_ast.specs.Tree.{Text}
use Rattle.glsl_semantics.specs.States.{Variable, Frame, found, has}

abbrev pub Own : List Frame → Text → Variable → Type 0
Own [] x v = ⊥
Own (f ∷ []) x v = found f x ≡ Some v
Own (f ∷ g ∷ fs) x v = (has f x ≡ false) × Own (g ∷ fs) x v
