-- Shapes of operands by the number of their components.
use Rattle.std.specs.Prelude.{◌≡◌, ℕ, ◌==◌, List, [], ◌∷◌, Option, Some, None, if◌then◌else◌}
use Rattle.spv_types.specs.Tree.{Tree, ValueTree, word}
use Rattle.spv_module.specs.Held.{global}
use Rattle.spv_module.specs.declared.inst.Inst.{Inst}
use Rattle.profile_rules.specs.TypeRows.{constant_word}
use Rattle.profile_rules.specs.Constants.{constant_value}
use Rattle.module_semantics.specs.Setting.{Setting}
use Rattle.fits_law.specs.Takes.{Sort, Has}

-- a scalar counts as one, and a vector as its components
abbrev pub size_by : ℕ → Option ℕ
size_by n = if n == 1 then None else Some n

-- each is a scalar of this sort, or a vector of so many
abbrev pub AllHave : Sort → Option ℕ → List Tree → Type 0
AllHave k n [] = Unit {0}
AllHave k n (t ∷ ts) = Has k n t × AllHave k n ts

-- each OpConstant has its word
abbrev pub AreConstants : Setting → Type 0
AreConstants s = (id w : ℕ) (v : ValueTree) → constant_word s.of.globals id ≡ Some w → s.constants id ≡ Some v → v ≡ word w

-- each global is the one with its result, and none has the result 0
abbrev pub EachFound : List Inst → List Inst → Type 0
EachFound gs [] = Unit {0}
EachFound gs (i ∷ is) = (global gs i.result ≡ Some i) × EachFound gs is

pub record HaveResults (gs : List Inst) : Type 0 where
  pub each : EachFound gs gs
  pub none : global gs 0 ≡ None

-- the constants have the values that the module gives them, from these words
abbrev pub HasConstants : Setting → (ℕ → Option ℕ) → Type 0
HasConstants s chosen = (id : ℕ) → s.constants id ≡ constant_value s.of chosen id
