-- Values of words: each number in them is below 2 ^ 32.
use Rattle.std.specs.Prelude.{◌≡◌, ◌<◌, ◌^◌, ℕ, List, [], ◌∷◌, Option, Some}
use Rattle.spv_types.specs.Tree.{ValueTree}
use Rattle.op_semantics.specs.Fits.{IsOfWords}
use Rattle.profile_rules.specs.declared.given.Given.{Given}
use Rattle.profile_rules.specs.Constants.{word_given}
use Rattle.traces.specs.Invocations.{IsInvocation}
use Rattle.traces.specs.Runs.{Act, goes, asks, stops, fails}
use Rattle.module_semantics.specs.Setting.{Setting}
use Rattle.module_semantics.specs.State.{Held, value, Frame, Conf}

abbrev pub AllOfWords : List ValueTree → Type 0
AllOfWords [] = Unit {0}
AllOfWords (v ∷ vs) = IsOfWords v × AllOfWords vs

abbrev pub AreAllWords : List ℕ → Type 0
AreAllWords [] = Unit {0}
AreAllWords (w ∷ ws) = (w < 2 ^ 32) × AreAllWords ws

abbrev pub AreBytes : List ℕ → Type 0
AreBytes [] = Unit {0}
AreBytes (b ∷ bs) = (b < 256) × AreBytes bs

abbrev pub HoldWords : (ℕ → Option ValueTree) → Type 0
HoldWords f = (id : ℕ) (v : ValueTree) → f id ≡ Some v → IsOfWords v

-- what a run knows from the start: constants of words, and an invocation whose numbers are words
pub record IsSettingOfWords (s : Setting) : Type 0 where
  pub constants : HoldWords s.constants
  pub told : IsInvocation s.invocation

-- the values of a state are of words
abbrev pub IdsHoldWords : (ℕ → Option Held) → Type 0
IdsHoldWords ids = (id : ℕ) (v : ValueTree) → ids id ≡ Some (value v) → IsOfWords v

abbrev pub IsFrameOfWords : Frame → Type 0
IsFrameOfWords c = IdsHoldWords c.ids × HoldWords c.variables

abbrev pub AreCallsOfWords : List (Frame × ℕ) → Type 0
AreCallsOfWords [] = Unit {0}
AreCallsOfWords (b ∷ bs) = IsFrameOfWords b.0 × AreCallsOfWords bs

pub record IsStateOfWords (c : Conf) : Type 0 where
  pub top : IsFrameOfWords c.top
  pub calls : AreCallsOfWords c.below
  pub privates : HoldWords c.privates

-- what is done next leads to such states, where the answer to an access is words
abbrev pub LeadsToWords : Act Conf → Type 0
LeadsToWords (goes e c) = IsStateOfWords c
LeadsToWords (asks a f) = (words : List ℕ) → AreAllWords words → IsStateOfWords (f words)
LeadsToWords stops = Unit {0}
LeadsToWords fails = Unit {0}

-- the words that constants are overridden by
abbrev pub AreGivenWords : List (ℕ × Given) → Type 0
AreGivenWords [] = Unit {0}
AreGivenWords (p ∷ ps) = (word_given p.1 < 2 ^ 32) × AreGivenWords ps
