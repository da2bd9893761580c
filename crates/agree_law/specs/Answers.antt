-- The machine of a module that takes answers of words alone: of another answer it has no meaning. So each value that it has is of words.
use Rattle.std.specs.Prelude.{◌≡◌, ◌^◌, ◌&&◌, nat_lt, ℕ, Bool, true, false, List, [], ◌∷◌}
use Rattle.traces.specs.Events.{Access, event_of}
use Rattle.traces.specs.Runs.{Move, go, stop, wait, wrong, told, Act, goes, asks, stops, fails, Supplied, supplied}
use Rattle.module_semantics.specs.Setting.{Setting}
use Rattle.module_semantics.specs.State.{Conf}
use Rattle.module_semantics.specs.Steps.{act}

abbrev pub are_words : List ℕ → Bool
are_words [] = true
are_words (w ∷ ws) = nat_lt w (2 ^ 32) && are_words ws

-- each answer is words
abbrev pub AreWorded : List (List ℕ) → Type 0
AreWorded [] = Unit {0}
AreWorded (a ∷ more) = (are_words a ≡ true) × AreWorded more

-- the next answer is taken, if there is one
abbrev pub told_words : Bool → Access → (List ℕ → Conf) → List ℕ → List (List ℕ) → Move (Supplied Conf)
told_words true a f words more = told (event_of a words) (f words) more
told_words false a f words more = wrong

abbrev pub answered : Access → (List ℕ → Conf) → List (List ℕ) → Move (Supplied Conf)
answered a f [] = wait
answered a f (words ∷ more) = told_words (are_words words) a f words more

abbrev pub move : Act Conf → List (List ℕ) → Move (Supplied Conf)
move (goes e c) answers = go e (supplied c answers)
move (asks a f) answers = answered a f answers
move stops answers = stop
move fails answers = wrong

abbrev pub machine : Setting → Supplied Conf → Move (Supplied Conf)
machine s c = move (act s c.at) c.answers
