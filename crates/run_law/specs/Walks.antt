-- What machines do from where they stand.
use Rattle.std.specs.Prelude.{ℕ, List}
use Rattle.traces.specs.Runs.{Run, Act, run_of}

-- what is done from here with these answers, in at most so many steps
abbrev pub Walk : Type 0
Walk = List (List ℕ) → ℕ → Run

abbrev pub walk_from : {C : Type 0} → (C → Act C) → C → Walk
walk_from act c answers n = run_of act c answers n
