-- The answers that events took.
use Rattle.std.specs.Prelude.{ℕ, List, [], ◌∷◌, ◌++◌}
use Rattle.traces.specs.Events.{Event}
use Rattle.dispatch_semantics.specs.Store.{answers_of}

abbrev pub answers_in : List Event → List (List ℕ)
answers_in [] = []
answers_in (e ∷ es) = answers_of e ++ answers_in es
