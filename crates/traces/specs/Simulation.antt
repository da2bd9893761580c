-- When a machine does what statements do: step by step, whatever way control goes.
use Rattle.std.specs.Prelude.{◌≡◌, ◌⊎◌, ℕ, ◌+◌, ◌≤◌, List, ◌++◌}
use Rattle.traces.specs.Events.{Event}
use Rattle.traces.specs.Runs.{running, waiting as is_waiting, undefined, made, Move, before, exec}
use Rattle.traces.specs.Outcomes.{Outcome, normal, breaks, continues, returns, cut, waits, stuck, events_of}

-- the events are the first of these
abbrev pub IsPrefix : List Event → List Event → Type 0
IsPrefix p e = (rest : List Event) × (e ≡ p ++ rest)

module _ (C : Type 0) (step : C → Move C) where
  -- from c the machine comes to d with these events, in w steps or more
  pub record Comes (w : ℕ) (c : C) (e : List Event) (d : C) : Type 0 where
    pub by : (n : ℕ) → (j : ℕ) × (w + n ≤ j) × (exec step j c ≡ before e (exec step n d))

  -- from c the machine loses its meaning, with no more than these events
  pub record Fails (c : C) (e : List Event) : Type 0 where
    pub at : ℕ
    pub events : List Event
    pub is : exec step at c ≡ made events undefined
    pub no_more : IsPrefix events e

  -- it comes to a state of which this holds
  pub record Lands (w : ℕ) (c : C) (e : List Event) (P : C → Type 0) : Type 0 where
    pub to : C
    pub comes : Comes w c e to
    pub holds : P to

  -- N, B, A and G hold of the states of both sides where control goes on behind the statements, at a `break`, at a `continue` and at a `return`
  module _ (S R : Type 0) (N B A : C → S → Type 0) (G : C → R → S → Type 0) where
    -- in w steps or more, which turns of loops are counted by; where a loop was cut the machine ran q steps or more
    abbrev pub Does : ℕ → ℕ → C → Outcome S R → Type 0
    Does w q c (normal e s) = Lands w c e (λ d. N d s)
    Does w q c (breaks e s) = Lands 0 c e (λ d. B d s)
    Does w q c (continues e s) = Lands w c e (λ d. A d s)
    Does w q c (returns e v s) = Lands 0 c e (λ d. G d v s)
    Does w q c (cut e) = (j : ℕ) × (q ≤ j) × (exec step j c ≡ made e running)
    Does w q c (waits e) = (j : ℕ) × (exec step j c ≡ made e is_waiting)
    Does w q c (stuck e) = ⊥

    abbrev pub Follows : ℕ → ℕ → C → Outcome S R → Type 0
    Follows w q c o = Does w q c o ⊎ Fails c (events_of o)
