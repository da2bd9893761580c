-- What printing does to a sink, through a page that holds the bytes which the sink was not handed yet.
use Rattle.std.specs.Prelude.{◌≡◌, ◌++◌, ℕ, List, Option, Result, OnOk}
use Rattle.std.specs.Io.KnownBytes.{Appends}
use Rattle.cc_outside.specs.Causes.{HasCauseOf, AppendsPrefix}
use Rattle.glsl_print.specs.declared.end.PrintEnd.{PrintEnd}
use Rattle.glsl_print.specs.declared.end.PrintEnd.TheVariants.{Fault, Memory}

-- a page: the bytes that the sink was not handed yet, and how the printing stands
pub record PageState : Type 0 where
  pub held : List ℕ
  pub status : Result (Unit {0}) PrintEnd

-- the sink took all of these bytes but those that are held
pub record Handed (old new : Option (List ℕ)) (held bytes : List ℕ) : Type 0 where
  pub front : List ℕ
  pub taken : Appends old new front
  pub whole : front ++ held ≡ bytes

-- since `start` these bytes were printed: while nothing ended it the sink took all but those that are held, and after
-- an end, which has a cause, it has taken the front of them
pub record Printed {K : Type 0} (written : K → Option (List ℕ)) (faults wants : K → ℕ) (start sink : K) (page : PageState) (bytes : List ℕ) : Type 0 where
  pub all : OnOk page.status (Handed (written start) (written sink) page.held bytes)
  pub front : AppendsPrefix (written start) (written sink) bytes
  pub fault : HasCauseOf Fault (faults start) (faults sink) page.status
  pub want : HasCauseOf Memory (wants start) (wants sink) page.status

-- prints these bytes behind what was printed
pub record Goes {K : Type 0} (written : K → Option (List ℕ)) (faults wants : K → ℕ) (old : K) (page : PageState) (bytes : List ℕ) (new : K) (after : PageState) : Type 0 where
  pub prints : (start : K) (before : List ℕ) → Printed written faults wants start old page before → Printed written faults wants start new after (before ++ bytes)
