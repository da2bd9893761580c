-- What calls that write did to a sink.
use Rattle.std.specs.Prelude.{◌≡◌, Ok, Err, ℕ, List, Option, Result, OnOk}
use Rattle.std.specs.Io.KnownBytes.{Appends}
use Rattle.cc_outside.specs.Causes.{HasCauseOf, AppendsPrefix, Rose}
use Rattle.cc_outside.specs.declared.all.WriteEnd.{WriteEnd}
use Rattle.cc_outside.specs.declared.all.WriteEnd.TheVariants.{Fault, Memory}

-- at Ok all these bytes were written, and else the front of them, with a cause
pub record Wrote {K : Type 0} (written : K → Option (List ℕ)) (faults wants : K → ℕ) (old new : K) (bytes : List ℕ) (result : Result (Unit {0}) WriteEnd) : Type 0 where
  pub all : OnOk result (Appends (written old) (written new) bytes)
  pub front : AppendsPrefix (written old) (written new) bytes
  pub fault : HasCauseOf Fault (faults old) (faults new) result
  pub want : HasCauseOf Memory (wants old) (wants new) result

-- the same of a call that goes on from a status: after an end it does nothing
pub record Goes {K : Type 0} (written : K → Option (List ℕ)) (faults wants : K → ℕ) (old : K) (status : Result (Unit {0}) WriteEnd) (bytes : List ℕ) (new : K) (result : Result (Unit {0}) WriteEnd) : Type 0 where
  pub from_ok : (u : Unit {0}) → status ≡ Ok u → Wrote written faults wants old new bytes result
  pub from_err : (e : WriteEnd) → status ≡ Err e → (result ≡ Err e) × (new ≡ old)

-- a line was said: whole where neither count rose, and else a front of it
pub record Said {K : Type 0} (written : K → Option (List ℕ)) (faults wants : K → ℕ) (old new : K) (line : List ℕ) : Type 0 where
  pub whole : (Rose (faults old) (faults new) → ⊥) → (Rose (wants old) (wants new) → ⊥) → Appends (written old) (written new) line
  pub front : AppendsPrefix (written old) (written new) line
