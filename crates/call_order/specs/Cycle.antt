-- How a call on a cycle is found: from each function that is not listed a call of another such.
use Rattle.std.specs.Prelude.{ℕ, ◌≡◌, ◌<◌, List, Option, None, Some, IsSome, IfSome, IsSomeAnd, Contains, length, slice_index, slice_index_or}
use Rattle.profile_rules.specs.Calls.{Reaches}
use Rattle.call_order.specs.declared.graph.Call.{Call}
use Rattle.call_order.specs.Graph.{Edge}

-- the call kept for the function at p
abbrev pub wait_of : List (Option Call) → ℕ → Option Call
wait_of waits p = slice_index_or waits p None

-- for each function one of the calls of functions that are not listed, where one of those looked at is such
pub record AreWaits (all looked : List Call) (missing : List ℕ) (waits : List (Option Call)) : Type 0 where
  pub size : length waits ≡ length missing
  pub sound : (p : ℕ) → IfSome (wait_of waits p) (λ c. Contains all c × (c.caller ≡ p) × (0 < slice_index missing c.callee))
  pub complete : (c : Call) → Contains looked c → 0 < slice_index missing c.callee → IsSome (wait_of waits c.caller)

-- each call that is kept leads to a function for which one is kept
abbrev pub AreLinked : List (Option Call) → Type 0
AreLinked waits = (p : ℕ) → IfSome (wait_of waits p) (λ c. (c.caller ≡ p) × IsSome (wait_of waits c.callee))

-- the call kept for the function at p calls the one at q
abbrev pub WaitEdge : List (Option Call) → ℕ → ℕ → Type 0
WaitEdge waits p q = IsSomeAnd (wait_of waits p) (λ c. c.callee ≡ q)

-- the call is kept, and those that are kept lead back to the function that makes it
abbrev pub ClosesCycle : List (Option Call) → Call → Type 0
ClosesCycle waits c = (wait_of waits c.caller ≡ Some c) × Reaches (WaitEdge waits) c.callee c.caller

-- the call is on a cycle
abbrev pub IsOnCycle : List Call → Call → Type 0
IsOnCycle calls c = Contains calls c × Reaches (Edge calls) c.callee c.caller

-- a function that is not listed calls another such
abbrev pub IsStuck : List Call → List ℕ → Type 0
IsStuck calls missing = (p : ℕ) → 0 < slice_index missing p → (c : Call) × Contains calls c × (c.caller ≡ p) × (0 < slice_index missing c.callee)
