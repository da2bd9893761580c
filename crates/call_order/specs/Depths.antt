-- The longest chains of calls from the entry.
use Rattle.std.specs.Prelude.{ℕ, ◌≡◌, ◌<◌, ◌≤◌, ◌+◌, List, Bool, nat_lt, Contains, length, slice_index}
use Rattle.spv_words.specs.declared.rule.Fault.{Fault}
use Rattle.spv_words.specs.declared.rule.Fault.TheVariants.{Refused, Limit as Exceeded, Memory}
use Rattle.spv_words.specs.declared.rule.Limit.TheVariants.{Calls as CallLimit}
use Rattle.spv_words.specs.Limit.{limit_number}
use Rattle.profile_rules.specs.Calls.{Leads}
use Rattle.call_order.specs.declared.graph.Call.{Call}
use Rattle.call_order.specs.Graph.{Edge}

-- one more than the deepest of these that is reached, or 0 where none is
pub record IsDeepest (callers depths : List ℕ) (deepest : ℕ) : Type 0 where
  pub most : (p : ℕ) → Contains callers p → 0 < slice_index depths p → slice_index depths p + 1 ≤ deepest
  pub some : 0 < deepest → (p : ℕ) × Contains callers p × (0 < slice_index depths p) × (deepest ≡ slice_index depths p + 1)

-- so many functions are on the longest chain from the entry to this one, both counted, or none
pub record IsDepth (step : ℕ → ℕ → Type 0) (entry p depth : ℕ) : Type 0 where
  pub most : (n : ℕ) → Leads step n entry p → n + 1 ≤ depth
  pub some : 0 < depth → (n : ℕ) × (depth ≡ n + 1) × Leads step n entry p

-- the depths of n functions, within the limit
pub record AreDepths (calls : List Call) (n entry : ℕ) (depths : List ℕ) : Type 0 where
  pub size : length depths ≡ n
  pub small : (p : ℕ) → slice_index depths p ≤ limit_number CallLimit
  pub depth : (p : ℕ) → p < n → IsDepth (Edge calls) entry p (slice_index depths p)

-- a chain from the entry exceeds the limit
abbrev pub IsTooDeep : List Call → ℕ → Type 0
IsTooDeep calls entry = (n : ℕ) × (p : ℕ) × (limit_number CallLimit < n + 1) × Leads (Edge calls) n entry p

-- the fault has its cause
abbrev pub IsDepthFault : List Call → ℕ → Fault → Type 0
IsDepthFault calls entry (Refused r) = ⊥
IsDepthFault calls entry (Exceeded l) = (l ≡ CallLimit) × IsTooDeep calls entry
IsDepthFault calls entry Memory = Unit {0}

-- calls reach the function at p
abbrev pub is_reached : List ℕ → ℕ → Bool
is_reached depths p = nat_lt 0 (slice_index depths p)
