-- What is known of a listing of all functions, or why there is none.
use Rattle.std.specs.Prelude.{ℕ, ◌≡◌, ◌<◌, List, true}
use Rattle.spv_words.specs.declared.rule.Rule.TheVariants.{M6}
use Rattle.spv_words.specs.declared.rule.Fault.{Fault}
use Rattle.spv_words.specs.declared.rule.Fault.TheVariants.{Refused, Limit, Memory}
use Rattle.call_order.specs.declared.graph.Call.{Call}
use Rattle.call_order.specs.Graph.{is_in}
use Rattle.call_order.specs.Listing.{IsListing}
use Rattle.call_order.specs.Cycle.{IsOnCycle}

-- all functions are listed, each after all that it calls
pub record IsWhole (calls : List Call) (n : ℕ) (order : List ℕ) : Type 0 where
  pub listing : IsListing calls n order
  pub listed : (p : ℕ) → p < n → is_in order p ≡ true

-- the fault is a call on a cycle, or want of memory
abbrev pub IsCycleFault : List Call → Fault → Type 0
IsCycleFault calls (Refused r) = (r.rule ≡ M6) × ((c : Call) × (r.at ≡ c.at) × IsOnCycle calls c)
IsCycleFault calls (Limit l) = ⊥
IsCycleFault calls Memory = Unit {0}
