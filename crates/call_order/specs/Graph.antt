-- The calls of a module as a graph: functions go by their places.
use Rattle.std.specs.Prelude.{ℕ, ◌≡◌, ◌<◌, ◌+◌, ◌==◌, ◌&&◌, not, List, [], ◌∷◌, ◌++◌, Bool, Contains, filter, map, length, count_by, slice_index, slice_index_or, All, Vec}
use Rattle.std.specs.List.{list_any}
use Rattle.std.specs.declared.alloc.Global.{Global}
use Rattle.spv_module.specs.declared.inst.Inst.{Inst}
use Rattle.spv_module.specs.declared.inst.Function.{Function}
use Rattle.profile_rules.specs.Calls.{calls_in, callee, ids_of, place}
use Rattle.call_order.specs.declared.graph.Call.{Call}

-- the id of the function at a place
abbrev pub number : List Function → ℕ → ℕ
number fs p = slice_index (ids_of fs) p

-- a call of the function at a place
abbrev pub call_at : List Function → ℕ → Inst → Call
call_at fs p i = record { caller = p; callee = place fs (callee i); at = i.at }

-- the calls of these functions, the first of which stands at a place, among all
abbrev pub calls_from : List Function → ℕ → List Function → List Call
calls_from all p [] = []
calls_from all p (f ∷ fs) = map (call_at all p) (calls_in f) ++ calls_from all (p + 1) fs

abbrev pub calls_of : List Function → List Call
calls_of fs = calls_from fs 0 fs

-- the function at p calls the one at q
abbrev pub Edge : List Call → ℕ → ℕ → Type 0
Edge calls p q = (c : Call) × Contains calls c × (c.caller ≡ p) × (c.callee ≡ q)

-- the calls are of and by functions below a place
abbrev pub AreBelow : ℕ → List Call → Type 0
AreBelow n calls = All (λ (c : Call). (c.caller < n) × (c.callee < n)) calls

abbrev pub is_to : ℕ → Call → Bool
is_to q c = c.callee == q

-- who calls the function at q, once for each call
abbrev pub callers : List Call → ℕ → List ℕ
callers calls q = map (λ (c : Call). c.caller) (filter (is_to q) calls)

-- p is listed
abbrev pub is_in : List ℕ → ℕ → Bool
is_in order p = list_any (λ x. x == p) order

-- the function at p makes the call, and the function that it calls is not listed
abbrev pub is_open : List ℕ → ℕ → Call → Bool
is_open order p c = (c.caller == p) && not (is_in order c.callee)

-- how many calls of the function at p are of functions that are not listed
abbrev pub open_calls : List Call → List ℕ → ℕ → ℕ
open_calls calls order p = count_by (is_open order p) calls

-- these lists are, for each of n functions, who calls it
pub record AreCallersOf (calls : List Call) (n : ℕ) (lists : List (Vec ℕ Global)) : Type 0 where
  pub size : length lists ≡ n
  pub each : (q : ℕ) (d : Vec ℕ Global) → q < n → (slice_index_or lists q d).items ≡ callers calls q

abbrev pub AreCallers : List Call → List (Vec ℕ Global) → Type 0
AreCallers calls lists = AreCallersOf calls (length lists) lists

-- these lists are those, with one more place in the one that stands at a place
pub record HasOneMore (old new : List (Vec ℕ Global)) (at place : ℕ) : Type 0 where
  pub size : length new ≡ length old
  pub own : (d : Vec ℕ Global) → (slice_index_or new at d).items ≡ (slice_index_or old at d).items ++ place ∷ []
  pub others : (k : ℕ) (d : Vec ℕ Global) → (k ≡ at → ⊥) → slice_index_or new k d ≡ slice_index_or old k d
