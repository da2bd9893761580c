-- The order of all functions, callees first, while it grows.
use Rattle.std.specs.Prelude.{ℕ, ◌≡◌, ◌<◌, ◌≤◌, List, [], Bool, true, false, length, take, slice_index}
use Rattle.call_order.specs.declared.graph.Call.{Call}
use Rattle.call_order.specs.Graph.{is_in, open_calls}

-- the function at p is not listed, and all that it calls is
pub record IsReadyAt (calls : List Call) (n : ℕ) (order : List ℕ) (p : ℕ) : Type 0 where
  pub below : p < n
  pub unlisted : is_in order p ≡ false
  pub closed : open_calls calls order p ≡ 0

-- and it is the earliest such
pub record IsNextAt (calls : List Call) (n : ℕ) (order : List ℕ) (p : ℕ) : Type 0 where
  pub ready : IsReadyAt calls n order p
  pub earliest : (q : ℕ) → IsReadyAt calls n order q → p ≤ q

-- each came next
abbrev pub IsListing : List Call → ℕ → List ℕ → Type 0
IsListing calls n order = (k : ℕ) → k < length order → IsNextAt calls n (take k order) (slice_index order k)

-- the functions listed, how many calls of each are of functions that are not, and which are ready
pub record IsState (calls : List Call) (n : ℕ) (order missing : List ℕ) (ready : ℕ → Bool) : Type 0 where
  pub listing : IsListing calls n order
  pub size : length missing ≡ n
  pub counts : (p : ℕ) → p < n → slice_index missing p ≡ open_calls calls order p
  pub listed : (p : ℕ) → is_in order p ≡ true → slice_index missing p ≡ 0
  pub sound : (p : ℕ) → ready p ≡ true → (p < n) × (is_in order p ≡ false) × (slice_index missing p ≡ 0)
  pub complete : (p : ℕ) → p < n → is_in order p ≡ false → slice_index missing p ≡ 0 → ready p ≡ true

-- no more can be listed: each function is listed, or calls one that is not
pub record IsFinished (calls : List Call) (n : ℕ) (order missing : List ℕ) : Type 0 where
  pub listing : IsListing calls n order
  pub size : length missing ≡ n
  pub counts : (p : ℕ) → p < n → slice_index missing p ≡ open_calls calls order p
  pub listed : (p : ℕ) → is_in order p ≡ true → slice_index missing p ≡ 0
  pub complete : (p : ℕ) → p < n → slice_index missing p ≡ 0 → is_in order p ≡ true

-- how many calls each of n functions makes
pub record AreCounts (calls : List Call) (n : ℕ) (counts : List ℕ) : Type 0 where
  pub size : length counts ≡ n
  pub counts_are : (p : ℕ) → p < n → slice_index counts p ≡ open_calls calls [] p

-- of the first n functions those are ready that make no call
pub record AreReady (counts : List ℕ) (n : ℕ) (ready : ℕ → Bool) : Type 0 where
  pub sound : (p : ℕ) → ready p ≡ true → (p < n) × (slice_index counts p ≡ 0)
  pub complete : (p : ℕ) → p < n → slice_index counts p ≡ 0 → ready p ≡ true
