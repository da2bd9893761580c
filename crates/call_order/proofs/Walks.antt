-- Steps from one to another.
use Rattle.std.proofs.Common.{ℕ, zero, suc, ap}
use Rattle.profile_rules.specs.Calls.{Leads, Reaches}

-- steps of another relation, between what a function makes of each
pub leads_image : (R S : ℕ → ℕ → Type 0) (f : ℕ → ℕ) → ((p q : ℕ) → R p q → S (f p) (f q)) → (n p q : ℕ) → Leads R n p q → Leads S n (f p) (f q)
leads_image R S f on zero p q h = ap f h
leads_image R S f on (suc n) p q h = (f h.0, leads_image R S f on n p h.0 h.1, on h.0 q h.2)

-- the same steps of another relation
pub reaches_map : (R S : ℕ → ℕ → Type 0) → ((p q : ℕ) → R p q → S p q) → (p q : ℕ) → Reaches R p q → Reaches S p q
reaches_map R S on p q h = (h.0, leads_image R S (λ x. x) on h.0 p q h.1)
