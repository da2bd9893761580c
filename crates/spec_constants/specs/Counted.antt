-- Scalars counted up to one more than their limit.
use Rattle.std.specs.Prelude.{ℕ, ◌≡◌, ◌<◌, min, unwrap_or}
use Rattle.std.specs.BTreeMap.{BTreeMap, get}
use Rattle.std.specs.Ordering.{nat_cmp}
use Rattle.spv_words.specs.Limit.{limit_number}
use Rattle.spv_words.specs.declared.rule.Limit.TheVariants.{Leaves}
use Rattle.spv_words.specs.declared.rule.Fault.{Fault}
use Rattle.spv_words.specs.declared.rule.Fault.TheVariants.{Refused, Limit, Memory}
use Rattle.spv_words.specs.declared.rule.Limit as the_limit
use Rattle.spv_module.specs.State.{ModuleState}
use Rattle.profile_rules.specs.Leaves.{leaves_of_module}

-- one more than the limit
abbrev pub cap : ℕ
cap = 262145

-- what was counted of an id
abbrev pub known : BTreeMap ℕ ℕ → ℕ → ℕ
known counts id = unwrap_or (get nat_cmp counts id) 0

-- what was counted of each id is its number, up to the cap
abbrev pub AreCounted : (ℕ → ℕ) → (ℕ → ℕ) → Type 0
AreCounted counted leaves = (id : ℕ) → min cap (counted id) ≡ min cap (leaves id)

-- the module has more than the limit
abbrev pub IsOverBy : ℕ → the_limit.Limit → Type 0
IsOverBy leaves Leaves = limit_number Leaves < leaves
IsOverBy leaves _ = ⊥

abbrev pub IsOver : ModuleState → Fault → Type 0
IsOver m (Refused r) = ⊥
IsOver m (Limit l) = IsOverBy (leaves_of_module m) l
IsOver m Memory = Unit {0}
