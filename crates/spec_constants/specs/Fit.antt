-- Why overrides are refused.
use Rattle.std.specs.Prelude.{ℕ, ◌≡◌, List, true}
use Rattle.spv_words.specs.declared.rule.Rule.{Rule}
use Rattle.spv_words.specs.declared.rule.Rule.TheVariants.{X3, X4}
use Rattle.spv_words.specs.declared.rule.Fault.{Fault}
use Rattle.spv_words.specs.declared.rule.Fault.TheVariants.{Refused, Limit, Memory}
use Rattle.spv_module.specs.State.{ModuleState}
use Rattle.profile_rules.specs.declared.given.Given.{Given}
use Rattle.profile_rules.specs.Constants.{breaks_x3, breaks_x4}

-- the rule on overrides is broken at this word, which is 0
abbrev pub Broken : ModuleState → List (ℕ × Given) → Rule → ℕ → Type 0
Broken m pairs X3 at = (at ≡ 0) × (breaks_x3 m pairs ≡ true)
Broken m pairs X4 at = (at ≡ 0) × (breaks_x4 m pairs ≡ true)
Broken m pairs _ at = ⊥

-- the overrides are refused with cause
abbrev pub IsCause : ModuleState → List (ℕ × Given) → Fault → Type 0
IsCause m pairs (Refused r) = Broken m pairs r.rule r.at
IsCause m pairs (Limit l) = ⊥
IsCause m pairs Memory = Unit {0}

-- this rule is refused at word 0
abbrev pub IsRefusal : Rule → Fault → Type 0
IsRefusal rule (Refused r) = (r.rule ≡ rule) × (r.at ≡ 0)
IsRefusal rule _ = ⊥
