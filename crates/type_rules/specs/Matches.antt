-- What is known of pairs of types that were compared.
use Rattle.std.specs.Prelude.{ℕ, ◌≡◌, Bool, true, List, IfSome}
use Rattle.std.specs.Option.{option_map_or}
use Rattle.std.specs.BTreeMap.{BTreeMap, get}
use Rattle.spv_module.specs.Held.{global}
use Rattle.spv_module.specs.declared.inst.Inst.{Inst}
use Rattle.profile_rules.specs.ValueRules.{match_at}
use Rattle.type_rules.specs.Edges.{pair_cmp}

-- whether a type matches another
abbrev pub match_of : List Inst → ℕ → ℕ → Bool
match_of gs a b = option_map_or (λ g. match_at gs g b) (global gs a) true

-- each answer that was noted is right
abbrev pub AreKnown : List Inst → BTreeMap (ℕ × ℕ) Bool → Type 0
AreKnown gs known = (p : ℕ × ℕ) → IfSome (get pair_cmp known p) (λ r. r ≡ match_of gs p.0 p.1)
