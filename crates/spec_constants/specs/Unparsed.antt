-- Why words are no overrides.
use Rattle.std.specs.Prelude.{ℕ, ◌≡◌, List, None}
use Rattle.op_semantics.specs.Component.{each_one}
use Rattle.profile_rules.specs.Overrides.{override_of, overrides_of}
use Rattle.spec_constants.specs.declared.overrides.Unparsed.{Unparsed}
use Rattle.spec_constants.specs.declared.overrides.Unparsed.TheVariants.{Usage, Memory}

-- a word is no override
abbrev pub IsUnread : List (List ℕ) → Unparsed → Type 0
IsUnread words Usage = each_one override_of words ≡ None
IsUnread words Memory = Unit {0}

-- the words are no overrides; want of memory has no cause
abbrev pub IsCause : List (List ℕ) → Unparsed → Type 0
IsCause words Usage = overrides_of words ≡ None
IsCause words Memory = Unit {0}
