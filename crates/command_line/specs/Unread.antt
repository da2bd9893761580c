-- Why words are no command.
use Rattle.std.specs.Prelude.{◌≡◌, Option, None}
use Rattle.spec_constants.specs.declared.overrides.Unparsed.{Unparsed}
use Rattle.spec_constants.specs.declared.overrides.Unparsed.TheVariants.{Usage, Memory}

-- they are none; want of memory has no cause
abbrev pub IsUnread : {X : Type 0} → Option X → Unparsed → Type 0
IsUnread o Usage = o ≡ None
IsUnread o Memory = Unit {0}
