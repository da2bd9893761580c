-- What is asked of a module, as the rules see it.
use Rattle.std.specs.Prelude.{option_map, string_bytes}
use Rattle.profile_check.specs.declared.checks.Options.{Options}
use Rattle.conformance.specs.Rules.{Options as Asked}

abbrev pub asked : Options → Asked
asked o = record { entry = option_map string_bytes o.entry; overrides = o.overrides.pairs.items }
