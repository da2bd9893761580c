-- A run of a module and the source of its text, which has the same overrides.
use Rattle.std.specs.Prelude.{ℕ, List, Option}
use Rattle.profile_rules.specs.declared.given.Given.{Given}
use Rattle.profile_rules.specs.Constants.{chosen_word}
use Rattle.module_semantics.specs.Setting.{Setting}
use Rattle.text_rules.specs.Constants.{Source}

-- what is translated: the module of the run, by its entry point, under these overrides
abbrev pub source_of : Setting → List (ℕ × Given) → Source
source_of s overrides = record { of = s.of; entry = s.entry; overrides = overrides }

-- the words that constants take in the run: by the overrides, or else as the invocation is told
abbrev pub chosen : Setting → List (ℕ × Given) → ℕ → Option ℕ
chosen s overrides = chosen_word s.of.heads overrides s.invocation.specialization
