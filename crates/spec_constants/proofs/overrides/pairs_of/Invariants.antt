use Rattle.std.proofs.Common.{◌≡◌, ℕ, List, ◌++◌, drop, map}
use Rattle.std.specs.Prelude.{option_map}
use Rattle.op_semantics.specs.Component.{each_one}
use Rattle.profile_rules.specs.declared.given.Given.{Given}
use Rattle.profile_rules.specs.Overrides.{override_of}
use Rattle.spec_constants.proofs.overrides.pairs_of.Given as goal

abbrev pub invariant-loop-word : goal.invariant-loop-word
invariant-loop-word l = option_map (λ (rest : List (ℕ × Given)). l.pairs.items ++ rest) (each_one override_of (map (λ w. w.now) (drop l.word-index l.words))) ≡ each_one override_of (map (λ w. w.now) l.words)
