use Rattle.std.proofs.Common.{◌≡◌, ℕ, List, ◌++◌, drop, map}
use Rattle.std.specs.Prelude.{option_map}
use Rattle.op_semantics.specs.Component.{each_one}
use Rattle.dispatch_case.specs.Written.{number_of}
use Rattle.dispatch_case.proofs.part.numbers_in.Given as goal

abbrev pub invariant-loop-word : goal.invariant-loop-word
invariant-loop-word l = option_map (λ (rest : List ℕ). l.list.items ++ rest) (each_one number_of (map (λ w. w.now) (drop l.word-index l.words))) ≡ each_one number_of (map (λ w. w.now) l.words)
