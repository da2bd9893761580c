use Rattle.std.proofs.Common.{◌≡◌, ◌++◌, ℕ, drop, map, filter}
use Rattle.std.specs.List.{enumerate_from}
use Rattle.use_chains.specs.Slots.{is_slot, mentions}
use Rattle.use_chains.proofs.mention.add_mentions.Given as goal

abbrev pub invariant-loop-k : goal.invariant-loop-k
invariant-loop-k l = l.mentions.items ++ map (λ (operand : ℕ × ℕ). operand.1) (filter (λ (operand : ℕ × ℕ). is_slot l.locals l.reached l.inst operand.0) (enumerate_from l.k (drop l.k l.inst.args))) ≡ l.initial.mentions.items ++ mentions l.locals l.reached l.inst
