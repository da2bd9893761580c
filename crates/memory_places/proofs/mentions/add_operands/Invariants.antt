use Rattle.std.proofs.Common.{◌≡◌, ◌||◌, ℕ, drop}
use Rattle.id_map.specs.Entries.{is_in}
use Rattle.spv_ops.specs.Operands.{is_id}
use Rattle.memory_places.specs.Mentions.{mentions_from}
use Rattle.memory_places.proofs.mentions.add_operands.Given as goal

abbrev pub invariant-loop-k : goal.invariant-loop-k
invariant-loop-k l = (id : ℕ) → (is_in l.ids id || mentions_from (is_id l.inst.op l.inst.args) id l.k (drop l.k l.inst.args)) ≡ (is_in l.initial.ids id || mentions_from (is_id l.inst.op l.inst.args) id 0 l.inst.args)
