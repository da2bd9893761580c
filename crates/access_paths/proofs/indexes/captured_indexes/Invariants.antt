use Rattle.std.proofs.Common.{◌≡◌, ◌++◌, ℕ, drop, map}
use Rattle.std.specs.Prelude.{not, filter}
use Rattle.std.specs.List.{enumerate_from}
use Rattle.spv_module.specs.declared.inst.Id.{Id}
use Rattle.access_paths.specs.Ways.{is_constant_index, captured_indexes}
use Rattle.access_paths.proofs.indexes.captured_indexes.Given as goal

abbrev pub invariant-loop-number : goal.invariant-loop-number
invariant-loop-number l = map (λ (n : ℕ × Id). (n.0, n.1.0)) l.list.items ++ filter (λ (n : ℕ × ℕ). not (is_constant_index l.module.globals n.1)) (enumerate_from l.number (drop l.number l.index-items)) ≡ captured_indexes l.module.globals l.chain
