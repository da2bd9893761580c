use Rattle.std.proofs.Common.{◌≡◌, ◌||◌, ℕ, drop}
use Rattle.std.specs.List.{list_any, enumerate_from}
use Rattle.id_map.specs.Entries.{is_in}
use Rattle.hoist_plan.specs.Kept.{form_in}
use Rattle.function_plan.specs.Planned.{block_names, is_named_in}
use Rattle.function_plan.proofs.named.named_in.Given as goal

abbrev pub invariant-loop-index : goal.invariant-loop-index
invariant-loop-index l = (id : ℕ) → (is_in l.ids id || list_any (block_names (form_in l.naming) l.nodes id) (enumerate_from l.index (drop l.index l.blocks))) ≡ is_named_in (form_in l.naming) l.nodes l.blocks id
