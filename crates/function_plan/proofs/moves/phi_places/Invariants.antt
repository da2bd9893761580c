use Rattle.std.proofs.Common.{◌≡◌, ◌++◌, drop}
use Rattle.std.specs.List.{flat_map, enumerate_from}
use Rattle.hoist_plan.specs.Kept.{form_in}
use Rattle.function_plan.specs.Phis.{phi_block}
use Rattle.function_plan.proofs.moves.phi_places.Given as goal

abbrev pub invariant-loop-index : goal.invariant-loop-index
invariant-loop-index l = l.found.items ++ flat_map (phi_block (form_in l.naming)) (enumerate_from l.index (drop l.index l.blocks)) ≡ flat_map (phi_block (form_in l.naming)) (enumerate_from 0 l.blocks)
