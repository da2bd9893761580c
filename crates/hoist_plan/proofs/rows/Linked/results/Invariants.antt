use Rattle.std.proofs.Common.{◌≡◌, ◌+◌, ◌++◌, drop, map}
use Rattle.std.specs.Prelude.{flat_map, fold, sum_by}
use Rattle.std.specs.List.{enumerate_from}
use Rattle.hoist_plan.specs.Plan.{nothing, results_of_block, results, with_result}
use Rattle.hoist_plan.specs.Kept.{chains_of, chains_of_block, known_in, placed_chain, steps_of}
use Rattle.hoist_plan.proofs.rows.Linked.results.Given as goal

abbrev pub invariant-loop-place : goal.invariant-loop-place
invariant-loop-place g l = record {
  known : fold (with_result l.self.«module».now.globals l.self.locals.now) (known_in l.told.forms) (flat_map (results_of_block l.self.uses.now) (enumerate_from l.place (drop l.place l.self.locals.now.blocks))) ≡ fold (with_result l.self.«module».now.globals l.self.locals.now) nothing (results l.self.uses.now l.self.locals.now);
  chains : map placed_chain l.told.chains.items ++ flat_map (chains_of_block l.self.uses.now) (enumerate_from l.place (drop l.place l.self.locals.now.blocks)) ≡ chains_of l.self.uses.now l.self.locals.now;
  steps : l.steps + sum_by steps_of (flat_map (results_of_block l.self.uses.now) (enumerate_from l.place (drop l.place l.self.locals.now.blocks))) ≡ l.fn.steps + sum_by steps_of (results l.self.uses.now l.self.locals.now);
}
