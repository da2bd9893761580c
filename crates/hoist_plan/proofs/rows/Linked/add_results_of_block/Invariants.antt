use Rattle.std.proofs.Common.{◌≡◌, ◌+◌, ◌++◌, drop, map}
use Rattle.std.specs.Prelude.{flat_map, fold, sum_by}
use Rattle.hoist_plan.specs.Plan.{result_of, results_of_block, with_result}
use Rattle.hoist_plan.specs.Kept.{chains_of_block, chains_of_inst, known_in, placed_chain, steps_of}
use Rattle.hoist_plan.proofs.rows.Linked.add_results_of_block.Given as goal

abbrev pub invariant-loop-inst : goal.invariant-loop-inst
invariant-loop-inst g l = record {
  known : fold (with_result l.self.«module».now.globals l.self.locals.now) (known_in l.told.forms) (flat_map (result_of l.self.uses.now l.place) (drop l.inst-index l.block.insts)) ≡ fold (with_result l.self.«module».now.globals l.self.locals.now) (known_in l.initial.told.forms) (results_of_block l.self.uses.now (l.place, l.block));
  chains : map placed_chain l.told.chains.items ++ flat_map (chains_of_inst l.self.uses.now l.place) (drop l.inst-index l.block.insts) ≡ map placed_chain l.initial.told.chains.items ++ chains_of_block l.self.uses.now (l.place, l.block);
  steps : l.steps + sum_by steps_of (flat_map (result_of l.self.uses.now l.place) (drop l.inst-index l.block.insts)) ≡ l.initial.steps + sum_by steps_of (results_of_block l.self.uses.now (l.place, l.block));
}
