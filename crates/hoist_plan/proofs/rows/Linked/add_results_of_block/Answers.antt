use Rattle.std.proofs.Common.{◌≡◌, ◌<◌, ◌+◌, ◌∙◌, ◌++◌, List, ap, arith, drop, get_or, length, map, subst}
use Rattle.std.specs.Prelude.{flat_map}
use Rattle.spv_module.specs.declared.inst.Inst.{Inst}
use Rattle.hoist_plan.specs.Plan.{Placed, result_of, with_result}
use Rattle.hoist_plan.specs.Kept.{chains_of_inst, known_in, placed_chain, steps_of}
use Rattle.hoist_plan.proofs.Passes.{fold_all_more, list_more, sum_more}
use Rattle.hoist_plan.proofs.rows.Linked.add_results_of_block.Goals as goal

pub loop-inst-preserved : goal.loop-inst-preserved
loop-inst-preserved g c =
    let insts : List Inst = c.args.block.now.insts in
    let k = c.loop-inst.inst-index in
    let i : Inst = c.inst-item.result in
    let less : c.loop-inst.inst-index < length c.args.block.now.insts = subst (λ (xs : List Inst). c.loop-inst.inst-index < length xs) c.as_slice-inst-items.ensures c.loop-inst-test.true in
    let found : c.inst-item.result ≡ get_or c.args.block.now.insts c.loop-inst.inst-index c.inst-item.result =
    subst (λ (xs : List Inst). c.inst-item.result ≡ get_or xs c.loop-inst.inst-index c.inst-item.result) c.as_slice-inst-items.ensures c.inst-item.is in
    record {
      known =
          fold_all_more (result_of c.args.self.now.uses.now c.args.place) insts k i less found (with_result c.args.self.now.«module».now.globals c.args.self.now.locals.now) (known_in c.loop-inst.told.forms) (known_in c.add_result.new.told.forms) c.in_ok-add_result.ensures.known
          ∙ c.loop-inst.invariant.known;
      chains =
          ap (λ (ps : List Placed). ps ++ flat_map (chains_of_inst c.args.self.now.uses.now c.args.place) (drop (k + 1) insts)) c.in_ok-add_result.ensures.chains
          ∙ (list_more (chains_of_inst c.args.self.now.uses.now c.args.place) insts k i less found (map placed_chain c.loop-inst.told.chains.items) ∙ c.loop-inst.invariant.chains);
      steps = let more = sum_more (result_of c.args.self.now.uses.now c.args.place) insts k i less found steps_of in omega (arith, more, c.in_ok-add_result.ensures.steps, c.loop-inst.invariant.steps);
    }
