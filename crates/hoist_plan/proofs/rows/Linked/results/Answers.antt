use Rattle.std.proofs.Common.{◌≡◌, ◌<◌, ◌+◌, ◌∙◌, ◌++◌, List, ap, arith, drop, get_or, length, map, refl, subst}
use Rattle.std.specs.Prelude.{flat_map, fold}
use Rattle.std.specs.List.{enumerate_from}
use Rattle.spv_module.specs.declared.inst.Block.{Block}
use Rattle.spv_module.specs.declared.inst.Function.{Function}
use Rattle.hoist_plan.specs.declared.row.Chain.{Chain}
use Rattle.hoist_plan.specs.Plan.{Known, Placed, results_of_block, with_result}
use Rattle.hoist_plan.specs.Kept.{chains_of_block, known_in, placed_chain, steps_of}
use Rattle.hoist_plan.proofs.Passes.{fold_each_more, list_each_more, sum_each_more}
use Rattle.hoist_plan.proofs.rows.Linked.results.Goals as goal

pub loop-place-init : goal.loop-place-init
loop-place-init g c = record {
  known = ap (λ (k : Known). fold (with_result c.args.self.now.«module».now.globals c.args.self.now.locals.now) k (flat_map (results_of_block c.args.self.now.uses.now) (enumerate_from 0 c.args.self.now.locals.now.blocks))) c.in_ok-told.ensures.known;
  chains = ap (λ (cs : List Chain). map placed_chain cs ++ flat_map (chains_of_block c.args.self.now.uses.now) (enumerate_from 0 c.args.self.now.locals.now.blocks)) c.in_ok-told.ensures.chains;
  steps = refl;
}

pub loop-place-preserved : goal.loop-place-preserved
loop-place-preserved g c =
    let blocks : List Block = c.args.self.now.locals.now.blocks in
    let k = c.loop-place.place in
    let b : Block = c.index-blocks-place.result in
    let same : c.as_slice-blocks.result.now ≡ c.args.self.now.locals.now.blocks = c.as_slice-blocks.ensures ∙ ap (λ (f : Function). f.blocks) c.function.ensures in
    let less : c.loop-place.place < length c.args.self.now.locals.now.blocks = subst (λ (xs : List Block). c.loop-place.place < length xs) same c.loop-place-test.true in
    let found : c.index-blocks-place.result ≡ get_or c.args.self.now.locals.now.blocks c.loop-place.place c.index-blocks-place.result =
    subst (λ (xs : List Block). c.index-blocks-place.result ≡ get_or xs c.loop-place.place c.index-blocks-place.result) same c.index-blocks-place.is in
    record {
      known =
          fold_each_more (results_of_block c.args.self.now.uses.now) blocks k b less found (with_result c.args.self.now.«module».now.globals c.args.self.now.locals.now) (known_in c.loop-place.told.forms) (known_in c.add_results_of_block.new.told.forms) c.in_ok-add_results_of_block.ensures.known
          ∙ c.loop-place.invariant.known;
      chains =
          ap (λ (ps : List Placed). ps ++ flat_map (chains_of_block c.args.self.now.uses.now) (enumerate_from (k + 1) (drop (k + 1) blocks))) c.in_ok-add_results_of_block.ensures.chains
          ∙ (list_each_more (chains_of_block c.args.self.now.uses.now) blocks k b less found (map placed_chain c.loop-place.told.chains.items) ∙ c.loop-place.invariant.chains);
      steps = let more = sum_each_more (results_of_block c.args.self.now.uses.now) blocks k b less found steps_of in omega (arith, more, c.in_ok-add_results_of_block.ensures.steps, c.loop-place.invariant.steps);
    }
