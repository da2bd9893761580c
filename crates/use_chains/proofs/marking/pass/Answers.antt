use Rattle.std.proofs.Common.{sym, ◌∙◌, ◌<◌, length, arith}
use Rattle.std.proofs.lemmas.Bool.{not-true}
use Rattle.use_chains.specs.Search.{nth}
use Rattle.use_chains.specs.Marking.{has_id, has_left}
use Rattle.use_chains.proofs.Marks.{sound_more, marked_tells, passed_marked}
use Rattle.use_chains.proofs.marking.pass.Goals as goal

pub returns-clause-marked : goal.returns-clause-marked
returns-clause-marked c =
    sound_more c.args.slots.now c.args.marked.now.slots.items (has_id c.args.marked.now) c.requires.marked _ c.args.k c.requires.there (marked_tells (has_id c.args.marked.now) (nth c.args.slots.now c.args.k) (sym c.is_left.ensures ∙ c.if-is_left.false)) c.in_ok-add_id-2.ensures

pub returns-clause-passed : goal.returns-clause-passed
returns-clause-passed c = λ whole behind.
    let sized = c.requires.marked.sized in
    let there : c.args.k < length c.args.marked.now.slots.items = (let h = c.requires.there in omega (arith, h, sized)) in
    passed_marked c.args.slots.now c.args.marked.now.slots.items (has_id c.args.marked.now) _ (has_left c.args.marked.now) c.args.k there c.in_ok-add_id-2.ensures (sym c.has.ensures ∙ not-true c.has.result whole) behind
