use Rattle.std.proofs.Common.{◌∙◌, List, ℕ, ap, get_or, subst, refl, arith}
use Rattle.std.proofs.lemmas.List.{take_all}
use Rattle.phi_copies.specs.Sequence.{Pair, IsSequence}
use Rattle.function_plan.specs.Moved.{first_from}
use Rattle.function_plan.specs.Phis.{firsts}
use Rattle.function_plan.proofs.Edges.{Edge, first_append}
use Rattle.function_plan.proofs.Moving.{AreMovesOf, all_made, moved_more}
use Rattle.function_plan.proofs.moves.moves_from.Goals as goal

pub loop-from-preserved : goal.loop-from-preserved
loop-from-preserved c =
    let i = c.loop-from.from-index in
    let made = subst (λ (ps : List Pair). IsSequence (firsts ps) c.in_ok-list.list.items) c.list_from.ensures c.in_ok-list.ensures in
    λ b. moved_more c.args.pairs.now c.args.blocks.now i (get_or c.args.blocks.now i 0) b (first_from c.loop-from.moves.items b) (first_from c.push.new.self.items b) c.in_ok-list.list (omega arith) refl made (ap (λ (edges : List Edge). first_from edges b) c.in_ok-push.ensures.items ∙ first_append c.loop-from.moves.items (get_or c.args.blocks.now i 0, c.in_ok-list.list) b) (c.loop-from.invariant b)

pub returns : goal.returns
returns c = λ b.
    all_made c.args.pairs.now c.args.blocks.now b (first_from c.loop-from.moves.items b) c.requires
    (subst (λ (bs : List ℕ). AreMovesOf c.args.pairs.now bs b (first_from c.loop-from.moves.items b)) (take_all c.loop-from.from-index c.args.blocks.now (omega arith)) (c.loop-from.invariant b))
