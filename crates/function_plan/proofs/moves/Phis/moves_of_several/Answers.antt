use Rattle.std.proofs.Common.{◌∙◌, List, Option, subst, sym}
use Rattle.std.proofs.lemmas.Result.{MatchResult-weaker}
use Rattle.std.specs.declared.vec.Vec.{Vec}
use Rattle.std.specs.declared.alloc.Global.{Global}
use Rattle.phi_copies.specs.declared.moves.Move.{Move}
use Rattle.phi_copies.specs.Sequence.{Pair, IsSequence}
use Rattle.function_plan.specs.Phis.{firsts}
use Rattle.function_plan.specs.Moved.{items_at, moves_from, pairs_from}
use Rattle.function_plan.proofs.Moving.{listed}
use Rattle.function_plan.proofs.moves.Phis.moves_of_several.Goals as goal

pub moves_from-requires : goal.moves_from-requires
moves_from-requires c = listed c.in_ok-pairs.pairs c.as_slice.result.now (c.as_slice.ensures.value ∙ c.in_ok-blocks.ensures)

pub returns : goal.returns
returns c = MatchResult-weaker c.of.result c.of.ensures
    (λ moves is b.
    let made = subst (λ (o : Option (Vec Move Global)). IsSequence (firsts (pairs_from c.in_ok-pairs.pairs b)) (items_at o)) (sym (is b)) (c.in_ok-list.ensures b) in
    subst (λ (ps : List Pair). IsSequence (firsts ps) (items_at (moves_from moves b))) (c.in_ok-pairs.ensures b) made) (λ e no. no)
