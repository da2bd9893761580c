use Rattle.std.proofs.Common.{Option, subst, sym}
use Rattle.std.proofs.lemmas.Result.{MatchResult-weaker}
use Rattle.std.specs.declared.vec.Vec.{Vec}
use Rattle.std.specs.declared.alloc.Global.{Global}
use Rattle.hoist_plan.specs.Kept.{form_in}
use Rattle.phi_copies.specs.declared.moves.Move.{Move}
use Rattle.phi_copies.specs.Sequence.{IsSequence}
use Rattle.function_plan.specs.Phis.{firsts, given_by}
use Rattle.function_plan.specs.Moved.{items_at}
use Rattle.function_plan.proofs.Lone.{moves_one}
use Rattle.function_plan.proofs.moves.Phis.moves_of_one.Goals as goal

pub returns-in_ok-list-in-Some : goal.returns-in_ok-list-in-Some
returns-in_ok-list-in-Some c =
    let gs = c.args.self.now.«module».now.globals in
    let f = c.args.self.now.locals.now in
    let phi = c.in-Some.phi.now in
    MatchResult-weaker c.of.result c.of.ensures (λ moves is. moves_one gs (form_in c.args.self.now.naming.now) f c.args.block.now phi moves c.requires (sym c.in-Some.ensures)
    (λ b. subst (λ (o : Option (Vec Move Global)). IsSequence (firsts (given_by gs f b phi)) (items_at o)) (sym (is b)) (c.in_ok-list-in-Some.ensures b))) (λ e no. no)
