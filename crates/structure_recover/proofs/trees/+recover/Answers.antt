use Rattle.std.proofs.Common.{◌≤◌, length, arith, subst, ◌∙◌}
use Rattle.std.proofs.lemmas.Iterator.Adapters.{YieldsList-from_vec}
use Rattle.std.proofs.lemmas.Iterator.Consumers.{YieldsList-turn, YieldsList-end}
use Rattle.structure_recover.specs.View.{region_of}
use Rattle.structure_recover.specs.Later.{IsReached, rank}
use Rattle.structure_recover.specs.declared.edges.Next.TheVariants.{At}
use Rattle.structure_recover.proofs.Views.{group_is}
use Rattle.structure_recover.proofs.Grouped.{goes_on, later_reached, later_less, arm_is, grouped, all_grouped}
use Rattle.structure_recover.proofs.trees.+recover.Goals as goal

pub region-loop-next-preserved : goal.region-loop-next-preserved
region-loop-next-preserved t c =
    let g = c.args.places.now in
    let here : IsReached g (At c.in-At.start) = subst (IsReached g) c.in-At.is c.loop-next.invariant.reached in
    let less = later_less g c.in-At.start c.behind-next.result here c.behind-next.ensures.later in
    let old : rank (length g) (At c.in-At.start) ≤ rank (length g) c.args.from = subst (λ n. rank (length g) n ≤ rank (length g) c.args.from) c.in-At.is c.loop-next.invariant.less in
    record {
      less = omega (arith, less, old);
      reached = later_reached g _ c.behind-next.result c.behind-next.ensures.later;
      follows = goes_on c.args.f.now g c.loop-next.items.items c.put.new.items.items c.in_ok-item-in-At.item c.in-At.start c.loop-next.next c.behind-next.result c.args.from c.in-At.is c.in_ok-put-in-At.ensures c.in_ok-item-in-At.ensures.stands c.in_ok-item-in-At.ensures.follows c.behind-next.ensures.behind c.loop-next.invariant.follows;
    }

pub groups-loop-arm-preserved : goal.groups-loop-arm-preserved
groups-loop-arm-preserved t c =
    let b = c.into_iter-arm-iterator.ensures.into_iter_gives in
    let turn = YieldsList-turn (YieldsList-from_vec {s = c.into_iter-arm-iterator.result} c.in_ok-arms.arms.items b.0 (b.1 ∙ c.in_ok-arms.arms.ok.0)) c.loop-arm.yielded c.loop-arm.arm-iterator c.loop-arm.yielded_by c.next.result c.next.new.self c.in-Some.arm c.in-Some.is c.next.ensures.steps in
    let done = grouped c.args.f.now c.args.places.now c.args.head c.loop-arm.groups.items c.push.new.self.items _ c.loop-arm.yielded c.in-Some.arm (region_of c.in_ok-body.body) c.along.result c.in_ok-push.ensures.items (group_is _) (arm_is c.args.f.now c.args.places.now c.args.head _ c.in_ok-arms.arms.items c.in-Some.arm c.in_ok-arms.ensures turn) c.along.ensures.carries c.in_ok-body.ensures c.loop-arm.invariant.targets c.loop-arm.invariant.follows in
    record { targets = done.0; follows = done.1 }

pub groups-returns : goal.groups-returns
groups-returns t c =
    let b = c.into_iter-arm-iterator.ensures.into_iter_gives in
    let end = YieldsList-end (YieldsList-from_vec {s = c.into_iter-arm-iterator.result} c.in_ok-arms.arms.items b.0 (b.1 ∙ c.in_ok-arms.arms.ok.0)) c.loop-arm.yielded c.loop-arm.arm-iterator c.loop-arm.yielded_by c.next.result c.next.new.self c.in-None.is c.next.ensures.steps in
    all_grouped c.args.f.now c.args.places.now c.args.head c.loop-arm.groups.items c.loop-arm.yielded c.in_ok-arms.arms.items c.requires.switch c.in_ok-arms.ensures end.0 c.loop-arm.invariant.targets c.loop-arm.invariant.follows
