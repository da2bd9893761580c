use Rattle.std.proofs.Common.{rules, ◌≡◌, ◌∷◌, [], filter, sym, subst}
use Rattle.std.proofs.lemmas.List.Elements.{All-rest, filter-append}
use Rattle.std.specs.List.{AllZip}
use Rattle.std.specs.Vec.Iter.{into_iter_items}
use Rattle.use_chains.specs.Small.{IsSmall}
use Rattle.function_plan.specs.Plans.{IsPlanned}
use Rattle.unit_text.specs.Reached.{is_among}
use Rattle.unit_text.proofs.plans.plans_with.Goals as goal

pub loop-own-preserved : goal.loop-own-preserved
loop-own-preserved g c =
    let front : into_iter_items c.loop-own.own-iterator ≡ c.in-Some.own ∷ into_iter_items c.next.new.self = search rules in
    let planned = c.in_ok-add_next.ensures.plans.each (filter (is_among c.args.ids.now) c.loop-own.yielded) c.loop-own.invariant.2 in (
      search rules,
      All-rest IsSmall c.in-Some.own (into_iter_items c.next.new.self) (into_iter_items c.loop-own.own-iterator) front c.loop-own.invariant.1,
      subst (λ fs. AllZip (IsPlanned c.args.«module».now) fs c.add_next.new.plans.items) (sym (filter-append (is_among c.args.ids.now) c.loop-own.yielded (c.in-Some.own ∷ []))) planned,
    )
