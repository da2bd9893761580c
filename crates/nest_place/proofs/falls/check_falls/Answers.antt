use Rattle.std.proofs.Common.{◌≡◌, ◌==◌, length, true, rules, sym, subst}
use Rattle.structure_rules.specs.Nesting.{Links}
use Rattle.structure_rules.specs.Structure.{fall_links}
use Rattle.nest_place.specs.Cycles.{AreInverse}
use Rattle.nest_place.proofs.Falling.{no_next, no_last, none_next, none_last, none_cyclic}
use Rattle.nest_place.proofs.Turning.{inverse}
use Rattle.nest_place.proofs.Verdict.{fine_10, fine_11, all_fine}
use Rattle.nest_place.proofs.falls.check_falls.Goals as goal

pub heights-requires : goal.heights-requires
heights-requires c =
    subst (λ next. AreInverse next c.deref-4.result.now) (sym c.deref-3.ensures.value)
    (subst (λ last. AreInverse c.in_ok-next.next.items last) (sym c.deref-4.ensures.value)
    (inverse (fall_links c.args.nest.now) c.in_ok-next.next.items c.in_ok-last.last.items c.in_ok-next.ensures.table c.in_ok-next.ensures.single c.in_ok-last.ensures.table))

pub returns-then-is_empty-clause-next : goal.returns-then-is_empty-clause-next
returns-then-is_empty-clause-next c =
    let none : (length c.in_ok-links.links.items == 0) ≡ true = search rules in
    no_next c.in_ok-links.links.items c.args.nest.now c.new.result.items c.in_ok-links.ensures none c.new.ensures.items

pub returns-then-is_empty-clause-last : goal.returns-then-is_empty-clause-last
returns-then-is_empty-clause-last c =
    let none : (length c.in_ok-links.links.items == 0) ≡ true = search rules in
    no_last c.in_ok-links.links.items c.args.nest.now c.new-then-is_empty.result.items c.in_ok-links.ensures none c.new-then-is_empty.ensures.items

pub returns-then-is_empty-clause-passes : goal.returns-then-is_empty-clause-passes
returns-then-is_empty-clause-passes c =
    let links : Links = c.in_ok-links.links.items in
    let none : (length links == 0) ≡ true = search rules in
    let is : links ≡ fall_links c.args.nest.now = c.in_ok-links.ensures in
    let g = c.args.nest.now in
    all_fine g (fine_11 g (fine_10 g c.requires.earlier (none_next links g is none)) (none_last links g is none)) (none_cyclic links g is none)
