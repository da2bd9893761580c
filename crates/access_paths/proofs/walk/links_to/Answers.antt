use Rattle.std.proofs.Common.{◌≡◌, ◌<◌, ◌≤◌, ◌++◌, ℕ, List, Option, Some, length, ap, sym, ◌∙◌, arith}
use Rattle.std.specs.Prelude.{reverse}
use Rattle.access_paths.specs.declared.link.Link.{Link}
use Rattle.access_paths.specs.Links.{IsIn, way_in}
use Rattle.access_paths.proofs.Pushes.{IsStep, at_place, in_more, falls, walked, way_to_none}
use Rattle.access_paths.proofs.walk.links_to.Goals as goal

inside_of : (n k : ℕ) (next : Option ℕ) → next ≡ Some k → IsIn n next → k < n
inside_of n k next here inside = rw here at inside

pub loop-next-smaller : goal.loop-next-smaller
loop-next-smaller c =
    let ls : List Link = c.args.links.now in
    let k = c.in-Some.place in
    let x : Link = c.index-links-place.result in
    let step : IsStep (way_in ls) k x = at_place ls k x c.index-links-place.is c.requires.back (inside_of (length ls) k c.loop-next.next c.in-Some.is c.loop-next.invariant.within) in
    falls c.loop-next.next x.before k c.in-Some.is step.before

pub loop-next-preserved : goal.loop-next-preserved
loop-next-preserved c =
    let ls : List Link = c.args.links.now in
    let k = c.in-Some.place in
    let x : Link = c.index-links-place.result in
    let inside : k < length ls = inside_of (length ls) k c.loop-next.next c.in-Some.is c.loop-next.invariant.within in
    let le : k ≤ length ls = omega (arith, inside) in
    let step : IsStep (way_in ls) k x = at_place ls k x c.index-links-place.is c.requires.back inside in
    record {
      within = in_more k (length ls) x.before le step.before;
      parts = walked ls c.loop-next.way.items c.push.new.self.items (way_in ls c.args.last) c.loop-next.next k x c.in-Some.is step c.in_ok-push.ensures.items c.loop-next.invariant.parts;
    }

pub returns : goal.returns
returns c =
    c.reverse.ensures.items
    ∙ ap (λ (ls : List Link). ls ++ reverse c.loop-next.way.items) (sym (ap (way_in c.args.links.now) c.in_default.is ∙ way_to_none (reverse c.args.links.now)))
    ∙ c.loop-next.invariant.parts
