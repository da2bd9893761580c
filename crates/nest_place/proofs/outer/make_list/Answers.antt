use Rattle.nest_place.proofs.Sharing.{bounds_more}
use Rattle.nest_place.proofs.outer.make_list.Goals as goal

pub returns-in_ok-own-in-Some : goal.returns-in_ok-own-in-Some
returns-in_ok-own-in-Some c =
    bounds_more c.args.rings.now c.args.place c.args.parts.now.items c.whole_list.new.parts.items c.args.bounds.now.items c.in_ok-own-in-Some.own c.in-Some.ring c.requires.place c.requires.bounds c.in_ok-own-in-Some.ensures.kept c.in_ok-own-in-Some.ensures.own c.in-Some.ensures
