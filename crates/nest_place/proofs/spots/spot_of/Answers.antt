use Rattle.std.proofs.Common.{◌≡◌, ◌∷◌, [], sym, ◌∙◌, refl}
use Rattle.structure_rules.specs.Nesting.{own_part}
use Rattle.nest_place.proofs.Placing.{parent_known, spot_plain, spot_opened, too_deep, own_read, loose_read}
use Rattle.nest_place.proofs.spots.spot_of.Goals as goal

pub place_of-requires-clause-known : goal.place_of-requires-clause-known
place_of-requires-clause-known c = parent_known c.args.nodes.now c.args.block c.args.role c.args.spots.now c.args.lists.now c.parent_spot-outer.result c.requires.grounded c.requires.reached c.requires.role c.requires.spots c.parent_spot-outer.ensures

pub returns-then-nesting-gt127-clause-limit : goal.returns-then-nesting-gt127-clause-limit
returns-then-nesting-gt127-clause-limit c = (refl, too_deep c.args.nodes.now c.args.block c.args.role c.place_of.new.lists (c.in_ok-place.place, c.in_ok-place.nesting) c.requires.grounded c.requires.inside c.requires.reached c.requires.role c.in_ok-place.ensures.placed c.if-nesting-gt127.true)

pub returns-in-None-clause-spot : goal.returns-in-None-clause-spot
returns-in-None-clause-spot c =
    let none : own_part c.args.nodes.now c.args.block ≡ [] = sym (c.in-None.ensures ∙ own_read c.args.nodes.now c.args.block c.index-nodes-block.result c.requires.inside c.index-nodes-block.is) in
    spot_plain c.args.nodes.now c.args.block c.args.role c.place_of.new.lists (c.in_ok-place.place, c.in_ok-place.nesting) c.looseness.result c.requires.grounded c.requires.reached c.requires.role c.in_ok-place.ensures.placed none (c.looseness.ensures ∙ loose_read c.args.nodes.now c.args.block c.index-nodes-block.result c.requires.inside c.index-nodes-block.is) c.if-nesting-gt127.false

pub returns-in_ok-add-in-Some-clause-spot : goal.returns-in_ok-add-in-Some-clause-spot
returns-in_ok-add-in-Some-clause-spot c =
    let opens : own_part c.args.nodes.now c.args.block ≡ c.in-Some.part ∷ [] = sym (c.in-Some.ensures ∙ own_read c.args.nodes.now c.args.block c.index-nodes-block.result c.requires.inside c.index-nodes-block.is) in
    spot_opened c.args.nodes.now c.args.block c.args.role c.place_of.new.lists c.add.new.self (c.in_ok-place.place, c.in_ok-place.nesting) c.in_ok-add-in-Some.field-0 c.looseness-in-Some.result c.in-Some.part c.requires.grounded c.requires.reached c.requires.role c.in_ok-place.ensures.placed opens c.in_ok-add-in-Some.ensures.lists c.in_ok-add-in-Some.ensures.place (c.looseness-in-Some.ensures ∙ loose_read c.args.nodes.now c.args.block c.index-nodes-block.result c.requires.inside c.index-nodes-block.is) c.if-nesting-gt127.false
