use Rattle.std.proofs.Common.{◌≡◌, rules, length, Some}
use Rattle.id_map.specs.Entries.{slot_in}
use Rattle.id_map.proofs.Slots.{written}
use Rattle.id_map.proofs.map.IdMap.remove.Goals as goal

pub returns-in-Some : goal.returns-in-Some
returns-in-Some g c =
    let slots = c.args.self.now.slots.items in
    let at : slot_in c.args.self.now.least (length slots) c.args.id ≡ Some c.in-Some.k = search rules in
    written _ slots _ _ _ _ at
