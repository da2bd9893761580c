use Rattle.std.proofs.Common.{rules, ◌≡◌, length, None, Some, refl, ◌∙◌, ap, cond}
use Rattle.std.proofs.lemmas.Bool.{eq-eqb}
use Rattle.std.specs.BTreeMap.{get}
use Rattle.std.specs.Ordering.{nat_cmp}
use Rattle.id_map.specs.Entries.{slot_in}
use Rattle.id_map.proofs.Words.{word_written}
use Rattle.id_map.proofs.places.PlaceMap.remove.Goals as goal

pub returns-in-Some : goal.returns-in-Some
returns-in-Some c =
    let at : slot_in c.args.self.now.least (length c.args.self.now.slots.items) c.args.id ≡ Some c.in-Some.k = search rules in
    let left = c.drop_other.ensures in
    let now = get nat_cmp c.drop_other.new.self.others in
    let was = get nat_cmp c.args.self.now.others in
    rw (left.least, left.slots)
    (word_written c.args.self.now.least c.args.self.now.slots.items was now c.args.id c.in-Some.k 4294967295 None at (left.others c.args.id ∙ ap (λ b. cond b None (was c.args.id)) (eq-eqb c.args.id c.args.id refl)) (λ other differs. left.others other ∙ ap (λ b. cond b None (was other)) differs))
