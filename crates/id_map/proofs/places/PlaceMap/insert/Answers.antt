use Rattle.std.proofs.Common.{rules, ◌≡◌, ◌==◌, false, length, Some, refl, ◌∙◌, ap, cond, arith}
use Rattle.std.proofs.lemmas.Bool.{eq-eqb}
use Rattle.std.proofs.lemmas.Bool.Decides.{nat_tests}
use Rattle.std.specs.BTreeMap.{get}
use Rattle.std.specs.Ordering.{nat_cmp}
use Rattle.id_map.specs.Entries.{slot_in}
use Rattle.id_map.proofs.Words.{word_written}
use Rattle.id_map.proofs.places.PlaceMap.insert.Goals as goal

pub returns-in-Some : goal.returns-in-Some
returns-in-Some c =
    let at : slot_in c.args.self.now.least (length c.args.self.now.slots.items) c.args.id ≡ Some c.in-Some.k = search rules in
    let word : (c.args.place == 4294967295) ≡ false = (let less = c.if-place.true in grind (arith, nat_tests, less)) in
    word_written c.args.self.now.least c.args.self.now.slots.items (get nat_cmp c.args.self.now.others) _ c.args.id c.in-Some.k c.args.place (Some c.args.place) at (ap (λ b. cond b (get nat_cmp c.args.self.now.others c.args.id) (Some c.args.place)) word) (λ other differs. refl)

pub returns-in_ok-put_other-in-Some-2 : goal.returns-in_ok-put_other-in-Some-2
returns-in_ok-put_other-in-Some-2 c =
    let at : slot_in c.args.self.now.least (length c.args.self.now.slots.items) c.args.id ≡ Some c.in-Some.k = search rules in
    let put = c.in_ok-put_other-in-Some-2.ensures in
    let now = get nat_cmp c.put_other.new.self.others in
    let was = get nat_cmp c.args.self.now.others in
    rw (put.least, put.slots)
    (word_written c.args.self.now.least c.args.self.now.slots.items was now c.args.id c.in-Some.k 4294967295 (Some c.args.place) at (put.others c.args.id ∙ ap (λ b. cond b (Some c.args.place) (was c.args.id)) (eq-eqb c.args.id c.args.id refl)) (λ other differs. put.others other ∙ ap (λ b. cond b (Some c.args.place) (was other)) differs))
