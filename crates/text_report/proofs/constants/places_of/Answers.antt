use Rattle.std.proofs.Common.{◌≡◌, ◌+◌, ℕ, Some, None, true, false, is_some, rules, get_or, take, subst, sym, arith}
use Rattle.std.specs.BTreeMap.{BTreeMap, get}
use Rattle.std.specs.Ordering.{nat_cmp}
use Rattle.glsl_ast.specs.View.{decl_of}
use Rattle.text_report.specs.Constants.{own_id}
use Rattle.text_report.specs.Places.{ArePlaces}
use Rattle.text_report.proofs.Declared.{places_other, places_new, places_old}
use Rattle.text_report.proofs.constants.places_of.Goals as goal
use Rattle.text_report.proofs.constants.places_of.Goals.{in-Some+then-not-contains_key+in_ok-insert, in-Some+else-not-contains_key, in_default}

pub loop-place-preserved : goal.loop-place-preserved
loop-place-preserved c =
    let i = c.loop-place.place in
    let d = c.index-items-place.result in
    let P : BTreeMap ℕ ℕ → Type 0 = λ m. ArePlaces (take (c.loop-place.place + 1) c.args.items.now) (get nat_cmp m) in
    elim c.match-declared_id.branch [
      | in-Some+then-not-contains_key+in_ok-insert w ↦
          let own : own_id (decl_of (get_or c.args.items.now c.loop-place.place c.index-items-place.result)) ≡ Some w.in-Some.id = cc in
          let absent : is_some (get nat_cmp c.loop-place.places w.in-Some.id) ≡ false = search rules in
          subst P (sym w.places-is) (places_new c.args.items.now i d (omega arith) w.in-Some.id own (get nat_cmp c.loop-place.places) (get nat_cmp w.insert.new.self) absent (λ key. w.in_ok-insert.ensures.updates.0 key) c.loop-place.invariant)
      | in-Some+else-not-contains_key w ↦
          let own : own_id (decl_of (get_or c.args.items.now c.loop-place.place c.index-items-place.result)) ≡ Some w.in-Some.id = cc in
          let present : is_some (get nat_cmp c.loop-place.places w.in-Some.id) ≡ true = search rules in
          subst P (sym w.places-is) (places_old c.args.items.now i d (omega arith) w.in-Some.id own (get nat_cmp c.loop-place.places) present c.loop-place.invariant)
      | in_default w ↦
          let none : own_id (decl_of (get_or c.args.items.now c.loop-place.place c.index-items-place.result)) ≡ None = cc in
          subst P (sym w.places-is) (places_other c.args.items.now i d (omega arith) (get nat_cmp c.loop-place.places) none c.loop-place.invariant)
    ]
