use Rattle.std.proofs.Common.{◌≡◌, Bool, Some, cond, subst}
use Rattle.std.specs.HashMap.{get}
use Rattle.name_alloc.specs.declared.claims.Key.{Key}
use Rattle.name_alloc.proofs.Keyed.{eq_same}
use Rattle.name_alloc.proofs.Placed.{put_other}
use Rattle.name_alloc.proofs.places.Places.put.Goals as goal

pub returns-in_ok-insert-in_default : goal.returns-in_ok-insert-in_default
returns-in_ok-insert-in_default c =
    let old = c.args.self.now in
    let more = c.insert-in_default.new.self in
    put_other old more c.args.key c.args.place c.in_default.not-Id
    (subst (λ (eq : Key → Key → Bool). (k : Key) → get eq more k ≡ cond (eq c.args.key k) (Some c.args.place) (get eq old.others k)) eq_same c.in_ok-insert-in_default.ensures.updates.0)
