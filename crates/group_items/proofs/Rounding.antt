-- Whole rounds, one after another.
use Rattle.std.proofs.Common.{◌≡◌, ℕ, suc, ◌-◌, ◌<◌, ◌≤◌, Bool, List, length, sym, ◌∙◌, subst, ⊎_elim, arith}
use Rattle.std.proofs.lemmas.Bool.{cases_lt}
use Rattle.std.proofs.lemmas.List.{take_all}
use Rattle.traces.specs.Events as trace
use Rattle.group_items.specs.declared.play.Play.{Play}
use Rattle.group_items.specs.Events.{events_of, weight_of}
use Rattle.group_items.specs.Sides.{Runs, Begun}
use Rattle.group_items.specs.Schedule.{Setup, Goes, turn, rounds, most_weight}
use Rattle.group_items.specs.Playing.{IsAt}
use Rattle.group_items.specs.Played.{IsThrough}
use Rattle.group_items.proofs.States.{goes_then}

pub round_more : (d : Setup) (runs : Runs) (old mid new : List (ℕ × trace.Event)) (w : Bool) (n : ℕ) → Goes d runs old (rounds d.count n) mid → IsThrough d runs mid (turn d.count) (length (turn d.count)) new w → Goes d runs old (rounds d.count (suc n)) new
round_more d runs old mid new w n a t = goes_then d runs old mid new (rounds d.count n) (turn d.count) a (subst (λ xs. Goes d runs mid xs new) (take_all (length (turn d.count)) (turn d.count) (omega arith)) t.goes)

module _ (d : Setup) (runs : Runs) (at at' : ℕ → Begun) (p p' : Play) (a : IsAt d at p) (b : IsAt d at' p') (items : List ℕ) (n : ℕ) (w : Bool) (t : IsThrough d runs (events_of p.events.items) items n (events_of p'.events.items) w) where
  -- a round with a move leaves less to be weighed
  pub lighter : (p'.weight ≡ p.weight → ⊥) → most_weight - p'.weight < most_weight - p.weight
  lighter apart =
      let rises : weight_of (events_of p.events.items) ≤ weight_of (events_of p'.events.items) = t.rises in
      let was : p.weight ≡ weight_of (events_of p.events.items) = a.weighs in
      let is : p'.weight ≡ weight_of (events_of p'.events.items) = b.weighs in
      let light : p'.weight ≤ most_weight = b.light in
      let more : p.weight < p'.weight = more_of (omega (arith, rises, was, is)) in
      omega (arith, more, light)
    where
      more_of : p.weight ≤ p'.weight → p.weight < p'.weight
      more_of le = ⊎_elim (λ less. less) (λ ge. absurd (apart (omega (arith, le, ge)))) (cases_lt p.weight p'.weight)

  pub same_weight : p'.weight ≡ p.weight → weight_of (events_of p'.events.items) ≡ weight_of (events_of p.events.items)
  same_weight e = sym b.weighs ∙ e ∙ a.weighs
