-- Dispatches whose invocations run alike come to the same.
use Rattle.std.proofs.Common.{◌≡◌, ◌∙◌, ℕ, List, [], sym, subst}
use Rattle.std.specs.Prelude.{Option}
use Rattle.traces.specs.Events as trace
use Rattle.traces.specs.Invocations.{Triple}
use Rattle.dispatch_semantics.specs.Store.{Store}
use Rattle.dispatch_semantics.specs.Dispatch.{State, Side, of_module, IsMove, HasEnded, IsStay, DispatchRun}
use Rattle.group_items.specs.Sides.{Runs}
use Rattle.group_items.specs.Schedule.{Setup, number_of, first_state, side, now, Goes, IsStillRound, HasEndedFreely, IsNeither, EndsBy, Comes, IsTooMuch}
use Rattle.group_items.specs.declared.schedule.End.{End}
use Rattle.group_items.specs.declared.schedule.End.TheVariants.{Ended, Waiting, Undefined, Cut}
use Rattle.dispatch_case.specs.Cases.{CaseParts}
use Rattle.group_sched.specs.Start.{setup_of}
use Rattle.run_lines.specs.Said.{IsSaid}

module _ (d : Setup) (old new : Runs) (same : (i : ℕ) (answers : List (List ℕ)) → old (d.told i) answers ≡ new (d.told i) answers) where
  sides : side d old ≡ side d new
  sides = λ k i answers. of_module (same i answers k)

  still_same : (first items : List ℕ) (s : State) → IsStillRound d old first items s → IsStillRound d new first items s
  still_same first items s h = (h.0, λ i less. subst (λ (x : Side). IsStay d.count (number_of d) x s i) sides (h.1 i less))

  freely_same : (s : State) (i : ℕ) → HasEndedFreely d old s i → HasEndedFreely d new s i
  freely_same s i h = record { ended = subst (λ (x : Side). HasEnded d.count (number_of d) x s i) sides h.ended; may = h.may }

  neither_same : (s : State) (i : ℕ) → IsNeither d old s i → IsNeither d new s i
  neither_same s i h = record {
    no_move = λ e move. h.no_move e (subst (λ (x : Side). IsMove d.count (number_of d) x s i e) (sym sides) move);
    no_stay = λ stay. h.no_stay (subst (λ (x : Side). IsStay d.count (number_of d) x s i) (sym sides) stay);
  }

  ends_same : (first items : List ℕ) (s : State) (end : End) → EndsBy d old first items s end → EndsBy d new first items s end
  ends_same first items s Ended h = (still_same first items s h.0, λ i less. freely_same s i (h.1 i less))
  ends_same first items s Waiting h = (still_same first items s h.0, h.1)
  ends_same first items s (Undefined i) h = (h.0, (neither_same s i h.1.0, sym (same i (s.past i).answers) ∙ h.1.1))
  ends_same first items s (Cut i) h = (h.0, (neither_same s i h.1.0, λ undefined. h.1.1 (same i (s.past i).answers ∙ undefined)))

  pub comes_same : (first : List ℕ) (events : List (ℕ × trace.Event)) (store : Store) (end : End) → Comes d old first events store end → Comes d new first events store end
  comes_same first events store end h = record {
    items = h.items;
    run = subst (λ (x : Side). DispatchRun d.count (number_of d) x (first_state d) h.items events store) sides h.run;
    ends = ends_same first h.items (now d events) end h.ends;
  }

  goes_same : (events : List (ℕ × trace.Event)) (items : List ℕ) (more : List (ℕ × trace.Event)) → Goes d old events items more → Goes d new events items more
  goes_same events items more h = record {
    more = h.more;
    is = h.is;
    run = subst (λ (x : Side). DispatchRun d.count (number_of d) x (now d events) items h.more (now d more).store) sides h.run;
  }

  too_much_by : (first : List ℕ) → IsTooMuch d old first → IsTooMuch d new first
  too_much_by first h = record { items = h.items; rounds = h.rounds; rest = h.rest; is = h.is; events = h.events; run = goes_same [] h.items h.events h.run; above = h.above }

pub too_much_same : (d : Setup) (old new : Runs) (first : List ℕ) → ((i : ℕ) (answers : List (List ℕ)) → old (d.told i) answers ≡ new (d.told i) answers) → IsTooMuch d old first → IsTooMuch d new first
too_much_same d old new first same h = too_much_by d old new same first h

pub said_same : (c : CaseParts) (size : Triple) (special : ℕ → Option ℕ) (old new : Runs) (text : List ℕ) → ((i : ℕ) (answers : List (List ℕ)) → old ((setup_of c size special).told i) answers ≡ new ((setup_of c size special).told i) answers) → IsSaid c size special old text → IsSaid c size special new text
said_same c size special old new text same h = record {
  events = h.events;
  store = h.store;
  end = h.end;
  comes = comes_same (setup_of c size special) old new same c.first h.events h.store h.end h.comes;
  few = h.few;
  light = h.light;
  lines = h.lines;
}
