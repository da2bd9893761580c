-- An invocation under way, step by step.
use Rattle.std.proofs.Common.{◌≡◌, ℕ, suc, ◌+◌, ◌-◌, ◌<◌, ◌≤◌, List, [], ◌∷◌, ◌++◌, sym, ap, ◌∙◌, subst, arith, append_assoc, append-nil}
use Rattle.std.specs.Prelude.{Option, Some, None, IfSome}
use Rattle.list_law.proofs.Lists.{none_left, none_right}
use Rattle.traces.specs.Events as trace
use Rattle.traces.specs.Runs as run
use Rattle.traces.specs.Runs.{Run, Status, made, before}
use Rattle.traces.specs.Simulation.{IsPrefix}
use Rattle.dispatch_semantics.specs.Store.{answers_of, AreWords}
use Rattle.dispatch_semantics.specs.Dispatch.{later}
use Rattle.group_items.specs.Sides.{Begun}
use Rattle.group_items.specs.declared.event.Event.{Event}
use Rattle.traces.specs.Invocations.{Invocation}
use Rattle.run_law.specs.Walks.{Walk}
use Rattle.step_run.specs.declared.row.Row.{Row}
use Rattle.step_run.specs.Answers.{answers_in}
use Rattle.step_run.specs.Kept.{told_by, told_events, untold_events, asked_by, begun_of, IsGoing, IsTold}

answers-snoc : (es : List trace.Event) (e : trace.Event) → answers_in (es ++ e ∷ []) ≡ answers_in es ++ answers_of e
answers-snoc [] e = append-nil (answers_of e)
answers-snoc (x ∷ es) e = ap (λ l. answers_of x ++ l) (answers-snoc es e) ∙ sym (append_assoc (answers_of x) (answers_in es) (answers_of e))

before_before : (a b : List trace.Event) (r : Run) → before a (before b r) ≡ before (a ++ b) r
before_before a b r = ap (λ es. made es r.status) (sym (append_assoc a b r.events))

abbrev begun_by : Invocation → List trace.Event → Option Event → Begun
begun_by told es asked = record { told = told; past = record { events = es; answers = answers_in es }; asked = asked_by asked }

-- with an event more that is told
pub later_begun : (old new : Row) (e : trace.Event) → new.inv ≡ old.inv → told_events new ≡ told_events old ++ e ∷ [] → begun_of new ≡ record (begun_of old) { past = later (begun_of old).past e; asked = asked_by new.asked }
later_begun old new e inv told =
    ap (λ v. begun_by (told_by v) (told_events new) new.asked) inv
    ∙ ap (λ es. begun_by (told_by old.inv) es new.asked) told
    ∙ ap (λ as'. record { told = told_by old.inv; past = record { events = told_events old ++ e ∷ []; answers = as' }; asked = asked_by new.asked }) (answers-snoc (told_events old) e)

pub told_begun : (old new : Row) (e : trace.Event) → IsTold old e new → begun_of new ≡ record (begun_of old) { past = later (begun_of old).past e }
told_begun old new e t = later_begun old new e t.inv t.told ∙ ap (λ a. record (begun_of old) { past = later (begun_of old).past e; asked = asked_by a }) t.asked

-- with nothing more that is told
pub same_begun : (old new : Row) → new.inv ≡ old.inv → told_events new ≡ told_events old → begun_of new ≡ record (begun_of old) { asked = asked_by new.asked }
same_begun old new inv told = ap (λ v. begun_by (told_by v) (told_events new) new.asked) inv ∙ ap (λ es. begun_by (told_by old.inv) es new.asked) told

module _ (start : Walk) (steps : ℕ) (r : Row) (here : Walk) (g : IsGoing start steps r here) where
  abbrev es : List trace.Event
  es = told_events r

  abbrev us : List trace.Event
  us = untold_events r

  abbrev past : List (List ℕ)
  past = answers_in es

  abbrev left : ℕ
  left = steps - r.used

  sum : r.used + left ≡ steps
  sum = let le : r.used ≤ steps = g.0 in omega (arith, le)

  now_with : (more : List (List ℕ)) → start (past ++ more) steps ≡ before (es ++ us) (here more left)
  now_with more = ap (λ n. start (past ++ more) n) (sym sum) ∙ g.1.1 more left

  now : start past steps ≡ before (es ++ us) (here [] left)
  now = ap (λ l. start l steps) (sym (append-nil past)) ∙ now_with []

  -- the first event that was not told
  pub made_next : (e : trace.Event) (rest : List trace.Event) → us ≡ e ∷ rest → IsPrefix (es ++ e ∷ []) (start past steps).events
  made_next e rest is =
      let more : List trace.Event = (here [] left).events in
      (rest ++ more, ap (λ (q : Run). q.events) now ∙ ap (λ u. (es ++ u) ++ more) is ∙ append_assoc es (e ∷ rest) more ∙ sym (append_assoc es (e ∷ []) (rest ++ more)))

  pub took_none : (e : trace.Event) (rest : List trace.Event) → us ≡ e ∷ rest → answers_of e ≡ []
  took_none e rest is = none_left (answers_of e) (answers_in rest) (sym (ap answers_in is) ∙ g.1.0)

  pub told_on : (new : Row) (e : trace.Event) → IsTold r e new → IsGoing start steps new here
  told_on new e t = (subst (λ n. n ≤ steps) (sym t.used) g.0, (none_right (answers_of e) (answers_in (untold_events new)) (sym (ap answers_in t.untold) ∙ g.1.0), goes))
    where
      same_past : answers_in (told_events new) ≡ past
      same_past = ap answers_in t.told ∙ answers-snoc es e ∙ ap (λ l. past ++ l) (took_none e (untold_events new) t.untold) ∙ append-nil past

      same_events : es ++ us ≡ told_events new ++ untold_events new
      same_events = ap (λ u. es ++ u) t.untold ∙ sym (append_assoc es (e ∷ []) (untold_events new)) ∙ ap (λ l. l ++ untold_events new) (sym t.told)

      goes : (more : List (List ℕ)) (n : ℕ) → start (answers_in (told_events new) ++ more) (new.used + n) ≡ before (told_events new ++ untold_events new) (here more n)
      goes more n = ap (λ l. start (l ++ more) (new.used + n)) same_past ∙ ap (λ k. start (past ++ more) (k + n)) t.used ∙ g.1.1 more n ∙ ap (λ l. before l (here more n)) same_events

  pub same_on : (new : Row) → new.used ≡ r.used → told_events new ≡ es → untold_events new ≡ us → IsGoing start steps new here
  same_on new used told untold = (subst (λ n. n ≤ steps) (sym used) g.0, (ap answers_in untold ∙ g.1.0, goes))
    where
      goes : (more : List (List ℕ)) (n : ℕ) → start (answers_in (told_events new) ++ more) (new.used + n) ≡ before (told_events new ++ untold_events new) (here more n)
      goes more n =
          ap (λ l. start (answers_in l ++ more) (new.used + n)) told
          ∙ ap (λ k. start (past ++ more) (k + n)) used
          ∙ g.1.1 more n
          ∙ ap (λ l. before (l ++ us) (here more n)) (sym told)
          ∙ ap (λ l. before (told_events new ++ l) (here more n)) (sym untold)

  -- all events are told
  module _ (none : us ≡ []) where
    all_told : (es ++ us) ≡ es
    all_told = ap (λ u. es ++ u) none ∙ append-nil es

    over : (status : Status) → here [] left ≡ made [] status → start past steps ≡ made es status
    over status h = now ∙ ap (before (es ++ us)) h ∙ ap (λ l. made l status) (append-nil (es ++ us) ∙ all_told)

    pub cut_here : r.used ≡ steps → here [] 0 ≡ made [] run.running → start past steps ≡ made es run.running
    cut_here used h = let none_left : left ≡ 0 = omega (arith, used) in over run.running (ap (λ n. here [] n) none_left ∙ h)

    module _ (some : r.used < steps) where
      one_left : left ≡ suc (left - 1)
      one_left = omega (arith, some)

      pub over_here : (status : Status) → ((answers : List (List ℕ)) (n : ℕ) → here answers (suc n) ≡ made [] status) → start past steps ≡ made es status
      over_here status h = over status (ap (λ n. here [] n) one_left ∙ h [] (left - 1))

      pub waits_here : ((n : ℕ) → here [] (suc n) ≡ made [] run.waiting) → start past steps ≡ made es run.waiting
      waits_here h = over run.waiting (ap (λ n. here [] n) one_left ∙ h (left - 1))

      -- a step that asks for nothing
      pub step_on : (new : Row) (next : Walk) (more : List trace.Event) → told_events new ≡ es → untold_events new ≡ more → new.used ≡ r.used + 1 → answers_in more ≡ [] → ((answers : List (List ℕ)) (n : ℕ) → here answers (suc n) ≡ before more (next answers n)) → IsGoing start steps new next
      step_on new next more told untold used free step = (subst (λ n. n ≤ steps) (sym used) (omega (arith, some)), (ap answers_in untold ∙ free, goes))
        where
          goes : (answers : List (List ℕ)) (n : ℕ) → start (answers_in (told_events new) ++ answers) (new.used + n) ≡ before (told_events new ++ untold_events new) (next answers n)
          goes answers n =
              let next_step : new.used + n ≡ r.used + suc n = omega (arith, used) in
              ap (λ l. start (answers_in l ++ answers) (new.used + n)) told
              ∙ ap (λ k. start (past ++ answers) k) next_step
              ∙ g.1.1 answers (suc n)
              ∙ ap (before (es ++ us)) (step answers n)
              ∙ before_before (es ++ us) more (next answers n)
              ∙ ap (λ l. before (l ++ more) (next answers n)) all_told
              ∙ ap (λ l. before (l ++ more) (next answers n)) (sym told)
              ∙ ap (λ l. before (told_events new ++ l) (next answers n)) (sym untold)

      -- the words of what was asked are told with its event
      pub answered_on : (new : Row) (next : Walk) (words : List ℕ) (e : trace.Event) → told_events new ≡ es ++ e ∷ [] → untold_events new ≡ us → new.used ≡ r.used + 1 → answers_of e ≡ words ∷ [] → ((more : List (List ℕ)) (n : ℕ) → here (words ∷ more) (suc n) ≡ before (e ∷ []) (next more n)) → IsGoing start steps new next
      answered_on new next words e told untold used took step = (subst (λ n. n ≤ steps) (sym used) (omega (arith, some)), (ap answers_in untold ∙ g.1.0, goes))
        where
          goes : (more : List (List ℕ)) (n : ℕ) → start (answers_in (told_events new) ++ more) (new.used + n) ≡ before (told_events new ++ untold_events new) (next more n)
          goes more n =
              let next_step : new.used + n ≡ r.used + suc n = omega (arith, used) in
              ap (λ l. start (answers_in l ++ more) (new.used + n)) told
              ∙ ap (λ k. start (answers_in (es ++ e ∷ []) ++ more) k) next_step
              ∙ ap (λ l. start (l ++ more) (r.used + suc n)) (answers-snoc es e ∙ ap (λ l. past ++ l) took)
              ∙ ap (λ l. start l (r.used + suc n)) (append_assoc past (words ∷ []) more)
              ∙ g.1.1 (words ∷ more) (suc n)
              ∙ ap (before (es ++ us)) (step more n)
              ∙ before_before (es ++ us) (e ∷ []) (next more n)
              ∙ ap (λ l. before (l ++ e ∷ []) (next more n)) all_told
              ∙ ap (λ l. before l (next more n)) (sym told ∙ sym (append-nil (told_events new)))
              ∙ ap (λ l. before (told_events new ++ l) (next more n)) (sym (untold ∙ none))

      -- with an answer
      goes_on : (words : List ℕ) (e : trace.Event) → ((n : ℕ) → IsPrefix (e ∷ []) (here (words ∷ []) (suc n)).events) → IsPrefix (es ++ e ∷ []) (start (past ++ words ∷ []) steps).events
      goes_on words e h =
          let first : IsPrefix (e ∷ []) (here (words ∷ []) (suc (left - 1))).events = h (left - 1) in (
            first.0,
            ap (λ (q : Run). q.events) (now_with (words ∷ []))
                ∙ ap (λ n. (es ++ us) ++ (here (words ∷ []) n).events) one_left
                ∙ ap (λ l. (es ++ us) ++ l) first.1
                ∙ ap (λ l. l ++ ((e ∷ []) ++ first.0)) all_told
                ∙ sym (append_assoc es (e ∷ []) first.0),
          )

      by_answer : (words : List ℕ) (o : Option trace.Event) → IfSome o (λ e. (n : ℕ) → IsPrefix (e ∷ []) (here (words ∷ []) (suc n)).events) → IfSome o (λ e. IsPrefix (es ++ e ∷ []) (start (past ++ words ∷ []) steps).events)
      by_answer words None h = tt
      by_answer words (Some e) h = goes_on words e h

      pub asks_here : (a : trace.Access) → ((words : List ℕ) → AreWords words → IfSome (trace.event_of a words) (λ e. (n : ℕ) → IsPrefix (e ∷ []) (here (words ∷ []) (suc n)).events))
          → (words : List ℕ) → AreWords words → IfSome (trace.event_of a words) (λ e. IsPrefix (es ++ e ∷ []) (start (past ++ words ∷ []) steps).events)
      asks_here a h words are = by_answer words (trace.event_of a words) (h words are)
