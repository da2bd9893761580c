-- Every interleaving of a module's invocations is one of its text's: the same events in the same order, and the same memory.
use Rattle.std.proofs.Common.{◌≡◌, ℕ, zero, suc, ◌+◌, ◌<◌, ◌≤◌, ◌==◌, Bool, true, false, List, [], ◌∷◌, ◌++◌, inl, inr, ⊎_elim, refl, sym, ap, ◌∙◌, subst, arith}
use Rattle.traces.specs.Events.{Event}
use Rattle.traces.specs.Runs.{Status, running, ended, waiting, undefined, Run, made, Move, go, stop, wait, wrong, before, after, exec}
use Rattle.traces.specs.Simulation.{IsPrefix}
use Rattle.traces.specs.Preservation.{TextRun, PreservesEvents}
use Rattle.traces.proofs.Clauses.{prefix_all, prefix_trans}
use Rattle.dispatch_semantics.specs.Store.{Store, answers_of, AreAnswers}
use Rattle.dispatch_semantics.specs.Dispatch.{Progress, Side, of_module, of_text, is_ended, Past, State, later, moved, IsMove, HasEnded, IsStay, DispatchRun}

-- one side does all that the other does: its events begin those of the other, and where it has ended the other has ended with the same
pub record Carries (p q : Progress) : Type 0 where
  pub events : IsPrefix p.events q.events
  pub ends : p.has_ended ≡ true → (q.has_ended ≡ true) × (q.events ≡ p.events)

module _ (C : Type 0) (step : C → Move C) where
  abbrev Ran : C → List Event → ℕ → Type 0
  Ran c e n = (j : ℕ) × (j < n) × (exec step j c ≡ made e running)

  -- a run that has lost its meaning was running just before, with the same events
  before_wrong : (n : ℕ) (c : C) (e : List Event) → exec step n c ≡ made e undefined → Ran c e n
  before_wrong zero c e h = let never : running ≡ undefined = ap (λ (r : Run). r.status) h in cc
  before_wrong (suc n) c e h = by_move (before_wrong n) (step c) refl h
    where
      on : (d : C) (f : List Event) → step c ≡ go f d → before f (exec step n d) ≡ made e undefined → Ran d (exec step n d).events n → Ran c e (suc n)
      on d f is g r = (
        suc r.0,
        omega (arith, r.1),
        ap (λ m. after m (exec step r.0)) is ∙ ap (before f) r.2 ∙ ap (λ l. made l running) (ap (λ (r : Run). r.events) g),
      )

      by_move : ((d : C) (f : List Event) → exec step n d ≡ made f undefined → Ran d f n) → (m : Move C) → step c ≡ m → after m (exec step n) ≡ made e undefined → Ran c e (suc n)
      by_move ih (go f d) is g = on d f is g (ih d (exec step n d).events (ap (λ (s : Status). made (exec step n d).events s) (ap (λ (r : Run). r.status) g)))
      by_move ih stop is g = let never : ended ≡ undefined = ap (λ (r : Run). r.status) g in cc
      by_move ih wait is g = let never : waiting ≡ undefined = ap (λ (r : Run). r.status) g in cc
      by_move ih wrong is g = (0, omega arith, ap (λ l. made l running) (ap (λ (r : Run). r.events) g))

  module _ (c : C) (text : ℕ → TextRun) (keeps : PreservesEvents (λ n. exec step n c) text) (more : (k l : ℕ) → k ≤ l → IsPrefix (text k).events (text l).events) where
    by_status : (n : ℕ) (e : List Event) (s : Status) → exec step n c ≡ made e s → IsPrefix e (text (n + 1)).events
    by_status n e running h = keeps.goes_on n e running (inl refl) h
    by_status n e waiting h = keeps.goes_on n e waiting (inr refl) h
    by_status n e ended h = subst (λ (t : TextRun). IsPrefix e t.events) (sym (keeps.ends n e h)) (prefix_all e)
    by_status n e undefined h =
        let j = before_wrong n c e h in
        prefix_trans e (text (j.0 + 1)).events (text (n + 1)).events (keeps.goes_on j.0 e running (inl refl) j.2) (more (j.0 + 1) (n + 1) (omega (arith, j.1)))

    ends_too : (n : ℕ) (e : List Event) (s : Status) → exec step n c ≡ made e s → is_ended s ≡ true → ((of_text (text (n + 1))).has_ended ≡ true) × ((text (n + 1)).events ≡ e)
    ends_too n e ended h i = let same = keeps.ends n e h in (ap (λ (t : TextRun). (of_text t).has_ended) same, ap (λ (t : TextRun). t.events) same)
    ends_too n e running h i = let never : false ≡ true = i in cc
    ends_too n e waiting h i = let never : false ≡ true = i in cc
    ends_too n e undefined h i = let never : false ≡ true = i in cc

    -- within n steps on the one side, and n + 1 turns on the other
    pub carries_from : (n : ℕ) → Carries (of_module (exec step n c)) (of_text (text (n + 1)))
    carries_from n = record {
      events = by_status n (exec step n c).events (exec step n c).status refl;
      ends = λ i. ends_too n (exec step n c).events (exec step n c).status refl i;
    }

answers_append : (as' bs : List (List ℕ)) → AreAnswers as' → AreAnswers bs → AreAnswers (as' ++ bs)
answers_append [] bs a b = b
answers_append (x ∷ as') bs a b = (a.0, answers_append as' bs a.1 b)

-- the answers so far are words
abbrev pub HaveAnswers : State → Type 0
HaveAnswers s = (j : ℕ) → AreAnswers (s.past j).answers

module _ (count : ℕ) (group_of : ℕ → ℕ) (p q : Side) (carried : (i : ℕ) (answers : List (List ℕ)) → i < count → AreAnswers answers → Carries (p i answers) (q i answers)) where
  still_answers : (s : State) (i : ℕ) (e : Event) → HaveAnswers s → AreAnswers (answers_of e) → HaveAnswers (moved count group_of s i e)
  still_answers s i e have words j = by_test (j == i)
    where
      by_test : (t : Bool) → AreAnswers (elim t as (λ b. Past) [ true ↦ later (s.past i) e | false ↦ s.past j ]).answers
      by_test true = answers_append (s.past i).answers (answers_of e) (have i) words
      by_test false = have j

  move_too : (s : State) (i : ℕ) (e : Event) → i < count → HaveAnswers s → IsMove count group_of p s i e → IsMove count group_of q s i e
  move_too s i e lt have m = record {
    allowed = m.allowed;
    found = m.found;
    words = m.words;
    made = prefix_trans _ _ _ m.made (carried i ((s.past i).answers ++ answers_of e) lt (answers_append (s.past i).answers (answers_of e) (have i) m.words)).events;
  }

  ended_too : (s : State) (i : ℕ) → i < count → HaveAnswers s → HasEnded count group_of p s i → HasEnded count group_of q s i
  ended_too s i lt have h = let r = (carried i (s.past i).answers lt (have i)).ends h.ended in record { ended = r.0; all = r.1 ∙ h.all }

  stay_too : (s : State) (i : ℕ) → i < count → HaveAnswers s → IsStay count group_of p s i → IsStay count group_of q s i
  stay_too s i lt have (inl h) = inl (ended_too s i lt have h)
  stay_too s i lt have (inr h) = inr h

  pub every_interleaving : (s : State) → HaveAnswers s → (schedule : List ℕ) (events : List (ℕ × Event)) (store : Store) → DispatchRun count group_of p s schedule events store → DispatchRun count group_of q s schedule events store
  every_interleaving s have [] events store r = r
  every_interleaving s have (i ∷ is) events store r = (
    r.0,
    ⊎_elim
        (λ h. inl (stay_too s i r.0 have h.0, every_interleaving s have is events store h.1))
        (λ h. inr (h.0, h.1, move_too s i h.0 r.0 have h.2, h.3, every_interleaving (moved count group_of s i h.0) (still_answers s i h.0 have h.2.words) is h.1 store h.4))
        r.1,
  )
