-- A text whose runs are matched at each number of turns preserves what the module does.
use Rattle.std.proofs.Common.{◌≡◌, ℕ, zero, suc, ◌+◌, ◌≤◌, List, [], ◌++◌, ◌⊎◌, inl, inr, ⊎_elim, refl, sym, ap, ◌∙◌, subst, arith, append_assoc}
use Rattle.std.proofs.lemmas.List.{append-nil}
use Rattle.std.proofs.lemmas.Bool.{cases_lt}
use Rattle.traces.specs.Events.{Event}
use Rattle.traces.specs.Runs.{Status, running, ended, waiting, undefined, Run, made, Move, go, stop, wait, wrong, before, after, exec}
use Rattle.traces.specs.Simulation.{IsPrefix}
use Rattle.traces.specs.Preservation.{TextEnd, has_ended, was_cut, is_waiting, is_stuck, TextRun, text_made, BecomesUndefined, PreservesEvents, FailsWithin, MatchesOrFails}
use Rattle.traces.proofs.Moves.{prefix_under}

abbrev IsOver : Status → Type 0
IsOver running = ⊥
IsOver ended = Unit {0}
IsOver waiting = Unit {0}
IsOver undefined = Unit {0}

pub prefix_all : (e : List Event) → IsPrefix e e
prefix_all e = ([], sym (append-nil e))

pub prefix_trans : (p e f : List Event) → IsPrefix p e → IsPrefix e f → IsPrefix p f
prefix_trans p e f a b = (a.0 ++ b.0, b.1 ∙ ap (λ l. l ++ b.0) a.1 ∙ append_assoc p a.0 b.0)

module _ (C : Type 0) (step : C → Move C) where
  over_after : (f g : C → Run) → ((d : C) → IsOver (f d).status → g d ≡ f d) → (m : Move C) → IsOver (after m f).status → after m g ≡ after m f
  over_after f g h (go e d) o = ap (before e) (h d o)
  over_after f g h stop o = refl
  over_after f g h wait o = refl
  over_after f g h wrong o = refl

  -- a run that is over stays as it is
  pub over_same : (n m : ℕ) → n ≤ m → (c : C) → IsOver (exec step n c).status → exec step m c ≡ exec step n c
  over_same zero m le c o = absurd o
  over_same (suc n) zero le c o = absurd (omega arith)
  over_same (suc n) (suc m) le c o = over_after (exec step n) (exec step m) (over_same n m (omega arith)) (step c) o

  prefix_after : (f g : C → Run) → ((d : C) → IsPrefix (f d).events (g d).events) → (m : Move C) → IsPrefix (after m f).events (after m g).events
  prefix_after f g h (go e d) = prefix_under e (f d).events (g d).events (h d)
  prefix_after f g h stop = ([], refl)
  prefix_after f g h wait = ([], refl)
  prefix_after f g h wrong = ([], refl)

  -- more steps only add events
  pub prefix_longer : (n m : ℕ) → n ≤ m → (c : C) → IsPrefix (exec step n c).events (exec step m c).events
  prefix_longer zero m le c = ((exec step m c).events, refl)
  prefix_longer (suc n) zero le c = absurd (omega arith)
  prefix_longer (suc n) (suc m) le c = prefix_after (exec step n) (exec step m) (prefix_longer n m (omega arith)) (step c)

  module _ (c : C) where
    -- two runs that are over are one
    two_over : (n m : ℕ) (e f : List Event) (s t : Status) → IsOver s → IsOver t → exec step n c ≡ made e s → exec step m c ≡ made f t → made e s ≡ made f t
    two_over n m e f s t o p a b =
        ⊎_elim
        (λ lt. sym a ∙ sym (over_same n m (omega arith) c (subst (λ r. IsOver r.status) (sym a) o)) ∙ b)
        (λ le. sym a ∙ over_same m n le c (subst (λ r. IsOver r.status) (sym b) p) ∙ b)
        (cases_lt n m)

    prefix_of : (n m : ℕ) → n ≤ m → (e f : List Event) (s t : Status) → exec step n c ≡ made e s → exec step m c ≡ made f t → IsPrefix e f
    prefix_of n m le e f s t a b = subst (λ r. IsPrefix r.events f) a (subst (λ r. IsPrefix (exec step n c).events r.events) b (prefix_longer n m le c))

    -- the events of any run are the first of those of one that is over
    prefix_over : (n m : ℕ) (e f : List Event) (s t : Status) → IsOver t → exec step n c ≡ made e s → exec step m c ≡ made f t → IsPrefix e f
    prefix_over n m e f s t p a b =
        ⊎_elim
        (λ lt. prefix_of n m (omega arith) e f s t a b)
        (λ le. let same = sym a ∙ over_same m n le c (subst (λ r. IsOver r.status) (sym b) p) ∙ b in subst (λ r. IsPrefix e r.events) same (prefix_all e))
        (cases_lt n m)

    abbrev runs : ℕ → Run
    runs n = exec step n c

    abbrev pub Four : ℕ → TextRun → Type 0
    Four k t = MatchesOrFails runs k t

    undefined_from : (e : List Event) → FailsWithin runs e → BecomesUndefined runs
    undefined_from e b = record { at = b.at; events = b.events; is = b.is }

    ends_from : (n : ℕ) (e f : List Event) (end : TextEnd) → runs n ≡ made e ended → Four (n + 1) (text_made f end) → text_made f end ≡ text_made e has_ended
    ends_from n e f has_ended h (inl g) = ap (λ (r : Run). text_made r.events has_ended) (two_over g.0 n f e ended ended tt tt g.1 h)
    ends_from n e f was_cut h (inl l) =
        let same = over_same n l.0 (omega (arith, l.1)) c (subst (λ r. IsOver r.status) (sym h) tt) in
        let never : ended ≡ running = ap (λ (r : Run). r.status) (sym h ∙ sym same ∙ l.2) in cc
    ends_from n e f is_waiting h (inl l) = let never : ended ≡ waiting = ap (λ (r : Run). r.status) (two_over n l.0 e f ended waiting tt tt h l.1) in cc
    ends_from n e f is_stuck h (inl l) = absurd l
    ends_from n e f end h (inr b) = let never : ended ≡ undefined = ap (λ (r : Run). r.status) (two_over n b.at e b.events ended undefined tt tt h b.is) in cc

    ends_only_from : (k : ℕ) (e : List Event) (t : TextRun) → Four k t → t ≡ text_made e has_ended → ((j : ℕ) × (runs j ≡ made e ended)) ⊎ BecomesUndefined runs
    ends_only_from k e t h is = ended_only (subst (Four k) is h)
      where
        ended_only : Four k (text_made e has_ended) → ((j : ℕ) × (runs j ≡ made e ended)) ⊎ BecomesUndefined runs
        ended_only (inl g) = inl g
        ended_only (inr b) = inr (undefined_from e b)

    goes_on_from : (n : ℕ) (e : List Event) (s : Status) → runs n ≡ made e s → (f : List Event) (end : TextEnd) → Four (n + 1) (text_made f end) → IsPrefix e f
    goes_on_from n e s h f has_ended (inl g) = prefix_over n g.0 e f s ended tt h g.1
    goes_on_from n e s h f was_cut (inl l) = subst (λ r. IsPrefix r.events f) h (subst (λ r. IsPrefix (exec step n c).events r.events) l.2 (prefix_longer n l.0 (omega (arith, l.1)) c))
    goes_on_from n e s h f is_waiting (inl l) = prefix_over n l.0 e f s waiting tt h l.1
    goes_on_from n e s h f is_stuck (inl l) = absurd l
    goes_on_from n e s h f end (inr b) = prefix_trans e b.events f (prefix_over n b.at e b.events s undefined tt h b.is) b.no_more

    no_more_from : (k : ℕ) (f : List Event) (end : TextEnd) → Four k (text_made f end) → ((j : ℕ) × IsPrefix f (runs j).events) ⊎ BecomesUndefined runs
    no_more_from k f has_ended (inl g) = inl (g.0, subst (λ r. IsPrefix f r.events) (sym g.1) (prefix_all f))
    no_more_from k f was_cut (inl l) = inl (l.0, subst (λ r. IsPrefix f r.events) (sym l.2) (prefix_all f))
    no_more_from k f is_waiting (inl l) = inl (l.0, subst (λ r. IsPrefix f r.events) (sym l.1) (prefix_all f))
    no_more_from k f is_stuck (inl l) = absurd l
    no_more_from k f end (inr b) = inr (undefined_from f b)

    never_stuck_from : (BecomesUndefined runs → ⊥) → (k : ℕ) (f : List Event) (end : TextEnd) → Four k (text_made f end) → end ≡ is_stuck → ⊥
    never_stuck_from defined k f end h is = stuck_not (subst (λ x. Four k (text_made f x)) is h)
      where
        stuck_not : Four k (text_made f is_stuck) → ⊥
        stuck_not (inl l) = l
        stuck_not (inr b) = defined (undefined_from f b)

    pub preserves_from : (of_text : ℕ → TextRun) → ((k : ℕ) → Four k (of_text k)) → PreservesEvents runs of_text
    preserves_from of_text four = record {
      ends = λ n e h. ends_from n e (of_text (n + 1)).events (of_text (n + 1)).end h (four (n + 1));
      ends_only = λ k e is. ends_only_from k e (of_text k) (four k) is;
      goes_on = λ n e s _ h. goes_on_from n e s h (of_text (n + 1)).events (of_text (n + 1)).end (four (n + 1));
      never_stuck = λ defined k. never_stuck_from defined k (of_text k).events (of_text k).end (four k);
      makes_no_more = λ k. no_more_from k (of_text k).events (of_text k).end (four k);
    }
