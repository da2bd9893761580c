-- How runs compose: a machine that follows the parts of a text follows the whole.
use Rattle.std.proofs.Common.{◌≡◌, ℕ, zero, suc, ◌+◌, ◌≤◌, List, [], ◌++◌, inl, inr, refl, sym, ap, ◌∙◌, arith, append_assoc}
use Rattle.traces.specs.Events.{Event}
use Rattle.traces.specs.Runs.{Status, running, waiting as is_waiting, undefined, Run, made, Move, go, wrong, before, after, exec}
use Rattle.traces.specs.Outcomes.{Outcome, normal, breaks, continues, returns, cut, waits, stuck, events_of, begun, then_do, next_turn, turns}
use Rattle.traces.specs.Simulation.{IsPrefix, Comes, Fails, Lands, Follows}

before_before : (e f : List Event) (r : Run) → before e (before f r) ≡ before (e ++ f) r
before_before e f r = ap (λ l. made l r.status) (sym (append_assoc e f r.events))

pub prefix_on : (p e f : List Event) → IsPrefix p e → IsPrefix p (e ++ f)
prefix_on p e f h = (h.0 ++ f, ap (λ l. l ++ f) h.1 ∙ append_assoc p h.0 f)

pub prefix_under : (d p e : List Event) → IsPrefix p e → IsPrefix (d ++ p) (d ++ e)
prefix_under d p e h = (h.0, ap (λ l. d ++ l) h.1 ∙ sym (append_assoc d p h.0))

pub begun_none : {S R : Type 0} → (o : Outcome S R) → begun [] o ≡ o
begun_none (normal e s) = refl
begun_none (breaks e s) = refl
begun_none (continues e s) = refl
begun_none (returns e v s) = refl
begun_none (cut e) = refl
begun_none (waits e) = refl
begun_none (stuck e) = refl

module _ (C : Type 0) (step : C → Move C) where
  pub stays : (c : C) → Comes C step 0 c [] c
  stays c = record { by = λ n. (n, omega arith, refl) }

  pub one_step : (c d : C) (e : List Event) → step c ≡ go e d → Comes C step 1 c e d
  one_step c d e h = record { by = λ n. (suc n, omega arith, ap (λ m. after m (exec step n)) h) }

  pub comes_on : (v w : ℕ) (c d x : C) (e f : List Event) → Comes C step v c e d → Comes C step w d f x → Comes C step (v + w) c (e ++ f) x
  comes_on v w c d x e f a b =
      record { by = λ n. let j = b.by n in let i = a.by j.0 in (i.0, omega (arith, i.1, j.1), i.2 ∙ ap (before e) j.2 ∙ before_before e f (exec step n x)) }

  pub fewer : (v w : ℕ) (c d : C) (e : List Event) → w ≤ v → Comes C step v c e d → Comes C step w c e d
  fewer v w c d e le a = record { by = λ n. let j = a.by n in (j.0, omega (arith, j.1), j.2) }

  pub run_on : (v : ℕ) (c d : C) (e f : List Event) (s : Status) (n : ℕ) → Comes C step v c e d → exec step n d ≡ made f s → (j : ℕ) × (v + n ≤ j) × (exec step j c ≡ made (e ++ f) s)
  run_on v c d e f s n a h = let j = a.by n in (j.0, j.1, j.2 ∙ ap (before e) h)

  pub fails_on : (v : ℕ) (c d : C) (e f : List Event) → Comes C step v c e d → Fails C step d f → Fails C step c (e ++ f)
  fails_on v c d e f a b =
      let j = run_on v c d e b.events undefined b.at a b.is in
      record { at = j.0; events = e ++ b.events; is = j.2; no_more = prefix_under e b.events f b.no_more }

  pub fails_more : (c : C) (e f : List Event) → Fails C step c e → Fails C step c (e ++ f)
  fails_more c e f a = record { at = a.at; events = a.events; is = a.is; no_more = prefix_on a.events e f a.no_more }

  pub fails_now : (c : C) (e : List Event) → step c ≡ wrong → Fails C step c e
  fails_now c e h = record { at = 1; events = []; is = ap (λ m. after m (exec step 0)) h; no_more = (e, refl) }

  pub lands_on : (v w : ℕ) (c d : C) (e f : List Event) (P : C → Type 0) → Comes C step v c e d → Lands C step w d f P → Lands C step (v + w) c (e ++ f) P
  lands_on v w c d e f P a b = record { to = b.to; comes = comes_on v w c d b.to e f a b.comes; holds = b.holds }

  pub lands_in : (v w : ℕ) (c : C) (e : List Event) (P : C → Type 0) → w ≤ v → Lands C step v c e P → Lands C step w c e P
  lands_in v w c e P le b = record { to = b.to; comes = fewer v w c b.to e le b.comes; holds = b.holds }

module _ (C : Type 0) (step : C → Move C) (S R : Type 0) where
  abbrev pub Never : C → S → Type 0
  Never c s = ⊥

  abbrev pub NeverGives : C → R → S → Type 0
  NeverGives c v s = ⊥

  module _ (N L A : C → S → Type 0) (G : C → R → S → Type 0) where
    abbrev F : ℕ → ℕ → C → Outcome S R → Type 0
    F = Follows C step S R N L A G

    pub after_coming : (v w q p : ℕ) (c d : C) (e : List Event) (o : Outcome S R) → p ≤ v + q → Comes C step v c e d → F w q d o → F (v + w) p c (begun e o)
    after_coming v w q p c d e (normal f s) le a (inl l) = inl (lands_on C step v w c d e f (λ x. N x s) a l)
    after_coming v w q p c d e (breaks f s) le a (inl l) = inl (lands_in C step (v + 0) 0 c (e ++ f) (λ x. L x s) (omega arith) (lands_on C step v 0 c d e f (λ x. L x s) a l))
    after_coming v w q p c d e (continues f s) le a (inl l) = inl (lands_on C step v w c d e f (λ x. A x s) a l)
    after_coming v w q p c d e (returns f r s) le a (inl l) = inl (lands_in C step (v + 0) 0 c (e ++ f) (λ x. G x r s) (omega arith) (lands_on C step v 0 c d e f (λ x. G x r s) a l))
    after_coming v w q p c d e (cut f) le a (inl l) = let j = run_on C step v c d e f running l.0 a l.2 in inl (j.0, omega (arith, j.1, l.1), j.2)
    after_coming v w q p c d e (waits f) le a (inl l) = let j = run_on C step v c d e f is_waiting l.0 a l.1 in inl (j.0, j.2)
    after_coming v w q p c d e (stuck f) le a (inl l) = absurd l
    after_coming v w q p c d e (normal f s) le a (inr b) = inr (fails_on C step v c d e f a b)
    after_coming v w q p c d e (breaks f s) le a (inr b) = inr (fails_on C step v c d e f a b)
    after_coming v w q p c d e (continues f s) le a (inr b) = inr (fails_on C step v c d e f a b)
    after_coming v w q p c d e (returns f r s) le a (inr b) = inr (fails_on C step v c d e f a b)
    after_coming v w q p c d e (cut f) le a (inr b) = inr (fails_on C step v c d e f a b)
    after_coming v w q p c d e (waits f) le a (inr b) = inr (fails_on C step v c d e f a b)
    after_coming v w q p c d e (stuck f) le a (inr b) = inr (fails_on C step v c d e f a b)

    pub weaker : (v w q : ℕ) (c : C) (o : Outcome S R) → w ≤ v → F v q c o → F w q c o
    weaker v w q c (normal e s) le (inl l) = inl (lands_in C step v w c e _ le l)
    weaker v w q c (breaks e s) le (inl l) = inl l
    weaker v w q c (continues e s) le (inl l) = inl (lands_in C step v w c e _ le l)
    weaker v w q c (returns e r s) le (inl l) = inl l
    weaker v w q c (cut e) le (inl l) = inl l
    weaker v w q c (waits e) le (inl l) = inl l
    weaker v w q c (stuck e) le (inl l) = absurd l
    weaker v w q c (normal e s) le (inr b) = inr b
    weaker v w q c (breaks e s) le (inr b) = inr b
    weaker v w q c (continues e s) le (inr b) = inr b
    weaker v w q c (returns e r s) le (inr b) = inr b
    weaker v w q c (cut e) le (inr b) = inr b
    weaker v w q c (waits e) le (inr b) = inr b
    weaker v w q c (stuck e) le (inr b) = inr b

  pub fails_before : (c : C) (e : List Event) (o : Outcome S R) → Fails C step c e → Fails C step c (events_of (begun e o))
  fails_before c e (normal f s) a = fails_more C step c e f a
  fails_before c e (breaks f s) a = fails_more C step c e f a
  fails_before c e (continues f s) a = fails_more C step c e f a
  fails_before c e (returns f r s) a = fails_more C step c e f a
  fails_before c e (cut f) a = fails_more C step c e f a
  fails_before c e (waits f) a = fails_more C step c e f a
  fails_before c e (stuck f) a = fails_more C step c e f a

  module _ (N L A : C → S → Type 0) (G : C → R → S → Type 0) (P : C → S → Type 0) (v w q : ℕ) (c : C) (f : S → Outcome S R) where
    -- a part after which control goes on alone, or breaks; what follows has the weight
    pub part_then : (o : Outcome S R) → Follows C step S R P L Never G v q c o → ((d : C) (s : S) → P d s → Follows C step S R N L A G w q d (f s)) → Follows C step S R N L A G w q c (then_do o f)
    part_then (normal e s) (inl l) g = weaker N L A G (v + w) w q c (begun e (f s)) (omega arith) (after_coming N L A G v w q q c l.to e (f s) (omega arith) l.comes (g l.to s l.holds))
    part_then (breaks e s) (inl l) g = inl l
    part_then (continues e s) (inl l) g = absurd l.holds
    part_then (returns e r s) (inl l) g = inl l
    part_then (cut e) (inl l) g = inl l
    part_then (waits e) (inl l) g = inl l
    part_then (stuck e) (inl l) g = absurd l
    part_then (normal e s) (inr b) g = inr (fails_before c e (f s) b)
    part_then (breaks e s) (inr b) g = inr b
    part_then (continues e s) (inr b) g = inr b
    part_then (returns e r s) (inr b) g = inr b
    part_then (cut e) (inr b) g = inr b
    part_then (waits e) (inr b) g = inr b
    part_then (stuck e) (inr b) g = inr b

    -- a statement, and what follows it
    pub stmt_then : (o : Outcome S R) → Follows C step S R P L A G v q c o → ((d : C) (s : S) → P d s → Follows C step S R N L A G w q d (f s)) → Follows C step S R N L A G v q c (then_do o f)
    stmt_then (normal e s) (inl l) g = weaker N L A G (v + w) v q c (begun e (f s)) (omega arith) (after_coming N L A G v w q q c l.to e (f s) (omega arith) l.comes (g l.to s l.holds))
    stmt_then (breaks e s) (inl l) g = inl l
    stmt_then (continues e s) (inl l) g = inl l
    stmt_then (returns e r s) (inl l) g = inl l
    stmt_then (cut e) (inl l) g = inl l
    stmt_then (waits e) (inl l) g = inl l
    stmt_then (stuck e) (inl l) g = absurd l
    stmt_then (normal e s) (inr b) g = inr (fails_before c e (f s) b)
    stmt_then (breaks e s) (inr b) g = inr b
    stmt_then (continues e s) (inr b) g = inr b
    stmt_then (returns e r s) (inr b) g = inr b
    stmt_then (cut e) (inr b) g = inr b
    stmt_then (waits e) (inr b) g = inr b
    stmt_then (stuck e) (inr b) g = inr b

  -- H holds at the head of a loop, and M behind it
  module _ (H M L A : C → S → Type 0) (G : C → R → S → Type 0) (k : ℕ) (body : S → Outcome S R) where
    abbrev pub T : ℕ → C → Outcome S R → Type 0
    T m = Follows C step S R M L A G 0 m

    turn_then : (m : ℕ) → suc m ≤ k → ((d : C) (s : S) → H d s → T m d (turns m body s)) → (c : C) (o : Outcome S R) → Follows C step S R H M H G 1 k c o → T (suc m) c (next_turn o (turns m body))
    turn_then m le g c (normal e s) (inl l) = weaker M L A G 1 0 (suc m) c (begun e (turns m body s)) (omega arith) (after_coming M L A G 1 0 m (suc m) c l.to e (turns m body s) (omega arith) l.comes (g l.to s l.holds))
    turn_then m le g c (breaks e s) (inl l) = inl l
    turn_then m le g c (continues e s) (inl l) = weaker M L A G 1 0 (suc m) c (begun e (turns m body s)) (omega arith) (after_coming M L A G 1 0 m (suc m) c l.to e (turns m body s) (omega arith) l.comes (g l.to s l.holds))
    turn_then m le g c (returns e r s) (inl l) = inl l
    turn_then m le g c (cut e) (inl l) = inl (l.0, omega (arith, l.1), l.2)
    turn_then m le g c (waits e) (inl l) = inl l
    turn_then m le g c (stuck e) (inl l) = absurd l
    turn_then m le g c (normal e s) (inr b) = inr (fails_before c e (turns m body s) b)
    turn_then m le g c (breaks e s) (inr b) = inr b
    turn_then m le g c (continues e s) (inr b) = inr (fails_before c e (turns m body s) b)
    turn_then m le g c (returns e r s) (inr b) = inr b
    turn_then m le g c (cut e) (inr b) = inr b
    turn_then m le g c (waits e) (inr b) = inr b
    turn_then m le g c (stuck e) (inr b) = inr b

    pub turns_follow : ((c : C) (s : S) → H c s → Follows C step S R H M H G 1 k c (body s)) → (m : ℕ) → m ≤ k → (c : C) (s : S) → H c s → T m c (turns m body s)
    turns_follow body_follows zero le c s h = inl (0, omega arith, refl)
    turns_follow body_follows (suc m) le c s h = turn_then m le (turns_follow body_follows m (omega arith)) c (body s) (body_follows c s h)
