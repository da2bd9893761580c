-- What a dispatch comes to is one: moves are, and all that is run is a front of one schedule.
use Rattle.std.proofs.Common.{◌≡◌, ◌≢◌, ◌⊎◌, ◌+◌, ◌<◌, ◌≤◌, ◌==◌, ℕ, zero, suc, Bool, true, false, List, [], ◌∷◌, ◌++◌, inl, inr, ⊎_elim, refl, ap, sym, ◌∙◌, subst, arith, append_assoc, append-nil, map, length}
use Rattle.std.proofs.lemmas.Bool.{cases_lt}
use Rattle.std.specs.Prelude.{Option, Some, None, if◌then◌else◌}
use Rattle.traces.specs.Events as trace
use Rattle.traces.specs.Events.{Event, Access, event_of, reading, updating, read, write, atomic, buffer_barrier, shared_barrier, control_barrier}
use Rattle.traces.specs.Runs as run
use Rattle.traces.specs.Runs.{Run}
use Rattle.traces.specs.Simulation.{IsPrefix}
use Rattle.traces.proofs.Clauses.{prefix_all, prefix_trans}
use Rattle.dispatch_semantics.specs.Store.{Store, IsFound, answers_of, found_at}
use Rattle.dispatch_semantics.specs.Dispatch.{State, is_ended, moved, IsMove, DispatchRun}
use Rattle.group_items.specs.Events.{weight_of}
use Rattle.group_items.specs.Sides.{Runs}
use Rattle.group_items.specs.Schedule.{Setup, number_of, side, first_state, behind, now, turn, rounds, among, schedule, IsStill, IsNeither, Comes, EndsBy, IsTooMuch, most_weight}
use Rattle.group_items.specs.declared.schedule.End.{End}
use Rattle.group_items.specs.declared.schedule.End.TheVariants as ends
use Rattle.group_items.proofs.States.{weight-append}
use Rattle.dispatch_law.specs.Steady.{GoesOn, Branches, AreSteady}

-- Fronts of one list
abbrev IsFront : {A : Type 0} → List A → List A → Type 0
IsFront {A} xs ys = (rest : List A) × (ys ≡ xs ++ rest)

meet : {A : Type 0} (xs ys r s : List A) → xs ++ r ≡ ys ++ s → IsFront xs ys ⊎ IsFront ys xs
meet [] ys r s h = inl (ys, refl)
meet (x ∷ xs) [] r s h = inr (x ∷ xs, refl)
meet (x ∷ xs) (y ∷ ys) r s h =
    let head : x ≡ y = cc in
    let tail : xs ++ r ≡ ys ++ s = cc in
    ⊎_elim (λ p. inl (p.0, λ i. sym head i ∷ p.1 i)) (λ p. inr (p.0, λ i. head i ∷ p.1 i)) (meet xs ys r s tail)

fronts : {A : Type 0} (xs ys l : List A) → IsFront xs l → IsFront ys l → IsFront xs ys ⊎ IsFront ys xs
fronts xs ys l p q = meet xs ys p.0 q.0 (sym p.1 ∙ q.1)

-- what stands next in one list is one
next_is : {A : Type 0} (xs : List A) (a b : A) (r s : List A) → xs ++ a ∷ r ≡ xs ++ b ∷ s → a ≡ b
next_is [] a b r s h = cc
next_is (x ∷ xs) a b r s h = let tail : xs ++ a ∷ r ≡ xs ++ b ∷ s = cc in next_is xs a b r s tail

same_next : (p l : List Event) (a b : Event) → IsPrefix (p ++ a ∷ []) l → IsPrefix (p ++ b ∷ []) l → a ≡ b
same_next p l a b f g = next_is p a b f.0 g.0 (sym (append_assoc p (a ∷ []) f.0) ∙ sym f.1 ∙ g.1 ∙ append_assoc p (b ∷ []) g.0)

-- Events of one access
abbrev words_found : (store : Store) (g : ℕ) → Access → List ℕ
words_found store g (reading at) = map (found_at store g) at
words_found store g (updating o at operands) = found_at store g at ∷ []

read_is : (at : List trace.Location) (words : List ℕ) (e : Event) (t : Bool) → (if t then Some (read at words) else None) ≡ Some e → e ≡ read at words
read_is at words e true h = cc
read_is at words e false h = cc

-- with the words that are found
found_is : (store : Store) (g : ℕ) (a : Access) (words : List ℕ) (e : Event) → event_of a words ≡ Some e → IsFound store g e → words ≡ words_found store g a
found_is store g (reading at) words e is found = subst (IsFound store g) (read_is at words e (length words == length at) is) found
found_is store g (updating o at operands) [] e is found = cc
found_is store g (updating o at operands) (w ∷ []) e is found =
    let same : e ≡ atomic o at operands w = cc in
    let here : w ≡ found_at store g at = subst (IsFound store g) same found in
    ap (λ (n : ℕ). n ∷ []) here
found_is store g (updating o at operands) (w ∷ v ∷ ws) e is found = cc

-- the words that its event has
abbrev words_in : Event → List ℕ
words_in (read at words) = words
words_in (write at words) = words
words_in (atomic o at operands w) = w ∷ []
words_in buffer_barrier = []
words_in shared_barrier = []
words_in control_barrier = []

words_are : (a : Access) (words : List ℕ) (e : Event) → event_of a words ≡ Some e → words ≡ words_in e
words_are (reading at) words e is = sym (ap words_in (read_is at words e (length words == length at) is))
words_are (updating o at operands) [] e is = cc
words_are (updating o at operands) (w ∷ []) e is = let same : e ≡ atomic o at operands w = cc in sym (ap words_in same)
words_are (updating o at operands) (w ∷ v ∷ ws) e is = cc

-- an event takes no answer, or one
answer_kind : (e : Event) → (answers_of e ≡ []) ⊎ ((words : List ℕ) × (answers_of e ≡ words ∷ []))
answer_kind (read at words) = inr (words, refl)
answer_kind (write at words) = inl refl
answer_kind (atomic o at operands w) = inr (w ∷ [], refl)
answer_kind buffer_barrier = inl refl
answer_kind shared_barrier = inl refl
answer_kind control_barrier = inl refl

some_is : {A : Type 0} (x y : A) (o : Option A) → o ≡ Some x → o ≡ Some y → x ≡ y
some_is x y o h k = let both : Some x ≡ Some y = sym h ∙ k in cc

-- Next events of an invocation
module _ (r : List (List ℕ) → Run) (branches : Branches r) (store : Store) (g : ℕ) (p : List Event) (answers : List (List ℕ)) where
  abbrev with_words : List ℕ → List Event
  with_words words = (r (answers ++ words ∷ [])).events

  -- with an answer more, no less is done
  grows_by : (words : List ℕ) (o : Option Event) → GoesOn (r answers) (r (answers ++ words ∷ [])) o → IsPrefix (r answers).events (with_words words)
  grows_by words None same = subst (λ (x : Run). IsPrefix (r answers).events x.events) (sym same) (prefix_all (r answers).events)
  grows_by words (Some e) h = prefix_trans (r answers).events ((r answers).events ++ e ∷ []) (with_words words) (e ∷ [], refl) h

  grows : (words : List ℕ) → IsPrefix (r answers).events (with_words words)
  grows words = ⊎_elim
      (λ same. subst (λ (x : Run). IsPrefix (r answers).events x.events) (sym (same words)) (prefix_all (r answers).events))
      (λ h. grows_by words (event_of h.0 words) (h.1 words))
      (branches answers)

  module _ (a b : Event) where
    abbrev Both : Type 0
    Both = a ≡ b

    -- one of them takes no answer
    from_old : (words : List ℕ) → IsPrefix (p ++ a ∷ []) (r answers).events → IsPrefix (p ++ b ∷ []) (with_words words) → Both
    from_old words f h = same_next p (with_words words) a b (prefix_trans (p ++ a ∷ []) (r answers).events (with_words words) f (grows words)) h

    module _ (v w : List ℕ) (f : IsPrefix (p ++ a ∷ []) (with_words v)) (h : IsPrefix (p ++ b ∷ []) (with_words w)) (a_found : IsFound store g a) (b_found : IsFound store g b) where
      same_words : v ≡ w → Both
      same_words e = same_next p (with_words w) a b (subst (λ (l : List ℕ). IsPrefix (p ++ a ∷ []) (with_words l)) e f) h

      module _ (x : Access) (k l : Event) (k_is : event_of x v ≡ Some k) (l_is : event_of x w ≡ Some l) (k_next : IsPrefix ((r answers).events ++ k ∷ []) (with_words v)) (l_next : IsPrefix ((r answers).events ++ l ∷ []) (with_words w)) where
        equal_events : k ≡ l → Both
        equal_events e = same_words (words_are x v k k_is ∙ ap words_in e ∙ sym (words_are x w l l_is))

        abbrev old : List Event
        old = (r answers).events

        -- what was done before these is what was done without the answer, or more, or less
        at_once : p ≡ old → Both
        at_once same =
            let a_is : a ≡ k = same_next old (with_words v) a k (subst (λ (q : List Event). IsPrefix (q ++ a ∷ []) (with_words v)) same f) k_next in
            let b_is : b ≡ l = same_next old (with_words w) b l (subst (λ (q : List Event). IsPrefix (q ++ b ∷ []) (with_words w)) same h) l_next in
            same_words (
            found_is store g x v k k_is (subst (IsFound store g) a_is a_found)
            ∙ sym (found_is store g x w l l_is (subst (IsFound store g) b_is b_found))
            )

        in_old : (y : Event) (rest : List Event) → old ≡ p ++ y ∷ rest → Both
        in_old y rest is =
            let here : IsPrefix (p ++ y ∷ []) old = (rest, is ∙ sym (append_assoc p (y ∷ []) rest)) in
            same_next p (with_words v) a y f (prefix_trans (p ++ y ∷ []) old (with_words v) here (grows v))
            ∙ sym (same_next p (with_words w) b y h (prefix_trans (p ++ y ∷ []) old (with_words w) here (grows w)))

        past_old : (y : Event) (rest : List Event) → p ≡ old ++ y ∷ rest → Both
        past_old y rest is =
            let here : IsPrefix (old ++ y ∷ []) p = (rest, is ∙ sym (append_assoc old (y ∷ []) rest)) in
            let in_v : IsPrefix p (with_words v) = prefix_trans p (p ++ a ∷ []) (with_words v) (a ∷ [], refl) f in
            let in_w : IsPrefix p (with_words w) = prefix_trans p (p ++ b ∷ []) (with_words w) (b ∷ [], refl) h in
            equal_events (
            sym (same_next old (with_words v) y k (prefix_trans (old ++ y ∷ []) p (with_words v) here in_v) k_next)
            ∙ same_next old (with_words w) y l (prefix_trans (old ++ y ∷ []) p (with_words w) here in_w) l_next
            )

        by_rest : (rest : List Event) → old ≡ p ++ rest → Both
        by_rest [] is = at_once (sym (is ∙ append-nil p))
        by_rest (y ∷ rest) is = in_old y rest is

        by_more : (rest : List Event) → p ≡ old ++ rest → Both
        by_more [] is = at_once (is ∙ append-nil old)
        by_more (y ∷ rest) is = past_old y rest is

        by_place : Both
        by_place = ⊎_elim (λ q. by_rest q.0 q.1) (λ q. by_more q.0 q.1)
            (fronts p old (with_words v) (prefix_trans p (p ++ a ∷ []) (with_words v) (a ∷ [], refl) f) (grows v))

      by_events : (x : Access) (k l : Option Event) → event_of x v ≡ k → event_of x w ≡ l → GoesOn (r answers) (r (answers ++ v ∷ [])) k → GoesOn (r answers) (r (answers ++ w ∷ [])) l → Both
      by_events x None l k_is l_is k_goes l_goes = from_old w (subst (λ (q : Run). IsPrefix (p ++ a ∷ []) q.events) k_goes f) h
      by_events x (Some k) None k_is l_is k_goes l_goes =
          same_next p (with_words v) a b f (prefix_trans (p ++ b ∷ []) (r answers).events (with_words v) (subst (λ (q : Run). IsPrefix (p ++ b ∷ []) q.events) l_goes h) (grows v))
      by_events x (Some k) (Some l) k_is l_is k_goes l_goes = by_place x k l k_is l_is k_goes l_goes

      both_answered : Both
      both_answered = ⊎_elim
          (λ same. same_next p (r answers).events a b (subst (λ (q : Run). IsPrefix (p ++ a ∷ []) q.events) (same v) f) (subst (λ (q : Run). IsPrefix (p ++ b ∷ []) q.events) (same w) h))
          (λ q. by_events q.0 (event_of q.0 v) (event_of q.0 w) refl refl (q.1 v) (q.1 w))
          (branches answers)

    abbrev Next : Event → List (List ℕ) → Type 0
    Next e more = IsPrefix (p ++ e ∷ []) (r (answers ++ more)).events

    without : (e : Event) → Next e [] → IsPrefix (p ++ e ∷ []) (r answers).events
    without e n = subst (λ (l : List (List ℕ)). IsPrefix (p ++ e ∷ []) (r l).events) (append-nil answers) n

    -- the next event is one
    pub one_next : Next a (answers_of a) → Next b (answers_of b) → IsFound store g a → IsFound store g b → a ≡ b
    one_next f h a_found b_found = by_kinds (answer_kind a) (answer_kind b)
      where
        none : (e : Event) → answers_of e ≡ [] → Next e (answers_of e) → IsPrefix (p ++ e ∷ []) (r answers).events
        none e is n = without e (subst (Next e) is n)

        by_kinds : ((answers_of a ≡ []) ⊎ ((v : List ℕ) × (answers_of a ≡ v ∷ []))) → ((answers_of b ≡ []) ⊎ ((w : List ℕ) × (answers_of b ≡ w ∷ []))) → Both
        by_kinds (inl i) (inl j) = same_next p (r answers).events a b (none a i f) (none b j h)
        by_kinds (inl i) (inr w) = from_old w.0 (none a i f) (subst (Next b) w.1 h)
        by_kinds (inr v) (inl j) = same_next p (with_words v.0) a b (subst (Next a) v.1 f) (prefix_trans (p ++ b ∷ []) (r answers).events (with_words v.0) (none b j h) (grows v.0))
        by_kinds (inr v) (inr w) = both_answered v.0 w.0 (subst (Next a) v.1 f) (subst (Next b) w.1 h) a_found b_found

abbrev Events : Type 0
Events = List (ℕ × Event)

module _ (d : Setup) (runs : Runs) (steady : AreSteady runs) where
  abbrev Moves : State → ℕ → Event → Type 0
  Moves s i e = IsMove d.count (number_of d) (side d runs) s i e

  abbrev RunsTo : State → List ℕ → Events → Store → Type 0
  RunsTo s items es store = DispatchRun d.count (number_of d) (side d runs) s items es store

  abbrev behind_move : State → ℕ → Event → State
  behind_move s i e = moved d.count (number_of d) s i e

  one_move : (s : State) (i : ℕ) (a b : Event) → Moves s i a → Moves s i b → a ≡ b
  one_move s i a b f h = one_next (runs (d.told i)) (steady.branches (d.told i)) s.store (number_of d i) (s.past i).events (s.past i).answers a b f.made h.made f.found h.found

  no_longer : (xs : List Event) (e : Event) (rest : List Event) → xs ≡ (xs ++ e ∷ []) ++ rest → ⊥
  no_longer [] e rest h = cc
  no_longer (x ∷ xs) e rest h = let tail : xs ≡ (xs ++ e ∷ []) ++ rest = cc in no_longer xs e rest tail

  flows : (status : run.Status) → is_ended status ≡ true → status ≢ run.waiting
  flows run.running h w = cc
  flows run.ended h w = cc
  flows run.waiting h w = cc
  flows run.undefined h w = cc

  -- what stays does not move
  still : (s : State) (i : ℕ) (e : Event) → IsStill d runs s i → Moves s i e → ⊥
  still s i e (inr kept) m = kept m.allowed
  still s i e (inl h) m =
      let p = (s.past i).events in
      let same = steady.settled (d.told i) (s.past i).answers (answers_of e) (flows (runs (d.told i) (s.past i).answers).status h.ended) in
      let made = subst (λ (x : Run). IsPrefix (p ++ e ∷ []) x.events) same m.made in
      no_longer p e made.0 (sym h.all ∙ made.1)

  -- what the first of these items may come to
  abbrev Turn : State → ℕ → List ℕ → Events → Store → Type 0
  Turn s i items es v = (IsStill d runs s i × RunsTo s items es v) ⊎ ((e : Event) × (rest : Events) × Moves s i e × (es ≡ (i, e) ∷ rest) × RunsTo (behind_move s i e) items rest v)

  -- the same items give the same events
  module _ (i : ℕ) (items : List ℕ) (one : (s : State) (es fs : Events) (v w : Store) → RunsTo s items es v → RunsTo s items fs w → es ≡ fs) (s : State) (es fs : Events) (v w : Store) where
    by_turns : Turn s i items es v → Turn s i items fs w → es ≡ fs
    by_turns (inl a) (inl b) = one s es fs v w a.1 b.1
    by_turns (inl a) (inr b) = absurd (still s i b.0 a.0 b.2)
    by_turns (inr a) (inl b) = absurd (still s i a.0 b.0 a.2)
    by_turns (inr a) (inr b) =
        let same : a.0 ≡ b.0 = one_move s i a.0 b.0 a.2 b.2 in
        let rest : a.1 ≡ b.1 = one (behind_move s i b.0) a.1 b.1 v w (subst (λ (e : Event). RunsTo (behind_move s i e) items a.1 v) same a.4) b.4 in
        a.3 ∙ (λ j. (i, same j) ∷ rest j) ∙ sym b.3

  one_run : (items : List ℕ) (s : State) (es fs : Events) (v w : Store) → RunsTo s items es v → RunsTo s items fs w → es ≡ fs
  one_run [] s es fs v w x y = x.0 ∙ sym y.0
  one_run (i ∷ items) s es fs v w x y = by_turns i items (one_run items) s es fs v w x.1 y.1

  -- a run of two lists of items
  record Parts (s : State) (xs ys : List ℕ) (es : Events) (v : Store) : Type 0 where
    pub front : Events
    pub rest : Events
    pub between : Store
    pub is : es ≡ front ++ rest
    pub runs_front : RunsTo s xs front between
    pub runs_rest : RunsTo (behind d s front) ys rest v

  parts : (xs ys : List ℕ) (s : State) (es : Events) (v : Store) → RunsTo s (xs ++ ys) es v → Parts s xs ys es v
  parts [] ys s es v x = record { front = []; rest = es; between = s.store; is = refl; runs_front = (refl, refl); runs_rest = x }
  parts (i ∷ xs) ys s es v x =
      ⊎_elim
      (λ a.
      let q = parts xs ys s es v a.1 in
      record { front = q.front; rest = q.rest; between = q.between; is = q.is; runs_front = (x.0, inl (a.0, q.runs_front)); runs_rest = q.runs_rest })
      (λ b.
      let q = parts xs ys (behind_move s i b.0) b.1 v b.4 in
      record {
        front = (i, b.0) ∷ q.front;
        rest = q.rest;
        between = q.between;
        is = b.3 ∙ ap (λ (l : Events). (i, b.0) ∷ l) q.is;
        runs_front = (x.0, inr (b.0, q.front, b.2, refl, q.runs_front));
        runs_rest = q.runs_rest;
      })
      x.1

  -- where all stay nothing is made
  all_still : (items : List ℕ) (s : State) (es : Events) (v : Store) → ((i : ℕ) → i < d.count → IsStill d runs s i) → RunsTo s items es v → es ≡ []
  all_still [] s es v stay x = x.0
  all_still (i ∷ items) s es v stay x = ⊎_elim (λ a. all_still items s es v stay a.1) (λ b. absurd (still s i b.0 (stay i x.0) b.2)) x.1

  -- the schedule, as far as some rounds, is a front of it as far as more
  longer_rounds : (n m : ℕ) → n ≤ m → IsFront (rounds d.count n) (rounds d.count m)
  longer_rounds n zero le = let none : n ≡ 0 = omega (arith, le) in subst (λ (k : ℕ). IsFront (rounds d.count k) []) (sym none) ([], refl)
  longer_rounds n (suc m) le =
      ⊎_elim
      (λ less.
      let low : n ≤ m = omega (arith, less) in
      let q = longer_rounds n m low in
      (q.0 ++ turn d.count, ap (λ (l : List ℕ). l ++ turn d.count) q.1 ∙ append_assoc (rounds d.count n) q.0 (turn d.count)))
      (λ ge.
      let same : suc m ≡ n = omega (arith, le, ge) in
      subst (λ (k : ℕ). IsFront (rounds d.count n) (rounds d.count k)) (sym same) ([], sym (append-nil (rounds d.count n))))
      (cases_lt n (suc m))

  longer : (first : List ℕ) (n m : ℕ) → n ≤ m → IsFront (schedule d.count first n) (schedule d.count first m)
  longer first n m le =
      let q = longer_rounds n m le in
      (q.0, ap (λ (l : List ℕ). among d.count first ++ l) q.1 ∙ sym (append_assoc (among d.count first) (rounds d.count n) q.0))

  abbrev IsScheduled : List ℕ → List ℕ → Type 0
  IsScheduled first items = (n : ℕ) × IsFront items (schedule d.count first n)

  front_trans : (xs ys zs : List ℕ) → IsFront xs ys → IsFront ys zs → IsFront xs zs
  front_trans xs ys zs f g = (f.0 ++ g.0, g.1 ∙ ap (λ (l : List ℕ). l ++ g.0) f.1 ∙ append_assoc xs f.0 g.0)

  -- of two lists of items one is a front of the other
  scheduled : (first xs ys : List ℕ) → IsScheduled first xs → IsScheduled first ys → IsFront xs ys ⊎ IsFront ys xs
  scheduled first xs ys f g =
      ⊎_elim
      (λ less. fronts xs ys (schedule d.count first g.0) (front_trans xs (schedule d.count first f.0) (schedule d.count first g.0) f.1 (longer first f.0 g.0 (omega (arith, less)))) g.1)
      (λ ge. fronts xs ys (schedule d.count first f.0) f.1 (front_trans ys (schedule d.count first g.0) (schedule d.count first f.0) g.1 (longer first g.0 f.0 (omega (arith, ge)))))
      (cases_lt f.0 g.0)

  module _ (first : List ℕ) (events : Events) (store : Store) (end : End) (h : Comes d runs first events store end) where
    ends_scheduled : (items : List ℕ) (e : End) → EndsBy d runs first items (now d events) e → IsScheduled first items
    ends_scheduled items ends.Ended q = (q.0.0.0, ([], sym q.0.0.1 ∙ sym (append-nil items)))
    ends_scheduled items ends.Waiting q = (q.0.0.0, ([], sym q.0.0.1 ∙ sym (append-nil items)))
    ends_scheduled items (ends.Undefined i) q = (q.0.0, (i ∷ q.0.1.0, q.0.1.1))
    ends_scheduled items (ends.Cut i) q = (q.0.0, (i ∷ q.0.1.0, q.0.1.1))

    -- the item behind is neither a move nor a stay
    stuck : (i : ℕ) (rest : List ℕ) (es : Events) (v : Store) → IsNeither d runs (now d events) i → RunsTo (now d events) (i ∷ rest) es v → ⊥
    stuck i rest es v neither x = ⊎_elim (λ a. neither.no_stay a.0) (λ b. neither.no_move b.0 b.2) x.1

    behind_end : (first_items more rest : List ℕ) (i : ℕ) (n m : ℕ) (left : List ℕ) (es : Events) (v : Store) → IsNeither d runs (now d events) i → schedule d.count first n ≡ first_items ++ i ∷ left → schedule d.count first m ≡ (first_items ++ more) ++ rest → RunsTo (now d events) more es v → es ≡ []
    behind_end xs [] rest i n m left es v neither f g x = x.0
    behind_end xs (j ∷ more) rest i n m left es v neither f g x =
        let in_n : IsFront (xs ++ i ∷ []) (schedule d.count first n) = (left, f ∙ sym (append_assoc xs (i ∷ []) left)) in
        let in_m : IsFront (xs ++ j ∷ []) (schedule d.count first m) = (more ++ rest, g ∙ append_assoc xs (j ∷ more) rest ∙ sym (append_assoc xs (j ∷ []) (more ++ rest))) in
        let same : i ≡ j = ⊎_elim
        (λ less. next_in xs i j (schedule d.count first m) (front_trans (xs ++ i ∷ []) (schedule d.count first n) (schedule d.count first m) in_n (longer first n m (omega (arith, less)))) in_m)
        (λ ge. next_in xs i j (schedule d.count first n) in_n (front_trans (xs ++ j ∷ []) (schedule d.count first m) (schedule d.count first n) in_m (longer first m n (omega (arith, ge)))))
        (cases_lt n m) in
        absurd (stuck j more es v (subst (IsNeither d runs (now d events)) same neither) x)
      where
        next_in : (xs : List ℕ) (a b : ℕ) (l : List ℕ) → IsFront (xs ++ a ∷ []) l → IsFront (xs ++ b ∷ []) l → a ≡ b
        next_in xs a b l f g = next_is xs a b f.0 g.0 (sym (append_assoc xs (a ∷ []) f.0) ∙ sym f.1 ∙ g.1 ∙ append_assoc xs (b ∷ []) g.0)

    -- behind the end nothing more is made
    no_more : (items more rest : List ℕ) (m : ℕ) (es : Events) (v : Store) (e : End) → EndsBy d runs first items (now d events) e → schedule d.count first m ≡ (items ++ more) ++ rest → RunsTo (now d events) more es v → es ≡ []
    no_more items more rest m es v ends.Ended q f x = all_still more (now d events) es v q.0.1 x
    no_more items more rest m es v ends.Waiting q f x = all_still more (now d events) es v q.0.1 x
    no_more items more rest m es v (ends.Undefined i) q f x = behind_end items more rest i q.0.0 m q.0.1.0 es v q.1.0 q.0.1.1 f x
    no_more items more rest m es v (ends.Cut i) q f x = behind_end items more rest i q.0.0 m q.0.1.0 es v q.1.0 q.0.1.1 f x

    module _ (much : IsTooMuch d runs first) where
      abbrev all : Events
      all = much.run.more

      all_is : much.events ≡ all
      all_is = much.run.is

      -- the items of both run on
      front_of : (more : List ℕ) → h.items ≡ much.items ++ more → weight_of all ≤ weight_of events
      front_of more is =
          let q = parts much.items more (first_state d) events store (subst (λ (l : List ℕ). RunsTo (first_state d) l events store) is h.run) in
          let same : q.front ≡ all = one_run much.items (first_state d) q.front all q.between (now d much.events).store q.runs_front much.run.run in
          let sum : weight_of events ≡ weight_of q.front + weight_of q.rest = ap weight_of q.is ∙ weight-append q.front q.rest in
          let light : weight_of q.front ≡ weight_of all = ap weight_of same in
          omega (arith, sum, light)

      behind_of : (more : List ℕ) → much.items ≡ h.items ++ more → weight_of all ≤ weight_of events
      behind_of more is =
          let q = parts h.items more (first_state d) all (now d much.events).store (subst (λ (l : List ℕ). RunsTo (first_state d) l all (now d much.events).store) is much.run.run) in
          let same : q.front ≡ events = one_run h.items (first_state d) q.front events q.between store q.runs_front h.run in
          let none : q.rest ≡ [] = no_more h.items more much.rest much.rounds q.rest (now d much.events).store end h.ends (much.is ∙ ap (λ (l : List ℕ). l ++ much.rest) is) (subst (λ (l : Events). RunsTo (behind d (first_state d) l) more q.rest (now d much.events).store) same q.runs_rest) in
          let whole : all ≡ events = q.is ∙ (λ j. same j ++ none j) ∙ append-nil events in
          let light : weight_of all ≡ weight_of events = ap weight_of whole in
          omega (arith, light)

      -- what a dispatch comes to has as many events as it begins with
      light_too : weight_of much.events ≤ weight_of events
      light_too =
          let same : weight_of much.events ≡ weight_of all = ap weight_of all_is in
          let low : weight_of all ≤ weight_of events = ⊎_elim (λ q. behind_of q.0 q.1) (λ q. front_of q.0 q.1)
          (scheduled first h.items much.items (ends_scheduled h.items end h.ends) (much.rounds, (much.rest, much.is))) in
          omega (arith, same, low)

  pub not_too_much : (first : List ℕ) (events : Events) (store : Store) (end : End) → Comes d runs first events store end → weight_of events ≤ most_weight → IsTooMuch d runs first → ⊥
  not_too_much first events store end h light much =
      let less : weight_of much.events ≤ weight_of events = light_too first events store end h much in
      let above : most_weight < weight_of much.events = much.above in
      omega (arith, less, above, light)
