-- What the items that were played make a dispatch come to.
use Rattle.std.proofs.Common.{◌≡◌, ℕ, zero, suc, ◌+◌, ◌<◌, List, [], ◌∷◌, ◌++◌, length, slice_index, take, drop, Bool, true, false, refl, sym, ap, ◌∙◌, subst, arith, append_assoc, append-nil}
use Rattle.std.proofs.lemmas.List.{take_all, take-append-drop}
use Rattle.std.proofs.lemmas.List.FromFn.{length-range_with_len, get_or-range_with_len}
use Rattle.traces.specs.Events as trace
use Rattle.dispatch_semantics.specs.Dispatch.{DispatchRun}
use Rattle.group_items.specs.declared.schedule.End.{End}
use Rattle.group_items.specs.declared.schedule.End.TheVariants as end
use Rattle.group_items.specs.Events.{weight_of}
use Rattle.group_items.specs.Sides.{Runs}
use Rattle.group_items.specs.Schedule.{Setup, number_of, side, first_state, now, Goes, among, turn, rounds, schedule, May, IsStill, HasEndedFreely, IsNextItem, IsStillRound, EndsBy, Comes, IsTooMuch}
use Rattle.group_items.specs.Played.{StopsAt, HasStopped, IsThrough, IsLastRound, RoundsEnd, TooMuchIn, RoundsTooMuch}
use Rattle.group_items.proofs.States.{goes_none, goes_then}

abbrev Events : Type 0
Events = List (ℕ × trace.Event)

split : (f : ℕ) (xs : List ℕ) → f < length xs → xs ≡ take f xs ++ slice_index xs f ∷ drop (suc f) xs
split f [] h = absurd (omega (arith, h))
split zero (x ∷ xs) h = refl
split (suc f) (x ∷ xs) h = ap (λ l. x ∷ l) (split f xs (omega (arith, h)))

module _ (d : Setup) (runs : Runs) (first : List ℕ) where
  -- from the start
  begins : (items : List ℕ) (new : Events) → Goes d runs [] items new → DispatchRun d.count (number_of d) (side d runs) (first_state d) items new (now d new).store
  begins items new g = subst (λ (es : Events). DispatchRun d.count (number_of d) (side d runs) (first_state d) items es (now d new).store) (sym g.is) g.run

  -- a part of the schedule, behind what was played of it
  module _ (n : ℕ) (pre block tail : List ℕ) (mid : Events) (is : schedule d.count first n ≡ pre ++ (block ++ tail)) (goes : Goes d runs [] pre mid) where
    next_item : (front j : ℕ) → front < length block → slice_index block front ≡ j → IsNextItem d.count first (pre ++ take front block) j
    next_item front j inside at = (
      n,
      (
        drop (suc front) block ++ tail,
        is
            ∙ ap (λ xs. pre ++ (xs ++ tail)) (split front block inside ∙ ap (λ k. take front block ++ k ∷ drop (suc front) block) at)
            ∙ ap (λ xs. pre ++ xs) (append_assoc (take front block) (j ∷ drop (suc front) block) tail)
            ∙ sym (append_assoc pre (take front block) (j ∷ (drop (suc front) block ++ tail))),
      ),
    )

    ends_at : (new : Events) (e : End) (front : ℕ) → front < length block → StopsAt d runs mid block (now d new) (slice_index block front) e → EndsBy d runs first (pre ++ take front block) (now d new) e
    ends_at new (end.Undefined j) front inside s = (next_item front j inside s.0, s.1)
    ends_at new (end.Cut j) front inside s = (next_item front j inside s.0, s.1)
    ends_at new end.Ended front inside s = absurd s
    ends_at new end.Waiting front inside s = absurd s

    pub stop_comes : (new : Events) (e : End) → HasStopped d runs mid block new e → Comes d runs first new (now d new).store e
    stop_comes new e h = record {
      items = pre ++ take h.front block;
      run = begins (pre ++ take h.front block) new (goes_then d runs [] mid new pre (take h.front block) goes h.goes);
      ends = ends_at new e h.front h.within h.stops;
    }

    pub too_much_comes : TooMuchIn d runs mid block → IsTooMuch d runs first
    too_much_comes h = record {
      items = pre ++ take (h.front + 1) block;
      rounds = n;
      rest = drop (h.front + 1) block ++ tail;
      is = is
          ∙ ap (λ xs. pre ++ (xs ++ tail)) (sym (take-append-drop (h.front + 1) block))
          ∙ ap (λ xs. pre ++ xs) (append_assoc (take (h.front + 1) block) (drop (h.front + 1) block) tail)
          ∙ sym (append_assoc pre (take (h.front + 1) block) (drop (h.front + 1) block ++ tail));
      events = h.new;
      run = goes_then d runs [] mid h.new pre (take (h.front + 1) block) goes h.goes;
      above = h.above;
    }

  -- a round behind others
  round_is : (n : ℕ) → schedule d.count first (suc n) ≡ schedule d.count first n ++ (turn d.count ++ [])
  round_is n = sym (append_assoc (among d.count first) (rounds d.count n) (turn d.count)) ∙ ap (λ xs. schedule d.count first n ++ xs) (sym (append-nil (turn d.count)))

  -- a round that had no move
  module _ (n : ℕ) (mid new : Events) (goes : Goes d runs [] (schedule d.count first n) mid) (w : Bool) (t : IsThrough d runs mid (turn d.count) (length (turn d.count)) new w) (same : weight_of new ≡ weight_of mid) where
    is_mid : new ≡ mid
    is_mid = t.same same

    in_turn : (i : ℕ) → i < d.count → i < length (turn d.count)
    in_turn i lt = subst (λ m. i < m) (sym (length-range_with_len 0 d.count)) lt

    turn_at : (i : ℕ) → i < d.count → slice_index (turn d.count) i ≡ i
    turn_at i lt = let is : slice_index (turn d.count) i ≡ 0 + i = get_or-range_with_len 0 d.count i 0 lt in omega (arith, is)

    still_round : IsStillRound d runs first (schedule d.count first n) (now d new)
    still_round = ((n, refl), λ i lt. subst (λ es. IsStill d runs (now d es) i) (sym is_mid) (subst (IsStill d runs (now d mid)) (turn_at i lt) (t.still same i (in_turn i lt))))

    run_to : DispatchRun d.count (number_of d) (side d runs) (first_state d) (schedule d.count first n) new (now d new).store
    run_to = begins (schedule d.count first n) new (subst (λ es. Goes d runs [] (schedule d.count first n) es) (sym is_mid) goes)

    free_all : ((k : ℕ) → k < length (turn d.count) → HasEndedFreely d runs (now d mid) (slice_index (turn d.count) k)) → (i : ℕ) → i < d.count → HasEndedFreely d runs (now d new) i
    free_all h i lt = subst (λ es. HasEndedFreely d runs (now d es) i) (sym is_mid) (subst (HasEndedFreely d runs (now d mid)) (turn_at i lt) (h i (in_turn i lt)))

    one_waits : (k : ℕ) → k < length (turn d.count) → (May d runs (now d mid) (slice_index (turn d.count) k) → ⊥) → (i : ℕ) × ((i < d.count) × (May d runs (now d new) i → ⊥))
    one_waits k lt refused =
        let inside : k < d.count = subst (λ m. k < m) (length-range_with_len 0 d.count) lt in
        (k, (inside, λ may. refused (subst (May d runs (now d mid)) (sym (turn_at k inside)) (subst (λ es. May d runs (now d es) k) is_mid may))))

  by_last : (old mid new : Events) (n : ℕ) → Goes d runs [] (schedule d.count first n) mid → (e : End) → IsLastRound d runs old mid new e → Comes d runs first new (now d new).store e
  by_last old mid new n g end.Ended l = record {
    items = schedule d.count first n;
    run = run_to n mid new g false l.0 l.1;
    ends = (still_round n mid new g false l.0 l.1, free_all n mid new g false l.0 l.1 (l.0.rested l.1));
  }
  by_last old mid new n g end.Waiting l =
      let one = l.0.rested l.1 in
      record {
        items = schedule d.count first n;
        run = run_to n mid new g true l.0 l.1;
        ends = (still_round n mid new g true l.0 l.1, one_waits n mid new g true l.0 l.1 one.0 one.1.0 one.1.1);
      }
  by_last old mid new n g (end.Undefined j) l = stop_comes (suc n) (schedule d.count first n) (turn d.count) [] mid (round_is n) g new (end.Undefined j) l
  by_last old mid new n g (end.Cut j) l = stop_comes (suc n) (schedule d.count first n) (turn d.count) [] mid (round_is n) g new (end.Cut j) l

  -- the first items, and the rounds behind them
  module _ (mid : Events) where
    through_first : (w : Bool) → IsThrough d runs [] (among d.count first) (length (among d.count first)) mid w → Goes d runs [] (among d.count first) mid
    through_first w t = subst (λ xs. Goes d runs [] xs mid) (take_all (length (among d.count first)) (among d.count first) (omega arith)) t.goes

    behind_rounds : (n : ℕ) (last : Events) (w : Bool) → IsThrough d runs [] (among d.count first) (length (among d.count first)) mid w → Goes d runs mid (rounds d.count n) last → Goes d runs [] (schedule d.count first n) last
    behind_rounds n last w t g = goes_then d runs [] mid last (among d.count first) (rounds d.count n) (through_first w t) g

    pub first_stops : (e : End) → HasStopped d runs [] (among d.count first) mid e → Comes d runs first mid (now d mid).store e
    first_stops e h = stop_comes 0 [] (among d.count first) [] [] refl (goes_none d runs []) mid e h

    pub rounds_end : (new : Events) (w : Bool) (e : End) → IsThrough d runs [] (among d.count first) (length (among d.count first)) mid w → RoundsEnd d runs mid new e → Comes d runs first new (now d new).store e
    rounds_end new w e t r = by_last mid r.mid new r.count (behind_rounds r.count r.mid w t r.goes) e r.last

    pub rounds_too_much : (w : Bool) → IsThrough d runs [] (among d.count first) (length (among d.count first)) mid w → RoundsTooMuch d runs mid → IsTooMuch d runs first
    rounds_too_much w t r = too_much_comes (suc r.count) (schedule d.count first r.count) (turn d.count) [] r.mid (round_is r.count) (behind_rounds r.count r.mid w t r.goes) r.too_much

  pub first_too_much : TooMuchIn d runs [] (among d.count first) → IsTooMuch d runs first
  first_too_much h = too_much_comes 0 [] (among d.count first) [] [] refl (goes_none d runs []) h
