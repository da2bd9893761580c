-- Several items of a schedule, one after another.
use Rattle.std.proofs.Common.{◌≡◌, ◌≢◌, ℕ, ◌+◌, ◌<◌, ◌≤◌, Bool, true, false, List, [], ◌∷◌, ◌++◌, length, slice_index, take, inl, inr, ⊎_elim, ◌⊎◌, refl, sym, ap, ◌∙◌, subst, arith, add-one}
use Rattle.std.proofs.Math.Seq.{take-suc}
use Rattle.std.proofs.lemmas.Bool.{cases_lt}
use Rattle.std.specs.Prelude.{Some, None}
use Rattle.std.proofs.lemmas.Option.{same_Some}
use Rattle.traces.specs.Events as trace
use Rattle.traces.specs.Invocations.{Invocation as Told}
use Rattle.traces.specs.Runs as run
use Rattle.traces.specs.Runs.{Run, Status}
use Rattle.group_items.specs.declared.play.Turn.{Turn}
use Rattle.group_items.specs.declared.play.Turn.TheVariants.{Waits, Ended, Moves, Undefined, Cut}
use Rattle.group_items.specs.declared.schedule.End.{End}
use Rattle.group_items.specs.declared.schedule.End.TheVariants as end
use Rattle.group_items.specs.Events.{place_count, weight_of}
use Rattle.group_items.specs.Sides.{Runs}
use Rattle.group_items.specs.Schedule.{Setup, now, Goes, May, IsStill, IsUndefined, HasEndedFreely}
use Rattle.group_items.specs.Playing.{IsTurn, IsTooMuchNext}
use Rattle.group_items.specs.Played.{end_by, waits_by, StopsAt, HasStopped, Rested, IsThrough, TooMuchIn}
use Rattle.group_items.proofs.States.{weight-append, goes_none, goes_then, goes_stay, goes_move, has_ended, neither}

abbrev Events : Type 0
Events = List (ℕ × trace.Event)

last_or : (j k : ℕ) → j < k + 1 → (j < k) ⊎ (j ≡ k)
last_or j k h = ⊎_elim inl (λ ge. inr (omega (arith, h, ge))) (cases_lt j k)

module _ (d : Setup) (runs : Runs) (old : Events) (items : List ℕ) (k : ℕ) (i : ℕ) (mid new : Events) (inside : k < length items) (lt : i < d.count) (is : i ≡ slice_index items k) where
  one_more : take (k + 1) items ≡ take k items ++ i ∷ []
  one_more = ap (λ n. take n items) (add-one k) ∙ take-suc items k 0 inside ∙ ap (λ x. take k items ++ x ∷ []) (sym is)

  goes_on : Goes d runs old (take k items) mid → Goes d runs mid (i ∷ []) new → Goes d runs old (take (k + 1) items) new
  goes_on a b = subst (λ xs. Goes d runs old xs new) (sym one_more) (goes_then d runs old mid new (take k items) (i ∷ []) a b)

  module _ (w : Bool) (t : IsThrough d runs old items k mid w) where
    -- a stay
    module _ (same : new ≡ mid) (stay : IsStill d runs (now d mid) i) where
      stays : Goes d runs mid (i ∷ []) new
      stays = subst (λ es. Goes d runs mid (i ∷ []) es) (sym same) (goes_stay d runs mid i lt stay)

      back : weight_of new ≡ weight_of old → weight_of mid ≡ weight_of old
      back h = ap weight_of (sym same) ∙ h

      is_old : weight_of new ≡ weight_of old → mid ≡ old
      is_old h = t.same (back h)

      still_too : weight_of new ≡ weight_of old → (j : ℕ) → j < k + 1 → IsStill d runs (now d old) (slice_index items j)
      still_too h j less = ⊎_elim (λ b. t.still (back h) j b) (λ e. subst (λ n. IsStill d runs (now d old) (slice_index items n)) (sym e) (subst (IsStill d runs (now d old)) is (subst (λ es. IsStill d runs (now d es) i) (is_old h) stay))) (last_or j k less)

      stayed : (v : Bool) → (weight_of new ≡ weight_of old → Rested d runs old items (k + 1) v) → IsThrough d runs old items (k + 1) new v
      stayed v rested = record {
        goes = goes_on t.goes stays;
        rises = subst (λ es. weight_of old ≤ weight_of es) (sym same) t.rises;
        same = λ h. same ∙ is_old h;
        still = still_too;
        rested = rested;
      }

    pub waited : IsTurn d runs mid i new Waits → IsThrough d runs old items (k + 1) new true
    waited h = stayed h.0 (inr h.1) true (λ e. (k, (omega arith, λ may. h.1 (subst (λ es. May d runs (now d es) i) (sym (is_old h.0 (inr h.1) e)) (subst (May d runs (now d old)) (sym is) may)))))

    free : IsTurn d runs mid i new Ended → HasEndedFreely d runs (now d mid) i
    free h = record { ended = has_ended d runs (now d mid) i h.run; may = h.may }

    rested_too : IsTurn d runs mid i new Ended → (v : Bool) → Rested d runs old items k v → mid ≡ old → Rested d runs old items (k + 1) v
    rested_too h true r e = (r.0, (omega (arith, r.1.0), r.1.1))
    rested_too h false r e = λ j less. ⊎_elim (λ b. r j b) (λ q. subst (λ n. HasEndedFreely d runs (now d old) (slice_index items n)) (sym q) (subst (HasEndedFreely d runs (now d old)) is (subst (λ es. HasEndedFreely d runs (now d es) i) e (free h)))) (last_or j k less)

    pub ended_too : IsTurn d runs mid i new Ended → IsThrough d runs old items (k + 1) new w
    ended_too h = let stay : IsStill d runs (now d mid) i = inl (free h).ended in stayed h.same stay w (λ e. rested_too h w (t.rested (back h.same stay e)) (is_old h.same stay e))

    pub moved_too : IsTurn d runs mid i new Moves → IsThrough d runs old items (k + 1) new w
    moved_too h =
        let sum : weight_of new ≡ weight_of mid + (1 + place_count h.event) =
        let s : weight_of new ≡ weight_of mid + weight_of ((i, h.event) ∷ []) = ap weight_of h.is ∙ weight-append mid ((i, h.event) ∷ []) in omega (arith, s) in
        let rises : weight_of old ≤ weight_of mid = t.rises in
        let never : weight_of new ≡ weight_of old → ⊥ = λ e. omega (arith, sum, rises, e) in
        record {
          goes = goes_on t.goes (goes_move d runs mid new i h.event lt h.move h.is);
          rises = omega (arith, sum, rises);
          same = λ e. absurd (never e);
          still = λ e. absurd (never e);
          rested = λ e. absurd (never e);
        }

    pub too_much : IsTooMuchNext d runs mid i → TooMuchIn d runs old items
    too_much h = record {
      front = k;
      within = inside;
      new = mid ++ (i, h.event) ∷ [];
      goes = subst (λ xs. Goes d runs old xs (mid ++ (i, h.event) ∷ [])) (sym one_more) (goes_then d runs old mid (mid ++ (i, h.event) ∷ []) (take k items) (i ∷ []) t.goes (goes_move d runs mid (mid ++ (i, h.event) ∷ []) i h.event lt h.move refl));
      above = h.above;
    }

    module _ (settled : (told : Told) (answers more : List (List ℕ)) → (runs told answers).status ≢ run.waiting → runs told (answers ++ more) ≡ runs told answers) where
      stopped : (e : End) → StopsAt d runs old items (now d mid) i e → new ≡ mid → HasStopped d runs old items new e
      stopped e stops same = record {
        front = k;
        within = inside;
        goes = subst (λ es. Goes d runs old (take k items) es) (sym same) t.goes;
        stops = subst (λ j. StopsAt d runs old items (now d new) j e) is (subst (λ es. StopsAt d runs old items (now d es) i e) (sym same) stops);
      }

      pub undefined_at : IsTurn d runs mid i new Undefined → HasStopped d runs old items new (end.Undefined i)
      undefined_at h = stopped (end.Undefined i) (refl, (neither d runs (now d mid) i settled run.undefined h.run (λ e. cc) refl h.may, h.run)) h.same

      pub cut_at : IsTurn d runs mid i new Cut → HasStopped d runs old items new (end.Cut i)
      cut_at h = stopped (end.Cut i) (refl, (neither d runs (now d mid) i settled run.running h.run (λ e. cc) refl h.may, not_undefined)) h.same
        where
          not_undefined : IsUndefined d runs (now d mid) i → ⊥
          not_undefined u = let never : run.running ≡ run.undefined = ap (λ (r : Run). r.status) (sym h.run ∙ u) in cc

      pub stop_at : (turn : Turn) (e : End) → IsTurn d runs mid i new turn → end_by turn i ≡ Some e → HasStopped d runs old items new e
      stop_at Undefined e h q = subst (HasStopped d runs old items new) (same_Some (end.Undefined i) e q) (undefined_at h)
      stop_at Cut e h q = subst (HasStopped d runs old items new) (same_Some (end.Cut i) e q) (cut_at h)
      stop_at Waits e h q = cc
      stop_at Ended e h q = cc
      stop_at Moves e h q = cc

    pub step_through : (turn : Turn) → IsTurn d runs mid i new turn → end_by turn i ≡ None → IsThrough d runs old items (k + 1) new (waits_by w turn)
    step_through Waits h q = waited h
    step_through Ended h q = ended_too h
    step_through Moves h q = moved_too h
    step_through Undefined h q = cc
    step_through Cut h q = cc

-- nothing is played yet
pub through_none : (d : Setup) (runs : Runs) (old : Events) (items : List ℕ) → IsThrough d runs old items 0 old false
through_none d runs old items = record {
  goes = goes_none d runs old;
  rises = omega arith;
  same = λ e. refl;
  still = λ e j less. absurd (omega (arith, less));
  rested = λ e j less. absurd (omega (arith, less));
}
