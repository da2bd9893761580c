-- States behind events, and items one after another.
use Rattle.std.proofs.Common.{rules, ◌≡◌, ◌≢◌, ℕ, ◌+◌, ◌<◌, true, false, List, [], ◌∷◌, ◌++◌, length, inl, inr, ⊎_elim, refl, sym, ap, ◌∙◌, subst, arith, append_assoc, append-nil, length-append}
use Rattle.traces.specs.Events as trace
use Rattle.traces.specs.Invocations.{Invocation as Told}
use Rattle.traces.specs.Runs as run
use Rattle.traces.specs.Runs.{Run, Status, made}
use Rattle.traces.specs.Simulation.{IsPrefix}
use Rattle.dispatch_semantics.specs.Store.{Store, answers_of}
use Rattle.dispatch_semantics.specs.Dispatch.{State, is_ended, is_control, controls, moved, IsMove, HasEnded, DispatchRun}
use Rattle.group_items.specs.Events.{weight_of}
use Rattle.group_items.specs.Sides.{Runs}
use Rattle.group_items.specs.Schedule.{Setup, number_of, side, first_state, behind, now, Goes, May, IsStill, run_so_far, IsNeither}

abbrev Events : Type 0
Events = List (ℕ × trace.Event)

pub weight-append : (xs ys : Events) → weight_of (xs ++ ys) ≡ weight_of xs + weight_of ys
weight-append [] ys = search rules
weight-append (x ∷ xs) ys = let more : weight_of (xs ++ ys) ≡ weight_of xs + weight_of ys = weight-append xs ys in omega (arith, more)

pub controls-snoc : (es : List trace.Event) (e : trace.Event) → controls (es ++ e ∷ []) ≡ controls es + controls (e ∷ [])
controls-snoc [] e = search rules
controls-snoc (x ∷ es) e =
    elim (is_control x) as (λ b. (elim b as (λ _. ℕ) [ true ↦ 1 + controls (es ++ e ∷ []) | false ↦ controls (es ++ e ∷ []) ]) ≡ (elim b as (λ _. ℕ) [ true ↦ 1 + controls es | false ↦ controls es ]) + controls (e ∷ [])) [
      | true ↦ let more : controls (es ++ e ∷ []) ≡ controls es + controls (e ∷ []) = controls-snoc es e in omega (arith, more)
      | false ↦ controls-snoc es e
    ]

module _ (d : Setup) where
  pub behind-append : (s : State) (xs ys : Events) → behind d s (xs ++ ys) ≡ behind d (behind d s xs) ys
  behind-append s [] ys = refl
  behind-append s (x ∷ xs) ys = behind-append (moved d.count (number_of d) s x.0 x.1) xs ys

  -- behind one event more
  pub now-snoc : (es new : Events) (i : ℕ) (e : trace.Event) → new ≡ es ++ (i, e) ∷ [] → now d new ≡ moved d.count (number_of d) (now d es) i e
  now-snoc es new i e is = ap (now d) is ∙ behind-append (first_state d) es ((i, e) ∷ [])

  module _ (runs : Runs) where
    abbrev Runs_to : State → List ℕ → Events → Store → Type 0
    Runs_to s items es store = DispatchRun d.count (number_of d) (side d runs) s items es store

    run-append : (xs ys : List ℕ) (s t : State) (e1 e2 : Events) (store : Store) → Runs_to s xs e1 t.store → behind d s e1 ≡ t → Runs_to t ys e2 store → Runs_to s (xs ++ ys) (e1 ++ e2) store
    run-append [] ys s t e1 e2 store r h q =
        let back : t ≡ s = sym h ∙ ap (behind d s) r.0 in
        subst (λ (e : Events). Runs_to s ys (e ++ e2) store) (sym r.0) (subst (λ (u : State). Runs_to u ys e2 store) back q)
    run-append (i ∷ is) ys s t e1 e2 store r h q = (
      r.0,
      ⊎_elim
          (λ x. inl (x.0, run-append is ys s t e1 e2 store x.1 h q))
          (λ x. inr (x.0, x.1 ++ e2, x.2, ap (λ (l : Events). l ++ e2) x.3, run-append is ys (moved d.count (number_of d) s i x.0) t x.1 e2 store x.4 (ap (behind d s) (sym x.3) ∙ h) q))
          r.1,
    )

    pub goes_none : (old : Events) → Goes d runs old [] old
    goes_none old = record { more = []; is = sym (append-nil old); run = (refl, refl) }

    pub goes_then : (old mid new : Events) (xs ys : List ℕ) → Goes d runs old xs mid → Goes d runs mid ys new → Goes d runs old (xs ++ ys) new
    goes_then old mid new xs ys a b = record {
      more = a.more ++ b.more;
      is = b.is ∙ ap (λ (l : Events). l ++ b.more) a.is ∙ append_assoc old a.more b.more;
      run = run-append xs ys (now d old) (now d mid) a.more b.more (now d new).store a.run (sym (ap (now d) a.is ∙ behind-append (first_state d) old a.more)) b.run;
    }

    pub goes_stay : (old : Events) (i : ℕ) → i < d.count → IsStill d runs (now d old) i → Goes d runs old (i ∷ []) old
    goes_stay old i lt stay = record { more = []; is = sym (append-nil old); run = (lt, inl (stay, (refl, refl))) }

    pub goes_move : (old new : Events) (i : ℕ) (e : trace.Event) → i < d.count → IsMove d.count (number_of d) (side d runs) (now d old) i e → new ≡ old ++ (i, e) ∷ [] → Goes d runs old (i ∷ []) new
    goes_move old new i e lt move is = record {
      more = (i, e) ∷ [];
      is = is;
      run = (lt, inr (e, [], move, refl, (refl, ap (λ (s : State). s.store) (now-snoc old new i e is))));
    }

    module _ (s : State) (i : ℕ) where
      abbrev is_at : Status → Type 0
      is_at status = run_so_far d runs s i ≡ made (s.past i).events status

      pub has_ended : is_at run.ended → HasEnded d.count (number_of d) (side d runs) s i
      has_ended h = record { ended = ap (λ (r : Run). is_ended r.status) h; all = ap (λ (r : Run). r.events) h }

      no_more : (xs : List trace.Event) (e : trace.Event) → IsPrefix (xs ++ e ∷ []) xs → ⊥
      no_more xs e p =
          let same : length xs ≡ length ((xs ++ e ∷ []) ++ p.0) = ap length p.1 in
          let a : length ((xs ++ e ∷ []) ++ p.0) ≡ length (xs ++ e ∷ []) + length p.0 = length-append (xs ++ e ∷ []) p.0 in
          let b : length (xs ++ e ∷ []) ≡ length xs + 1 = length-append xs (e ∷ []) in
          omega (arith, same, a, b)

      -- an invocation that may move on, whose run neither has another event nor has ended, whatever it is answered
      pub neither : (settled : (told : Told) (answers more : List (List ℕ)) → (runs told answers).status ≢ run.waiting → runs told (answers ++ more) ≡ runs told answers) (status : Status) → is_at status → status ≢ run.waiting → is_ended status ≡ false → May d runs s i → IsNeither d runs s i
      neither settled status h flows goes may = record { no_move = no_move; no_stay = no_stay }
        where
          flows_so_far : (run_so_far d runs s i).status ≢ run.waiting
          flows_so_far w = flows (sym (ap (λ (r : Run). r.status) h) ∙ w)

          no_move : (e : trace.Event) → IsMove d.count (number_of d) (side d runs) s i e → ⊥
          no_move e m =
              let same : (runs (d.told i) ((s.past i).answers ++ answers_of e)).events ≡ (s.past i).events = ap (λ (r : Run). r.events) (settled (d.told i) (s.past i).answers (answers_of e) flows_so_far ∙ h) in
              no_more (s.past i).events e (subst (IsPrefix ((s.past i).events ++ e ∷ [])) same m.made)

          no_stay : IsStill d runs s i → ⊥
          no_stay (inl ended) = let both : false ≡ true = sym goes ∙ ap is_ended (sym (ap (λ (r : Run). r.status) h)) ∙ ended.ended in cc
          no_stay (inr kept) = kept may
