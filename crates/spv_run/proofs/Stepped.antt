-- One step of an invocation under way, and the words that it is told.
use Rattle.std.proofs.Common.{◌≡◌, ◌==◌, ℕ, true, false, Bool, List, [], ◌∷◌, refl, ap, sym, ◌∙◌, subst, arith, length}
use Rattle.std.specs.Prelude.{Some, None, IsSome, IfSome, option_map, if◌then◌else◌}
use Rattle.std.proofs.lemmas.Bool.Decides.{nat_tests}
use Rattle.std.specs.declared.alloc.Global.{Global}
use Rattle.std.specs.declared.vec.Vec.{Vec}
use Rattle.traces.specs.Events as trace
use Rattle.traces.specs.Events.{Access, reading, updating}
use Rattle.traces.specs.Runs.{Act, goes, asks, stops, fails}
use Rattle.group_items.specs.Sides.{told_of}
use Rattle.group_items.specs.declared.runner.Invocation.{Invocation}
use Rattle.run_law.specs.Walks.{walk_from}
use Rattle.step_run.specs.declared.program.Step.{Step}
use Rattle.step_run.specs.declared.program.Step.TheVariants.{Moves, Makes, Asks, Stops, Fails}
use Rattle.step_run.specs.Steps.{IsStep, IsResumed, event_asked}
use Rattle.module_semantics.specs.State.{Conf}
use Rattle.run_state.specs.declared.conf.Conf.{Conf as Own}
use Rattle.memory_places.specs.Kernel.{Kernel, setting_for}
use Rattle.run_acts.specs.Narrowed.{told_words}
use Rattle.run_acts.specs.Acts.{IsAct}
use Rattle.run_acts.specs.Ready.{IsReady}
use Rattle.run_acts.proofs.Walked.{is_step, is_resumed}
use Rattle.spv_run.specs.declared.state.State.{State}
use Rattle.spv_run.specs.Runs.{act_by}
use Rattle.spv_run.specs.States.{count_of, wanted, asked_in, asked_by, is_at_by, setting_at, stands_at, is_at, goes_from, asked_from, HasTaken}

-- room for as many words as the step asks for
as_many : (a n : ℕ) → n ≡ a → (a == n) ≡ true
as_many a n h = grind (arith, nat_tests, h)

pub ready : (act : Conf → Act Conf) (old new : Conf) (step : Step) (n : ℕ) → IsAct (act old) old new step → IfSome (wanted step) (λ (count : ℕ). n ≡ count) → IsReady (asked_in n (act new)) step
ready act old new (Asks e) n is room =
    let count : n ≡ count_of is.0 = subst (λ o. IfSome (option_map count_of o) (λ (count : ℕ). n ≡ count)) is.1.1.1.0 room in
    is.1.1.1.0
    ∙ sym (ap (λ b. if b then Some is.0 else None) (as_many (count_of is.0) n count))
    ∙ sym (ap (asked_in n) (ap act is.1.1.1.1 ∙ is.1.1.0))
ready act old new Moves n is room = tt
ready act old new (Makes es) n is room = tt
ready act old new Stops n is room = tt
ready act old new Fails n is room = tt

module _ (k : Kernel) (old mid : State) (conf : Own) (words : Vec ℕ Global) (taken : HasTaken k old mid) where
  abbrev new : State
  new = record mid { conf = conf; words = words }

  went : goes_from k old ≡ walk_from (act_by (setting_at k mid)) (stands_at k mid)
  went =
      ap (λ (v : Invocation). walk_from (act_by (setting_for k (told_of v))) (is_at k old)) (sym taken.told)
      ∙ ap (walk_from (act_by (setting_at k mid))) (sym taken.stands)

  goes_now : goes_from k new ≡ walk_from (act_by (setting_at k mid)) (stands_at k new)
  goes_now = ap (λ b. walk_from (act_by (setting_at k mid)) (is_at_by b (act_by (setting_at k mid) (stands_at k new)) words.items (stands_at k new))) taken.none

  room_is : asked_from k new ≡ asked_in (length words.items) (act_by (setting_at k mid) (stands_at k new))
  room_is = ap (λ b. asked_by b (length words.items) (act_by (setting_at k mid) (stands_at k new))) taken.none

  pub stepped : (step : Step) → IsAct (act_by (setting_at k mid) (stands_at k mid)) (stands_at k mid) (stands_at k new) step → IfSome (wanted step) (λ (count : ℕ). length words.items ≡ count) → IsStep (goes_from k old) (goes_from k new) (asked_from k new) step
  stepped step is room =
      subst (λ w. IsStep w (goes_from k new) (asked_from k new) step) (sym went)
      (subst (λ w. IsStep (walk_from (act_by (setting_at k mid)) (stands_at k mid)) w (asked_from k new) step) (sym goes_now)
      (subst (λ a. IsStep (walk_from (act_by (setting_at k mid)) (stands_at k mid)) (walk_from (act_by (setting_at k mid)) (stands_at k new)) a step) (sym room_is)
      (is_step (act_by (setting_at k mid)) (stands_at k mid) (stands_at k new) (asked_in (length words.items) (act_by (setting_at k mid) (stands_at k new))) step is
      (ready (act_by (setting_at k mid)) (stands_at k mid) (stands_at k new) step (length words.items) is room))))

-- Words that are told
many_words : (a : Access) (words : List ℕ) → IsSome (trace.event_of a words) → length words ≡ count_of a
many_words (reading at) words some = by_test (length words == length at) refl some
  where
    by_test : (b : Bool) → (length words == length at) ≡ b → IsSome (if b then Some (trace.read at words) else None) → length words ≡ length at
    by_test true t some = grind (arith, nat_tests, t)
    by_test false t some = cc
many_words (updating o at operands) (w ∷ []) some = refl
many_words (updating o at operands) _ some = cc

count_is : (a : Access) (n : ℕ) (words : List ℕ) (b : Bool) → (count_of a == n) ≡ b → IsSome (event_asked (if b then Some a else None) words) → length words ≡ n
count_is a n words true t some = let same : count_of a ≡ n = grind (arith, nat_tests, t) in many_words a words some ∙ same
count_is a n words false t some = cc

fits_in : (n : ℕ) (x : Act Conf) (words : List ℕ) → IsSome (event_asked (asked_in n x) words) → length words ≡ n
fits_in n (asks a f) words some = count_is a n words (count_of a == n) refl some
fits_in n (goes es c) words some = cc
fits_in n stops words some = cc
fits_in n fails words some = cc

fits_by : (taken : Bool) (n : ℕ) (x : Act Conf) (words : List ℕ) → IsSome (event_asked (asked_by taken n x) words) → length words ≡ n
fits_by true n x words some = cc
fits_by false n x words some = fits_in n x words some

pub fits : (k : Kernel) (st : State) (words : List ℕ) → IsSome (event_asked (asked_from k st) words) → length words ≡ length st.words.items
fits k st words some = fits_by st.taken (length st.words.items) (act_by (setting_at k st) (stands_at k st)) words some

module _ (act : Conf → Act Conf) (c : Conf) (words : List ℕ) where
  abbrev behind : Conf
  behind = told_words (act c) words c

  by_count : (a : Access) (f : List ℕ → Conf) (b : Bool) → act c ≡ asks a f → IsSome (event_asked (if b then Some a else None) words) → IsResumed (walk_from act c) (walk_from act behind) words (event_asked (if b then Some a else None) words)
  by_count a f true is some = is_resumed act c a f words is (trace.event_of a words) refl
  by_count a f false is some = cc

  by_act : (n : ℕ) (x : Act Conf) → act c ≡ x → IsSome (event_asked (asked_in n x) words) → IsResumed (walk_from act c) (walk_from act behind) words (event_asked (asked_in n x) words)
  by_act n (asks a f) is some = by_count a f (count_of a == n) is some
  by_act n (goes es d) is some = cc
  by_act n stops is some = cc
  by_act n fails is some = cc

  -- with the words that there were
  by_taken : (taken : Bool) (were : List ℕ) → IsSome (event_asked (asked_by taken (length were) (act c)) words) → IsResumed (walk_from act (is_at_by taken (act c) were c)) (walk_from act behind) words (event_asked (asked_by taken (length were) (act c)) words)
  by_taken true were some = cc
  by_taken false were some = by_act (length were) (act c) refl some

pub resumed : (k : Kernel) (st : State) (words these : List ℕ) → these ≡ words → IsSome (event_asked (asked_from k st) words) → IsResumed (goes_from k st) (walk_from (act_by (setting_at k st)) (told_words (act_by (setting_at k st) (stands_at k st)) these (stands_at k st))) words (event_asked (asked_from k st) words)
resumed k st words these same some =
    subst (λ l. IsResumed (goes_from k st) (walk_from (act_by (setting_at k st)) (told_words (act_by (setting_at k st) (stands_at k st)) l (stands_at k st))) words (event_asked (asked_from k st) words)) (sym same)
    (by_taken (act_by (setting_at k st)) (stands_at k st) words st.taken st.words.items some)
