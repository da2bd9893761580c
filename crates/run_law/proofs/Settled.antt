-- A run that does not wait does the same with more answers.
use Rattle.std.proofs.Common.{◌≡◌, ◌≢◌, ℕ, zero, suc, List, [], ◌∷◌, ◌++◌, refl, ap}
use Rattle.std.specs.Prelude.{Option, Some, None}
use Rattle.traces.specs.Events.{Event, Access, event_of}
use Rattle.traces.specs.Runs.{waiting, before, after, exec, Act, goes, asks, stops, fails, told, move, step_of, run_of}

module _ (C : Type 0) (act : C → Act C) where
  -- of the runs of so many steps
  abbrev IsSettled : ℕ → Type 0
  IsSettled n = (c : C) (answers more : List (List ℕ)) → (run_of act c answers n).status ≢ waiting → run_of act c (answers ++ more) n ≡ run_of act c answers n

  with_event : (n : ℕ) → IsSettled n → (o : Option Event) (c : C) (answers more : List (List ℕ)) → (after (told o c answers) (exec (step_of act) n)).status ≢ waiting → after (told o c (answers ++ more)) (exec (step_of act) n) ≡ after (told o c answers) (exec (step_of act) n)
  with_event n same None c answers more flows = absurd (flows refl)
  with_event n same (Some e) c answers more flows = ap (before (e ∷ [])) (same c answers more flows)

  with_answer : (n : ℕ) → IsSettled n → (a : Access) (f : List ℕ → C) (answers more : List (List ℕ)) → (after (move (asks a f) answers) (exec (step_of act) n)).status ≢ waiting → after (move (asks a f) (answers ++ more)) (exec (step_of act) n) ≡ after (move (asks a f) answers) (exec (step_of act) n)
  with_answer n same a f [] more flows = absurd (flows refl)
  with_answer n same a f (words ∷ answers) more flows = with_event n same (event_of a words) (f words) answers more flows

  one_step : (n : ℕ) → IsSettled n → (x : Act C) (answers more : List (List ℕ)) → (after (move x answers) (exec (step_of act) n)).status ≢ waiting → after (move x (answers ++ more)) (exec (step_of act) n) ≡ after (move x answers) (exec (step_of act) n)
  one_step n same (goes e d) answers more flows = ap (before e) (same d answers more flows)
  one_step n same (asks a f) answers more flows = with_answer n same a f answers more flows
  one_step n same stops answers more flows = refl
  one_step n same fails answers more flows = refl

  pub settled : (n : ℕ) (c : C) (answers more : List (List ℕ)) → (run_of act c answers n).status ≢ waiting → run_of act c (answers ++ more) n ≡ run_of act c answers n
  settled zero c answers more flows = refl
  settled (suc n) c answers more flows = one_step n (settled n) (act c) answers more flows
