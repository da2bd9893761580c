-- One step of a machine that gets its words from outside.
use Rattle.std.proofs.Common.{◌≡◌, ℕ, suc, List, [], ◌∷◌, refl, ap, ◌∙◌}
use Rattle.std.specs.Prelude.{Option, Some}
use Rattle.traces.specs.Events.{Event, Access, event_of}
use Rattle.traces.specs.Runs.{running, ended, waiting, undefined, made, before, after, exec, Act, goes, asks, stops, fails, told, move, step_of, run_of}
use Rattle.run_law.specs.Walks.{walk_from}

-- the steps of a machine
module _ (C : Type 0) (act : C → Act C) where
  step_is : (a : Act C) (c : C) → act c ≡ a → (answers : List (List ℕ)) (n : ℕ) → run_of act c answers (suc n) ≡ after (move a answers) (exec (step_of act) n)
  step_is a c is answers n = ap (λ (b : Act C). after (move b answers) (exec (step_of act) n)) is

  pub stands : (c : C) (answers : List (List ℕ)) → run_of act c answers 0 ≡ made [] running
  stands c answers = refl

  pub goes_on : (c d : C) (e : List Event) → act c ≡ goes e d → (answers : List (List ℕ)) (n : ℕ) → walk_from act c answers (suc n) ≡ before e (walk_from act d answers n)
  goes_on c d e is answers n = step_is (goes e d) c is answers n

  pub stops_there : (c : C) → act c ≡ stops → (answers : List (List ℕ)) (n : ℕ) → walk_from act c answers (suc n) ≡ made [] ended
  stops_there c is answers n = step_is stops c is answers n

  pub fails_there : (c : C) → act c ≡ fails → (answers : List (List ℕ)) (n : ℕ) → walk_from act c answers (suc n) ≡ made [] undefined
  fails_there c is answers n = step_is fails c is answers n

  pub waits_there : (c : C) (a : Access) (f : List ℕ → C) → act c ≡ asks a f → (n : ℕ) → walk_from act c [] (suc n) ≡ made [] waiting
  waits_there c a f is n = step_is (asks a f) c is [] n

  pub goes_on_with : (c : C) (a : Access) (f : List ℕ → C) (words : List ℕ) (e : Event) → act c ≡ asks a f → event_of a words ≡ Some e → (more : List (List ℕ)) (n : ℕ) → walk_from act c (words ∷ more) (suc n) ≡ before (e ∷ []) (walk_from act (f words) more n)
  goes_on_with c a f words e is fits more n =
      step_is (asks a f) c is (words ∷ more) n ∙ ap (λ (o : Option Event). after (told o (f words) more) (exec (step_of act) n)) fits
