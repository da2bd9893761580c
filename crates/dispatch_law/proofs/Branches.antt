-- The runs of a machine are steady.
use Rattle.std.proofs.Common.{ℕ, zero, suc, List, [], ◌∷◌, ◌++◌, inl, inr, refl, ap, sym, subst, append_assoc}
use Rattle.std.specs.Prelude.{Option, Some, None}
use Rattle.traces.specs.Events.{Event, event_of}
use Rattle.traces.specs.Runs.{Run, waiting, made, before, after, exec, Act, goes, asks, stops, fails, told, move, step_of, run_of}
use Rattle.traces.specs.Simulation.{IsPrefix}
use Rattle.traces.proofs.Moves.{prefix_under}
use Rattle.dispatch_law.specs.Steady.{GoesOn, IsBranch, Branches}

-- with events that were made before
on_before : (es : List Event) (old new : Run) (o : Option Event) → GoesOn old new o → GoesOn (before es old) (before es new) o
on_before es old new None h = ap (before es) h
on_before es old new (Some e) h = subst (λ (p : List Event). IsPrefix p (es ++ new.events)) (sym (append_assoc es old.events (e ∷ []))) (prefix_under es (old.events ++ e ∷ []) new.events h)

branch_before : (es : List Event) (old : Run) (new : List ℕ → Run) → IsBranch old new → IsBranch (before es old) (λ words. before es (new words))
branch_before es old new (inl same) = inl (λ words. ap (before es) (same words))
branch_before es old new (inr h) = inr (h.0, λ words. on_before es old (new words) (event_of h.0 words) (h.1 words))

module _ (C : Type 0) (act : C → Act C) where
  abbrev ran : ℕ → C → List (List ℕ) → Run
  ran n c answers = run_of act c answers n

  -- the first answer makes the event of the access, or none
  first : (n : ℕ) (o : Option Event) (d : C) → GoesOn (made [] waiting) (after (told o d []) (exec (step_of act) n)) o
  first n None d = refl
  first n (Some e) d = ((ran n d []).events, refl)

  module _ (n : ℕ) (ih : (c : C) → Branches (ran n c)) where
    behind_answer : (o : Option Event) (d : C) (more : List (List ℕ)) → IsBranch (after (told o d more) (exec (step_of act) n)) (λ words. after (told o d (more ++ words ∷ [])) (exec (step_of act) n))
    behind_answer None d more = inl (λ words. refl)
    behind_answer (Some e) d more = branch_before (e ∷ []) (ran n d more) (λ words. ran n d (more ++ words ∷ [])) (ih d more)

    by_act : (x : Act C) (answers : List (List ℕ)) → IsBranch (after (move x answers) (exec (step_of act) n)) (λ words. after (move x (answers ++ words ∷ [])) (exec (step_of act) n))
    by_act (goes es d) answers = branch_before es (ran n d answers) (λ words. ran n d (answers ++ words ∷ [])) (ih d answers)
    by_act (asks a f) [] = inr (a, λ words. first n (event_of a words) (f words))
    by_act (asks a f) (words ∷ more) = behind_answer (event_of a words) (f words) more
    by_act stops answers = inl (λ words. refl)
    by_act fails answers = inl (λ words. refl)

  pub branches : (n : ℕ) (c : C) → Branches (ran n c)
  branches zero c answers = inl (λ words. refl)
  branches (suc n) c answers = by_act n (branches n) (act c) answers
