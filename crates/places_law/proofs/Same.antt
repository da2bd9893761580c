-- The run of a conforming module is the same with places by the numbers that a program has for them.
use Rattle.std.proofs.Common.{◌≡◌, ℕ, zero, suc, Bool, true, false, List, [], ◌∷◌, Option, Some, None, refl, ap, subst, ◌∙◌}
use Rattle.std.proofs.lemmas.Option.{same_Some}
use Rattle.spv_module.specs.declared.inst.Id.{Id}
use Rattle.spv_module.specs.declared.inst.Function.{Function}
use Rattle.profile_rules.specs.Entry.{function_of}
use Rattle.traces.specs.Events.{Event, event_of}
use Rattle.traces.specs.Runs.{Act, goes, asks, stops, fails, before, after, exec, move, told, step_of, run_of}
use Rattle.module_semantics.specs.Setting.{Setting}
use Rattle.module_semantics.specs.State.{Conf}
use Rattle.module_semantics.specs.Steps.{argument_of, entered, act}
use Rattle.module_semantics.specs.Run.{have_values, first_state, start_by, start}
use Rattle.fits_law.specs.State.{ModuleFits}
use Rattle.agree_law.specs.Agree.{IfPointer}
use Rattle.type_law.specs.Shaped.{AreConstants, HasConstants}
use Rattle.type_law.proofs.Constants.{constants_are}
use Rattle.typed_law.specs.Conforms.{IsConforming}
use Rattle.typed_law.specs.Runs.{IsTypedState, LeadsOn}
use Rattle.typed_law.proofs.Inputs.{conforming_fits}
use Rattle.typed_law.proofs.Runs.{typed_step, typed_start}
use Rattle.run_acts.specs.Narrowed.{narrowed}
use Rattle.places_law.specs.Pointing.{GoesAlong, IsAlong, ArePlaced}
use Rattle.places_law.proofs.Steps.{along_step}
use Rattle.places_law.proofs.Numbers.{own_act}

-- two machines that do the same, as long as something holds that the second keeps
module _ (f g : Conf → Act Conf) (P : Conf → Type 0) (same : (c : Conf) → P c → f c ≡ g c) (on : (c : Conf) → P c → LeadsOn P (g c)) where
  abbrev AreSame : ℕ → Type 0
  AreSame n = (c : Conf) (answers : List (List ℕ)) → P c → run_of f c answers n ≡ run_of g c answers n

  with_event : (n : ℕ) → AreSame n → (o : Option Event) (c : Conf) (more : List (List ℕ)) → ((e : Event) → o ≡ Some e → P c) → after (told o c more) (exec (step_of f) n) ≡ after (told o c more) (exec (step_of g) n)
  with_event n later None c more there = refl
  with_event n later (Some e) c more there = ap (before (e ∷ [])) (later c more (there e refl))

  with_act : (n : ℕ) → AreSame n → (a : Act Conf) (answers : List (List ℕ)) → LeadsOn P a → after (move a answers) (exec (step_of f) n) ≡ after (move a answers) (exec (step_of g) n)
  with_act n later (goes e c) answers there = ap (before e) (later c answers there)
  with_act n later (asks a h) [] there = refl
  with_act n later (asks a h) (words ∷ more) there = with_event n later (event_of a words) (h words) more (λ e is. there words e is)
  with_act n later stops answers there = refl
  with_act n later fails answers there = refl

  same_runs : (n : ℕ) → AreSame n
  same_runs zero c answers there = refl
  same_runs (suc n) c answers there = ap (λ (a : Act Conf). after (move a answers) (exec (step_of f) n)) (same c there) ∙ with_act n (same_runs n) (g c) answers (on c there)

both_lead : (P Q : Conf → Type 0) (a : Act Conf) → LeadsOn P a → LeadsOn Q a → LeadsOn (λ c. P c × Q c) a
both_lead P Q (goes e c) p q = (p, q)
both_lead P Q (asks a f) p q = λ words e is. (p words e is, q words e is)
both_lead P Q stops p q = tt
both_lead P Q fails p q = tt

none_given : (s : Setting) (ps : List (Id × Id)) (n : ℕ) → IfPointer (argument_of ps [] n) (GoesAlong s)
none_given s [] n = tt
none_given s (p ∷ ps) n = tt

module _ (s : Setting) (entry : Option (List ℕ)) (right : IsConforming s.of entry) (chosen : ℕ → Option ℕ) (have : HasConstants s chosen) (placed : ArePlaced s) where
  fit : ModuleFits s
  fit = conforming_fits s entry right chosen have

  constants : AreConstants s
  constants = constants_are s chosen have right.results

  abbrev Known : Conf → Type 0
  Known c = IsTypedState s c × IsAlong s c

  same : (c : Conf) → Known c → narrowed (act s c) ≡ act s c
  same c known = own_act s fit placed constants c known.0.fit.top.0 known.1

  on : (c : Conf) → Known c → LeadsOn Known (act s c)
  on c known = both_lead (IsTypedState s) (IsAlong s) (act s c) (typed_step s entry right chosen have c known.0) (along_step s fit constants c known.0.fit.top.0 known.1)

  first_along : (f : Function) → IsAlong s (first_state s f)
  unfolding entered
  first_along f = (none_given s f.params, tt)

  start_along : (c : Conf) → start s ≡ Some c → IsAlong s c
  unfolding start
  start_along c e = by_start (have_values s) (function_of s.of.functions s.entry) e
    where
      by_start : (b : Bool) (o : Option Function) → start_by s b o ≡ Some c → IsAlong s c
      by_start true (Some f) e = subst (IsAlong s) (same_Some (first_state s f) c e) (first_along f)
      by_start true None e = cc
      by_start false o e = cc

  -- from the start of the run, with any answers
  pub same_run : (c : Conf) → start s ≡ Some c → (answers : List (List ℕ)) (n : ℕ) → run_of (λ c. narrowed (act s c)) c answers n ≡ run_of (act s) c answers n
  same_run c begins answers n = same_runs (λ c. narrowed (act s c)) (act s) Known same on n c answers (typed_start s entry right chosen have c begins, start_along c begins)
