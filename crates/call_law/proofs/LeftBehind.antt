-- A call begins with nothing but its arguments, so what waits for it lends it no more than these lead into; and where it returns its caller has that left.
use Rattle.std.proofs.Common.{◌≡◌, ◌⊎◌, ◌==◌, ℕ, Bool, true, false, List, [], ◌∷◌, length, map, Option, Some, None, inl, inr, refl, sym, ap, ◌∙◌, subst}
use Rattle.std.specs.Prelude.{option_and_then}
use Rattle.std.proofs.lemmas.Bool.Decides.{eqb_tells}
use Rattle.spv_module.specs.declared.inst.Inst.{Inst}
use Rattle.spv_module.specs.declared.inst.Function.{Function}
use Rattle.spv_types.specs.Tree.{ValueTree}
use Rattle.op_semantics.specs.Composite.{extracted}
use Rattle.module_semantics.specs.Setting.{Setting}
use Rattle.module_semantics.specs.State.{global, own, lent, Held, value, pointer, Frame, Conf, call_at}
use Rattle.module_semantics.specs.Steps.{passed, entered, called}
use Rattle.agree_law.specs.Agree.{Naming, AreApart, IfPointer, variable_in, target_value}
use Rattle.agree_law.specs.Outs.{Outs, IsOut, NotOut, AreOnce, AreLent}
use Rattle.agree_law.proofs.Returning.{IsLeft}
use Rattle.agree_law.proofs.Along.{arguments_along}
use Rattle.call_law.specs.Waits.{Wait, IsInside, LentBy, IsUnlent, IsWithin}
use Rattle.call_law.proofs.Inside.{wait_length, AllWithin, waits_there}

-- the caller, which waits behind the call, and those below it
abbrev pub waiting : Conf → List Inst → Inst → List (Frame × ℕ)
waiting c rest i = (record c.top { rest = rest }, i.result) ∷ c.below

module _ (IsLent : ℕ → ℕ → Type 0) where
  wait_self : (bs : List (Frame × ℕ)) → Wait IsLent bs bs
  wait_self [] = tt
  wait_self (b ∷ bs) = (refl, record { function = refl; block = refl; rest = refl; ids = λ n. refl; variables = λ n. inr refl }, wait_self bs)

-- what the arguments lead into is lent
all_lent : (s : Setting) (start : List (Frame × ℕ)) (all hs : List Held) → ((d n : ℕ) → LentBy hs d n → LentBy all d n) → AllWithin s (LentBy all) start hs
all_lent s start all [] more = tt
all_lent s start all (value v ∷ hs) more = (tt, all_lent s start all hs (λ d n is. more d n (inr is)))
all_lent s start all (pointer (global k) path ∷ hs) more = (tt, all_lent s start all hs (λ d n is. more d n (inr is)))
all_lent s start all (pointer (own k) path ∷ hs) more = (tt, all_lent s start all hs (λ d n is. more d n (inr is)))
all_lent s start all (pointer (lent d k) path ∷ hs) more = (inr (more d k (inl (refl, refl))), all_lent s start all hs (λ d n is. more d n (inr is)))

-- a call begins inside, with what its arguments lead into as lent
pub call_begins : (s : Setting) (c : Conf) (rest : List Inst) (i : Inst) (f : Function) (arguments : List Held) → IsInside (LentBy (map (passed (length c.below)) arguments)) (waiting c rest i) (called s c rest i f arguments)
unfolding entered
call_begins s c rest i f arguments =
    let hs : List Held = map (passed (length c.below)) arguments in
    record {
      top = arguments_along (λ r path. IsWithin (LentBy hs) (waiting c rest i) r) f.params hs (all_lent s (waiting c rest i) hs hs (λ d n is. is));
      below = inl (wait_self (LentBy hs) (waiting c rest i));
    }

module _ (s : Setting) (IsLent : ℕ → ℕ → Type 0) where
  -- a variable that was not lent has the value that it had
  pub wait_variable : (bs ds : List (Frame × ℕ)) → Wait IsLent bs ds → (depth n : ℕ) → (IsLent depth n → ⊥) → variable_in (call_at depth bs) n ≡ variable_in (call_at depth ds) n
  wait_variable [] [] w depth n off = refl
  wait_variable [] (d ∷ ds) w depth n off = absurd w
  wait_variable (b ∷ bs) [] w depth n off = absurd w
  wait_variable (b ∷ bs) (d ∷ ds) w depth n off =
      by_test (length bs == depth) (eqb_tells (length bs) depth) (wait_variable bs ds w.2 depth n off)
      ∙ ap (λ (k : ℕ). variable_in (elim (k == depth) as (λ t. Option Frame) [ true ↦ Some d.0 | false ↦ call_at depth ds ]) n) (sym (wait_length s IsLent [] bs ds w.2))
    where
      by_variable : IsLent (length bs) n ⊎ (d.0.variables n ≡ b.0.variables n) → length bs ≡ depth → b.0.variables n ≡ d.0.variables n
      by_variable (inl is) same = absurd (off (subst (λ k. IsLent k n) same is))
      by_variable (inr is) same = sym is

      by_test : (t : Bool) → ((t ≡ true) × (length bs ≡ depth)) ⊎ ((t ≡ false) × (length bs ≡ depth → ⊥)) → variable_in (call_at depth bs) n ≡ variable_in (call_at depth ds) n
          → variable_in (elim t as (λ t. Option Frame) [ true ↦ Some b.0 | false ↦ call_at depth bs ]) n ≡ variable_in (elim t as (λ t. Option Frame) [ true ↦ Some d.0 | false ↦ call_at depth ds ]) n
      by_test true (inl w') later = by_variable (w.1.variables n) w'.1
      by_test true (inr w') later = cc
      by_test false w' later = later

  -- where the call returns its caller has what was left: of what was lent the values that the call gave, and all else as before
  pub left_behind : (m : Naming) (apart : AreApart m) (c d : Conf) (rest : List Inst) (i : Inst) (frame : Frame) (id : ℕ) (below : List (Frame × ℕ)) (os : Outs) → Wait IsLent (waiting c rest i) ((frame, id) ∷ below) → AreOnce os → AreLent m os
      → ((n : ℕ) (v : ValueTree) → m.is_variable n ≡ true → IsOut n v os → frame.variables n ≡ Some v)
      → ((n : ℕ) (v : ValueTree) → m.is_lent n ≡ true → IsOut n v os → IfPointer (c.top.ids n) (λ r path. Some v ≡ target_value (record d { top = frame; below = below }) r path))
      → ((n : ℕ) → m.is_variable n ≡ true → NotOut n os → IsLent (length c.below) n → ⊥)
      → ((n : ℕ) → m.is_lent n ≡ true → NotOut n os → IfPointer (c.top.ids n) (λ r path. IsUnlent IsLent r))
      → IsLeft m apart c (record d { top = frame; below = below }) os
  left_behind m apart c d rest i frame id below os w once are variables lents unlent far = record {
    ids = w.1.ids;
    once = once;
    lent = are;
    variables = λ n is. (λ v out. variables n v is out, λ none. by_variable n (unlent n is none) (w.1.variables n));
    lents = λ n is. (λ v out. lents n v is out, λ none. by_pointer (c.top.ids n) (far n is none));
  }
    where
      by_variable : (n : ℕ) → (IsLent (length c.below) n → ⊥) → IsLent (length c.below) n ⊎ (frame.variables n ≡ c.top.variables n) → frame.variables n ≡ c.top.variables n
      by_variable n off (inl is) = absurd (off is)
      by_variable n off (inr is) = is

      by_pointer : (h : Option Held) → IfPointer h (λ r path. IsUnlent IsLent r) → IfPointer h (λ r path. target_value c r path ≡ target_value (record d { top = frame; below = below }) r path)
      by_pointer None off = tt
      by_pointer (Some (value v)) off = tt
      by_pointer (Some (pointer (global k) path)) off = absurd off
      by_pointer (Some (pointer (own k) path)) off = absurd off
      by_pointer (Some (pointer (lent depth k) path)) off = ap (option_and_then (extracted path)) (wait_variable c.below below w.2 depth k off)

  -- which the machine is about to go back to
  pub record IsBack (c d : Conf) (rest : List Inst) (i : Inst) : Type 0 where
    pub frame : Frame
    pub below : List (Frame × ℕ)
    pub is : d.below ≡ (frame, i.result) ∷ below
    pub waits : Wait IsLent (waiting c rest i) ((frame, i.result) ∷ below)

  pub back_there : (c d : Conf) (rest : List Inst) (i : Inst) → IsInside IsLent (waiting c rest i) d → length d.below ≡ length (waiting c rest i) → IsBack c d rest i
  back_there c d rest i at same = by_calls d.below refl (waits_there s IsLent (waiting c rest i) d.below at.below same)
    where
      by_calls : (ds : List (Frame × ℕ)) → d.below ≡ ds → Wait IsLent (waiting c rest i) ds → IsBack c d rest i
      by_calls [] is w = absurd w
      by_calls ((frame, id) ∷ ds) is w = record { frame = frame; below = ds; is = is ∙ ap (λ (k : ℕ). (frame, k) ∷ ds) w.0; waits = (refl, w.1, w.2) }
