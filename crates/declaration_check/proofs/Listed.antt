-- The words where the instructions stand that pass a test, from the first that does.
use Rattle.std.proofs.Common.{◌≡◌, ◌==◌, ◌||◌, ◌∙◌, ap, inl, inr, ℕ, Bool, true, false, List, [], ◌∷◌, ◌++◌, map, Option, Some, None, cond, refl, sym, subst, arith, zero, suc, Result, Ok, Err}
use Rattle.std.specs.Prelude.{Contains, filter, not}
use Rattle.std.specs.List.{find}
use Rattle.std.proofs.lemmas.Bool.Decides.{eqb_tells}
use Rattle.list_law.proofs.Lists.{contains_head}
use Rattle.spv_words.specs.declared.rule.Rule.{Rule}
use Rattle.spv_words.specs.declared.rule.Fault.{Fault}
use Rattle.spv_words.specs.declared.rule.Fault.TheVariants.{Refused, Limit, Memory}
use Rattle.spv_module.specs.declared.inst.Inst.{Inst}
use Rattle.profile_rules.specs.Places.{places, when}
use Rattle.declaration_check.specs.Checked.{IsCause, IsChecked, word_of}

-- one more in front
pub contains_tail : (x : ℕ) (xs : List ℕ) (y : ℕ) → Contains xs y → Contains (x ∷ xs) y
contains_tail x xs y (k, inside, is) = (suc k, omega arith, is)

-- what a list of one contains
at_only : (x y : ℕ) → Contains (x ∷ []) y → x ≡ y
at_only x y (zero, inside, is) = is
at_only x y (suc k, inside, is) = absurd (omega arith)

-- where none is found there are no such words
pub places_none : (test : Inst → Bool) (insts : List Inst) → find test insts ≡ None → places test insts ≡ []
places_none test [] none = refl
places_none test (i ∷ is) none =
    (elim (test i) as (λ b. cond b (Some i) (find test is) ≡ None → map (λ (j : Inst). j.at) (cond b (i ∷ filter test is) (filter test is)) ≡ []) [
      | true ↦ λ e. cc
      | false ↦ λ e. places_none test is e
    ]) none

-- and the first that is found stands at one
pub places_some : (test : Inst → Bool) (insts : List Inst) (i : Inst) → find test insts ≡ Some i → Contains (places test insts) i.at
places_some test [] i found = cc
places_some test (j ∷ js) i found =
    (elim (test j) as (λ b. cond b (Some j) (find test js) ≡ Some i → Contains (map (λ (k : Inst). k.at) (cond b (j ∷ filter test js) (filter test js))) i.at) [
      | true ↦ λ e. let same : j ≡ i = cc in subst (λ (k : Inst). Contains (j.at ∷ places test js) k.at) same (contains_head j.at (places test js))
      | false ↦ λ e. places_some test js i e
    ]) found

-- a refusal at what is found first is one at such a word
cause_found : (rule : Rule) (test : Inst → Bool) (insts : List Inst) (found : Option Inst) (fault : Fault) → found ≡ find test insts → IsCause rule (word_of found) fault → IsCause rule (places test insts) fault
cause_found rule test insts None (Refused r) is cause = absurd (omega (arith, cause.1.1))
cause_found rule test insts (Some i) (Refused r) is cause =
    let here : i.at ≡ r.at = at_only i.at r.at cause.1 in
    (cause.0, subst (λ (n : ℕ). Contains (places test insts) n) here (places_some test insts i (sym is)))
cause_found rule test insts found (Limit l) is cause = cause
cause_found rule test insts found Memory is cause = tt

some_word : (i : Inst) → word_of (Some i) ≡ [] → ⊥
some_word i e = cc

some_zero : (n : ℕ) → n ∷ [] ≡ [] → ⊥
some_zero n e = cc

pub checked_found : (rule : Rule) (found : Option Inst) (result : Result (Unit {0}) Fault) (test : Inst → Bool) (insts : List Inst) → IsChecked rule (word_of found) result → found ≡ find test insts → IsChecked rule (places test insts) result
checked_found rule None (Ok u) test insts checked is = record { passes = places_none test insts (sym is); refused = tt }
checked_found rule (Some i) (Ok u) test insts checked is = record { passes = absurd (some_word i checked.passes); refused = tt }
checked_found rule found (Err fault) test insts checked is = record { passes = tt; refused = cause_found rule test insts found fault is checked.refused }

-- one list, or another where the first is empty for want of a cause
pub checked_else : (rule : Rule) (b : Bool) (xs : List ℕ) (result : Result (Unit {0}) Fault) → when (not b) (0 ∷ []) ≡ [] → IsChecked rule xs result → IsChecked rule (when (not b) (0 ∷ []) ++ when b xs) result
checked_else rule true xs result none checked = checked
checked_else rule false xs result none checked = absurd (some_zero 0 none)

-- two lists: the first is empty, and the second is checked
pub checked_after : (rule : Rule) (xs ys : List ℕ) (result : Result (Unit {0}) Fault) → xs ≡ [] → IsChecked rule ys result → IsChecked rule (xs ++ ys) result
checked_after rule xs ys result none checked = let P : List ℕ → Type 0 = λ l. IsChecked rule (l ++ ys) result in subst P (sym none) checked

contains_front : (xs ys : List ℕ) (x : ℕ) → Contains xs x → Contains (xs ++ ys) x
contains_front [] ys x (k, inside, is) = absurd (omega arith)
contains_front (y ∷ xs) ys x (zero, inside, is) = (zero, omega arith, is)
contains_front (y ∷ xs) ys x (suc k, inside, is) =
    let later = contains_front xs ys x (k, omega arith, is) in contains_tail y (xs ++ ys) x later

-- a refusal at the first is one at both
pub cause_front : (rule : Rule) (xs ys : List ℕ) (fault : Fault) → IsCause rule xs fault → IsCause rule (xs ++ ys) fault
cause_front rule xs ys (Refused r) cause = (cause.0, contains_front xs ys r.at cause.1)
cause_front rule xs ys (Limit l) cause = cause
cause_front rule xs ys Memory cause = tt

pub checked_front : (rule : Rule) (xs ys : List ℕ) (fault : Fault) → IsCause rule xs fault → IsChecked rule (xs ++ ys) (Err fault)
checked_front rule xs ys fault cause = record { passes = tt; refused = cause_front rule xs ys fault cause }

pub checked_error : (rule : Rule) (xs ys : List ℕ) (fault : Fault) (result : Result (Unit {0}) Fault) → IsChecked rule xs (Err fault) → result ≡ Err fault → IsChecked rule (xs ++ ys) result
checked_error rule xs ys fault result checked is = let P : Result (Unit {0}) Fault → Type 0 = IsChecked rule (xs ++ ys) in subst P (sym is) (checked_front rule xs ys fault checked.refused)

-- what is found, of a test that speaks of numbers that are known
pub checked_by : {N : Type 0} (rule : Rule) (test : N → Inst → Bool) (insts : List Inst) (n k : N) (found : Option Inst) (result : Result (Unit {0}) Fault) → n ≡ k → found ≡ find (test n) insts → IsChecked rule (word_of found) result → IsChecked rule (places (test k) insts) result
checked_by {N} rule test insts n k found result same is checked =
    let P : N → Type 0 = λ x. IsChecked rule (places (test x) insts) result in
    subst P same (checked_found rule found result (test n) insts checked is)

-- adding what is there changes nothing
pub is_there : (old : ℕ → Bool) (id : ℕ) → old id ≡ true → (other : ℕ) → old other ≡ (old other || (id == other))
is_there old id there other =
    elim (eqb_tells id other) [
      | inl w ↦
          let known : old other ≡ true = ap old (sym w.1) ∙ there in
          known ∙ sym (ap (λ b. b || (id == other)) known)
      | inr w ↦ or_nothing (old other) (id == other) w.0
    ]
  where
    or_nothing : (a b : Bool) → b ≡ false → a ≡ (a || b)
    or_nothing true b e = refl
    or_nothing false b e = sym e
