-- What variables have at the start, one after another.
use Rattle.std.proofs.Common.{◌≡◌, ◌≤◌, ◌==◌, ◌||◌, ℕ, Bool, true, false, List, [], ◌∷◌, refl, ap, sym, ◌∙◌, length, drop, map, cond}
use Rattle.std.specs.Prelude.{Option, Some, None, option_and_then, filter, find, if◌then◌else◌}
use Rattle.std.proofs.Math.ListN.{drop_of_length-le}
use Rattle.spv_module.specs.declared.inst.Inst.{Inst}
use Rattle.spv_module.specs.declared.inst.Function.{Function}
use Rattle.spv_module.specs.Held.{global}
use Rattle.spv_index.specs.Locals.{insts_of}
use Rattle.module_semantics.specs.Setting.{Setting, as_variable, is_listed}
use Rattle.module_semantics.specs.Accesses.{initial, initial_in, initial_private}
use Rattle.profile_rules.specs.Places.{is_variable}
use Rattle.run_flow.specs.Begun.{variables_among, begun_in}

no_true : true ≡ false → ⊥
no_true e = cc

module _ {A : Type 0} (first : ℕ → Option A) where
  pub begun_all : (ids : List ℕ) (k : ℕ) (m : ℕ → Option A) (q : ℕ) → length ids ≤ k → begun_in first (drop k ids) m q ≡ begun_in first ids (λ id. None) q → (is_listed ids q ≡ false → first q ≡ None) → m q ≡ first q
  begun_all ids k m q past h out = ap (λ l. begun_in first l m q) (sym (drop_of_length-le ids past)) ∙ h ∙ by_test (is_listed ids q) refl
    where
      by_test : (b : Bool) → is_listed ids q ≡ b → (if is_listed ids q then first q else None) ≡ first q
      by_test true t = ap (λ b. if b then first q else None) t
      by_test false t = ap (λ b. if b then first q else None) t ∙ sym (out t)

abbrev found : ℕ → List Inst → Option Inst
found q is = option_and_then as_variable (find (λ (i : Inst). i.result == q) is)

abbrev results : List Inst → List ℕ
results is = map (λ (i : Inst). i.result) is

unlisted_step : (i : Inst) (is : List Inst) (q : ℕ) (v t : Bool) → is_variable i ≡ v → (i.result == q) ≡ t → (is_listed (variables_among is) q ≡ false → found q is ≡ None) → is_listed (results (if v then i ∷ filter is_variable is else filter is_variable is)) q ≡ false → option_and_then as_variable (cond t (Some i) (find (λ (j : Inst). j.result == q) is)) ≡ None
unlisted_step i is q true true a b rest h = absurd (no_true (sym (ap (λ c. c || is_listed (variables_among is) q) b) ∙ h))
unlisted_step i is q true false a b rest h = rest (sym (ap (λ c. c || is_listed (variables_among is) q) b) ∙ h)
unlisted_step i is q false true a b rest h = ap (λ c. elim c as (λ x. Option Inst) [ true ↦ Some i | false ↦ None ]) a
unlisted_step i is q false false a b rest h = rest h

-- what is not listed among the variables is none
pub unlisted : (is : List Inst) (q : ℕ) → is_listed (variables_among is) q ≡ false → found q is ≡ None
unlisted [] q h = refl
unlisted (i ∷ is) q h = unlisted_step i is q (is_variable i) (i.result == q) refl refl (unlisted is q) h

pub no_initial_in : (s : Setting) (f : Function) (ids : List ℕ) (q : ℕ) → ids ≡ variables_among (insts_of f) → is_listed ids q ≡ false → initial_in s f q ≡ None
no_initial_in s f ids q is out = ap (option_and_then (initial s)) (unlisted (insts_of f) q (ap (λ l. is_listed l q) (sym is) ∙ out))

by_global : (o : Option Inst) → (elim o as (λ x. Option Inst) [ None ↦ None | Some g ↦ as_variable g ]) ≡ option_and_then as_variable o
by_global None = refl
by_global (Some g) = refl

pub no_initial_private : (s : Setting) (ids : List ℕ) (q : ℕ) → ids ≡ variables_among s.of.globals → is_listed ids q ≡ false → initial_private s q ≡ None
no_initial_private s ids q is out = ap (option_and_then (initial s)) (by_global (global s.of.globals q) ∙ unlisted s.of.globals q (ap (λ l. is_listed l q) (sym is) ∙ out))
