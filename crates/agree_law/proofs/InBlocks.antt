-- The changes that single instructions make on both sides keep an agreement in a block, and what the block has declared itself.
use Rattle.std.proofs.Common.{◌≡◌, ◌≢◌, ◌==◌, ℕ, Bool, true, false, List, Option, Some, inl, inr, sym, ap, ◌∙◌, subst}
use Rattle.std.proofs.lemmas.Bool.Decides.{eqb_tells}
use Rattle.spv_module.specs.declared.inst.Inst.{Inst}
use Rattle.spv_types.specs.Tree.{ValueTree}
use Rattle.module_semantics.specs.State.{Conf, put, with_top}
use Rattle.module_semantics.specs.Steps.{advanced}
use Rattle.glsl_semantics.specs.States.{Variable, State, found_in, put_in, declared}
use Rattle.region_law.proofs.Flags.{found_declared, other_declared, other_put}
use Rattle.agree_law.specs.Agree.{Naming, AreApart, variable_with, value_of, Agree, AgreeIn}
use Rattle.agree_law.specs.Blocks.{with_done}
use Rattle.agree_law.proofs.Braces.{outer_named, local_named, variable_named}
use Rattle.agree_law.proofs.Changes.{with_put, is_not, value_same, value_other, assigns, declares_value, forwards, stores}

done_other : (done : ℕ → Bool) (n k : ℕ) → k ≢ n → with_done done n k ≡ done k
done_other done n k apart =
    let off : (k == n) ≡ false = elim (eqb_tells k n) [ inl w ↦ absurd (apart w.1) | inr w ↦ w.0 ] in
    ap (λ (b : Bool). elim b as (λ b. Bool) [ true ↦ true | false ↦ done k ]) off

-- what was done before
pub before_it : (done : ℕ → Bool) (n k : ℕ) → k ≢ n → with_done done n k ≡ true → done k ≡ true
before_it done n k other d = sym (done_other done n k other) ∙ d

-- answers are no part of an agreement, nor are the instructions that are left
pub answers_alike : (m : Naming) (c : Conf) (s : State) (more : List (List ℕ)) → Agree m c s → Agree m c (record s { answers = more })
answers_alike m c s more a = record { outer = a.outer; variables = a.variables; lents = a.lents; privates = a.privates; kept = a.kept; outside = a.outside }

pub answers_in : (m : Naming) (done : ℕ → Bool) (c : Conf) (s : State) (more : List (List ℕ)) → AgreeIn m done c s → AgreeIn m done c (record s { answers = more })
answers_in m done c s more a = record { all = answers_alike m c s more a.all; local = a.local }

module _ (m : Naming) (apart : AreApart m) (done : ℕ → Bool) (c : Conf) (s : State) (rest : List Inst) where
  local_is_not : (n k : ℕ) → m.is_local n ≡ false → m.is_local k ≡ true → k ≢ n
  local_is_not n k off on = is_not m.is_local k n on off

  -- an instruction behind which nothing has changed but that it is done
  pub passes_in : (n : ℕ) → m.is_local n ≡ false → Agree m (advanced c rest) s → AgreeIn m done c s → AgreeIn m (with_done done n) (advanced c rest) s
  passes_in n off all a = record { all = all; local = λ k d e. a.local k (before_it done n k (local_is_not n k off e) d) e }

  -- a value with a variable at the top of the function is assigned
  pub assigns_in : (n : ℕ) (v : ValueTree) → m.is_outer n ≡ true → AgreeIn m done c s → AgreeIn m (with_done done n) (with_put c rest n v) (record s { frames = put_in s.frames (m.name n) v })
  assigns_in n v is a = record {
    all = assigns m apart c s rest n v is a.all;
    local = λ k d e.
        let other : k ≢ n = local_is_not n k (apart.once n is) e in
        other_put s.frames (m.name n) (m.name k) v (λ same. other (sym (apart.names n k (outer_named m n is) (local_named m k e) same)))
        ∙ a.local k (before_it done n k other d) e ∙ ap (λ (o : Option ValueTree). Some (variable_with (m.shape k) o)) (sym (value_other m apart c s rest n k v other));
  }

  -- one with a variable in its block is declared
  pub declares_value_in : (n : ℕ) (v : ValueTree) → m.is_local n ≡ true → AgreeIn m done c s → AgreeIn m (with_done done n) (with_put c rest n v) (record s { frames = declared s.frames (m.name n) (variable_with (m.shape n) (Some v)) })
  declares_value_in n v is a = record { all = declares_value m apart c s rest n v is a.all; local = one }
    where
      u : Variable
      u = variable_with (m.shape n) (Some v)

      one : (k : ℕ) → with_done done n k ≡ true → m.is_local k ≡ true → found_in (declared s.frames (m.name n) u) (m.name k) ≡ Some (variable_with (m.shape k) (value_of (with_put c rest n v) k))
      one k d e = elim (eqb_tells k n) [
        | inl w ↦
            subst (λ j. found_in (declared s.frames (m.name n) u) (m.name j) ≡ Some (variable_with (m.shape j) (value_of (with_put c rest n v) j))) (sym w.1)
            (found_declared s.frames (m.name n) u ∙ ap (λ (o : Option ValueTree). Some (variable_with (m.shape n) o)) (sym (value_same m apart c s rest n v)))
        | inr w ↦
            other_declared s.frames (m.name n) (m.name k) u (λ same. w.1 (sym (apart.names n k (local_named m n is) (local_named m k e) same)))
            ∙ a.local k (before_it done n k w.1 d) e ∙ ap (λ (o : Option ValueTree). Some (variable_with (m.shape k) o)) (sym (value_other m apart c s rest n k v w.1))
      ]

  -- one that stands in other expressions, or is gone, changes nothing in the text
  pub forwards_in : (n : ℕ) (v : ValueTree) → m.is_outer n ≡ false → m.is_lent n ≡ false → m.is_local n ≡ false → AgreeIn m done c s → AgreeIn m (with_done done n) (with_put c rest n v) s
  forwards_in n v outer far off a = record {
    all = forwards m apart c s rest n v outer far a.all;
    local = λ k d e.
        let other : k ≢ n = local_is_not n k off e in
        a.local k (before_it done n k other d) e ∙ ap (λ (o : Option ValueTree). Some (variable_with (m.shape k) o)) (sym (value_other m apart c s rest n k v other));
  }

  -- a Function variable is stored to; r is the instruction's result, which has no variable
  pub stores_in : (n r : ℕ) (v : ValueTree) → m.is_variable n ≡ true → m.is_local r ≡ false → AgreeIn m done c s
      → AgreeIn m (with_done done r) (with_top c (record c.top { rest = rest; variables = put c.top.variables n v })) (record s { frames = put_in s.frames (m.name n) v })
  stores_in n r v is off a = record {
    all = stores m apart c s rest n v is a.all;
    local = λ k d e.
        let other : k ≢ n = local_is_not n k (apart.variables n is).1 e in
        other_put s.frames (m.name n) (m.name k) v (λ same. other (sym (apart.names n k (variable_named m n is) (local_named m k e) same))) ∙ a.local k (before_it done r k (local_is_not r k off e) d) e;
  }
