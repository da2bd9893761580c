-- A call's parameters keep what they were given: no instruction has one as its result.
use Rattle.std.proofs.Common.{◌≡◌, ◌≢◌, ◌≤◌, ◌⊎◌, ◌==◌, ◌&&◌, ℕ, suc, Bool, true, false, List, [], ◌∷◌, length, Option, None, inl, inr, refl, sym, ap, ◌∙◌, subst, arith}
use Rattle.std.proofs.lemmas.Bool.Decides.{eqb_tells}
use Rattle.spv_ops.specs.Groups.{is_chain}
use Rattle.spv_module.specs.declared.inst.Inst.{Inst}
use Rattle.spv_module.specs.declared.inst.Function.{Function}
use Rattle.spv_types.specs.Tree.{ValueTree}
use Rattle.spv_index.specs.Locals.{insts_of}
use Rattle.module_semantics.specs.Setting.{Setting}
use Rattle.module_semantics.specs.State.{own, Held, value, pointer, Frame, put, with_variable}
use Rattle.module_semantics.specs.Steps.{base, with_based, based_among, is_based_on, without_based, with_phis}
use Rattle.list_law.proofs.Tests.{and_right}
use Rattle.agree_law.specs.Blocks.{IsOf}
use Rattle.agree_law.proofs.Changes.{put_other}
use Rattle.agree_law.proofs.Stores.{length_with}
use Rattle.call_law.specs.Known.{IsFunctionOf, IsCode, is_parameter, KeepsParameters, LendsWhole}
use Rattle.call_law.specs.Frames.{IsClosed}
use Rattle.call_law.proofs.CodeKept.{next_of, code_on, code_called, block_of, phi_of}

-- what is based on a chain is the result of an instruction
based_result : (chain : ℕ) (based : ℕ → Bool) (is : List Inst) (n : ℕ) → based_among chain based is n ≡ true → (based n ≡ true) ⊎ ((i : Inst) × IsOf i is × (i.result ≡ n))
based_result chain based [] n on = inl on
based_result chain based (i ∷ is) n on = elim (based_result chain (with_based chain based i) is n on) [
  | inl first ↦ by_test (is_chain i.op && (i.result == n)) refl first
  | inr later ↦ inr (later.0, inr later.1, later.2)
]
  where
    same_result : (i.result == n) ≡ true → i.result ≡ n
    same_result e = elim (eqb_tells i.result n) [ inl w ↦ w.1 | inr w ↦ (let never : true ≡ false = sym e ∙ w.0 in cc) ]

    by_test : (t : Bool) → (is_chain i.op && (i.result == n)) ≡ t → elim t as (λ t. Bool) [ true ↦ elim (base i == chain) as (λ t. Bool) [ true ↦ true | false ↦ based (base i) ] | false ↦ based n ] ≡ true → (based n ≡ true) ⊎ ((j : Inst) × IsOf j (i ∷ is) × (j.result ≡ n))
    by_test true is e = inr (i, inl refl, same_result (and_right (is_chain i.op) (i.result == n) is))
    by_test false is e = inl e

module _ (s : Setting) (whole : LendsWhole s) (h : ℕ) (g : Function) (given : ℕ → Option Held) where
  abbrev J : List (Frame × ℕ) → Frame → Type 0
  J = KeepsParameters s h g given

  -- another than a result
  other_than : (f : Function) (n r : ℕ) → is_parameter f n ≡ true → is_parameter f r ≡ false → n ≢ r
  other_than f n r on off same = let never : true ≡ false = sym on ∙ (ap (is_parameter f) same ∙ off) in cc

  result_no : (f : Frame) (i : Inst) (rest : List Inst) → f.rest ≡ i ∷ rest → IsCode s f → is_parameter f.function i.result ≡ false
  result_no f i rest next code = whole.results f.function code.of_module i (next_of s f i rest next code)

  kept_so : (ds : List (Frame × ℕ)) (f e : Frame) → IsCode s e → e.function ≡ f.function → ((n : ℕ) → is_parameter f.function n ≡ true → e.ids n ≡ f.ids n) → J ds f → J ds e
  kept_so ds f e code same ids at = record {
    code = code;
    above = at.above;
    same = λ height. let was = at.same height in (same ∙ was.0, λ n on. ids n (subst (λ k. is_parameter k n ≡ true) (sym was.0) on) ∙ was.1 n on);
  }

  without_same : (f : Frame) (chain n : ℕ) → IsCode s f → is_parameter f.function n ≡ true → without_based f.function chain f.ids n ≡ f.ids n
  without_same f chain n code on = by_test (is_based_on f.function chain n) refl
    where
      by_test : (t : Bool) → is_based_on f.function chain n ≡ t → elim t as (λ t. Option Held) [ true ↦ None | false ↦ f.ids n ] ≡ f.ids n
      by_test false is = refl
      by_test true is = elim (based_result chain (λ id. false) (insts_of f.function) n is) [
        | inl e ↦ (let never : false ≡ true = e in cc)
        | inr made ↦ absurd (other_than f.function n made.0.result on (whole.results f.function code.of_module made.0 made.1) (sym made.2))
      ]

  phis_same : (f : Function) → IsFunctionOf f s.of.functions → (is : List Inst) (vs : List ValueTree) (ids : ℕ → Option Held) → ((i : Inst) → IsOf i is → IsOf i (insts_of f)) → (n : ℕ) → is_parameter f n ≡ true → with_phis is vs ids n ≡ ids n
  phis_same f of_module [] vs ids of n on = refl
  phis_same f of_module (i ∷ is) [] ids of n on = refl
  phis_same f of_module (i ∷ is) (v ∷ vs) ids of n on =
      put_other (with_phis is vs ids) i.result n (value v) (other_than f n i.result on (whole.results f of_module i (of i (inl refl)))) ∙ phis_same f of_module is vs ids (λ j is. of j (inr is)) n on

  pub parameters_closed : IsClosed (KeepsParameters s h g given) s
  parameters_closed = record {
    passes = λ ds f i rest next at. kept_so ds f (record f { rest = rest }) (record { of_module = at.code.of_module; of_function = code_on s f i rest next at.code }) refl (λ n on. refl) at;
    gets = λ ds f i rest v next kind at. kept_so ds f (record f { rest = rest; ids = put f.ids i.result (value v) }) (record { of_module = at.code.of_module; of_function = code_on s f i rest next at.code }) refl
        (λ n on. put_other f.ids i.result n (value v) (other_than f.function n i.result on (result_no f i rest next at.code))) at;
    leads = λ ds f i rest p indexes ty next kind is have leads allowed at. kept_so ds f (record f { rest = rest; ids = put (without_based f.function i.result f.ids) i.result (pointer p.0 _) }) (record { of_module = at.code.of_module; of_function = code_on s f i rest next at.code }) refl
        (λ n on. put_other (without_based f.function i.result f.ids) i.result n _ (other_than f.function n i.result on (result_no f i rest next at.code)) ∙ without_same f i.result n at.code on) at;
    declares = λ ds f i rest v next kind has at. kept_so ds f (record f { rest = rest; ids = put f.ids i.result (pointer (own i.result) []) }) (record { of_module = at.code.of_module; of_function = code_on s f i rest next at.code }) refl
        (λ n on. put_other f.ids i.result n _ (other_than f.function n i.result on (result_no f i rest next at.code))) at;
    stores = λ ds f n v at. kept_so ds f (with_variable n v f) (record { of_module = at.code.of_module; of_function = at.code.of_function }) refl (λ n on. refl) at;
    lends = λ ds f depth n v e is at. record {
      code = at.code;
      above = subst (λ l. h ≤ l) (sym (length_with depth (with_variable n v e) ds)) at.above;
      same = λ height. at.same (sym (length_with depth (with_variable n v e) ds) ∙ height);
    };
    calls = λ ds f i rest e hs next kind is have at. record {
      code = code_called s _ e _ is;
      above = (let le = at.above in let more : h ≤ suc (length ds) = omega (arith, le) in more);
      same = λ height. let le = at.above in absurd (omega (arith, le, height));
    };
    goes_to = λ ds f i rest o label t b values next kind leads to is have at. kept_so ds f _ (record { of_module = at.code.of_module; of_function = block_of f.function.blocks t b is }) refl (phis_same f.function at.code.of_module _ values f.ids (phi_of f.function.blocks t b is)) at;
  }
