-- Where results are defined once (P3), a function's parameters have ids of their own.
use Rattle.std.proofs.Common.{◌≡◌, ℕ, List, [], ◌∷◌, map, inl, inr, refl, sym, ◌∙◌, subst}
use Rattle.spv_words.specs.Words.{insts}
use Rattle.spv_words.specs.declared.rule.Rule.TheVariants.{P3}
use Rattle.spv_words.specs.declared.words.Inst1.{Inst1}
use Rattle.spv_module.specs.declared.kind.Kind.{Kind}
use Rattle.spv_module.specs.declared.kind.Kind.TheVariants.{Function as Opening_of, Parameter, End, Label}
use Rattle.spv_module.specs.declared.inst.Id.{Id}
use Rattle.spv_module.specs.declared.inst.Function.{Function}
use Rattle.spv_module.specs.Inst.{inst_of, word}
use Rattle.spv_module.specs.Kinds.{kind_of}
use Rattle.spv_module.specs.Broken.{IsUnbroken}
use Rattle.spv_module.specs.Ids.{result_by, result_of}
use Rattle.spv_module.specs.Lists.{id as id_of, with_param, params, function, with_function, functions_from, functions}
use Rattle.plan_law.specs.Distinct.{IsNone, AreDistinct}
use Rattle.plan_law.proofs.Listed.{distinct}
use Rattle.plan_law.proofs.Owned.{parameter_result}
use Rattle.call_law.specs.Known.{IsFunctionOf}
use Rattle.function_law.specs.Passed.{IsNoId, AreOnceIds}
use Rattle.typed_law.specs.Conforms.{IsParameter}

-- none of these parameters has the id 0
abbrev AreSome : List (Id × Id) → Type 0
AreSome ps = (p : Id × Id) → IsParameter p ps → p.0.0 ≡ 0 → ⊥

abbrev AllOnce : List Function → Type 0
AllOnce [] = Unit {0}
AllOnce (f ∷ fs) = (AreSome f.params → AreOnceIds f.params) × AllOnce fs

once_in : (fs : List Function) → AllOnce fs → (f : Function) → IsFunctionOf f fs → AreSome f.params → AreOnceIds f.params
once_in [] all f one = absurd one
once_in (g ∷ fs) all f (inl same) = subst (λ (h : Function). AreSome h.params → AreOnceIds h.params) same all.0
once_in (g ∷ fs) all f (inr one) = once_in fs all.1 f one

module _ (ws : List ℕ) where
  no_id : (id : ℕ) (is : List Inst1) → IsNone id (map (result_of ws) is) → IsNoId id (params ws is)
  no_id id [] gives = tt
  no_id id (i ∷ is) gives = by_kind (kind_of ws i) refl gives.0 (no_id id is gives.1)
    where
      by_kind : (k : Kind) → kind_of ws i ≡ k → (result_by k (inst_of ws i) ≡ id → ⊥) → IsNoId id (params ws is) → IsNoId id (with_param k (id_of (word ws i 2), id_of (word ws i 1)) (params ws is))
      by_kind Parameter kind far rest = (λ same. far (parameter_result ws i kind ∙ same), rest)
      by_kind Label kind far rest = tt
      by_kind End kind far rest = tt
      by_kind k kind far rest = rest

  once_from : (is : List Inst1) → AreDistinct (map (result_of ws) is) → AreSome (params ws is) → AreOnceIds (params ws is)
  once_from [] apart some = tt
  once_from (i ∷ is) apart some = by_kind (kind_of ws i) refl apart.0 some (once_from is apart.1)
    where
      by_kind : (k : Kind) → kind_of ws i ≡ k → ((result_by k (inst_of ws i) ≡ 0 → ⊥) → IsNone (result_by k (inst_of ws i)) (map (result_of ws) is)) → AreSome (with_param k (id_of (word ws i 2), id_of (word ws i 1)) (params ws is)) → (AreSome (params ws is) → AreOnceIds (params ws is)) → AreOnceIds (with_param k (id_of (word ws i 2), id_of (word ws i 1)) (params ws is))
      by_kind Parameter kind far some rest = (
        no_id (word ws i 2) is (subst (λ (n : ℕ). IsNone n (map (result_of ws) is)) (parameter_result ws i kind) (far (λ zero_is. some (id_of (word ws i 2), id_of (word ws i 1)) (inl refl) (sym (parameter_result ws i kind) ∙ zero_is)))),
        rest (λ p one. some p (inr one)),
      )
      by_kind Label kind far some rest = tt
      by_kind End kind far some rest = tt
      by_kind k kind far some rest = rest some

  functions_once : (is : List Inst1) → AreDistinct (map (result_of ws) is) → AllOnce (functions_from ws is)
  functions_once [] apart = tt
  functions_once (i ∷ is) apart = by_kind (kind_of ws i) (functions_once is apart.1)
    where
      by_kind : (k : Kind) → AllOnce (functions_from ws is) → AllOnce (with_function k (function ws i is) (functions_from ws is))
      by_kind Opening_of rest = (once_from is apart.1, rest)
      by_kind k rest = rest

  -- where none of them has the id 0
  pub parameters_once : IsUnbroken ws P3 → (f : Function) → IsFunctionOf f (functions ws) → AreSome f.params → AreOnceIds f.params
  parameters_once ids f one some = once_in (functions ws) (functions_once (insts ws) (distinct ws ids)) f one some
