-- Nothing is based on what is the base of no chain.
use Rattle.std.proofs.Common.{◌≡◌, ◌<◌, ◌+◌, ◌==◌, ◌&&◌, ◌||◌, ℕ, Bool, true, false, List, [], ◌∷◌, refl, ap, sym, ◌∙◌, length, take, get_or}
use Rattle.std.specs.List.{list_any}
use Rattle.std.proofs.lemmas.Bool.{or_parts}
use Rattle.std.proofs.lemmas.List.Folds.{list_any_more}
use Rattle.std.proofs.Math.Bool.{or_assoc}
use Rattle.spv_ops.specs.Groups.{is_chain}
use Rattle.spv_module.specs.declared.inst.Inst.{Inst}
use Rattle.module_semantics.specs.Steps.{base, based_among}
use Rattle.run_flow.specs.Chains.{is_chain_on}

by_tests : (chain on hit : Bool) → (on && chain) ≡ false → elim (chain && hit) as (λ b. Bool) [ true ↦ elim on as (λ b. Bool) [ true ↦ true | false ↦ false ] | false ↦ false ] ≡ false
by_tests true true hit h = cc
by_tests true false true h = refl
by_tests true false false h = refl
by_tests false on hit h = refl

pub none_based : (chain : ℕ) (is : List Inst) → list_any (is_chain_on chain) is ≡ false → based_among chain (λ id. false) is ≡ (λ id. false)
none_based chain [] h = refl
none_based chain (i ∷ is) h =
    let none = or_parts (is_chain_on chain i) (list_any (is_chain_on chain) is) h in
    ap (λ f. based_among chain f is) (λ j id. by_tests (is_chain i.op) (base i == chain) (i.result == id) none.0 j)
    ∙ none_based chain is none.1

-- a test of one more of a list
pub any_more : {A : Type 0} (p : A → Bool) (xs : List A) (k : ℕ) (x : A) (old now new : Bool) → k < length xs → x ≡ get_or xs k x → new ≡ (now || p x) → now ≡ (old || list_any p (take k xs)) → new ≡ (old || list_any p (take (k + 1) xs))
any_more p xs k x old now new inside is h was =
    h
    ∙ ap (λ b. b || p x) was
    ∙ or_assoc old (list_any p (take k xs)) (p x)
    ∙ ap (λ b. old || b) (ap (λ y. list_any p (take k xs) || p y) is ∙ sym (list_any_more p xs k x inside))
