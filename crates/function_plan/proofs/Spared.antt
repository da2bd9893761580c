-- A block claims no spares where no edge that leaves it needs any.
use Rattle.std.proofs.Common.{◌≡◌, ◌==◌, not, ℕ, Bool, true, false, List, [], ◌∷◌, ◌++◌, None, refl, sym, ap, ◌∙◌, map}
use Rattle.std.specs.Prelude.{flat_map}
use Rattle.std.specs.List.{list_any, range_with_len}
use Rattle.std.proofs.lemmas.Bool.{eqb-true, not-false}
use Rattle.list_law.proofs.Tests.{or_left, or_right}
use Rattle.spv_module.specs.Lists.{id}
use Rattle.name_alloc.specs.declared.claims.Key.TheVariants.{Spare}
use Rattle.text_rules.specs.Claims.{Claim, Plan, claim_spares, label}
use Rattle.function_plan.specs.declared.plan.FunctionPlan.{FunctionPlan as Planned}
use Rattle.function_plan.specs.Claimed.{claimed_by}
use Rattle.function_plan.specs.Targets.{targets_in}
use Rattle.function_plan.specs.Once.{with_id, once_by, no_id, itself}
use Rattle.function_plan.specs.Spares.{has_saves_to}

-- no spares for a block that is led to, and for the others
none_at : (p : Plan) (b t : ℕ) → p.spares b t ≡ 0 → claim_spares p b t ≡ []
none_at p b t is = ap spared is
  where
    spared : ℕ → List Claim
    spared n = map (λ number. (Spare (id (label p.function b)) (id (label p.function t)) number, None)) (range_with_len 0 n)

none_with : (p : Plan) (b t : ℕ) (seen : ℕ → Bool) (ts : List ℕ) → claim_spares p b t ≡ [] → ((q : ℕ → Bool) → flat_map (claim_spares p b) (once_by itself q ts) ≡ []) → (c : Bool) → flat_map (claim_spares p b) (elim c [ true ↦ once_by itself seen ts | false ↦ t ∷ once_by itself (with_id t seen) ts ]) ≡ []
none_with p b t seen ts none rest true = rest seen
none_with p b t seen ts none rest false = ap (λ cs. cs ++ flat_map (claim_spares p b) (once_by itself (with_id t seen) ts)) none ∙ rest (with_id t seen)

none_of : (p : Plan) (b : ℕ) (test : ℕ → Bool) → ((t : ℕ) → test t ≡ not (p.spares b t == 0)) → (seen : ℕ → Bool) (ts : List ℕ) → list_any test ts ≡ false → flat_map (claim_spares p b) (once_by itself seen ts) ≡ []
none_of p b test is seen [] h = refl
none_of p b test is seen (t ∷ ts) h =
    none_with p b t seen ts
    (none_at p b t (eqb-true (p.spares b t) 0 (not-false (p.spares b t == 0) (sym (is t) ∙ or_left (test t) (list_any test ts) h))))
    (λ q. none_of p b test is q ts (or_right (test t) (list_any test ts) h))
    (seen t)

pub no_spares : (p : Planned) (b : ℕ) → list_any (has_saves_to p b) (targets_in p.nodes.items b) ≡ false → flat_map (claim_spares (claimed_by p) b) ((claimed_by p).targets b) ≡ []
no_spares p b h = none_of (claimed_by p) b (has_saves_to p b) (λ t. refl) no_id (targets_in p.nodes.items b) h
