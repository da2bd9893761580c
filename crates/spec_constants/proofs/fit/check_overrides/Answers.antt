use Rattle.std.proofs.Common.{◌≡◌, ◌∙◌, ℕ, Bool, List, not, true, ap, subst, sym}
use Rattle.std.specs.List.{list_any}
use Rattle.std.specs.BTreeSet.{contains}
use Rattle.std.specs.Ordering.{nat_cmp}
use Rattle.spv_words.specs.declared.rule.Rule.{Rule}
use Rattle.spv_words.specs.declared.rule.Rule.TheVariants.{X3}
use Rattle.spv_words.specs.declared.rule.Fault.{Fault}
use Rattle.spv_words.specs.declared.rule.Fault.TheVariants.{Refused, Limit, Memory}
use Rattle.spv_module.specs.State.{ModuleState}
use Rattle.spv_module.specs.declared.inst.Inst.{Inst}
use Rattle.profile_rules.specs.declared.given.Given.{Given}
use Rattle.profile_rules.specs.Constants.{has_spec_id, breaks_x3}
use Rattle.spec_constants.specs.Fit.{Broken, IsCause, IsRefusal}
use Rattle.spec_constants.proofs.fit.check_overrides.Goals as goal

-- an override whose id is none of the known SpecIds breaks X3
unknown_breaks : (m : ModuleState) (pairs : List (ℕ × Given)) (known : ℕ → Bool) → ((id : ℕ) → known id ≡ list_any (has_spec_id m.heads id) m.globals) → list_any (λ (p : ℕ × Given). not (known p.0)) pairs ≡ breaks_x3 m pairs
unknown_breaks m pairs known same = ap (λ (f : ℕ × Given → Bool). list_any f pairs) (λ i p. not (same p.0 i))

unknown_cause : (m : ModuleState) (pairs : List (ℕ × Given)) (fault : Fault) → breaks_x3 m pairs ≡ true → IsRefusal X3 fault → IsCause m pairs fault
unknown_cause m pairs (Refused r) h is = subst (λ (rule : Rule). Broken m pairs rule r.at) (sym is.0) (is.1, h)
unknown_cause m pairs (Limit l) h is = absurd is
unknown_cause m pairs Memory h is = absurd is

pub returns-then-any_other-clause-refused : goal.returns-then-any_other-clause-refused
returns-then-any_other-clause-refused c =
    let m : ModuleState = c.args.module.now in
    let known : (id : ℕ) → contains nat_cmp c.in_ok-ids.ids id ≡ list_any (has_spec_id m.heads id) m.globals = λ id. c.in_ok-ids.ensures id ∙ ap (λ (heads : List Inst). list_any (has_spec_id heads id) m.globals) c.requires in
    unknown_cause m c.args.pairs.now c.refused.result (sym (unknown_breaks m c.args.pairs.now (contains nat_cmp c.in_ok-ids.ids) known) ∙ sym c.any_other.ensures ∙ c.if-any_other.true) c.refused.ensures
