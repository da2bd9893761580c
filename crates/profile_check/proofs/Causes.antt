-- The causes of faults, one check after another.
use Rattle.std.proofs.Common.{◌≡◌, ℕ, List, Option, Some, None, sym, subst, inl, inr, refl}
use Rattle.std.specs.Prelude.{IsSomeAnd}
use Rattle.spv_words.specs.declared.rule.Fault.{Fault}
use Rattle.spv_words.specs.declared.rule.Fault.TheVariants.{Refused, Limit as Exceeded, Memory}
use Rattle.spv_words.specs.declared.rule.Limit.{Limit}
use Rattle.spv_words.specs.declared.rule.Limit.TheVariants.{Bytes, Bound, Depth, Types, Parts, Calls, Leaves}
use Rattle.spv_module.specs.Held.{global}
use Rattle.spv_module.specs.State.{ModuleState}
use Rattle.spv_module.specs.declared.inst.Inst.{Inst}
use Rattle.spv_types.specs.Limits.{IsPassedBy}
use Rattle.layout_rules.specs.Blocks.{SomeTypePasses, block_of, BreaksAt, IsBrokenBy, IsRightAt, IsRight as IsBlockRight}
use Rattle.profile_rules.specs.declared.given.Given.{Given}
use Rattle.profile_rules.specs.DataRules.{IsRight as IsDeclarationRight}
use Rattle.profile_rules.specs.AccessRules.{IsRight as IsAccessRight}
use Rattle.profile_rules.specs.Leaves.{leaves_of_module}
use Rattle.spec_constants.specs.Fit.{IsCause as IsOverrideRight}
use Rattle.spec_constants.specs.Counted.{IsOver, IsOverBy}
use Rattle.profile_check.specs.Data.{Exceeds, laid_out, accessed, overridden, IsLayoutRight, IsRestRight, AreDeclarationsFine, IsRight}

at_block : (m : ModuleState) (id : ℕ) (v block : Inst) → global m.globals id ≡ Some v → block_of m.globals v ≡ Some block → (fault : Fault) → IsRightAt m.heads m.globals v block fault → IsLayoutRight m fault
at_block m id v block is has (Refused r) h =
    let P : Option Inst → Type 0 = λ o. IsSomeAnd o (λ v. (r.at ≡ v.at) × BreaksAt m.heads m.globals v r.rule) in
    let Q : Option Inst → Type 0 = λ o. IsSomeAnd o (λ block. IsBrokenBy m.heads m.globals v block r.rule) in
    (id, subst P (sym is) (h.0, subst Q (sym has) h.1))
at_block m id v block is has (Exceeded l) h = h
at_block m id v block is has Memory h = tt

at_variable : (m : ModuleState) (id : ℕ) (v : Inst) (fault : Fault) → global m.globals id ≡ Some v → (o : Option Inst) → block_of m.globals v ≡ o → IsSomeAnd o (λ block. IsRightAt m.heads m.globals v block fault) → IsLayoutRight m fault
at_variable m id v fault is None has h = absurd h
at_variable m id v fault is (Some block) has h = at_block m id v block is has fault h

at_id : (m : ModuleState) (id : ℕ) (fault : Fault) (o : Option Inst) → global m.globals id ≡ o → IsSomeAnd o (λ v. IsSomeAnd (block_of m.globals v) (λ block. IsRightAt m.heads m.globals v block fault)) → IsLayoutRight m fault
at_id m id fault None is h = absurd h
at_id m id fault (Some v) is h = at_variable m id v fault is (block_of m.globals v) refl h

-- a block variable is refused with cause
pub block_cause : (m : ModuleState) (id : ℕ) (fault : Fault) → IsBlockRight m.heads m.globals id fault → IsLayoutRight m fault
block_cause m id fault h = at_id m id fault (global m.globals id) refl h

type_limit : (m : ModuleState) (l : Limit) → SomeTypePasses m.globals l → Exceeds m l
type_limit m Types h = h
type_limit m Parts h = h
type_limit m Leaves h = absurd h.1
type_limit m Bytes h = h.1
type_limit m Bound h = h.1
type_limit m Depth h = h.1
type_limit m Calls h = h.1

leaves_limit : (m : ModuleState) (l : Limit) → IsOverBy (leaves_of_module m) l → Exceeds m l
leaves_limit m Leaves h = h
leaves_limit m Types h = absurd h
leaves_limit m Parts h = absurd h
leaves_limit m Bytes h = h
leaves_limit m Bound h = h
leaves_limit m Depth h = h
leaves_limit m Calls h = h

module _ (m : ModuleState) (pairs : List (ℕ × Given)) where
  pub leaves_cause : (fault : Fault) → IsOver m fault → IsRestRight m pairs fault
  leaves_cause (Refused r) h = absurd h
  leaves_cause (Exceeded l) h = leaves_limit m l h
  leaves_cause Memory h = tt

  pub layout_cause : (fault : Fault) → IsLayoutRight m fault → IsRestRight m pairs fault
  layout_cause (Refused r) h = laid_out h
  layout_cause (Exceeded l) h = type_limit m l h
  layout_cause Memory h = tt

  pub access_cause : (fault : Fault) → IsAccessRight m fault → IsRestRight m pairs fault
  access_cause (Refused r) h = accessed h
  access_cause (Exceeded l) h = absurd h
  access_cause Memory h = tt

  pub override_cause : (fault : Fault) → IsOverrideRight m pairs fault → IsRestRight m pairs fault
  override_cause (Refused r) h = overridden h
  override_cause (Exceeded l) h = absurd h
  override_cause Memory h = tt

  module _ (name : Option (List ℕ)) where
    pub declared_cause : (fault : Fault) → IsDeclarationRight m name fault → IsRight m name pairs fault
    declared_cause (Refused r) h = inl h
    declared_cause (Exceeded l) h = absurd h
    declared_cause Memory h = tt

    pub types_cause : (fault : Fault) → AreDeclarationsFine m name → IsPassedBy m.globals fault → IsRight m name pairs fault
    types_cause (Refused r) fine h = absurd h
    types_cause (Exceeded l) fine h = (fine, inl h)
    types_cause Memory fine h = tt

    pub rest_cause : (fault : Fault) → AreDeclarationsFine m name → IsRestRight m pairs fault → IsRight m name pairs fault
    rest_cause (Refused r) fine h = inr (fine, h)
    rest_cause (Exceeded l) fine h = (fine, inr h)
    rest_cause Memory fine h = tt

pub ruleset rest_causes = (leaves_cause, layout_cause, access_cause, override_cause)

pub ruleset causes = (declared_cause, rest_cause)
