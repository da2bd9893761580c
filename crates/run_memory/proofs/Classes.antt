-- Variables of the module that no other invocation sees.
use Rattle.std.proofs.Common.{◌≡◌, ℕ, Bool, true, false, refl, ap, ◌∙◌}
use Rattle.std.specs.Prelude.{Option, Some, None}
use Rattle.std.proofs.lemmas.Option.{same_Some}
use Rattle.spv_ops.specs.declared.StorageClass.{StorageClass}
use Rattle.spv_ops.specs.declared.StorageClass.TheVariants as storage
use Rattle.spv_module.specs.Held.{global as global_inst}
use Rattle.spv_module.specs.declared.inst.Inst.{Inst}
use Rattle.profile_rules.proofs.Globals.{found_global}
use Rattle.profile_rules.specs.Places.{is_variable}
use Rattle.module_semantics.specs.Setting.{Setting, as_variable, global_variable}
use Rattle.module_semantics.specs.State.{Conf}
use Rattle.module_semantics.specs.Accesses.{global_value_by}

-- in another storage class there is no such value
pub none_in_class : (s : Setting) (c : Conf) (v : Inst) (k : StorageClass) → (k ≡ storage.Private → ⊥) → (k ≡ storage.Input → ⊥) → None ≡ global_value_by s c v (Some k)
none_in_class s c v storage.Private private input = absurd (private refl)
none_in_class s c v storage.Input private input = absurd (input refl)
none_in_class s c v k private input = refl

-- a variable that is found has the id by which it is sought
pub variable_named : (s : Setting) (id : ℕ) (v : Inst) → Some v ≡ global_variable s id → v.result ≡ id
variable_named s id v is = by_global (global_inst s.of.globals id) refl is
  where
    by_variable : (g : Inst) → g.result ≡ id → (b : Bool) → Some v ≡ (elim b as (λ x. Option Inst) [ true ↦ Some g | false ↦ None ]) → v.result ≡ id
    by_variable g named true e = ap (λ (x : Inst). x.result) (same_Some v g e) ∙ named
    by_variable g named false e = cc

    by_global : (o : Option Inst) → global_inst s.of.globals id ≡ o → Some v ≡ (elim o as (λ x. Option Inst) [ None ↦ None | Some g ↦ as_variable g ]) → v.result ≡ id
    by_global None there e = cc
    by_global (Some g) there e = by_variable g (found_global s.of.globals id g there).1 (is_variable g) e
