-- A variable that other invocations see is one of the module, of a class that they see.
use Rattle.std.proofs.Common.{◌≡◌, ℕ, Bool, true, false, Option, Some, None, refl, sym, ap, ◌∙◌}
use Rattle.std.specs.Prelude.{option_and_then}
use Rattle.std.proofs.lemmas.Option.{same_Some}
use Rattle.spv_ops.specs.declared.StorageClass.{StorageClass}
use Rattle.spv_module.specs.declared.inst.Inst.{Inst}
use Rattle.module_semantics.specs.Setting.{Setting, global_variable}
use Rattle.module_semantics.specs.State.{global}
use Rattle.module_semantics.specs.Memory.{class_of}
use Rattle.module_semantics.specs.Accesses.{is_seen, if_seen, seen_if, seen}

abbrev IsOf : Inst → Inst → Option StorageClass → Type 0
IsOf v w o = (w ≡ v) × (class : StorageClass) × (o ≡ Some class) × (is_seen class ≡ true)

by_test : (v w : Inst) (class : StorageClass) (b : Bool) → is_seen class ≡ b → elim b as (λ b. Option Inst) [ true ↦ Some w | false ↦ None ] ≡ Some v → IsOf v w (Some class)
by_test v w class true on e = (same_Some w v e, class, refl, on)
by_test v w class false on e = cc

by_class : (v w : Inst) (o : Option StorageClass) → if_seen w o ≡ Some v → IsOf v w o
by_class v w None e = cc
by_class v w (Some class) e = by_test v w class (is_seen class) refl e

by_variable : (v : Inst) (o : Option Inst) → option_and_then seen_if o ≡ Some v → (o ≡ Some v) × (class : StorageClass) × (class_of v ≡ Some class) × (is_seen class ≡ true)
by_variable v None e = cc
by_variable v (Some w) e =
    let found : IsOf v w (class_of w) = by_class v w (class_of w) e in
    (ap Some found.0, found.1, ap class_of (sym found.0) ∙ found.2, found.3)

module _ (s : Setting) (id : ℕ) (v : Inst) (is : seen s (global id) ≡ Some v) where
  pub seen_is : global_variable s id ≡ Some v
  seen_is = (by_variable v (global_variable s id) is).0

  pub seen_class : (class : StorageClass) × (class_of v ≡ Some class) × (is_seen class ≡ true)
  seen_class = let w = by_variable v (global_variable s id) is in (w.1, w.2, w.3)
