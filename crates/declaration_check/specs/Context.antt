-- What is kept beside a module so that questions about it are answered quickly.
use Rattle.std.specs.Prelude.{ℕ, ◌≡◌, Bool, List}
use Rattle.spv_module.specs.State.{ModuleState}
use Rattle.spv_module.specs.declared.inst.Inst.{Inst}
use Rattle.profile_rules.specs.Places.{is_defined_elsewhere}
use Rattle.declaration_check.specs.Kept.{AreValues}

pub record IsContext (m : ModuleState) (heads variables : List Inst) (outer : ℕ) (value_types : List ℕ) (elsewhere : ℕ → Bool) (types : ModuleState) : Type 0 where
  pub decor : heads ≡ m.heads
  pub values : AreValues m variables outer value_types
  pub elsewhere_is : (id : ℕ) → elsewhere id ≡ is_defined_elsewhere m id
  pub index : types ≡ m
