-- Sets of variables, and what is kept of the uses of types.
use Rattle.std.specs.Prelude.{ℕ, ◌≡◌, not, Bool, true}
use Rattle.spv_module.specs.State.{ModuleState}
use Rattle.spv_module.specs.declared.inst.Inst.{Inst}
use Rattle.spv_index.specs.BlockStructs.{is_storage_block, is_some_block}
use Rattle.profile_rules.specs.Places.{is_among}
use Rattle.profile_rules.specs.TypeForm.{is_workgroup, pointees, block_misuses, runtime_misuses, other_types, is_held}
use Rattle.declaration_check.specs.declared.uses.Classes.{Classes}
use Rattle.declaration_check.specs.declared.uses.Classes.TheVariants.{Any, Workgroup, OtherThanWorkgroup, OtherThanStorage, OtherThanBlock}

abbrev pub is_in : ModuleState → Classes → Inst → Bool
is_in m Any = λ v. true
is_in m Workgroup = is_workgroup
is_in m OtherThanWorkgroup = λ v. not (is_workgroup v)
is_in m OtherThanStorage = λ v. not (is_storage_block m.heads m.globals v)
is_in m OtherThanBlock = λ v. not (is_some_block m.heads m.globals v)

-- the ids of the types that are used as no struct with Block or BufferBlock, and as no runtime array, may be
pub record AreMisuses (m : ModuleState) (blocks runtimes : ℕ → Bool) : Type 0 where
  pub of_blocks : (id : ℕ) → blocks id ≡ is_among (block_misuses m) id
  pub of_runtimes : (id : ℕ) → runtimes id ≡ is_among (runtime_misuses m) id

-- the ids of the types that Workgroup variables are or hold, and that other variables, constants and values do
pub record AreHolders (m : ModuleState) (workgroup others : ℕ → Bool) : Type 0 where
  pub by_workgroup : (id : ℕ) → workgroup id ≡ is_held m.globals (pointees m is_workgroup) id
  pub by_others : (id : ℕ) → others id ≡ is_held m.globals (other_types m) id
