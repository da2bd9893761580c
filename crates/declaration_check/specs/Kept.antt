-- What is collected from the instructions of a module: its variables, and the types of its other values, each once.
use Rattle.std.specs.Prelude.{ℕ, ◌≡◌, ◌||◌, ◌++◌, true, List, map, length}
use Rattle.std.specs.Borrow.{Bor}
use Rattle.std.specs.List.{filter, filter_map}
use Rattle.id_map.specs.Entries.{is_in}
use Rattle.spv_module.specs.State.{ModuleState}
use Rattle.spv_module.specs.declared.inst.Inst.{Inst}
use Rattle.spv_decor.specs.Decorations.{local_insts}
use Rattle.profile_rules.specs.Places.{is_among, is_variable}
use Rattle.profile_rules.specs.TypeForm.{value_type, value_types}
use Rattle.declaration_check.specs.declared.rows.Rows.{Rows}

-- the variables outside functions, and those in them
abbrev pub outer_variables : ModuleState → List Inst
outer_variables m = filter is_variable m.globals

abbrev pub inner_variables : ModuleState → List Inst
inner_variables m = filter is_variable (local_insts m)

abbrev pub variables_of : ModuleState → List Inst
variables_of m = outer_variables m ++ inner_variables m

abbrev pub variables_in : Rows → List Inst
variables_in rows = map (λ (i : Bor Inst). i.now) rows.variables.items

-- the types that are known to be there are
pub record AreKept (rows : Rows) : Type 0 where
  pub those : (id : ℕ) → is_in rows.known id ≡ true → is_among rows.types.items id ≡ true

-- with these instructions
pub record WithMore (insts : List Inst) (old new : Rows) : Type 0 where
  pub variables : variables_in new ≡ variables_in old ++ filter is_variable insts
  pub types : (id : ℕ) → is_among new.types.items id ≡ (is_among old.types.items id || is_among (filter_map value_type insts) id)
  pub kept : AreKept new

-- what is kept of a module: its variables, how many of them are outside functions, and the types of its other values
pub record AreValues (m : ModuleState) (variables : List Inst) (outer : ℕ) (types : List ℕ) : Type 0 where
  pub all : variables ≡ variables_of m
  pub front : outer ≡ length (outer_variables m)
  pub same_types : (id : ℕ) → is_among types id ≡ is_among (value_types m) id
