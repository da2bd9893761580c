-- What `ModuleIndex` keeps true of its fields.
use Rattle.std.specs.Prelude.{ℕ, ◌≡◌, List, Option, Some, None, ◌==◌, find, option_map, if◌then◌else◌}
use Rattle.std.specs.Option.{option_or}
use Rattle.spv_module.specs.State.{ModuleState}
use Rattle.spv_module.specs.declared.inst.Inst.{Inst}
use Rattle.spv_module.specs.declared.inst.Function.{Function}
use Rattle.profile_rules.specs.Operands.{is_import_row}

-- the word at which the OpExtInstImport with each id stands
abbrev pub AreImports : List Inst → (ℕ → Option ℕ) → Type 0
AreImports heads at_of = (id : ℕ) → at_of id ≡ option_map (λ (i : Inst). i.at) (find (is_import_row id) heads)

pub record IsIndex (m : ModuleState) (values : ModuleState) (functions : List Function) (at_of : ℕ → Option ℕ) : Type 0 where
  pub same_module : values ≡ m
  pub same_functions : functions ≡ m.functions
  pub imports : AreImports m.heads at_of

-- what is under a key, and under one more if that has nothing
abbrev pub or_entry : Option ℕ → ℕ → ℕ → ℕ → Option ℕ
or_entry o key value id = option_or o (if key == id then Some value else None)
