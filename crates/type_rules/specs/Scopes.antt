-- Where the ids of an instruction are looked up.
use Rattle.std.specs.Prelude.{ℕ, Bool, Option, Some, None, List, option_and_then}
use Rattle.spv_ops.specs.Opcode.{is}
use Rattle.spv_ops.specs.declared.Op.{Op}
use Rattle.spv_module.specs.State.{ModuleState}
use Rattle.spv_module.specs.declared.inst.Inst.{Inst}
use Rattle.spv_module.specs.declared.inst.Function.{Function}
use Rattle.spv_index.specs.Locals.{global_type, type_in}
use Rattle.profile_rules.specs.declared.needs.Need.{Need}
use Rattle.profile_rules.specs.Operands.{is_there, is_there_in}
use Rattle.profile_rules.specs.TypeRows.{type_row, count_in}

-- a module, and the function in which an instruction stands, if any
pub record Scoped : Type 0 where
  pub m : ModuleState
  pub function : Option Function

-- outside functions, and in a function
abbrev pub outside : ModuleState → Scoped
outside m = record { m = m; function = None }

abbrev pub inside : ModuleState → Function → Scoped
inside m f = record { m = m; function = Some f }

-- the types of values
abbrev pub types_by : List Inst → Option Function → ℕ → Option ℕ
types_by gs None = global_type gs
types_by gs (Some f) = type_in gs f

abbrev pub types : Scoped → ℕ → Option ℕ
types s = types_by s.m.globals s.function

-- how many scalars that this opcode declares a scalar or vector type is made of, and 0 of every other type
abbrev pub scalars : Op → Scoped → ℕ → Option ℕ
scalars op s ty = option_and_then (count_in (λ (g : Inst). is g.op op) s.m.globals) (type_row s.m.globals ty)

-- the same of a value's type
abbrev pub scalars_of : Op → Scoped → ℕ → Option ℕ
scalars_of op s id = option_and_then (scalars op s) (types s id)

-- for an instruction at word n, what is needed is there
abbrev pub there_by : ModuleState → Option Function → ℕ → Need → ℕ → Bool
there_by m None n which id = is_there m.globals n which id
there_by m (Some f) n which id = is_there_in m f n which id

abbrev pub there : Scoped → ℕ → Need → ℕ → Bool
there s n which id = there_by s.m s.function n which id
