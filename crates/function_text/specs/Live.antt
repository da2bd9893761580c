-- Which types and ids of a function structs and constants are written for.
use Rattle.std.specs.Prelude.{ℕ, ◌&&◌, ◌||◌, true, false, Bool, List, [], ◌∷◌, drop, flat_map, if◌then◌else◌, slice_index_or}
use Rattle.std.specs.Option.{option_map_or}
use Rattle.std.specs.List.{enumerate_from}
use Rattle.spv_ops.specs.declared.Op.{Op}
use Rattle.spv_ops.specs.declared.Op.TheVariants as code
use Rattle.spv_module.specs.Held.{global}
use Rattle.spv_module.specs.declared.inst.Inst.{Inst}
use Rattle.spv_module.specs.declared.inst.Block.{Block}
use Rattle.spv_module.specs.declared.inst.Function.{Function}
use Rattle.use_chains.specs.Slots.{mentions}
use Rattle.hoist_plan.specs.declared.form.Form.{Form}
use Rattle.function_text.specs.Functions.{is_hoisted}
use Rattle.function_plan.specs.Planned.{is_live, is_captured}
use Rattle.hoist_plan.specs.Kept.{form_in, is_carried_in}
use Rattle.function_plan.specs.declared.plan.FunctionPlan.{FunctionPlan as Planned}

abbrev pub is_composite_type : Op → Bool
is_composite_type code.TypeArray = true
is_composite_type code.TypeRuntimeArray = true
is_composite_type code.TypeStruct = true
is_composite_type _ = false

abbrev pub is_composite : List Inst → ℕ → Bool
is_composite gs ty = option_map_or (λ (g : Inst). is_composite_type g.op) (global gs ty) false

-- what a reached block needs of a block, be it reached or not: its chains, and the composites that are declared at the top of the function
abbrev pub is_wanted : List Inst → (ℕ → Form) → (ℕ → Bool) → Inst → Bool
is_wanted gs form carried i = is_captured carried i || (is_hoisted (form i.result) && is_composite gs i.ty)

-- what tells which instructions of a function are live: the module's globals, the function, which of its blocks are reached, the forms of its values, and which chains are mentioned in other blocks
pub record Liveness : Type 0 where
  pub globals : List Inst
  pub function : Function
  pub reached : List Bool
  pub form : ℕ → Form
  pub carried : ℕ → Bool

-- a struct is written for the type of a live instruction's result; in a block that is not reached this is what a reached block needs
abbrev pub has_type_written : Liveness → Bool → Inst → Bool
has_type_written p here i = if here then is_live p.form i else is_wanted p.globals p.form p.carried i

abbrev pub types_of : Liveness → Bool → Inst → List ℕ
types_of p here i = if has_type_written p here i then i.ty ∷ [] else []

-- the indexes of a chain
abbrev pub indexes : Inst → List ℕ
indexes i = drop 1 i.args

-- the ids that live instructions mention: those that stand in a reached block; and of a block that is not reached the indexes of a chain, where a reached block needs it
abbrev pub mentions_of : Liveness → Bool → Inst → List ℕ
mentions_of p here i =
    if here then (if is_live p.form i then mentions p.function p.reached i else []) else
    (if is_captured p.carried i then indexes i else [])

-- of all instructions of a block, and of a function
abbrev pub in_block : (Liveness → Bool → Inst → List ℕ) → Liveness → ℕ × Block → List ℕ
in_block each p b = flat_map (each p (slice_index_or p.reached b.0 false)) b.1.insts

abbrev pub in_function : (Liveness → Bool → Inst → List ℕ) → Liveness → List ℕ
in_function each p = flat_map (in_block each p) (enumerate_from 0 p.function.blocks)

-- what a plan tells of live instructions
abbrev pub liveness_in : Planned → Liveness
liveness_in p = record { globals = p.source.now.globals; function = p.locals; reached = p.reached.items; form = form_in p.naming; carried = is_carried_in p.naming }

-- the types of live instructions, and the ids that these mention
abbrev pub types_in : Planned → List ℕ
types_in p = in_function types_of (liveness_in p)

abbrev pub mentions_in : Planned → List ℕ
mentions_in p = in_function mentions_of (liveness_in p)
