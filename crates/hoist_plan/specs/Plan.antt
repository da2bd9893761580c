-- Which results of a function's instructions have variables, and where these are declared; which chains other blocks need. All is told over the slots that are linked.
use Rattle.std.specs.Prelude.{ℕ, ◌+◌, ◌==◌, ◌&&◌, ◌||◌, not, nat_le, nat_lt, max, min, Bool, true, false, List, [], ◌∷◌, flat_map, fold, length, map, Option, Some, None, unwrap_or, if◌then◌else◌, slice_index}
use Rattle.std.specs.Option.{option_map_or}
use Rattle.std.specs.List.{enumerate_from, list_any}
use Rattle.spv_ops.specs.Opcode.{is}
use Rattle.spv_ops.specs.Groups.{is_chain, is_atomic}
use Rattle.spv_ops.specs.OpGroups.{group_of}
use Rattle.spv_ops.specs.declared.OpGroup.{OpGroup}
use Rattle.spv_ops.specs.declared.OpGroup.TheVariants as groups
use Rattle.spv_ops.specs.Shape.{is_pure}
use Rattle.spv_ops.specs.declared.Op.{Op}
use Rattle.spv_ops.specs.declared.Op.TheVariants as code
use Rattle.spv_module.specs.Held.{global}
use Rattle.spv_module.specs.declared.inst.Inst.{Inst}
use Rattle.spv_module.specs.declared.inst.Block.{Block}
use Rattle.spv_module.specs.declared.inst.Function.{Function}
use Rattle.spv_index.specs.Locals.{block_in, type_in}
use Rattle.op_semantics.specs.declared.operation.Unary.TheVariants.{SAbs}
use Rattle.op_semantics.specs.declared.operation.Operation.{Operation}
use Rattle.op_semantics.specs.declared.operation.Operation.TheVariants as operation
use Rattle.op_semantics.specs.Value.{extended_opcodes, operation_in}
use Rattle.use_chains.specs.declared.slot.SlotPlace.{SlotPlace}
use Rattle.use_chains.specs.Links.{Link, chain}
use Rattle.use_chains.specs.Slots.{inst_at, base_place}
use Rattle.hoist_plan.specs.declared.form.Form.{Form}
use Rattle.hoist_plan.specs.declared.form.Form.TheVariants.{Gone, Forwarded, Local, Hoisted}

-- what is planned: a function of a module, with the slots that are linked in it, in text order
pub record Scope : Type 0 where
  pub globals : List Inst
  pub function : Function
  pub links : List Link

-- the result of an instruction: the index of its block, the opcode, its type and its id, and where it is mentioned
pub record Placed : Type 0 where
  pub block : ℕ
  pub op : Op
  pub ty : ℕ
  pub result : ℕ
  pub mentions : List SlotPlace

-- where an id is mentioned
abbrev pub mentions_of : List Link → ℕ → List SlotPlace
mentions_of links id = map (λ (l : Link). l.place) (chain links id)

abbrev pub result_of : List Link → ℕ → Inst → List Placed
result_of links block i =
    if i.result == 0 then [] else
    record { block = block; op = i.op; ty = i.ty; result = i.result; mentions = mentions_of links i.result } ∷ []

abbrev pub results_of_block : List Link → ℕ × Block → List Placed
results_of_block links b = flat_map (result_of links b.0) b.1.insts

-- the results of a function, in text order
abbrev pub results : List Link → Function → List Placed
results links f = flat_map (results_of_block links) (enumerate_from 0 f.blocks)

-- the instruction that mentions a value at a place
abbrev pub user : Function → SlotPlace → Option Inst
user f at = inst_at f at.block at.inst

-- an OpPhi mentions its value in the block that the pair names, any other instruction in its own
abbrev pub mention_block : Function → SlotPlace → Inst → ℕ
mention_block f at i = if is i.op code.Phi then unwrap_or (block_in f (slice_index i.args (at.arg + 1))) at.block else at.block

abbrev pub is_elsewhere_by : Function → ℕ → SlotPlace → Inst → Bool
is_elsewhere_by f block at i = not (mention_block f at i == block)

-- the mention stands in another block
abbrev pub is_elsewhere : Function → ℕ → SlotPlace → Bool
is_elsewhere f block at = option_map_or (is_elsewhere_by f block at) (user f at) false

abbrev pub is_live : Placed → Bool
is_live p = not (is_pure p.op) || nat_lt 0 (length p.mentions)

-- the type with this id is declared by this opcode
abbrev pub has_type : List Inst → Op → ℕ → Bool
has_type gs o ty = option_map_or (λ (g : Inst). is g.op o) (global gs ty) false

-- the type with this id is no OpTypeVoid and no OpTypePointer: a result of it may have a variable
abbrev pub is_value : List Inst → ℕ → Bool
is_value gs ty = not (has_type gs code.TypeVoid ty || has_type gs code.TypePointer ty)

-- no atomic instruction, and its result has a variable wherever it is live
abbrev pub is_named_other : Op → Bool
is_named_other code.Phi = true
is_named_other code.Load = true
is_named_other code.FunctionCall = true
is_named_other code.VectorInsertDynamic = true
is_named_other code.CompositeInsert = true
is_named_other _ = false

abbrev pub is_always_named : Op → Bool
is_always_named o = is_atomic o || is_named_other o

abbrev pub is_vector : List Inst → ℕ → Bool
is_vector gs ty = has_type gs code.TypeVector ty

-- OpSelect by a vector of bools
abbrev pub is_vector_choice : List Inst → Function → Inst → Bool
is_vector_choice gs f i = is i.op code.Select && option_map_or (is_vector gs) (type_in gs f (slice_index i.args 0)) false

-- operations that are written component by component on vectors
abbrev pub is_by_component_in : OpGroup → Bool
is_by_component_in groups.Comparison = true
is_by_component_in groups.Logical = true
is_by_component_in groups.BitFieldInsert = true
is_by_component_in groups.BitFieldExtract = true
is_by_component_in groups.BitOperation = true
is_by_component_in groups.Extended = true
is_by_component_in _ = false

abbrev pub is_by_component : Op → Bool
is_by_component o = is_by_component_in (group_of o)

-- operations that write an operand more than once, on scalars too
abbrev pub is_repeating : Op → Bool
is_repeating code.SDiv = true
is_repeating code.SRem = true
is_repeating code.SMod = true
is_repeating code.VectorShuffle = true
is_repeating code.CopyLogical = true
is_repeating _ = false

abbrev pub is_sabs : Option Operation → Bool
is_sabs (Some (operation.Unary SAbs)) = true
is_sabs _ = false

abbrev pub is_absolute : Inst → Bool
is_absolute i = is i.op code.ExtInst && is_sabs (operation_in extended_opcodes (slice_index i.args 1))

-- operands that stand more than once in the expression of an operation
abbrev pub repeats_operands : List Inst → Function → Inst → Bool
repeats_operands gs f i =
    is_repeating i.op || (is_absolute i || (is_vector gs i.ty && (is_by_component i.op || is_vector_choice gs f i)))

-- a mention that asks for a variable: in another block, by a phi, as an index of a chain, or as an operand that stands more than once
abbrev pub wants_by : List Inst → Function → ℕ → SlotPlace → Inst → Bool
wants_by gs f block at i =
    is_elsewhere_by f block at i || (is i.op code.Phi || ((is_chain i.op && not (at.arg == base_place)) || repeats_operands gs f i))

abbrev pub wants_variable : List Inst → Function → ℕ → SlotPlace → Bool
wants_variable gs f block at = option_map_or (wants_by gs f block at) (user f at) false

abbrev pub is_named_by_use : List Inst → Function → Placed → Bool
is_named_by_use gs f p = is_always_named p.op || (nat_le 2 (length p.mentions) || list_any (wants_variable gs f p.block) p.mentions)

-- the height of the expression of an operation, where this is known of the highest operand of each; OpUndef has height 0. A height is counted up to 17, where a variable is declared
abbrev pub own_height : (ℕ → Option ℕ) → Placed → ℕ
own_height operands p = if is p.op code.Undef then 0 else min 16 (unwrap_or (operands p.result) 0) + 1

abbrev pub is_named : List Inst → Function → (ℕ → Option ℕ) → Placed → Bool
is_named gs f operands p = is_value gs p.ty && (is_live p && (is_named_by_use gs f p || (own_height operands p == 17)))

abbrev pub is_hoisted : Function → Placed → Bool
is_hoisted f p = is p.op code.Phi || list_any (is_elsewhere f p.block) p.mentions

-- the form of a result, where it is told whether it has a variable
abbrev pub form_by : Function → Bool → Placed → Form
form_by f named p = if is_live p then (if named then (if is_hoisted f p then Hoisted else Local) else Forwarded) else Gone

abbrev pub form_with : List Inst → Function → (ℕ → Option ℕ) → Placed → Form
form_with gs f operands p = form_by f (is_named gs f operands p) p

-- something that is told of ids, with something else told of one
abbrev pub with_told : {A : Type 0} → (ℕ → Option A) → ℕ → A → ℕ → Option A
with_told told id a n = elim (id == n) [ true ↦ Some a | false ↦ told n ]

-- the highest operand of an instruction is at least this high
abbrev pub raised_by : ℕ → (ℕ → Option ℕ) → Option Inst → ℕ → Option ℕ
raised_by height operands None = operands
raised_by height operands (Some i) = with_told operands i.result (max (unwrap_or (operands i.result) 0) height)

abbrev pub raised : Function → ℕ → (ℕ → Option ℕ) → SlotPlace → ℕ → Option ℕ
raised f height operands at = raised_by height operands (user f at)

-- what is told to be an operand is one of its height wherever it is mentioned
abbrev pub operand_if : Bool → Function → (ℕ → Option ℕ) → Placed → ℕ → Option ℕ
operand_if true f operands p = fold (raised f (own_height operands p)) operands p.mentions
operand_if false f operands p = operands

-- a value without a variable is an operand; a variable has height 0
abbrev pub operand_by : List Inst → Function → (ℕ → Option ℕ) → Bool → Placed → ℕ → Option ℕ
operand_by gs f operands named p = operand_if (is_value gs p.ty && not named) f operands p

abbrev pub with_operand : List Inst → Function → (ℕ → Option ℕ) → Placed → ℕ → Option ℕ
with_operand gs f operands p = operand_by gs f operands (is_named gs f operands p) p

-- what is known after some results, in text order: the height of the highest operand of each instruction, among these results, and their forms. An operand stands before what mentions it
pub record Known : Type 0 where
  pub operands : ℕ → Option ℕ
  pub forms : ℕ → Option Form

abbrev pub with_result : List Inst → Function → Known → Placed → Known
with_result gs f k p = record { operands = with_operand gs f k.operands p; forms = with_told k.forms p.result (form_with gs f k.operands p) }

abbrev pub nothing : Known
nothing = record { operands = λ (n : ℕ). None; forms = λ (n : ℕ). None }

abbrev pub known : List Inst → Function → List Placed → Known
known gs f ps = fold (with_result gs f) nothing ps

-- the form of an id: gone where no instruction of the function has it as its result
abbrev pub form : Scope → ℕ → Form
form s id = unwrap_or ((known s.globals s.function (results s.links s.function)).forms id) Gone

-- a chain that another block needs: a mention of it stands there, or is the base of a chain that another block needs
abbrev pub carries_by : Function → (ℕ → Bool) → ℕ → SlotPlace → Inst → Bool
carries_by f carried block at i = is_elsewhere_by f block at i || ((at.arg == base_place) && (is_chain i.op && carried i.result))

abbrev pub carries : Function → (ℕ → Bool) → ℕ → SlotPlace → Bool
carries f carried block at = option_map_or (carries_by f carried block at) (user f at) false

abbrev pub is_carried_with : Function → (ℕ → Bool) → Placed → Bool
is_carried_with f carried p = is_chain p.op && (carried p.result || list_any (carries f carried p.block) p.mentions)

abbrev pub with_carried : Function → (ℕ → Bool) → Placed → ℕ → Bool
with_carried f carried p n =
    elim (is_carried_with f carried p) [ true ↦ carried n || (n == p.result) | false ↦ carried n ]

-- the chains that are carried, of these: what is based on a chain stands behind it
abbrev pub carried_from : Function → List Placed → ℕ → Bool
carried_from f [] n = false
carried_from f (p ∷ ps) n = with_carried f (carried_from f ps) p n

abbrev pub is_carried : Scope → ℕ → Bool
is_carried s id = carried_from s.function (results s.links s.function) id
