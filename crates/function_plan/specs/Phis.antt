-- What the variables of phis are given by the edges into a block (SPIR-V 1.6, OpPhi).
use Rattle.std.specs.Prelude.{ℕ, ◌==◌, ◌&&◌, not, Bool, true, false, List, [], ◌∷◌, filter, flat_map, map, Option, if◌then◌else◌, slice_get}
use Rattle.std.specs.Option.{option_map_or}
use Rattle.std.specs.List.{enumerate_from, list_any}
use Rattle.spv_ops.specs.Opcode.{is}
use Rattle.spv_ops.specs.declared.Op.TheVariants as code
use Rattle.spv_module.specs.Held.{global}
use Rattle.spv_module.specs.Lists.{id}
use Rattle.spv_module.specs.declared.inst.Inst.{Inst}
use Rattle.spv_module.specs.declared.inst.Block.{Block}
use Rattle.spv_module.specs.declared.inst.Function.{Function}
use Rattle.spv_index.specs.Locals.{block_in}
use Rattle.hoist_plan.specs.declared.form.Form.{Form}
use Rattle.hoist_plan.specs.declared.form.Form.TheVariants.{Gone}
use Rattle.phi_copies.specs.Sequence.{Pair, target}
use Rattle.phi_copies.specs.declared.moves.Src.{Src}
use Rattle.phi_copies.specs.declared.moves.Src.TheVariants.{Var as Variable, Constant}
use Rattle.text_rules.specs.Constants.{is_constant}
use Rattle.function_plan.specs.Once.{once}

abbrev pub is_gone : Form → Bool
is_gone Gone = true
is_gone _ = false

-- OpPhi, where a live instruction mentions its result
abbrev pub is_live_phi : (ℕ → Form) → Inst → Bool
is_live_phi form i = (is i.op code.Phi) && not (is_gone (form i.result))

abbrev pub live_phis : (ℕ → Form) → Block → List Inst
live_phis form b = filter (is_live_phi form) b.insts

-- the blocks that have a live phi
abbrev pub has_live_phi : (ℕ → Form) → Block → Bool
has_live_phi form b = list_any (is_live_phi form) b.insts

abbrev pub phi_block : (ℕ → Form) → ℕ × Block → List ℕ
phi_block form b = if has_live_phi form b.1 then b.0 ∷ [] else []

abbrev pub phi_blocks : (ℕ → Form) → Function → List ℕ
phi_blocks form f = flat_map (phi_block form) (enumerate_from 0 f.blocks)

-- the operands of a phi: values, each with the label of the block from which it comes
abbrev pub values_in : List ℕ → List (ℕ × ℕ)
values_in [] = []
values_in (v ∷ []) = []
values_in (v ∷ label ∷ rest) = (v, label) ∷ values_in rest

-- it comes from the block with this index
abbrev pub is_block : ℕ → Option ℕ → Bool
is_block b found = option_map_or (λ c. c == b) found false

abbrev pub comes_from : Function → ℕ → ℕ × ℕ → Bool
comes_from f b v = is_block b (block_in f v.1)

-- a variable is given the value of another, or that of a constant of the module
abbrev pub source_by : Bool → ℕ → Src
source_by constant n = if constant then Constant (id n) else Variable (record { 0 = n })

abbrev pub is_constant_id : List Inst → ℕ → Bool
is_constant_id gs n = option_map_or is_constant (global gs n) false

abbrev pub source_of : List Inst → ℕ → Src
source_of gs n = source_by (is_constant_id gs n) n

-- what a phi is given by the edge from a block
abbrev pub pair_with : List Inst → ℕ → ℕ × ℕ → Pair
pair_with gs result v = (record { 0 = result }, source_of gs v.0)

abbrev pub given_words : List Inst → Function → ℕ → ℕ → List ℕ → List Pair
given_words gs f b result words = map (pair_with gs result) (filter (comes_from f b) (values_in words))

abbrev pub given_by : List Inst → Function → ℕ → Inst → List Pair
given_by gs f b i = given_words gs f b i.result i.args

-- what the live phis of a block are given by that edge, in their order
abbrev pub pairs_into : List Inst → (ℕ → Form) → Function → ℕ → Block → List Pair
pairs_into gs form f b block = flat_map (given_by gs f b) (live_phis form block)

abbrev pub pairs : List Inst → (ℕ → Form) → Function → ℕ → ℕ → List Pair
pairs gs form f b t = option_map_or (pairs_into gs form f b) (slice_get f.blocks t) []

-- the first pair of each target: of a module whose results have ids of their own these are all
abbrev pub firsts : List Pair → List Pair
firsts ps = once target ps
