-- The path of a pointer: from which variable or parameter it leads, and by which steps.
use Rattle.std.specs.Prelude.{ℕ, ◌==◌, ◌&&◌, ◌||◌, ◌+◌, not, Bool, true, false, List, [], ◌∷◌, ◌++◌, Option, None, drop, filter, fold, option_and_then, if◌then◌else◌, slice_index, flat_map, map}
use Rattle.std.specs.Option.{option_map_or}
use Rattle.std.specs.List.{enumerate_from}
use Rattle.spv_ops.specs.Groups.{is_chain, is_constant}
use Rattle.spv_module.specs.Held.{global}
use Rattle.spv_module.specs.Lists.{id}
use Rattle.spv_module.specs.declared.inst.Inst.{Inst}
use Rattle.spv_module.specs.declared.inst.Block.{Block}
use Rattle.spv_module.specs.declared.inst.Function.{Function}
use Rattle.profile_rules.specs.TypeRows.{constant_word}
use Rattle.profile_rules.specs.MemoryRules.{is_struct, step_type, pointee_of}
use Rattle.access_paths.specs.declared.forms.Step.{Step}
use Rattle.access_paths.specs.declared.forms.Step.TheVariants.{Member, Index, Captured}

-- what a pointer leads from, and the steps from there
pub record Way : Type 0 where
  pub base : ℕ
  pub steps : List Step

-- the index is a constant of the module, or an OpUndef of it
abbrev pub is_constant_index : List Inst → ℕ → Bool
is_constant_index gs index = option_map_or (λ (g : Inst). is_constant g.op) (global gs index) false

-- what a chain is based on, and its indexes
abbrev pub base : Inst → ℕ
base i = slice_index i.args 0

abbrev pub indexes : Inst → List ℕ
indexes i = drop 1 i.args

-- those that are no constants, each with its number among the indexes
abbrev pub captured_indexes : List Inst → Inst → List (ℕ × ℕ)
captured_indexes gs i = filter (λ (n : ℕ × ℕ). not (is_constant_index gs n.1)) (enumerate_from 0 (indexes i))

-- where a chain stands, and where its path is printed: its id, and the places of the two blocks
pub record Spot : Type 0 where
  pub chain : ℕ
  pub stands : ℕ
  pub printed : ℕ

-- the index with this number, where it is no member's: as it was at the chain, where the path is printed in another block and the index may have changed since
abbrev pub index_step : List Inst → Spot → ℕ → ℕ → Step
index_step gs s number index =
    if is_constant_index gs index || (s.stands == s.printed) then Index (id index) else Captured (id s.chain) number

-- the member of a struct type that an index names by an OpConstant
abbrev pub member : List Inst → ℕ → ℕ → Option ℕ
member gs index ty = if is_struct gs ty then constant_word gs index else None

-- the step that an index makes from a type
abbrev pub step : List Inst → Spot → ℕ → ℕ → Option ℕ → Step
step gs s number index ty = option_map_or Member (option_and_then (member gs index) ty) (index_step gs s number index)

-- the steps that indexes make from a type, where the first has this number
abbrev pub steps_from : List Inst → Spot → ℕ → Option ℕ → List ℕ → List Step
steps_from gs s number ty [] = []
steps_from gs s number ty (index ∷ rest) =
    step gs s number index ty ∷ steps_from gs s (number + 1) (option_and_then (step_type gs index) ty) rest

-- where a chain stands, and where its path is printed
abbrev pub spot_of : ℕ → ℕ × Inst → Spot
spot_of printed c = record { chain = c.1.result; stands = c.0; printed = printed }

-- the steps of a chain, from what its base points to
abbrev pub chain_steps : List Inst → Function → Spot → Inst → List Step
chain_steps gs f s i = steps_from gs s 0 (pointee_of gs f (base i)) (indexes i)

-- a pointer that no chain makes is where its path begins
abbrev pub start : ℕ → Way
start pointer = record { base = pointer; steps = [] }

abbrev pub further : Way → List Step → Way
further w more = record { base = w.base; steps = w.steps ++ more }

-- the pointers so far, with what one more instruction makes: a chain leads further than its base
abbrev pub with_inst : List Inst → Function → ℕ → ℕ → (ℕ → Way) → Inst → ℕ → Way
with_inst gs f printed stands ways i pointer =
    elim (is_chain i.op && (i.result == pointer)) [
      | true ↦ further (ways (base i)) (chain_steps gs f (spot_of printed (stands, i)) i)
      | false ↦ ways pointer
    ]

-- with the instructions of the block at a place
abbrev pub with_block : List Inst → Function → ℕ → (ℕ → Way) → ℕ × Block → ℕ → Way
with_block gs f printed ways b = fold (with_inst gs f printed b.0) ways b.1.insts

-- with these blocks, in text order
abbrev pub ways_in : List Inst → Function → ℕ → List (ℕ × Block) → ℕ → Way
ways_in gs f printed blocks = fold (with_block gs f printed) start blocks

-- the path of a pointer that is printed in the block at a place
abbrev pub path : List Inst → Function → ℕ → ℕ → Way
path gs f printed pointer = ways_in gs f printed (enumerate_from 0 f.blocks) pointer

-- the instructions of blocks in text order, each with the place of its block
abbrev pub placed : List (ℕ × Block) → List (ℕ × Inst)
placed blocks = flat_map (λ (b : ℕ × Block). map (λ i. (b.0, i)) b.1.insts) blocks

-- the instruction is a chain that makes this pointer
abbrev pub makes : ℕ → ℕ × Inst → Bool
makes pointer c = is_chain c.1.op && (c.1.result == pointer)
