-- Forms and carried chains, computed on small functions.
use Rattle.std.specs.Prelude.{ℕ, zero, suc, ◌+◌, ◌≡◌, true, false, List, [], ◌∷◌, map, refl}
use Rattle.spv_ops.specs.Enumerants.{class_number}
use Rattle.spv_ops.specs.declared.StorageClass.TheVariants as storage
use Rattle.spv_ops.specs.Opcode.{number}
use Rattle.spv_ops.specs.OpGroups.{group_of, takes_of}
use Rattle.spv_ops.specs.declared.Op.{Op}
use Rattle.spv_ops.specs.declared.Op.TheVariants as code
use Rattle.spv_ops.specs.Shape.{shape}
use Rattle.spv_module.specs.declared.inst.Inst.{Inst}
use Rattle.spv_module.specs.declared.inst.Block.{Block}
use Rattle.use_chains.specs.Links.{Link}
use Rattle.hoist_plan.specs.declared.form.Form.TheVariants.{Gone, Forwarded, Local, Hoisted}
use Rattle.hoist_plan.specs.Plan.{Scope, form, is_carried}

inst : Op → ℕ → ℕ → List ℕ → Inst
inst o ty result args = record { op = o; at = 0; ty = ty; result = result; args = args }

block : ℕ → List Inst → Block
block label insts = record { label = record { 0 = label }; at = 0; insts = insts }

link : ℕ → ℕ → ℕ → ℕ → ℕ → Link
link slot b i k id = record { slot = slot; place = record { block = b; inst = i; arg = k }; id = id }

-- %8 is a 32-bit integer, %9 a vector of two, %13 a pointer
globals : List Inst
globals = inst code.TypeInt 0 8 (32 ∷ 0 ∷ []) ∷ inst code.TypeVector 0 9 (8 ∷ 2 ∷ []) ∷ inst code.TypePointer 0 13 (class_number storage.StorageBuffer ∷ 8 ∷ []) ∷ []

planned_of : List Block → List Link → Scope
planned_of blocks links = record {
  globals = globals;
  function = record { id = record { 0 = 1 }; ty = record { 0 = 7 }; result = record { 0 = 6 }; at = 0; params = []; blocks = blocks };
  links = links;
}

-- block 0 loads 20 and 21, and makes the sums 22, 23 and 24 and a chain 25; block 1 stores 23 through a chain on that chain
two_blocks : Scope
two_blocks = planned_of (
    block 10
    (inst code.Load 8 20 (5 ∷ []) ∷ inst code.Load 8 21 (5 ∷ []) ∷ inst code.IAdd 8 22 (20 ∷ 14 ∷ []) ∷ inst code.IAdd 8 23 (22 ∷ 14 ∷ []) ∷ inst code.IAdd 8 24 (20 ∷ 20 ∷ []) ∷
    inst code.AccessChain 13 25 (5 ∷ 21 ∷ []) ∷ inst code.Branch 0 0 (11 ∷ []) ∷ []) ∷
    block 11 (inst code.AccessChain 13 26 (25 ∷ 14 ∷ []) ∷ inst code.Store 0 0 (26 ∷ 23 ∷ []) ∷ inst code.Return 0 0 [] ∷ []) ∷ []
    ) (
    link 0 0 0 0 5 ∷ link 1 0 1 0 5 ∷ link 2 0 2 0 20 ∷ link 3 0 2 1 14 ∷ link 4 0 3 0 22 ∷ link 5 0 3 1 14 ∷
    link 8 0 5 0 5 ∷ link 9 0 5 1 21 ∷ link 10 1 0 0 25 ∷ link 11 1 0 1 14 ∷ link 12 1 1 0 26 ∷ link 13 1 1 1 23 ∷ []
    )

-- the sum that nothing links is gone, the one that one sum mentions is forwarded, and the one that the other block stores is hoisted
forms_two_blocks : map (form two_blocks) (20 ∷ 21 ∷ 22 ∷ 23 ∷ 24 ∷ 25 ∷ 26 ∷ 99 ∷ []) ≡
    Local ∷ Local ∷ Forwarded ∷ Hoisted ∷ Gone ∷ Forwarded ∷ Forwarded ∷ Gone ∷ []
unfolding two_blocks planned_of globals block inst link number group_of shape
forms_two_blocks = refl

carried_two_blocks : map (is_carried two_blocks) (25 ∷ 26 ∷ 5 ∷ []) ≡ true ∷ false ∷ false ∷ []
unfolding two_blocks planned_of globals block inst link number group_of takes_of
carried_two_blocks = refl

-- a loop over itself: a value comes to its phi from its own block
loop : Scope
loop = planned_of (
    block 16 (inst code.Branch 0 0 (31 ∷ []) ∷ []) ∷
    block 31
    (inst code.Phi 8 41 (14 ∷ 16 ∷ 43 ∷ 31 ∷ []) ∷ inst code.IAdd 8 43 (41 ∷ 15 ∷ []) ∷ inst code.ULessThan 6 44 (43 ∷ 24 ∷ []) ∷ inst code.LoopMerge 0 0 (35 ∷ 31 ∷ 0 ∷ []) ∷
    inst code.BranchConditional 0 0 (44 ∷ 31 ∷ 35 ∷ []) ∷ []) ∷
    block 35 (inst code.Return 0 0 [] ∷ []) ∷ []
    ) (link 0 1 0 0 14 ∷ link 1 1 0 2 43 ∷ link 2 1 1 0 41 ∷ link 3 1 1 1 15 ∷ link 4 1 2 0 43 ∷ link 5 1 2 1 24 ∷ link 6 1 4 0 44 ∷ [])

forms_loop : map (form loop) (41 ∷ 43 ∷ 44 ∷ []) ≡ Hoisted ∷ Local ∷ Forwarded ∷ []
unfolding loop planned_of globals block inst link number group_of shape
forms_loop = refl

-- the sums 30, 31, 32 and 33 of scalars: the count of a bit field of vectors, an operand of SDiv, of UDiv, and of SAbs; the vector 34 in a sum, and 35 in a minimum
operands : Scope
operands = planned_of (block 10 (
    inst code.IAdd 8 30 (14 ∷ 14 ∷ []) ∷ inst code.BitFieldUExtract 9 40 (5 ∷ 14 ∷ 30 ∷ []) ∷ inst code.IAdd 8 31 (14 ∷ 14 ∷ []) ∷ inst code.SDiv 8 41 (31 ∷ 14 ∷ []) ∷
    inst code.IAdd 8 32 (14 ∷ 14 ∷ []) ∷ inst code.UDiv 8 42 (32 ∷ 14 ∷ []) ∷ inst code.IAdd 8 33 (14 ∷ 14 ∷ []) ∷ inst code.ExtInst 8 43 (2 ∷ 5 ∷ 33 ∷ []) ∷
    inst code.IAdd 9 34 (5 ∷ 5 ∷ []) ∷ inst code.IAdd 9 44 (34 ∷ 5 ∷ []) ∷ inst code.IAdd 9 35 (5 ∷ 5 ∷ []) ∷ inst code.ExtInst 9 45 (2 ∷ 38 ∷ 35 ∷ 5 ∷ []) ∷ []
    ) ∷ []) (link 0 0 1 2 30 ∷ link 1 0 3 0 31 ∷ link 2 0 5 0 32 ∷ link 3 0 7 2 33 ∷ link 4 0 9 0 34 ∷ link 5 0 11 2 35 ∷ [])

forms_operands : map (form operands) (30 ∷ 31 ∷ 32 ∷ 33 ∷ 34 ∷ 35 ∷ 45 ∷ []) ≡ Local ∷ Local ∷ Forwarded ∷ Local ∷ Forwarded ∷ Local ∷ Gone ∷ []
unfolding operands planned_of globals block inst link number group_of shape
forms_operands = refl

-- n negations from %100 on, each of the one before
negations : ℕ → ℕ → List Inst
negations zero id = []
negations (suc n) id = inst code.SNegate 8 (id + 1) (id ∷ []) ∷ negations n (id + 1)

negation_links : ℕ → ℕ → ℕ → List Link
negation_links zero at id = []
negation_links (suc n) at id = link at 0 at 0 id ∷ negation_links n (at + 1) (id + 1)

deep : Scope
deep = planned_of (block 10 (negations 20 100) ∷ []) (negation_links 20 0 100)

-- the expression of the seventeenth would be 17 high
forms_deep : map (form deep) (101 ∷ 115 ∷ 116 ∷ 117 ∷ 118 ∷ 119 ∷ []) ≡ Forwarded ∷ Forwarded ∷ Forwarded ∷ Local ∷ Forwarded ∷ Forwarded ∷ []
unfolding deep negations negation_links planned_of globals block inst link number group_of shape
forms_deep = refl

-- block 1 is not reached: block 2 loads through a chain of it, which is based on another chain there
apart : Scope
apart = planned_of (
    block 10 (inst code.Branch 0 0 (12 ∷ []) ∷ []) ∷ block 11 (inst code.AccessChain 13 50 (5 ∷ 21 ∷ []) ∷ inst code.AccessChain 13 51 (50 ∷ 21 ∷ []) ∷ inst code.Branch 0 0 (12 ∷ []) ∷ []) ∷
    block 12 (inst code.Load 8 52 (51 ∷ []) ∷ inst code.Return 0 0 [] ∷ []) ∷ []
    ) (link 0 1 0 0 5 ∷ link 1 1 1 0 50 ∷ link 2 2 0 0 51 ∷ [])

carried_apart : map (is_carried apart) (50 ∷ 51 ∷ 5 ∷ []) ≡ true ∷ true ∷ false ∷ []
unfolding apart planned_of globals block inst link number group_of takes_of
carried_apart = refl
