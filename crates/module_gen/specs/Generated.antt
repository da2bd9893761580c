-- The modules that `generate` makes: a frame, pieces one after the other, and the end of the function.
use Rattle.std.specs.Prelude.{ℕ, ◌+◌, ◌*◌, ◌%◌, zero, suc, ◌==◌, if◌then◌else◌, List, [], ◌∷◌, ◌++◌}
use Rattle.spv_ops.specs.Enumerants.{built_in_number, capability_number, class_number, decoration_number, mode_number, model_number}
use Rattle.spv_ops.specs.declared.BuiltIn.TheVariants as built
use Rattle.spv_ops.specs.declared.Capability.TheVariants as capability
use Rattle.spv_ops.specs.declared.Decoration.TheVariants as decoration
use Rattle.spv_ops.specs.declared.ExecutionMode.TheVariants as mode
use Rattle.spv_ops.specs.declared.ExecutionModel.TheVariants as model
use Rattle.spv_ops.specs.declared.Op.TheVariants as op
use Rattle.spv_ops.specs.declared.StorageClass.TheVariants as storage
use Rattle.module_gen.specs.Assembly.{Instruction, Assembly, inst, module_words}
use Rattle.module_gen.specs.declared.pieces.Kind.{Kind}
use Rattle.module_gen.specs.declared.pieces.Kind.TheVariants.{StraightLine, Selection, Loop}

-- What stands before the pieces. %5 is the storage buffer, a struct whose only member is a runtime array of uint, %8 is
-- uint, %19 is bool, %13 points to a uint of the buffer, %14, %15 and %20 are the numbers 0, 1 and 8, %16 is the first
-- block, and %18 the invocation's index in the array.
unfoldable pub frame : List Instruction
frame =
    inst op.Capability (capability_number capability.Shader ∷ [])
    ∷ inst op.MemoryModel (0 ∷ 1 ∷ [])  -- Logical GLSL450
    ∷ inst op.EntryPoint (model_number model.GLCompute ∷ 1 ∷ 0x6E69616D ∷ 0 ∷ 2 ∷ [])  -- %1 "main" %2
    ∷ inst op.ExecutionMode (1 ∷ mode_number mode.LocalSize ∷ 64 ∷ 1 ∷ 1 ∷ [])
    ∷ inst op.Decorate (2 ∷ decoration_number decoration.BuiltIn ∷ built_in_number built.GlobalInvocationId ∷ [])
    ∷ inst op.Decorate (3 ∷ decoration_number decoration.Block ∷ [])
    ∷ inst op.MemberDecorate (3 ∷ 0 ∷ decoration_number decoration.Offset ∷ 0 ∷ [])
    ∷ inst op.Decorate (4 ∷ decoration_number decoration.ArrayStride ∷ 4 ∷ [])
    ∷ inst op.Decorate (5 ∷ decoration_number decoration.DescriptorSet ∷ 0 ∷ [])
    ∷ inst op.Decorate (5 ∷ decoration_number decoration.Binding ∷ 0 ∷ [])
    ∷ inst op.TypeVoid (6 ∷ [])
    ∷ inst op.TypeFunction (7 ∷ 6 ∷ [])
    ∷ inst op.TypeInt (8 ∷ 32 ∷ 0 ∷ [])
    ∷ inst op.TypeVector (9 ∷ 8 ∷ 3 ∷ [])
    ∷ inst op.TypePointer (10 ∷ class_number storage.Input ∷ 9 ∷ [])
    ∷ inst op.Variable (10 ∷ 2 ∷ class_number storage.Input ∷ [])
    ∷ inst op.TypePointer (11 ∷ class_number storage.Input ∷ 8 ∷ [])
    ∷ inst op.TypeRuntimeArray (4 ∷ 8 ∷ [])
    ∷ inst op.TypeStruct (3 ∷ 4 ∷ [])
    ∷ inst op.TypePointer (12 ∷ class_number storage.StorageBuffer ∷ 3 ∷ [])
    ∷ inst op.Variable (12 ∷ 5 ∷ class_number storage.StorageBuffer ∷ [])
    ∷ inst op.TypePointer (13 ∷ class_number storage.StorageBuffer ∷ 8 ∷ [])
    ∷ inst op.Constant (8 ∷ 14 ∷ 0 ∷ [])
    ∷ inst op.Constant (8 ∷ 15 ∷ 1 ∷ [])
    ∷ inst op.TypeBool (19 ∷ [])
    ∷ inst op.Constant (8 ∷ 20 ∷ 8 ∷ [])
    ∷ inst op.Function (6 ∷ 1 ∷ 0 ∷ 7 ∷ [])
    ∷ inst op.Label (16 ∷ [])
    ∷ inst op.AccessChain (11 ∷ 17 ∷ 2 ∷ 14 ∷ [])
    ∷ inst op.Load (8 ∷ 18 ∷ 17 ∷ [])
    ∷ []

-- The instructions of the pieces. `r` is the result, and `element` points to what stands at the index.
abbrev pub element : ℕ → Instruction
element r = inst op.AccessChain (13 ∷ r ∷ 5 ∷ 14 ∷ 18 ∷ [])

abbrev pub load : ℕ → ℕ → Instruction
load r pointer = inst op.Load (8 ∷ r ∷ pointer ∷ [])

abbrev pub store : ℕ → ℕ → Instruction
store pointer value = inst op.Store (pointer ∷ value ∷ [])

abbrev pub add : ℕ → ℕ → ℕ → Instruction
add r a b = inst op.IAdd (8 ∷ r ∷ a ∷ b ∷ [])

abbrev pub is_below_eight : ℕ → ℕ → Instruction
is_below_eight r a = inst op.ULessThan (19 ∷ r ∷ a ∷ 20 ∷ [])

-- `a` where the block before was `from_a`, and `b` where it was `from_b`
abbrev pub phi : ℕ → ℕ → ℕ → ℕ → ℕ → Instruction
phi r a from_a b from_b = inst op.Phi (8 ∷ r ∷ a ∷ from_a ∷ b ∷ from_b ∷ [])

abbrev pub label : ℕ → Instruction
label r = inst op.Label (r ∷ [])

abbrev pub branch : ℕ → Instruction
branch target = inst op.Branch (target ∷ [])

abbrev pub branch_conditional : ℕ → ℕ → ℕ → Instruction
branch_conditional condition on_true on_false = inst op.BranchConditional (condition ∷ on_true ∷ on_false ∷ [])

abbrev pub selection_merge : ℕ → Instruction
selection_merge merge = inst op.SelectionMerge (merge ∷ 0 ∷ [])

abbrev pub loop_merge : ℕ → ℕ → Instruction
loop_merge merge continue_target = inst op.LoopMerge (merge ∷ continue_target ∷ 0 ∷ [])

-- the element with this id, loaded as a number
abbrev pub loaded : ℕ → ℕ → List Instruction
loaded e number = element e ∷ load number e ∷ []

-- 1 is added to an element
abbrev pub straight_line : ℕ → List Instruction
straight_line b =
    loaded b (b + 1)
    ++ add (b + 2) (b + 1) 15
    ∷ store b (b + 2)
    ∷ []

-- 1 is added to an element that is below 8
abbrev pub selection : ℕ → ℕ → List Instruction
selection b current =
    loaded b (b + 1)
    ++ is_below_eight (b + 2) (b + 1)
    ∷ selection_merge (b + 4)
    ∷ branch_conditional (b + 2) (b + 3) (b + 4)
    ∷ label (b + 3)
    ∷ add (b + 5) (b + 1) 15
    ∷ branch (b + 4)
    ∷ label (b + 4)
    ∷ phi (b + 6) (b + 1) current (b + 5) (b + 3)
    ∷ element (b + 7)
    ∷ store (b + 7) (b + 6)
    ∷ []

-- the numbers from 0 to 7 are added to an element
abbrev pub loop : ℕ → ℕ → List Instruction
loop b current =
    branch b
    ∷ label b
    ∷ phi (b + 1) 14 current (b + 7) (b + 4)
    ∷ loop_merge (b + 5) (b + 4)
    ∷ branch (b + 2)
    ∷ label (b + 2)
    ∷ is_below_eight (b + 6) (b + 1)
    ∷ branch_conditional (b + 6) (b + 3) (b + 5)
    ∷ label (b + 3)
    ∷ element (b + 8)
    ∷ load (b + 9) (b + 8)
    ∷ add (b + 10) (b + 9) (b + 1)
    ∷ store (b + 8) (b + 10)
    ∷ branch (b + 4)
    ∷ label (b + 4)
    ∷ add (b + 7) (b + 1) 15
    ∷ branch b
    ∷ label (b + 5)
    ∷ []

-- the kind of piece k
abbrev pub kind_of : ℕ → Kind
kind_of k = if k % 3 == 1 then StraightLine else if k % 3 == 2 then Selection else Loop

-- a piece of ids from b on that begins in the block `current`
abbrev pub piece : Kind → ℕ → ℕ → List Instruction
piece StraightLine b current = straight_line b
piece Selection b current = selection b current
piece Loop b current = loop b current

-- the block in which it ends
abbrev pub block_after : Kind → ℕ → ℕ → ℕ
block_after StraightLine b current = current
block_after Selection b current = b + 4
block_after Loop b current = b + 5

-- `count` pieces from piece k on, the first of which begins in the block `current`
abbrev pub pieces_from : ℕ → ℕ → ℕ → List Instruction
pieces_from zero k current = []
pieces_from (suc count) k current =
    piece (kind_of k) (16 + 16 * k) current ++ pieces_from count (suc k) (block_after (kind_of k) (16 + 16 * k) current)

-- the module of n pieces
abbrev pub generated_assembly : ℕ → Assembly
generated_assembly n = record {
  version = 0x00010300;
  insts = frame ++ pieces_from n 1 16 ++ inst op.Return [] ∷ inst op.FunctionEnd [] ∷ [];
}

-- its words
unfoldable pub generated : ℕ → List ℕ
generated n = module_words (generated_assembly n) (32 + 16 * n)
