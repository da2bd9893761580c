-- The definitions, computed on a small function.
use Rattle.std.proofs.Common.{◌≡◌, ℕ, List, [], ◌∷◌, true, false, refl, map}
use Rattle.spv_ops.specs.Enumerants.{class_number}
use Rattle.spv_ops.specs.declared.StorageClass.TheVariants as storage
use Rattle.spv_ops.specs.Opcode.{number}
use Rattle.spv_ops.specs.declared.Op.{Op}
use Rattle.spv_ops.specs.declared.Op.TheVariants as code
use Rattle.spv_module.specs.Lists.{id}
use Rattle.spv_module.specs.declared.inst.Inst.{Inst}
use Rattle.spv_module.specs.declared.inst.Function.{Function}
use Rattle.access_paths.specs.declared.forms.Step.{Step}
use Rattle.access_paths.specs.declared.forms.Step.TheVariants.{Member, Index, Captured}
use Rattle.access_paths.specs.Ways.{Way, path, captured_indexes, is_constant_index}

abbrev made : Op → ℕ → ℕ → List ℕ → Inst
made o ty result args = record { op = o; at = 0; ty = ty; result = result; args = args }

-- the operands of a pointer type into a storage buffer
abbrev in_buffer : ℕ → List ℕ
in_buffer ty = class_number storage.StorageBuffer ∷ ty ∷ []

-- %1 uint, %2 the constant 0, %3 the constant 1, %4 an OpUndef, %5 a specialization constant, %6 a struct of two uint, %7 an array of %6, %8 a struct of %7, pointers %9 to %8, %10 to %7, %11 to %6, %12 to uint; the variable %13 of type %9
abbrev globals : List Inst
globals =
    made code.TypeInt 0 1 (32 ∷ 0 ∷ []) ∷ made code.Constant 1 2 (0 ∷ []) ∷ made code.Constant 1 3 (1 ∷ []) ∷ made code.Undef 1 4 [] ∷ made code.SpecConstant 1 5 (3 ∷ []) ∷ made code.TypeStruct 0 6 (1 ∷ 1 ∷ []) ∷
    made code.TypeArray 0 7 (6 ∷ 3 ∷ []) ∷ made code.TypeStruct 0 8 (7 ∷ []) ∷ made code.TypePointer 0 9 (in_buffer 8) ∷ made code.TypePointer 0 10 (in_buffer 7) ∷ made code.TypePointer 0 11 (in_buffer 6) ∷
    made code.TypePointer 0 12 (in_buffer 1) ∷ made code.Variable 9 13 (class_number storage.StorageBuffer ∷ []) ∷ []

-- block %20: a load %21 through %22, an element %23 of %13, the same %24 and a member %25 of it; block %30: a member %31 of %23, an OpUndef %32 and an element %33 by it, elements %34 and %35 by constants, a chain %36 based on itself; a pointer parameter %22, and a member %37 of it by no constant
abbrev function : Function
function = record {
  id = id 18;
  ty = id 1;
  result = id 1;
  at = 0;
  params = (id 22, id 11) ∷ [];
  blocks =
      record { label = id 20; at = 0; insts = made code.Load 1 21 (22 ∷ []) ∷ made code.AccessChain 11 23 (13 ∷ 2 ∷ 21 ∷ []) ∷ made code.AccessChain 11 24 (23 ∷ []) ∷ made code.InBoundsAccessChain 12 25 (24 ∷ 3 ∷ []) ∷ [] } ∷
      record { label = id 30; at = 0; insts = made code.AccessChain 12 31 (23 ∷ 3 ∷ []) ∷ made code.Undef 1 32 [] ∷ made code.AccessChain 11 33 (13 ∷ 2 ∷ 32 ∷ []) ∷ made code.AccessChain 11 34 (13 ∷ 2 ∷ 4 ∷ []) ∷ made code.AccessChain 11 35 (13 ∷ 2 ∷ 5 ∷ []) ∷ made code.AccessChain 11 36 (36 ∷ 3 ∷ []) ∷ made code.AccessChain 12 37 (22 ∷ 21 ∷ []) ∷ [] } ∷ [];
}

abbrev from : ℕ → List Step → Way
from base steps = record { base = base; steps = steps }

variables : (path globals function 0 13 ≡ from 13 []) × (path globals function 0 22 ≡ from 22 []) × (path globals function 0 99 ≡ from 99 [])
unfolding number
variables = (refl, refl, refl)

element : (path globals function 0 23 ≡ from 13 (Member 0 ∷ Index (id 21) ∷ [])) × (path globals function 0 24 ≡ from 13 (Member 0 ∷ Index (id 21) ∷ [])) × (path globals function 0 25 ≡ from 13 (Member 0 ∷ Index (id 21) ∷ Member 1 ∷ []))
unfolding number
element = (refl, refl, refl)

elsewhere : (path globals function 1 25 ≡ from 13 (Member 0 ∷ Captured (id 23) 1 ∷ Member 1 ∷ [])) × (path globals function 1 31 ≡ from 13 (Member 0 ∷ Captured (id 23) 1 ∷ Member 1 ∷ [])) × (path globals function 0 33 ≡ from 13 (Member 0 ∷ Captured (id 33) 1 ∷ []))
unfolding number
elsewhere = (refl, refl, refl)

constants : (path globals function 1 33 ≡ from 13 (Member 0 ∷ Index (id 32) ∷ [])) × (path globals function 0 34 ≡ from 13 (Member 0 ∷ Index (id 4) ∷ [])) × (path globals function 0 35 ≡ from 13 (Member 0 ∷ Index (id 5) ∷ []))
unfolding number
constants = (refl, refl, refl)

-- what breaks the rules on chains: a base that does not stand earlier, a member by no constant
broken : (path globals function 1 36 ≡ from 36 (Member 1 ∷ [])) × (path globals function 0 37 ≡ from 22 (Captured (id 37) 0 ∷ []))
unfolding number
broken = (refl, refl)

numbers : captured_indexes globals (made code.AccessChain 12 40 (13 ∷ 2 ∷ 21 ∷ 3 ∷ 32 ∷ 4 ∷ [])) ≡ (1, 21) ∷ (3, 32) ∷ []
unfolding number
numbers = refl

tests : map (is_constant_index globals) (2 ∷ 4 ∷ 5 ∷ 6 ∷ 13 ∷ 21 ∷ 32 ∷ []) ≡ true ∷ true ∷ true ∷ false ∷ false ∷ false ∷ false ∷ []
unfolding number
tests = refl
