-- The rules on blocks, and the layouts that blocks take.
use Rattle.std.proofs.Common.{◌≡◌, ℕ, List, [], ◌∷◌, Some, None, true, false, refl}
use Rattle.spv_words.specs.declared.rule.Rule.TheVariants.{L1, L2, L3, L4, L5, L6, L7}
use Rattle.spv_ops.specs.Enumerants.{class_number, decoration_number}
use Rattle.spv_ops.specs.Opcode.{number}
use Rattle.spv_ops.specs.declared.Decoration.TheVariants as decoration
use Rattle.spv_ops.specs.declared.Op.{Op}
use Rattle.spv_ops.specs.declared.Op.TheVariants as code
use Rattle.spv_ops.specs.declared.StorageClass.TheVariants as storage
use Rattle.spv_module.specs.declared.inst.Inst.{Inst}
use Rattle.spv_module.specs.declared.tree.Elem.TheVariants.{Bool, Uint}
use Rattle.spv_module.specs.declared.tree.Length.TheVariants.{Fixed}
use Rattle.spv_types.specs.Tree.{Tree, boolean, uint, vector, array, runtime, struct, trees_in}
use Rattle.spv_types.specs.Types.{kind, below}
use Rattle.spv_decor.specs.Rows.{key_of}
use Rattle.layout_rules.specs.declared.Kind.TheVariants.{Std430, Std140}
use Rattle.layout_rules.specs.Sizes.{aligned}
use Rattle.layout_rules.specs.Rules.{breaks}
use Rattle.layout_rules.specs.Blocks.{Member, members_of, member_breaks, members_break, first_broken, kind_of_members}

opened : Unit {0}
unfolding aligned breaks member_breaks members_break kind below key_of number
opened = tt

abbrev member : ℕ → ℕ → Tree → Member
member id offset t = record { id = id; offset = Some offset; shape = Some t }

-- an OpDecorate with ArrayStride, and an OpMemberDecorate with Offset
abbrev stride : ℕ → ℕ → Inst
stride id n = record { op = code.Decorate; at = 0; ty = 0; result = 0; args = id ∷ decoration_number decoration.ArrayStride ∷ n ∷ [] }

abbrev offset : ℕ → ℕ → ℕ → Inst
offset id k n = record { op = code.MemberDecorate; at = 0; ty = 0; result = 0; args = id ∷ k ∷ decoration_number decoration.Offset ∷ n ∷ [] }

abbrev made : Op → ℕ → ℕ → List ℕ → Inst
made op at result args = record { op = op; at = at; ty = 0; result = result; args = args }

abbrev uvec3 : Tree
uvec3 = vector Uint 3

-- %1 uint, %2 uvec3, %3 a runtime array of uvec3, %4 a struct of two uints, %5 the block of a uvec3, two uints and the array
abbrev types : List Inst
types = made code.TypeInt 1 1 (32 ∷ 0 ∷ []) ∷ made code.TypeVector 2 2 (1 ∷ 3 ∷ []) ∷ made code.TypeRuntimeArray 3 3 (2 ∷ []) ∷ made code.TypeStruct 4 4 (1 ∷ 1 ∷ []) ∷ []

abbrev block : Inst
block = made code.TypeStruct 5 5 (2 ∷ 1 ∷ 1 ∷ 3 ∷ [])

abbrev offsets : List Inst
offsets = offset 5 0 0 ∷ offset 5 1 12 ∷ offset 5 2 32 ∷ offset 5 3 48 ∷ []

members : members_of offsets types block ≡ member 2 0 uvec3 ∷ member 1 12 uint ∷ member 1 32 uint ∷ member 3 48 (runtime uvec3) ∷ []
unfolding opened
members = refl

-- the stride of the array of uvec3 is 16
fits : first_broken (stride 3 16 ∷ offsets) types Std430 (members_of offsets types block) ≡ None
unfolding opened
fits = refl

taken : kind_of_members (stride 3 16 ∷ offsets) types Std430 (members_of offsets types block) ≡ Some Std430
unfolding opened
taken = refl

of_twelve : first_broken (stride 3 12 ∷ offsets) types Std430 (members_of offsets types block) ≡ Some L2
unfolding opened
of_twelve = refl

missing : first_broken offsets types Std430 (members_of offsets types block) ≡ Some L2
unfolding opened
missing = refl

-- a struct of two uints inside: at 0 and 4 as in the layout, at 0 and 8 not
inside : ℕ → List Inst
inside n = offset 4 0 0 ∷ offset 4 1 n ∷ []

abbrev pair : Tree
pair = struct 4 (trees_in (uint ∷ uint ∷ []))

nested : (first_broken (inside 4) types Std430 (member 4 0 pair ∷ []) ≡ None) × (first_broken (inside 8) types Std430 (member 4 0 pair ∷ []) ≡ Some L6)
unfolding opened inside
nested = (refl, refl)

-- a member inside without an Offset
nested_missing : (first_broken (offset 4 0 0 ∷ []) types Std430 (member 4 0 pair ∷ []) ≡ Some L1) × (members_break (offset 4 0 0 ∷ []) types Std430 (member 4 0 pair ∷ []) L6 ≡ false)
unfolding opened
nested_missing = (refl, refl)

-- a member of the block without an Offset breaks that rule alone, also where its type has no shape
without : List Member
without = member 1 0 uint ∷ record { id = 1; offset = None; shape = Some uint } ∷ []

without_one : (first_broken [] types Std430 without ≡ Some L1) × (members_break [] types Std430 without L4 ≡ false) × (members_break [] types Std430 without L5 ≡ false) × (members_break [] types Std430 without L7 ≡ false)
unfolding opened without
without_one = (refl, refl, refl, refl)

shapeless : first_broken [] types Std430 (record { id = 9; offset = Some 3; shape = None } ∷ []) ≡ None
unfolding opened
shapeless = refl

-- a uint at 10, and a second one at 0
at_ten : (members_break [] types Std430 (member 2 0 uvec3 ∷ member 1 10 uint ∷ []) L4 ≡ true) × (members_break [] types Std430 (member 2 0 uvec3 ∷ member 1 10 uint ∷ []) L5 ≡ true) × (first_broken [] types Std430 (member 2 0 uvec3 ∷ member 1 14 uint ∷ []) ≡ Some L4)
unfolding opened
at_ten = (refl, refl, refl)

at_zero : first_broken [] types Std430 (member 1 0 uint ∷ member 1 0 uint ∷ []) ≡ Some L5
unfolding opened
at_zero = refl

-- only the member directly before counts
behind : first_broken [] types Std430 (member 1 8 uint ∷ member 1 12 uint ∷ member 1 16 uint ∷ []) ≡ None
unfolding opened
behind = refl

-- a bool, and a bool in an array
bools : (first_broken [] types Std430 (member 7 0 boolean ∷ []) ≡ Some L3) × (members_break [] types Std430 (member 8 0 (array boolean (Fixed 2)) ∷ []) L3 ≡ true)
unfolding opened
bools = (refl, refl)

bool_vectors : (first_broken [] types Std430 (member 7 0 (vector Bool 2) ∷ []) ≡ Some L3) × (members_break (stride 8 8 ∷ []) types Std430 (member 8 0 (runtime (vector Bool 2)) ∷ []) L3 ≡ true)
unfolding opened
bool_vectors = (refl, refl)

-- the last byte: a uint that ends at it, one that ends past it, and an array without an end of its own, of elements that have one
abbrev last : ℕ
last = 4294967292

at_the_end : (first_broken [] types Std430 (member 1 4294967288 uint ∷ []) ≡ None) × (first_broken [] types Std430 (member 1 last uint ∷ []) ≡ Some L7)
unfolding opened
at_the_end = (refl, refl)

inner_end : first_broken (stride 8 4 ∷ stride 9 4294967296 ∷ []) (made code.TypeRuntimeArray 2 9 (8 ∷ []) ∷ []) Std430 (member 9 0 (runtime (array uint (Fixed 1073741824))) ∷ []) ≡ Some L7
unfolding opened
inner_end = refl

-- arrays of arrays have a stride each: %7 is three of %6, which is two uints
abbrev rows : List Inst
rows = made code.TypeArray 6 6 (1 ∷ 8 ∷ []) ∷ made code.TypeArray 7 7 (6 ∷ 9 ∷ []) ∷ []

abbrev row : Tree
row = array (array uint (Fixed 2)) (Fixed 3)

arrays : (first_broken (stride 6 4 ∷ stride 7 8 ∷ []) rows Std430 (member 7 0 row ∷ []) ≡ None) × (first_broken (stride 6 16 ∷ stride 7 32 ∷ []) rows Std140 (member 7 0 row ∷ []) ≡ None) × (first_broken (stride 6 4 ∷ stride 7 4 ∷ []) rows Std430 (member 7 0 row ∷ []) ≡ Some L2)
unfolding opened
arrays = (refl, refl, refl)

-- the layouts of blocks that may first take std140, and of those that may first take std430
abbrev wide : List Inst
wide = stride 6 16 ∷ stride 7 32 ∷ []

abbrev close : List Inst
close = stride 6 4 ∷ stride 7 8 ∷ []

uniforms : (kind_of_members wide rows Std140 (member 7 0 row ∷ []) ≡ Some Std140) × (kind_of_members close rows Std140 (member 7 0 row ∷ []) ≡ None)
unfolding opened
uniforms = (refl, refl)

buffers : (kind_of_members wide rows Std430 (member 7 0 row ∷ []) ≡ Some Std140) × (kind_of_members close rows Std430 (member 7 0 row ∷ []) ≡ Some Std430) × (kind_of_members (stride 6 4 ∷ []) rows Std430 (member 7 0 row ∷ []) ≡ None)
unfolding opened
buffers = (refl, refl, refl)
