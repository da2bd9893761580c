-- The rules on the layout of a block, and the layout that it takes.
use Rattle.std.specs.Prelude.{ℕ, ◌≡◌, ◌+◌, ◌%◌, ◌==◌, ◌&&◌, ◌||◌, not, Bool, true, false, List, [], ◌∷◌, Option, Some, None, IsSome, IsSomeAnd, is_none, find, option_and_then, if◌then◌else◌, nat_lt, slice_index}
use Rattle.std.specs.Option.{option_map_or}
use Rattle.std.specs.List.{list_any}
use Rattle.spv_words.specs.declared.rule.Rule.{Rule}
use Rattle.spv_words.specs.declared.rule.Rule.TheVariants.{L1, L2, L3, L4, L5, L6, L7}
use Rattle.spv_words.specs.declared.rule.Limit.{Limit}
use Rattle.spv_words.specs.declared.rule.Fault.{Fault}
use Rattle.spv_words.specs.declared.rule.Fault.TheVariants.{Refused, Limit as Exceeded, Memory}
use Rattle.spv_ops.specs.Opcode.{is}
use Rattle.spv_ops.specs.declared.Op.TheVariants as code
use Rattle.spv_ops.specs.Enumerants.{class_number}
use Rattle.spv_ops.specs.declared.StorageClass.TheVariants as storage
use Rattle.spv_module.specs.Held.{global}
use Rattle.spv_module.specs.State.{ModuleState}
use Rattle.spv_module.specs.declared.inst.Inst.{Inst}
use Rattle.spv_types.specs.Tree.{Tree}
use Rattle.spv_types.specs.Types.{tree_before, type_tree, IsRight as IsRightType}
use Rattle.spv_index.specs.Pointers.{pointee}
use Rattle.spv_index.specs.BlockStructs.{is_uniform_struct}
use Rattle.layout_rules.specs.declared.Kind.{Kind}
use Rattle.layout_rules.specs.declared.Kind.TheVariants.{Std430, Std140}
use Rattle.layout_rules.specs.Sizes.{alignment_of, size_of}
use Rattle.layout_rules.specs.Parts.{any_part}
use Rattle.layout_rules.specs.Rules.{is_past, offset_of, breaks}

-- a member of a block: the id of its type, its Offset where it has one, and its shape where its type has one and stands before the block
pub record Member : Type 0 where
  pub id : ℕ
  pub offset : Option ℕ
  pub shape : Option Tree

-- the members of a struct from member k on, which are of these types
abbrev pub members_from : List Inst → List Inst → Inst → ℕ → List ℕ → List Member
members_from heads gs g k [] = []
members_from heads gs g k (id ∷ ids) =
    record { id = id; offset = offset_of heads g.result k; shape = tree_before gs g.at id }
    ∷ members_from heads gs g (k + 1) ids

abbrev pub members_of : List Inst → List Inst → Inst → List Member
members_of heads gs g = members_from heads gs g 0 g.args

-- the member's type or a part of it breaks the rule
abbrev pub breaks_inside : List Inst → List Inst → Kind → Rule → Member → Bool
breaks_inside heads gs kind rule m = option_map_or (any_part (breaks heads kind rule) gs m.id) m.shape false

-- the test of a member with an Offset and a shape
abbrev pub when_placed : (ℕ → Tree → Bool) → Member → Bool
when_placed test m = option_map_or (λ (offset : ℕ). option_map_or (test offset) m.shape false) m.offset false

-- its Offset is no multiple of its alignment
abbrev pub is_misaligned : Kind → Member → Bool
is_misaligned kind = when_placed (λ offset t. not (offset % alignment_of kind t == 0))

-- where a member ends that has an Offset and a shape, or 0
abbrev pub end_of : Kind → Member → ℕ
end_of kind m = option_map_or (λ (offset : ℕ). option_map_or (λ (t : Tree). offset + size_of kind t) m.shape 0) m.offset 0

-- it begins below the end of another
abbrev pub begins_below : Kind → Member → Member → Bool
begins_below kind other = when_placed (λ offset t. nat_lt offset (end_of kind other))

-- some member begins below the end of the one directly before it, where there is one
abbrev pub any_overlap : Kind → Option Member → List Member → Bool
any_overlap kind before [] = false
any_overlap kind before (m ∷ ms) = option_map_or (λ (other : Member). begins_below kind other m) before false || any_overlap kind (Some m) ms

-- a member breaks the rule: L1 it lacks its Offset, or a member of a struct in it does; L2 an ArrayStride in it is missing or not the layout's; L3 there is a bool in it; L4 its Offset is no multiple of its alignment; L6 an Offset in it is not the layout's; L7 its end or one in it is past the last byte
unfoldable pub member_breaks : List Inst → List Inst → Kind → Rule → Member → Bool
member_breaks heads gs kind L1 m = is_none m.offset || breaks_inside heads gs kind L1 m
member_breaks heads gs kind L2 m = breaks_inside heads gs kind L2 m
member_breaks heads gs kind L3 m = breaks_inside heads gs kind L3 m
member_breaks heads gs kind L4 m = is_misaligned kind m
member_breaks heads gs kind L6 m = breaks_inside heads gs kind L6 m
member_breaks heads gs kind L7 m = is_past (end_of kind m) || breaks_inside heads gs kind L7 m
member_breaks heads gs kind _ m = false

-- a block with these members breaks the rule: L5 a member begins below the end of the one before
unfoldable pub members_break : List Inst → List Inst → Kind → List Member → Rule → Bool
members_break heads gs kind ms L5 = any_overlap kind None ms
members_break heads gs kind ms rule = list_any (member_breaks heads gs kind rule) ms

-- the rules on layout
abbrev pub block_rules : List Rule
block_rules = L1 ∷ L2 ∷ L3 ∷ L4 ∷ L5 ∷ L6 ∷ L7 ∷ []

-- the first rule that the block breaks, by the layout
abbrev pub first_broken : List Inst → List Inst → Kind → List Member → Option Rule
first_broken heads gs kind ms = find (members_break heads gs kind ms) block_rules

-- the layout that the block of a variable of this class with this struct takes where it fits: a uniform block std140, a storage or push block std430
abbrev pub first_kind : List Inst → ℕ → ℕ → Kind
first_kind heads class id = if is_uniform_struct heads class id then Std140 else Std430

-- the layout that a block takes: the first where it fits, that is, breaks no rule, else std140 where that fits
abbrev pub kind_of_members : List Inst → List Inst → Kind → List Member → Option Kind
kind_of_members heads gs first ms =
    if is_none (first_broken heads gs first ms) then Some first else
    (if is_none (first_broken heads gs Std140 ms) then Some Std140 else None)

-- Uniform, PushConstant, StorageBuffer
abbrev pub is_block_class : ℕ → Bool
is_block_class class = (class == class_number storage.Uniform) || ((class == class_number storage.PushConstant) || (class == class_number storage.StorageBuffer))

abbrev pub as_struct : Inst → Option Inst
as_struct g = if is g.op code.TypeStruct then Some g else None

-- the struct of a block variable: an OpVariable of such a class that points to a struct
abbrev pub block_of : List Inst → Inst → Option Inst
block_of gs v =
    if is v.op code.Variable && is_block_class (slice_index v.args 0)
    then option_and_then as_struct (option_and_then (global gs) (pointee gs v.ty)) else None

-- the first layout that a variable's block may take, and the one that it takes
abbrev pub first_at : List Inst → Inst → Inst → Kind
first_at heads v block = first_kind heads (slice_index v.args 0) block.result

abbrev pub kind_at : List Inst → List Inst → Inst → Inst → Option Kind
kind_at heads gs v block = kind_of_members heads gs (first_at heads v block) (members_of heads gs block)

-- no layout fits the variable's block, and it breaks the rule by the first that it may take
abbrev pub IsBrokenBy : List Inst → List Inst → Inst → Inst → Rule → Type 0
IsBrokenBy heads gs v block rule = (kind_at heads gs v block ≡ None) × (members_break heads gs (first_at heads v block) (members_of heads gs block) rule ≡ true)

-- the variable is a block variable, and breaks the rule
abbrev pub BreaksAt : List Inst → List Inst → Inst → Rule → Type 0
BreaksAt heads gs v rule = IsSomeAnd (block_of gs v) (λ block. IsBrokenBy heads gs v block rule)

-- the rule on layout is broken at this word, that of a block variable
abbrev pub Broken : ModuleState → Rule → ℕ → Type 0
Broken m rule at = (id : ℕ) × IsSomeAnd (global m.globals id) (λ v. (at ≡ v.at) × BreaksAt m.heads m.globals v rule)

-- this id is a block variable
abbrev pub IsBlockVariable : List Inst → ℕ → Type 0
IsBlockVariable gs id = IsSomeAnd (global gs id) (λ v. IsSome (block_of gs v))

-- some type of the module passes the limit
abbrev pub SomeTypePasses : List Inst → Limit → Type 0
SomeTypePasses gs l = (id : ℕ) × IsRightType gs id (Exceeded l)

-- there is no answer, since a limit is passed, or for want of memory
abbrev pub IsLimit : List Inst → Fault → Type 0
IsLimit gs (Refused r) = ⊥
IsLimit gs (Exceeded l) = SomeTypePasses gs l
IsLimit gs Memory = Unit {0}

-- a refusal of a variable with this block has its cause
abbrev pub IsRightAt : List Inst → List Inst → Inst → Inst → Fault → Type 0
IsRightAt heads gs v block (Refused r) = (r.at ≡ v.at) × IsBrokenBy heads gs v block r.rule
IsRightAt heads gs v block (Exceeded l) = SomeTypePasses gs l
IsRightAt heads gs v block Memory = Unit {0}

-- a refusal of the block variable with this id has its cause
abbrev pub IsRight : List Inst → List Inst → ℕ → Fault → Type 0
IsRight heads gs id fault = IsSomeAnd (global gs id) (λ v. IsSomeAnd (block_of gs v) (λ block. IsRightAt heads gs v block fault))

-- the type with this id or a part of it breaks the rule, where it has a shape
abbrev pub type_breaks : List Inst → List Inst → Kind → ℕ → Rule → Bool
type_breaks heads gs kind id rule = option_map_or (any_part (breaks heads kind rule) gs id) (type_tree gs id) false

-- the rules that speak of the layout of a type alone
abbrev pub type_rules : List Rule
type_rules = L2 ∷ L3 ∷ L7 ∷ []

-- where the global with this id stands, or 0
abbrev pub place_of : List Inst → ℕ → ℕ
place_of gs id = option_map_or (λ (v : Inst). v.at) (global gs id) 0

-- a refusal of a type, at a variable, has its cause
abbrev pub IsRightOfType : List Inst → List Inst → Kind → ℕ → ℕ → Fault → Type 0
IsRightOfType heads gs kind variable id (Refused r) = (r.at ≡ place_of gs variable) × (find (type_breaks heads gs kind id) type_rules ≡ Some r.rule)
IsRightOfType heads gs kind variable id (Exceeded l) = IsRightType gs id (Exceeded l)
IsRightOfType heads gs kind variable id Memory = Unit {0}
