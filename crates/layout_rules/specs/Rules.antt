-- The rules on layout that a type or a part of it breaks by itself.
use Rattle.std.specs.Prelude.{ℕ, ◌+◌, ◌==◌, ◌||◌, not, Bool, true, false, List, Option, None, is_none, if◌then◌else◌, nat_lt}
use Rattle.std.specs.Option.{option_map_or}
use Rattle.spv_words.specs.declared.rule.Rule.{Rule}
use Rattle.spv_words.specs.declared.rule.Rule.TheVariants.{L1, L2, L3, L6, L7}
use Rattle.spv_ops.specs.Enumerants.{decoration_number}
use Rattle.spv_ops.specs.declared.Decoration.TheVariants as decoration
use Rattle.spv_module.specs.declared.inst.Inst.{Inst}
use Rattle.spv_module.specs.declared.tree.Elem.TheVariants as elem
use Rattle.spv_types.specs.Tree.{Tree, boolean, vector, struct, Trees, no_trees, tree}
use Rattle.spv_decor.specs.Rows.{value_of, member_value_of}
use Rattle.layout_rules.specs.declared.Kind.{Kind}
use Rattle.layout_rules.specs.Sizes.{aligned, alignment_of, size_of, stride_of}

-- past the last byte that 32 bits can number
abbrev pub is_past : ℕ → Bool
is_past n = nat_lt 4294967295 n

-- the decoration is missing, or has another literal
abbrev pub is_not : Option ℕ → ℕ → Bool
is_not literal n = not (option_map_or (λ (other : ℕ). other == n) literal false)

-- the decoration is there, with another literal
abbrev pub is_other : Option ℕ → ℕ → Bool
is_other literal n = option_map_or (λ (other : ℕ). not (other == n)) literal false

-- the Offset of member k: a decoration names its member by a word
abbrev pub offset_of : List Inst → ℕ → ℕ → Option ℕ
offset_of heads id k = if nat_lt k 4294967296 then member_value_of heads id k (decoration_number decoration.Offset) else None

-- member k of the struct with this id, or one behind it, lacks its Offset
abbrev pub lacks_from : List Inst → ℕ → ℕ → Trees → Bool
lacks_from heads id k no_trees = false
lacks_from heads id k (tree t ts) = is_none (offset_of heads id k) || lacks_from heads id (k + 1) ts

-- a struct of which a member lacks its Offset
abbrev pub lacks_offset : List Inst → ℕ → Tree → Bool
lacks_offset heads id (struct s ts) = lacks_from heads id 0 ts
lacks_offset heads id _ = false

-- an array whose ArrayStride is missing or not the layout's
abbrev pub has_other_stride : List Inst → Kind → ℕ → Tree → Bool
has_other_stride heads kind id t = option_map_or (is_not (value_of heads id (decoration_number decoration.ArrayStride))) (stride_of kind t) false

-- a bool, or a vector of bools
abbrev pub has_bool : Tree → Bool
has_bool boolean = true
has_bool (vector elem.Bool n) = true
has_bool _ = false

-- member k, or one behind it, has another Offset than the layout's, where they stand behind byte `end`
abbrev pub others_from : List Inst → Kind → ℕ → ℕ → ℕ → Trees → Bool
others_from heads kind id k end no_trees = false
others_from heads kind id k end (tree t ts) =
    is_other (offset_of heads id k) (aligned end (alignment_of kind t))
    || others_from heads kind id (k + 1) (aligned end (alignment_of kind t) + size_of kind t) ts

-- a struct of which a member has another Offset than the layout's
abbrev pub has_other_offset : List Inst → Kind → ℕ → Tree → Bool
has_other_offset heads kind id (struct s ts) = others_from heads kind id 0 0 ts
has_other_offset heads kind id _ = false

-- its end, or that of one of an array's elements, is past the last byte
abbrev pub ends_past : Kind → Tree → Bool
ends_past kind t = is_past (size_of kind t) || option_map_or is_past (stride_of kind t) false

-- the type with this id and this shape breaks the rule: L1 a struct, by a member without an Offset; L2 an array, by its stride; L3 a bool; L6 a struct, by a member's Offset; L7 an end that is past the last byte
unfoldable pub breaks : List Inst → Kind → Rule → ℕ → Tree → Bool
breaks heads kind L1 id t = lacks_offset heads id t
breaks heads kind L2 id t = has_other_stride heads kind id t
breaks heads kind L3 id t = has_bool t
breaks heads kind L6 id t = has_other_offset heads kind id t
breaks heads kind L7 id t = ends_past kind t
breaks heads kind _ id t = false
