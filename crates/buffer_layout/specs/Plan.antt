-- What contracts see of the layouts of types and blocks.
use Rattle.std.specs.Prelude.{ℕ, ◌≡◌, Bool, false, List, Some, IsSomeAnd, map, unwrap_or}
use Rattle.std.specs.Option.{option_map_or}
use Rattle.std.specs.List.{list_any}
use Rattle.spv_words.specs.declared.rule.Rule.{Rule}
use Rattle.spv_module.specs.Held.{global}
use Rattle.spv_module.specs.declared.inst.Inst.{Inst}
use Rattle.spv_types.specs.Types.{IsWithin}
use Rattle.layout_rules.specs.declared.Kind.{Kind}
use Rattle.layout_rules.specs.Sizes.{TypeLayout, layout_or_zeros}
use Rattle.layout_rules.specs.Rules.{ends_past}
use Rattle.layout_rules.specs.Blocks.{Member, members_of, block_of, kind_at, BreaksAt}
use Rattle.buffer_layout.specs.declared.plan.Layout.{Layout}
use Rattle.buffer_layout.specs.declared.plan.BlockPlan.{BlockPlan}

abbrev pub type_layout : Layout → TypeLayout
type_layout l = record { size = l.size; align = l.align; stride = l.stride; offsets = l.offsets.items }

-- the layouts of these members
abbrev pub layouts_of : Kind → List Member → List TypeLayout
layouts_of kind ms = map (λ (m : Member). layout_or_zeros kind m.shape) ms

-- the plan has the layouts of these members, and their Offsets
abbrev pub IsPlan : Kind → List Member → BlockPlan → Type 0
IsPlan kind ms plan =
    (plan.kind ≡ kind)
    × (map type_layout plan.members.items ≡ layouts_of kind ms)
    × (plan.offsets.items ≡ map (λ (m : Member). unwrap_or m.offset 0) ms)

-- some member has a shape with an end past the last byte
abbrev pub is_too_large : Kind → Member → Bool
is_too_large kind m = option_map_or (ends_past kind) m.shape false

abbrev pub AllFit : Kind → List Member → Type 0
AllFit kind ms = list_any (is_too_large kind) ms ≡ false

-- the plan of a variable with this block
abbrev pub IsPlanAt : List Inst → List Inst → Inst → Inst → BlockPlan → Type 0
IsPlanAt heads gs v block plan = (kind_at heads gs v block ≡ Some plan.kind) × IsPlan plan.kind (members_of heads gs block) plan

-- the plan of the block variable with this id
abbrev pub IsPlanOf : List Inst → List Inst → ℕ → BlockPlan → Type 0
IsPlanOf heads gs id plan = IsSomeAnd (global gs id) (λ v. IsSomeAnd (block_of gs v) (λ block. IsPlanAt heads gs v block plan))

-- the type of its block passes no limit
abbrev pub IsWithinLimits : List Inst → ℕ → Type 0
IsWithinLimits gs id = IsSomeAnd (global gs id) (λ v. IsSomeAnd (block_of gs v) (λ block. IsWithin gs block.result))

-- it breaks no rule on layout
abbrev pub IsUnbroken : List Inst → List Inst → ℕ → Type 0
IsUnbroken heads gs id = IsSomeAnd (global gs id) (λ v. (rule : Rule) → BreaksAt heads gs v rule → ⊥)
