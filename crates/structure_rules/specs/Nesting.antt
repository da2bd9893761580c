-- The parent of each block, the constructs round it, and its nesting (SPIR-V 1.6, section 2.11). Only the edges and the headers of reached blocks count.
use Rattle.std.specs.Prelude.{ℕ, zero, suc, ◌+◌, ◌==◌, ◌&&◌, ◌||◌, not, nat_lt, Bool, List, [], ◌∷◌, ◌++◌, length, Option, Some, None, is_none, find, map, filter, option_map, if◌then◌else◌}
use Rattle.std.specs.List.{list_any}
use Rattle.structure_rules.specs.declared.graph.Merge.{Merge}
use Rattle.structure_rules.specs.declared.graph.Merge.TheVariants.{Absent, Selection, Loop as LoopMerge}
use Rattle.structure_rules.specs.declared.graph.Node.{Node}
use Rattle.structure_rules.specs.declared.graph.Role.{Role}
use Rattle.structure_rules.specs.declared.graph.Role.TheVariants.{First, Merge as MergeOf, Continue, Case as CaseOf, Inside}
use Rattle.structure_rules.specs.declared.graph.Part.{Part}
use Rattle.structure_rules.specs.declared.graph.Part.TheVariants.{If, Loop, Cont, Case}
use Rattle.structure_rules.specs.Graph.{nth, edges, names, merge_block, is_conditional, is_switch, is_selection, is_value}

-- a relation between blocks
abbrev pub Links : Type 0
Links = List (ℕ × ℕ)

abbrev pub has_link : Links → ℕ → ℕ → Bool
has_link links a b = list_any (λ (l : ℕ × ℕ). (l.0 == a) && (l.1 == b)) links

-- the first that the relation gives a block
abbrev pub first_of : Links → ℕ → Option ℕ
first_of links a = option_map (λ (l : ℕ × ℕ). l.1) (find (λ (l : ℕ × ℕ). l.0 == a) links)

-- what is said of each node with its index, the first of them being i
abbrev pub each : {A : Type 0} → (ℕ → Node → List A) → ℕ → List Node → List A
each f i [] = []
each f i (n ∷ ns) = f i n ++ each f (suc i) ns

-- each of these blocks with block b
abbrev pub linked : List ℕ → ℕ → Links
linked ts b = map (λ t. (t, b)) ts

-- each block that a merge instruction names, with the header
unfoldable pub name_links : List Node → Links
name_links g = each (λ h n. linked (names n) h) 0 g

abbrev pub other_than : ℕ → Option ℕ → Option ℕ
other_than t None = None
other_than t (Some h) = if h == t then None else Some h

-- the header of a merge block or of a continue target; a continue target that is its own header is none
abbrev pub header_of : List Node → ℕ → Option ℕ
header_of g t = other_than t (first_of (name_links g) t)

-- a case target is a target of OpSwitch that is no merge block and no continue target
abbrev pub case_targets : List Node → Node → List ℕ
case_targets g n = if is_switch n.exit then filter (λ t. is_none (header_of g t)) (edges n) else []

-- each case target, with the block of its OpSwitch
unfoldable pub case_links : List Node → Links
case_links g = each (λ s n. linked (case_targets g n) s) 0 g

abbrev pub switch_of : List Node → ℕ → Option ℕ
switch_of g t = first_of (case_links g) t

-- each other block, with each predecessor that stands before it
abbrev pub later_targets : List Node → ℕ → Node → List ℕ
later_targets g p n = filter (λ t. nat_lt p t && (is_none (header_of g t) && is_none (switch_of g t))) (edges n)

unfoldable pub entry_links : List Node → Links
entry_links g = each (λ p n. linked (later_targets g p n) p) 0 g

-- p is a parent of t: its header, its switch, or else a predecessor that stands before it
abbrev pub is_parent : List Node → ℕ → ℕ → Bool
is_parent g t p = is_value p (header_of g t) || (has_link (case_links g) t p || has_link (entry_links g) t p)

-- how a header names a block
abbrev pub named_role : List Node → ℕ → ℕ → Role
named_role g t h = if is_value t (merge_block g h) then MergeOf h else Continue h

abbrev pub role_by : List Node → ℕ → Option ℕ → Option ℕ → Option ℕ → Role
role_by g t (Some h) s p = named_role g t h
role_by g t None (Some s) p = CaseOf s
role_by g t None None (Some p) = Inside p
role_by g t None None None = First

-- what a block is to its parent, the first where it has several
unfoldable pub role : List Node → ℕ → Role
role g t = role_by g t (header_of g t) (switch_of g t) (first_of (entry_links g) t)

abbrev pub parent_of : Role → Option ℕ
parent_of First = None
parent_of (MergeOf h) = Some h
parent_of (Continue h) = Some h
parent_of (CaseOf s) = Some s
parent_of (Inside p) = Some p

-- what is said of a block from what is said of its parents, as far as so many of them lead outward; behind the last of them it is `none`
unfoldable pub outward : {A : Type 0} → (ℕ → Role → (ℕ → A) → A) → A → List Node → ℕ → ℕ → A
outward step none g zero b = none
outward step none g (suc n) b = step b (role g b) (outward step none g n)

-- the construct that a block opens for the blocks inside it
abbrev pub opened : Bool → Merge → ℕ → List Part
opened conditional Absent b = []
opened conditional (Selection m) b = if conditional then If b ∷ [] else []
opened conditional (LoopMerge m c) b = Loop b ∷ []

abbrev pub own_part : List Node → ℕ → List Part
own_part g b = opened (is_conditional (nth g b).exit) (nth g b).merge b

-- the constructs round a block, from inside out
abbrev pub place_step : List Node → ℕ → Role → (ℕ → List Part) → List Part
place_step g b First up = []
place_step g b (MergeOf h) up = up h
place_step g b (Continue h) up = Cont h ∷ up h
place_step g b (CaseOf s) up = Case s b ∷ up s
place_step g b (Inside p) up = own_part g p ++ up p

-- a parent stands before its block, so a block has at most as many as its index
abbrev pub place : List Node → ℕ → List Part
place g b = outward (place_step g) [] g (suc b) b

-- the constructs round the blocks inside a block; a switch stands round these too, and is told by the block itself
abbrev pub inner : List Node → ℕ → List Part
inner g b = own_part g b ++ place g b

-- an OpBranchConditional without OpSelectionMerge
abbrev pub is_loose : Node → Bool
is_loose n = is_conditional n.exit && not (is_selection n.merge)

-- how much deeper the blocks inside a block are nested than the block itself
abbrev pub deeper : List Node → ℕ → ℕ
deeper g p = length (own_part g p) + (if is_loose (nth g p) then 1 else 0)

abbrev pub nesting_step : List Node → ℕ → Role → (ℕ → ℕ) → ℕ
nesting_step g b First up = 0
nesting_step g b (MergeOf h) up = up h
nesting_step g b (Continue h) up = 1 + up h
nesting_step g b (CaseOf s) up = 1 + up s
nesting_step g b (Inside p) up = deeper g p + up p

abbrev pub nesting : List Node → ℕ → ℕ
nesting g b = outward (nesting_step g) 0 g (suc b) b
