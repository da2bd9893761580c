-- When a tree of regions follows the edges of a function's control-flow graph (SPIR-V 1.6, section 2.11). The graph and its rules determine the tree.
use Rattle.std.specs.Prelude.{ℕ, ◌≡◌, ◌==◌, ◌&&◌, not, Bool, true, false, List, [], ◌∷◌, length, Option, Some, None, map, filter, drop, slice_get, if◌then◌else◌}
use Rattle.std.specs.Option.{option_and_then}
use Rattle.std.specs.List.{zip, range_with_len}
use Rattle.spv_ops.specs.Opcode.{is}
use Rattle.spv_ops.specs.declared.Op.TheVariants as code
use Rattle.spv_module.specs.declared.inst.Inst.{Inst}
use Rattle.spv_module.specs.declared.inst.Block.{Block as BlockOf}
use Rattle.spv_module.specs.declared.inst.Function.{Function}
use Rattle.structure_rules.specs.declared.graph.Merge.{Merge}
use Rattle.structure_rules.specs.declared.graph.Merge.TheVariants.{Loop as LoopMerge}
use Rattle.structure_rules.specs.declared.graph.Exit.{Exit as Terminator}
use Rattle.structure_rules.specs.declared.graph.Exit.TheVariants as terminator
use Rattle.structure_rules.specs.declared.graph.Node.{Node}
use Rattle.structure_rules.specs.Graph.{graph, nth, leads_to, merge_block, continue_target, is_conditional, is_switch, is_selection, is_value, terminator as terminator_of}
use Rattle.structure_rules.specs.EdgeKinds.{has_kind, is_enter}
use Rattle.structure_recover.specs.declared.region.Exit.{Exit}
use Rattle.structure_recover.specs.declared.region.Exit.TheVariants.{Edge, Return, Lost, Closed}
use Rattle.structure_recover.specs.declared.edges.Start.{Start}
use Rattle.structure_recover.specs.declared.edges.Start.TheVariants.{Block, Body}
use Rattle.structure_recover.specs.declared.edges.Next.{Next}
use Rattle.structure_recover.specs.declared.edges.Next.TheVariants.{At, Stop}
use Rattle.structure_recover.specs.Tree.{Region, ends, item, Item, plain, choose, loose, loop, loop_on, switch, Groups, none, group, head, is_loop, targets}

abbrev pub is_loop_merge : Merge → Bool
is_loop_merge (LoopMerge m c) = true
is_loop_merge _ = false

abbrev pub heads_loop : List Node → ℕ → Bool
heads_loop g b = is_loop_merge (nth g b).merge

-- OpBranch, or a terminator that leaves the function
abbrev pub is_plain : Terminator → Bool
is_plain terminator.Branch = true
is_plain terminator.Leave = true
is_plain _ = false

abbrev pub target : List Node → ℕ → ℕ → Option ℕ
target g b k = slice_get (nth g b).targets k

-- control goes on so by the edge from b to t: in t where the edge enters it, and else the edge is the end
abbrev pub Carries : List Node → ℕ → ℕ → Next → Type 0
Carries g b t (At (Block u)) = (u ≡ t) × (is_enter g b t ≡ true)
Carries g b t (At (Body h)) = ⊥
Carries g b t (Stop (Edge c u k)) = (c ≡ b) × (u ≡ t) × (has_kind g b t k ≡ true) × (is_enter g b t ≡ false)
Carries g b t (Stop (Return c)) = ⊥
Carries g b t (Stop (Lost c)) = ⊥
Carries g b t (Stop Closed) = ⊥

-- the same for a target that may be missing, which another rule forbids
abbrev pub CarriesTo : List Node → ℕ → Option ℕ → Next → Type 0
CarriesTo g b None n = n ≡ Stop Closed
CarriesTo g b (Some t) n = Carries g b t n

-- behind a construct control goes on in its merge block, where that is reached
abbrev pub if_reached : List Node → Option ℕ → Next
if_reached g None = Stop Closed
if_reached g (Some m) = if (nth g m).reached then At (Block m) else Stop Closed

abbrev pub merged : List Node → ℕ → Next
merged g h = if_reached g (merge_block g h)

-- the end of a region whose last block leaves the function
abbrev pub left_by : ℕ → Option Inst → Exit
left_by b None = Return b
left_by b (Some i) = if is i.op code.Unreachable then Lost b else Return b

abbrev pub last_inst : Option BlockOf → Option Inst
last_inst b = option_and_then terminator_of b

abbrev pub left : Function → ℕ → Exit
left f b = left_by b (last_inst (slice_get f.blocks b))

-- control goes on so behind the item that stands for a block
abbrev pub IsAfter : Function → List Node → ℕ → Terminator → Next → Type 0
IsAfter f g b terminator.Branch n = CarriesTo g b (target g b 0) n
IsAfter f g b terminator.Leave n = n ≡ Stop (left f b)
IsAfter f g b terminator.Switch n = n ≡ merged g b
IsAfter f g b terminator.Conditional n = n ≡ (if is_selection (nth g b).merge then merged g b else Stop Closed)

-- the same behind a block that heads a loop, or heads none
abbrev pub IsBehindBlock : Function → List Node → ℕ → Next → Bool → Type 0
IsBehindBlock f g b n true = n ≡ merged g b
IsBehindBlock f g b n false = IsAfter f g b (nth g b).exit n

-- control goes on so behind the item with which a region begins
abbrev pub IsBehind : Function → List Node → Start → Next → Type 0
IsBehind f g (Body h) n = IsAfter f g h (nth g h).exit n
IsBehind f g (Block b) n = IsBehindBlock f g b n (heads_loop g b)

-- the item stands for the block with which the region begins, or is the loop that this block heads; the first of a loop's body stands for its header
abbrev pub StandsAt : List Node → Item → Start → Type 0
StandsAt g i (Block b) = (head i ≡ b) × (is_loop i ≡ heads_loop g b)
StandsAt g i (Body h) = (head i ≡ h) × (is_loop i ≡ false)

-- the continue target of a loop, where it is reached and is another block than the header
abbrev pub other_block : List Node → ℕ → Option ℕ → Option ℕ
other_block g h None = None
other_block g h (Some c) = if (nth g c).reached && not (c == h) then Some c else None

abbrev pub continue_block : List Node → ℕ → Option ℕ
continue_block g h = other_block g h (continue_target g h)

-- the blocks to which an OpSwitch leads, in the order in which they stand in the function
abbrev pub switch_targets : List Node → ℕ → List ℕ
switch_targets g s = filter (λ t. leads_to t (nth g s)) (range_with_len 0 (length g))

-- the first of each two words: the literals of OpSwitch behind its selector and default
abbrev pub firsts : List ℕ → List ℕ
firsts [] = []
firsts (w ∷ []) = []
firsts (w ∷ label ∷ ws) = w ∷ firsts ws

abbrev pub literals_by : Option Inst → List ℕ
literals_by None = []
literals_by (Some i) = firsts (drop 2 i.args)

-- the literals of an OpSwitch, each with the block to which it leads; the first target is the default
abbrev pub cases : Function → List Node → ℕ → List (ℕ × ℕ)
cases f g s = zip (drop 1 (nth g s).targets) (literals_by (last_inst (slice_get f.blocks s)))

abbrev pub labels_to : List (ℕ × ℕ) → ℕ → List ℕ
labels_to cs t = map (λ (c : ℕ × ℕ). c.1) (filter (λ (c : ℕ × ℕ). c.0 == t) cs)

abbrev pub is_default : List Node → ℕ → ℕ → Bool
is_default g s t = is_value t (target g s 0)

module _ (f : Function) (g : List Node) where
  abbrev mutual
    -- the region goes on so
    pub Follows : Region → Next → Type 0
    Follows (ends e) n = n ≡ Stop e
    Follows (item i r) (Stop e) = ⊥
    Follows (item i r) (At s) = StandsAt g i s × FollowsItem i × ((n : Next) × IsBehind f g s n × Follows r n)

    pub FollowsItem : Item → Type 0
    FollowsItem (plain b) = is_plain (nth g b).exit ≡ true
    FollowsItem (choose h x y) = (is_conditional (nth g h).exit ≡ true) × (is_selection (nth g h).merge ≡ true)
        × ((n : Next) × CarriesTo g h (target g h 0) n × Follows x n) × ((n : Next) × CarriesTo g h (target g h 1) n × Follows y n)
    FollowsItem (loose h x y) = (is_conditional (nth g h).exit ≡ true) × (is_selection (nth g h).merge ≡ false)
        × ((n : Next) × CarriesTo g h (target g h 0) n × Follows x n) × ((n : Next) × CarriesTo g h (target g h 1) n × Follows y n)
    FollowsItem (loop h x) = (continue_block g h ≡ None) × Follows x (At (Body h))
    FollowsItem (loop_on h z x) = ((c : ℕ) × (continue_block g h ≡ Some c) × Follows z (At (Block c))) × Follows x (At (Body h))
    FollowsItem (switch h gs) = (is_switch (nth g h).exit ≡ true) × (targets gs ≡ switch_targets g h) × FollowsGroups gs h

    -- each group has the labels of its target, and goes on by the edge to it
    pub FollowsGroups : Groups → ℕ → Type 0
    FollowsGroups none h = Unit {0}
    FollowsGroups (group t labels default x gs) h = (labels ≡ labels_to (cases f g h) t) × (default ≡ is_default g h t) × ((n : Next) × Carries g h t n × Follows x n) × FollowsGroups gs h

-- the tree of a function begins with its first block
abbrev pub first : List Node → Next
first [] = Stop Closed
first (n ∷ g) = At (Block 0)

abbrev pub IsTree : Function → Region → Type 0
IsTree f r = Follows f (graph f) r (first (graph f))
