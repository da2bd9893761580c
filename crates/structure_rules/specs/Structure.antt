-- Which rules of structured control flow a function breaks, and the limit on its nesting (SPIR-V 1.6, section 2.11).
use Rattle.std.specs.Prelude.{ℕ, zero, suc, ◌⊎◌, ◌≡◌, ◌≢◌, ◌<◌, ◌≤◌, ◌==◌, ◌&&◌, ◌||◌, not, Bool, true, false, List, [], ◌∷◌, length, Option, Some, None, option_map, if◌then◌else◌}
use Rattle.std.specs.Option.{option_and_then}
use Rattle.std.specs.List.{list_any, list_all, filter_map}
use Rattle.spv_words.specs.declared.rule.Rule.{Rule}
use Rattle.spv_words.specs.declared.rule.Rule.TheVariants.{K1, K2, K3, K4, K5, K6, K7, K8, K9, K10, K11}
use Rattle.spv_words.specs.declared.rule.Fault.{Fault}
use Rattle.spv_words.specs.declared.rule.Fault.TheVariants.{Refused, Limit as Exceeded, Memory}
use Rattle.spv_words.specs.declared.rule.Limit.TheVariants.{Depth}
use Rattle.spv_words.specs.Limit.{limit_number}
use Rattle.spv_words.specs.Breaks.{NoRuleBroken}
use Rattle.spv_module.specs.declared.inst.Function.{Function}
use Rattle.structure_rules.specs.declared.graph.Merge.{Merge}
use Rattle.structure_rules.specs.declared.graph.Merge.TheVariants.{Selection, Loop}
use Rattle.structure_rules.specs.declared.graph.Exit.{Exit}
use Rattle.structure_rules.specs.declared.graph.Exit.TheVariants.{Branch, Switch, Leave}
use Rattle.structure_rules.specs.declared.graph.EdgeKind.TheVariants.{Enter}
use Rattle.structure_rules.specs.declared.graph.Node.{Node}
use Rattle.structure_rules.specs.Graph.{graph, nth, edges, named, merge_named, is_switch, is_selection, is_conditional, is_value}
use Rattle.structure_rules.specs.Nesting.{Links, has_link, first_of, each, name_links, role, parent_of, is_parent, nesting, is_loose}
use Rattle.structure_rules.specs.EdgeKinds.{case_target, innermost, is_fall, has_kind, has_some_kind}

-- some reached block is so
abbrev pub SomeReached : List Node → (ℕ → Node → Type 0) → Type 0
SomeReached g P = (b : ℕ) × (b < length g) × ((nth g b).reached ≡ true) × P b (nth g b)

-- OpSelectionMerge before something else than OpBranchConditional or OpSwitch, or OpLoopMerge before something else than OpBranch or OpBranchConditional
abbrev pub is_bad_merge : Merge → Exit → Bool
is_bad_merge (Selection m) Branch = true
is_bad_merge (Selection m) Leave = true
is_bad_merge (Loop m c) Switch = true
is_bad_merge (Loop m c) Leave = true
is_bad_merge _ _ = false

-- OpSwitch without OpSelectionMerge
abbrev pub is_bad_switch : Node → Bool
is_bad_switch n = is_switch n.exit && not (is_selection n.merge)

-- the first block is among these
abbrev pub has_first : List ℕ → Bool
has_first ts = list_any (λ t. t == 0) ts

-- a merge instruction names one block twice
abbrev pub names_twice : Merge → Bool
names_twice (Loop m c) = m == c
names_twice _ = false

-- another header than h names the block
abbrev pub is_shared : List Node → ℕ → ℕ → Bool
is_shared g h t = list_any (λ (l : ℕ × ℕ). (l.0 == t) && not (l.1 == h)) (name_links g)

-- the merge instruction of h names h as its merge block, one block twice, or a block that another names
abbrev pub names_badly : List Node → ℕ → Node → Bool
names_badly g h n = is_value h (merge_named n.merge) || (names_twice n.merge || list_any (is_shared g h) (named n.merge))

-- p is the block's one parent
abbrev pub IsOnlyParent : List Node → ℕ → ℕ → Type 0
IsOnlyParent g t p = (is_parent g t p ≡ true) × ((q : ℕ) → is_parent g t q ≡ true → q ≡ p)

abbrev pub parent : List Node → ℕ → Option ℕ
parent g t = parent_of (role g t)

-- the first two of these targets are the same
abbrev pub is_pair_of_same : List ℕ → Bool
is_pair_of_same (a ∷ b ∷ ts) = a == b
is_pair_of_same _ = false

-- an OpBranchConditional has the same target twice
abbrev pub has_same_targets : Node → Bool
has_same_targets n = is_conditional n.exit && is_pair_of_same n.targets

-- an OpBranchConditional without OpSelectionMerge enters a block by each of its edges
abbrev pub enters_both : List Node → ℕ → Node → Bool
enters_both g b n = is_loose n && list_all (λ t. has_kind g b t Enter) n.targets

-- the case target in whose construct b stands, where the edge to t is a fall
abbrev pub falls_from : List Node → ℕ → ℕ → Option ℕ
falls_from g b t = if is_fall g b t then option_and_then case_target (innermost g b) else None

-- each case target with the one into which a block of its construct falls
abbrev pub fall_link : List Node → ℕ → ℕ → Option (ℕ × ℕ)
fall_link g b t = option_map (λ u. (u, t)) (falls_from g b t)

unfoldable pub fall_links : List Node → Links
fall_links g = each (λ b n. filter_map (fall_link g b) (edges n)) 0 g

-- the case target that so many falls lead to from this one
unfoldable pub after_falls : Links → ℕ → ℕ → Option ℕ
after_falls links zero u = Some u
after_falls links (suc n) u = option_and_then (after_falls links n) (first_of links u)

-- falls lead from the case target to itself; there are at most as many on the way as there are blocks
abbrev pub IsOnCycle : List Node → ℕ → Type 0
IsOnCycle g u = (n : ℕ) × (n < length g) × (after_falls (fall_links g) (suc n) u ≡ Some u)

-- the rule is broken at this word
abbrev pub BrokenIn : List Node → Rule → ℕ → Type 0
BrokenIn g K1 at = SomeReached g (λ b n. ((is_bad_merge n.merge n.exit ≡ true) × (at ≡ n.merge_at)) ⊎ ((is_bad_switch n ≡ true) × (at ≡ n.exit_at)))
BrokenIn g K2 at = SomeReached g (λ b n. ((has_first n.targets ≡ true) × (at ≡ n.exit_at)) ⊎ ((has_first (named n.merge) ≡ true) × (at ≡ n.merge_at)))
BrokenIn g K3 at = SomeReached g (λ h n. (names_badly g h n ≡ true) × (at ≡ n.merge_at))
BrokenIn g K4 at = SomeReached g (λ t n. (t ≢ 0) × ((p : ℕ) → IsOnlyParent g t p → ⊥) × (at ≡ n.at))
BrokenIn g K5 at = SomeReached g (λ t n. ((p : ℕ) × (parent g t ≡ Some p) × (t ≤ p)) × (at ≡ n.at))
BrokenIn g K6 at = SomeReached g (λ b n. (has_same_targets n ≡ true) × (at ≡ n.exit_at))
BrokenIn g K7 at = SomeReached g (λ b n. (list_all (has_some_kind g b) n.targets ≡ false) × (at ≡ n.exit_at))
BrokenIn g K8 at = SomeReached g (λ b n. (enters_both g b n ≡ true) × (at ≡ n.exit_at))
BrokenIn g K9 at = (u t v : ℕ) × (has_link (fall_links g) u t ≡ true) × (has_link (fall_links g) u v ≡ true) × (t ≢ v) × (at ≡ (nth g u).at)
BrokenIn g K10 at = (t u v : ℕ) × (has_link (fall_links g) u t ≡ true) × (has_link (fall_links g) v t ≡ true) × (u ≢ v) × (at ≡ (nth g t).at)
BrokenIn g K11 at = SomeReached g (λ b n. ((t u : ℕ) × (list_any (λ x. x == t) n.targets ≡ true) × (falls_from g b t ≡ Some u) × IsOnCycle g u) × (at ≡ n.exit_at))
BrokenIn g _ at = ⊥

-- the rules with a smaller number
abbrev pub earlier_structure : Rule → List Rule
earlier_structure K2 = K1 ∷ []
earlier_structure K3 = K1 ∷ K2 ∷ []
earlier_structure K4 = K1 ∷ K2 ∷ K3 ∷ []
earlier_structure K5 = K1 ∷ K2 ∷ K3 ∷ K4 ∷ []
earlier_structure K6 = K1 ∷ K2 ∷ K3 ∷ K4 ∷ K5 ∷ []
earlier_structure K7 = K1 ∷ K2 ∷ K3 ∷ K4 ∷ K5 ∷ K6 ∷ []
earlier_structure K8 = K1 ∷ K2 ∷ K3 ∷ K4 ∷ K5 ∷ K6 ∷ K7 ∷ []
earlier_structure K9 = K1 ∷ K2 ∷ K3 ∷ K4 ∷ K5 ∷ K6 ∷ K7 ∷ K8 ∷ []
earlier_structure K10 = K1 ∷ K2 ∷ K3 ∷ K4 ∷ K5 ∷ K6 ∷ K7 ∷ K8 ∷ K9 ∷ []
earlier_structure K11 = K1 ∷ K2 ∷ K3 ∷ K4 ∷ K5 ∷ K6 ∷ K7 ∷ K8 ∷ K9 ∷ K10 ∷ []
earlier_structure _ = []

-- the rules that give each block its place
abbrev pub place_rules : List Rule
place_rules = K1 ∷ K2 ∷ K3 ∷ K4 ∷ K5 ∷ []

abbrev pub structure_rules : List Rule
structure_rules = K1 ∷ K2 ∷ K3 ∷ K4 ∷ K5 ∷ K6 ∷ K7 ∷ K8 ∷ K9 ∷ K10 ∷ K11 ∷ []

-- the rule is broken there, and considered, since none with a smaller number is broken in the function
abbrev pub BreaksIn : List Node → Rule → ℕ → Type 0
BreaksIn g rule at = NoRuleBroken (BrokenIn g) (earlier_structure rule) × BrokenIn g rule at

-- a reached block is nested too deep
abbrev pub IsTooDeep : List Node → Type 0
IsTooDeep g = SomeReached g (λ b n. limit_number Depth < nesting g b)

-- the fault has its cause
abbrev pub IsRightIn : List Node → Fault → Type 0
IsRightIn g (Refused r) = BreaksIn g r.rule r.at
IsRightIn g (Exceeded l) = (l ≡ Depth) × NoRuleBroken (BrokenIn g) place_rules × IsTooDeep g
IsRightIn g Memory = Unit {0}

-- the same, said of a function
abbrev pub BrokenStructure : Function → Rule → ℕ → Type 0
BrokenStructure f rule at = BrokenIn (graph f) rule at

abbrev pub IsRightStructure : Function → Fault → Type 0
IsRightStructure f fault = IsRightIn (graph f) fault
