-- Checks that look at each node in turn.
use Rattle.std.proofs.Common.{◌≡◌, ◌<◌, ◌≤◌, ◌+◌, ◌⊎◌, ℕ, true, false, List, length, get_or, ap, sym, ◌∙◌, subst, inl, inr, arith, below_more}
use Rattle.std.specs.List.{list_all}
use Rattle.std.proofs.lemmas.List.{get_or_default}
use Rattle.std.proofs.lemmas.List.Folds.{list_all_more, list_all_at}
use Rattle.spv_words.specs.declared.rule.Rule.TheVariants.{K1, K2, K6, K7, K8}
use Rattle.structure_rules.specs.declared.graph.Node.{Node}
use Rattle.structure_rules.specs.Graph.{nth, no_node, named, leads_to}
use Rattle.structure_rules.specs.Structure.{SomeReached, is_bad_merge, is_bad_switch, has_first, has_same_targets, enters_both}
use Rattle.structure_rules.specs.EdgeKinds.{has_some_kind}
use Rattle.block_graph.specs.Within.{AreWithin}
use Rattle.nest_place.specs.Nests.{AllInside}
use Rattle.nest_place.specs.Checks.{IsUnbroken}

-- the node that is read is the one that stands there
pub nth_read : (g : List Node) (i : ℕ) (n : Node) → i < length g → n ≡ get_or g i n → n ≡ nth g i
nth_read g i n inside is = is ∙ get_or_default g i n no_node inside

-- an edge of the node that is read
pub edge_read : (nodes g : List Node) (b t : ℕ) (n : Node) → nodes ≡ g → b < length g → n ≡ get_or nodes b n → leads_to t n ≡ leads_to t (nth g b)
edge_read nodes g b t n same inside read = ap (leads_to t) (nth_read g b n inside (read ∙ ap (λ ns. get_or ns b n) same))

-- no reached node among the first i fails
abbrev pub NoneBelow : List Node → ℕ → (ℕ → Node → Type 0) → Type 0
NoneBelow g i P = (k : ℕ) → k < i → (nth g k).reached ≡ true → P k (nth g k) → ⊥

pub none_start : (g : List Node) (P : ℕ → Node → Type 0) → NoneBelow g 0 P
none_start g P k below = absurd (omega (arith, below))

pub none_more : (g : List Node) (i : ℕ) (P : ℕ → Node → Type 0) → NoneBelow g i P → ((nth g i).reached ≡ true → P i (nth g i) → ⊥) → NoneBelow g (i + 1) P
none_more g i P below here = below_more (λ k. (nth g k).reached ≡ true → P k (nth g k) → ⊥) i below here

pub none_at_all : (g : List Node) (i : ℕ) (P : ℕ → Node → Type 0) → length g ≤ i → NoneBelow g i P → SomeReached g P → ⊥
none_at_all g i P all none some = let inside : some.0 < length g = some.1 in none some.0 (omega (arith, all, inside)) some.2 some.3

abbrev pub BadMerge : ℕ → Node → Type 0
BadMerge b n = (is_bad_merge n.merge n.exit ≡ true) ⊎ (is_bad_switch n ≡ true)

abbrev pub NamesFirst : ℕ → Node → Type 0
NamesFirst b n = (has_first n.targets ≡ true) ⊎ (has_first (named n.merge) ≡ true)

abbrev pub SameTargets : ℕ → Node → Type 0
SameTargets b n = has_same_targets n ≡ true

pub merges_fine : (g : List Node) (i : ℕ) → length g ≤ i → NoneBelow g i BadMerge → IsUnbroken g K1
merges_fine g i all none at broken = none_at_all g i BadMerge all none (broken.0, broken.1, broken.2, (elim broken.3 [ inl h ↦ inl h.0 | inr h ↦ inr h.0 ]))

pub first_fine : (g : List Node) (i : ℕ) → length g ≤ i → NoneBelow g i NamesFirst → IsUnbroken g K2
first_fine g i all none at broken = none_at_all g i NamesFirst all none (broken.0, broken.1, broken.2, (elim broken.3 [ inl h ↦ inl h.0 | inr h ↦ inr h.0 ]))

pub targets_fine : (g : List Node) (i : ℕ) → length g ≤ i → NoneBelow g i SameTargets → IsUnbroken g K6
targets_fine g i all none at broken = none_at_all g i SameTargets all none (broken.0, broken.1, broken.2, broken.3.0)

abbrev pub LacksKind : List Node → ℕ → Node → Type 0
LacksKind g b n = list_all (has_some_kind g b) n.targets ≡ false

abbrev pub EntersBoth : List Node → ℕ → Node → Type 0
EntersBoth g b n = enters_both g b n ≡ true

pub kinds_fine : (g : List Node) (i : ℕ) → length g ≤ i → NoneBelow g i (LacksKind g) → IsUnbroken g K7
kinds_fine g i all none at broken = none_at_all g i (LacksKind g) all none (broken.0, broken.1, broken.2, broken.3.0)

pub loose_fine : (g : List Node) (i : ℕ) → length g ≤ i → NoneBelow g i (EntersBoth g) → IsUnbroken g K8
loose_fine g i all none at broken = none_at_all g i (EntersBoth g) all none (broken.0, broken.1, broken.2, broken.3.0)

-- the targets of the node that is read
pub targets_inside : (g : List Node) (b : ℕ) (n : Node) → AreWithin g → b < length g → n ≡ get_or g b n → AllInside (length g) n.targets
targets_inside g b n within inside is = subst (λ (m : Node). AllInside (length g) m.targets) (sym (nth_read g b n inside is)) (λ k h. (within b inside).leads k h)

pub ruleset all_rules = (list_all_more, list_all_at)

pub ruleset kind_rules = (none_start, kinds_fine, targets_inside)

pub ruleset loose_rules = (none_start, loose_fine, targets_inside)

pub ruleset merge_rules = (none_start, merges_fine)

pub ruleset first_rules = (none_start, first_fine)

pub ruleset target_rules = (none_start, targets_fine)
