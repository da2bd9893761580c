-- The targets of a switch, as the code has them.
use Rattle.std.specs.Prelude.{ℕ, ◌≡◌, ◌<◌, ◌++◌, true, List, [], ◌∷◌, length, map, slice_index_or, Option, Some, None}
use Rattle.spv_module.specs.declared.inst.Function.{Function}
use Rattle.structure_rules.specs.declared.graph.Node.{Node}
use Rattle.structure_rules.specs.Graph.{nth, leads_to, is_value}
use Rattle.structure_recover.specs.declared.arms.Arm.{Arm}
use Rattle.structure_recover.specs.Follows.{switch_targets, cases, labels_to, is_default}

pub record IsArm (f : Function) (g : List Node) (s : ℕ) (a : Arm) : Type 0 where
  pub leads : leads_to a.target (nth g s) ≡ true
  pub labels : a.labels.items ≡ labels_to (cases f g s) a.target
  pub default : a.default ≡ is_default g s a.target

pub record AreArms (f : Function) (g : List Node) (s : ℕ) (arms : List Arm) : Type 0 where
  pub targets : map (λ (a : Arm). a.target) arms ≡ switch_targets g s
  pub each : (k : ℕ) (d : Arm) → k < length arms → IsArm f g s (slice_index_or arms k d)

-- the blocks to which a switch leads, in the order in which they stand in the function
pub record AreTargets (g : List Node) (s : ℕ) (ts : List ℕ) : Type 0 where
  pub all : ts ≡ switch_targets g s
  pub leads : (k d : ℕ) → k < length ts → leads_to (slice_index_or ts k d) (nth g s) ≡ true

abbrev pub target_of : Arm → ℕ
target_of a = a.target

-- the literal of the first case, a word with the label behind it
abbrev pub first_literal : List ℕ → Option ℕ
first_literal [] = None
first_literal (w ∷ []) = None
first_literal (w ∷ label ∷ ws) = Some w

-- the arm has the literals with its target, and is marked where that is the default
pub record IsLabelled (default : Option ℕ) (cs : List (ℕ × ℕ)) (a : Arm) : Type 0 where
  pub labels : a.labels.items ≡ labels_to cs a.target
  pub mark : a.default ≡ is_value a.target default

pub record AreLabelled (default : Option ℕ) (cs : List (ℕ × ℕ)) (arms : List Arm) : Type 0 where
  pub each : (k : ℕ) (d : Arm) → k < length arms → IsLabelled default cs (slice_index_or arms k d)

-- these literals were added, each to the arm with its target
pub record Adds (more : List (ℕ × ℕ)) (old new : List Arm) : Type 0 where
  pub targets : map target_of new ≡ map target_of old
  pub labelled : (default : Option ℕ) (cs : List (ℕ × ℕ)) → AreLabelled default cs old → AreLabelled default (cs ++ more) new

-- some of the literals were added, and those are left
pub record AddsSoFar (all left : List (ℕ × ℕ)) (old new : List Arm) : Type 0 where
  pub done : List (ℕ × ℕ)
  pub whole : done ++ left ≡ all
  pub adds : Adds done old new
