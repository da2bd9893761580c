-- At which group of a switch a word enters it.
use Rattle.std.specs.Prelude.{◌≡◌, ◌⊎◌, ◌==◌, ℕ, nat_eq, Bool, true, false, List, [], ◌∷◌}
use Rattle.glsl_ast.specs.Tree as tree
use Rattle.glsl_ast.specs.declared.statements.Label.{Label}
use Rattle.control_text.specs.declared.place.Place.{Place}
use Rattle.control_text.specs.Statements.{Blocks, labels_text, groups_text, inside_switch, by_target, in_order}
use Rattle.structure_recover.specs.Tree.{Groups, none, group, targets}
use Rattle.region_law.specs.Leads.{In}

-- the word is one of these
abbrev pub has_word : ℕ → List ℕ → Bool
has_word x [] = false
has_word x (l ∷ ls) = elim (l == x) [ true ↦ true | false ↦ has_word x ls ]

-- of each group, by its target, whether its labels have the word, and whether it is the default
abbrev pub CasesAre : ℕ → (ℕ → Bool) → Groups → Type 0
CasesAre x is none = Unit {0}
CasesAre x is (group t labels default r gs) = (has_word x labels ≡ is t) × CasesAre x is gs

abbrev pub DefaultIs : (ℕ → Bool) → Groups → Type 0
DefaultIs is none = Unit {0}
DefaultIs is (group t labels default r gs) = (default ≡ is t) × DefaultIs is gs

-- The group of this target has the word, and no other has; or none has it, and this one is the default and no other.
pub record IsPicked (x t : ℕ) (gs : Groups) : Type 0 where
  pub there : In t (targets gs)
  pub by : CasesAre x (nat_eq t) gs ⊎ (CasesAre x (λ u. false) gs × DefaultIs (nat_eq t) gs)

module _ (w : Blocks) (h : ℕ) where
  -- these labels pass for the target's group, and for no other
  abbrev pub Picks : ℕ → (List Label → Bool) → Groups → Type 0
  Picks t q none = Unit {0}
  Picks t q (group u labels default r gs) = (q (labels_text w h labels default) ≡ nat_eq t u) × Picks t q gs

  -- the groups in the order in which they are written
  abbrev pub arms : Place → Groups → tree.Arms
  arms pl gs = tree.arms_in (in_order (w.order h) (by_target (groups_text w (inside_switch pl) h gs)))
