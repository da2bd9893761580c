-- What is written of a function's blocks and edges is made of these names, and its switches have groups with labels.
use Rattle.std.specs.Prelude.{◌≡◌, ◌≤◌, ◌⊎◌, ℕ, Bool, true, List, [], ◌∷◌, length, Some}
use Rattle.structure_recover.specs.declared.region.Exit.{Exit}
use Rattle.structure_recover.specs.declared.region.Exit.TheVariants.{Edge, Return, Lost, Closed}
use Rattle.structure_recover.specs.Tree.{Region, ends, item, Item, plain, choose, loose, loop, loop_on, switch, Groups, none, group}
use Rattle.glsl_ast.specs.Tree.{Text, Expr}
use Rattle.glsl_grammar.specs.Spelled.{FitsWord, IsSpelledLiteral}
use Rattle.control_text.specs.Statements.{Blocks}
use Rattle.claim_law.specs.Uses.{Words, UsesExpr}
use Rattle.claim_law.specs.Statements.{EachStmt}

-- of the blocks that stand in a tree, of which some choose by a condition or a selector, and of the edges that lead from one to another; of other blocks and edges nothing is written
pub record AreMade (W : Words) (w : Blocks) (IsHere : ℕ → Type 0) (Chooses : ℕ → Type 0) (Leads : ℕ → ℕ → Type 0) : Type 0 where
  pub statements : (b : ℕ) → IsHere b → EachStmt W (w.statements b)
  pub condition : (b : ℕ) → IsHere b → Chooses b → UsesExpr W (w.condition b)
  pub case : (b l : ℕ) → FitsWord l → IsSpelledLiteral (w.case b l)
  pub value : (b : ℕ) (e : Expr) → IsHere b → w.value b ≡ Some e → UsesExpr W e
  pub copies : (b t : ℕ) → IsHere b → Leads b t → EachStmt W (w.copies b t)
  pub again : (b : ℕ) (x : Text) → w.again b ≡ Some x → W.value x
  pub leave : (b : ℕ) (x : Text) → w.leave b ≡ Some x → W.value x
  pub fell : (b : ℕ) (x : Text) → w.fell b ≡ Some x → W.value x

-- the block is the target of a group
abbrev pub IsTarget : ℕ → Groups → Type 0
IsTarget t none = ⊥
IsTarget t (group u labels default x gs) = (u ≡ t) ⊎ IsTarget t gs

-- a word leads to the group, or it is the default
abbrev pub HasLabel : List ℕ → Bool → Type 0
HasLabel labels default = (1 ≤ length labels) ⊎ (default ≡ true)

abbrev pub FitWords : List ℕ → Type 0
FitWords [] = Unit {0}
FitWords (l ∷ ls) = FitsWord l × FitWords ls

-- the blocks of a tree stand here, and choose where it has two ways or a switch; edges lead from one to the next; the first in the order of each switch is one of its groups, and each of these has a label, and words for labels
module _ (w : Blocks) (IsHere : ℕ → Type 0) (Chooses : ℕ → Type 0) (Leads : ℕ → ℕ → Type 0) where
  abbrev pub IsHereAt : Exit → Type 0
  IsHereAt (Edge b t kind) = IsHere b × Leads b t
  IsHereAt (Return b) = IsHere b
  IsHereAt (Lost b) = Unit {0}
  IsHereAt Closed = Unit {0}

  -- an edge leads from the block to this one, where a region begins with a block
  abbrev pub IsEntered : ℕ → ℕ → Region → Type 0
  IsEntered b t (ends e) = Unit {0}
  IsEntered b t (item i r) = Leads b t

  -- the region stands behind the item
  abbrev pub GoesOn : Item → Region → Type 0
  GoesOn (plain b) r = IsEntered b (w.target b 0) r
  GoesOn (choose h x y) r = Unit {0}
  GoesOn (loose h x y) r = Unit {0}
  GoesOn (loop h x) r = Unit {0}
  GoesOn (loop_on h z x) r = Unit {0}
  GoesOn (switch h gs) r = Unit {0}

  abbrev mutual
    pub IsWhole : Region → Type 0
    IsWhole (ends e) = IsHereAt e
    IsWhole (item i r) = IsWholeItem i × GoesOn i r × IsWhole r

    pub IsWholeItem : Item → Type 0
    IsWholeItem (plain b) = IsHere b
    IsWholeItem (choose h x y) = (IsHere h × Chooses h) × (IsEntered h (w.target h 0) x × IsEntered h (w.target h 1) y) × IsWhole x × IsWhole y
    IsWholeItem (loose h x y) = (IsHere h × Chooses h) × (IsEntered h (w.target h 0) x × IsEntered h (w.target h 1) y) × IsWhole x × IsWhole y
    IsWholeItem (loop h x) = IsWhole x
    IsWholeItem (loop_on h z x) = IsWhole z × IsWhole x
    IsWholeItem (switch h gs) = (IsHere h × Chooses h) × ((t : ℕ) × (ts : List ℕ) × (w.order h ≡ t ∷ ts) × IsTarget t gs) × AreWhole h gs

    pub AreWhole : ℕ → Groups → Type 0
    AreWhole h none = Unit {0}
    AreWhole h (group t labels default x gs) = (HasLabel labels default × FitWords labels) × IsEntered h t x × IsWhole x × AreWhole h gs
