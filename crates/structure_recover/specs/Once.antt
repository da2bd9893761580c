-- Each reached block stands in the tree once, within the constructs that stand round it.
use Rattle.std.specs.Prelude.{ℕ, suc, ◌≡◌, ◌==◌, List, [], ◌∷◌, ◌++◌, map, filter, if◌then◌else◌}
use Rattle.structure_rules.specs.declared.graph.Node.{Node}
use Rattle.structure_rules.specs.declared.graph.Role.{Role}
use Rattle.structure_rules.specs.declared.graph.Role.TheVariants.{First, Merge as MergeOf, Continue, Case as CaseOf, Inside}
use Rattle.structure_rules.specs.declared.graph.Part.{Part}
use Rattle.structure_rules.specs.declared.graph.Part.TheVariants.{If, Loop, Cont, Case}
use Rattle.structure_rules.specs.Graph.{nth}
use Rattle.structure_rules.specs.Nesting.{outward, own_part, is_loose}
use Rattle.structure_recover.specs.Follows.{heads_loop}
use Rattle.structure_recover.specs.Tree.{Region, ends, item, Item, plain, choose, loose, loop, loop_on, switch, Groups, none, group}

-- what stands round a block: a construct, or a branch of a conditional without a merge
pub data Around : Type 0 where
  within : Part → Around
  branch : (h : ℕ) → Around

-- what a block puts round the blocks inside it
abbrev pub own_around : List Node → ℕ → List Around
own_around g p = if is_loose (nth g p) then branch p ∷ map within (own_part g p) else map within (own_part g p)

-- as the constructs of its place, and with the conditionals without a merge
abbrev pub round_step : List Node → ℕ → Role → (ℕ → List Around) → List Around
round_step g b First up = []
round_step g b (MergeOf h) up = up h
round_step g b (Continue h) up = within (Cont h) ∷ up h
round_step g b (CaseOf s) up = within (Case s b) ∷ up s
round_step g b (Inside p) up = own_around g p ++ up p

-- from inside out
abbrev pub round : List Node → ℕ → List Around
round g b = outward (round_step g) [] g (suc b) b

-- the header of a loop stands in the loop itself
abbrev pub around : List Node → ℕ → List Around
around g b = if heads_loop g b then within (Loop b) ∷ round g b else round g b

-- the blocks that stand in a tree, each with what stands round it there; ps stands round the tree
abbrev mutual
  pub stands : List Around → Region → List (ℕ × List Around)
  stands ps (ends e) = []
  stands ps (item i r) = item_stands ps i ++ stands ps r

  pub item_stands : List Around → Item → List (ℕ × List Around)
  item_stands ps (plain b) = (b, ps) ∷ []
  item_stands ps (choose h x y) = (h, ps) ∷ stands (within (If h) ∷ ps) x ++ stands (within (If h) ∷ ps) y
  item_stands ps (loose h x y) = (h, ps) ∷ stands (branch h ∷ ps) x ++ stands (branch h ∷ ps) y
  item_stands ps (loop h x) = stands (within (Loop h) ∷ ps) x
  item_stands ps (loop_on h z x) = stands (within (Cont h) ∷ ps) z ++ stands (within (Loop h) ∷ ps) x
  item_stands ps (switch h gs) = (h, ps) ∷ group_stands ps h gs

  pub group_stands : List Around → ℕ → Groups → List (ℕ × List Around)
  group_stands ps h none = []
  group_stands ps h (group t labels default x gs) = stands (within (Case h t) ∷ ps) x ++ group_stands ps h gs

-- where the block stands in the tree
abbrev pub standing : Region → ℕ → List (ℕ × List Around)
standing r b = filter (λ (s : ℕ × List Around). s.0 == b) (stands [] r)

-- each reached block stands in the tree once, and there within what is round it; no other block does
abbrev pub StandsOnce : List Node → Region → Type 0
StandsOnce g r = (b : ℕ) → standing r b ≡ (if (nth g b).reached then (b, around g b) ∷ [] else [])
