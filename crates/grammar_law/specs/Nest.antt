-- How many constructs stand in one another in a tree of regions.
use Rattle.std.specs.Prelude.{ℕ, ◌+◌, max}
use Rattle.structure_recover.specs.Tree.{Region, ends, item, Item, plain, choose, loose, loop, loop_on, switch, Groups, none, group}

abbrev mutual
  pub nest : Region → ℕ
  nest (ends e) = 0
  nest (item i r) = max (item_nest i) (nest r)

  pub item_nest : Item → ℕ
  item_nest (plain b) = 0
  item_nest (choose h x y) = 1 + max (nest x) (nest y)
  item_nest (loose h x y) = 1 + max (nest x) (nest y)
  item_nest (loop h x) = 1 + nest x
  item_nest (loop_on h z x) = 1 + max (nest z) (nest x)
  item_nest (switch h gs) = 1 + groups_nest gs

  pub groups_nest : Groups → ℕ
  groups_nest none = 0
  groups_nest (group t labels default x gs) = max (nest x) (groups_nest gs)
