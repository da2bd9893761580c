-- How much of a region is still to be gone through.
use Rattle.std.specs.Prelude.{ℕ, ◌+◌}
use Rattle.structure_recover.specs.Tree.{Region, ends, item, Item, plain, choose, loose, loop, loop_on, switch, Groups, none, group}

abbrev mutual
  pub region_size : Region → ℕ
  region_size (ends e) = 1
  region_size (item i r) = item_size i + region_size r

  pub item_size : Item → ℕ
  item_size (plain b) = 1
  item_size (choose h x y) = region_size x + region_size y + 4
  item_size (loose h x y) = region_size x + region_size y + 4
  item_size (loop h x) = region_size x + 4
  item_size (loop_on h z x) = region_size z + region_size x + 4
  item_size (switch h gs) = groups_size gs + 4

  pub groups_size : Groups → ℕ
  groups_size none = 1
  groups_size (group t labels default x gs) = region_size x + groups_size gs + 3
