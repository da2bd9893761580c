-- Shapes whose structs have few members.
use Rattle.std.specs.Prelude.{ℕ, ◌+◌, ◌<◌, ◌^◌}
use Rattle.spv_types.specs.Tree.{Tree, boolean, int, uint, vector, array, runtime, struct, Trees, no_trees, tree}

-- how many they are
abbrev pub how_many : Trees → ℕ
how_many no_trees = 0
how_many (tree t ts) = 1 + how_many ts

-- each struct in it has fewer than 2 ^ 32 members
abbrev mutual
  pub HasFewMembers : Tree → Type 0
  HasFewMembers boolean = Unit {0}
  HasFewMembers int = Unit {0}
  HasFewMembers uint = Unit {0}
  HasFewMembers (vector e n) = Unit {0}
  HasFewMembers (array t n) = HasFewMembers t
  HasFewMembers (runtime t) = HasFewMembers t
  HasFewMembers (struct id ts) = (how_many ts < 2 ^ 32) × HaveFewMembers ts

  pub HaveFewMembers : Trees → Type 0
  HaveFewMembers no_trees = Unit {0}
  HaveFewMembers (tree t ts) = HasFewMembers t × HaveFewMembers ts
