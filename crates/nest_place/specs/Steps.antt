-- What the steps towards the places of a graph's blocks keep.
use Rattle.std.specs.Prelude.{ℕ, ◌≡◌, ◌≢◌, ◌<◌, ◌||◌, Bool, true, List, length, Option, slice_index_or}
use Rattle.spv_words.specs.declared.rule.Rule.TheVariants.{K2}
use Rattle.structure_rules.specs.declared.graph.Role.{Role}
use Rattle.structure_rules.specs.declared.graph.Role.TheVariants.{First}
use Rattle.structure_rules.specs.declared.graph.Node.{Node}
use Rattle.structure_rules.specs.Graph.{nth, is_value, merge_named}
use Rattle.structure_rules.specs.Nesting.{Links, has_link, name_links, case_links, is_parent, role}
use Rattle.structure_rules.specs.Structure.{names_twice}
use Rattle.block_graph.specs.Within.{AreWithin, AreReached}
use Rattle.nest_place.specs.Checks.{IsUnbroken}
use Rattle.nest_place.specs.Links.{IsTable, IsSingle}

-- a merge instruction of h names h as its merge block, or one block twice
abbrev pub names_itself : ℕ → Node → Bool
names_itself h n = is_value h (merge_named n.merge) || names_twice n.merge

abbrev pub NoneNamesItself : List Node → Type 0
NoneNamesItself g = (h : ℕ) → h < length g → (nth g h).reached ≡ true → names_itself h (nth g h) ≡ true → ⊥

-- the headers that name each block, each block one at most
pub record AreNamers (g : List Node) (namers : List (Option ℕ)) : Type 0 where
  pub table : IsTable (name_links g) namers
  pub single : IsSingle (name_links g)

-- the switches of the case targets
abbrev pub AreSwitches : List Node → List (Option ℕ) → Type 0
AreSwitches g switches = IsTable (case_links g) switches

-- the graph is that of a function, no edge leads back to its first block, and no block has two headers
pub record IsFormed (g : List Node) : Type 0 where
  pub within : AreWithin g
  pub reached : AreReached g
  pub first : IsUnbroken g K2
  pub single : IsSingle (name_links g)

-- a reached block behind the first, with a parent
pub record IsParentLink (g : List Node) (t p : ℕ) : Type 0 where
  pub inside : t < length g
  pub reached : (nth g t).reached ≡ true
  pub later : t ≢ 0
  pub parent : is_parent g t p ≡ true

abbrev pub AreParentLinks : List Node → Links → Type 0
AreParentLinks g links = (t p : ℕ) → has_link links t p ≡ true → IsParentLink g t p

-- what each block is to its parent
pub record AreRoles (g : List Node) (roles : List Role) : Type 0 where
  pub sized : length roles ≡ length g
  pub same : (t : ℕ) → t < length g → slice_index_or roles t First ≡ role g t

-- each reached block behind the first has a parent
abbrev pub NoneIsOrphan : List Node → Type 0
NoneIsOrphan g = (t : ℕ) → t < length g → (nth g t).reached ≡ true → t ≢ 0 → role g t ≡ First → ⊥
