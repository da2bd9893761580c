-- The trees for which regions stand.
use Rattle.std.specs.Prelude.{ℕ, Bool, List, [], ◌∷◌, Some, None}
use Rattle.structure_recover.specs.Tree as tree
use Rattle.structure_recover.specs.declared.region.Region.{Region, fold-Region}
use Rattle.structure_recover.specs.declared.region.Item.{Item, fold-Item}
use Rattle.structure_recover.specs.declared.region.Group.{Group, fold-Group}
use Rattle.structure_recover.specs.declared.region.Item.TheOpen.{Item-F, Group-F, Region-F}

-- the target, the labels, whether it is the default, and the body
abbrev pub GroupView : Type 0
GroupView = ℕ × List ℕ × Bool × tree.Region

abbrev pub groups_of : List GroupView → tree.Groups
groups_of [] = tree.none
groups_of (g ∷ gs) = tree.group g.0 g.1 g.2 g.3 (groups_of gs)

abbrev pub item_step : Item-F tree.Item GroupView tree.Region → tree.Item
item_step (Item-F.Plain b) = tree.plain b
item_step (Item-F.If h x y) = tree.choose h x.value y.value
item_step (Item-F.Loose h x y) = tree.loose h x.value y.value
item_step (Item-F.Loop h None x) = tree.loop h x.value
item_step (Item-F.Loop h (Some z) x) = tree.loop_on h z.value x.value
item_step (Item-F.Switch h gs) = tree.switch h (groups_of gs.items)

abbrev pub group_step : Group-F tree.Item GroupView tree.Region → GroupView
group_step g = (g.target, g.labels.items, g.default, g.body)

abbrev pub region_step : Region-F tree.Item GroupView tree.Region → tree.Region
region_step r = tree.before r.items.items (tree.ends r.exit)

abbrev pub region_of : Region → tree.Region
region_of = fold-Region tree.Item GroupView tree.Region item_step group_step region_step

abbrev pub group_of : Group → GroupView
group_of = fold-Group tree.Item GroupView tree.Region item_step group_step region_step

abbrev pub item_of : Item → tree.Item
item_of = fold-Item tree.Item GroupView tree.Region item_step group_step region_step
