-- What each kind of item stands for.
use Rattle.std.proofs.Common.{◌≡◌, ℕ, rules, Some, None, Box, Vec, Global, map}
use Rattle.structure_recover.specs.Tree as tree
use Rattle.structure_recover.specs.View.{groups_of, item_of, region_of, group_of}
use Rattle.structure_recover.specs.declared.region.Item.{the_lemmas}
use Rattle.structure_recover.specs.declared.region.Item.TheVariants.{Plain}
use Rattle.structure_recover.specs.declared.region.Item.TheViews.{If, Loose, Loop, Switch}
use Rattle.structure_recover.specs.declared.region.Region.{Region}
use Rattle.structure_recover.specs.declared.region.Group.{Group}

pub item_plain : (b : ℕ) → item_of (Plain b) ≡ tree.plain b
item_plain b = search (rules, the_lemmas)

pub item_if : (b : ℕ) (x y : Box Region Global) → item_of (If b x y) ≡ tree.choose b (region_of x.value) (region_of y.value)
item_if b x y = search (rules, the_lemmas)

pub item_loose : (b : ℕ) (x y : Box Region Global) → item_of (Loose b x y) ≡ tree.loose b (region_of x.value) (region_of y.value)
item_loose b x y = search (rules, the_lemmas)

pub item_loop : (b : ℕ) (x : Box Region Global) → item_of (Loop b None x) ≡ tree.loop b (region_of x.value)
item_loop b x = search (rules, the_lemmas)

pub item_loop_on : (b : ℕ) (z x : Box Region Global) → item_of (Loop b (Some z) x) ≡ tree.loop_on b (region_of z.value) (region_of x.value)
item_loop_on b z x = search (rules, the_lemmas)

pub item_switch : (b : ℕ) (gs : Vec Group Global) → item_of (Switch b gs) ≡ tree.switch b (groups_of (map group_of gs.items))
item_switch b gs = search (rules, the_lemmas)

pub region_is : (r : Region) → region_of r ≡ tree.before (map item_of r.items.items) (tree.ends r.exit)
region_is r = search (rules, the_lemmas)

pub group_is : (g : Group) → group_of g ≡ (g.target, g.labels.items, g.default, region_of g.body)
group_is g = search (rules, the_lemmas)

pub ruleset view_rules = (item_plain, item_if, item_loose, item_loop, item_loop_on, item_switch)
