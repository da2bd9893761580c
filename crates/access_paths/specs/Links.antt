-- The chains of a function that have indexes, each with the one before it on its way.
use Rattle.std.specs.Prelude.{ℕ, ◌≡◌, ◌<◌, ◌==◌, Bool, true, false, List, [], ◌∷◌, ◌++◌, length, Option, Some, None, IfSome, flat_map, reverse, fold}
use Rattle.std.specs.Option.{option_map_or}
use Rattle.std.specs.List.{enumerate_from}
use Rattle.std.specs.BTreeMap.{get}
use Rattle.std.specs.Ordering.{nat_cmp}
use Rattle.spv_module.specs.declared.inst.Inst.{Inst}
use Rattle.spv_module.specs.declared.inst.Block.{Block}
use Rattle.spv_module.specs.declared.inst.Function.{Function}
use Rattle.access_paths.specs.declared.forms.Step.{Step}
use Rattle.access_paths.specs.declared.link.Link.{Link}
use Rattle.access_paths.specs.declared.links.Known.{Known}
use Rattle.access_paths.specs.declared.links.Links.{Links}
use Rattle.access_paths.specs.Ways.{Way, Spot, steps_from, with_inst, ways_in}

-- the last link of a way is the one at this place
abbrev pub is_last : ℕ → Option ℕ → Bool
is_last place last = option_map_or (λ n. n == place) last false

-- the links of a way by its last; of these links the latest stands first
abbrev pub way_to : List Link → Option ℕ → List Link
way_to [] last = []
way_to (l ∷ earlier) last =
    elim (is_last (length earlier) last) [ true ↦ way_to earlier l.before ++ l ∷ [] | false ↦ way_to earlier last ]

abbrev pub way_in : List Link → Option ℕ → List Link
way_in links last = way_to (reverse links) last

-- where a link stands, and where its path is printed
abbrev pub spot : ℕ → Link → Spot
spot printed l = record { chain = l.chain; stands = l.stands; printed = printed }

-- the steps of a link, and of a way by its last link
abbrev pub link_steps : List Inst → ℕ → Link → List Step
link_steps gs printed l = steps_from gs (spot printed l) 0 l.from l.indexes.now

abbrev pub steps_to : List Inst → ℕ → List Link → Option ℕ → List Step
steps_to gs printed links last = flat_map (link_steps gs printed) (way_in links last)

-- what is known of a pointer: its path begins there if no chain makes it
abbrev pub known_or : Option Known → ℕ → Known
known_or (Some k) pointer = k
known_or None pointer = record { base = pointer; last = None }

abbrev pub known_in : Links → ℕ → Known
known_in links pointer = known_or (get nat_cmp links.known pointer) pointer

abbrev pub way_by : List Inst → ℕ → List Link → Known → Way
way_by gs printed links k = record { base = k.base; steps = steps_to gs printed links k.last }

abbrev pub way_of : List Inst → ℕ → Links → ℕ → Way
way_of gs printed links pointer = way_by gs printed links.links.items (known_in links pointer)

-- the link is one of so many
abbrev pub IsIn : ℕ → Option ℕ → Type 0
IsIn count last = IfSome last (λ j. j < count)

-- the link before a link stands before it
abbrev pub AreBackTo : List Link → Type 0
AreBackTo [] = Unit {0}
AreBackTo (l ∷ earlier) = IsIn (length earlier) l.before × AreBackTo earlier

abbrev pub AreBack : List Link → Type 0
AreBack links = AreBackTo (reverse links)

pub record AreLinked (links : Links) : Type 0 where
  pub back : AreBack links.links.items
  pub within : (pointer : ℕ) → IsIn (length links.links.items) (known_in links pointer).last

-- a pointer by one more link; the other ways stay as they were
pub record IsExtended (link : Link) (base : ℕ) (old new : List Link) (known : Known) : Type 0 where
  pub base_is : known.base ≡ base
  pub back : AreBack new
  pub last : IsIn (length new) known.last
  pub within : (other : Option ℕ) → IsIn (length old) other → IsIn (length new) other
  pub kept : (other : Option ℕ) → IsIn (length old) other → way_in new other ≡ way_in old other
  pub steps : (gs : List Inst) (printed : ℕ) → steps_to gs printed new known.last ≡ steps_to gs printed old link.before ++ link_steps gs printed link

-- the pointers with what these instructions make
pub record HaveMore (gs : List Inst) (f : Function) (stands : ℕ) (insts : List Inst) (old new : Links) : Type 0 where
  pub linked : AreLinked new
  pub ways : (printed pointer : ℕ) → way_of gs printed new pointer ≡ fold (with_inst gs f printed stands) (way_of gs printed old) insts pointer

-- the pointers that these blocks make
pub record AreWaysIn (gs : List Inst) (f : Function) (blocks : List (ℕ × Block)) (links : Links) : Type 0 where
  pub linked : AreLinked links
  pub ways : (printed pointer : ℕ) → way_of gs printed links pointer ≡ ways_in gs f printed blocks pointer

-- all pointers of a function
abbrev pub AreWays : List Inst → Function → Links → Type 0
AreWays gs f links = AreWaysIn gs f (enumerate_from 0 f.blocks) links
