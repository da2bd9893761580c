-- What `Edges` keeps true of its fields: which blocks go to each label.
use Rattle.std.specs.Prelude.{ℕ, ◌≡◌, ◌<◌, ◌-◌, ◌==◌, ◌||◌, ◌++◌, not, Bool, false, List, [], ◌∷◌, Some, length, map, filter, slice_get, slice_index_or, if◌then◌else◌}
use Rattle.std.specs.Option.{option_map_or}
use Rattle.std.specs.List.{list_any, enumerate_from}
use Rattle.std.specs.declared.cmp.Ordering.{Ordering}
use Rattle.std.specs.Ordering.{nat_cmp, ordering_then}
use Rattle.spv_module.specs.declared.inst.Block.{Block}
use Rattle.spv_module.specs.declared.inst.Function.{Function}
use Rattle.spv_index.specs.Locals.{block_in}
use Rattle.profile_rules.specs.FlowRules.{goes_to, has_repeat}
use Rattle.type_rules.specs.declared.edges.Source.{Source}
use Rattle.type_rules.specs.declared.edges.Sources.{Sources}
use Rattle.type_rules.specs.declared.edges.Sources.TheVariants.{Nowhere, One, Two, Many}

-- the blocks
abbrev pub list_of : Sources → List Source
list_of Nowhere = []
list_of (One s) = s ∷ []
list_of (Two pair) = pair
list_of (Many list) = list.items

abbrev pub pair_cmp : ℕ × ℕ → ℕ × ℕ → Ordering
pair_cmp a b = ordering_then (nat_cmp a.0 b.0) (nat_cmp a.1 b.1)

-- the block at a place, as one that goes somewhere
abbrev pub source_at : ℕ × Block → Source
source_at p = record { place = p.0; label = p.1.label.0 }

-- the blocks that go to a label, in their order
abbrev pub sources_of : ℕ → List Block → List Source
sources_of label blocks = map source_at (filter (λ (p : ℕ × Block). goes_to label p.1) (enumerate_from 0 blocks))

-- one of these blocks has this label
abbrev pub is_source : List Source → ℕ → Bool
is_source sources label = list_any (λ (s : Source). s.label == label) sources

-- these are not the labels of these blocks, each once
abbrev pub are_not_sources : List Source → List ℕ → Bool
are_not_sources sources labels =
    not (length labels == length sources) || has_repeat labels || list_any (λ l. not (is_source sources l)) labels

-- the last of these blocks stands at this place
abbrev pub ends_at : List Source → ℕ → Bool
ends_at sources place = option_map_or (λ (s : Source). s.place == place) (slice_get sources (length sources - 1)) false

abbrev pub with_source : List Source → Source → List Source
with_source sources s = if ends_at sources s.place then sources else sources ++ s ∷ []

abbrev pub source_if : Bool → Source → List Source
source_if b s = if b then s ∷ [] else []

-- these lists are those, with the block in the one at a place
pub record IsAddedAt (old new : List Sources) (at : ℕ) (s : Source) : Type 0 where
  pub size : length new ≡ length old
  pub own : (d : Sources) → list_of (slice_index_or new at d) ≡ with_source (list_of (slice_index_or old at d)) s
  pub others : (k : ℕ) (d : Sources) → (k ≡ at → ⊥) → slice_index_or new k d ≡ slice_index_or old k d

-- no list has an item
pub record AreEmpty (n : ℕ) (lists : List Sources) : Type 0 where
  pub size : length lists ≡ n
  pub each : (k : ℕ) (d : Sources) → k < n → list_of (slice_index_or lists k d) ≡ []

-- at the place of the first block with each label: those of the first blocks that go to it
pub record AreSources (f : Function) (done : List Block) (lists : List Sources) : Type 0 where
  pub size : length lists ≡ length f.blocks
  pub each : (label k : ℕ) (d : Sources) → block_in f label ≡ Some k → list_of (slice_index_or lists k d) ≡ sources_of label done

-- and the next one, as far as it is known to go to some labels
pub record AreSourcesWith (f : Function) (s : Source) (done : List Block) (some : ℕ → Bool) (lists : List Sources) : Type 0 where
  pub size : length lists ≡ length f.blocks
  pub here : s.place ≡ length done
  pub each : (label k : ℕ) (d : Sources) → block_in f label ≡ Some k → list_of (slice_index_or lists k d) ≡ sources_of label done ++ source_if (some label) s

-- the next block is known to go to more labels
pub record Adds (f : Function) (s : Source) (more : ℕ → Bool) (old new : List Sources) : Type 0 where
  pub size : length new ≡ length old
  pub step : (done : List Block) (some : ℕ → Bool) → AreSourcesWith f s done some old → AreSourcesWith f s done (λ x. some x || more x) new
