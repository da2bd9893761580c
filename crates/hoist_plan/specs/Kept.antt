-- What a plan keeps.
use Rattle.std.specs.Prelude.{ℕ, ◌≡◌, ◌==◌, ◌+◌, ◌*◌, ◌&&◌, if◌then◌else◌, nat_le, Bool, true, List, [], ◌∷◌, filter, flat_map, length, Option, unwrap_or}
use Rattle.std.specs.BTreeMap.{is_at}
use Rattle.std.specs.List.{enumerate_from, list_any}
use Rattle.std.specs.Map.{lookup}
use Rattle.std.specs.Ordering.{nat_cmp}
use Rattle.id_map.specs.Entries.{entry_by, entry_in}
use Rattle.spv_ops.specs.Groups.{is_chain}
use Rattle.spv_module.specs.declared.inst.Inst.{Inst}
use Rattle.spv_module.specs.declared.inst.Block.{Block}
use Rattle.spv_module.specs.declared.inst.Function.{Function}
use Rattle.use_chains.specs.declared.slot.SlotPlace.{SlotPlace}
use Rattle.use_chains.specs.Links.{Link}
use Rattle.hoist_plan.specs.declared.form.Form.{Form}
use Rattle.hoist_plan.specs.declared.form.Form.TheVariants.{Gone}
use Rattle.hoist_plan.specs.declared.mentioned.Mentioned.{Mentioned}
use Rattle.hoist_plan.specs.declared.mentioned.Mentioned.TheVariants.{Once, Listed}
use Rattle.hoist_plan.specs.declared.row.Row.{Row}
use Rattle.hoist_plan.specs.declared.row.Chain.{Chain}
use Rattle.hoist_plan.specs.declared.forms.Forms.{Forms}
use Rattle.hoist_plan.specs.Plan.{Known, Placed, mentions_of, result_of}

abbrev pub places_in : Mentioned → List SlotPlace
places_in (Once at) = at ∷ []
places_in (Listed places) = places.items

-- a result, with where it is mentioned
abbrev pub placed : List SlotPlace → Row → Placed
placed mentions r = record { block = r.block; op = r.op; ty = r.ty; result = r.result; mentions = mentions }

-- a result of this id, unless it is 0, with where it is mentioned
abbrev pub result_in : List Link → Row → List Placed
result_in links r = if r.result == 0 then [] else placed (mentions_of links r.result) r ∷ []

abbrev pub placed_chain : Chain → Placed
placed_chain c = placed (places_in c.mentions) c.row

-- what is told of results
abbrev pub known_in : Forms → Known
known_in f = record { operands = entry_in f.operands; forms = entry_in f.forms }

-- those of some results that are chains
abbrev pub chains_among : List Placed → List Placed
chains_among ps = filter (λ (p : Placed). is_chain p.op) ps

abbrev pub chains_of_inst : List Link → ℕ → Inst → List Placed
chains_of_inst links block i = chains_among (result_of links block i)

abbrev pub chains_of_block : List Link → ℕ × Block → List Placed
chains_of_block links b = flat_map (chains_of_inst links b.0) b.1.insts

-- the results of a function that are chains, in text order
abbrev pub chains_of : List Link → Function → List Placed
chains_of links f = flat_map (chains_of_block links) (enumerate_from 0 f.blocks)

-- slots rise from a number on
abbrev pub are_rising_from : ℕ → List Link → Bool
are_rising_from n [] = true
are_rising_from n (l ∷ ls) = nat_le n l.slot && are_rising_from (l.slot + 1) ls

-- the slots are in text order, which is that of their numbers, and no two are one
abbrev pub AreRising : List Link → Type 0
AreRising links = are_rising_from 0 links ≡ true

abbrev pub result_id : Placed → ℕ
result_id p = p.result

-- the steps that it takes to visit the mentions of each result
abbrev pub steps_of : Placed → ℕ
steps_of p = 2 * length p.mentions + 1

-- the forms of results: in the slots of ids from the least on, and of all others by their ids; and the chains that are carried
pub record NamingState : Type 0 where
  pub least : ℕ
  pub slots : List (Option Form)
  pub others : List (ℕ × Form)
  pub carried : List ℕ

abbrev pub form_in : NamingState → ℕ → Form
form_in n id = unwrap_or (entry_by n.least n.slots (λ i. lookup (is_at (nat_cmp i)) n.others) id) Gone

abbrev pub is_carried_in : NamingState → ℕ → Bool
is_carried_in n id = list_any (is_at (nat_cmp id)) n.carried
