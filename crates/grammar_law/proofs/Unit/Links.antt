-- What a live instruction mentions is linked, and what makes it is live.
use Rattle.std.proofs.Common.{◌≡◌, ◌+◌, ◌==◌, ℕ, Bool, true, false, List, map, filter, Some, unwrap_or, refl, sym, ap, ◌∙◌, subst, if◌then◌else◌}
use Rattle.std.specs.Prelude.{slice_get, slice_index, slice_index_or, option_and_then}
use Rattle.std.specs.List.{enumerate_from}
use Rattle.spv_ops.specs.Opcode.{is}
use Rattle.spv_ops.specs.declared.Op.TheVariants as code
use Rattle.spv_module.specs.declared.inst.Inst.{Inst}
use Rattle.spv_module.specs.declared.inst.Block.{Block}
use Rattle.spv_module.specs.declared.inst.Function.{Function}
use Rattle.spv_index.specs.Locals.{insts_of, block_in}
use Rattle.use_chains.specs.declared.mention.Mention.{Mention}
use Rattle.use_chains.specs.declared.slot.SlotPlace.{SlotPlace}
use Rattle.use_chains.specs.Slots.{is_slot_in, mention, slots_of_inst, slots_of_block, slots, inst_at, IsLive}
use Rattle.use_chains.specs.Links.{Link, chain, link_of, AreLiveLinks}
use Rattle.hoist_plan.specs.Plan.{user, mention_block, mentions_of}
use Rattle.list_law.proofs.Numbers.{number_same}
use Rattle.typed_law.proofs.Lists.{some_part}
use Rattle.claim_law.specs.Claimed.{IsIn}
use Rattle.claim_law.proofs.Claim.Listed.{in_flat, in_mapped, at_place}
use Rattle.grammar_law.specs.Mentioned.{IsMentioned, IsLinked}
use Rattle.grammar_law.proofs.Unit.Lists.{at_some, contained, numbered_first, in_filter}

-- where an instruction stands in its block
pub placed_in : (f : Function) (c : ℕ) (block : Block) (i : Inst) → slice_get f.blocks c ≡ Some block → IsIn i block.insts → (k : ℕ) × (inst_at f c k ≡ Some i)
placed_in f c block i there among =
    let w = at_some block.insts i among in
    (w.0, ap (option_and_then (λ (b : Block). slice_get b.insts w.0)) there ∙ w.1)

module _ (f : Function) (reached : List Bool) (block : ℕ) (i : Inst) (n : ℕ) (w : IsLinked f reached block i n) where
  abbrev pub link_at : SlotPlace
  link_at = record { block = block; inst = w.place; arg = w.arg }

  abbrev here : Bool
  here = slice_index_or reached block false

  abbrev slot : Mention
  slot = mention block w.place i (w.arg, n)

  found_block : (b : Block) × (slice_get f.blocks block ≡ Some b) × (slice_get b.insts w.place ≡ Some i)
  found_block = some_part (λ (b : Block). slice_get b.insts w.place) (slice_get f.blocks block) i w.there

  -- the instruction is one of the function's
  pub linked_in : IsIn i (insts_of f)
  linked_in = in_flat (λ (b : Block). b.insts) f.blocks found_block.0 i (at_place f.blocks block found_block.0 found_block.1) (at_place found_block.0.insts w.place i found_block.2)

  pub linked_user : user f link_at ≡ Some i
  linked_user = w.there

  -- one that is no phi mentions what it does in its own block
  pub own_block : is i.op code.Phi ≡ false → mention_block f link_at i ≡ block
  own_block no_phi = ap (λ (b : Bool). if b then unwrap_or (block_in f (slice_index i.args (w.arg + 1))) block else block) no_phi

  listed : IsIn slot (slots f reached)
  listed =
      in_flat (slots_of_block f reached) (enumerate_from 0 f.blocks) (block, found_block.0) slot (numbered_first f.blocks block found_block.0 found_block.1)
      (in_flat (slots_of_inst f reached here block) (enumerate_from 0 found_block.0.insts) (w.place, i) slot (numbered_first found_block.0.insts w.place i found_block.2)
      (in_mapped (mention block w.place i) (filter (λ (operand : ℕ × ℕ). is_slot_in f reached here i operand.0) (enumerate_from 0 i.args)) (w.arg, n)
      (in_filter (λ (operand : ℕ × ℕ). is_slot_in f reached here i operand.0) (enumerate_from 0 i.args) (w.arg, n) (numbered_first i.args w.arg n w.word) w.slot)))

  module _ (links : List Link) (live : AreLiveLinks f reached links) where
    number : (k : ℕ) × (slice_get (slots f reached) k ≡ Some slot)
    number = at_some (slots f reached) slot listed

    linked : IsIn (link_of (number.0, slot)) links
    linked =
        subst (IsIn (link_of (number.0, slot))) (sym live.1.links_are)
        (in_filter (λ (l : Link). slice_index_or live.0 l.slot false) (map link_of (enumerate_from 0 (slots f reached))) (link_of (number.0, slot))
        (in_mapped link_of (enumerate_from 0 (slots f reached)) (number.0, slot) (numbered_first (slots f reached) number.0 slot number.1))
        (live.1.whole number.0 slot number.1 w.live))

    -- it is one of the places where the id is mentioned
    pub link_stands : IsIn link_at (mentions_of links n)
    link_stands = in_mapped (λ (l : Link). l.place) (chain links n) (link_of (number.0, slot)) (in_filter (λ (l : Link). l.id == n) links (link_of (number.0, slot)) linked (number_same n n refl))

  -- what makes the id is live
  pub linked_live : (c k : ℕ) (j : Inst) → inst_at f c k ≡ Some j → j.result ≡ n → IsLive f reached c k
  linked_live c k j there same set closed = closed.mentioned slot c k j (contained (slots f reached) slot listed) (w.live set closed) there same

-- so it is with what a reached block mentions
module _ (f : Function) (reached : List Bool) (block : ℕ) (i : Inst) (n : ℕ) (w : IsMentioned f reached block i n) where
  abbrev pub as_linked : IsLinked f reached block i n
  as_linked = record { place = w.place; arg = w.arg; there = w.there; live = w.live; slot = subst (λ (b : Bool). is_slot_in f reached b i w.arg ≡ true) (sym w.here) w.slot; word = w.word }

  abbrev pub mention_at : SlotPlace
  mention_at = link_at f reached block i n as_linked

  pub user_in : IsIn i (insts_of f)
  user_in = linked_in f reached block i n as_linked

  pub user_is : user f mention_at ≡ Some i
  user_is = linked_user f reached block i n as_linked

  module _ (links : List Link) (live : AreLiveLinks f reached links) where
    pub mention_stands : IsIn mention_at (mentions_of links n)
    mention_stands = link_stands f reached block i n as_linked links live

  pub maker_live : (c k : ℕ) (j : Inst) → inst_at f c k ≡ Some j → j.result ≡ n → IsLive f reached c k
  maker_live c k j there same = linked_live f reached block i n as_linked c k j there same
