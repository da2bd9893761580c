use Rattle.std.proofs.Common.{◌==◌, ◌∙◌, ℕ, List, ap, filter, map}
use Rattle.std.specs.List.{position_from}
use Rattle.spv_module.specs.declared.inst.Inst.{Inst}
use Rattle.id_map.specs.Entries.{id_place, is_in}
use Rattle.memory_places.specs.Mentions.{is_shared}
use Rattle.memory_places.proofs.Numbers.{numbers_are}
use Rattle.memory_places.proofs.shared.shared_places.Goals as goal

pub returns : goal.returns
returns c =
    numbers_are c.args.module.now c.args.entry (is_in c.args.mentioned.now) c.in_ok-ids.ids.items (id_place c.in_ok-places_of.field-0) c.requires
    (c.in_ok-ids.ensures ∙ ap (λ (gs : List Inst). map (λ (g : Inst). g.result) (filter (is_shared (is_in c.args.mentioned.now)) gs)) c.globals.ensures)
    (λ id. c.in_ok-places_of.ensures id ∙ ap (λ (ids : List ℕ). position_from (λ (n : ℕ). n == id) 0 ids) c.deref.ensures.value)
