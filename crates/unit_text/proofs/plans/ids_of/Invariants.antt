use Rattle.std.proofs.Common.{◌≡◌, ◌==◌, ℕ, take}
use Rattle.id_map.specs.Entries.{is_in}
use Rattle.std.specs.List.{list_any}
use Rattle.spv_module.specs.declared.inst.Id.{Id}
use Rattle.unit_text.proofs.plans.ids_of.Given as goal

abbrev pub invariant-loop-id : goal.invariant-loop-id
invariant-loop-id l = (n : ℕ) → is_in l.ids n ≡ list_any (λ (id : Id). id.0 == n) (take l.id-index l.order)
