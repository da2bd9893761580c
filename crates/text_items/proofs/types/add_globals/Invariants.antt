use Rattle.std.proofs.Common.{◌≡◌, ◌++◌, ◌||◌, map, filter, take}
use Rattle.id_map.specs.Entries.{is_in}
use Rattle.spv_module.specs.declared.inst.Inst.{Inst}
use Rattle.text_rules.specs.Printed.{declares}
use Rattle.text_items.specs.State.{is_written_by}
use Rattle.text_items.proofs.types.add_globals.Given as goal

abbrev pub invariant-loop-inst : goal.invariant-loop-inst
invariant-loop-inst l = l.types.items ≡ l.initial.types.items ++ map (λ (g : Inst). g.ty) (filter (λ g. is_written_by (is_in l.operand_ids) g || declares l.readings (is_in l.needed) g) (take l.inst-index l.globals))
