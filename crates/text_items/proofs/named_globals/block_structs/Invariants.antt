use Rattle.std.proofs.Common.{◌≡◌, ◌&&◌, ℕ, take}
use Rattle.std.specs.List.{list_any}
use Rattle.std.specs.BTreeSet.{contains}
use Rattle.std.specs.Ordering.{nat_cmp}
use Rattle.spv_module.specs.declared.inst.Inst.{Inst}
use Rattle.text_rules.specs.Printed.{is_written_variable}
use Rattle.text_rules.specs.Claims.{has_block}
use Rattle.text_items.proofs.named_globals.block_structs.Given as goal

abbrev pub invariant-loop-inst : goal.invariant-loop-inst
invariant-loop-inst l = (id : ℕ) → contains nat_cmp l.structs id ≡ list_any (λ (v : Inst). is_written_variable l.written.reached v && has_block l.written.source id v) (take l.inst-index l.inst-items)
