use Rattle.std.proofs.Common.{ap, sym, ◌∙◌}
use Rattle.std.specs.Prelude.{Option}
use Rattle.std.proofs.lemmas.Result.{IfOk-weaker}
use Rattle.spv_module.specs.declared.inst.Inst.{Inst}
use Rattle.module_semantics.specs.Steps.{with_some}
use Rattle.memory_places.specs.Kernel.{setting_for}
use Rattle.run_state.specs.Confs.{conf_of}
use Rattle.run_memory.specs.Outcomes.{update_in}
use Rattle.run_memory.proofs.atomics.update_there.Goals as goal

pub returns-in-None : goal.returns-in-None
returns-in-None c = λ told fs rest. ap (λ (q : Option Inst). with_some q (update_in (setting_for c.args.site.now.map.now told) (conf_of fs c.args.conf.now) rest c.args.site.now.inst.now c.args.op c.args.path.now)) (sym (c.in-None.ensures told))

pub returns-in-Some : goal.returns-in-Some
returns-in-Some c = λ told. IfOk-weaker c.update_along.result _ _ (λ u h fs rest. ap (λ (q : Option Inst). with_some q (update_in (setting_for c.args.site.now.map.now told) (conf_of fs c.args.conf.now) rest c.args.site.now.inst.now c.args.op c.args.path.now)) (sym (c.in-Some.ensures told)) ∙ h fs rest) (c.update_along.ensures told)
