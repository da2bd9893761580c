use Rattle.std.proofs.Common.{ap, sym, ◌∙◌}
use Rattle.std.specs.Prelude.{Option, option_map}
use Rattle.std.proofs.lemmas.Result.{on_err_weaker}
use Rattle.spv_module.specs.declared.tree.Value.{Value}
use Rattle.spv_types.specs.View.{value_of}
use Rattle.module_semantics.specs.State as state
use Rattle.run_state.specs.Confs.{conf_of, behind}
use Rattle.run_state.proofs.States.{set_conf, same_conf}
use Rattle.run_memory.specs.Outcomes.{with_read}
use Rattle.run_memory.proofs.Results.{on_ok}
use Rattle.run_memory.proofs.taking.take_read.Goals as goal

pub returns-in-None-clause-took : goal.returns-in-None-clause-took
returns-in-None-clause-took c = λ told.
    let fs = c.args.site.now.map.now.of.functions in
    let d = conf_of fs c.args.conf.now in
    let rest = behind fs c.args.conf.now in
    sym (c.in_ok-value_read.ensures told fs rest ∙ ap (λ (o : Option Value). with_read d rest c.args.site.now.inst.now (option_map value_of o)) c.in-None.is)

pub returns-in-Some-clause-took : goal.returns-in-Some-clause-took
returns-in-Some-clause-took c = λ told.
    let fs = c.args.site.now.map.now.of.functions in
    let d = conf_of fs c.args.conf.now in
    let rest = behind fs c.args.conf.now in
    on_ok c.set.result c.set.ensures.set (λ h.
    set_conf fs c.args.conf.now c.set.new.conf c.args.site.now.inst.now (state.value (value_of c.in-Some.value)) h
    ∙ sym (c.in_ok-value_read.ensures told fs rest ∙ ap (λ (o : Option Value). with_read d rest c.args.site.now.inst.now (option_map value_of o)) c.in-Some.is))

pub returns-in-Some-clause-err : goal.returns-in-Some-clause-err
returns-in-Some-clause-err c = on_err_weaker c.set.result (same_conf c.args.site.now.map.now.of.functions c.args.conf.now c.set.new.conf) c.set.ensures.err
