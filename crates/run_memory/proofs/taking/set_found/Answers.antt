use Rattle.std.proofs.Common.{ap, sym, ◌∙◌}
use Rattle.std.proofs.lemmas.Result.{on_err_weaker}
use Rattle.spv_ops.specs.declared.AtomicOp.{AtomicOp}
use Rattle.spv_types.specs.Tree.{word}
use Rattle.spv_types.proofs.Views.{value-Word}
use Rattle.module_semantics.specs.State as state
use Rattle.spv_types.specs.View.{value_of}
use Rattle.spv_module.specs.declared.tree.Value as val
use Rattle.module_semantics.specs.Steps as steps
use Rattle.run_state.specs.Confs.{conf_of, behind}
use Rattle.run_state.proofs.States.{advanced_conf, set_conf, same_conf}
use Rattle.run_memory.proofs.Results.{on_ok}
use Rattle.run_memory.proofs.Told.{found_is}
use Rattle.run_memory.proofs.taking.set_found.Goals as goal

pub returns-in-Store-clause-found : goal.returns-in-Store-clause-found
returns-in-Store-clause-found c = λ fs.
    let old = c.args.conf.now in
    advanced_conf fs old c.advance.new.conf c.advance.ensures ∙ ap (λ (o : AtomicOp). steps.set_found (conf_of fs old) (behind fs old) c.args.inst.now o c.args.words.now) (sym c.in-Store.is)

pub returns-in_default-clause-found : goal.returns-in_default-clause-found
returns-in_default-clause-found c = λ fs.
    let old = c.args.conf.now in
    let d = conf_of fs old in
    let rest = behind fs old in
    on_ok c.set.result c.set.ensures.set (λ h.
    set_conf fs old c.set.new.conf c.args.inst.now (state.value (value_of (val.Word c.first_word.result))) h
    ∙ ap (steps.set_value d rest c.args.inst.now) (value-Word c.first_word.result ∙ ap word c.first_word.ensures)
    ∙ found_is d rest c.args.inst.now c.args.op c.args.words.now c.in_default.not-Store)

pub returns-in_default-clause-err : goal.returns-in_default-clause-err
returns-in_default-clause-err c = λ fs. on_err_weaker c.set.result (same_conf fs c.args.conf.now c.set.new.conf) c.set.ensures.err
