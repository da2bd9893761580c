use Rattle.std.proofs.Common.{[], ap, sym}
use Rattle.spv_types.specs.View.{value_of}
use Rattle.traces.specs.Runs.{goes}
use Rattle.module_semantics.specs.State.{global}
use Rattle.run_state.specs.Confs.{conf_of}
use Rattle.run_memory.proofs.Results.{err_by}
use Rattle.run_memory.proofs.Onward.{kept_onward}
use Rattle.run_memory.proofs.writes.keep.Goals as goal

pub returns-clause-step : goal.returns-clause-step
returns-clause-step c = λ fs.
    let old = c.args.conf.now in
    ap (goes []) (sym (kept_onward fs old (record old { privates = c.put.new.variables }) c.advance.new.conf (global c.args.id) (value_of c.args.value) (λ i. record (conf_of fs old) { privates = λ q. c.in_ok-put.ensures.put q i }) c.advance.ensures))

pub returns-in_err-put-clause-err : goal.returns-in_err-put-clause-err
returns-in_err-put-clause-err c = λ fs. err_by c.from_residual.result (λ i. record (conf_of fs c.args.conf.now) { privates = λ q. c.in_err-put.ensures.err q i })
