use Rattle.std.proofs.Common.{[], ap, sym, subst, ◌∙◌}
use Rattle.spv_types.specs.View.{value_of}
use Rattle.traces.specs.Runs.{goes}
use Rattle.run_state.specs.Ids.{root_of}
use Rattle.run_state.specs.Confs.{conf_of, behind}
use Rattle.run_variables.specs.Stored.{HasKept}
use Rattle.run_memory.specs.Outcomes.{kept_with}
use Rattle.run_memory.proofs.Onward.{kept_onward}
use Rattle.run_memory.proofs.writes.replace.Goals as goal

pub returns-then-store_at : goal.returns-then-store_at
returns-then-store_at c = λ fs.
    let old = c.args.conf.now in
    let h = subst (HasKept (conf_of fs old) (conf_of fs c.store_at.new.conf) (root_of c.args.root) c.args.path.now (value_of c.args.value)) c.if-store_at.true (c.store_at.ensures.kept fs) in
    ap (kept_with (conf_of fs old) (behind fs old) (root_of c.args.root)) h.1.0
    ∙ ap (goes []) (sym (kept_onward fs old c.store_at.new.conf c.advance.new.conf (root_of c.args.root) h.0 h.1.1 c.advance.ensures))

pub returns-else-store_at : goal.returns-else-store_at
returns-else-store_at c = λ fs.
    let old = c.args.conf.now in
    let h = subst (HasKept (conf_of fs old) (conf_of fs c.store_at.new.conf) (root_of c.args.root) c.args.path.now (value_of c.args.value)) c.if-store_at.false (c.store_at.ensures.kept fs) in
    (ap (kept_with (conf_of fs old) (behind fs old) (root_of c.args.root)) h.0, h.1)
