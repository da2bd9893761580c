use Rattle.std.proofs.Common.{Bool, ap, sym, ◌∙◌}
use Rattle.std.specs.Prelude.{if◌then◌else◌}
use Rattle.module_semantics.specs.Steps as steps
use Rattle.run_state.specs.Confs.{conf_of, behind}
use Rattle.run_memory.proofs.Results.{on_ok}
use Rattle.run_memory.proofs.taking.take_found.Goals as goal

pub returns-then-branch-clause-took : goal.returns-then-branch-clause-took
returns-then-branch-clause-took c = λ told.
    let fs = c.args.site.now.map.now.of.functions in
    let d = conf_of fs c.args.conf.now in
    let rest = behind fs c.args.conf.now in
    on_ok c.set_found.result (c.set_found.ensures.found fs) (λ h. h ∙ sym (c.in_ok-is_update.ensures told fs rest c.args.words.now ∙ ap (λ (b : Bool). if b then steps.set_found d rest c.args.site.now.inst.now c.args.op c.args.words.now else d) c.if-branch.true))

pub returns-then-branch-clause-err : goal.returns-then-branch-clause-err
returns-then-branch-clause-err c = c.set_found.ensures.err c.args.site.now.map.now.of.functions

pub returns-else-branch-clause-took : goal.returns-else-branch-clause-took
returns-else-branch-clause-took c = λ told.
    let fs = c.args.site.now.map.now.of.functions in
    let d = conf_of fs c.args.conf.now in
    let rest = behind fs c.args.conf.now in
    sym (c.in_ok-is_update.ensures told fs rest c.args.words.now ∙ ap (λ (b : Bool). if b then steps.set_found d rest c.args.site.now.inst.now c.args.op c.args.words.now else d) c.if-branch.false)
