use Rattle.std.proofs.Common.{ap, sym, subst, ◌∙◌}
use Rattle.std.proofs.lemmas.Result.{IfOk-weaker, on_err_weaker}
use Rattle.std.specs.Prelude.{IfOk}
use Rattle.group_items.specs.Sides.{Begun, IsNext, behind_pause}
use Rattle.step_run.specs.KeptAll.{IsKept, begun_at}
use Rattle.step_run.proofs.Threads.{all_set, at_begun, set_moved, set_same}
use Rattle.step_run.proofs.machine.MachineRunner.advance.Goals as goal

pub go_on-requires-clause-free : goal.go_on-requires-clause-free
go_on-requires-clause-free g c =
    let ts = c.args.self.now.threads.items in
    let t = c.index_mut.result.now in
    sym (ap (λ (b : Begun). b.asked) (at_begun ts c.args.who t t c.requires.begun c.index_mut.ensures.value)) ∙ c.requires.free

pub invariant_of-self : goal.invariant_of-self
invariant_of-self g c =
    let m = c.args.self.now in
    record {
      small = m.small;
      kept = all_set (λ t. IsKept (g.P.Program.walk m.program) m.steps (g.P.Program.goes m.program) (g.P.Program.asks m.program) t.row t.state) m.threads.items c.args.who c.go_on.new.thread m.kept c.go_on.ensures.kept;
    }

pub returns-clause-next : goal.returns-clause-next
returns-clause-next g c =
    let m = c.args.self.now in
    let t = c.index_mut.result.now in
    subst (λ b. IfOk c.go_on.result (IsNext (λ told answers. g.P.Program.walk m.program told answers m.steps) b)) (sym (at_begun m.threads.items c.args.who t t c.requires.begun c.index_mut.ensures.value)) c.go_on.ensures.next

pub returns-clause-moved : goal.returns-clause-moved
returns-clause-moved g c =
    let ts = c.args.self.now.threads.items in
    let t = c.index_mut.result.now in
    IfOk-weaker c.go_on.result _ _
    (λ pause is. set_moved ts c.args.who c.go_on.new.thread (behind_pause (begun_at ts c.args.who) pause) c.requires.begun (is ∙ ap (λ b. behind_pause b pause) (sym (at_begun ts c.args.who t t c.requires.begun c.index_mut.ensures.value)))) c.go_on.ensures.behind

pub returns-clause-err : goal.returns-clause-err
returns-clause-err g c =
    let ts = c.args.self.now.threads.items in
    let t = c.index_mut.result.now in
    on_err_weaker c.go_on.result (λ is. set_same ts c.args.who c.go_on.new.thread c.requires.begun (is ∙ sym (at_begun ts c.args.who t t c.requires.begun c.index_mut.ensures.value))) c.go_on.ensures.err
