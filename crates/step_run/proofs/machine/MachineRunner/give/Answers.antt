use Rattle.std.proofs.Common.{ap, sym, subst, ◌∙◌}
use Rattle.std.specs.Prelude.{IsSome}
use Rattle.group_items.specs.Sides.{event_with, behind_event}
use Rattle.step_run.specs.KeptAll.{IsKept, begun_at}
use Rattle.step_run.proofs.Threads.{all_at, all_set, at_begun, set_moved}
use Rattle.step_run.proofs.machine.MachineRunner.give.Goals as goal

pub give_to-requires-clause-kept : goal.give_to-requires-clause-kept
give_to-requires-clause-kept g c =
    let m = c.args.self.now in
    let t = c.index_mut.result.now in
    (m.steps, (m.small, all_at (λ t. IsKept (g.P.Program.walk m.program) m.steps (g.P.Program.goes m.program) (g.P.Program.asks m.program) t.row t.state) m.threads.items c.args.who t t m.kept c.requires.begun c.index_mut.ensures.value))

pub give_to-requires-clause-fits : goal.give_to-requires-clause-fits
give_to-requires-clause-fits g c =
    let t = c.index_mut.result.now in
    subst (λ b. IsSome (event_with b c.args.words.now)) (at_begun c.args.self.now.threads.items c.args.who t t c.requires.begun c.index_mut.ensures.value) c.requires.fits

pub invariant_of-self : goal.invariant_of-self
invariant_of-self g c =
    let m = c.args.self.now in
    let t = c.index_mut.result.now in
    record { small = m.small; kept = all_set (λ t. IsKept (g.P.Program.walk m.program) m.steps (g.P.Program.goes m.program) (g.P.Program.asks m.program) t.row t.state) m.threads.items c.args.who c.give_to.new.thread m.kept (c.give_to.ensures.kept m.steps (all_at (λ t. IsKept (g.P.Program.walk m.program) m.steps (g.P.Program.goes m.program) (g.P.Program.asks m.program) t.row t.state) m.threads.items c.args.who t t m.kept c.requires.begun c.index_mut.ensures.value)) }

pub returns-clause-moved : goal.returns-clause-moved
returns-clause-moved g c =
    let ts = c.args.self.now.threads.items in
    let t = c.index_mut.result.now in
    let words = c.args.words.now in
    set_moved ts c.args.who c.give_to.new.thread (behind_event (begun_at ts c.args.who) (event_with (begun_at ts c.args.who) words)) c.requires.begun
    (c.give_to.ensures.moved ∙ ap (λ b. behind_event b (event_with b words)) (sym (at_begun ts c.args.who t t c.requires.begun c.index_mut.ensures.value)))
