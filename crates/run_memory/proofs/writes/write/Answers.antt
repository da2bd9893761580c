use Rattle.std.proofs.Common.{◌≡◌, List, [], ◌∷◌, map, ap, subst, rules}
use Rattle.traces.specs.Runs.{goes}
use Rattle.group_items.specs.declared.event.Event.{Event}
use Rattle.group_items.specs.declared.event.Event.TheVariants.{Write}
use Rattle.group_items.specs.Events.{event_of}
use Rattle.step_run.specs.Answers.{answers_in}
use Rattle.module_semantics.specs.Steps.{advanced}
use Rattle.run_state.specs.Confs.{conf_of, behind}
use Rattle.run_acts.specs.Acts.{IsAct}
use Rattle.run_memory.proofs.writes.write.Goals as goal

pub make-requires-clause-given : goal.make-requires-clause-given
make-requires-clause-given c =
    let items : c.push.new.self.items ≡ Write c.args.places c.args.words ∷ [] = search rules in
    ap (λ (es : List Event). answers_in (map event_of es)) items

pub returns-clause-step : goal.returns-clause-step
returns-clause-step c = λ fs.
    let old = c.args.conf.now in
    let items : c.push.new.self.items ≡ Write c.args.places c.args.words ∷ [] = search rules in
    subst (λ (es : List Event). IsAct (goes (map event_of es) (advanced (conf_of fs old) (behind fs old))) (conf_of fs old) (conf_of fs c.make.new.conf) c.make.result) items (c.make.ensures fs)
