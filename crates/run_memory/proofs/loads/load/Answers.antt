use Rattle.std.proofs.Common.{ap, sym, subst, ◌∙◌}
use Rattle.std.proofs.lemmas.Result.{IfOk-weaker}
use Rattle.spv_types.specs.View.{tree_of}
use Rattle.value_words.specs.Words.{value_from}
use Rattle.traces.specs.Events.{reading}
use Rattle.traces.specs.Runs.{Act}
use Rattle.group_items.specs.Sides.{told_of}
use Rattle.module_semantics.specs.State.{Conf}
use Rattle.module_semantics.specs.Steps.{set_value}
use Rattle.memory_places.specs.Kernel.{setting_for}
use Rattle.memory_places.specs.Leaves.{places_with}
use Rattle.run_state.specs.Confs.{conf_of}
use Rattle.run_acts.specs.Narrowed.{narrowed, narrow_access}
use Rattle.run_memory.specs.Outcomes.{loaded_from, IsLoaded}
use Rattle.run_memory.proofs.loads.load.Goals as goal

pub returns-in-Missing : goal.returns-in-Missing
returns-in-Missing c = λ fs rest.
    let s = setting_for c.args.site.now.map.now (told_of c.args.inv.now) in
    let d = conf_of fs c.args.conf.now in
    ap narrowed (c.in_ok-source_of.ensures.load (told_of c.args.inv.now) fs rest ∙ ap (loaded_from s d rest c.args.site.now.inst.now) c.in-Missing.is)

pub returns-in-Kept : goal.returns-in-Kept
returns-in-Kept c =
    IfOk-weaker c.load_kept.result _ _ (λ l h fs rest.
    let s = setting_for c.args.site.now.map.now (told_of c.args.inv.now) in
    let d = conf_of fs c.args.conf.now in
    subst (λ (a : Act Conf). IsLoaded a d rest c.args.site.now.inst.now l) (sym (ap narrowed (c.in_ok-source_of.ensures.load (told_of c.args.inv.now) fs rest ∙ ap (loaded_from s d rest c.args.site.now.inst.now) c.in-Kept.is))) (h fs rest c.args.site.now.inst.now)) c.load_kept.ensures

pub returns-in_ok-read_event-in-Seen : goal.returns-in_ok-read_event-in-Seen
returns-in_ok-read_event-in-Seen c = λ fs rest.
    let s = setting_for c.args.site.now.map.now (told_of c.args.inv.now) in
    let d = conf_of fs c.args.conf.now in (
      narrow_access (reading (places_with s c.in-Seen.variable.now c.in-Seen.path.now (tree_of c.in-Seen.shape))),
      (
        (λ words. set_value d rest c.args.site.now.inst.now (value_from (tree_of c.in-Seen.shape) words)),
        (ap narrowed (c.in_ok-source_of.ensures.load (told_of c.args.inv.now) fs rest ∙ ap (loaded_from s d rest c.args.site.now.inst.now) c.in-Seen.is), c.in_ok-read_event-in-Seen.ensures (told_of c.args.inv.now)),
      ),
    )
