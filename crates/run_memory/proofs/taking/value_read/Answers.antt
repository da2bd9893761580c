use Rattle.std.proofs.Common.{ap, sym, ◌∙◌}
use Rattle.std.specs.Prelude.{option_and_then}
use Rattle.op_semantics.specs.Composite.{extracted}
use Rattle.traces.specs.Runs.{Act}
use Rattle.module_semantics.specs.State.{Conf}
use Rattle.module_semantics.specs.Accesses.{kept}
use Rattle.module_semantics.specs.Steps.{set_value}
use Rattle.memory_places.specs.Kernel.{setting_for}
use Rattle.run_state.specs.Ids.{root_of}
use Rattle.run_state.specs.Confs.{conf_of}
use Rattle.run_acts.specs.Narrowed.{narrowed, told_words}
use Rattle.run_memory.specs.Outcomes.{loaded_from}
use Rattle.run_memory.proofs.Quiet.{value_quiet}
use Rattle.run_memory.proofs.taking.value_read.Goals as goal

pub returns-in-Missing : goal.returns-in-Missing
returns-in-Missing c = λ told fs rest.
    let s = setting_for c.args.site.now.map.now told in
    let d = conf_of fs c.args.conf.now in
    ap (λ (a : Act Conf). told_words (narrowed a) c.args.words.now d) (c.in_ok-source_of.ensures.load told fs rest ∙ ap (loaded_from s d rest c.args.site.now.inst.now) c.in-Missing.is)

pub returns-in-Kept : goal.returns-in-Kept
returns-in-Kept c = λ told fs rest.
    let s = setting_for c.args.site.now.map.now told in
    let d = conf_of fs c.args.conf.now in
    ap (λ (a : Act Conf). told_words (narrowed a) c.args.words.now d) (c.in_ok-source_of.ensures.load told fs rest ∙ ap (loaded_from s d rest c.args.site.now.inst.now) c.in-Kept.is)
    ∙ value_quiet d rest c.args.site.now.inst.now (option_and_then (extracted c.in-Kept.field-1.now) (kept s d (root_of c.in-Kept.field-0))) c.args.words.now d

pub returns-in_ok-value_from-in-Seen : goal.returns-in_ok-value_from-in-Seen
returns-in_ok-value_from-in-Seen c = λ told fs rest.
    let s = setting_for c.args.site.now.map.now told in
    let d = conf_of fs c.args.conf.now in
    ap (λ (a : Act Conf). told_words (narrowed a) c.args.words.now d) (c.in_ok-source_of.ensures.load told fs rest ∙ ap (loaded_from s d rest c.args.site.now.inst.now) c.in-Seen.is)
    ∙ ap (set_value d rest c.args.site.now.inst.now) (sym c.in_ok-value_from-in-Seen.ensures)
