use Rattle.std.proofs.Common.{ap, sym, ◌∙◌, Bool}
use Rattle.std.specs.Prelude.{if◌then◌else◌}
use Rattle.traces.specs.Runs.{Act}
use Rattle.module_semantics.specs.State.{Conf}
use Rattle.module_semantics.specs.Steps.{set_found}
use Rattle.memory_places.specs.Kernel.{setting_for}
use Rattle.run_state.specs.Confs.{conf_of}
use Rattle.run_acts.specs.Narrowed.{narrowed, told_words}
use Rattle.run_memory.proofs.Told.{update_taken}
use Rattle.run_memory.proofs.taking.is_update.Goals as goal

pub returns : goal.returns
returns c = λ told fs rest words.
    let d = conf_of fs c.args.conf.now in
    ap (λ (a : Act Conf). told_words (narrowed a) words d) (c.in_ok-update_of.ensures told fs rest)
    ∙ update_taken (setting_for c.args.site.now.map.now told) d rest c.args.site.now.inst.now c.args.op c.in_ok-update_of.field-0 words
    ∙ ap (λ (b : Bool). if b then set_found d rest c.args.site.now.inst.now c.args.op words else d) (sym c.is_some.ensures)
