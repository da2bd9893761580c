use Rattle.std.proofs.Common.{◌≡◌, ◌∙◌, ap, sym, rules}
use Rattle.module_semantics.specs.State as state
use Rattle.module_semantics.specs.Accesses as accesses
use Rattle.memory_places.specs.Kernel.{setting_for}
use Rattle.run_state.specs.Ids.{root_of}
use Rattle.run_acts.proofs.variables.seen.Goals as goal

pub returns-in-Global : goal.returns-in-Global
returns-in-Global c = λ told.
    let root : root_of c.args.root ≡ state.global c.in-Global.id = search rules in
    c.seen.ensures told ∙ sym (ap (accesses.seen (setting_for c.args.map.now told)) root)
