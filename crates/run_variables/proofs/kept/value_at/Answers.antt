use Rattle.std.proofs.Common.{◌≡◌, ◌∙◌, ◌<◌, ◌≤◌, ap, sym, rules, length, get_or}
use Rattle.std.specs.Prelude.{option_and_then}
use Rattle.module_semantics.specs.State as state
use Rattle.run_state.specs.Ids.{root_of}
use Rattle.run_state.specs.Confs.{conf_of}
use Rattle.run_variables.specs.Stored.{kept_by}
use Rattle.run_variables.proofs.Calls.{called_at, called_past}
use Rattle.run_variables.proofs.kept.value_at.Goals as goal

pub returns-in-None : goal.returns-in-None
returns-in-None c = λ fs.
    let past : length c.args.conf.now.below.items ≤ c.in-Lent.depth = search rules in
    let root : root_of c.args.root ≡ state.lent c.in-Lent.depth c.in-Lent.id = search rules in
    sym (ap (kept_by (conf_of fs c.args.conf.now)) root ∙ ap (option_and_then (λ (f : state.Frame). f.variables c.in-Lent.id)) (called_past fs c.args.conf.now.below.items c.in-Lent.depth past))

pub returns-in-Some : goal.returns-in-Some
returns-in-Some c = λ fs.
    let inside : c.in-Lent.depth < length c.args.conf.now.below.items = search rules in
    let is : c.in-Some.call.now ≡ get_or c.args.conf.now.below.items c.in-Lent.depth c.in-Some.call.now = search rules in
    let root : root_of c.args.root ≡ state.lent c.in-Lent.depth c.in-Lent.id = search rules in
    c.found-in-Some.ensures
    ∙ sym (ap (kept_by (conf_of fs c.args.conf.now)) root
    ∙ ap (option_and_then (λ (f : state.Frame). f.variables c.in-Lent.id)) (called_at fs c.args.conf.now.below.items c.in-Lent.depth c.in-Some.call.now is inside))
