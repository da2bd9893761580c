use Rattle.std.proofs.Common.{◌≡◌, ◌∙◌, ◌<◌, ◌≤◌, ap, refl, rules, length}
use Rattle.std.specs.Prelude.{option_and_then}
use Rattle.spv_types.specs.View.{value_of}
use Rattle.op_semantics.specs.Composite.{inserted}
use Rattle.module_semantics.specs.State as state
use Rattle.run_state.specs.Ids.{root_of}
use Rattle.run_state.specs.Confs.{conf_of}
use Rattle.run_variables.specs.Stored.{kept_by}
use Rattle.run_variables.proofs.Calls.{called_past, lent_kept_by}
use Rattle.run_variables.proofs.kept.store_at.Goals as goal

pub returns-in-None-clause-kept : goal.returns-in-None-clause-kept
returns-in-None-clause-kept c = λ fs.
    let past : length c.args.conf.now.below.items ≤ c.in-Lent.depth = search rules in
    let root : root_of c.args.root ≡ state.lent c.in-Lent.depth c.in-Lent.id = search rules in (
      ap (λ r. option_and_then (inserted (value_of c.args.value) c.args.path.now) (kept_by (conf_of fs c.args.conf.now) r)) root
          ∙ ap (λ o. option_and_then (inserted (value_of c.args.value) c.args.path.now) (option_and_then (λ (f : state.Frame). f.variables c.in-Lent.id) o)) (called_past fs c.args.conf.now.below.items c.in-Lent.depth past),
      refl,
    )

pub returns-in-Some-clause-kept : goal.returns-in-Some-clause-kept
returns-in-Some-clause-kept c = λ fs.
    let inside : c.in-Lent.depth < length c.args.conf.now.below.items = search rules in
    let root : root_of c.args.root ≡ state.lent c.in-Lent.depth c.in-Lent.id = search rules in
    lent_kept_by fs c.args.conf.now (root_of c.args.root) c.in-Lent.depth c.in-Lent.id c.in-Some.call.now c.store-in-Some.new.variables c.args.path.now _ c.store-in-Some.result root c.in-Some.ensures.value inside c.store-in-Some.ensures
