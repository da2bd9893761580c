use Rattle.std.proofs.Common.{◌∙◌, ap, sym}
use Rattle.std.specs.Prelude.{Some, option_map}
use Rattle.group_items.specs.Sides.{told_of}
use Rattle.run_state.specs.Confs.{conf_of}
use Rattle.spv_run.proofs.Begun.{is_start}
use Rattle.spv_run.proofs.program.ModuleProgramProgram.start.Goals as goal

pub returns-in_ok-of-in-Some : goal.returns-in_ok-of-in-Some
returns-in_ok-of-in-Some c =
    let k = c.args.self.now.map in
    let told = told_of c.args.inv.now in
    let state = c.in_ok-of-in-Some in
    is_start k told state.field-0 state.ensures.told state.ensures.taken
    (ap (λ x. Some (conf_of k.of.functions x)) state.ensures.conf ∙ ap (option_map (conf_of k.of.functions)) (sym c.in-Some.is) ∙ c.in_ok-first_conf.ensures told)
