use Rattle.std.proofs.Common.{◌≡◌, length, rules}
use Rattle.declaration_check.proofs.Asked.{values_are}
use Rattle.declaration_check.proofs.rows.values_of.Goals as goal

pub returns : goal.returns
returns c =
    let many : c.len-outer.result ≡ length c.in_ok-rows.rows.variables.items = search rules in
    values_are c.args.module.now c.functions.result.now c.in_ok-rows.rows c.add_functions.new.rows c.len-outer.result c.functions.ensures c.in_ok-rows.ensures.variables many c.in_ok-rows.ensures.types c.in_ok-add_functions.ensures
