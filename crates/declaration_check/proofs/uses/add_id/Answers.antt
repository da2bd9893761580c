use Rattle.std.proofs.Common.{◌≡◌, true, rules}
use Rattle.id_map.specs.Entries.{is_in}
use Rattle.declaration_check.proofs.Listed.{is_there}
use Rattle.declaration_check.proofs.uses.add_id.Goals as goal

pub returns-then-has : goal.returns-then-has
returns-then-has c =
    let there : is_in c.args.set.now c.args.id ≡ true = search rules in
    is_there (is_in c.args.set.now) c.args.id there
