use Rattle.std.proofs.Common.{◌≡◌, true, rules}
use Rattle.id_map.specs.Entries.{is_in}
use Rattle.profile_rules.specs.Places.{is_among}
use Rattle.declaration_check.proofs.Listed.{is_there}
use Rattle.declaration_check.proofs.rows.add_type.Goals as goal

pub returns-then-has-clause-types : goal.returns-then-has-clause-types
returns-then-has-clause-types c =
    let known : is_in c.args.known.now c.args.ty ≡ true = search rules in
    is_there (is_among c.args.types.now.items) c.args.ty (c.requires c.args.ty known)
