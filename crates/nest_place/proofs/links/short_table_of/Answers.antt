use Rattle.std.proofs.Common.{◌≡◌, ◌==◌, length, true, rules}
use Rattle.nest_place.proofs.LinkLemmas.{no_table, no_clash}
use Rattle.nest_place.proofs.links.short_table_of.Goals as goal

pub returns-then-is_empty-clause-table : goal.returns-then-is_empty-clause-table
returns-then-is_empty-clause-table c =
    let none : (length c.args.links.now == 0) ≡ true = search rules in
    no_table c.args.links.now c.new.result.items none c.new.ensures.items

pub returns-then-is_empty-clause-single : goal.returns-then-is_empty-clause-single
returns-then-is_empty-clause-single c =
    let none : (length c.args.links.now == 0) ≡ true = search rules in
    no_clash c.args.links.now none
