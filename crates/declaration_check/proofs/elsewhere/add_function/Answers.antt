use Rattle.std.proofs.Common.{◌==◌}
use Rattle.std.specs.List.{list_any}
use Rattle.id_map.specs.Entries.{is_in}
use Rattle.declaration_check.proofs.Ors.{or_three}
use Rattle.declaration_check.proofs.elsewhere.add_function.Goals as goal

pub returns : goal.returns
returns c = λ id. rw (c.in_ok-add_blocks.ensures id, c.in_ok-add_params.ensures id, c.in_ok-insert.ensures id, c.as_slice.ensures, c.as_slice-2.ensures)
    (or_three (is_in c.args.ids.now id) (c.args.function.now.id.0 == id) (list_any (λ p. p.0.0 == id) c.args.function.now.params) _)
