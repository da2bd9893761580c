use Rattle.std.proofs.Common.{rules}
use Rattle.run_lines.proofs.lines.lines_of.Goals as goal

pub returns : goal.returns
returns c = record {
  rows = c.in_ok-rows.rows.items;
  order = c.in_ok-rows.ensures;
  is = search rules;
}
