use Rattle.std.proofs.Common.{append_assoc, rules}
use Rattle.run_lines.proofs.lines.push_row.Goals as goal

pub returns : goal.returns
returns c = search (rules, append_assoc)
