use Rattle.std.proofs.Common.{ap, ◌∙◌}
use Rattle.command_line.specs.Summary.{is_reached, count_blocks, summary_line}
use Rattle.command_line.proofs.summary.summary_of.Goals as goal

pub returns : goal.returns
returns c =
    let counts = c.in_ok-counts.counts in
    c.in_ok-line.ensures
    ∙ ap (λ n. summary_line n counts.loops c.args.text.now) c.in_ok-counts.ensures.blocks
    ∙ ap (λ n. summary_line (count_blocks is_reached c.args.«module».now) n c.args.text.now) c.in_ok-counts.ensures.loops
