use Rattle.glsl_print.proofs.Reading.{reads_what_is_printed}
use Rattle.glsl_print.proofs.printing.print.Goals as goal

pub returns-clause-reads_back : goal.returns-clause-reads_back
returns-clause-reads_back g c = reads_what_is_printed _ _ _ _ c.requires c.print_text.ensures.all
