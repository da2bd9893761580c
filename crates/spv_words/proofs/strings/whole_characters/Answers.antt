use Rattle.std.proofs.Common.{arith}
use Rattle.spv_words.proofs.strings.whole_characters.Goals as goal

pub returns-in-Err-clause-none : goal.returns-in-Err-clause-none
returns-in-Err-clause-none c = λ zero n positive. c.in-Err.ensures.cases.1.longest n (omega (arith, zero, c.valid_up_to.ensures, positive))
