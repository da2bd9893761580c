-- The line that says how a command ended.
use Rattle.std.specs.Prelude.{ℕ, List, [], ◌∷◌, ◌++◌, codes}
use Rattle.std.specs.Fmt.{decimal}
use Rattle.spv_words.specs.declared.rule.Rule.{Rule}
use Rattle.spv_words.specs.Limit.{limit_name, limit_number}
use Rattle.spv_words.specs.Rule.{letter_of, number_of}
use Rattle.command_line.specs.RunLimits.{run_limit_name, run_limit_number}
use Rattle.command_line.specs.declared.endings.Ending.{Ending}
use Rattle.command_line.specs.declared.endings.Ending.TheVariants.{Done, Usage, Refused, Limit as Exceeded, RunLimit as TooMuch, ReadFault, WriteFault, Memory}

abbrev pub refusal_line : Rule → ℕ → List ℕ
refusal_line rule at = codes "refused " ++ (letter_of rule ∷ []) ++ decimal (number_of rule) ++ codes " at " ++ decimal at ++ codes "\n"

-- a quantity is above its largest number
abbrev pub limit_line : List ℕ → ℕ → List ℕ
limit_line name number = codes "limit " ++ name ++ codes " " ++ decimal number ++ codes "\n"

-- the line of an ending that names neither a rule nor a limit; nothing is said where all was done
unfoldable pub plain_line : Ending → List ℕ
plain_line Done = []
plain_line Usage = codes "usage: cross glsl|check|report [--entry NAME] [ID=VALUE]... or cross gen NUMBER\n"
plain_line (Refused r) = []
plain_line (Exceeded l) = []
plain_line (TooMuch l) = []
plain_line ReadFault = codes "read fault\n"
plain_line WriteFault = codes "write fault\n"
plain_line Memory = codes "memory\n"

abbrev pub line_of : Ending → List ℕ
line_of Done = []
line_of Usage = plain_line Usage
line_of (Refused r) = refusal_line r.rule r.at
line_of (Exceeded l) = limit_line (limit_name l) (limit_number l)
line_of (TooMuch l) = limit_line (run_limit_name l) (run_limit_number l)
line_of ReadFault = plain_line ReadFault
line_of WriteFault = plain_line WriteFault
line_of Memory = plain_line Memory
