-- What is printed reads back.
use Rattle.std.proofs.Common.{ℕ, List, Option, Result, Ok, Err, OnOk}
use Rattle.std.specs.Io.KnownBytes.{Appends}
use Rattle.glsl_ast.specs.Tree.{TranslationUnit}
use Rattle.glsl_grammar.specs.InGrammar.{IsInGrammar}
use Rattle.glsl_grammar.specs.Layout.{unit_text}
use Rattle.glsl_grammar.proofs.ReadsBack.{reads_back}
use Rattle.glsl_print.specs.Reads.{AppendsTextOf}
use Rattle.glsl_print.specs.declared.end.PrintEnd.{PrintEnd}

pub reads_what_is_printed : (unit : TranslationUnit) (old new : Option (List ℕ)) (result : Result (Unit {0}) PrintEnd) → IsInGrammar unit → OnOk result (Appends old new (unit_text unit)) → OnOk result (AppendsTextOf old new unit)
reads_what_is_printed unit old new (Ok u) is all = record { text = unit_text unit; appended = all; reads = reads_back unit is }
reads_what_is_printed unit old new (Err e) is all = tt
