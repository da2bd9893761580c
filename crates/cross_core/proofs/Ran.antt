-- What a command did, on the input or on a generated module.
use Rattle.std.proofs.Common.{◌≡◌, ℕ, List, Option, Some, None, refl}
use Rattle.cc_outside.specs.Causes.{Rose}
use Rattle.spv_words.specs.Words.{octets_of}
use Rattle.module_gen.specs.Generated.{generated}
use Rattle.command_line.specs.State.{CommandState}
use Rattle.command_line.specs.declared.endings.Ending.{Ending}
use Rattle.command_line.specs.Asked.{bytes_of}
use Rattle.command_line.specs.Endings.{IsCause, HasCause, ReadFails, IsRead, IsReadBy, IsOutput}
use Rattle.command_line.proofs.Ends.{cause_on_input, cause_on_generated, read_on_input, read_on_generated}
use Rattle.cross_core.specs.Answers.{IsAnswer, above}
use Rattle.cross_core.proofs.Outputs.{output_on_input, output_on_generated}

module _ {S K : Type 0} (left : S → Option (List ℕ)) (rose : S → ℕ) (written : K → Option (List ℕ)) (faults : K → ℕ) (command : CommandState) (input input' : S) (output output' : K) (ending : Ending) where
  pub record Ran : Type 0 where
    pub cause : HasCause command.options (above command) (bytes_of command (left input)) (ReadFails command.pieces (rose input) (rose input')) ending
    pub read : IsReadBy command.pieces (input' ≡ input) (left input) (left input') ending
    pub kept : IsOutput written faults (IsAnswer command (bytes_of command (left input))) output output' ending

  pub on_input : command.pieces ≡ None → HasCause command.options (above command) (left input) (Rose (rose input) (rose input')) ending → IsRead (left input) (left input') ending → IsOutput written faults (IsAnswer command (left input)) output output' ending → Ran
  on_input is cause read kept = record {
    cause = cause_on_input command (above command) (left input) (rose input) (rose input') ending is cause;
    read = read_on_input command (input' ≡ input) (left input) (left input') ending is read;
    kept = output_on_input written faults command (left input) output output' ending is kept;
  }

  pub on_generated : (pieces : ℕ) → command.pieces ≡ Some pieces → input' ≡ input → IsCause command.options (above command (octets_of (generated pieces))) (octets_of (generated pieces)) ending → IsOutput written faults (IsAnswer command (Some (octets_of (generated pieces)))) output output' ending → Ran
  on_generated pieces is unread cause kept = record {
    cause = cause_on_generated command (above command) pieces (octets_of (generated pieces)) (left input) (rose input) (rose input') ending is refl cause;
    read = read_on_generated command pieces (input' ≡ input) (left input) (left input') ending is unread;
    kept = output_on_generated written faults command pieces (left input) output output' ending is kept;
  }
