-- What carrying out a command does, and when it succeeds.
use Rattle.std.specs.Prelude.{ℕ, ◌≡◌, ◌⊎◌, List, Option}
use Rattle.spv_words.specs.declared.rule.Rule.{Rule}
use Rattle.spv_words.specs.declared.rule.Limit.{Limit}
use Rattle.spv_words.specs.declared.rule.Limit.TheVariants.{Bytes}
use Rattle.conformance.specs.Rules.{Options, Breaks, Conforms, Exceeds, IsWithinLimits}
use Rattle.command_line.specs.State.{CommandState}
use Rattle.command_line.specs.declared.endings.Ending.{Ending}
use Rattle.command_line.specs.declared.endings.Ending.TheVariants.{Done, Usage, Memory}
use Rattle.command_line.specs.declared.endings.RunLimit.{RunLimit as Quantity}
use Rattle.command_line.specs.Asked.{bytes_of}
use Rattle.command_line.specs.Endings.{status_of, Above, HasCause, ReadFails, IsReadBy}
use Rattle.command_line.specs.Lines.{line_of}

-- A command ended with this status: `above` tells which quantities of a run of a module of these bytes are too much; `left` and `rest` are what the source had left before and after, `before` and `after`
-- its counts of faults, `unread` that it is as it was, `output` tells what each ending leaves in the output, `said` which
-- line was said, and `quiet` that notes are as they were.
pub record Carried (command : CommandState) (above : List ℕ → Above) (left rest : Option (List ℕ)) (before after : ℕ) (unread : Type 0) (output : Ending → Type 0) (said : List ℕ → Type 0) (quiet : Type 0) (status : ℕ) : Type 0 where
  pub ending : Ending
  pub is : status ≡ status_of ending
  pub cause : HasCause command.options above (bytes_of command left) (ReadFails command.pieces before after) ending
  pub read : IsReadBy command.pieces unread left rest ending
  pub kept : output ending
  pub line : said (line_of ending)
  pub none : ending ≡ Done → quiet

-- some rule is broken and considered
abbrev pub BreaksSome : Options → List ℕ → Type 0
BreaksSome o bytes = (rule : Rule) × (at : ℕ) × Breaks bytes o rule at

-- when a command on these bytes of a module succeeds, refuses or comes to a limit, but for want of memory; where the limit on bytes is exceeded no rule is named
pub record IsComplete (o : Options) (above : Above) (bytes : List ℕ) (read_fault write_fault : Type 0) (status : ℕ) : Type 0 where
  pub succeeds : (read_fault → ⊥) → (write_fault → ⊥) → IsWithinLimits bytes o → Conforms bytes o → ((l : Quantity) → above l → ⊥) → (status ≡ 0) ⊎ (status ≡ 6)
  pub many : (read_fault → ⊥) → (l : Quantity) → above l → (status ≡ 3) ⊎ ((status ≡ 6) ⊎ ((status ≡ 2) × BreaksSome o bytes))
  pub refuses : (read_fault → ⊥) → IsWithinLimits bytes o → (Conforms bytes o → ⊥) → (status ≡ 2) ⊎ (status ≡ 6)
  pub long : (read_fault → ⊥) → Exceeds bytes o Bytes → (status ≡ 3) ⊎ (status ≡ 6)
  pub limited : (read_fault → ⊥) → (limit : Limit) → Exceeds bytes o limit → (status ≡ 3) ⊎ ((status ≡ 6) ⊎ ((status ≡ 2) × BreaksSome o bytes))

-- words that are no command line were answered: usage, or there was no memory; nothing was read or written, and the line was said
pub record IsTurnedAway (read_none wrote_none : Type 0) (said : List ℕ → Type 0) (status : ℕ) : Type 0 where
  pub ended : (status ≡ 1) ⊎ (status ≡ 6)
  pub unread : read_none
  pub unwritten : wrote_none
  pub usage : status ≡ 1 → said (line_of Usage)
  pub memory : status ≡ 6 → said (line_of Memory)
