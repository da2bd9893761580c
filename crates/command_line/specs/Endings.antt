-- Why a command ended so, and what it did to its input and output.
use Rattle.std.specs.Prelude.{ℕ, ◌≡◌, ◌<◌, ◌≤◌, ◌⊎◌, List, length, Option, None, Some, IfSome}
use Rattle.std.specs.Io.KnownBytes.{Appends, Consumes, IsAtEnd}
use Rattle.cc_outside.specs.Causes.{Rose, AppendsPrefix}
use Rattle.spv_words.specs.Limit.{limit_number}
use Rattle.spv_words.specs.declared.rule.Limit.TheVariants.{Bytes}
use Rattle.spv_words.specs.declared.rule.Fault.{Fault}
use Rattle.spv_words.specs.declared.rule.Fault.TheVariants.{Refused as RefusedFault, Limit as LimitFault, Memory as NoMemory}
use Rattle.conformance.specs.Rules.{Options, Breaks, Conforms, Exceeds, IsWithinLimits}
use Rattle.command_line.specs.declared.endings.Ending.{Ending}
use Rattle.command_line.specs.declared.endings.Ending.TheVariants.{Done, Usage, Refused, Limit, RunLimit, ReadFault, WriteFault, Memory}
use Rattle.command_line.specs.declared.endings.RunLimit.{RunLimit as Quantity}

-- the exit status
abbrev pub status_of : Ending → ℕ
status_of Done = 0
status_of Usage = 1
status_of (Refused r) = 2
status_of (Limit l) = 3
status_of (RunLimit l) = 3
status_of ReadFault = 4
status_of WriteFault = 5
status_of Memory = 6

-- the ending that a fault of a module is
abbrev pub ending_of : Fault → Ending
ending_of (RefusedFault r) = Refused r
ending_of (LimitFault l) = Limit l
ending_of NoMemory = Memory

-- which quantities of a run are above their largest numbers
abbrev pub Above : Type 1
Above = Quantity → Type 0

-- the module conforms, and is run where it is to be
pub record IsFit (o : Options) (above : Above) (bytes : List ℕ) : Type 0 where
  pub conforms : Conforms bytes o
  pub within : IsWithinLimits bytes o
  pub none : (l : Quantity) → above l → ⊥

-- what the bytes of the module are, where a command ended so over them; a rule is named only where there are no more of them than the limit
abbrev pub IsCause : Options → Above → List ℕ → Ending → Type 0
IsCause o above bytes Done = IsFit o above bytes
IsCause o above bytes Usage = ⊥
IsCause o above bytes (Refused r) = (length bytes ≤ limit_number Bytes) × Breaks bytes o r.rule r.at
IsCause o above bytes (Limit l) = Exceeds bytes o l
IsCause o above bytes (RunLimit l) = Conforms bytes o × (IsWithinLimits bytes o × above l)
IsCause o above bytes ReadFault = ⊥
IsCause o above bytes WriteFault = IsFit o above bytes
IsCause o above bytes Memory = Unit {0}

-- all was written, or the writing ended
abbrev pub IsEndOfWriting : Ending → Type 0
IsEndOfWriting Done = Unit {0}
IsEndOfWriting Usage = ⊥
IsEndOfWriting (Refused r) = ⊥
IsEndOfWriting (Limit l) = ⊥
IsEndOfWriting (RunLimit l) = ⊥
IsEndOfWriting ReadFault = ⊥
IsEndOfWriting WriteFault = Unit {0}
IsEndOfWriting Memory = Unit {0}

-- how a task ends on a module that conforms: what it says was written, or the writing ended; or a run was too much
abbrev pub IsEndOfTask : Above → Ending → Type 0
IsEndOfTask above Done = (l : Quantity) → above l → ⊥
IsEndOfTask above Usage = ⊥
IsEndOfTask above (Refused r) = ⊥
IsEndOfTask above (Limit l) = ⊥
IsEndOfTask above (RunLimit l) = above l
IsEndOfTask above ReadFault = ⊥
IsEndOfTask above WriteFault = (l : Quantity) → above l → ⊥
IsEndOfTask above Memory = Unit {0}

-- why a command ended so, where the bytes of the module are told; `read_fault` says that a read of them failed
abbrev pub HasCause : Options → (List ℕ → Above) → Option (List ℕ) → (read_fault : Type 0) → Ending → Type 0
HasCause o above bytes read_fault Usage = ⊥
HasCause o above bytes read_fault ReadFault = read_fault
HasCause o above bytes read_fault ending = IfSome bytes (λ b. IsCause o (above b) b ending)

-- a read of the module failed: its source counted that; a module that is generated is not read
abbrev pub ReadFails : Option ℕ → (before now : ℕ) → Type 0
ReadFails None before now = Rose before now
ReadFails (Some pieces) before now = ⊥

-- more bytes than the limit were taken from the source
abbrev pub TakesMore : Option (List ℕ) → Option (List ℕ) → Type 0
TakesMore left rest = (bytes : List ℕ) × Consumes left rest bytes × (limit_number Bytes < length bytes)

-- the source was read to its end, or past the limit; of a read that failed and of want of memory nothing is said
abbrev pub IsRead : Option (List ℕ) → Option (List ℕ) → Ending → Type 0
IsRead left rest Done = IsAtEnd rest
IsRead left rest Usage = IsAtEnd rest
IsRead left rest (Refused r) = IsAtEnd rest
IsRead left rest (Limit l) = IsAtEnd rest ⊎ TakesMore left rest
IsRead left rest (RunLimit l) = IsAtEnd rest
IsRead left rest ReadFault = Unit {0}
IsRead left rest WriteFault = IsAtEnd rest
IsRead left rest Memory = Unit {0}

-- so it is where the input is the module; where one is generated the source is as it was
abbrev pub IsReadBy : Option ℕ → (unread : Type 0) → Option (List ℕ) → Option (List ℕ) → Ending → Type 0
IsReadBy None unread left rest ending = IsRead left rest ending
IsReadBy (Some pieces) unread left rest ending = unread

-- the front of an answer was appended
abbrev pub AppendsFront : (List ℕ → Type 0) → Option (List ℕ) → Option (List ℕ) → Type 0
AppendsFront IsText old new = (text : List ℕ) × IsText text × AppendsPrefix old new text

-- all of an answer was appended
abbrev pub AppendsAll : (List ℕ → Type 0) → Option (List ℕ) → Option (List ℕ) → Type 0
AppendsAll IsText old new = (text : List ℕ) × IsText text × Appends old new text

-- what stands in the sink: an answer at the end, a front of one after a fault or want of memory, and else what stood there
abbrev pub IsOutput : {K : Type 0} → (K → Option (List ℕ)) → (K → ℕ) → (List ℕ → Type 0) → K → K → Ending → Type 0
IsOutput written faults IsText old new Done = AppendsAll IsText (written old) (written new)
IsOutput written faults IsText old new Usage = new ≡ old
IsOutput written faults IsText old new (Refused r) = new ≡ old
IsOutput written faults IsText old new (Limit l) = new ≡ old
IsOutput written faults IsText old new (RunLimit l) = new ≡ old
IsOutput written faults IsText old new ReadFault = new ≡ old
IsOutput written faults IsText old new WriteFault = Rose (faults old) (faults new) × AppendsFront IsText (written old) (written new)
IsOutput written faults IsText old new Memory = (new ≡ old) ⊎ AppendsFront IsText (written old) (written new)
