-- Why commands end as they do.
use Rattle.std.proofs.Common.{◌≡◌, ◌≤◌, ◌⊎◌, length, inl, inr, ℕ, List, Option, None, Some, IfSome, refl, sym, subst, arith}
use Rattle.spv_words.specs.declared.rule.Fault.{Fault}
use Rattle.spv_words.specs.declared.rule.Fault.TheVariants.{Refused as RefusedFault, Limit as LimitFault, Memory as NoMemory}
use Rattle.spv_words.specs.declared.rule.Limit.{Limit as AnyLimit}
use Rattle.spv_words.specs.declared.rule.Limit.TheVariants as limit
use Rattle.spv_words.specs.Limit.{limit_number}
use Rattle.std.specs.Io.KnownBytes.{IsAtEnd}
use Rattle.cc_outside.specs.Causes.{Rose}
use Rattle.conformance.specs.Rules.{Options, Conforms, Exceeds, IsRight, IsWithinLimits}
use Rattle.conformance.proofs.Considered.{is_broken}
use Rattle.command_line.specs.State.{CommandState}
use Rattle.command_line.specs.declared.endings.Ending.{Ending}
use Rattle.command_line.specs.declared.endings.Ending.TheVariants.{Done, Usage, Refused, Limit, RunLimit, ReadFault, WriteFault, Memory}
use Rattle.command_line.specs.declared.endings.RunLimit.{RunLimit as Quantity}
use Rattle.command_line.specs.Asked.{bytes_by, bytes_of}
use Rattle.command_line.specs.Endings.{ending_of, status_of, Above, IsFit, IsCause, IsEndOfWriting, IsEndOfTask, HasCause, ReadFails, IsRead, IsReadBy, IsOutput}
use Rattle.command_line.specs.Carried.{IsComplete, BreaksSome}

pub fault_cause : (o : Options) (above : Above) (bytes : List ℕ) (fault : Fault) → length bytes ≤ limit_number limit.Bytes → IsRight bytes o fault → IsCause o above bytes (ending_of fault)
fault_cause o above bytes (RefusedFault r) fits h = (fits, h)
fault_cause o above bytes (LimitFault l) fits h = h
fault_cause o above bytes NoMemory fits h = tt

-- an ending of what was written, where no run is too much
pub end_of_task : (above : Above) (ending : Ending) → ((l : Quantity) → above l → ⊥) → IsEndOfWriting ending → IsEndOfTask above ending
end_of_task above Done none h = none
end_of_task above Usage none h = h
end_of_task above (Refused r) none h = h
end_of_task above (Limit l) none h = h
end_of_task above (RunLimit l) none h = absurd h
end_of_task above ReadFault none h = h
end_of_task above WriteFault none h = none
end_of_task above Memory none h = tt

-- an ending of a task on a module that conforms
pub met_cause : (o : Options) (above : Above) (bytes : List ℕ) (ending : Ending) → IsEndOfTask above ending → Conforms bytes o × IsWithinLimits bytes o → IsCause o above bytes ending
met_cause o above bytes Done h fine = record { conforms = fine.0; within = fine.1; none = h }
met_cause o above bytes Usage h fine = absurd h
met_cause o above bytes (Refused r) h fine = absurd h
met_cause o above bytes (Limit l) h fine = absurd h
met_cause o above bytes (RunLimit l) h fine = (fine.0, (fine.1, h))
met_cause o above bytes ReadFault h fine = absurd h
met_cause o above bytes WriteFault h fine = record { conforms = fine.0; within = fine.1; none = h }
met_cause o above bytes Memory h fine = tt

-- what holds of the bytes that were read holds of what was left, where that is told
pub told : (left : Option (List ℕ)) (read : List ℕ) (P : List ℕ → Type 0) → IfSome left (λ bytes. read ≡ bytes) → P read → IfSome left P
told None read P same holds = tt
told (Some bytes) read P same holds = subst P same holds

module _ (o : Options) (above : Above) (bytes : List ℕ) where
  succeeds : (write_fault : Type 0) (ending : Ending) → IsCause o above bytes ending → (write_fault → ⊥) → IsWithinLimits bytes o → Conforms bytes o → ((l : Quantity) → above l → ⊥) → (ending ≡ WriteFault → write_fault) → (status_of ending ≡ 0) ⊎ (status_of ending ≡ 6)
  succeeds f Done h g w m n k = inl refl
  succeeds f Usage h g w m n k = absurd h
  succeeds f (Refused r) h g w m n k = absurd (m r.rule r.at (is_broken bytes o r.rule r.at h.1))
  succeeds f (Limit l) h g w m n k = absurd (w l h)
  succeeds f (RunLimit l) h g w m n k = absurd (n l h.1.1)
  succeeds f ReadFault h g w m n k = absurd h
  succeeds f WriteFault h g w m n k = absurd (g (k refl))
  succeeds f Memory h g w m n k = inr refl

  many : (ending : Ending) → IsCause o above bytes ending → (l : Quantity) → above l → (status_of ending ≡ 3) ⊎ ((status_of ending ≡ 6) ⊎ ((status_of ending ≡ 2) × BreaksSome o bytes))
  many Done h l a = absurd (h.none l a)
  many Usage h l a = absurd h
  many (Refused r) h l a = inr (inr (refl, (r.rule, r.at, h.1)))
  many (Limit k) h l a = inl refl
  many (RunLimit k) h l a = inl refl
  many ReadFault h l a = absurd h
  many WriteFault h l a = absurd (h.none l a)
  many Memory h l a = inr (inl refl)

  refuses : (ending : Ending) → IsCause o above bytes ending → IsWithinLimits bytes o → (Conforms bytes o → ⊥) → (status_of ending ≡ 2) ⊎ (status_of ending ≡ 6)
  refuses Done h w n = absurd (n h.conforms)
  refuses Usage h w n = absurd h
  refuses (Refused r) h w n = inl refl
  refuses (Limit l) h w n = absurd (w l h)
  refuses (RunLimit l) h w n = absurd (n h.0)
  refuses ReadFault h w n = absurd h
  refuses WriteFault h w n = absurd (n h.conforms)
  refuses Memory h w n = inr refl

  limited : (ending : Ending) → IsCause o above bytes ending → (l : AnyLimit) → Exceeds bytes o l → (status_of ending ≡ 3) ⊎ ((status_of ending ≡ 6) ⊎ ((status_of ending ≡ 2) × BreaksSome o bytes))
  limited Done h l e = absurd (h.within l e)
  limited Usage h l e = absurd h
  limited (Refused r) h l e = inr (inr (refl, (r.rule, r.at, h.1)))
  limited (Limit k) h l e = inl refl
  limited (RunLimit k) h l e = inl refl
  limited ReadFault h l e = absurd h
  limited WriteFault h l e = absurd (h.within l e)
  limited Memory h l e = inr (inl refl)

  longer : (ending : Ending) → IsCause o above bytes ending → Exceeds bytes o limit.Bytes → (status_of ending ≡ 3) ⊎ (status_of ending ≡ 6)
  longer Done h e = absurd (h.within limit.Bytes e)
  longer Usage h e = absurd h
  longer (Refused r) h e = absurd (omega (arith, h.0, e))
  longer (Limit k) h e = inl refl
  longer (RunLimit k) h e = inl refl
  longer ReadFault h e = absurd h
  longer WriteFault h e = absurd (h.within limit.Bytes e)
  longer Memory h e = inr refl

module _ (o : Options) (above : List ℕ → Above) (read_fault : Type 0) where
  -- where the bytes are told and no read failed, they are the cause
  read_cause : (bytes : List ℕ) (ending : Ending) → HasCause o above (Some bytes) read_fault ending → (read_fault → ⊥) → IsCause o (above bytes) bytes ending
  read_cause bytes Done h n = h
  read_cause bytes Usage h n = absurd h
  read_cause bytes (Refused r) h n = h
  read_cause bytes (Limit l) h n = h
  read_cause bytes (RunLimit l) h n = h
  read_cause bytes ReadFault h n = absurd (n h)
  read_cause bytes WriteFault h n = h
  read_cause bytes Memory h n = h

  -- the bytes that were read are those that were left, where that is told
  pub has_cause : (left : Option (List ℕ)) (read : List ℕ) (ending : Ending) → IfSome left (λ bytes. read ≡ bytes) → IsCause o (above read) read ending → HasCause o above left read_fault ending
  has_cause left read Done same h = told left read (λ b. IsCause o (above b) b Done) same h
  has_cause left read Usage same h = h
  has_cause left read (Refused r) same h = told left read (λ b. IsCause o (above b) b (Refused r)) same h
  has_cause left read (Limit l) same h = told left read (λ b. IsCause o (above b) b (Limit l)) same h
  has_cause left read (RunLimit l) same h = told left read (λ b. IsCause o (above b) b (RunLimit l)) same h
  has_cause left read ReadFault same h = absurd h
  has_cause left read WriteFault same h = told left read (λ b. IsCause o (above b) b WriteFault) same h
  has_cause left read Memory same h = told left read (λ b. IsCause o (above b) b Memory) same h

  -- a command that is carried out is no usage
  pub no_usage : (bytes : Option (List ℕ)) (ending : Ending) → HasCause o above bytes read_fault ending → status_of ending ≡ 1 → ⊥
  no_usage bytes Done h e = omega (arith, e)
  no_usage bytes Usage h e = h
  no_usage bytes (Refused r) h e = omega (arith, e)
  no_usage bytes (Limit l) h e = omega (arith, e)
  no_usage bytes (RunLimit l) h e = omega (arith, e)
  no_usage bytes ReadFault h e = omega (arith, e)
  no_usage bytes WriteFault h e = omega (arith, e)
  no_usage bytes Memory h e = omega (arith, e)

  pub complete : (bytes : Option (List ℕ)) (ending : Ending) (write_fault : Type 0) (status : ℕ) → HasCause o above bytes read_fault ending → (ending ≡ WriteFault → write_fault) → status ≡ status_of ending → IfSome bytes (λ b. IsComplete o (above b) b read_fault write_fault status)
  complete None ending write_fault status h k is = tt
  complete (Some bytes) ending write_fault status h k is = record {
    succeeds = λ n g w m a. rw is (succeeds o (above bytes) bytes write_fault ending (read_cause bytes ending h n) g w m a k);
    many = λ n l a. rw is (many o (above bytes) bytes ending (read_cause bytes ending h n) l a);
    refuses = λ n w m. rw is (refuses o (above bytes) bytes ending (read_cause bytes ending h n) w m);
    long = λ n e. rw is (longer o (above bytes) bytes ending (read_cause bytes ending h n) e);
    limited = λ n l e. rw is (limited o (above bytes) bytes ending (read_cause bytes ending h n) l e);
  }

-- a command on the input, and one on a generated module
pub cause_on_input : (command : CommandState) (above : List ℕ → Above) (left : Option (List ℕ)) (before now : ℕ) (ending : Ending) → command.pieces ≡ None → HasCause command.options above left (Rose before now) ending → HasCause command.options above (bytes_of command left) (ReadFails command.pieces before now) ending
cause_on_input command above left before now ending is h =
    subst (λ (p : Option ℕ). HasCause command.options above (bytes_by p left) (ReadFails p before now) ending) (sym is) h

-- a cause that holds of the bytes themselves
known_cause : (o : Options) (above : List ℕ → Above) (bytes : List ℕ) (ending : Ending) → IsCause o (above bytes) bytes ending → HasCause o above (Some bytes) ⊥ ending
known_cause o above bytes Done h = h
known_cause o above bytes Usage h = h
known_cause o above bytes (Refused r) h = h
known_cause o above bytes (Limit l) h = h
known_cause o above bytes (RunLimit l) h = h
known_cause o above bytes ReadFault h = h
known_cause o above bytes WriteFault h = h
known_cause o above bytes Memory h = h

pub cause_on_generated : (command : CommandState) (above : List ℕ → Above) (pieces : ℕ) (bytes : List ℕ) (left : Option (List ℕ)) (before now : ℕ) (ending : Ending) → command.pieces ≡ Some pieces → bytes_by (Some pieces) left ≡ Some bytes → IsCause command.options (above bytes) bytes ending → HasCause command.options above (bytes_of command left) (ReadFails command.pieces before now) ending
cause_on_generated command above pieces bytes left before now ending is made h =
    subst (λ (p : Option ℕ). HasCause command.options above (bytes_by p left) (ReadFails p before now) ending) (sym is)
    (subst (λ (b : Option (List ℕ)). HasCause command.options above b ⊥ ending) (sym made) (known_cause command.options above bytes ending h))

pub read_on_input : (command : CommandState) (unread : Type 0) (left rest : Option (List ℕ)) (ending : Ending) → command.pieces ≡ None → IsRead left rest ending → IsReadBy command.pieces unread left rest ending
read_on_input command unread left rest ending is h = subst (λ (p : Option ℕ). IsReadBy p unread left rest ending) (sym is) h

pub read_on_generated : (command : CommandState) (pieces : ℕ) (unread : Type 0) (left rest : Option (List ℕ)) (ending : Ending) → command.pieces ≡ Some pieces → unread → IsReadBy command.pieces unread left rest ending
read_on_generated command pieces unread left rest ending is h = subst (λ (p : Option ℕ). IsReadBy p unread left rest ending) (sym is) h

-- nothing was read
pub read_none : (pieces : Option ℕ) (unread : Type 0) (left rest : Option (List ℕ)) → unread → IsReadBy pieces unread left rest Memory
read_none None unread left rest h = tt
read_none (Some n) unread left rest h = h

-- at a write fault the count rose
pub write_rose : {K : Type 0} (written : K → Option (List ℕ)) (faults : K → ℕ) (IsText : List ℕ → Type 0) (old new : K) (ending : Ending) → ending ≡ WriteFault → IsOutput written faults IsText old new ending → Rose (faults old) (faults new)
write_rose written faults IsText old new ending is out = (subst (λ (e : Ending). IsOutput written faults IsText old new e) is out).0

-- a source that was read to its end
pub read_to_end : (left rest : Option (List ℕ)) (ending : Ending) → IsAtEnd rest → IsRead left rest ending
read_to_end left rest Done h = h
read_to_end left rest Usage h = h
read_to_end left rest (Refused r) h = h
read_to_end left rest (Limit l) h = inl h
read_to_end left rest (RunLimit l) h = h
read_to_end left rest ReadFault h = tt
read_to_end left rest WriteFault h = h
read_to_end left rest Memory h = tt

-- what holds of any holds of some
pub of_any : {X : Type 0} (o : Option X) (P : X → Type 0) → ((x : X) → P x) → IfSome o P
of_any None P h = tt
of_any (Some x) P h = h x
