-- What several items of a schedule come to.
use Rattle.std.specs.Prelude.{◌≡◌, ℕ, ◌<◌, ◌≤◌, ◌+◌, Bool, true, false, List, Option, Some, None, length, slice_index, take}
use Rattle.traces.specs.Events as trace
use Rattle.dispatch_semantics.specs.Dispatch.{State}
use Rattle.group_items.specs.declared.schedule.End.{End}
use Rattle.group_items.specs.declared.schedule.End.TheVariants as end
use Rattle.group_items.specs.declared.play.Turn.{Turn}
use Rattle.group_items.specs.declared.play.Turn.TheVariants.{Waits, Undefined, Cut}
use Rattle.group_items.specs.declared.sequence.Played.{Played}
use Rattle.group_items.specs.declared.sequence.Played.TheVariants.{Stopped, Through}
use Rattle.group_items.specs.Events.{weight_of}
use Rattle.group_items.specs.Sides.{Runs}
use Rattle.group_items.specs.Schedule.{Setup, now, Goes, turn, rounds, May, IsStill, IsNeither, IsUndefined, HasEndedFreely, most_weight}

-- how the schedule ends at an item, where it does, and whether an invocation has waited
abbrev pub end_by : Turn → ℕ → Option End
end_by Undefined i = Some (end.Undefined i)
end_by Cut i = Some (end.Cut i)
end_by _ i = None

abbrev pub waits_by : Bool → Turn → Bool
waits_by w Waits = true
waits_by w _ = w

module _ (d : Setup) (runs : Runs) (old : List (ℕ × trace.Event)) (items : List ℕ) where
  -- the schedule ends at this item
  abbrev pub StopsAt : State → ℕ → End → Type 0
  StopsAt s i (end.Undefined j) = (i ≡ j) × (IsNeither d runs s j × IsUndefined d runs s j)
  StopsAt s i (end.Cut j) = (i ≡ j) × (IsNeither d runs s j × (IsUndefined d runs s j → ⊥))
  StopsAt s i _ = ⊥

  pub record HasStopped (new : List (ℕ × trace.Event)) (e : End) : Type 0 where
    pub front : ℕ
    pub within : front < length items
    pub goes : Goes d runs old (take front items) new
    pub stops : StopsAt (now d new) (slice_index items front) e

  -- so many items had no move: one waited, or all have ended
  abbrev pub Rested : ℕ → Bool → Type 0
  Rested n true = (k : ℕ) × ((k < n) × (May d runs (now d old) (slice_index items k) → ⊥))
  Rested n false = (k : ℕ) → k < n → HasEndedFreely d runs (now d old) (slice_index items k)

  -- so many items were played
  pub record IsThrough (n : ℕ) (new : List (ℕ × trace.Event)) (waits : Bool) : Type 0 where
    pub goes : Goes d runs old (take n items) new
    pub rises : weight_of old ≤ weight_of new
    pub same : weight_of new ≡ weight_of old → new ≡ old
    pub still : weight_of new ≡ weight_of old → (k : ℕ) → k < n → IsStill d runs (now d old) (slice_index items k)
    pub rested : weight_of new ≡ weight_of old → Rested n waits

  abbrev pub IsPlayed : List (ℕ × trace.Event) → Played → Type 0
  IsPlayed new (Stopped e) = HasStopped new e
  IsPlayed new (Through waits) = IsThrough (length items) new waits

  -- the items up to one have too many events
  pub record TooMuchIn : Type 0 where
    pub front : ℕ
    pub within : front < length items
    pub new : List (ℕ × trace.Event)
    pub goes : Goes d runs old (take (front + 1) items) new
    pub above : most_weight < weight_of new

-- what whole rounds come to
module _ (d : Setup) (runs : Runs) (old : List (ℕ × trace.Event)) where
  -- the last round: at an item of it the schedule ends, or it had no move
  abbrev pub IsLastRound : List (ℕ × trace.Event) → List (ℕ × trace.Event) → End → Type 0
  IsLastRound mid new end.Ended = IsThrough d runs mid (turn d.count) (length (turn d.count)) new false × (weight_of new ≡ weight_of mid)
  IsLastRound mid new end.Waiting = IsThrough d runs mid (turn d.count) (length (turn d.count)) new true × (weight_of new ≡ weight_of mid)
  IsLastRound mid new e = HasStopped d runs mid (turn d.count) new e

  pub record RoundsEnd (new : List (ℕ × trace.Event)) (e : End) : Type 0 where
    pub count : ℕ
    pub mid : List (ℕ × trace.Event)
    pub goes : Goes d runs old (rounds d.count count) mid
    pub last : IsLastRound mid new e

  -- a round has too many events
  pub record RoundsTooMuch : Type 0 where
    pub count : ℕ
    pub mid : List (ℕ × trace.Event)
    pub goes : Goes d runs old (rounds d.count count) mid
    pub too_much : TooMuchIn d runs mid (turn d.count)
