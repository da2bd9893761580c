-- Inside a call: the calls that wait for it stay as they were, but for the variables that were lent to it.
use Rattle.std.specs.Prelude.{◌≡◌, ◌≤◌, ◌⊎◌, ℕ, suc, List, [], ◌∷◌, length}
use Rattle.traces.specs.Runs.{Act, goes, asks, stops, fails}
use Rattle.module_semantics.specs.State.{Root, lent, Held, pointer, Frame, Conf}
use Rattle.agree_law.specs.Agree.{IfPointer}

-- IsLent: of the call with so many calls below it this variable was lent
module _ (IsLent : ℕ → ℕ → Type 0) where
  -- the call has stayed as it was, but for what was lent of it
  pub record IsAsBefore (depth : ℕ) (f g : Frame) : Type 0 where
    pub function : g.function ≡ f.function
    pub block : g.block ≡ f.block
    pub rest : g.rest ≡ f.rest
    pub ids : (n : ℕ) → g.ids n ≡ f.ids n
    pub variables : (n : ℕ) → IsLent depth n ⊎ (g.variables n ≡ f.variables n)

  -- and so have all of these, each with the id that waits
  abbrev pub Wait : List (Frame × ℕ) → List (Frame × ℕ) → Type 0
  Wait [] [] = Unit {0}
  Wait (b ∷ bs) (d ∷ ds) = (d.1 ≡ b.1) × IsAsBefore (length bs) b.0 d.0 × Wait bs ds
  Wait _ _ = ⊥

-- start: the calls that wait, as they were
module _ (IsLent : ℕ → ℕ → Type 0) (start : List (Frame × ℕ)) where
  -- it leads into none of their variables but those that were lent
  abbrev pub IsWithin : Root → Type 0
  IsWithin (lent depth n) = (length start ≤ depth) ⊎ IsLent depth n
  IsWithin _ = Unit {0}

  abbrev pub FrameWithin : Frame → Type 0
  FrameWithin f = (n : ℕ) → IfPointer (f.ids n) (λ r path. IsWithin r)

  -- these are the calls that wait, below some whose pointers are within
  abbrev pub Within : List (Frame × ℕ) → Type 0
  Within [] = Wait IsLent start []
  Within (d ∷ ds) = Wait IsLent start (d ∷ ds) ⊎ (FrameWithin d.0 × Within ds)

  pub record IsInside (c : Conf) : Type 0 where
    pub top : FrameWithin c.top
    pub below : Within c.below

  -- what a machine does next leads to states inside the call, or out of it
  abbrev pub ActInside : Act Conf → Type 0
  ActInside (goes e c) = IsInside c ⊎ (suc (length c.below) ≤ length start)
  ActInside (asks a f) = (words : List ℕ) → IsInside (f words)
  ActInside stops = Unit {0}
  ActInside fails = Unit {0}

-- one of these arguments is a pointer into this variable
abbrev pub LeadsInto : Held → ℕ → ℕ → Type 0
LeadsInto (pointer (lent d k) path) depth n = (d ≡ depth) × (k ≡ n)
LeadsInto _ depth n = ⊥

abbrev pub LentBy : List Held → ℕ → ℕ → Type 0
LentBy [] depth n = ⊥
LentBy (h ∷ hs) depth n = LeadsInto h depth n ⊎ LentBy hs depth n

-- a pointer into a variable of a call that waits, which is not lent
abbrev pub IsUnlent : (ℕ → ℕ → Type 0) → Root → Type 0
IsUnlent IsLent (lent depth n) = IsLent depth n → ⊥
IsUnlent IsLent _ = ⊥
