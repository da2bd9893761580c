-- What moves do, and what copies at once do.
use Rattle.std.specs.Prelude.{ℕ, ◌≡◌, ◌==◌, List, [], ◌∷◌, cond, Contains}
use Rattle.spv_module.specs.declared.tree.Value.{Value}
use Rattle.phi_copies.specs.declared.moves.Src.{Src}
use Rattle.phi_copies.specs.declared.moves.Src.TheVariants.{Var as Variable, Constant}
use Rattle.phi_copies.specs.declared.moves.Move.{Move}
use Rattle.phi_copies.specs.declared.moves.Move.TheVariants.{Set, Save, Restore}
use Rattle.phi_copies.specs.Sequence.{Pair, target}

-- the values of the variables and of the spares
pub record State (V : Type 0) : Type 0 where
  pub vars : ℕ → V
  pub spares : ℕ → V

module _ (V : Type 0) where
  -- a function with another value at one number
  abbrev pub put : ℕ → V → (ℕ → V) → ℕ → V
  put k x f n = cond (k == n) x (f n)

  -- the value of a source, where constants have these
  abbrev pub value : (ℕ → V) → (ℕ → V) → Src → V
  value constants vars (Variable x) = vars x.0
  value constants vars (Constant c) = constants c.0

  abbrev pub step : (ℕ → V) → State V → Move → State V
  step constants s (Set t src) = record { vars = put t.0 (value constants s.vars src) s.vars; spares = s.spares }
  step constants s (Save k t) = record { vars = s.vars; spares = put k (s.vars t.0) s.spares }
  step constants s (Restore t k) = record { vars = put t.0 (s.spares k) s.vars; spares = s.spares }

  -- the moves, one after another
  abbrev pub run : (ℕ → V) → State V → List Move → State V
  run constants s [] = s
  run constants s (m ∷ ms) = run constants (step constants s m) ms

  -- all pairs at once: each target has the value that its source had before, and the other variables stay
  pub record IsAtOnce (constants : ℕ → V) (pairs : List Pair) (before after : ℕ → V) : Type 0 where
    pub given : (p : Pair) → Contains pairs p → after (target p) ≡ value constants before p.1
    pub other : (v : ℕ) → ((p : Pair) → Contains pairs p → target p ≡ v → ⊥) → after v ≡ before v

  -- from whatever state, the moves do what all pairs at once do
  abbrev pub DoAtOnce : List Pair → List Move → Type 0
  DoAtOnce pairs moves = (constants : ℕ → V) (s : State V) → IsAtOnce constants pairs s.vars (run constants s moves).vars

-- so it is for the values of modules
abbrev pub AreAtOnce : List Pair → List Move → Type 0
AreAtOnce pairs moves = DoAtOnce Value pairs moves
