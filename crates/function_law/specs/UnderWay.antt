-- What is known of a module's state alone, and of a call under way.
use Rattle.std.specs.Prelude.{◌≡◌, ℕ, List, Option, length}
use Rattle.spv_module.specs.declared.inst.Inst.{Inst}
use Rattle.spv_module.specs.declared.inst.Function.{Function}
use Rattle.spv_index.specs.Locals.{insts_of}
use Rattle.traces.specs.Events.{Event}
use Rattle.traces.specs.Runs.{go, Supplied}
use Rattle.module_semantics.specs.Setting.{Setting}
use Rattle.module_semantics.specs.State.{Held, Frame, Conf}
use Rattle.module_semantics.specs.Steps.{step_kind}
use Rattle.fits_law.specs.State.{ConfFits, ModuleFits}
use Rattle.fits_law.specs.Typed.{IsTyped}
use Rattle.agree_law.specs.Answers.{machine}
use Rattle.agree_law.specs.Blocks.{IsOf}
use Rattle.call_law.specs.Waits.{IsInside}
use Rattle.call_law.specs.Frames.{HoldsOfAll}
use Rattle.call_law.specs.Known.{IsFunctionOf, IsValued, IsLending, KeepsParameters, LendsWhole}

-- More: what else is known, and each step keeps
module _ (s : Setting) (More : Conf → Type 0) where
  -- whatever call is under way: it fits its types, and of all calls it is known to what their pointers lead
  pub record IsKnown (c : Conf) : Type 0 where
    pub fits : ConfFits s c
    pub valued : HoldsOfAll 0 IsValued c
    pub lending : HoldsOfAll 0 (IsLending s) c
    pub more : More c

  -- the call of this function, whose parameters got these, below which these wait, with the variables of theirs that were lent
  pub record IsUnderWay (IsLent : ℕ → ℕ → Type 0) (start : List (Frame × ℕ)) (g : Function) (given : ℕ → Option Held) (c : Conf) : Type 0 where
    pub known : IsKnown c
    pub inside : IsInside IsLent start c
    pub parameters : HoldsOfAll (length start) (KeepsParameters s (length start) g given) c
    pub height : length c.below ≡ length start

  -- what the rules say of the module
  pub record IsRuled : Type 0 where
    pub fits : ModuleFits s
    pub typed : (f : Function) → IsFunctionOf f s.of.functions → (i : Inst) → IsOf i (insts_of f) → IsTyped s f i (step_kind i.op)
    pub lends : LendsWhole s
    pub more : (c d : Supplied Conf) (e : List Event) → machine s c ≡ go e d → More c.at → More d.at
