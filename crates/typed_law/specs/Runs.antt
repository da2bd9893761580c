-- The states of a conforming module's run.
use Rattle.std.specs.Prelude.{◌≡◌, ℕ, List, [], ◌∷◌, Some, Contains}
use Rattle.spv_module.specs.State.{ModuleState}
use Rattle.spv_module.specs.declared.inst.Inst.{Inst}
use Rattle.spv_index.specs.Locals.{insts_of}
use Rattle.traces.specs.Events.{Access, Event, event_of}
use Rattle.traces.specs.Runs.{Act, goes, asks, stops, fails}
use Rattle.plan_law.specs.InOrder.{IsAmong}
use Rattle.module_semantics.specs.Setting.{Setting}
use Rattle.module_semantics.specs.State.{Frame, Conf}
use Rattle.module_semantics.specs.Steps.{act}
use Rattle.fits_law.specs.State.{ConfFits}

-- the call is one of a function of the module, and what is left of its block stands in the function
abbrev pub IsUnderWay : ModuleState → Frame → Type 0
IsUnderWay m c = Contains m.functions c.function × ((i : Inst) → IsAmong i c.rest → IsAmong i (insts_of c.function))

abbrev pub AreUnderWay : ModuleState → List (Frame × ℕ) → Type 0
AreUnderWay m [] = Unit {0}
AreUnderWay m (b ∷ bs) = IsUnderWay m b.0 × AreUnderWay m bs

abbrev pub IsOfModule : ModuleState → Conf → Type 0
IsOfModule m c = IsUnderWay m c.top × AreUnderWay m c.below

-- a state fits its types, and its calls are of the module
pub record IsTypedState (s : Setting) (c : Conf) : Type 0 where
  pub fit : ConfFits s c
  pub of_module : IsOfModule s.of c

-- what is done next leads to such states, whatever the answer to an access
abbrev pub LeadsOn : (Conf → Type 0) → Act Conf → Type 0
LeadsOn P (goes e c) = P c
LeadsOn P (asks a f) = (words : List ℕ) (e : Event) → event_of a words ≡ Some e → P (f words)
LeadsOn P stops = Unit {0}
LeadsOn P fails = Unit {0}

-- the states that a run comes to from a state, whatever the answers to accesses
pub data Reaches (s : Setting) (d : Conf) : Conf → Type 0 where
  here : Reaches s d d
  by_step : (c next : Conf) (e : List Event) → act s c ≡ goes e next → Reaches s d next → Reaches s d c
  by_answer : (c : Conf) (a : Access) (f : List ℕ → Conf) (words : List ℕ) (e : Event) → act s c ≡ asks a f → event_of a words ≡ Some e → Reaches s d (f words) → Reaches s d c
