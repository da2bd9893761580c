-- The states in which a call has begun, and has returned a value.
use Rattle.std.specs.Prelude.{◌≡◌, ℕ, Bool, true, false, List, [], ◌∷◌}
use Rattle.spv_module.specs.declared.inst.Function.{Function}
use Rattle.spv_types.specs.Tree.{ValueTree}
use Rattle.module_semantics.specs.State as state
use Rattle.module_semantics.specs.Steps.{given}
use Rattle.run_state.specs.declared.conf.Frame.{Frame}
use Rattle.run_state.specs.declared.conf.Conf.{Conf}
use Rattle.run_state.specs.Confs.{conf_of, frame_of, calls_of, behind}

-- the call with this frame on top, and the present one below it, behind its instruction, whose result has this id
abbrev pub with_call_on : List Function → Conf → Frame → ℕ → state.Conf
with_call_on fs c f waits = record (conf_of fs c) { top = frame_of fs f; below = (record (frame_of fs c.top) { rest = behind fs c }, waits) ∷ (conf_of fs c).below }

-- the call below goes on with this value, where there is one
module _ (fs : List Function) (old new : Conf) (v : ValueTree) where
  abbrev pub HasGiven : Bool → Type 0
  HasGiven false = (calls_of fs old.below.items ≡ []) × (conf_of fs new ≡ conf_of fs old)
  HasGiven true = (b : state.Frame × ℕ) × ((rest : List (state.Frame × ℕ)) × ((calls_of fs old.below.items ≡ b ∷ rest) × (conf_of fs new ≡ record (conf_of fs old) { top = given v b; below = rest })))
