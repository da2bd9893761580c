-- The state of a run that the program's own stands for.
use Rattle.std.specs.Prelude.{◌≡◌, ℕ, ◌+◌, Bool, true, false, List, [], ◌∷◌, ◌++◌, drop, Option, Some, None, slice_get}
use Rattle.std.specs.Option.{option_map_or}
use Rattle.spv_module.specs.declared.inst.Inst.{Inst}
use Rattle.spv_module.specs.declared.inst.Block.{Block}
use Rattle.spv_module.specs.declared.inst.Function.{Function}
use Rattle.module_semantics.specs.State as state
use Rattle.run_state.specs.declared.conf.Frame.{Frame}
use Rattle.run_state.specs.declared.conf.Conf.{Conf}
use Rattle.run_state.specs.Ids.{ids_of, variables_of}

-- a function without blocks
abbrev pub nothing : Function
nothing = record { id = record { 0 = 0 }; ty = record { 0 = 0 }; result = record { 0 = 0 }; at = 0; params = []; blocks = [] }

abbrev pub function_at : List Function → ℕ → Function
function_at fs k = option_map_or (λ (f : Function). f) (slice_get fs k) nothing

-- the instructions of a block that are left behind so many
abbrev pub left_in : Option Block → ℕ → List Inst
left_in None n = []
left_in (Some b) n = drop n b.insts

abbrev pub left_at : Function → ℕ → ℕ → List Inst
left_at f block n = left_in (slice_get f.blocks block) n

module _ (fs : List Function) where
  abbrev pub frame_of : Frame → state.Frame
  frame_of f = record {
    function = function_at fs f.function;
    block = f.block;
    rest = left_at (function_at fs f.function) f.block f.at;
    ids = ids_of f.ids;
    variables = variables_of f.variables;
  }

  -- what is left behind the next instruction
  abbrev pub behind : Conf → List Inst
  behind c = left_at (function_at fs c.top.function) c.top.block (c.top.at + 1)

  -- the last call that began is the first
  abbrev pub calls_of : List (Frame × ℕ) → List (state.Frame × ℕ)
  calls_of [] = []
  calls_of (c ∷ cs) = calls_of cs ++ (frame_of c.0, c.1) ∷ []

  abbrev pub conf_of : Conf → state.Conf
  conf_of c = record { top = frame_of c.top; below = calls_of c.below.items; privates = variables_of c.privates }

-- behind an instruction, whose result has this
pub record IsSet (old : Conf) (id : ℕ) (h : state.Held) (new : Conf) : Type 0 where
  pub function : new.top.function ≡ old.top.function
  pub block : new.top.block ≡ old.top.block
  pub at : new.top.at ≡ old.top.at + 1
  pub ids : (q : ℕ) → ids_of new.top.ids q ≡ state.put (ids_of old.top.ids) id h q
  pub variables : new.top.variables ≡ old.top.variables
  pub below : new.below ≡ old.below
  pub privates : new.privates ≡ old.privates

-- behind an instruction
pub record IsAdvanced (old new : Conf) : Type 0 where
  pub function : new.top.function ≡ old.top.function
  pub block : new.top.block ≡ old.top.block
  pub at : new.top.at ≡ old.top.at + 1
  pub ids : new.top.ids ≡ old.top.ids
  pub variables : new.top.variables ≡ old.top.variables
  pub below : new.below ≡ old.below
  pub privates : new.privates ≡ old.privates

-- nothing has changed but room
pub record IsSame (old new : Conf) : Type 0 where
  pub function : new.top.function ≡ old.top.function
  pub block : new.top.block ≡ old.top.block
  pub at : new.top.at ≡ old.top.at
  pub ids : (q : ℕ) → ids_of new.top.ids q ≡ ids_of old.top.ids q
  pub variables : new.top.variables ≡ old.top.variables
  pub below : new.below ≡ old.below
  pub privates : new.privates ≡ old.privates

-- the call below goes on, where there is one
module _ (fs : List Function) where
  abbrev pub HasLeft : Bool → Conf → Conf → Type 0
  HasLeft false old new = (calls_of fs old.below.items ≡ []) × (conf_of fs new ≡ conf_of fs old)
  HasLeft true old new = (b : state.Frame × ℕ) × ((rest : List (state.Frame × ℕ)) × ((calls_of fs old.below.items ≡ b ∷ rest) × (conf_of fs new ≡ record (conf_of fs old) { top = b.0; below = rest })))
