-- A text preserves what its module does.
use Rattle.std.specs.Prelude.{ℕ, ◌<◌, List, []}
use Rattle.spv_module.specs.State.{ModuleState}
use Rattle.profile_rules.specs.declared.given.Given.{Given}
use Rattle.glsl_ast.specs.Tree.{TranslationUnit}
use Rattle.traces.specs.Invocations.{Invocation, IsInvocation}
use Rattle.traces.specs.Preservation.{PreservesEvents}
use Rattle.module_semantics.specs.Run.{module_run}
use Rattle.glsl_semantics.specs.Run.{text_run}
use Rattle.dispatch_semantics.specs.Store.{Store, AreAnswers}
use Rattle.dispatch_semantics.specs.Grid.{Grid, invocation, count}
use Rattle.dispatch_semantics.specs.Dispatch.{Side, of_module, of_text, State}

-- For the function of an entry point, and with overrides of specialization constants, which go over what the invocation is told on the module's side alone: in one invocation, for every sequence of answers, wherever the module's meaning is defined, the text makes the same events in the same order, and ends exactly when the module ends.
abbrev pub PreservesIn : ModuleState → ℕ → List (ℕ × Given) → TranslationUnit → Invocation → Type 0
PreservesIn m entry overrides unit inv = (answers : List (List ℕ)) → AreAnswers answers → PreservesEvents (module_run m entry overrides inv answers) (text_run unit inv answers)

-- in every invocation
pub record Preserves (m : ModuleState) (entry : ℕ) (overrides : List (ℕ × Given)) (unit : TranslationUnit) : Type 0 where
  pub events : (inv : Invocation) → IsInvocation inv → PreservesIn m entry overrides unit inv

-- the two sides of a dispatch: the module within so many steps, the text within so many turns of each loop
abbrev pub module_side : ModuleState → ℕ → List (ℕ × Given) → Grid → ℕ → Side
module_side m entry overrides g n i answers = of_module (module_run m entry overrides (invocation g i) answers n)

abbrev pub text_side : TranslationUnit → Grid → ℕ → Side
text_side unit g k i answers = of_text (text_run unit (invocation g i) answers k)

-- each invocation of the grid is told words
abbrev pub IsGrid : Grid → Type 0
IsGrid g = (i : ℕ) → i < count g → IsInvocation (invocation g i)

-- at the start no invocation has made an event
abbrev pub first_state : Store → State
first_state store = record { store = store; past = λ i. record { events = []; answers = [] } }
