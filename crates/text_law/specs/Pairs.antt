-- The walk through a body, each token with what it is of the module; and what stands round a statement.
use Rattle.std.specs.Prelude.{ℕ, ◌≡◌, ◌==◌, ◌&&◌, Bool, true, false, List, [], ◌∷◌, ◌++◌, bytes_eq, filter, flat_map, map, Option, Some, None}
use Rattle.std.specs.List.{list_all}
use Rattle.structure_rules.specs.declared.graph.Part.TheVariants.{If, Loop, Cont, Case}
use Rattle.structure_rules.specs.declared.graph.Exit.{Exit}
use Rattle.structure_rules.specs.declared.graph.Exit.TheVariants.{Conditional, Switch}
use Rattle.structure_rules.specs.Graph.{is_value}
use Rattle.structure_recover.specs.Once.{Around, within, branch}
use Rattle.name_alloc.specs.declared.claims.Key.{Key}
use Rattle.name_alloc.specs.declared.claims.Key.TheVariants.{Again}
use Rattle.glsl_ast.specs.Tree.{Text, Expr, name, not}
use Rattle.text_law.specs.Deeds.{Deed, reads, assigns, calls}
pub use Rattle.unit_rules.specs.Translation.{Naming}
use Rattle.text_law.specs.Walks as walks
use Rattle.claim_law.specs.Told.{is_among}
use Rattle.text_law.specs.Walks.{Outer, is_atomic, Token}

-- what a statement is of the module: the `for` of a loop, the `if` of an OpBranchConditional, the `switch` of an OpSwitch; a load, a store, a call of a function, an atomic instruction; a barrier, which is written by this name
pub data Act : Type 0 where
  repeats : Act
  branches : Act
  selects : Act
  loads : Act
  stores : Act
  enters : Act
  updates : Act
  bars : Text → Act

-- how a block ends
abbrev pub exit_acts : Exit → List Act
exit_acts Conditional = branches ∷ []
exit_acts Switch = selects ∷ []
exit_acts _ = []

-- with what stands round it
abbrev pub with_round : List Around → Act → Act × List Around
with_round round act = (act, round)

-- The tokens of a body, each with what it is of the module: the `for` of a loop, by its header; the `switch` of an OpSwitch and the `if` of an OpBranchConditional, by their block; an `if` that is none; a statement of an instruction, by the block of that.
pub data Pair : Type 0 where
  turns : (h : ℕ) → Pair
  chooses : (b : ℕ) → Pair
  tests : (b : ℕ) → Expr → Pair
  guards : Expr → Pair
  closes : Pair
  does : (b : ℕ) → List Deed → Pair

abbrev pub token_of : Pair → Token
token_of (turns h) = walks.turns
token_of (chooses b) = walks.chooses
token_of (tests b c) = walks.tests c
token_of (guards c) = walks.tests c
token_of closes = walks.closes
token_of (does b ds) = walks.does ds

abbrev pub block_of : Pair → Option ℕ
block_of (turns h) = Some h
block_of (chooses b) = Some b
block_of (tests b c) = Some b
block_of (guards c) = None
block_of closes = None
block_of (does b ds) = Some b

-- what it does that is seen: it reads one path, assigns to one, is a call of one of these with paths as arguments, with one, or with none
abbrev pub is_read : Deed → Bool
is_read (reads x) = true
is_read _ = false

abbrev pub is_assigned : Deed → Bool
is_assigned (assigns x) = true
is_assigned _ = false

abbrev pub is_call : (Text → Bool) → Deed → Bool
is_call is_such (calls f) = is_such f
is_call is_such _ = false

abbrev pub is_one : (Deed → Bool) → List Deed → Bool
is_one test (d ∷ []) = test d
is_one test _ = false

abbrev pub begins : (Deed → Bool) → (List Deed → Bool) → List Deed → Bool
begins first others [] = false
begins first others (d ∷ ds) = first d && others ds

abbrev pub deeds_in : Pair → List Deed
deeds_in (does b ds) = ds
deeds_in _ = []

abbrev pub is_for : Pair → Bool
is_for (turns h) = true
is_for _ = false

abbrev pub is_choice : Pair → Bool
is_choice (chooses b) = true
is_choice _ = false

abbrev pub is_test : Pair → Bool
is_test (tests b c) = true
is_test _ = false

-- it is this, and does nothing else that is seen
abbrev pub is_done : Outer → Act → Pair → Bool
is_done o repeats p = is_for p
is_done o branches p = is_test p
is_done o selects p = is_choice p
is_done o loads p = is_one is_read (deeds_in p)
is_done o stores p = is_one is_assigned (deeds_in p)
is_done o enters p = begins (is_call (is_among o.functions)) (list_all is_read) (deeds_in p)
is_done o updates p = begins (is_call is_atomic) (is_one is_read) (deeds_in p)
is_done o (bars f) p = is_one (is_call (bytes_eq f)) (deeds_in p)

-- a statement, and what stands round it, from inside out
pub record Site : Type 0 where
  pub what : Pair
  pub round : List Pair

abbrev pub outward : List Pair → List Pair
outward [] = []
outward (p ∷ ps) = ps

abbrev pub sites : List Pair → List Pair → List Site
sites round [] = []
sites round (closes ∷ ps) = sites (outward round) ps
sites round (does b ds ∷ ps) = record { what = does b ds; round = round } ∷ sites round ps
sites round (p ∷ ps) = record { what = p; round = round } ∷ sites (p ∷ round) ps

abbrev pub is_of : ℕ → Site → Bool
is_of b s = is_value b (block_of s.what)

-- a statement of an instruction of this block; those of a block stand directly after one another
abbrev pub is_done_in : ℕ → Pair → Bool
is_done_in b (does h ds) = h == b
is_done_in b _ = false

abbrev pub StandTogether : ℕ → List Pair → Type 0
StandTogether b pairs = (before : List Pair) × (after : List Pair) × (pairs ≡ before ++ (filter (is_done_in b) pairs ++ after))

-- a statement that stands round another, as the module has it
pub data Frame : Type 0 where
  turn : (h : ℕ) → Frame
  choice : (b : ℕ) → Frame
  test : (b : ℕ) → Frame

abbrev pub frame_of : Around → Frame
frame_of (within (If h)) = test h
frame_of (within (Loop h)) = turn h
frame_of (within (Cont h)) = turn h
frame_of (within (Case s t)) = choice s
frame_of (branch h) = test h

abbrev pub frames_in : Pair → List Frame
frames_in (turns h) = turn h ∷ []
frames_in (chooses b) = choice b ∷ []
frames_in (tests b c) = test b ∷ []
frames_in _ = []

-- the condition of an `if` that is of no conditional: the name of a flag, or its negation
abbrev pub tested : Expr → Option Text
tested (name x) = Some x
tested (not (name x)) = Some x
tested _ = None

abbrev pub is_again : Key → Bool
is_again (Again label) = true
is_again _ = false

-- it tests the flag of such a key
abbrev pub TestsFlag : Naming → (Key → Bool) → Expr → Type 0
TestsFlag found is_such c = (key : Key) × (x : Text) × (is_such key ≡ true) × (found key ≡ Some x) × (tested c ≡ Some x)

abbrev pub IsGuard : Naming → (Key → Bool) → Pair → Type 0
IsGuard found is_such (guards c) = TestsFlag found is_such c
IsGuard found is_such _ = Unit {0}

abbrev pub AreGuards : Naming → (Key → Bool) → List Pair → Type 0
AreGuards found is_such [] = Unit {0}
AreGuards found is_such (p ∷ ps) = IsGuard found is_such p × AreGuards found is_such ps

-- it is this and nothing else; the `for`, `switch` and `if` round it are those of what stands round it in the module, and each other `if` is that of a continue construct
pub record IsPlaced (o : Outer) (found : Naming) (act : Act × List Around) (site : Site) : Type 0 where
  pub done : is_done o act.0 site.what ≡ true
  pub framed : flat_map frames_in site.round ≡ map frame_of act.1
  pub guarded : AreGuards found is_again site.round
