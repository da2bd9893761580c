-- The state of a run: variables by the braces in which they are declared, and the answers that are left; and what an expression stands for.
use Rattle.std.specs.Prelude.{ℕ, ◌-◌, ◌/◌, ◌^◌, ◌==◌, bytes_eq, nat_lt, Bool, true, false, List, [], ◌∷◌, ◌++◌, drop, Option, Some, None, option_map, option_and_then, if◌then◌else◌}
use Rattle.spv_types.specs.Tree.{ValueTree, word}
use Rattle.op_semantics.specs.Composite.{part_at, inserted}
use Rattle.layout_rules.specs.declared.Kind.{Kind}
use Rattle.layout_rules.specs.Sizes.{stride_over}
use Rattle.glsl_ast.specs.Tree.{Text}
use Rattle.glsl_ast.specs.declared.items.BlockPlace.{BlockPlace}
use Rattle.glsl_ast.specs.declared.items.BlockPlace.TheVariants.{Set, Push}
use Rattle.value_words.specs.Words.{words_of, value_from}
use Rattle.traces.specs.Events.{Event, Access, reading, write, event_of}
use Rattle.traces.specs.Outcomes.{Result, got, waits, stuck, or_stuck}
use Rattle.traces.specs.Invocations.{Invocation}
use Rattle.glsl_semantics.specs.Shapes.{Shape, int, uint, vector, array, runtime, struct, Typed, typed, tree_of, same_shape, is_sized, member_from, component_number, scalar}
use Rattle.glsl_semantics.specs.Places.{Site, in_buffer, in_push, part_site, locations}

-- a variable: its type, and its value where it has one
pub record Variable : Type 0 where
  pub shape : Shape
  pub value : Option ValueTree

abbrev pub Frame : Type 0
Frame = List (Text × Variable)

-- the variables of the present function by braces, the innermost first; those of the text; the answers that are left
pub record State : Type 0 where
  pub frames : List Frame
  pub globals : Frame
  pub answers : List (List ℕ)

-- A variable lives in its braces, and hides those outside that have its name (GLSL 4.60, section 4.2.2).
abbrev pub found : Frame → Text → Option Variable
found [] w = None
found (b ∷ bs) w = elim (bytes_eq b.0 w) [ true ↦ Some b.1 | false ↦ found bs w ]

abbrev pub has : Frame → Text → Bool
has [] w = false
has (b ∷ bs) w = elim (bytes_eq b.0 w) [ true ↦ true | false ↦ has bs w ]

abbrev pub or_outer : {A : Type 0} → Option A → Option A → Option A
or_outer None o = o
or_outer (Some v) o = Some v

abbrev pub found_in : List Frame → Text → Option Variable
found_in [] w = None
found_in (f ∷ fs) w = or_outer (found f w) (found_in fs w)

abbrev pub put_first : Frame → Text → ValueTree → Frame
put_first [] w v = []
put_first (b ∷ bs) w v = elim (bytes_eq b.0 w) [ true ↦ (b.0, record b.1 { value = Some v }) ∷ bs | false ↦ b ∷ put_first bs w v ]

abbrev pub has_in : List Frame → Text → Bool
has_in [] w = false
has_in (f ∷ fs) w = elim (has f w) [ true ↦ true | false ↦ has_in fs w ]

abbrev pub put_in : List Frame → Text → ValueTree → List Frame
put_in [] w v = []
put_in (f ∷ fs) w v = elim (has f w) [ true ↦ put_first f w v ∷ fs | false ↦ f ∷ put_in fs w v ]

abbrev pub declared : List Frame → Text → Variable → List Frame
declared [] w v = ((w, v) ∷ []) ∷ []
declared (f ∷ fs) w v = ((w, v) ∷ f) ∷ fs

-- with another value of a variable: of the function's where it has the name, else of the text's
abbrev pub with_value : Text → ValueTree → State → State
with_value w v s = elim (has_in s.frames w) [ true ↦ record s { frames = put_in s.frames w v } | false ↦ record s { globals = put_first s.globals w v } ]

-- inside braces, and behind them
abbrev pub pushed : State → State
pushed s = record s { frames = [] ∷ s.frames }

abbrev pub popped : State → State
popped s = record s { frames = drop 1 s.frames }

-- What an expression stands for: a value; a variable, or a part of one by indexes; a block by its instance name, whose members have offsets; something in memory.
pub data Thing : Type 0 where
  value : Typed → Thing
  variable : Text → List ℕ → Shape → Option ValueTree → Thing
  instance : BlockPlace → Kind → List (Text × ℕ × Shape) → Thing
  memory : Site → Shape → Thing

-- an access takes the next answer, and waits where none is left or where that has another number of words
abbrev pub told : {A : Type 0} → Option Event → A → Result A
told None a = waits []
told (Some e) a = got (e ∷ []) a

abbrev pub accessed : {A : Type 0} → Access → List (List ℕ) → (List ℕ → List (List ℕ) → A) → Result A
accessed a [] f = waits []
accessed a (words ∷ more) f = told (event_of a words) (f words more)

-- something is read as a value where it stands; what has no value is stuck
abbrev pub variable_value : Shape → Option ValueTree → State → Result (Typed × State)
variable_value t None s = stuck []
variable_value t (Some v) s = got [] (typed t v, s)

abbrev pub read_value : Site → Shape → State → Result (Typed × State)
read_value at t s = accessed (reading (locations (tree_of t) at)) s.answers (λ words more. (typed t (value_from (tree_of t) words), record s { answers = more }))

abbrev pub read_if : Bool → Site → Shape → State → Result (Typed × State)
read_if true at t s = read_value at t s
read_if false at t s = stuck []

abbrev pub fetch : Thing → State → Result (Typed × State)
fetch (value v) s = got [] (v, s)
fetch (variable w path t v) s = variable_value t v s
fetch (instance place kind members) s = stuck []
fetch (memory at t) s = read_if (is_sized t) at t s

-- a value is assigned to a variable, to a part of one that has a value, or to memory; it is of the type
abbrev pub assigned : Text → List ℕ → ValueTree → State → Option Variable → Result State
assigned w [] v s x = got [] (with_value w v s)
assigned w (i ∷ path) v s None = stuck []
assigned w (i ∷ path) v s (Some x) = or_stuck (option_and_then (inserted v (i ∷ path)) x.value) (λ whole. got [] (with_value w whole s))

abbrev pub store_to : Thing → ValueTree → State → Result State
store_to (value u) v s = stuck []
store_to (variable w path t u) v s = assigned w path v s (or_outer (found_in s.frames w) (found s.globals w))
store_to (instance place kind members) v s = stuck []
store_to (memory at t) v s = got (write (locations (tree_of t) at) (words_of v) ∷ []) s

abbrev pub is_of_thing : Thing → Shape → Bool
is_of_thing (value (typed t u)) s = false
is_of_thing (variable w path t u) s = same_shape t s
is_of_thing (instance place kind members) s = false
is_of_thing (memory at t) s = same_shape t s

abbrev pub store : Thing → Typed → State → Result State
store x (typed t v) s = elim (is_of_thing x t) [ true ↦ store_to x v s | false ↦ stuck [] ]

-- The part of something at an index: of a value, of a variable, or of what lies in memory.
abbrev pub part_of_value : ValueTree → ℕ → Shape → Option Thing
part_of_value v i t = option_map (λ part. value (typed t part)) (part_at v i)

abbrev pub part_of_option : Option ValueTree → ℕ → Option ValueTree
part_of_option None i = None
part_of_option (Some v) i = part_at v i

abbrev pub part_at_index : Thing → ℕ → Shape → Option Thing
part_at_index (value (typed s v)) i t = part_of_value v i t
part_at_index (variable w path s v) i t = Some (variable w (path ++ i ∷ []) t (part_of_option v i))
part_at_index (instance place kind members) i t = None
part_at_index (memory at s) i t = Some (memory (part_site (tree_of s) i at) t)

abbrev pub shape_of_thing : Thing → Option Shape
shape_of_thing (value (typed s v)) = Some s
shape_of_thing (variable w path s v) = Some s
shape_of_thing (instance place kind members) = None
shape_of_thing (memory at s) = Some s

-- a member of a struct, or a component of a vector, by its name
abbrev pub component_if : ℕ → Shape → Option ℕ → Option (ℕ × Shape)
component_if n t None = None
component_if n t (Some k) = if nat_lt k n then Some (k, t) else None

abbrev pub named_part : Option Shape → Text → Option (ℕ × Shape)
named_part (Some (struct x fs)) w = member_from 0 fs w
named_part (Some (vector e n)) w = component_if n (scalar e) (component_number w)
named_part _ w = None

-- a member of a block: what lies at its offset
abbrev pub site_at : BlockPlace → Kind → ℕ → Site
site_at (Set set binding) kind byte = in_buffer set binding kind byte
site_at Push kind byte = in_push kind byte

abbrev pub block_member : BlockPlace → Kind → List (Text × ℕ × Shape) → Text → Option Thing
block_member place kind [] w = None
block_member place kind (m ∷ ms) w = elim (bytes_eq m.0 w) [ true ↦ Some (memory (site_at place kind m.1) m.2) | false ↦ block_member place kind ms w ]

abbrev pub member_of : Thing → Text → Option Thing
member_of (instance place kind members) w = block_member place kind members w
member_of x w = option_and_then (λ (p : ℕ × Shape). part_at_index x p.0 p.1) (named_part (shape_of_thing x) w)

-- An index is an int or a uint, below 2 ^ 31, and below the number of parts where that is known (section 5.7).
abbrev pub index_word : Typed → Option ℕ
index_word (typed int (word i)) = Some i
index_word (typed uint (word i)) = Some i
index_word _ = None

abbrev pub element_shape : Option Shape → ℕ → Option Shape
element_shape (Some (vector e n)) i = if nat_lt i n then Some (scalar e) else None
element_shape (Some (array s (Some n))) i = if nat_lt i n then Some s else None
element_shape (Some (runtime s)) i = Some s
element_shape _ i = None

abbrev pub element_at : Thing → ℕ → Option Thing
element_at x i = if nat_lt i (2 ^ 31) then option_and_then (part_at_index x i) (element_shape (shape_of_thing x) i) else None

abbrev pub element_of : Thing → Typed → Option Thing
element_of x v = option_and_then (element_at x) (index_word v)

-- `length()`: that of an array's type, and of a runtime array as many whole strides as there are bytes behind its first one, or 0 where the stride is 0. It is an int, and reads nothing (section 4.1.9).
abbrev pub strides_behind : ℕ → ℕ → ℕ → ℕ
strides_behind bytes byte stride = if stride == 0 then 0 else (bytes - byte) / stride

abbrev pub runtime_length : Invocation → Site → Shape → Option ℕ
runtime_length inv (in_buffer set binding kind byte) s = Some (strides_behind (inv.buffer_bytes set binding) byte (stride_over kind (tree_of s)))
runtime_length inv _ s = None

abbrev pub length_of_thing : Invocation → Thing → Option ℕ
length_of_thing inv (memory at (runtime s)) = runtime_length inv at s
length_of_thing inv (memory at (array s n)) = n
length_of_thing inv (value (typed (array s n) v)) = n
length_of_thing inv (variable w path (array s n) v) = n
length_of_thing inv _ = None

abbrev pub length_value : Invocation → Thing → Option Thing
length_value inv x = option_map (λ n. value (typed int (word n))) (length_of_thing inv x)
