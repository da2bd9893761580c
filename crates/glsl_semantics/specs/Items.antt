-- What the items of a text declare, one after another (GLSL 4.60, chapter 4), for one invocation.
use Rattle.std.specs.Prelude.{ℕ, ◌+◌, ◌==◌, ◌&&◌, not, bytes_eq, codes, Bool, true, false, List, [], ◌∷◌, Option, Some, None, find, option_map, option_and_then, unwrap_or}
use Rattle.std.specs.Option.{option_map_or}
use Rattle.spv_module.specs.declared.tree.Elem.TheVariants as elem
use Rattle.spv_types.specs.Tree.{truth, word, many, values_in}
use Rattle.layout_rules.specs.declared.Kind.{Kind}
use Rattle.layout_rules.specs.declared.Kind.TheVariants as layout
use Rattle.glsl_ast.specs.Tree as tree
use Rattle.glsl_ast.specs.Tree.{Text, Expr, Field, Decl}
use Rattle.glsl_ast.specs.declared.items.Size.{Size}
use Rattle.glsl_ast.specs.declared.items.BlockRules.{BlockRules}
use Rattle.glsl_ast.specs.declared.items.BlockRules.TheVariants as rules
use Rattle.traces.specs.Invocations.{Invocation, Triple}
use Rattle.traces.specs.Outcomes.{Result, got, stuck}
use Rattle.glsl_semantics.specs.Shapes.{Shape, boolean, int, uint, vector, Fields, no_fields, field, Typed, typed, shape_of, tree_of_value, same_shape}
use Rattle.glsl_semantics.specs.Places.{in_shared}
use Rattle.glsl_semantics.specs.States.{Frame, State, Thing, value, instance, memory}
use Rattle.glsl_semantics.specs.Expressions.{Program, type_of, Argument, evaluate}

-- what the items up to one declare: also how many shared variables there are, the variables of the text with their first values, and whether one of these has none
pub record Declared : Type 0 where
  pub program : Program
  pub shared_variables : ℕ
  pub globals : Frame
  pub is_stuck : Bool

abbrev pub put_text : {A : Type 0} → (Text → Option A) → Text → Option A → Text → Option A
put_text f w a x = elim (bytes_eq x w) [ true ↦ a | false ↦ f x ]

abbrev pub with_thing : Text → Option Thing → Program → Program
with_thing w x p = record p { things = put_text p.things w x }

-- a struct, where each member has a type
abbrev pub with_field : Text → Option Shape → Option Fields → Option Fields
with_field w (Some s) (Some fs) = Some (field w s fs)
with_field w _ _ = None

abbrev pub fields_of : Program → List Field → Option Fields
fields_of p [] = Some no_fields
fields_of p (tree.field t w ∷ fs) = with_field w (type_of p t) (fields_of p fs)

-- an expression whose value is known before the run: it reads nothing and calls no function of the text
abbrev pub no_calls : Text → List Argument → State → Result (Option Typed × State)
no_calls w args s = stuck []

abbrev pub if_of : Shape → Typed → Option Typed
if_of s v = elim (same_shape s (shape_of v)) [ true ↦ Some v | false ↦ None ]

abbrev pub known_if : Shape → Result (Typed × State) → Option Typed
known_if s (got [] v) = if_of s v.0
known_if s _ = None

abbrev pub known_value : Program → Frame → Shape → Expr → Option Typed
known_value p globals s e = known_if s (evaluate p no_calls e (record { frames = []; globals = globals; answers = [] }))

-- A constant with `constant_id` takes the word that the invocation is told for it, else its default (section 4.11).
abbrev pub value_of_word : Shape → ℕ → Option Typed
value_of_word boolean w = Some (typed boolean (truth (not (w == 0))))
value_of_word int w = Some (typed int (word w))
value_of_word uint w = Some (typed uint (word w))
value_of_word _ w = None

abbrev pub told_word : Invocation → Option ℕ → Option ℕ
told_word inv id = option_and_then inv.specialization id

abbrev pub constant_by : Program → Frame → Shape → Expr → Option ℕ → Option Typed
constant_by p globals s e (Some w) = value_of_word s w
constant_by p globals s e None = known_value p globals s e

abbrev pub constant_value : Program → Frame → Option ℕ → Option Shape → Expr → Option Typed
constant_value p globals id None e = None
constant_value p globals id (Some s) e = constant_by p globals s e (told_word p.invocation id)

-- a variable of the text begins with the value of its expression
abbrev pub with_global : Text → Option Typed → Declared → Declared
with_global w (Some v) d = record d { globals = (w, record { shape = shape_of v; value = Some (tree_of_value v) }) ∷ d.globals }
with_global w None d = record d { is_stuck = true }

abbrev pub global_value : Declared → Option Shape → Expr → Option Typed
global_value d None e = None
global_value d (Some s) e = known_value d.program d.globals s e

-- a block by its instance name, with the members that have a type
abbrev pub layout_of : BlockRules → Kind
layout_of rules.Std430 = layout.Std430
layout_of rules.Std140 = layout.Std140

abbrev pub with_member : Text → ℕ → Option Shape → List (Text × ℕ × Shape) → List (Text × ℕ × Shape)
with_member w offset (Some s) ms = (w, offset, s) ∷ ms
with_member w offset None ms = ms

abbrev pub members_of : Program → List tree.Member → List (Text × ℕ × Shape)
members_of p [] = []
members_of p (tree.Member.member offset quals t w ∷ ms) = with_member w offset (type_of p t) (members_of p ms)

abbrev pub with_program : Program → Declared → Declared
with_program p d = record d { program = p }

abbrev pub with_item : Declared → Decl → Declared
with_item d (Decl.struct w fs) = with_program (record d.program { structs = put_text d.program.structs w (fields_of d.program fs) }) d
with_item d (tree.constant id t w e) = with_program (with_thing w (option_map value (constant_value d.program d.globals id (type_of d.program t) e)) d.program) d
with_item d (tree.shared t w) = record d { program = with_thing w (option_map (memory (in_shared d.shared_variables [])) (type_of d.program t)) d.program; shared_variables = d.shared_variables + 1 }
with_item d (tree.global t w e) = with_global w (global_value d (type_of d.program t) e) d
with_item d (tree.block place r quals buffer w members name) = with_program (with_thing name (Some (instance place (layout_of r) (members_of d.program members))) d.program) d
with_item d (Decl.function result w params body) = with_program (record d.program { is_function = λ x. elim (bytes_eq x w) [ true ↦ true | false ↦ d.program.is_function x ] }) d

abbrev pub with_items : Declared → List Decl → Declared
with_items d [] = d
with_items d (i ∷ is) = with_items (with_item d i) is

-- the size of workgroups on an axis: the word of its specialization constant where it has one that is told, else its number; 1 where the line has none (section 4.4.1.4)
abbrev pub size_row : Bool → ℕ → List Size → Option Size
size_row by_id axis sizes = find (λ (z : Size). elim z.by_id [ true ↦ by_id && (z.axis == axis) | false ↦ not by_id && (z.axis == axis) ]) sizes

abbrev pub size_on : Invocation → List Size → ℕ → ℕ
size_on inv sizes axis =
    unwrap_or (option_and_then (λ (z : Size). inv.specialization z.number) (size_row true axis sizes)) (option_map_or (λ (z : Size). z.number) (size_row false axis sizes) 1)

-- the built-in variables (section 7.1)
abbrev pub words3 : ℕ → ℕ → ℕ → Typed
words3 x y z = typed (vector elem.Uint 3) (many (values_in (word x ∷ word y ∷ word z ∷ [])))

abbrev pub triple_value : Triple → Typed
triple_value t = words3 t.0 t.1 t.2

abbrev pub built_ins : Invocation → List Size → List (Text × Typed)
built_ins inv sizes =
    (codes "gl_NumWorkGroups", triple_value inv.num_workgroups) ∷ (codes "gl_WorkGroupID", triple_value inv.workgroup_id) ∷
    (codes "gl_LocalInvocationID", triple_value inv.local_invocation_id) ∷ (codes "gl_GlobalInvocationID", triple_value inv.global_invocation_id) ∷
    (codes "gl_LocalInvocationIndex", typed uint (word inv.local_invocation_index)) ∷
    (codes "gl_WorkGroupSize", words3 (size_on inv sizes 0) (size_on inv sizes 1) (size_on inv sizes 2)) ∷ []

abbrev pub built_in_by : List (Text × Typed) → Text → Option Thing
built_in_by [] w = None
built_in_by (b ∷ bs) w = elim (bytes_eq b.0 w) [ true ↦ Some (value b.1) | false ↦ built_in_by bs w ]

abbrev pub first_program : Invocation → List Size → Program
first_program inv sizes = record { invocation = inv; structs = λ w. None; things = built_in_by (built_ins inv sizes); is_function = λ w. false }

-- what all items declare
unfoldable pub declared_by : Invocation → List Size → List Decl → Declared
declared_by inv sizes items = with_items (record { program = first_program inv sizes; shared_variables = 0; globals = []; is_stuck = false }) items
