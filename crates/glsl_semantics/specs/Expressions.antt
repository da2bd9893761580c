-- What expressions stand for and come to (GLSL 4.60, chapter 5): operands from left to right, and of `&&`, `||` and `?:` only those that are needed.
use Rattle.std.specs.Prelude.{ℕ, ◌^◌, ◌==◌, bytes_eq, codes, nat_lt, Bool, true, false, List, [], ◌∷◌, length, Option, Some, None, option_map, option_and_then, if◌then◌else◌}
use Rattle.spv_types.specs.Tree.{truth, word}
use Rattle.op_semantics.specs.Component.{each_one}
use Rattle.glsl_ast.specs.Tree as tree
use Rattle.glsl_ast.specs.Tree.{Text, Base, Extent, TypeName, type_name, Expr, literal, name, build, not, flip, binary, choose, length_of, Exprs, no_exprs, expr, LStep}
use Rattle.glsl_ast.specs.declared.expressions.Literal.{Literal}
use Rattle.glsl_ast.specs.declared.expressions.Literal.TheVariants as literal_of
use Rattle.glsl_ast.specs.declared.expressions.BinOp.{BinOp}
use Rattle.glsl_ast.specs.declared.expressions.BinOp.TheVariants as op
use Rattle.spv_module.specs.declared.tree.Elem.TheVariants as elem
use Rattle.traces.specs.Events as event
use Rattle.traces.specs.Events.{AtomicOperation, Event, updating}
use Rattle.traces.specs.Outcomes.{Result, got, stuck, then_get, or_stuck}
use Rattle.traces.specs.Invocations.{Invocation}
use Rattle.glsl_semantics.specs.Shapes.{Shape, boolean, int, uint, vector, array, runtime, struct, Fields, Typed, typed}
use Rattle.glsl_semantics.specs.Places.{location_of}
use Rattle.glsl_semantics.specs.Operators.{operated, negated, flipped}
use Rattle.glsl_semantics.specs.Functions.{PureFunction, pure_function, pure_value, built}
use Rattle.glsl_semantics.specs.States.{Variable, State, found, found_in, or_outer, Thing, value, variable, memory, accessed, fetch, member_of, element_of, length_value}

-- what the items of a text declare, and what the invocation is told: the members of structs; what the names of constants, blocks, shared variables and built-in variables stand for; which names are functions
pub record Program : Type 0 where
  pub invocation : Invocation
  pub structs : Text → Option Fields
  pub things : Text → Option Thing
  pub is_function : Text → Bool

-- A type by its name: the extents of an array with the outermost first, each a number, a constant, or a component of the size of workgroups (section 4.1.9).
abbrev pub constant_length : Option Thing → Option ℕ
constant_length (Some (value (typed uint (word n)))) = Some n
constant_length (Some (value (typed int (word n)))) = if nat_lt n (2 ^ 31) then Some n else None
constant_length _ = None

abbrev pub size_length : Program → Text → Option ℕ
size_length p axis = constant_length (option_and_then (λ x. member_of x axis) (p.things (codes "gl_WorkGroupSize")))

abbrev pub with_extent : Program → Extent → Shape → Shape
with_extent p tree.Extent.open_end s = runtime s
with_extent p (tree.Extent.number n) s = array s (Some n)
with_extent p (tree.Extent.named w) s = array s (constant_length (p.things w))
with_extent p (tree.Extent.size axis) s = array s (size_length p axis)

abbrev pub with_extents : Program → List Extent → Shape → Shape
with_extents p [] s = s
with_extents p (e ∷ es) s = with_extent p e (with_extents p es s)

abbrev pub base_shape : Program → Base → Option Shape
base_shape p tree.Base.boolean = Some boolean
base_shape p tree.Base.int = Some int
base_shape p tree.Base.uint = Some uint
base_shape p (tree.Base.bool_vec n) = Some (vector elem.Bool n)
base_shape p (tree.Base.int_vec n) = Some (vector elem.Int n)
base_shape p (tree.Base.uint_vec n) = Some (vector elem.Uint n)
base_shape p (tree.Base.struct w) = option_map (struct w) (p.structs w)

abbrev pub type_of : Program → TypeName → Option Shape
type_of p (type_name b es) = option_map (with_extents p es) (base_shape p b)

-- a literal without `u` is an int, in whichever base (section 4.1.3)
abbrev pub literal_value : Literal → Typed
literal_value (literal_of.Int n) = typed int (word n)
literal_value (literal_of.Hex n) = typed int (word n)
literal_value (literal_of.Uint n) = typed uint (word n)
literal_value (literal_of.Truth b) = typed boolean (truth b)

abbrev pub as_truth : Typed → Option Bool
as_truth (typed boolean (truth b)) = Some b
as_truth _ = None

-- a name: a variable of the function, one of the text, or what the text declares
abbrev pub variable_of : Text → Variable → Thing
variable_of w x = variable w [] x.shape x.value

abbrev pub named : Program → State → Text → Option Thing
named p s w = elim (or_outer (found_in s.frames w) (found s.globals w)) [ Some x ↦ Some (variable_of w x) | None ↦ p.things w ]

-- The atomic functions (section 8.11): of a minimum and a maximum the type of the place tells whether there is a sign.
pub data AtomicFunction : Type 0 where
  add : AtomicFunction
  minimum : AtomicFunction
  maximum : AtomicFunction
  conjunction : AtomicFunction
  disjunction : AtomicFunction
  difference : AtomicFunction
  exchange : AtomicFunction
  compare_swap : AtomicFunction

abbrev pub atomic_by : List (Text × AtomicFunction) → Text → Option AtomicFunction
atomic_by [] w = None
atomic_by (p ∷ ps) w = elim (bytes_eq p.0 w) [ true ↦ Some p.1 | false ↦ atomic_by ps w ]

abbrev pub atomic_function : Text → Option AtomicFunction
atomic_function w = atomic_by (
    (codes "atomicAdd", add) ∷ (codes "atomicMin", minimum) ∷ (codes "atomicMax", maximum) ∷ (codes "atomicAnd", conjunction) ∷ (codes "atomicOr", disjunction) ∷
    (codes "atomicXor", difference) ∷ (codes "atomicExchange", exchange) ∷ (codes "atomicCompSwap", compare_swap) ∷ []) w

abbrev pub atomic_operation : AtomicFunction → Shape → AtomicOperation
atomic_operation add t = event.add
atomic_operation minimum int = event.signed_min
atomic_operation minimum _ = event.unsigned_min
atomic_operation maximum int = event.signed_max
atomic_operation maximum _ = event.unsigned_max
atomic_operation conjunction t = event.bit_and
atomic_operation disjunction t = event.bit_or
atomic_operation difference t = event.bit_xor
atomic_operation exchange t = event.exchange
atomic_operation compare_swap t = event.compare_exchange

abbrev pub operand_count : AtomicFunction → ℕ
operand_count compare_swap = 2
operand_count _ = 1

-- the words of operands that are of the place's type
abbrev pub word_of_type : Shape → Typed → Option ℕ
word_of_type int (typed int (word n)) = Some n
word_of_type uint (typed uint (word n)) = Some n
word_of_type _ _ = None

abbrev pub if_count : ℕ → List ℕ → Option (List ℕ)
if_count n ws = if length ws == n then Some ws else None

abbrev pub operand_words : AtomicFunction → Shape → List Typed → Option (List ℕ)
operand_words a t vs = option_and_then (if_count (operand_count a)) (each_one (word_of_type t) vs)

abbrev pub found_value : Shape → State → List ℕ → List (List ℕ) → Thing × State
found_value t s (w ∷ ws) more = (value (typed t (word w)), record s { answers = more })
found_value t s [] more = (value (typed t (word 0)), record s { answers = more })

abbrev pub updated : AtomicFunction → Thing → List Typed → State → Result (Thing × State)
updated a (memory at t) vs s = or_stuck (operand_words a t vs) (λ ws. accessed (updating (atomic_operation a t) (location_of at) ws) s.answers (found_value t s))
updated a _ vs s = stuck []

-- the barriers (section 8.16, 8.17)
abbrev pub barrier_by : List (Text × Event) → Text → Option Event
barrier_by [] w = None
barrier_by (p ∷ ps) w = elim (bytes_eq p.0 w) [ true ↦ Some p.1 | false ↦ barrier_by ps w ]

abbrev pub barrier_event : Text → Option Event
barrier_event w = barrier_by ((codes "memoryBarrierBuffer", event.buffer_barrier) ∷ (codes "memoryBarrierShared", event.shared_barrier) ∷ (codes "barrier", event.control_barrier) ∷ []) w

-- what a name that is called is
pub data CallKind : Type 0 where
  user : CallKind
  atomic : AtomicFunction → CallKind
  pure : PureFunction → CallKind
  barrier : Event → CallKind
  unknown : CallKind

abbrev pub barrier_or_unknown : Option Event → CallKind
barrier_or_unknown (Some e) = barrier e
barrier_or_unknown None = unknown

abbrev pub pure_or : Text → Option PureFunction → CallKind
pure_or w (Some f) = pure f
pure_or w None = barrier_or_unknown (barrier_event w)

abbrev pub atomic_or : Text → Option AtomicFunction → CallKind
atomic_or w (Some a) = atomic a
atomic_or w None = pure_or w (pure_function w)

abbrev pub call_kind : Program → Text → CallKind
call_kind p w = elim (p.is_function w) [ true ↦ user | false ↦ atomic_or w (atomic_function w) ]

-- `&&` and `||`: the truth value of the first operand that tells the result
abbrev pub settling : BinOp → Option Bool
settling op.Both = Some false
settling op.Either = Some true
settling _ = None

abbrev pub same_truth : Bool → Bool → Bool
same_truth true b = b
same_truth false true = false
same_truth false false = true

abbrev pub done : Option Typed → State → Result (Thing × State)
done v s = or_stuck v (λ x. got [] (value x, s))

abbrev pub then_fetch : {A : Type 0} → Result (Thing × State) → (Typed → State → Result A) → Result A
then_fetch g f = then_get g (λ x. then_get (fetch x.0 x.1) (λ y. f y.0 y.1))

-- an argument: what it stands for, and its value
abbrev pub Argument : Type 0
Argument = Thing × Typed

module _ (p : Program) (calls : Text → List Argument → State → Result (Option Typed × State)) where
  abbrev mutual
    pub denote : Expr → State → Result (Thing × State)
    denote (literal l) s = got [] (value (literal_value l), s)
    denote (name w) s = or_stuck (named p s w) (λ x. got [] (x, s))
    denote (build t args) s = or_stuck (type_of p t) (λ shape. then_get (values args s) (λ x. done (built shape x.0) x.1))
    denote (Expr.call w args) s = elim (call_kind p w) [
      | user ↦ then_get (arguments args s) (λ x. then_get (calls w x.0 x.1) (λ r. done r.0 r.1))
      | atomic a ↦ then_get (place_and_values args s) (λ x. updated a x.0 x.1 x.2)
      | pure f ↦ then_get (values args s) (λ x. done (pure_value f x.0) x.1)
      | barrier e ↦ stuck []
      | unknown ↦ stuck []
    ]
    denote (not e) s = then_fetch (denote e s) (λ v s. done (negated v) s)
    denote (flip e) s = then_fetch (denote e s) (λ v s. done (flipped v) s)
    denote (binary o a b) s = then_fetch (denote a s) (λ v s. elim (settling o) [
      | Some settled ↦ or_stuck (as_truth v) (λ t. elim (same_truth settled t) [
        | true ↦ got [] (value v, s)
        | false ↦ then_fetch (denote b s) (λ u s. or_stuck (as_truth u) (λ t. got [] (value u, s)))
      ])
      | None ↦ then_fetch (denote b s) (λ u s. done (operated o v u) s)
    ])
    denote (choose c a b) s = then_fetch (denote c s) (λ v s. or_stuck (as_truth v) (λ t. elim t [
      | true ↦ then_fetch (denote a s) (λ u s. got [] (value u, s))
      | false ↦ then_fetch (denote b s) (λ u s. got [] (value u, s))
    ]))
    denote (Expr.member e w) s = then_get (denote e s) (λ x. or_stuck (member_of x.0 w) (λ y. got [] (y, x.1)))
    denote (Expr.index a i) s = then_get (denote a s) (λ x. then_fetch (denote i x.1) (λ v s. or_stuck (element_of x.0 v) (λ y. got [] (y, s))))
    denote (length_of e) s = then_get (denote e s) (λ x. or_stuck (length_value p.invocation x.0) (λ y. got [] (y, x.1)))

    -- the values of expressions, in order
    pub values : Exprs → State → Result (List Typed × State)
    values no_exprs s = got [] ([], s)
    values (expr e es) s = then_fetch (denote e s) (λ v s. then_get (values es s) (λ y. got [] (v ∷ y.0, y.1)))

    -- what arguments stand for with their values; what the first stands for, and the values of the others
    pub arguments : Exprs → State → Result (List Argument × State)
    arguments no_exprs s = got [] ([], s)
    arguments (expr e es) s = then_get (denote e s) (λ x. then_get (fetch x.0 x.1) (λ v. then_get (arguments es v.1) (λ y. got [] ((x.0, v.0) ∷ y.0, y.1))))

    pub place_and_values : Exprs → State → Result (Thing × List Typed × State)
    place_and_values no_exprs s = stuck []
    place_and_values (expr e es) s = then_get (denote e s) (λ x. then_get (values es x.1) (λ y. got [] (x.0, y.0, y.1)))

  abbrev pub evaluate : Expr → State → Result (Typed × State)
  evaluate e s = then_fetch (denote e s) (λ v s. got [] (v, s))

  -- what is assigned to: a name, and steps from there
  abbrev pub steps : Thing → List LStep → State → Result (Thing × State)
  steps x [] s = got [] (x, s)
  steps x (LStep.member w ∷ r) s = or_stuck (member_of x w) (λ y. steps y r s)
  steps x (LStep.index e ∷ r) s = then_get (evaluate e s) (λ v. or_stuck (element_of x v.0) (λ y. steps y r v.1))
