-- Constructors and the built-in functions without effect (GLSL 4.60, sections 5.4, 8.3, 8.7 and 8.8).
use Rattle.std.specs.Prelude.{ℕ, ◌==◌, ◌&&◌, not, Bool, true, false, List, [], ◌∷◌, ◌++◌, length, map, Option, Some, None, option_map, option_and_then, if◌then◌else◌, replicate, bytes_eq, codes}
use Rattle.std.specs.List.{list_any, list_all}
use Rattle.spv_module.specs.declared.tree.Elem.{Elem}
use Rattle.spv_module.specs.declared.tree.Elem.TheVariants as elem
use Rattle.spv_types.specs.Tree.{ValueTree, truth, word}
use Rattle.op_semantics.specs.declared.operation.Unary.{Unary}
use Rattle.op_semantics.specs.declared.operation.Unary.TheVariants.{BitReverse, BitCount, SSign, FindILsb, FindSMsb, FindUMsb}
use Rattle.op_semantics.specs.declared.operation.Binary.{Binary}
use Rattle.op_semantics.specs.declared.operation.Binary.TheVariants.{UMin, SMin, UMax, SMax}
use Rattle.op_semantics.specs.Word.{bit_field_signed, bit_field_unsigned}
use Rattle.op_semantics.specs.Component.{composite, each_one, by_one, by_two, unary_scalar, binary_scalar, bit_field, inserted_field}
use Rattle.op_semantics.specs.Composite.{over_truths, components as parts}
use Rattle.glsl_ast.specs.Tree.{Text}
use Rattle.glsl_semantics.specs.Shapes.{Shape, boolean, int, uint, vector, array, struct, Fields, no_fields, field, Typed, typed, tree_of_value, same_elem, same_shape, scalar}
use Rattle.glsl_semantics.specs.Operators.{Components, components, shape_by, is_number, widened, common_count}

-- A scalar as one of another type: a truth value is 1 or 0, and a number is true where it is not 0 (section 5.4.1).
abbrev pub as_elem : Elem → ValueTree → Option ValueTree
as_elem elem.Bool (word a) = Some (truth (not (a == 0)))
as_elem elem.Bool v = Some v
as_elem _ (truth b) = Some (word (if b then 1 else 0))
as_elem _ (word a) = Some (word a)
as_elem _ _ = None

-- the scalars of scalars and vectors, in order
abbrev pub scalars_of : Typed → Option (List ValueTree)
scalars_of (typed s v) = option_map (λ (c : Components). parts v) (components s)

abbrev pub joined : List (List ValueTree) → List ValueTree
joined [] = []
joined (vs ∷ more) = vs ++ joined more

-- one scalar stands for each component of a vector; else there are as many scalars as components (section 5.4.2)
abbrev pub filled : ℕ → List ValueTree → Option (List ValueTree)
filled n (v ∷ []) = Some (replicate n v)
filled n vs = if length vs == n then Some vs else None

abbrev pub vector_of : Elem → ℕ → List (List ValueTree) → Option ValueTree
vector_of e n vs = option_and_then (λ us. option_map composite (each_one (as_elem e) us)) (filled n (joined vs))

-- a scalar is made of one scalar
abbrev pub scalar_from : Elem → List ValueTree → Option ValueTree
scalar_from e (v ∷ []) = as_elem e v
scalar_from e _ = None

abbrev pub scalar_built : Elem → Option (List (List ValueTree)) → Option Typed
scalar_built e None = None
scalar_built e (Some vs) = option_map (typed (scalar e)) (scalar_from e (joined vs))

abbrev pub vector_built : Elem → ℕ → Option (List (List ValueTree)) → Option Typed
vector_built e n None = None
vector_built e n (Some vs) = option_map (typed (vector e n)) (vector_of e n vs)

-- the members of a struct in order, each of its type (section 5.4.3); the elements of an array, all of its (section 5.4.4)
abbrev pub are_of : Fields → List Typed → Bool
are_of no_fields [] = true
are_of (field w s fs) (typed t v ∷ vs) = same_shape s t && are_of fs vs
are_of _ _ = false

abbrev pub is_of : Shape → Typed → Bool
is_of s (typed t v) = same_shape s t

abbrev pub whole_of : Shape → List Typed → Typed
whole_of s vs = typed s (composite (map tree_of_value vs))

abbrev pub built : Shape → List Typed → Option Typed
built boolean vs = scalar_built elem.Bool (each_one scalars_of vs)
built int vs = scalar_built elem.Int (each_one scalars_of vs)
built uint vs = scalar_built elem.Uint (each_one scalars_of vs)
built (vector e n) vs = vector_built e n (each_one scalars_of vs)
built (array s (Some n)) vs = if (length vs == n) && list_all (is_of s) vs then Some (whole_of (array s (Some n)) vs) else None
built (struct w fs) vs = if are_of fs vs then Some (whole_of (struct w fs) vs) else None
built _ vs = None

-- The built-in functions on numbers, by component.
pub data PureFunction : Type 0 where
  minimum : PureFunction
  maximum : PureFunction
  sign : PureFunction
  any : PureFunction
  all : PureFunction
  bit_count : PureFunction
  bitfield_reverse : PureFunction
  find_lsb : PureFunction
  find_msb : PureFunction
  bitfield_extract : PureFunction
  bitfield_insert : PureFunction

abbrev pub named_in : List (Text × PureFunction) → Text → Option PureFunction
named_in [] w = None
named_in (p ∷ ps) w = elim (bytes_eq p.0 w) [ true ↦ Some p.1 | false ↦ named_in ps w ]

abbrev pub pure_function : Text → Option PureFunction
pure_function w = named_in (
    (codes "min", minimum) ∷ (codes "max", maximum) ∷ (codes "sign", sign) ∷ (codes "any", any) ∷ (codes "all", all) ∷
    (codes "bitCount", bit_count) ∷ (codes "bitfieldReverse", bitfield_reverse) ∷ (codes "findLSB", find_lsb) ∷ (codes "findMSB", find_msb) ∷
    (codes "bitfieldExtract", bitfield_extract) ∷ (codes "bitfieldInsert", bitfield_insert) ∷ []) w

-- the word functions of numbers with a sign and of those without
abbrev pub min_of : Elem → Binary
min_of elem.Int = SMin
min_of _ = UMin

abbrev pub max_of : Elem → Binary
max_of elem.Int = SMax
max_of _ = UMax

abbrev pub msb_of : Elem → Unary
msb_of elem.Int = FindSMsb
msb_of _ = FindUMsb

-- of two numbers of one type, where a scalar may stand beside a vector
abbrev pub binary_by : Binary → Elem → (m n : ℕ) → ValueTree → ValueTree → Option ℕ → Option Typed
binary_by f e m n a b (Some count) = option_map (typed (shape_by e count)) (by_two (binary_scalar f) (widened m count a) (widened n count b))
binary_by f e m n a b None = None

abbrev pub binary_of : (Elem → Binary) → Option Components → Option Components → ValueTree → ValueTree → Option Typed
binary_of f (Some s) (Some t) a b =
    if is_number s.elem && same_elem s.elem t.elem then binary_by (f s.elem) s.elem s.count t.count a b (common_count s.count t.count) else None
binary_of f _ _ a b = None

-- of one number: the result has its own type, or is an int (section 8.8)
abbrev pub unary_of : (Elem → Unary) → (Elem → Elem) → Option Components → ValueTree → Option Typed
unary_of f result (Some s) a = if is_number s.elem then option_map (typed (shape_by (result s.elem) s.count)) (by_one (unary_scalar (f s.elem)) a) else None
unary_of f result None a = None

abbrev pub sign_of : Option Components → ValueTree → Option Typed
sign_of (Some s) a = if same_elem s.elem elem.Int then option_map (typed (shape_by s.elem s.count)) (by_one (unary_scalar SSign) a) else None
sign_of None a = None

abbrev pub over_vector : (List Bool → Bool) → Shape → ValueTree → Option Typed
over_vector f (vector elem.Bool n) v = option_map (typed boolean) (over_truths f v)
over_vector f _ v = None

-- a bit field, by an int offset and an int number of bits, neither below zero nor past the word together
abbrev pub field_of : Elem → ℕ → ℕ → ℕ → Option ℕ
field_of elem.Int offset count base = bit_field_signed offset count base
field_of _ offset count base = bit_field_unsigned offset count base

abbrev pub extracted_from : Option Components → Shape → ValueTree → ValueTree → ValueTree → Option Typed
extracted_from (Some c) s v offset count = if is_number c.elem then option_map (typed s) (bit_field (field_of c.elem) v offset count) else None
extracted_from None s v offset count = None

abbrev pub inserted_into : Option Components → Shape → Shape → ValueTree → ValueTree → ValueTree → ValueTree → Option Typed
inserted_into (Some c) s t v u offset count = if is_number c.elem && same_shape s t then option_map (typed s) (inserted_field v u offset count) else None
inserted_into None s t v u offset count = None

abbrev pub pure_value : PureFunction → List Typed → Option Typed
pure_value minimum (typed s a ∷ typed t b ∷ []) = binary_of min_of (components s) (components t) a b
pure_value maximum (typed s a ∷ typed t b ∷ []) = binary_of max_of (components s) (components t) a b
pure_value sign (typed s a ∷ []) = sign_of (components s) a
pure_value any (typed s a ∷ []) = over_vector (list_any (λ b. b)) s a
pure_value all (typed s a ∷ []) = over_vector (list_all (λ b. b)) s a
pure_value bit_count (typed s a ∷ []) = unary_of (λ e. BitCount) (λ e. elem.Int) (components s) a
pure_value bitfield_reverse (typed s a ∷ []) = unary_of (λ e. BitReverse) (λ e. e) (components s) a
pure_value find_lsb (typed s a ∷ []) = unary_of (λ e. FindILsb) (λ e. elem.Int) (components s) a
pure_value find_msb (typed s a ∷ []) = unary_of msb_of (λ e. elem.Int) (components s) a
pure_value bitfield_extract (typed s a ∷ typed int offset ∷ typed int count ∷ []) = extracted_from (components s) s a offset count
pure_value bitfield_insert (typed s a ∷ typed t b ∷ typed int offset ∷ typed int count ∷ []) = inserted_into (components s) s t a b offset count
pure_value _ _ = None
