-- The operators on values (GLSL 4.60, sections 5.9 and 5.11). There is no conversion between types but by constructors. An operator has no value of operands that do not fit, of a division by zero or of a number below zero, or of a shift by 32 or more.
use Rattle.std.specs.Prelude.{ℕ, ◌/◌, ◌%◌, ◌==◌, ◌&&◌, ◌||◌, not, nat_lt, nat_le, int_lt, int_le, Bool, true, false, Option, Some, None, option_map, if◌then◌else◌}
use Rattle.std.specs.Int.{bit_not, w32}
use Rattle.spv_module.specs.declared.tree.Elem.{Elem}
use Rattle.spv_module.specs.declared.tree.Elem.TheVariants as elem
use Rattle.spv_types.specs.Tree.{ValueTree, truth, word, many, ValueTrees, no_values, value as one_value}
use Rattle.spv_types.specs.Leaves.{times}
use Rattle.op_semantics.specs.declared.operation.Binary.TheVariants.{IAdd, ISub, IMul, BitwiseOr, BitwiseXor, BitwiseAnd, ShiftLeftLogical, ShiftRightLogical, ShiftRightArithmetic}
use Rattle.op_semantics.specs.Word.{signed, smallest, binary_word}
use Rattle.op_semantics.specs.Component.{by_one, by_two}
use Rattle.glsl_ast.specs.declared.expressions.BinOp.{BinOp}
use Rattle.glsl_ast.specs.declared.expressions.BinOp.TheVariants as op
use Rattle.glsl_semantics.specs.Shapes.{Shape, boolean, int, uint, vector, Typed, typed, same_elem, same_shape, scalar}

-- a scalar or a vector: its component type, and the number of components, 1 of a scalar
pub record Components : Type 0 where
  pub elem : Elem
  pub count : ℕ

abbrev pub components : Shape → Option Components
components boolean = Some (record { elem = elem.Bool; count = 1 })
components int = Some (record { elem = elem.Int; count = 1 })
components uint = Some (record { elem = elem.Uint; count = 1 })
components (vector e n) = Some (record { elem = e; count = n })
components _ = None

abbrev pub shape_by : Elem → ℕ → Shape
shape_by e n = if n == 1 then scalar e else vector e n

-- a scalar beside a vector stands for each of its components
abbrev pub widened : ℕ → ℕ → ValueTree → ValueTree
widened from to v = if (from == 1) && not (to == 1) then times to v else v

abbrev pub common_count : ℕ → ℕ → Option ℕ
common_count a b = if a == b then Some a else (if a == 1 then Some b else (if b == 1 then Some a else None))

-- numbers below zero, of those with a sign
abbrev pub is_below_zero : Elem → ℕ → Bool
is_below_zero elem.Int a = not (nat_lt a smallest)
is_below_zero _ a = false

-- a quotient or a remainder: none by zero or of a number below zero
abbrev pub divided_by : Elem → (ℕ → ℕ → ℕ) → ℕ → ℕ → Option ℕ
divided_by e f a b = if (b == 0) || (is_below_zero e a || is_below_zero e b) then None else Some (f a b)

-- a shift: none by 32 or more, as a number below zero is too
abbrev pub shifted_by : (ℕ → ℕ → Option ℕ) → ℕ → ℕ → Option ℕ
shifted_by f a n = if nat_lt n 32 then f a n else None

abbrev pub shift_right : Elem → ℕ → ℕ → Option ℕ
shift_right elem.Int a n = binary_word ShiftRightArithmetic a n
shift_right _ a n = binary_word ShiftRightLogical a n

-- the operators of numbers with numbers, on words; sums, differences and products wrap
abbrev pub word_operator : BinOp → Elem → ℕ → ℕ → Option ℕ
word_operator op.Add e a b = binary_word IAdd a b
word_operator op.Sub e a b = binary_word ISub a b
word_operator op.Mul e a b = binary_word IMul a b
word_operator op.Div e a b = divided_by e (λ x y. x / y) a b
word_operator op.Rem e a b = divided_by e (λ x y. x % y) a b
word_operator op.Shl e a n = shifted_by (binary_word ShiftLeftLogical) a n
word_operator op.Shr e a n = shifted_by (shift_right e) a n
word_operator op.And e a b = binary_word BitwiseAnd a b
word_operator op.Or e a b = binary_word BitwiseOr a b
word_operator op.Xor e a b = binary_word BitwiseXor a b
word_operator _ e a b = None

-- the comparisons of numbers
abbrev pub less : Elem → ℕ → ℕ → Bool
less elem.Int a b = int_lt (signed a) (signed b)
less _ a b = nat_lt a b

abbrev pub less_or_equal : Elem → ℕ → ℕ → Bool
less_or_equal elem.Int a b = int_le (signed a) (signed b)
less_or_equal _ a b = nat_le a b

abbrev pub comparison : BinOp → Elem → ℕ → ℕ → Option Bool
comparison op.Less e a b = Some (less e a b)
comparison op.LessEqual e a b = Some (less_or_equal e a b)
comparison op.Greater e a b = Some (less e b a)
comparison op.GreaterEqual e a b = Some (less_or_equal e b a)
comparison _ e a b = None

-- what the operands of an operator have to be: numbers of one type; a number and the amount of a shift, which may have another type; scalar numbers of one type; or values of one type
pub data OperatorKind : Type 0 where
  numeric : OperatorKind
  shift : OperatorKind
  relation : OperatorKind
  equality : OperatorKind
  logical : OperatorKind

abbrev pub operator_kind : BinOp → OperatorKind
operator_kind op.Shl = shift
operator_kind op.Shr = shift
operator_kind op.Less = relation
operator_kind op.LessEqual = relation
operator_kind op.Greater = relation
operator_kind op.GreaterEqual = relation
operator_kind op.Equal = equality
operator_kind op.NotEqual = equality
operator_kind op.Both = logical
operator_kind op.Either = logical
operator_kind _ = numeric

abbrev pub is_number : Elem → Bool
is_number elem.Bool = false
is_number _ = true

abbrev pub on_words : (ℕ → ℕ → Option ℕ) → ValueTree → ValueTree → Option ValueTree
on_words f (word a) (word b) = option_map word (f a b)
on_words f _ _ = None

abbrev pub compared : (ℕ → ℕ → Option Bool) → ValueTree → ValueTree → Option ValueTree
compared f (word a) (word b) = option_map truth (f a b)
compared f _ _ = None

-- by component, where the counts fit
abbrev pub by_components : BinOp → Elem → (m n : ℕ) → ValueTree → ValueTree → Option ℕ → Option Typed
by_components o e m n a b (Some count) = option_map (typed (shape_by e count)) (by_two (on_words (word_operator o e)) (widened m count a) (widened n count b))
by_components o e m n a b None = None

abbrev pub numeric_value : BinOp → Components → Components → ValueTree → ValueTree → Option Typed
numeric_value o s t a b =
    if is_number s.elem && same_elem s.elem t.elem then by_components o s.elem s.count t.count a b (common_count s.count t.count) else None

-- a scalar is shifted by a scalar alone (section 5.9)
abbrev pub shift_count : ℕ → ℕ → Option ℕ
shift_count m n = if (m == n) || (n == 1) then Some m else None

abbrev pub shift_value : BinOp → Components → Components → ValueTree → ValueTree → Option Typed
shift_value o s t a b =
    if is_number s.elem && is_number t.elem then by_components o s.elem s.count t.count a b (shift_count s.count t.count) else None

abbrev pub relation_value : BinOp → Components → Components → ValueTree → ValueTree → Option Typed
relation_value o s t a b =
    if (is_number s.elem && same_elem s.elem t.elem) && ((s.count == 1) && (t.count == 1)) then option_map (typed boolean) (compared (comparison o s.elem) a b) else None

-- two values of one type are equal where all their scalars are
abbrev mutual
  pub same_value : ValueTree → ValueTree → Bool
  same_value (truth a) (truth b) = if a then b else not b
  same_value (word a) (word b) = a == b
  same_value (many as') (many bs) = same_values as' bs
  same_value _ _ = false

  pub same_values : ValueTrees → ValueTrees → Bool
  same_values no_values no_values = true
  same_values (one_value a as') (one_value b bs) = same_value a b && same_values as' bs
  same_values _ _ = false

abbrev pub equality_truth : BinOp → Bool → Bool
equality_truth op.Equal b = b
equality_truth _ b = not b

abbrev pub equality_value : BinOp → Shape → Shape → ValueTree → ValueTree → Option Typed
equality_value o s t a b = if same_shape s t then Some (typed boolean (truth (equality_truth o (same_value a b)))) else None

abbrev pub of_components : (Components → Components → Option Typed) → Option Components → Option Components → Option Typed
of_components f (Some s) (Some t) = f s t
of_components f _ _ = None

-- the value of an operator, but of `&&` and `||`, which look at their second operand only where they need it
abbrev pub operated_by : OperatorKind → BinOp → Shape → Shape → ValueTree → ValueTree → Option Typed
operated_by numeric o s t a b = of_components (λ x y. numeric_value o x y a b) (components s) (components t)
operated_by shift o s t a b = of_components (λ x y. shift_value o x y a b) (components s) (components t)
operated_by relation o s t a b = of_components (λ x y. relation_value o x y a b) (components s) (components t)
operated_by equality o s t a b = equality_value o s t a b
operated_by logical o s t a b = None

abbrev pub operated : BinOp → Typed → Typed → Option Typed
operated o (typed s a) (typed t b) = operated_by (operator_kind o) o s t a b

-- `!` and `~`
abbrev pub negated : Typed → Option Typed
negated (typed boolean (truth b)) = Some (typed boolean (truth (not b)))
negated _ = None

abbrev pub flipped_word : ValueTree → Option ValueTree
flipped_word (word a) = Some (word (bit_not w32 a))
flipped_word _ = None

abbrev pub flipped_if : Shape → ValueTree → Option Components → Option Typed
flipped_if s v (Some c) = if is_number c.elem then option_map (typed s) (by_one flipped_word v) else None
flipped_if s v None = None

abbrev pub flipped : Typed → Option Typed
flipped (typed s v) = flipped_if s v (components s)
