-- The literal of a scalar by its shape is that by its scalar type.
use Rattle.std.proofs.Common.{ℕ, ◌≡◌, Bool as Truth, refl, Option, Some, None, is_some, false, option_and_then, unwrap_or}
use Rattle.std.specs.Option.{option_map_or}
use Rattle.spv_types.specs.Tree.{Tree, boolean, int, uint, vector, array, runtime, struct, truth, word}
use Rattle.spv_types.specs.Types.{elem_of}
use Rattle.spv_types.specs.Leaves.{zero_of}
use Rattle.spv_module.specs.declared.tree.Length.TheVariants.{Fixed, Spec}
use Rattle.glsl_ast.specs.declared.expressions.Literal.TheVariants.{Truth as truth_literal}
use Rattle.text_rules.specs.Constants.{is_scalar, scalar_literal}
use Rattle.text_rules.specs.Declarations.{word_of}
use Rattle.constant_text.specs.Scalars.{word_literal, zero_literal}

shape_word : (t : Tree) (w : ℕ) → scalar_literal t (word w) ≡ word_literal (elem_of t) w
shape_word boolean w = refl
shape_word int w = refl
shape_word uint w = refl
shape_word (vector e n) w = refl
shape_word (array t l) w = refl
shape_word (runtime t) w = refl
shape_word (struct id ts) w = refl

pub word_same : (o : Option Tree) (w : ℕ) → scalar_literal (unwrap_or o uint) (word w) ≡ word_literal (option_and_then elem_of o) w
word_same None w = refl
word_same (Some t) w = shape_word t w

shape_truth : (t : Tree) (b : Truth) → scalar_literal t (truth b) ≡ truth_literal b
shape_truth boolean b = refl
shape_truth int b = refl
shape_truth uint b = refl
shape_truth (vector e n) b = refl
shape_truth (array t l) b = refl
shape_truth (runtime t) b = refl
shape_truth (struct id ts) b = refl

pub truth_same : (o : Option Tree) (b : Truth) → scalar_literal (unwrap_or o uint) (truth b) ≡ truth_literal b
truth_same o b = shape_truth (unwrap_or o uint) b

shape_zero : (t : Tree) → scalar_literal t (zero_of t) ≡ zero_literal (elem_of t)
shape_zero boolean = refl
shape_zero int = refl
shape_zero uint = refl
shape_zero (vector e n) = refl
shape_zero (array t (Fixed n)) = refl
shape_zero (array t (Spec id)) = refl
shape_zero (runtime t) = refl
shape_zero (struct id ts) = refl

pub zero_same : (o : Option Tree) → scalar_literal (unwrap_or o uint) (zero_of (unwrap_or o uint)) ≡ zero_literal (option_and_then elem_of o)
zero_same None = refl
zero_same (Some t) = shape_zero t

shape_scalar : (t : Tree) → is_scalar t ≡ is_some (elem_of t)
shape_scalar boolean = refl
shape_scalar int = refl
shape_scalar uint = refl
shape_scalar (vector e n) = refl
shape_scalar (array t l) = refl
shape_scalar (runtime t) = refl
shape_scalar (struct id ts) = refl

pub scalar_same : (o : Option Tree) → option_map_or is_scalar o false ≡ is_some (option_and_then elem_of o)
scalar_same None = refl
scalar_same (Some t) = shape_scalar t

shape_zero_word : (t : Tree) → word_of (zero_of t) ≡ 0
shape_zero_word boolean = refl
shape_zero_word int = refl
shape_zero_word uint = refl
shape_zero_word (vector e n) = refl
shape_zero_word (array t (Fixed n)) = refl
shape_zero_word (array t (Spec id)) = refl
shape_zero_word (runtime t) = refl
shape_zero_word (struct id ts) = refl

-- the word of a zero
pub zero_word : (o : Option Tree) → word_of (zero_of (unwrap_or o uint)) ≡ 0
zero_word o = shape_zero_word (unwrap_or o uint)

pub ruleset scalar_rules = (word_same, truth_same, zero_same, scalar_same)
