-- Operands of kinds of which an operation has no value.
use Rattle.std.proofs.Common.{◌≡◌, ℕ, Bool, refl}
use Rattle.std.specs.Prelude.{None}
use Rattle.spv_types.specs.Tree.{ValueTree, truth, word, many, ValueTrees}
use Rattle.value_ops.specs.declared.scalars.OneScalar.{OneScalar}
use Rattle.value_ops.specs.declared.scalars.OneScalar.TheVariants as one
use Rattle.value_ops.specs.declared.scalars.TwoScalars.{TwoScalars}
use Rattle.value_ops.specs.declared.scalars.TwoScalars.TheVariants as two
use Rattle.value_ops.specs.Scalars.{one_scalar, two_scalars}

pub many_alone : (op : OneScalar) (vs : ValueTrees) → one_scalar op (many vs) ≡ None
many_alone (one.Unary o) vs = refl
many_alone one.Not vs = refl
many_alone (one.Field s o c) vs = refl

-- a scalar of one kind and one of another, and what is no scalar, have no value
pub word_truth : (op : TwoScalars) (a : ℕ) (b : Bool) → two_scalars op (word a) (truth b) ≡ None
word_truth (two.Binary o) a b = refl
word_truth (two.Comparison o) a b = refl
word_truth (two.Logical o) a b = refl
word_truth (two.InsertField o c) a b = refl

pub truth_word : (op : TwoScalars) (a : Bool) (b : ℕ) → two_scalars op (truth a) (word b) ≡ None
truth_word (two.Binary o) a b = refl
truth_word (two.Comparison o) a b = refl
truth_word (two.Logical o) a b = refl
truth_word (two.InsertField o c) a b = refl

pub many_first : (op : TwoScalars) (vs : ValueTrees) (b : ValueTree) → two_scalars op (many vs) b ≡ None
many_first (two.Binary o) vs b = refl
many_first (two.Comparison o) vs b = refl
many_first (two.Logical o) vs b = refl
many_first (two.InsertField o c) vs b = refl

pub many_second : (op : TwoScalars) (a : ValueTree) (vs : ValueTrees) → two_scalars op a (many vs) ≡ None
many_second (two.Binary o) (word a) vs = refl
many_second (two.Binary o) (truth a) vs = refl
many_second (two.Binary o) (many a) vs = refl
many_second (two.Comparison o) (word a) vs = refl
many_second (two.Comparison o) (truth a) vs = refl
many_second (two.Comparison o) (many a) vs = refl
many_second (two.Logical o) (word a) vs = refl
many_second (two.Logical o) (truth a) vs = refl
many_second (two.Logical o) (many a) vs = refl
many_second (two.InsertField o c) (word a) vs = refl
many_second (two.InsertField o c) (truth a) vs = refl
many_second (two.InsertField o c) (many a) vs = refl

pub ruleset two_rules = (word_truth, truth_word, many_first, many_second)
