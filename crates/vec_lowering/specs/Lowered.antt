-- The expression of each operation on scalars, vectors and composites.
use Rattle.std.specs.Prelude.{ℕ, List, [], ◌∷◌, map, Option, Some, None, if◌then◌else◌}
use Rattle.spv_ops.specs.Opcode.{is}
use Rattle.spv_ops.specs.declared.Op.{Op}
use Rattle.spv_ops.specs.declared.Op.TheVariants as code
use Rattle.spv_types.specs.Tree.{Tree}
use Rattle.glsl_ast.specs.Tree.{Expr}
use Rattle.op_semantics.specs.Value.{operation_of}
use Rattle.op_semantics.specs.declared.operation.Operation.{Operation}
use Rattle.op_semantics.specs.declared.operation.Operation.TheVariants as op
use Rattle.int_lowering.specs.Operand.{basic_type}
use Rattle.int_lowering.specs.Lowered.{zero}
use Rattle.vec_lowering.specs.Named.{Naming}
use Rattle.vec_lowering.specs.Component.{on_basic}
use Rattle.vec_lowering.specs.Composite.{Argument, operand, first_of, second_of, constructed, extracted, shuffled, copied}

abbrev pub extracted_from : Naming → List ℕ → List Argument → Expr
extracted_from names literals xs = extracted names (first_of xs).shape literals (first_of xs).of

-- a component by an index that is computed
abbrev pub extracted_at : List Argument → Expr
extracted_at xs = Expr.index (first_of xs).of (second_of xs).of

abbrev pub shuffled_of : Naming → Tree → List ℕ → List Argument → Expr
shuffled_of names t picks xs = shuffled names t picks (first_of xs) (second_of xs)

abbrev pub copied_from : Naming → Tree → List Argument → Expr
copied_from names t xs = copied names t (first_of xs).shape (first_of xs).of

-- an operation with a result of a basic type
abbrev pub on_arguments : Operation → Tree → List Argument → Expr
on_arguments o t xs = on_basic o (basic_type t) (map operand xs)

-- OpCopyLogical makes a value of another type part by part; OpCopyObject and OpBitcast do not
abbrev pub copy_by : Naming → Op → Tree → List Argument → Expr
copy_by names opcode t xs =
    if is opcode code.CopyLogical
    then copied_from names t xs
    else on_arguments op.Copy t xs

-- the expression of an operation, from the shape of its result, its literals and its operands in order
abbrev pub written : Naming → Op → Operation → Tree → List ℕ → List Argument → Expr
written names opcode op.CompositeConstruct t literals xs = constructed names t xs
written names opcode op.CompositeExtract t literals xs = extracted_from names literals xs
written names opcode op.VectorExtractDynamic t literals xs = extracted_at xs
written names opcode op.VectorShuffle t literals xs = shuffled_of names t literals xs
written names opcode op.Copy t literals xs = copy_by names opcode t xs
written names opcode o t literals xs = on_arguments o t xs

abbrev pub written_if_any : Naming → Op → Option Operation → Tree → List ℕ → List Argument → Expr
written_if_any names opcode (Some o) t literals xs = written names opcode o t literals xs
written_if_any names opcode None t literals xs = zero (basic_type t)

-- the same by opcode and, of OpExtInst, by the number in GLSL.std.450
abbrev pub lowered_vector : Naming → Op → ℕ → Tree → List ℕ → List Argument → Expr
lowered_vector names opcode ext t literals xs = written_if_any names opcode (operation_of opcode (ext ∷ [])) t literals xs
