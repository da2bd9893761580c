use Rattle.std.proofs.Common.{rules}
use Rattle.value_ops.proofs.Numbers.{numbers}
use Rattle.value_ops.proofs.operate.value_of_operation.Goals as goal
use Rattle.value_ops.proofs.operate.value_of_operation.Goals.{in_default-via-in-Unary+then-operands-lt1, in_default-via-in-Unary+else-operands-lt1+else-this-lt2, in_default-via-in-LogicalNot+then-this-lt1, in_default-via-in-LogicalNot+else-this-lt1+else-this-lt2-2, in_default-via-in-Binary+then-this-lt2-3, in_default-via-in-Binary+else-this-lt2-3+else-this-lt3, in_default-via-in-Comparison+then-this-lt2-4, in_default-via-in-Comparison+else-this-lt2-4+else-this-lt3-2, in_default-via-in-Logical+then-this-lt2-5, in_default-via-in-Logical+else-this-lt2-5+else-this-lt3-3, in_default-via-in-Clamp+then-this-lt3-4, in_default-via-in-Clamp+else-this-lt3-4+else-this-lt4, in_default-via-in-Select+then-this-lt3-5, in_default-via-in-Select+else-this-lt3-5+else-this-lt4-2, in_default-via-in-BitFieldInsert+then-this-lt4-3, in_default-via-in-BitFieldInsert+else-this-lt4-3+else-this-lt5, in_default-via-in-BitFieldSExtract+then-this-lt3-6, in_default-via-in-BitFieldSExtract+else-this-lt3-6+else-this-lt4-4, in_default-via-in-BitFieldUExtract+then-this-lt3-7, in_default-via-in-BitFieldUExtract+else-this-lt3-7+else-this-lt4-5, in_default-via-in-Any+then-this-lt1-2, in_default-via-in-Any+else-this-lt1-2+else-this-lt2-6, in_default-via-in-All+then-this-lt1-3, in_default-via-in-All+else-this-lt1-3+else-this-lt2-7, in_default-via-in-Copy+then-this-lt1-4, in_default-via-in-Copy+else-this-lt1-4+else-this-lt2-8, in_default-via-in-VectorExtractDynamic+then-this-lt2-9, in_default-via-in-VectorExtractDynamic+else-this-lt2-9+else-this-lt3-8, in_default-via-in-VectorInsertDynamic+then-this-lt3-9, in_default-via-in-VectorInsertDynamic+else-this-lt3-9+else-this-lt4-6, in_default-via-in-VectorShuffle+then-this-lt2-10, in_default-via-in-VectorShuffle+else-this-lt2-10+else-this-lt3-10, in_default-via-in-CompositeExtract+then-this-lt1-5, in_default-via-in-CompositeExtract+else-this-lt1-5+else-this-lt2-11, in_default-via-in-CompositeInsert+then-this-lt2-12, in_default-via-in-CompositeInsert+else-this-lt2-12+else-this-lt3-11}

pub returns-in_default : goal.returns-in_default
returns-in_default c =
    elim c.in_default.branch [
      | in_default-via-in-Unary+then-operands-lt1 w ↦ search (rules, numbers)
      | in_default-via-in-Unary+else-operands-lt1+else-this-lt2 w ↦ search (rules, numbers)
      | in_default-via-in-LogicalNot+then-this-lt1 w ↦ search (rules, numbers)
      | in_default-via-in-LogicalNot+else-this-lt1+else-this-lt2-2 w ↦ search (rules, numbers)
      | in_default-via-in-Binary+then-this-lt2-3 w ↦ search (rules, numbers)
      | in_default-via-in-Binary+else-this-lt2-3+else-this-lt3 w ↦ search (rules, numbers)
      | in_default-via-in-Comparison+then-this-lt2-4 w ↦ search (rules, numbers)
      | in_default-via-in-Comparison+else-this-lt2-4+else-this-lt3-2 w ↦ search (rules, numbers)
      | in_default-via-in-Logical+then-this-lt2-5 w ↦ search (rules, numbers)
      | in_default-via-in-Logical+else-this-lt2-5+else-this-lt3-3 w ↦ search (rules, numbers)
      | in_default-via-in-Clamp+then-this-lt3-4 w ↦ search (rules, numbers)
      | in_default-via-in-Clamp+else-this-lt3-4+else-this-lt4 w ↦ search (rules, numbers)
      | in_default-via-in-Select+then-this-lt3-5 w ↦ search (rules, numbers)
      | in_default-via-in-Select+else-this-lt3-5+else-this-lt4-2 w ↦ search (rules, numbers)
      | in_default-via-in-BitFieldInsert+then-this-lt4-3 w ↦ search (rules, numbers)
      | in_default-via-in-BitFieldInsert+else-this-lt4-3+else-this-lt5 w ↦ search (rules, numbers)
      | in_default-via-in-BitFieldSExtract+then-this-lt3-6 w ↦ search (rules, numbers)
      | in_default-via-in-BitFieldSExtract+else-this-lt3-6+else-this-lt4-4 w ↦ search (rules, numbers)
      | in_default-via-in-BitFieldUExtract+then-this-lt3-7 w ↦ search (rules, numbers)
      | in_default-via-in-BitFieldUExtract+else-this-lt3-7+else-this-lt4-5 w ↦ search (rules, numbers)
      | in_default-via-in-Any+then-this-lt1-2 w ↦ search (rules, numbers)
      | in_default-via-in-Any+else-this-lt1-2+else-this-lt2-6 w ↦ search (rules, numbers)
      | in_default-via-in-All+then-this-lt1-3 w ↦ search (rules, numbers)
      | in_default-via-in-All+else-this-lt1-3+else-this-lt2-7 w ↦ search (rules, numbers)
      | in_default-via-in-Copy+then-this-lt1-4 w ↦ search (rules, numbers)
      | in_default-via-in-Copy+else-this-lt1-4+else-this-lt2-8 w ↦ search (rules, numbers)
      | in_default-via-in-VectorExtractDynamic+then-this-lt2-9 w ↦ search (rules, numbers)
      | in_default-via-in-VectorExtractDynamic+else-this-lt2-9+else-this-lt3-8 w ↦ search (rules, numbers)
      | in_default-via-in-VectorInsertDynamic+then-this-lt3-9 w ↦ search (rules, numbers)
      | in_default-via-in-VectorInsertDynamic+else-this-lt3-9+else-this-lt4-6 w ↦ search (rules, numbers)
      | in_default-via-in-VectorShuffle+then-this-lt2-10 w ↦ search (rules, numbers)
      | in_default-via-in-VectorShuffle+else-this-lt2-10+else-this-lt3-10 w ↦ search (rules, numbers)
      | in_default-via-in-CompositeExtract+then-this-lt1-5 w ↦ search (rules, numbers)
      | in_default-via-in-CompositeExtract+else-this-lt1-5+else-this-lt2-11 w ↦ search (rules, numbers)
      | in_default-via-in-CompositeInsert+then-this-lt2-12 w ↦ search (rules, numbers)
      | in_default-via-in-CompositeInsert+else-this-lt2-12+else-this-lt3-11 w ↦ search (rules, numbers)
    ]
