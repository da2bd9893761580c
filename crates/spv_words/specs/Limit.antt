-- The limits: their names and their numbers.
use Rattle.std.specs.Prelude.{ℕ, List, codes}
use Rattle.spv_words.specs.declared.rule.Limit.{Limit}
use Rattle.spv_words.specs.declared.rule.Limit.TheVariants.{Bytes, Bound, Depth, Types, Parts, Calls, Leaves}

-- the largest number that is taken
abbrev pub limit_number : Limit → ℕ
limit_number Bytes = 4194304
limit_number Bound = 262144
limit_number Depth = 127
limit_number Types = 15
limit_number Parts = 16384
limit_number Calls = 64
limit_number Leaves = 262144

abbrev pub limit_name : Limit → List ℕ
limit_name Bytes = codes "bytes"
limit_name Bound = codes "bound"
limit_name Depth = codes "depth"
limit_name Types = codes "types"
limit_name Parts = codes "parts"
limit_name Calls = codes "calls"
limit_name Leaves = codes "leaves"
