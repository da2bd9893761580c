-- What operands have to be.
use Rattle.std.specs.Prelude.{ℕ, ◌≡◌, ◌<◌, ◌||◌, not, nat_lt, Bool, false, List, [], ◌∷◌, Option, Some, None}
use Rattle.std.specs.List.{list_any}
use Rattle.spv_ops.specs.declared.Op.{Op}
use Rattle.spv_ops.specs.OpGroups.{takes_of}
use Rattle.spv_ops.specs.declared.Takes.{Takes}
use Rattle.spv_ops.specs.declared.Takes.TheVariants.{Values, Types, TypeAndConstants, Constants, Labels, ValueAndLabels, ValuesWithLabels, ImportAndValues, FunctionAndValues}
use Rattle.spv_ops.specs.Operands.{has_id}
use Rattle.spv_ops.specs.declared.operands.IdWords.{IdWords}
use Rattle.profile_rules.specs.declared.needs.Need.{Need}
use Rattle.profile_rules.specs.declared.needs.Need.TheVariants.{AnyType, Constant, Value, Label, Callee, Import}
use Rattle.profile_rules.specs.Operands.{need, first_or}

-- what the first operand has to be, and what the others; of OpPhi values and labels alternate
abbrev pub needs_by : Takes → Option (Need × Need)
needs_by Values = Some (Value, Value)
needs_by Types = Some (AnyType, AnyType)
needs_by TypeAndConstants = Some (AnyType, Constant)
needs_by Constants = Some (Constant, Constant)
needs_by Labels = Some (Label, Label)
needs_by ValueAndLabels = Some (Value, Label)
needs_by ValuesWithLabels = None
needs_by ImportAndValues = Some (Import, Value)
needs_by FunctionAndValues = Some (Callee, Value)

unfoldable pub needs_of : Op → Option (Need × Need)
needs_of o = needs_by (takes_of o)

-- the first operand of the opcode has to be the one, and the others the other
pub record AreNeeds (o : Op) (needs : Need × Need) : Type 0 where
  pub each : (k : ℕ) → need o k ≡ first_or k needs.0 needs.1

-- of so many operands those below n are ids
pub record AreBelow (ids : IdWords) (many n : ℕ) : Type 0 where
  pub all : (k : ℕ) → k < many → has_id ids k ≡ nat_lt k n

-- one of these is not there: the first as what it has to be, or another as what the others have to be
abbrev pub lacks_of : (Need → ℕ → Bool) → Need × Need → List ℕ → Bool
lacks_of there needs [] = false
lacks_of there needs (id ∷ ids) = not (there needs.0 id) || list_any (λ other. not (there needs.1 other)) ids
