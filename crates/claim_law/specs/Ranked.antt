-- Values that stand in one another's expressions, each lower than that in which it stands.
use Rattle.std.specs.Prelude.{◌≡◌, ◌<◌, ◌≤◌, ℕ, List, [], ◌∷◌, drop, Some, None, slice_index}
use Rattle.spv_module.specs.declared.inst.Inst.{Inst}
use Rattle.hoist_plan.specs.declared.form.Form.TheVariants.{Forwarded}
use Rattle.expr_forward.specs.declared.kinds.OperationKind.{OperationKind}
use Rattle.expr_forward.specs.declared.kinds.OperationKind.TheVariants as kind
use Rattle.expr_forward.specs.Scope.{Scope, inst_at}
use Rattle.expr_forward.specs.Kinds.{operation_kind_of}
use Rattle.expr_forward.specs.Values.{value_words}

-- the values that stand in the expression of an operation
abbrev pub ids_by_kind : OperationKind → Inst → List ℕ
ids_by_kind kind.Undef i = []
ids_by_kind kind.CopyObject i = slice_index i.args 0 ∷ []
ids_by_kind kind.ArrayLength i = []
ids_by_kind kind.CompositeExtract i = slice_index i.args 0 ∷ []
ids_by_kind kind.CompositeConstruct i = i.args
ids_by_kind kind.CopyLogical i = slice_index i.args 0 ∷ []
ids_by_kind kind.Extended i = value_words i.op (drop 2 i.args)
ids_by_kind kind.Plain i = value_words i.op i.args
ids_by_kind kind.Other i = []

abbrev pub operand_ids : Inst → List ℕ
operand_ids i = ids_by_kind (operation_kind_of i.op) i

-- each has a lower rank
abbrev pub AreBelow : (ℕ → ℕ) → ℕ → List ℕ → Type 0
AreBelow rank n [] = Unit {0}
AreBelow rank n (id ∷ ids) = (rank id < n) × AreBelow rank n ids

-- the result has no variable, and is written as the operation of this instruction
pub record IsForwardedBy (w : Scope) (n : ℕ) (i : Inst) : Type 0 where
  pub local : w.setting.global n ≡ None
  pub form : w.form n ≡ Forwarded
  pub there : inst_at w n ≡ Some i

-- each is usable and has a lower rank
abbrev pub AreUsableBelow : (ℕ → Type 0) → (ℕ → ℕ) → ℕ → List ℕ → Type 0
AreUsableBelow IsUsable rank n [] = Unit {0}
AreUsableBelow IsUsable rank n (id ∷ ids) = IsUsable id × (rank id < n) × AreUsableBelow IsUsable rank n ids

-- what stands in the expression of a usable value is usable and has a lower rank, and no value has a rank above 16
pub record IsRanked (w : Scope) (IsUsable : ℕ → Type 0) (rank : ℕ → ℕ) : Type 0 where
  pub falls : (n : ℕ) (i : Inst) → IsUsable n → IsForwardedBy w n i → AreUsableBelow IsUsable rank (rank n) (operand_ids i)
  pub low : (n : ℕ) → rank n ≤ 16
