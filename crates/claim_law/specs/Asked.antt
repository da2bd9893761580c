-- Which names the expressions of a function's values ask for.
use Rattle.std.specs.Prelude.{◌≡◌, ◌≤◌, ◌⊎◌, ℕ, List, [], ◌∷◌, drop, map, Some, None, slice_index}
use Rattle.spv_module.specs.Lists.{id}
use Rattle.spv_module.specs.declared.inst.Inst.{Inst}
use Rattle.hoist_plan.specs.declared.form.Form.TheVariants.{Forwarded}
use Rattle.name_alloc.specs.declared.claims.Key.TheVariants.{Id}
use Rattle.op_semantics.specs.Value.{operation_of, not_extended}
use Rattle.glsl_ast.specs.Tree.{Expr}
use Rattle.vec_lowering.specs.Named.{Naming}
use Rattle.vec_lowering.specs.Lowered.{lowered_vector}
use Rattle.text_rules.specs.Outlines.{basic}
use Rattle.text_rules.specs.Declarations.{shape_at, type_at, zero_at}
use Rattle.expr_forward.specs.declared.kinds.OperationKind.{OperationKind}
use Rattle.expr_forward.specs.declared.kinds.OperationKind.TheVariants as kind
use Rattle.expr_forward.specs.Scope.{Scope, globals, type_of}
use Rattle.expr_forward.specs.Context.{operand}
use Rattle.expr_forward.specs.Kinds.{operation_kind_of}
use Rattle.expr_forward.specs.Paths.{word_at, part_steps}
use Rattle.expr_forward.specs.Values.{argument, value_words, literal_words, length_text, whole_argument}
use Rattle.claim_law.specs.Ranked.{operand_ids, AreBelow, IsForwardedBy}
use Rattle.claim_law.specs.Uses.{Words, UsesType, UsesExpr, UseSteps}
use Rattle.claim_law.specs.Named.{FitsIfSome, AsksIfAny}

module _ (W : Words) (names : Naming) (w : Scope) (IsUsable : ℕ → Type 0) where
  abbrev pub AreUsable : List ℕ → Type 0
  AreUsable [] = Unit {0}
  AreUsable (n ∷ ns) = IsUsable n × AreUsable ns

  -- an operation on scalars and vectors asks this of the names of types, whatever its operands are written as
  abbrev pub AsksOf : ℕ → Inst → List ℕ → Type 0
  AsksOf number i args = (value : ℕ → Expr) → AsksIfAny W names i.op (operation_of i.op (number ∷ [])) (basic (globals w) i.ty) (literal_words i.op args) (map operand (map (argument w value) (value_words i.op args)))

  -- the expression of an operation is made of usable values, and of these names
  abbrev pub MeetsKind : ℕ → Inst → OperationKind → Type 0
  MeetsKind block i kind.Undef = UsesExpr W (zero_at w.setting.source w.names i.ty)
  MeetsKind block i kind.CopyObject = IsUsable (slice_index i.args 0)
  MeetsKind block i kind.ArrayLength = UsesExpr W (length_text w block i)
  MeetsKind block i kind.CompositeExtract = IsUsable (slice_index i.args 0) × UseSteps W (part_steps w.setting (type_of w (slice_index i.args 0)) (drop 1 i.args))
  MeetsKind block i kind.CompositeConstruct = UsesType W (type_at w.setting.source w.names i.ty) × AreUsable i.args
  MeetsKind block i kind.CopyLogical = IsUsable (slice_index i.args 0) × ((value : ℕ → Expr) → AsksIfAny W names i.op (operation_of i.op (not_extended ∷ [])) (shape_at w.setting.source i.ty) [] (map operand (whole_argument w value (slice_index i.args 0) ∷ [])))
  MeetsKind block i kind.Extended = AreUsable (value_words i.op (drop 2 i.args)) × AsksOf (slice_index i.args 1) i (drop 2 i.args)
  MeetsKind block i kind.Plain = AreUsable (value_words i.op i.args) × AsksOf not_extended i i.args
  MeetsKind block i kind.Other = W.value (w.setting.key (Id (id i.result)))

  abbrev pub Meets : ℕ → Inst → Type 0
  Meets block i = MeetsKind block i (operation_kind_of i.op)

  -- what is read of a usable global; literals; and each other usable value has a name, or is written as an operation
  pub record IsAsked (block : ℕ) : Type 0 where
    pub read : (n : ℕ) (e : Expr) → IsUsable n → w.setting.global n ≡ Some e → UsesExpr W e
    pub words : (n : ℕ) → FitsIfSome (word_at w.setting n)
    pub ways : (n : ℕ) → IsUsable n → w.setting.global n ≡ None → (W.value (w.setting.key (Id (id n))) × (w.form n ≡ Forwarded → ⊥)) ⊎ ((i : Inst) × IsForwardedBy w n i × Meets block i)
    pub lowered_is : w.lowered ≡ (λ op ext t args literals. lowered_vector names op ext t literals (map operand args))

-- what stands in the expression of a usable value has a lower rank, and no value has a rank above 16
pub record AreRanked (w : Scope) (IsUsable : ℕ → Type 0) (rank : ℕ → ℕ) : Type 0 where
  pub falls : (n : ℕ) (i : Inst) → IsUsable n → IsForwardedBy w n i → AreBelow rank (rank n) (operand_ids i)
  pub low : (n : ℕ) → rank n ≤ 16
