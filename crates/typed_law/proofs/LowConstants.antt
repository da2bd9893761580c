-- The constants of a module of words are of words.
use Rattle.std.proofs.Common.{◌≡◌, ◌<◌, ◌^◌, ◌==◌, ℕ, Bool, true, false, List, [], ◌∷◌, drop, Option, Some, None, inl, inr, refl, sym, subst, if◌then◌else◌}
use Rattle.std.specs.Prelude.{fold, option_map, option_and_then, unwrap_or, slice_index, IfSome}
use Rattle.std.specs.Option.{option_or}
use Rattle.std.proofs.lemmas.Option.{same_Some}
use Rattle.spv_ops.specs.Opcode.{op_of}
use Rattle.spv_ops.specs.declared.Op.{Op}
use Rattle.spv_module.specs.State.{ModuleState}
use Rattle.spv_module.specs.declared.inst.Inst.{Inst}
use Rattle.spv_types.specs.Tree.{Tree, ValueTree, truth, word}
use Rattle.spv_types.specs.Types.{type_tree}
use Rattle.spv_types.specs.Leaves.{zero_of}
use Rattle.op_semantics.specs.declared.operation.Operation.{Operation}
use Rattle.op_semantics.specs.Fits.{fits, IsOfWords}
use Rattle.op_semantics.specs.Component.{each_one, composite}
use Rattle.op_semantics.specs.Value.{operation}
use Rattle.profile_rules.specs.declared.constant.ConstantKind.{ConstantKind}
use Rattle.profile_rules.specs.declared.constant.ConstantKind.TheVariants.{True, False, Word, Composite, Zero, SpecTrue, SpecFalse, SpecWord, Operation as Calculated, Other}
use Rattle.profile_rules.specs.TypeRules.{is_sound}
use Rattle.profile_rules.specs.Constants.{constant_kind, may_give, inner_operands, inner_literals, value_by_operation, operation_value, value_by_kind, if_fits, shaped_value, value_step, with_value, constant_value}
use Rattle.list_law.proofs.Options.{some_part}
use Rattle.plan_law.specs.InOrder.{IsAmong}
use Rattle.fits_law.proofs.Operations.{before_some}
use Rattle.typed_law.specs.Words.{AllOfWords, HoldWords}
use Rattle.typed_law.proofs.LowValues.{composite_low, op_low, zero_low}

each_held : (f : ℕ → Option ValueTree) (ids : List ℕ) (vs : List ValueTree) → HoldWords f → each_one f ids ≡ Some vs → AllOfWords vs
each_held f [] vs h e = subst AllOfWords (same_Some [] vs e) tt
each_held f (id ∷ ids) vs h e = let b = before_some (f id) (each_one f ids) vs e in subst AllOfWords (sym b.4) (h id b.0 b.2, each_held f ids b.1 h b.3)

module _ (m : ModuleState) (chosen : ℕ → Option ℕ) (given : (id : ℕ) → IfSome (chosen id) (λ (w : ℕ). w < 2 ^ 32)) where
  -- the value of a constant, from the values of those before
  of_operation : (f : ℕ → Option ValueTree) → HoldWords f → (t : Tree) (o : Op) (args : List ℕ) (v : ValueTree) → operation_value t f o args ≡ Some v → IsOfWords v
  of_operation f h t o args v e = by_may (may_give t o) e
    where
      by_parts : (vs : Option (List ValueTree)) → each_one f (inner_operands o args) ≡ vs → (q : Option Operation) → value_by_operation t (inner_literals o args) vs q ≡ Some v → IsOfWords v
      by_parts None at q e = cc
      by_parts (Some vs) at None e = cc
      by_parts (Some vs) at (Some q) e = op_low q t (inner_literals o args) vs v (each_held f (inner_operands o args) vs h at) e

      by_may : (b : Bool) → (if b then value_by_operation t (inner_literals o args) (each_one f (inner_operands o args)) (operation o) else None) ≡ Some v → IsOfWords v
      by_may true e = by_parts (each_one f (inner_operands o args)) refl (operation o) e
      by_may false e = cc

  of_kind : (f : ℕ → Option ValueTree) → HoldWords f → (g : Inst) → slice_index g.args 0 < 2 ^ 32 → (t : Tree) (k : ConstantKind) (v : ValueTree) → value_by_kind f (chosen g.result) t g.args k ≡ Some v → IsOfWords v
  of_kind f h g low t True v e = subst IsOfWords (same_Some (truth true) v e) tt
  of_kind f h g low t False v e = subst IsOfWords (same_Some (truth false) v e) tt
  of_kind f h g low t Word v e = subst IsOfWords (same_Some (word (slice_index g.args 0)) v e) low
  of_kind f h g low t Composite v e = by_parts (each_one f g.args) refl e
    where
      by_parts : (o : Option (List ValueTree)) → each_one f g.args ≡ o → option_map composite o ≡ Some v → IsOfWords v
      by_parts None at e = cc
      by_parts (Some vs) at e = subst IsOfWords (same_Some (composite vs) v e) (composite_low vs (each_held f g.args vs h at))
  of_kind f h g low t Zero v e = subst IsOfWords (same_Some (zero_of t) v e) (zero_low t)
  of_kind f h g low t SpecTrue v e = subst IsOfWords (same_Some (truth _) v e) tt
  of_kind f h g low t SpecFalse v e = subst IsOfWords (same_Some (truth _) v e) tt
  of_kind f h g low t SpecWord v e = subst IsOfWords (same_Some (word (unwrap_or (chosen g.result) (slice_index g.args 0))) v e) (by_chosen (chosen g.result) (given g.result))
    where
      by_chosen : (o : Option ℕ) → IfSome o (λ (w : ℕ). w < 2 ^ 32) → unwrap_or o (slice_index g.args 0) < 2 ^ 32
      by_chosen None at = low
      by_chosen (Some w) at = at
  of_kind f h g low t Calculated v e = let o = some_part (λ (o : Op). operation_value t f o (drop 1 g.args)) (op_of (slice_index g.args 0)) v e in of_operation f h t o.0 (drop 1 g.args) v o.2
  of_kind f h g low t Other v e = cc

  of_step : (f : ℕ → Option ValueTree) → HoldWords f → (g : Inst) → slice_index g.args 0 < 2 ^ 32 → (v : ValueTree) → value_step m chosen f g ≡ Some v → IsOfWords v
  of_step f h g low v e = by_sound (is_sound m g) e
    where
      by_fits : (t : Tree) (w : ValueTree) (b : Bool) → (if b then Some w else None) ≡ Some v → IsOfWords w → IsOfWords v
      by_fits t w true e of_w = subst IsOfWords (same_Some w v e) of_w
      by_fits t w false e of_w = cc

      by_sound : (b : Bool) → (if b then option_and_then (shaped_value f (chosen g.result) g) (type_tree m.globals g.ty) else None) ≡ Some v → IsOfWords v
      by_sound true e =
          let t = some_part (shaped_value f (chosen g.result) g) (type_tree m.globals g.ty) v e in
          let w = some_part (if_fits t.0) (value_by_kind f (chosen g.result) t.0 g.args (constant_kind g.op)) v t.2 in
          by_fits t.0 w.0 (fits t.0 w.0) w.2 (of_kind f h g low t.0 (constant_kind g.op) w.0 w.1)
      by_sound false e = cc

  -- with one more, and with all
  with_one : (f : ℕ → Option ValueTree) → HoldWords f → (g : Inst) → slice_index g.args 0 < 2 ^ 32 → HoldWords (with_value (value_step m chosen) f g)
  with_one f h g low id v e = by_test (g.result == id) e
    where
      by_step : (o : Option ValueTree) → value_step m chosen f g ≡ o → option_or o (f id) ≡ Some v → IsOfWords v
      by_step None at e = h id v e
      by_step (Some w) at e = subst IsOfWords (same_Some w v e) (of_step f h g low w at)

      by_test : (b : Bool) → elim b [ true ↦ option_or (value_step m chosen f g) (f id) | false ↦ f id ] ≡ Some v → IsOfWords v
      by_test true e = by_step (value_step m chosen f g) refl e
      by_test false e = h id v e

  with_all : (gs : List Inst) → ((g : Inst) → IsAmong g gs → slice_index g.args 0 < 2 ^ 32) → (f : ℕ → Option ValueTree) → HoldWords f → HoldWords (fold (with_value (value_step m chosen)) f gs)
  with_all [] low f h = h
  with_all (g ∷ gs) low f h = with_all gs (λ k there. low k (inr there)) (with_value (value_step m chosen) f g) (with_one f h g (low g (inl refl)))

  pub constants_low : ((g : Inst) → IsAmong g m.globals → slice_index g.args 0 < 2 ^ 32) → HoldWords (constant_value m chosen)
  constants_low low = with_all m.globals low (λ id. None) (λ id v e. cc)
