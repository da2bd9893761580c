-- What OpArrayLength asks for: the member of a block whose place is written of declared words (T7).
use Rattle.std.proofs.Common.{◌≡◌, ◌==◌, ◌&&◌, ◌||◌, not, ℕ, Bool, true, false, List, length, Contains, Option, Some, None, unwrap_or, inl, refl, sym, ap, ◌∙◌, subst}
use Rattle.std.specs.Prelude.{is_some, nat_lt, slice_index, option_and_then}
use Rattle.std.specs.Option.{option_map_or, option_or}
use Rattle.std.proofs.lemmas.Bool.{not-false}
use Rattle.std.proofs.lemmas.Option.{same_Some}
use Rattle.spv_ops.specs.Opcode.{is}
use Rattle.spv_ops.specs.Enumerants.{class_number}
use Rattle.spv_ops.specs.declared.StorageClass.TheVariants as storage
use Rattle.spv_ops.specs.OpGroups.{group_of}
use Rattle.spv_ops.specs.declared.Op.{Op}
use Rattle.spv_ops.specs.declared.Op.TheVariants as code
use Rattle.spv_ops.specs.declared.OpGroup.TheVariants as groups
use Rattle.spv_module.specs.Held.{global}
use Rattle.spv_module.specs.Lists.{id}
use Rattle.spv_module.specs.declared.inst.Inst.{Inst}
use Rattle.spv_module.specs.declared.inst.Block.{Block}
use Rattle.spv_module.specs.declared.inst.Function.{Function}
use Rattle.spv_types.specs.Tree.{Tree}
use Rattle.spv_types.specs.Types.{type_tree}
use Rattle.spv_decor.specs.Rows.{word}
use Rattle.spv_index.specs.Locals.{insts_of, typed, local_type, type_in}
use Rattle.spv_index.specs.Pointers.{pointee, pointee_of}
use Rattle.profile_rules.specs.TypeRows.{is_uint, is_runtime_array, type_row, fails}
use Rattle.profile_rules.specs.ValueRules.{is_block_variable, lacks_array, is_no_array_block, is_no_array_id}
use Rattle.profile_rules.specs.TypeRules.{is_value_broken}
use Rattle.conformance.specs.Rules.{Options}
use Rattle.list_law.proofs.Lists.{index_get}
use Rattle.list_law.proofs.Numbers.{less_of}
pub use Rattle.typed_law.proofs.Calls.{variable_typed}
use Rattle.plan_law.specs.InOrder.{IsAmong}
use Rattle.module_semantics.specs.Setting.{Setting}
use Rattle.name_alloc.specs.declared.claims.Key.TheVariants.{Member}
use Rattle.name_alloc.specs.Naming.{name_of}
use Rattle.glsl_ast.specs.Tree.{Text, Expr, LValue, lvalue, TranslationUnit}
use Rattle.expr_forward.specs.Kinds.{kind_of, operation_kind_of}
use Rattle.expr_forward.specs.Scope.{Scope}
use Rattle.expr_forward.specs.Paths.{place_text, lvalue_expr}
use Rattle.expr_forward.specs.declared.kinds.OperationKind.TheVariants as kind
use Rattle.function_text.specs.Functions.{FunctionPlan}
use Rattle.unit_rules.specs.Translation.{Naming, text_of}
use Rattle.unit_rules.specs.Unit.{IsUnitOf}
use Rattle.claim_law.specs.Uses.{Words, UsesMeasured, UsesLValue}
use Rattle.claim_law.specs.Asked.{MeetsKind}
use Rattle.claim_law.proofs.Spell.Values.{further-measured}
use Rattle.typed_law.specs.Conforms.{IsConforming}
use Rattle.typed_law.proofs.Lists.{or_left, or_right, and_off}
use Rattle.typed_law.proofs.Rules.{value_right}
use Rattle.type_law.proofs.Vectors.{three_off}
use Rattle.typed_law.proofs.Types.{row_is, pointee_shaped}
use Rattle.typed_law.proofs.Values.{IsRow, HasType, global_row, global_typed_some, typed_is, variable_type_is}
use Rattle.typed_law.proofs.Shapes.{row_of_shape}
use Rattle.claim_law.specs.Claimed.{IsIn, HasName}
use Rattle.claim_law.proofs.Claim.Listed.{in_flat, at_place}
use Rattle.claim_law.proofs.Claim.Constants.{found_in}
use Rattle.claim_law.proofs.Claim.Told.{named_is}
use Rattle.grammar_law.specs.Mentioned.{IsMentioned, IsValueIn}
use Rattle.grammar_law.specs.Words.{words_of, AreOfStructs}
use Rattle.grammar_law.proofs.Unit.Lists.{as_among}
use Rattle.grammar_law.proofs.Unit.Ways.{HaveKinds, F, R, V, in_module}
use Rattle.grammar_law.proofs.Unit.Chains.{place_uses}
use Rattle.grammar_law.proofs.Meets.LiveOrGone.{IsRun}
use Rattle.grammar_law.proofs.Unit.ResultShapes.{reads_first, IsReadAt, first_read, typed_read}
use Rattle.grammar_law.proofs.Meets.PlaceMeets.{Way, read_mention}

length_group : (o : Op) → operation_kind_of o ≡ kind.ArrayLength → group_of o ≡ groups.ArrayLength
unfolding operation_kind_of kind_of group_of
length_group code.ArrayLength on = refl
length_group o on = cc

-- one of these classes
is_one : (v a b c : Bool) → (v && (a || b || c)) ≡ true → v ≡ true
is_one true a b c on = refl
is_one false a b c on = cc

module _ (W : Words) where
  measured_of : ((w : Text) → W.value w → W.measured w) → (l : LValue) → UsesLValue W l → UsesMeasured W (lvalue_expr l)
  measured_of may (lvalue x ss) has = further-measured W (Expr.name x) ss (may x has.0) has.1

module _ (s : Setting) (entry : Option (List ℕ)) (right : IsConforming s.of entry) (kinds : HaveKinds s.of.globals) (o : Options) (unit : TranslationUnit) (u : IsUnitOf s.of o unit) (p : FunctionPlan) (among : IsIn p u.plans) (names : List (List ℕ)) (structs : AreOfStructs s.of.globals (name_of u.claimed) names) where
  abbrev Gs : List Inst
  Gs = s.of.globals

  abbrev Found : Naming
  Found = name_of u.claimed

  abbrev Fn : Function
  Fn = F s entry right kinds o unit u p among

  abbrev Marks : List Bool
  Marks = R s entry right kinds o unit u p among

  abbrev Where : Scope
  Where = V s entry right kinds o unit u p among

  abbrev T : ℕ → Option ℕ
  T = type_in s.of.globals Fn

  abbrev W : Words
  W = words_of s.of.globals (name_of u.claimed) names

  in_it : Contains s.of.functions Fn
  in_it = in_module s entry right kinds o unit u p among

  module _ (b : ℕ) (i : Inst) (r : IsRun s entry right kinds o unit u p among b i) (on : operation_kind_of i.op ≡ kind.ArrayLength)
      (pointer : (c n : ℕ) (j : Inst) → IsMentioned Fn Marks c j n → is j.op code.Phi ≡ false → (ty : ℕ) (t : Tree) → pointee_of Gs Fn n ≡ Some ty → type_tree Gs ty ≡ Some t → Way s entry right kinds o unit u p among names structs c n) where
    stands : IsAmong i (insts_of Fn)
    stands = as_among (insts_of Fn) i (in_flat (λ (c : Block). c.insts) Fn.blocks r.holder i (at_place Fn.blocks b r.holder r.there) r.within)

    group : group_of i.op ≡ groups.ArrayLength
    group = length_group i.op on

    first : IsReadAt i.op i.args 0
    first = first_read i.op i.args (ap reads_first group)

    pointer_typed : HasType s entry right Fn in_it (slice_index i.args 0)
    pointer_typed = typed_read s entry right Fn in_it i stands 0 first

    -- the pointer is a block, with a runtime array as this member
    found_block : is_no_array_id Gs (word i 1) (word i 0) ≡ false
    found_block =
        let off = ap (is_value_broken s.of T i) (sym group) ∙ value_right s.of entry right Fn in_it i stands in
        and_off (is_some (T (word i 0))) (is_no_array_id Gs (word i 1) (word i 0)) (or_right (fails is_uint Gs i.ty) (is_some (T (word i 0)) && is_no_array_id Gs (word i 1) (word i 0)) off) (ap is_some pointer_typed.1)

    module _ (v : Inst) (at : global Gs (word i 0) ≡ Some v) (off : is_no_array_block Gs (word i 1) v ≡ false) where
      there : IsIn v Gs × (v.result ≡ word i 0)
      there = found_in Gs (word i 0) v at

      on_variable : is v.op code.Variable ≡ true
      on_variable =
          is_one (is v.op code.Variable) (word v 0 == class_number storage.Uniform) (word v 0 == class_number storage.PushConstant) (word v 0 == class_number storage.StorageBuffer)
          (not-false (is_block_variable v) (or_left (not (is_block_variable v)) (option_map_or (lacks_array Gs (word i 1)) (option_and_then (type_row Gs) (pointee Gs v.ty)) false) off))

      some : v.ty ≡ 0 → ⊥
      some = global_typed_some s entry right v (as_among Gs v there.0) (variable_typed v.op on_variable)

      own : T (word i 0) ≡ Some v.ty
      own = ap (λ (x : Option ℕ). option_or x (local_type Fn (word i 0))) (ap (option_and_then typed) at ∙ typed_is v some)

      leads : (q : ℕ) × (t : Tree) × (pointee Gs v.ty ≡ Some q) × (type_tree Gs q ≡ Some t)
      leads = let row = global_row s entry right v (as_among Gs v there.0) some in pointee_shaped s.of entry right v.ty row.0 row.1 (variable_type_is v.op row.0 on_variable row.2)

      points : pointee_of Gs Fn (word i 0) ≡ Some leads.0
      points = ap (option_and_then (pointee Gs)) own ∙ leads.2

      way : Way s entry right kinds o unit u p among names structs b (word i 0)
      way = pointer b (word i 0) i (read_mention s entry right kinds o unit u p among names structs b r.place r.holder i r.there r.within r.at r.here r.live 0 first) first.no_phi leads.0 leads.1 points leads.3

      row : IsRow s entry right way.to
      row = row_of_shape s entry right Fn in_it way.to way.whole way.members.shaped

      lacks_none : lacks_array Gs (word i 1) row.0 ≡ false
      lacks_none =
          let same : leads.0 ≡ way.to = same_Some leads.0 way.to (sym points ∙ way.points) in
          let known : option_and_then (type_row Gs) (pointee Gs v.ty) ≡ Some row.0 = ap (option_and_then (type_row Gs)) leads.2 ∙ (ap (type_row Gs) same ∙ row_is s.of entry right way.to row.0 row.1 row.2) in
          ap (λ q. option_map_or (lacks_array Gs (word i 1)) q false) (sym known) ∙ or_right (not (is_block_variable v)) (option_map_or (lacks_array Gs (word i 1)) (option_and_then (type_row Gs) (pointee Gs v.ty)) false) off

      member_named : HasName Found (Member (id way.to) (word i 1))
      member_named =
          let parts = three_off (not (is row.0.op code.TypeStruct)) (not (nat_lt (word i 1) (length row.0.args))) (fails is_runtime_array Gs (word row.0 (word i 1))) lacks_none in
          way.members.own row.0 row.1 (not-false (is row.0.op code.TypeStruct) parts.0) (word i 1) (slice_index row.0.args (word i 1)) (index_get row.0.args (word i 1) (less_of (word i 1) (length row.0.args) (not-false (nat_lt (word i 1) (length row.0.args)) parts.1)))

      block_length : MeetsKind W Found Where (IsValueIn Where Marks b) b i kind.ArrayLength
      block_length =
          let member : W.member (text_of Found (Member (id way.to) (word i 1))) = inl (Member (id way.to) (word i 1), named_is Found (Member (id way.to) (word i 1)) member_named) in (
            (tt, tt),
            (
              (measured_of W (λ w is. is) (place_text Where.setting b (word i 0)) (place_uses s entry right Fn o unit u names Where.setting.global b (word i 0) way), subst (λ (q : Option ℕ). W.member (text_of Found (Member (id (unwrap_or q 0)) (word i 1)))) (sym way.points) member),
              tt,
            ),
          )

    pub length_asks : MeetsKind W Found Where (IsValueIn Where Marks b) b i kind.ArrayLength
    length_asks = by_global (global Gs (word i 0)) refl found_block
      where
        by_global : (q : Option Inst) → global Gs (word i 0) ≡ q → option_map_or (is_no_array_block Gs (word i 1)) q true ≡ false → MeetsKind W Found Where (IsValueIn Where Marks b) b i kind.ArrayLength
        by_global None at off = cc
        by_global (Some v) at off = block_length v at off
