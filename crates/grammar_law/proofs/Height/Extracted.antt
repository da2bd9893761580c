-- In a conforming module the literals by which parts are named are few.
use Rattle.std.proofs.Common.{◌≡◌, ◌<◌, ◌≤◌, ◌+◌, ℕ, suc, Bool, true, false, List, [], ◌∷◌, drop, length, nat_le, nat_lt, Option, Some, None, inl, inr, refl, sym, ap, ◌∙◌, subst, arith, if◌then◌else◌, unwrap_or}
use Rattle.std.specs.Prelude.{◌⊎◌, Contains, option_and_then}
use Rattle.std.proofs.lemmas.Bool.Decides.{nat_tests}
use Rattle.std.proofs.lemmas.Option.{same_Some}
use Rattle.spv_ops.specs.Operands.{is_id}
use Rattle.spv_ops.specs.OpGroups.{group_of, takes_of}
use Rattle.spv_ops.specs.Shape.{shape}
use Rattle.spv_ops.specs.declared.OpGroup.TheVariants as groups
use Rattle.spv_ops.specs.declared.Op.{Op}
use Rattle.spv_ops.specs.declared.Op.TheVariants as code
use Rattle.spv_module.specs.declared.inst.Inst.{Inst}
use Rattle.spv_module.specs.declared.inst.Function.{Function}
use Rattle.spv_module.specs.declared.tree.Elem.{Elem}
use Rattle.spv_module.specs.declared.tree.Elem.TheVariants as elem
use Rattle.spv_module.specs.declared.tree.Length.TheVariants.{Fixed, Spec}
use Rattle.spv_types.specs.Tree.{Tree, boolean, int, uint, vector, array, runtime, struct}
use Rattle.spv_types.specs.Types.{type_tree}
use Rattle.spv_types.specs.Limits.{AreWithin}
use Rattle.spv_decor.specs.Rows.{word}
use Rattle.spv_index.specs.Locals.{insts_of, type_in}
use Rattle.profile_rules.specs.declared.needs.Need.TheVariants.{Value}
use Rattle.profile_rules.specs.declared.needs.Reached.TheVariants.{Part, Nothing}
use Rattle.profile_rules.specs.Operands.{need, is_there_in}
use Rattle.profile_rules.specs.ValueRules.{walk, literal_step, part_of, is_elsewhere, breaks_t11_extract}
use Rattle.profile_rules.specs.TypeRules.{is_value_broken}
use Rattle.module_semantics.specs.Setting.{Setting}
use Rattle.op_semantics.specs.Fits.{elem_tree}
use Rattle.list_law.proofs.Options.{some_part}
use Rattle.list_law.proofs.Tests.{or_left, or_right, clash}
use Rattle.plan_law.specs.InOrder.{IsAmong}
use Rattle.fits_law.specs.Takes.{part_shape, shape_at}
use Rattle.type_law.proofs.Parts.{walk_leads}
use Rattle.typed_law.specs.Conforms.{IsConforming}
use Rattle.typed_law.proofs.Rules.{operand_there, value_right}
use Rattle.typed_law.proofs.Values.{HasType, inside, typed_value, value_sized}
use Rattle.typed_law.proofs.Shapes.{whole_shape}
use Rattle.vec_lowering.specs.Depth.{depth}
use Rattle.expr_forward.specs.Kinds.{kind_of, operation_kind_of}
use Rattle.expr_forward.specs.declared.kinds.OperationKind.TheVariants.{CompositeExtract}
use Rattle.grammar_law.proofs.Height.Shapes.{shapes-le}
use Rattle.grammar_law.proofs.Height.Chains.{room, room-depth, nth-depth}

elem-room : (e : Elem) → room (elem_tree e) ≤ 0
elem-room elem.Bool = omega arith
elem-room elem.Int = omega arith
elem-room elem.Uint = omega arith

-- a part has less room
part-down : (t : Tree) (i : ℕ) (u : Tree) → part_shape t i ≡ Some u → suc (room u) ≤ room t
part-down boolean i u e = cc
part-down int i u e = cc
part-down uint i u e = cc
part-down (runtime t) i u e = cc
part-down (array t (Spec id)) i u e = cc
part-down (vector x n) i u e = by_test (nat_lt i n) e
  where
    by_test : (b : Bool) → (if b then Some (elem_tree x) else None) ≡ Some u → suc (room u) ≤ 1
    by_test true e = let none = elem-room x in subst (λ y. suc (room y) ≤ 1) (same_Some (elem_tree x) u e) (omega (arith, none))
    by_test false e = cc
part-down (array t (Fixed n)) i u e = by_test (nat_lt i n) e
  where
    by_test : (b : Bool) → (if b then Some t else None) ≡ Some u → suc (room u) ≤ 1 + depth t
    by_test true e = let own = room-depth t in subst (λ y. suc (room y) ≤ 1 + depth t) (same_Some t u e) (omega (arith, own))
    by_test false e = cc
part-down (struct id ts) i u e = let low = nth-depth ts i u e in let own = room-depth u in omega (arith, low, own)

parts-few : (ks : List ℕ) (t u : Tree) → shape_at t ks ≡ Some u → room u + length ks ≤ room t
parts-few [] t u e = subst (λ y. room y + 0 ≤ room t) (same_Some t u e) (omega arith)
parts-few (k ∷ ks) t u e =
    let part = some_part (λ x. shape_at x ks) (part_shape t k) u e in
    let one = part-down t k part.0 part.1 in
    let rest = parts-few ks part.0 u part.2 in
    omega (arith, one, rest)

-- OpCompositeExtract
extract_group : (o : Op) → operation_kind_of o ≡ CompositeExtract → group_of o ≡ groups.CompositeExtract
unfolding operation_kind_of kind_of group_of
extract_group code.CompositeExtract on = refl
extract_group o on = cc

extract_need : (o : Op) → operation_kind_of o ≡ CompositeExtract → need o 0 ≡ Value
unfolding operation_kind_of kind_of group_of need takes_of
extract_need code.CompositeExtract on = refl
extract_need o on = cc

extract_id : (o : Op) (args : List ℕ) → operation_kind_of o ≡ CompositeExtract → is_id o args 0 ≡ true
unfolding operation_kind_of kind_of group_of is_id shape
extract_id code.CompositeExtract args on = refl
extract_id o args on = cc

module _ (s : Setting) (entry : Option (List ℕ)) (right : IsConforming s.of entry) (within : AreWithin s.of.globals) (f : Function) (in_it : Contains s.of.functions f) where
  abbrev R : List Inst
  R = s.of.globals

  abbrev T : ℕ → Option ℕ
  T = type_in s.of.globals f

  shape-low : (ty : ℕ) (t : Tree) → type_tree R ty ≡ Some t → room t ≤ 15
  shape-low ty t whole =
      let low : depth (unwrap_or (type_tree R ty) uint) ≤ 15 = shapes-le R right.results.none within ty in
      let own : depth t ≤ 15 = subst (λ o. depth (unwrap_or o uint) ≤ 15) whole low in
      let less = room-depth t in
      omega (arith, own, less)

  two_at_least : (n : ℕ) → nat_le n 1 ≡ false → 1 < n
  two_at_least n off = grind (arith, nat_tests, off)

  -- T11: literals lead into the value
  pub extracted-few : (i : Inst) → IsAmong i (insts_of f) → operation_kind_of i.op ≡ CompositeExtract → length (drop 1 i.args) ≤ 16
  extracted-few i there on =
      let off : breaks_t11_extract R T i ≡ false = ap (is_value_broken s.of T i) (sym (extract_group i.op on)) ∙ value_right s.of entry right f in_it i there in
      let many : 1 < length i.args = two_at_least (length i.args) (or_left (nat_le (length i.args) 1) (is_elsewhere R i.ty (part_of R (T (word i 0)) (drop 1 i.args))) off) in
      let elsewhere : is_elsewhere R i.ty (part_of R (T (word i 0)) (drop 1 i.args)) ≡ false = or_right (nat_le (length i.args) 1) (is_elsewhere R i.ty (part_of R (T (word i 0)) (drop 1 i.args))) off in
      let w : HasType s entry right f in_it (word i 0) =
      typed_value s entry right f in_it i.at (word i 0)
      (subst (λ n. is_there_in s.of f i.at n (word i 0) ≡ true) (extract_need i.op on) (operand_there (is_there_in s.of f i.at) i ((inside s entry right f in_it).order.there i there) 0 (omega (arith, many)) (extract_id i.op i.args on))) in
      let leads : walk (literal_step R) (Part w.0) (drop 1 i.args) ≡ Nothing → ⊥ = λ none.
      clash (ap (is_elsewhere R i.ty) (sym none) ∙ (ap (λ o. is_elsewhere R i.ty (part_of R o (drop 1 i.args))) (sym w.1) ∙ elsewhere)) in
      by_literals (drop 1 i.args) w leads
    where
      by_literals : (ks : List ℕ) (w : HasType s entry right f in_it (word i 0)) → (walk (literal_step R) (Part w.0) ks ≡ Nothing → ⊥) → length ks ≤ 16
      by_literals [] w leads = omega arith
      by_literals (k ∷ ks) w leads =
          let shaped = whole_shape s entry right f in_it (word i 0) k ks w leads in
          let whole : type_tree R w.0 ≡ Some shaped.0 = ap (option_and_then (type_tree R)) (sym w.1) ∙ shaped.1 in
          by_walk shaped.0 (walk_leads s f (k ∷ ks) w.0 shaped.0 whole (value_sized s entry right f in_it (word i 0) w.0 w.1 shaped.0 whole)) whole
        where
          by_walk : (t : Tree) → (walk (literal_step R) (Part w.0) (k ∷ ks) ≡ Nothing) ⊎ ((c : ℕ) × (u : Tree) × (walk (literal_step R) (Part w.0) (k ∷ ks) ≡ Part c) × (type_tree R c ≡ Some u) × (shape_at t (k ∷ ks) ≡ Some u)) → type_tree R w.0 ≡ Some t → length (k ∷ ks) ≤ 16
          by_walk t (inl none) whole = absurd (leads none)
          by_walk t (inr q) whole = let few = parts-few (k ∷ ks) t q.1 q.4 in let low = shape-low w.0 t whole in omega (arith, few, low)
