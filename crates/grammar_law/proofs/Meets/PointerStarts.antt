-- What a pointer is that no chain makes: a variable of the module, a parameter, or a variable of the function.
use Rattle.std.proofs.Common.{◌≡◌, ◌==◌, ℕ, Bool, true, false, List, [], ◌∷◌, Contains, Option, Some, None, find, inl, inr, refl, sym, ap, ◌∙◌, if◌then◌else◌}
use Rattle.std.specs.Prelude.{◌⊎◌, option_map, option_and_then, slice_index}
use Rattle.std.specs.Option.{option_map_or, option_or}
use Rattle.std.proofs.lemmas.Option.{same_Some}
use Rattle.spv_ops.specs.Opcode.{is, number}
use Rattle.spv_ops.specs.OpGroups.{group_of}
use Rattle.spv_ops.specs.Groups.{is_chain, is_constant as is_constant_op}
use Rattle.spv_ops.specs.declared.Op.{Op}
use Rattle.spv_ops.specs.declared.Op.TheVariants as code
use Rattle.spv_ops.specs.declared.OpGroup.TheVariants as groups
use Rattle.spv_module.specs.Held.{global}
use Rattle.spv_module.specs.Inst.{has_type}
use Rattle.spv_module.specs.declared.inst.Id.{Id as IdOf}
use Rattle.spv_module.specs.declared.inst.Inst.{Inst}
use Rattle.spv_module.specs.declared.inst.Function.{Function}
use Rattle.spv_types.specs.Types.{tree_at}
use Rattle.spv_index.specs.Locals.{insts_of, inst_in, parameter_in, typed, global_type, local_type, type_in}
use Rattle.spv_index.specs.Pointers.{pointee, as_pointer, pointee_of}
use Rattle.conformance.specs.Rules.{Options}
use Rattle.module_semantics.specs.Setting.{Setting}
use Rattle.glsl_ast.specs.Tree.{TranslationUnit}
use Rattle.function_text.specs.Functions.{FunctionPlan}
use Rattle.unit_rules.specs.Unit.{IsUnitOf}
use Rattle.list_law.proofs.Numbers.{same_number}
use Rattle.list_law.proofs.Tests.{clash}
use Rattle.global_law.specs.Chains.{NoneMakes}
use Rattle.typed_law.specs.Conforms.{IsConforming}
use Rattle.typed_law.proofs.Lists.{some_part}
use Rattle.typed_law.proofs.Values.{inside, has_a_type}
use Rattle.claim_law.specs.Claimed.{IsIn}
use Rattle.claim_law.proofs.Claim.Constants.{found_in}
use Rattle.grammar_law.proofs.Unit.Lists.{found_by, as_in, as_among}
use Rattle.grammar_law.proofs.Unit.Shaped.{pointer_none}
use Rattle.grammar_law.proofs.Unit.Ways.{HaveKinds, F, in_module, own_type_of, mapped_some}
use Rattle.grammar_law.proofs.Unit.ResultShapes.{stands_inside, IsShaped, constant_shaped}
use Rattle.grammar_law.proofs.Unit.ResultTypes.{Gives, of_shape, of_pointer, of_call, gives, variable_op}

pub none_of : (n : ℕ) (is : List Inst) (j : Inst) → NoneMakes n is → IsIn j is → is_chain j.op ≡ true → j.result ≡ n → ⊥
none_of n [] j none there on same = there
none_of n (x ∷ is) j none (inl here) on same = none.0 (ap (λ (y : Inst). is_chain y.op) here ∙ on) (ap (λ (y : Inst). y.result) here ∙ same)
none_of n (x ∷ is) j none (inr there) on same = none_of n is j none.1 there on same

chain_of : (o : Op) → group_of o ≡ groups.Chain → is_chain o ≡ true
unfolding group_of
chain_of code.AccessChain e = refl
chain_of o e = cc

void_kind : (o : Op) → is o code.TypeVoid ≡ true → is o code.TypePointer ≡ false
unfolding number
void_kind code.TypeVoid on = refl
void_kind o on = cc

-- what a type that points to something is
pointee_row : (gs : List Inst) (pt ty : ℕ) → pointee gs pt ≡ Some ty → (g : Inst) × (global gs pt ≡ Some g) × (is g.op code.TypePointer ≡ true)
pointee_row gs pt ty points = by_global (global gs pt) refl points
  where
    by_test : (g : Inst) (b : Bool) → option_map (λ (h : Inst). slice_index h.args 1) (if b then Some g else None) ≡ Some ty → b ≡ true
    by_test g true e = refl
    by_test g false e = cc

    by_global : (q : Option Inst) → global gs pt ≡ q → option_map (λ (h : Inst). slice_index h.args 1) (option_and_then as_pointer q) ≡ Some ty → (g : Inst) × (global gs pt ≡ Some g) × (is g.op code.TypePointer ≡ true)
    by_global None at e = cc
    by_global (Some g) at e = (g, at, by_test g (is g.op code.TypePointer) e)

module _ (s : Setting) (entry : Option (List ℕ)) (right : IsConforming s.of entry) (kinds : HaveKinds s.of.globals) (o : Options) (unit : TranslationUnit) (u : IsUnitOf s.of o unit) (p : FunctionPlan) (among : IsIn p u.plans) (inner : (i : Inst) → IsIn i (insts_of (F s entry right kinds o unit u p among)) → stands_inside (group_of i.op) ≡ true)
    (n ty : ℕ) (none : NoneMakes n (insts_of (F s entry right kinds o unit u p among))) where
  abbrev Gs : List Inst
  Gs = s.of.globals

  abbrev Fn : Function
  Fn = F s entry right kinds o unit u p among

  abbrev T : ℕ → Option ℕ
  T = type_in s.of.globals Fn

  in_it : Contains s.of.functions Fn
  in_it = in_module s entry right kinds o unit u p among

  pub data IsStart : Type 0 where
    outside : (g : Inst) → IsIn g s.of.globals → g.result ≡ n → global s.of.globals n ≡ Some g → is g.op code.Variable ≡ true → pointee s.of.globals g.ty ≡ Some ty → T n ≡ Some g.ty → IsStart
    lent : (q : IdOf × IdOf) → IsIn q Fn.params → q.0.0 ≡ n → pointee s.of.globals q.1.0 ≡ Some ty → T n ≡ Some q.1.0 → IsStart
    own : (j : Inst) → IsIn j (insts_of Fn) → j.result ≡ n → is j.op code.Variable ≡ true → has_type j.op ≡ true → pointee s.of.globals j.ty ≡ Some ty → IsStart

  no_shape : {A : Type 0} → (pt : ℕ) → pointee Gs pt ≡ Some ty → IsShaped s entry right pt → A
  no_shape pt points v =
      let g = pointee_row Gs pt ty points in
      absurd (pointer_none Gs g.0 v.0 g.2 (sym (ap (λ x. option_map_or (tree_at Gs) x None) g.1) ∙ v.1))

  -- a result of the function
  of_inst : (j : Inst) → inst_in Fn n ≡ Some j → (j.ty ≡ 0 → ⊥) → pointee Gs j.ty ≡ Some ty → IsStart
  of_inst j made some points = by_kind (gives s entry right kinds Fn in_it (λ x x_in. inner x (as_in (insts_of Fn) x x_in)) j (as_among (insts_of Fn) j there.0) has)
    where
      there : IsIn j (insts_of Fn) × (j.result ≡ n)
      there = found_in (insts_of Fn) n j made

      has : has_type j.op ≡ true
      has = has_a_type j ((inside s entry right Fn in_it).formed j (as_among (insts_of Fn) j there.0)) some

      by_kind : Gives s entry right kinds Fn in_it (λ x x_in. inner x (as_in (insts_of Fn) x x_in)) j → IsStart
      by_kind (of_shape v) = no_shape j.ty points v
      by_kind (of_pointer w on (inl chain)) = absurd (none_of n (insts_of Fn) j none there.0 (chain_of j.op chain) there.1)
      by_kind (of_pointer w on (inr variable)) = own j there.0 there.1 (variable_op j.op variable) has points
      by_kind (of_call w void call) =
          let g = pointee_row Gs j.ty ty points in
          clash (sym g.2 ∙ (ap (λ (x : Inst). is x.op code.TypePointer) (same_Some g.0 w.0 (sym g.1 ∙ w.1)) ∙ void_kind w.0.op void))

  by_parameter : (x : Option ℕ) → parameter_in Fn n ≡ x → (pt : ℕ) → option_or x (option_and_then typed (inst_in Fn n)) ≡ Some pt → pointee Gs pt ≡ Some ty → T n ≡ Some pt → IsStart
  by_parameter None lent_as pt told points typed_is =
      let j = some_part typed (inst_in Fn n) pt told in
      let own_type = own_type_of j.0 pt j.2 in
      of_inst j.0 j.1 own_type.1 (ap (pointee Gs) own_type.0 ∙ points)
  by_parameter (Some y) lent_as pt told points typed_is =
      let q = mapped_some (λ (r : IdOf × IdOf). r.1.0) (find (λ (r : IdOf × IdOf). r.0.0 == n) Fn.params) y lent_as in
      let w = found_by (λ (r : IdOf × IdOf). r.0.0 == n) Fn.params q.0 q.1 in
      let same : q.0.1.0 ≡ pt = same_Some q.0.1.0 y (ap (option_map (λ (r : IdOf × IdOf). r.1.0)) (sym q.1) ∙ lent_as) ∙ same_Some y pt told in
      lent q.0 w.0 (same_number q.0.0.0 n w.1) (ap (pointee Gs) same ∙ points) (typed_is ∙ ap (λ x. Some x) (sym same))

  by_global : (x : Option ℕ) → global_type Gs n ≡ x → (pt : ℕ) → option_or x (local_type Fn n) ≡ Some pt → pointee Gs pt ≡ Some ty → T n ≡ Some pt → IsStart
  by_global None apart pt told points typed_is = by_parameter (parameter_in Fn n) refl pt told points typed_is
  by_global (Some y) at pt told points typed_is =
      let h = some_part typed (global Gs n) y at in
      let own_type = own_type_of h.0 y h.2 in
      let there = found_in Gs n h.0 h.1 in
      let same : h.0.ty ≡ pt = own_type.0 ∙ same_Some y pt told in
      by_kind h.0 there.0 h.1 there.1 own_type.1 (ap (pointee Gs) same ∙ points) (typed_is ∙ ap (λ x. Some x) (sym same)) (kinds h.0 there.0 own_type.1)
    where
      by_kind : (h : Inst) → IsIn h Gs → global Gs n ≡ Some h → h.result ≡ n → (h.ty ≡ 0 → ⊥) → pointee Gs h.ty ≡ Some ty → T n ≡ Some h.ty → (is_constant_op h.op ≡ true) ⊎ (is h.op code.Variable ≡ true) → IsStart
      by_kind h there at result some points typed_is (inl constant) = no_shape h.ty points (constant_shaped s entry right h (as_among Gs h there) constant some)
      by_kind h there at result some points typed_is (inr variable) = outside h there result at variable points typed_is

  -- The law.
  pub pointer_start : pointee_of s.of.globals Fn n ≡ Some ty → IsStart
  pointer_start points = by_type (T n) refl points
    where
      by_type : (x : Option ℕ) → T n ≡ x → option_and_then (pointee Gs) x ≡ Some ty → IsStart
      by_type None told at = cc
      by_type (Some pt) told at = by_global (global_type Gs n) refl pt told at told
