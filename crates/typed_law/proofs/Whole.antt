-- Each instruction of a conforming module's functions is typed, and so each step keeps values in the shapes of their types.
use Rattle.std.proofs.Common.{◌≡◌, ◌<◌, ◌≤◌, ◌+◌, ◌==◌, ℕ, Bool, true, false, List, length, take, drop, Option, refl, sym, ap, subst, ◌∙◌, if◌then◌else◌, arith}
use Rattle.std.specs.Prelude.{Contains}
use Rattle.std.proofs.lemmas.Bool.Decides.{nat_tests}
use Rattle.spv_ops.specs.Opcode.{number}
use Rattle.spv_ops.specs.Groups.{is_atomic}
use Rattle.spv_ops.specs.Shape.{shape}
use Rattle.spv_ops.specs.Operands.{is_id}
use Rattle.spv_ops.specs.OpGroups.{takes_of, group_of}
use Rattle.spv_ops.specs.declared.Op.{Op}
use Rattle.spv_ops.specs.declared.Op.TheVariants as code
use Rattle.spv_ops.specs.declared.OpGroup.TheVariants as groups
use Rattle.spv_ops.specs.declared.Terminator.TheVariants as exit
use Rattle.spv_module.specs.Inst.{has_type}
use Rattle.spv_module.specs.declared.inst.Inst.{Inst}
use Rattle.spv_module.specs.declared.inst.Function.{Function}
use Rattle.spv_decor.specs.Rows.{word}
use Rattle.spv_index.specs.Locals.{insts_of, type_in}
use Rattle.profile_rules.specs.declared.needs.Need.TheVariants.{Callee, Value}
use Rattle.profile_rules.specs.Operands.{need, first_or, is_there_in}
use Rattle.profile_rules.specs.NumberRules.{points_to_other, is_no_content, has_no_int, breaks_t25_load}
use Rattle.profile_rules.specs.FlowRules.{breaks_t21, breaks_t24_value}
use Rattle.profile_rules.specs.TypeRules.{is_flow_broken}
use Rattle.list_law.proofs.Numbers.{from_zero}
use Rattle.list_law.proofs.Tests.{or_left}
use Rattle.plan_law.specs.InOrder.{IsAmong}
use Rattle.module_semantics.specs.Setting.{Setting}
use Rattle.module_semantics.specs.Steps.{step_kind, operation as operation_kind}
use Rattle.fits_law.specs.Typed.{IsTyped}
use Rattle.type_law.specs.Shaped.{AreConstants, HasConstants}
use Rattle.type_law.proofs.Constants.{constants_are}
use Rattle.typed_law.specs.Conforms.{IsConforming}
use Rattle.typed_law.proofs.Lists.{at_least}
use Rattle.typed_law.proofs.Rules.{operand_there, value_right, number_right, flow_right}
use Rattle.typed_law.proofs.Values.{inside, own_local, own_shape}
use Rattle.typed_law.proofs.Operations.{four_off, Facts, given_by}
use Rattle.typed_law.proofs.Others.{typed_operand, as_load, as_store, as_length, as_atomic, as_chain, as_return, as_branch}
use Rattle.typed_law.proofs.Calls.{as_call}

at_least_alone : (n l : ℕ) → 1 + n ≤ 1 + l → n ≤ l
at_least_alone n l least = omega (arith, least)

pub behind_callee : (k : ℕ) → 1 ≤ k → first_or k Callee Value ≡ Value
behind_callee k low = let off : (k == 0) ≡ false = grind (arith, nat_tests, low) in ap (λ (b : Bool). if b then Callee else Value) off

module _ (s : Setting) (entry : Option (List ℕ)) (right : IsConforming s.of entry) (chosen : ℕ → Option ℕ) (have : HasConstants s chosen) (f : Function) (in_it : Contains s.of.functions f) (i : Inst) (there : IsAmong i (insts_of f)) where
  abbrev Gs : List Inst
  Gs = s.of.globals

  abbrev V : ℕ → Option ℕ
  V = type_in s.of.globals f

  known : AreConstants s
  known = constants_are s chosen have right.results

  -- what the rules say of the instruction
  facts_of : Facts s entry right f in_it i there i.op
  facts_of = record {
    value = value_right s.of entry right f in_it i there;
    number = number_right s.of entry right f in_it i there;
    least = ((inside s entry right f in_it).formed i there).least;
    most = ((inside s entry right f in_it).formed i there).most;
    has = operand_there (is_there_in s.of f i.at) i ((inside s entry right f in_it).order.there i there);
  }

  call_right : group_of i.op ≡ groups.Call → breaks_t21 s.of.functions Gs V i ≡ false
  call_right is_it = let b = flow_right s.of entry right f in_it i there in ap (is_flow_broken s.of f b.0 i) (sym is_it) ∙ b.1

  end_right : group_of i.op ≡ groups.Terminator exit.ReturnValue → breaks_t24_value Gs V f i ≡ false
  end_right is_it = let b = flow_right s.of entry right f in_it i there in ap (is_flow_broken s.of f b.0 i) (sym is_it) ∙ b.1

  operation_typed : IsTyped s f i operation_kind
  operation_typed = (
    own_local s entry right f in_it i there,
    λ o t at shape.
        let g = given_by s entry right f in_it i there t shape i.op o facts_of at in
        (own_shape s entry right f in_it i there t shape, record { shapes = g.0; have = g.1; takes = g.2 }),
  )

  -- by the opcode
  typed_by : (p : Op) → i.op ≡ p → Facts s entry right f in_it i there p → IsTyped s f i (step_kind p)
  unfolding step_kind group_of takes_of need is_id shape number
  typed_by code.AtomicLoad same facts = as_atomic s entry right f in_it i there (subst (λ o. is_atomic o ≡ true) (sym same) refl) (subst (λ o. has_type o ≡ true) (sym same) refl) (or_left (points_to_other Gs V (word i 0) i.ty) (has_no_int Gs V (take 2 (drop 1 i.args))) facts.number) (typed_operand s entry right f in_it i there code.AtomicLoad facts 0 (let many : 3 ≤ length i.args = at_least 3 (length i.args) facts.least in let less : 0 < length i.args = omega (arith, many) in less) (from_zero 0) refl)
  typed_by code.AtomicIIncrement same facts = as_atomic s entry right f in_it i there (subst (λ o. is_atomic o ≡ true) (sym same) refl) (subst (λ o. has_type o ≡ true) (sym same) refl) (or_left (points_to_other Gs V (word i 0) i.ty) (has_no_int Gs V (take 2 (drop 1 i.args))) facts.number) (typed_operand s entry right f in_it i there code.AtomicIIncrement facts 0 (let many : 3 ≤ length i.args = at_least 3 (length i.args) facts.least in let less : 0 < length i.args = omega (arith, many) in less) (from_zero 0) refl)
  typed_by code.AtomicIDecrement same facts = as_atomic s entry right f in_it i there (subst (λ o. is_atomic o ≡ true) (sym same) refl) (subst (λ o. has_type o ≡ true) (sym same) refl) (or_left (points_to_other Gs V (word i 0) i.ty) (has_no_int Gs V (take 2 (drop 1 i.args))) facts.number) (typed_operand s entry right f in_it i there code.AtomicIDecrement facts 0 (let many : 3 ≤ length i.args = at_least 3 (length i.args) facts.least in let less : 0 < length i.args = omega (arith, many) in less) (from_zero 0) refl)
  typed_by code.AtomicIAdd same facts = as_atomic s entry right f in_it i there (subst (λ o. is_atomic o ≡ true) (sym same) refl) (subst (λ o. has_type o ≡ true) (sym same) refl) (or_left (points_to_other Gs V (word i 0) i.ty) (has_no_int Gs V (take 2 (drop 1 i.args))) (or_left (breaks_t25_load Gs V i) (is_no_content Gs V (word i 0) (word i 3)) facts.number)) (typed_operand s entry right f in_it i there code.AtomicIAdd facts 0 (let many : 4 ≤ length i.args = at_least 4 (length i.args) facts.least in let less : 0 < length i.args = omega (arith, many) in less) (from_zero 0) refl)
  typed_by code.AtomicISub same facts = as_atomic s entry right f in_it i there (subst (λ o. is_atomic o ≡ true) (sym same) refl) (subst (λ o. has_type o ≡ true) (sym same) refl) (or_left (points_to_other Gs V (word i 0) i.ty) (has_no_int Gs V (take 2 (drop 1 i.args))) (or_left (breaks_t25_load Gs V i) (is_no_content Gs V (word i 0) (word i 3)) facts.number)) (typed_operand s entry right f in_it i there code.AtomicISub facts 0 (let many : 4 ≤ length i.args = at_least 4 (length i.args) facts.least in let less : 0 < length i.args = omega (arith, many) in less) (from_zero 0) refl)
  typed_by code.AtomicSMin same facts = as_atomic s entry right f in_it i there (subst (λ o. is_atomic o ≡ true) (sym same) refl) (subst (λ o. has_type o ≡ true) (sym same) refl) (or_left (points_to_other Gs V (word i 0) i.ty) (has_no_int Gs V (take 2 (drop 1 i.args))) (or_left (breaks_t25_load Gs V i) (is_no_content Gs V (word i 0) (word i 3)) facts.number)) (typed_operand s entry right f in_it i there code.AtomicSMin facts 0 (let many : 4 ≤ length i.args = at_least 4 (length i.args) facts.least in let less : 0 < length i.args = omega (arith, many) in less) (from_zero 0) refl)
  typed_by code.AtomicUMin same facts = as_atomic s entry right f in_it i there (subst (λ o. is_atomic o ≡ true) (sym same) refl) (subst (λ o. has_type o ≡ true) (sym same) refl) (or_left (points_to_other Gs V (word i 0) i.ty) (has_no_int Gs V (take 2 (drop 1 i.args))) (or_left (breaks_t25_load Gs V i) (is_no_content Gs V (word i 0) (word i 3)) facts.number)) (typed_operand s entry right f in_it i there code.AtomicUMin facts 0 (let many : 4 ≤ length i.args = at_least 4 (length i.args) facts.least in let less : 0 < length i.args = omega (arith, many) in less) (from_zero 0) refl)
  typed_by code.AtomicSMax same facts = as_atomic s entry right f in_it i there (subst (λ o. is_atomic o ≡ true) (sym same) refl) (subst (λ o. has_type o ≡ true) (sym same) refl) (or_left (points_to_other Gs V (word i 0) i.ty) (has_no_int Gs V (take 2 (drop 1 i.args))) (or_left (breaks_t25_load Gs V i) (is_no_content Gs V (word i 0) (word i 3)) facts.number)) (typed_operand s entry right f in_it i there code.AtomicSMax facts 0 (let many : 4 ≤ length i.args = at_least 4 (length i.args) facts.least in let less : 0 < length i.args = omega (arith, many) in less) (from_zero 0) refl)
  typed_by code.AtomicUMax same facts = as_atomic s entry right f in_it i there (subst (λ o. is_atomic o ≡ true) (sym same) refl) (subst (λ o. has_type o ≡ true) (sym same) refl) (or_left (points_to_other Gs V (word i 0) i.ty) (has_no_int Gs V (take 2 (drop 1 i.args))) (or_left (breaks_t25_load Gs V i) (is_no_content Gs V (word i 0) (word i 3)) facts.number)) (typed_operand s entry right f in_it i there code.AtomicUMax facts 0 (let many : 4 ≤ length i.args = at_least 4 (length i.args) facts.least in let less : 0 < length i.args = omega (arith, many) in less) (from_zero 0) refl)
  typed_by code.AtomicAnd same facts = as_atomic s entry right f in_it i there (subst (λ o. is_atomic o ≡ true) (sym same) refl) (subst (λ o. has_type o ≡ true) (sym same) refl) (or_left (points_to_other Gs V (word i 0) i.ty) (has_no_int Gs V (take 2 (drop 1 i.args))) (or_left (breaks_t25_load Gs V i) (is_no_content Gs V (word i 0) (word i 3)) facts.number)) (typed_operand s entry right f in_it i there code.AtomicAnd facts 0 (let many : 4 ≤ length i.args = at_least 4 (length i.args) facts.least in let less : 0 < length i.args = omega (arith, many) in less) (from_zero 0) refl)
  typed_by code.AtomicOr same facts = as_atomic s entry right f in_it i there (subst (λ o. is_atomic o ≡ true) (sym same) refl) (subst (λ o. has_type o ≡ true) (sym same) refl) (or_left (points_to_other Gs V (word i 0) i.ty) (has_no_int Gs V (take 2 (drop 1 i.args))) (or_left (breaks_t25_load Gs V i) (is_no_content Gs V (word i 0) (word i 3)) facts.number)) (typed_operand s entry right f in_it i there code.AtomicOr facts 0 (let many : 4 ≤ length i.args = at_least 4 (length i.args) facts.least in let less : 0 < length i.args = omega (arith, many) in less) (from_zero 0) refl)
  typed_by code.AtomicXor same facts = as_atomic s entry right f in_it i there (subst (λ o. is_atomic o ≡ true) (sym same) refl) (subst (λ o. has_type o ≡ true) (sym same) refl) (or_left (points_to_other Gs V (word i 0) i.ty) (has_no_int Gs V (take 2 (drop 1 i.args))) (or_left (breaks_t25_load Gs V i) (is_no_content Gs V (word i 0) (word i 3)) facts.number)) (typed_operand s entry right f in_it i there code.AtomicXor facts 0 (let many : 4 ≤ length i.args = at_least 4 (length i.args) facts.least in let less : 0 < length i.args = omega (arith, many) in less) (from_zero 0) refl)
  typed_by code.AtomicExchange same facts = as_atomic s entry right f in_it i there (subst (λ o. is_atomic o ≡ true) (sym same) refl) (subst (λ o. has_type o ≡ true) (sym same) refl) (or_left (points_to_other Gs V (word i 0) i.ty) (has_no_int Gs V (take 2 (drop 1 i.args))) (or_left (breaks_t25_load Gs V i) (is_no_content Gs V (word i 0) (word i 3)) facts.number)) (typed_operand s entry right f in_it i there code.AtomicExchange facts 0 (let many : 4 ≤ length i.args = at_least 4 (length i.args) facts.least in let less : 0 < length i.args = omega (arith, many) in less) (from_zero 0) refl)
  typed_by code.AtomicCompareExchange same facts = as_atomic s entry right f in_it i there (subst (λ o. is_atomic o ≡ true) (sym same) refl) (subst (λ o. has_type o ≡ true) (sym same) refl) (four_off (points_to_other Gs V (word i 0) i.ty) (has_no_int Gs V (take 3 (drop 1 i.args))) (is_no_content Gs V (word i 0) (word i 4)) (is_no_content Gs V (word i 0) (word i 5)) facts.number).0 (typed_operand s entry right f in_it i there code.AtomicCompareExchange facts 0 (let many : 6 ≤ length i.args = at_least 6 (length i.args) facts.least in let less : 0 < length i.args = omega (arith, many) in less) (from_zero 0) refl)
  typed_by code.AccessChain same facts = (own_local s entry right f in_it i there, as_chain s entry right f in_it i there known (subst (λ o. has_type o ≡ true) (sym same) refl) facts.value (λ k less. typed_operand s entry right f in_it i there code.AccessChain facts k less (from_zero k) refl) (let many : 1 ≤ length i.args = at_least 1 (length i.args) facts.least in let less : 0 < length i.args = omega (arith, many) in less))
  typed_by code.InBoundsAccessChain same facts = (own_local s entry right f in_it i there, as_chain s entry right f in_it i there known (subst (λ o. has_type o ≡ true) (sym same) refl) facts.value (λ k less. typed_operand s entry right f in_it i there code.InBoundsAccessChain facts k less (from_zero k) refl) (let many : 1 ≤ length i.args = at_least 1 (length i.args) facts.least in let less : 0 < length i.args = omega (arith, many) in less))
  typed_by code.ArrayLength same facts = (as_length s entry right f in_it i there (subst (λ o. has_type o ≡ true) (sym same) refl) facts.value, own_local s entry right f in_it i there)
  typed_by code.Variable same facts = own_local s entry right f in_it i there
  typed_by code.Load same facts = as_load s entry right f in_it i there (subst (λ o. has_type o ≡ true) (sym same) refl) facts.value (typed_operand s entry right f in_it i there code.Load facts 0 (let many : 1 ≤ length i.args = at_least 1 (length i.args) facts.least in let less : 0 < length i.args = omega (arith, many) in less) refl refl)
  typed_by code.Store same facts = as_store s entry right f in_it i there facts.value (typed_operand s entry right f in_it i there code.Store facts 0 (let many : 2 ≤ length i.args = at_least_alone 2 (length i.args) facts.least in let less : 0 < length i.args = omega (arith, many) in less) refl refl) (typed_operand s entry right f in_it i there code.Store facts 1 (let many : 2 ≤ length i.args = at_least_alone 2 (length i.args) facts.least in let less : 1 < length i.args = omega (arith, many) in less) refl refl)
  typed_by code.AtomicStore same facts = tt
  typed_by code.ControlBarrier same facts = tt
  typed_by code.MemoryBarrier same facts = tt
  typed_by code.LoopMerge same facts = tt
  typed_by code.SelectionMerge same facts = tt
  typed_by code.Return same facts = tt
  typed_by code.Unreachable same facts = tt
  typed_by code.FunctionCall same facts = as_call s entry right chosen have f in_it i there (subst (λ o. has_type o ≡ true) (sym same) refl) (call_right (subst (λ o. group_of o ≡ groups.Call) (sym same) refl)) (λ k low less. typed_operand s entry right f in_it i there code.FunctionCall facts k less (from_zero k) (behind_callee k low))
  typed_by code.Branch same facts = as_branch s entry right f in_it
  typed_by code.BranchConditional same facts = as_branch s entry right f in_it
  typed_by code.Switch same facts = as_branch s entry right f in_it
  typed_by code.ReturnValue same facts = as_return s entry right f in_it i there (end_right (subst (λ o. group_of o ≡ groups.Terminator exit.ReturnValue) (sym same) refl)) (typed_operand s entry right f in_it i there code.ReturnValue facts 0 (let many : 1 ≤ length i.args = at_least_alone 1 (length i.args) facts.least in let less : 0 < length i.args = omega (arith, many) in less) (from_zero 0) refl)
  typed_by p same facts = operation_typed

  pub is_typed : IsTyped s f i (step_kind i.op)
  is_typed = typed_by i.op refl facts_of
