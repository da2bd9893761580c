-- A conforming module is as the law of functions asks: typed, and of pointers it lends whole variables to calls.
use Rattle.std.proofs.Common.{◌≡◌, ◌<◌, ◌≤◌, ◌+◌, ◌==◌, ◌||◌, ◌&&◌, not, ℕ, suc, Bool, true, false, List, [], ◌∷◌, length, drop, Option, Some, None, inl, inr, refl, sym, ap, subst, ◌∙◌, if◌then◌else◌, arith}
use Rattle.std.specs.Prelude.{◌⊎◌, find, is_some, option_map, option_and_then, Contains, slice_index}
use Rattle.std.specs.Option.{option_map_or, option_or}
use Rattle.std.specs.List.{list_any}
use Rattle.std.proofs.lemmas.Bool.Decides.{eqb_tells}
use Rattle.std.proofs.lemmas.Bool.{not-false}
use Rattle.spv_ops.specs.Opcode.{is, number}
use Rattle.spv_ops.specs.Operands.{is_id}
use Rattle.spv_ops.specs.OpGroups.{takes_of, group_of}
use Rattle.spv_ops.specs.Shape.{shape, count_of}
use Rattle.spv_ops.specs.Enumerants.{class_number}
use Rattle.spv_ops.specs.declared.StorageClass.TheVariants as storage
use Rattle.spv_ops.specs.declared.OpGroup.TheVariants as groups
use Rattle.spv_ops.specs.declared.Op.{Op}
use Rattle.spv_ops.specs.declared.Op.TheVariants as code
use Rattle.spv_module.specs.Held.{global}
use Rattle.spv_module.specs.Inst.{has_type, has_result}
use Rattle.spv_module.specs.Lists.{module_of}
use Rattle.spv_module.specs.State.{ModuleState}
use Rattle.spv_module.specs.declared.inst.Id.{Id}
use Rattle.spv_module.specs.declared.inst.Inst.{Inst}
use Rattle.spv_module.specs.declared.inst.Function.{Function}
use Rattle.spv_types.specs.Tree.{Tree}
use Rattle.spv_types.specs.Types.{type_tree}
use Rattle.spv_decor.specs.Rows.{word}
use Rattle.spv_index.specs.Locals.{insts_of, inst_in, parameter_in, typed, local_type, type_in}
use Rattle.spv_index.specs.Pointers.{pointer, as_pointer, storage_class, pointee, pointee_of}
use Rattle.profile_rules.specs.declared.given.Given.{Given}
use Rattle.profile_rules.specs.declared.needs.Need.TheVariants.{Callee, Value}
use Rattle.profile_rules.specs.Operands.{need, first_or, is_there_in}
use Rattle.profile_rules.specs.TypeRows.{is_pointer as is_pointer_type, value_fails, is_int}
use Rattle.profile_rules.specs.ValueRules.{breaks_t6, leads_elsewhere, chain_end}
use Rattle.profile_rules.specs.MemoryRules.{is_pointer, is_own_memory, is_other_pointer, repeats}
use Rattle.profile_rules.specs.FlowRules.{breaks_t21}
use Rattle.profile_rules.specs.TypeRules.{is_value_broken, is_flow_broken}
use Rattle.profile_rules.specs.Entry.{function_of}
use Rattle.profile_rules.specs.Constants.{chosen_word}
use Rattle.conformance.specs.Rules.{Options}
use Rattle.module_check.specs.Judged.{IsFine}
use Rattle.module_check.specs.ReadFrom.{IsReadFrom}
use Rattle.traces.specs.Events.{Event}
use Rattle.traces.specs.Invocations.{Invocation}
use Rattle.traces.specs.Runs.{go, Supplied}
use Rattle.list_law.proofs.Tests.{or_left, or_right, and_off}
use Rattle.list_law.proofs.Numbers.{from_zero}
use Rattle.plan_law.specs.InOrder.{IsAmong}
use Rattle.plan_law.proofs.Order.{found}
use Rattle.module_semantics.specs.Setting.{Setting, setting, global_variable, as_variable}
use Rattle.module_semantics.specs.State.{Conf}
use Rattle.module_semantics.specs.Operands.{arg}
use Rattle.module_semantics.specs.Steps.{chain, variable, call, step_kind, base}
use Rattle.fits_law.specs.State.{target_shape}
use Rattle.fits_law.proofs.Steps.{named}
use Rattle.type_law.specs.Shaped.{HasConstants}
use Rattle.type_law.proofs.Vectors.{three_off}
use Rattle.type_law.proofs.Chains.{chain_pointer}
use Rattle.agree_law.specs.Answers.{machine}
use Rattle.agree_law.specs.Blocks.{IsOf}
use Rattle.call_law.specs.Known.{IsFunctionOf, ArePointersSo, is_parameter, LendsWhole}
use Rattle.function_law.specs.UnderWay.{IsRuled}
use Rattle.typed_law.specs.Conforms.{BreakNone, IsParameter, IsConforming}
use Rattle.typed_law.proofs.Lists.{found_in}
use Rattle.typed_law.proofs.Rules.{operand_there, value_right, flow_right, call_right}
use Rattle.typed_law.proofs.Types.{row_is}
use Rattle.typed_law.proofs.Values.{inside, local_row, variable_type_is, type_suits, own_type, own_local, typed_value, HasType, typed_is, global_typed_some, typed_result}
use Rattle.typed_law.proofs.Others.{typed_some, target_of, chain_types}
use Rattle.typed_law.proofs.Calls.{AreOfTypes, arguments_typed, global_variable_is, global_points, variable_typed}
pub use Rattle.typed_law.proofs.Calls.{variable_typed as variable_has}
use Rattle.typed_law.proofs.Whole.{is_typed, behind_callee}
use Rattle.typed_law.proofs.Inputs.{conforming_fits}
use Rattle.accepted_law.proofs.Accepted.{accepted_conforming}
use Rattle.typed_law.proofs.Words.{conforms}
use Rattle.grammar_law.proofs.Unit.Lists.{each_behind}

-- the same lists by other words
pub contains_of : (fs : List Function) (f : Function) → IsFunctionOf f fs → Contains fs f
contains_of [] f there = absurd there
contains_of (g ∷ fs) f (inl same) = (0, (let less : 0 < suc (length fs) = omega arith in less), same)
contains_of (g ∷ fs) f (inr there) = let w = contains_of fs f there in let less = w.1 in (suc w.0, (let more : suc w.0 < suc (length fs) = omega (arith, less) in more), w.2)

pub among_of : (js : List Inst) (i : Inst) → IsOf i js → IsAmong i js
among_of [] i there = there
among_of (j ∷ js) i (inl same) = inl same
among_of (j ∷ js) i (inr there) = inr (among_of js i there)

abbrev IsChainOp : Op → Type 0
IsChainOp o = (group_of o ≡ groups.Chain) × (has_type o ≡ true) × (is o code.Variable ≡ false) × ((args : List ℕ) (k : ℕ) → is_id o args k ≡ true) × ((k : ℕ) → need o k ≡ Value) × ((n : ℕ) → (shape o).least ≤ 1 + count_of (has_type o) + count_of (has_result o) + n → 0 < n)

-- opcodes by what they do
chain_op : (o : Op) → step_kind o ≡ chain → IsChainOp o
unfolding step_kind group_of takes_of need is_id shape number
chain_op code.AccessChain e = (refl, refl, refl, λ args k. from_zero k, λ k. refl, λ n le. omega (arith, le))
chain_op code.InBoundsAccessChain e = (refl, refl, refl, λ args k. from_zero k, λ k. refl, λ n le. omega (arith, le))
chain_op o e = cc

pub variable_op : (o : Op) → step_kind o ≡ variable → (is o code.Variable ≡ true) × (has_type o ≡ true)
unfolding step_kind group_of shape number
variable_op code.Variable e = (refl, refl)
variable_op o e = cc

abbrev IsCallOp : Op → Type 0
IsCallOp o = (group_of o ≡ groups.Call) × (has_type o ≡ true) × (is o code.FunctionCall ≡ true) × ((args : List ℕ) (k : ℕ) → is_id o args k ≡ true) × ((k : ℕ) → need o k ≡ first_or k Callee Value)

call_op : (o : Op) → step_kind o ≡ call → IsCallOp o
unfolding step_kind group_of takes_of need is_id shape number
call_op code.FunctionCall e = (refl, refl, refl, λ args k. from_zero k, λ k. refl)
call_op o e = cc

-- what is found is one of them
pub parameter_of : (ps : List (Id × Id)) (n : ℕ) → is_some (option_map (λ (p : Id × Id). p.1.0) (find (λ (p : Id × Id). p.0.0 == n) ps)) ≡ true → (p : Id × Id) × IsParameter p ps × (p.0.0 ≡ n)
parameter_of [] n e = cc
parameter_of (q ∷ ps) n e = by_test (q.0.0 == n) (eqb_tells q.0.0 n) e (λ rest. parameter_of ps n rest)
  where
    by_test : (b : Bool) → ((b ≡ true) × (q.0.0 ≡ n)) ⊎ ((b ≡ false) × (q.0.0 ≡ n → ⊥)) → is_some (option_map (λ (p : Id × Id). p.1.0) (if b then Some q else find (λ (p : Id × Id). p.0.0 == n) ps)) ≡ true → (is_some (option_map (λ (p : Id × Id). p.1.0) (find (λ (p : Id × Id). p.0.0 == n) ps)) ≡ true → (p : Id × Id) × IsParameter p ps × (p.0.0 ≡ n)) → (p : Id × Id) × IsParameter p (q ∷ ps) × (p.0.0 ≡ n)
    by_test b (inl w) e next = (q, inl refl, w.1)
    by_test true (inr w) e next = cc
    by_test false (inr w) e next = let p = next e in (p.0, inr p.1, p.2)

-- a type that points
pub class_there : (gs : List Inst) (ty : ℕ) (g : Inst) → global gs ty ≡ Some g → is g.op code.TypePointer ≡ true → is_some (storage_class gs ty) ≡ true
class_there gs ty g at on = ap (λ o. is_some (option_map (λ (p : Inst). slice_index p.args 0) (option_and_then as_pointer o))) at ∙ ap (λ (b : Bool). is_some (option_map (λ (p : Inst). slice_index p.args 0) (if b then Some g else None))) on

pub class_pointed : (gs : List Inst) (ty q : ℕ) → pointee gs ty ≡ Some q → is_some (storage_class gs ty) ≡ true
class_pointed gs ty q e = by_pointer (pointer gs ty) e
  where
    by_pointer : (o : Option Inst) → option_map (λ (p : Inst). slice_index p.args 1) o ≡ Some q → is_some (option_map (λ (p : Inst). slice_index p.args 0) o) ≡ true
    by_pointer None e = cc
    by_pointer (Some p) e = refl

pub pointer_by : (gs : List Inst) (f : Function) (id ty : ℕ) → type_in gs f id ≡ Some ty → is_some (storage_class gs ty) ≡ true → is_pointer gs f id ≡ true
pointer_by gs f id ty at there = ap (λ o. is_some (option_and_then (storage_class gs) o)) at ∙ there

pointed_by : (gs : List Inst) (f : Function) (id q : ℕ) → pointee_of gs f id ≡ Some q → is_pointer gs f id ≡ true
pointed_by gs f id q e = by_type (type_in gs f id) refl e
  where
    by_type : (o : Option ℕ) → type_in gs f id ≡ o → option_and_then (pointee gs) o ≡ Some q → is_pointer gs f id ≡ true
    by_type None at e = cc
    by_type (Some ty) at e = pointer_by gs f id ty at (class_pointed gs ty q e)

module _ (s : Setting) (entry : Option (List ℕ)) (right : IsConforming s.of entry) (chosen : ℕ → Option ℕ) (have : HasConstants s chosen) where
  abbrev Gs : List Inst
  Gs = s.of.globals

  -- of a function
  module _ (f : Function) (is_one : IsFunctionOf f s.of.functions) where
    in_it : Contains s.of.functions f
    in_it = contains_of s.of.functions f is_one

    -- no result is a parameter
    no_parameter : (n : ℕ) → parameter_in f n ≡ None → is_parameter f n ≡ false
    no_parameter n e = ap is_some e

    zero_free : is_parameter f 0 ≡ false
    zero_free = by_some (is_parameter f 0) refl
      where
        by_some : (b : Bool) → is_parameter f 0 ≡ b → b ≡ false
        by_some false e = refl
        by_some true e = let p = parameter_of f.params 0 e in absurd ((inside s entry right f in_it).some p.0 p.1 p.2)

    result_free : (i : Inst) → IsAmong i (insts_of f) → is_parameter f i.result ≡ false
    result_free i there = elim (eqb_tells i.result 0) [ inl w ↦ ap (is_parameter f) w.1 ∙ zero_free | inr w ↦ no_parameter i.result ((inside s entry right f in_it).order.own i there w.1).made ]

    -- what is the function's own is not the module's
    own_memory : (n : ℕ) → is_own_memory f n ≡ true → global_variable s n ≡ None
    own_memory n e = by_parameter (is_some (parameter_in f n)) refl e
      where
        by_global : global Gs n ≡ None → global_variable s n ≡ None
        by_global at = ap (λ (o : Option Inst). elim o [ None ↦ None | Some g ↦ as_variable g ]) at

        by_inst : (o : Option Inst) → inst_in f n ≡ o → option_map_or (λ (i : Inst). (is i.op code.Variable) && (word i 0 == class_number storage.Function)) o false ≡ true → global_variable s n ≡ None
        by_inst None at e = cc
        by_inst (Some i) at e =
            let there = found_in (insts_of f) n i at in
            by_global (ap (global Gs) (sym (named (insts_of f) n i at)) ∙ own_local s entry right f in_it i there)

        by_parameter : (b : Bool) → is_some (parameter_in f n) ≡ b → (b || option_map_or (λ (i : Inst). (is i.op code.Variable) && (word i 0 == class_number storage.Function)) (inst_in f n) false) ≡ true → global_variable s n ≡ None
        by_parameter true at e = let p = parameter_of f.params n at in by_global (ap (global Gs) (sym p.2) ∙ (inside s entry right f in_it).outside p.0 p.1)
        by_parameter false at e = by_inst (inst_in f n) refl e

    -- a variable of the module is a pointer
    global_pointer : (n : ℕ) (v : Inst) → global_variable s n ≡ Some v → is_pointer Gs f n ≡ true
    global_pointer n v e =
        let q = global_points s entry right chosen have n v e in
        let w = global_variable_is s entry right chosen have n v e in
        let type_is : type_in Gs f n ≡ Some v.ty = ap (λ o. option_or o (local_type f n)) (ap (option_and_then typed) w.0 ∙ typed_is v (global_typed_some s entry right v (found_in Gs n v w.0) (variable_typed v.op w.1))) in
        pointer_by Gs f n v.ty type_is (class_pointed Gs v.ty q.0 q.2)

    module _ (i : Inst) (there : IsAmong i (insts_of f)) where
      own_class : has_type i.op ≡ true → is_some (storage_class Gs i.ty) ≡ true → is_pointer Gs f i.result ≡ true
      own_class has points = pointer_by Gs f i.result i.ty (own_type s entry right f in_it i there (typed_some s entry right f in_it i there has)) points

      operand_typed : (k : ℕ) → k < length i.args → is_id i.op i.args k ≡ true → need i.op k ≡ Value → HasType s entry right f in_it (slice_index i.args k)
      operand_typed k less has needed =
          typed_value s entry right f in_it i.at (slice_index i.args k) (subst (λ q. is_there_in s.of f i.at q (slice_index i.args k) ≡ true) needed (operand_there (is_there_in s.of f i.at) i ((inside s entry right f in_it).order.there i there) k less has))

      variable_pointer : step_kind i.op ≡ variable → is_pointer Gs f i.result ≡ true
      variable_pointer kind =
          let v = variable_op i.op kind in
          let g = local_row s entry right f in_it i there (typed_some s entry right f in_it i there v.1) in
          own_class v.1 (class_there Gs i.ty g.0 g.1 (variable_type_is i.op g.0 v.0 g.2))

      -- T6
      chain_right : step_kind i.op ≡ chain → breaks_t6 Gs (type_in Gs f) i ≡ false
      chain_right kind = ap (is_value_broken s.of (type_in Gs f) i) (sym (chain_op i.op kind).0) ∙ value_right s.of entry right f in_it i there

      chain_typed : step_kind i.op ≡ chain → (k : ℕ) → k < length i.args → HasType s entry right f in_it (slice_index i.args k)
      chain_typed kind k less = let o = chain_op i.op kind in operand_typed k less (o.3 i.args k) (o.4 k)

      base_target : step_kind i.op ≡ chain → (q : ℕ) × (t : Tree) × (pointee_of Gs f (base i) ≡ Some q) × (type_tree Gs q ≡ Some t)
      base_target kind =
          let some = (chain_op i.op kind).5 (length i.args) ((inside s entry right f in_it).formed i there).least in
          let parts = three_off (value_fails is_pointer_type Gs (type_in Gs f) (word i 0)) (list_any (value_fails is_int Gs (type_in Gs f)) (drop 1 i.args)) (leads_elsewhere Gs i.ty (option_and_then (storage_class Gs) (type_in Gs f (word i 0))) (chain_end Gs (type_in Gs f) i)) (chain_right kind) in
          target_of s entry right f in_it (word i 0) (chain_typed kind 0 some) parts.0

      pub base_pointer : step_kind i.op ≡ chain → is_pointer Gs f (base i) ≡ true
      base_pointer kind = let q = base_target kind in pointed_by Gs f (base i) q.0 q.2

      chain_is : step_kind i.op ≡ chain → (is_own_memory f i.result ≡ false) × (is_pointer Gs f i.result ≡ true)
      chain_is kind =
          let o = chain_op i.op kind in
          let each = chain_typed kind in
          let off = chain_right kind in
          let q = base_target kind in
          let target : target_shape s f (base i) ≡ Some q.1 = ap (option_and_then (type_tree Gs)) q.2 ∙ q.3 in
          let points = chain_pointer s f i q.1 off (chain_types s entry right f in_it i there (drop 1 i.args) (each_behind (HasType s entry right f in_it) i.args each)) target in
          let g = local_row s entry right f in_it i there (typed_some s entry right f in_it i there o.1) in
          let on = not-false (is_pointer_type g.0) (ap (λ r. option_map_or (λ (x : Inst). not (is_pointer_type x)) r false) (sym (row_is s.of entry right i.ty g.0 g.1 (type_suits i.op g.0 g.2))) ∙ points) in
          (own_off o.1 o.2, own_class o.1 (class_there Gs i.ty g.0 g.1 on))
        where
          own_off : has_type i.op ≡ true → is i.op code.Variable ≡ false → is_own_memory f i.result ≡ false
          own_off has off =
              let some = ((inside s entry right f in_it).formed i there).result (typed_result i.op has) in
              let at : inst_in f i.result ≡ Some i = found i (insts_of f) (inside s entry right f in_it).order.apart there some in
              ap (λ b. b || option_map_or (λ (j : Inst). (is j.op code.Variable) && (word j 0 == class_number storage.Function)) (inst_in f i.result) false) (result_free i there)
              ∙ (ap (λ o. option_map_or (λ (j : Inst). (is j.op code.Variable) && (word j 0 == class_number storage.Function)) o false) at ∙ ap (λ b. b && (word i 0 == class_number storage.Function)) off)

      -- M4
      arguments_right : step_kind i.op ≡ call → (list_any (is_other_pointer Gs f) (drop 1 i.args) ≡ false) × (repeats (is_pointer Gs f) (drop 1 i.args) ≡ false)
      arguments_right kind =
          let o = call_op i.op kind in
          let off = and_off (is i.op code.FunctionCall) (list_any (is_other_pointer Gs f) (drop 1 i.args) || repeats (is_pointer Gs f) (drop 1 i.args)) (call_right s.of entry right f in_it i there) o.2 in
          (or_left (list_any (is_other_pointer Gs f) (drop 1 i.args)) (repeats (is_pointer Gs f) (drop 1 i.args)) off, or_right (list_any (is_other_pointer Gs f) (drop 1 i.args)) (repeats (is_pointer Gs f) (drop 1 i.args)) off)

      -- T21
      parameters_right : (g : Function) → step_kind i.op ≡ call → function_of s.of.functions (arg i 0) ≡ Some g → ArePointersSo s f g g.params (drop 1 i.args)
      parameters_right g kind at =
          let o = call_op i.op kind in
          let b = flow_right s.of entry right f in_it i there in
          let off : breaks_t21 s.of.functions Gs (type_in Gs f) i ≡ false = ap (is_flow_broken s.of f b.0 i) (sym o.0) ∙ b.1 in
          so_typed g g.params (drop 1 i.args) (arguments_typed s entry right chosen have f in_it i there o.1 off (λ k low less. operand_typed k less (o.3 i.args k) (o.4 k ∙ behind_callee k low)) g at)
        where
          so_typed : (g : Function) (ps : List (Id × Id)) (ids : List ℕ) → AreOfTypes s f g ps ids → ArePointersSo s f g ps ids
          so_typed g [] ids are = tt
          so_typed g (p ∷ ps) [] are = tt
          so_typed g (p ∷ ps) (id ∷ ids) are = (λ on. ap (λ o. is_some (option_and_then (storage_class Gs) o)) are.0 ∙ on, so_typed g ps ids are.2)

  -- what the rules say of pointers
  pub lends_whole : LendsWhole s
  lends_whole = record {
    results = λ f is_one i there. result_free f is_one i (among_of (insts_of f) i there);
    chains = λ f is_one i there kind. chain_is f is_one i (among_of (insts_of f) i there) kind;
    variables = λ f is_one i there kind. variable_pointer f is_one i (among_of (insts_of f) i there) kind;
    arguments = λ f is_one i there kind. arguments_right f is_one i (among_of (insts_of f) i there) kind;
    parameters = λ f g is_one i there kind at. parameters_right f is_one i (among_of (insts_of f) i there) g kind at;
    globals = λ f is_one n v at. global_pointer f is_one n v at;
    own = λ f is_one n e. own_memory f is_one n e;
  }

  -- and of all that the law of functions asks of a module
  pub is_ruled : (More : Conf → Type 0) → ((c d : Supplied Conf) (e : List Event) → machine s c ≡ go e d → More c.at → More d.at) → IsRuled s More
  is_ruled More kept = record {
    fits = conforming_fits s entry right chosen have;
    typed = λ f is_one i there. is_typed s entry right chosen have f (contains_of s.of.functions f is_one) i (among_of (insts_of f) i there);
    lends = lends_whole;
    more = kept;
  }

-- a module whose words break no rule, whatever its overrides and its invocation
module _ (ws : List ℕ) (entry : Option (List ℕ)) (right : BreakNone ws entry) (function : ℕ) (overrides : List (ℕ × Given)) (inv : Invocation) where
  abbrev S : Setting
  S = setting (module_of ws) function overrides inv

  pub conforming_lends : LendsWhole S
  conforming_lends = lends_whole S entry (conforms ws entry right) (chosen_word S.of.heads overrides inv.specialization) (λ id. refl)

  pub conforming_ruled : (More : Conf → Type 0) → ((c d : Supplied Conf) (e : List Event) → machine S c ≡ go e d → More c.at → More d.at) → IsRuled S More
  conforming_ruled More kept = is_ruled S entry (conforms ws entry right) (chosen_word S.of.heads overrides inv.specialization) (λ id. refl) More kept

-- so is a module that was read from bytes and that the judges do not refuse
module _ (bytes : List ℕ) (m : ModuleState) (o : Options) (read : IsReadFrom bytes m) (fine : IsFine m o) (function : ℕ) (overrides : List (ℕ × Given)) (inv : Invocation) where
  abbrev A : Setting
  A = setting m function overrides inv

  pub accepted_lends : LendsWhole A
  accepted_lends = lends_whole A o.entry (accepted_conforming bytes m o read fine) (chosen_word A.of.heads overrides inv.specialization) (λ id. refl)

  pub accepted_ruled : (More : Conf → Type 0) → ((c d : Supplied Conf) (e : List Event) → machine A c ≡ go e d → More c.at → More d.at) → IsRuled A More
  accepted_ruled More kept = is_ruled A o.entry (accepted_conforming bytes m o read fine) (chosen_word A.of.heads overrides inv.specialization) (λ id. refl) More kept
