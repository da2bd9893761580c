-- The chains of a conforming module are as the law of paths asks: they stand in order, lead from pointers, and what makes no pointer has none.
use Rattle.std.proofs.Common.{◌≡◌, ◌≢◌, ◌==◌, ◌&&◌, ℕ, true, false, List, Option, Some, refl, sym, ap, ◌∙◌, subst}
use Rattle.std.specs.Prelude.{is_some, Contains}
use Rattle.std.specs.Option.{option_map_or}
use Rattle.std.proofs.lemmas.Bool.{and_from, or_right as either_on}
use Rattle.std.proofs.lemmas.Option.{same_Some}
use Rattle.spv_words.specs.Words.{words}
use Rattle.spv_ops.specs.Opcode.{is}
use Rattle.spv_ops.specs.Groups.{is_chain}
use Rattle.spv_ops.specs.OpGroups.{group_of}
use Rattle.spv_ops.specs.Shape.{shape}
use Rattle.spv_ops.specs.Enumerants.{class_number}
use Rattle.spv_ops.specs.declared.StorageClass.TheVariants as storage
use Rattle.spv_ops.specs.declared.Op.{Op}
use Rattle.spv_ops.specs.declared.Op.TheVariants as code
use Rattle.spv_module.specs.Inst.{has_result}
use Rattle.spv_module.specs.Lists.{module_of}
use Rattle.spv_module.specs.State.{ModuleState}
use Rattle.spv_module.specs.declared.inst.Inst.{Inst}
use Rattle.spv_module.specs.declared.inst.Function.{Function}
use Rattle.spv_decor.specs.Rows.{word}
use Rattle.spv_index.specs.Locals.{insts_of, inst_in, parameter_in}
use Rattle.profile_rules.specs.declared.given.Given.{Given}
use Rattle.profile_rules.specs.Constants.{chosen_word}
use Rattle.profile_rules.specs.MemoryRules.{is_own_memory}
use Rattle.conformance.specs.Rules.{Options}
use Rattle.module_check.specs.Judged.{IsFine}
use Rattle.module_check.specs.ReadFrom.{IsReadFrom}
use Rattle.traces.specs.Invocations.{Invocation}
use Rattle.list_law.proofs.Numbers.{number_same}
use Rattle.plan_law.specs.InOrder.{IsAmong}
use Rattle.plan_law.proofs.Order.{found}
use Rattle.module_semantics.specs.Setting.{Setting, setting}
use Rattle.module_semantics.specs.Steps.{chain, variable, step_kind}
use Rattle.type_law.specs.Shaped.{HasConstants}
use Rattle.call_law.specs.Known.{IsFunctionOf}
use Rattle.global_law.specs.Chains.{is_global, ChainsAreRight}
use Rattle.global_law.proofs.Path.Based.{chain_op}
use Rattle.global_law.proofs.Path.Order.{chains_rise}
use Rattle.typed_law.specs.Conforms.{BreakNone, IsConformingIn, IsConforming}
use Rattle.typed_law.proofs.Rules.{function_class}
use Rattle.typed_law.proofs.Values.{inside, own_local, typed_result, among_functions}
use Rattle.typed_law.proofs.Words.{conforms}
use Rattle.accepted_law.proofs.Accepted.{break_none}
use Rattle.grammar_law.proofs.Ruled.Ruled.{contains_of, among_of, parameter_of, variable_op, base_pointer}
use Rattle.grammar_law.proofs.Formed.Inner.{is_frame, frameless}
use Rattle.grammar_law.proofs.Formed.Pointers.{no_pointer}

pub chain_result : (o : Op) → is_chain o ≡ true → has_result o ≡ true
unfolding shape
chain_result code.AccessChain on = refl
chain_result code.InBoundsAccessChain on = refl
chain_result o on = cc

no_both : variable ≡ chain → ⊥
no_both e = cc

module _ (s : Setting) (entry : Option (List ℕ)) (right : IsConforming s.of entry) (chosen : ℕ → Option ℕ) (have : HasConstants s chosen) (free : (f : Function) → IsFunctionOf f s.of.functions → (i : Inst) → IsAmong i (insts_of f) → is_frame (group_of i.op) ≡ false) where
  module _ (f : Function) (is_one : IsFunctionOf f s.of.functions) where
    in_it : Contains s.of.functions f
    in_it = contains_of s.of.functions f is_one

    own : IsConformingIn s.of f
    own = inside s entry right f in_it

    chain_some : (i : Inst) → IsAmong i (insts_of f) → is_chain i.op ≡ true → i.result ≡ 0 → ⊥
    chain_some i there on = (own.formed i there).result (chain_result i.op on)

    variable_some : (i : Inst) → IsAmong i (insts_of f) → step_kind i.op ≡ variable → i.result ≡ 0 → ⊥
    variable_some i there kind = (own.formed i there).result (typed_result i.op (variable_op i.op kind).1)

    -- no chain has the result of a variable
    chain_apart : (i j : Inst) → IsAmong i (insts_of f) → IsAmong j (insts_of f) → step_kind i.op ≡ variable → step_kind j.op ≡ chain → j.result ≢ i.result
    chain_apart i j of_i of_j first second same =
        let at_i = found i (insts_of f) own.order.apart of_i (variable_some i of_i first) in
        let at_j = found j (insts_of f) own.order.apart of_j (chain_some j of_j (chain_op j.op second)) in
        let one = same_Some i j (sym at_i ∙ (ap (inst_in f) (sym same) ∙ at_j)) in
        no_both (sym first ∙ (ap (λ (x : Inst). step_kind x.op) one ∙ second))

    -- P13: a variable of a function is of class Function
    variable_own : (i : Inst) → IsAmong i (insts_of f) → step_kind i.op ≡ variable → is_own_memory f i.result ≡ true
    variable_own i there kind =
        let on = (variable_op i.op kind).0 in
        let class = number_same (word i 0) (class_number storage.Function) (function_class s.of entry right i (among_functions s.of.functions f i in_it there) on) in
        let at : inst_in f i.result ≡ Some i = found i (insts_of f) own.order.apart there (variable_some i there kind) in
        either_on (is_some (parameter_in f i.result)) (option_map_or (λ (x : Inst). (is x.op code.Variable) && (word x 0 == class_number storage.Function)) (inst_in f i.result) false)
        (ap (λ (o : Option Inst). option_map_or (λ (x : Inst). (is x.op code.Variable) && (word x 0 == class_number storage.Function)) o false) at ∙ and_from (is i.op code.Variable) (word i 0 == class_number storage.Function) on class)

  pub chains_right : ChainsAreRight s
  chains_right = record {
    rise = λ f one. chains_rise s.of f (own f one).order (chain_some f one);
    values = λ f one i there off. let among = among_of (insts_of f) i there in no_pointer s entry right chosen have f (in_it f one) i among (free f one i among) off;
    bases = λ f one i there kind. base_pointer s entry right chosen have f one i (among_of (insts_of f) i there) kind;
    apart = λ f one i j of_i of_j first second. chain_apart f one i j (among_of (insts_of f) i of_i) (among_of (insts_of f) j of_j) first second;
    memory = λ f one i there kind. variable_own f one i (among_of (insts_of f) i there) kind;
    results = λ f one i there. ap is_some (own_local s entry right f (in_it f one) i (among_of (insts_of f) i there));
    parameters = λ f one n on. let p = parameter_of f.params n on in subst (λ (k : ℕ). is_global s.of.globals k ≡ false) p.2 (ap is_some ((own f one).outside p.0 p.1));
  }

-- a module whose words break no rule, and so one that was read from bytes and that the judges do not refuse, whatever its overrides and its invocation
module _ (ws : List ℕ) (entry : Option (List ℕ)) (right : BreakNone ws entry) (function : ℕ) (overrides : List (ℕ × Given)) (inv : Invocation) where
  abbrev S : Setting
  S = setting (module_of ws) function overrides inv

  pub conforming_chains : ChainsAreRight S
  conforming_chains = chains_right S entry (conforms ws entry right) (chosen_word S.of.heads overrides inv.specialization) (λ id. refl) (λ f one. frameless ws right.form.0 right.form.1.1.1.0 f one)

module _ (bytes : List ℕ) (m : ModuleState) (o : Options) (read : IsReadFrom bytes m) (fine : IsFine m o) (function : ℕ) (overrides : List (ℕ × Given)) (inv : Invocation) where
  pub accepted_chains : ChainsAreRight (setting m function overrides inv)
  accepted_chains = subst (λ (n : ModuleState). ChainsAreRight (setting n function overrides inv)) (sym read.made) (conforming_chains (words bytes) o.entry (break_none bytes m o read fine) function overrides inv)
