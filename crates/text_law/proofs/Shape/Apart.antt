-- What memory is has a pointer type: it is no value with a shape, no constant, and no result of another instruction than OpVariable. So these have names with which no path to memory begins.
use Rattle.std.proofs.Common.{◌≡◌, ◌++◌, ℕ, Bool, true, false, List, map, filter, Contains, Option, Some, None, unwrap_or, inl, inr, refl, sym, ap, ◌∙◌, subst, if◌then◌else◌}
use Rattle.std.specs.Prelude.{is_some, option_map, option_and_then, slice_index}
use Rattle.std.specs.Option.{option_map_or, option_or}
use Rattle.std.proofs.lemmas.Option.{same_Some}
use Rattle.spv_ops.specs.Opcode.{is}
use Rattle.spv_ops.specs.declared.Op.TheVariants as code
use Rattle.spv_module.specs.Held.{global}
use Rattle.spv_module.specs.Lists.{id}
use Rattle.spv_module.specs.declared.inst.Id.{Id}
use Rattle.spv_module.specs.declared.inst.Inst.{Inst}
use Rattle.spv_module.specs.declared.inst.Function.{Function}
use Rattle.spv_types.specs.Tree.{Tree}
use Rattle.spv_types.specs.Types.{tree_at, type_tree}
use Rattle.spv_index.specs.Locals.{insts_of, inst_in, parameter_in, typed, local_type, type_in}
use Rattle.spv_index.specs.Pointers.{as_pointer}
use Rattle.conformance.specs.Rules.{Options}
use Rattle.module_semantics.specs.Setting.{Setting}
use Rattle.name_alloc.specs.declared.claims.Key.TheVariants.{Id as IdOf}
use Rattle.name_alloc.specs.Naming.{name_of}
use Rattle.glsl_ast.specs.Tree.{TranslationUnit}
use Rattle.text_rules.specs.Constants.{Source}
use Rattle.expr_forward.specs.Scope.{Scope, type_of}
use Rattle.function_text.specs.Functions.{FunctionPlan}
use Rattle.unit_rules.specs.Translation.{Naming, text_of}
use Rattle.unit_rules.specs.Unit.{source_of, IsUnitOf}
use Rattle.list_law.proofs.Options.{no_some}
use Rattle.plan_law.proofs.Order.{found}
use Rattle.typed_law.specs.Conforms.{IsConforming}
use Rattle.typed_law.proofs.Lists.{clash}
use Rattle.typed_law.proofs.Used.{global_found}
use Rattle.typed_law.proofs.Values.{typed_is, typed_result, variable_type_is, global_row, global_typed_some, inside, local_row, own_type}
use Rattle.typed_law.proofs.Others.{typed_some}
use Rattle.claim_law.specs.Claimed.{IsIn}
use Rattle.claim_law.specs.Told.{built_in_variables, is_among}
use Rattle.grammar_law.proofs.Unit.Lists.{in_either, of_filter, as_among, as_parameter}
use Rattle.grammar_law.proofs.Unit.Shaped.{pointer_none}
use Rattle.grammar_law.proofs.Unit.Ways.{HaveKinds, F, V, in_module}
use Rattle.grammar_law.proofs.Meets.ArrayLengths.{variable_typed}
use Rattle.grammar_law.proofs.Grammar.Listed.{of_mapped}
use Rattle.profile_rules.specs.Places.{is_variable}
use Rattle.text_law.specs.Shape.{is_pointer, memory_ids, names_in}
use Rattle.text_law.proofs.Shape.Named.{id_unseen}

module _ (s : Setting) (entry : Option (List ℕ)) (right : IsConforming s.of entry) (kinds : HaveKinds s.of.globals) (o : Options) (unit : TranslationUnit) (u : IsUnitOf s.of o unit) (p : FunctionPlan) (among : IsIn p u.plans) where
  abbrev Gs : List Inst
  Gs = s.of.globals

  abbrev Found : Naming
  Found = name_of u.claimed

  abbrev Fn : Function
  Fn = F s entry right kinds o unit u p among

  abbrev Where : Scope
  Where = V s entry right kinds o unit u p among

  abbrev Src : Source
  Src = source_of s.of o u.entry

  abbrev T : ℕ → Option ℕ
  T = type_in s.of.globals Fn

  in_it : Contains s.of.functions Fn
  in_it = in_module s entry right kinds o unit u p among

  -- a variable of the module, a parameter that is a pointer, a variable of the function
  pub data IsMemory (n : ℕ) : Type 0 where
    outside : (g : Inst) → IsIn g s.of.globals → is g.op code.Variable ≡ true → g.result ≡ n → IsMemory n
    lent : (q : Id × Id) → IsIn q Fn.params → is_pointer Src q ≡ true → q.0.0 ≡ n → IsMemory n
    own : (i : Inst) → IsIn i (insts_of Fn) → is i.op code.Variable ≡ true → i.result ≡ n → IsMemory n

  memory_of : (n : ℕ) → IsIn n (memory_ids Src Fn) → IsMemory n
  memory_of n there = elim (in_either n (map (λ (g : Inst). g.result) (filter is_variable Gs)) (map (λ (q : Id × Id). q.0.0) (filter (is_pointer Src) Fn.params) ++ map (λ (i : Inst). i.result) (filter is_variable (insts_of Fn))) there) [ inl first ↦ by_global first | inr later ↦ by_later later ]
    where
      by_global : IsIn n (map (λ (g : Inst). g.result) (filter is_variable Gs)) → IsMemory n
      by_global first =
          let g = of_mapped (λ (h : Inst). h.result) (filter is_variable Gs) n first in
          let on = of_filter is_variable Gs g.0 g.1 in
          outside g.0 on.0 on.1 g.2

      by_later : IsIn n (map (λ (q : Id × Id). q.0.0) (filter (is_pointer Src) Fn.params) ++ map (λ (i : Inst). i.result) (filter is_variable (insts_of Fn))) → IsMemory n
      by_later later = elim (in_either n (map (λ (q : Id × Id). q.0.0) (filter (is_pointer Src) Fn.params)) (map (λ (i : Inst). i.result) (filter is_variable (insts_of Fn))) later) [
        | inl parameter ↦ (let q = of_mapped (λ (r : Id × Id). r.0.0) (filter (is_pointer Src) Fn.params) n parameter in let on = of_filter (is_pointer Src) Fn.params q.0 q.1 in lent q.0 on.0 on.1 q.2)
        | inr local ↦ (let i = of_mapped (λ (j : Inst). j.result) (filter is_variable (insts_of Fn)) n local in let on = of_filter is_variable (insts_of Fn) i.0 i.1 in own i.0 on.0 on.1 i.2)
      ]

  -- its type is that of a pointer
  abbrev IsPointed : ℕ → Type 0
  IsPointed n = (ty : ℕ) × (g : Inst) × (T n ≡ Some ty) × (global Gs ty ≡ Some g) × (is g.op code.TypePointer ≡ true)

  pointed : (n : ℕ) → IsMemory n → IsPointed n
  pointed n (outside g g_in on same) =
      let there = as_among Gs g g_in in
      let some : g.ty ≡ 0 → ⊥ = (λ lacks. global_typed_some s entry right g there (variable_typed g.op on) lacks) in
      let row = global_row s entry right g there some in
      let told : T g.result ≡ Some g.ty = ap (λ (q : Option Inst). option_or (option_and_then typed q) (local_type Fn g.result)) (global_found s.of entry right g there) ∙ ap (λ (q : Option ℕ). option_or q (local_type Fn g.result)) (typed_is g some) in
      subst IsPointed same (g.ty, row.0, told, row.1, variable_type_is g.op row.0 on row.2)
  pointed n (lent q q_in on same) = subst IsPointed same (by_row (global Gs q.1.0) refl on)
    where
      there : (T q.0.0 ≡ Some q.1.0)
      there =
          let param = as_parameter q Fn.params q_in in
          ap (λ (x : Option Inst). option_or (option_and_then typed x) (local_type Fn q.0.0)) ((inside s entry right Fn in_it).outside q param)
          ∙ ap (λ (x : Option ℕ). option_or x (option_and_then typed (inst_in Fn q.0.0))) ((inside s entry right Fn in_it).found q param)

      by_test : (g : Inst) → global Gs q.1.0 ≡ Some g → (b : Bool) → is g.op code.TypePointer ≡ b → is_some (option_map (λ (h : Inst). slice_index h.args 1) (if b then Some g else None)) ≡ true → IsPointed q.0.0
      by_test g at true pointer some = (q.1.0, g, there, at, pointer)
      by_test g at false pointer some = cc

      by_row : (x : Option Inst) → global Gs q.1.0 ≡ x → is_some (option_map (λ (h : Inst). slice_index h.args 1) (option_and_then as_pointer x)) ≡ true → IsPointed q.0.0
      by_row None at on = cc
      by_row (Some g) at on = by_test g at (is g.op code.TypePointer) refl on
  pointed n (own i i_in on same) =
      let there = as_among (insts_of Fn) i i_in in
      let some : i.ty ≡ 0 → ⊥ = typed_some s entry right Fn in_it i there (variable_typed i.op on) in
      let row = local_row s entry right Fn in_it i there some in
      subst IsPointed same (i.ty, row.0, own_type s entry right Fn in_it i there some, row.1, variable_type_is i.op row.0 on row.2)

  -- so it is no value with a shape
  shaped_apart : (n : ℕ) (t : Tree) → type_tree Gs (type_of Where n) ≡ Some t → IsMemory n → ⊥
  shaped_apart n t shaped memory =
      let w = pointed n memory in
      pointer_none Gs w.1 t w.4 (ap (λ (q : Option Inst). option_map_or (tree_at Gs) q None) (sym w.3) ∙ (ap (λ (q : Option ℕ). type_tree Gs (unwrap_or q 0)) (sym w.2) ∙ shaped))

  -- no result of another instruction
  result_apart : (i : Inst) → IsIn i (insts_of Fn) → (i.result ≡ 0 → ⊥) → is i.op code.Variable ≡ false → IsMemory i.result → ⊥
  result_apart i i_in some other (outside g g_in on same) =
      let alone = ((inside s entry right Fn in_it).order.own i (as_among (insts_of Fn) i i_in) some).inside in
      no_some g (sym alone ∙ (ap (global Gs) (sym same) ∙ global_found s.of entry right g (as_among Gs g g_in)))
  result_apart i i_in some other (lent q q_in on same) =
      let alone = ((inside s entry right Fn in_it).order.own i (as_among (insts_of Fn) i i_in) some).made in
      no_some q.1.0 (sym alone ∙ (ap (parameter_in Fn) (sym same) ∙ (inside s entry right Fn in_it).found q (as_parameter q Fn.params q_in)))
  result_apart i i_in some other (own j j_in on same) =
      let apart = (inside s entry right Fn in_it).order.apart in
      let first : inst_in Fn i.result ≡ Some i = found i (insts_of Fn) apart (as_among (insts_of Fn) i i_in) some in
      let second : inst_in Fn j.result ≡ Some j = found j (insts_of Fn) apart (as_among (insts_of Fn) j j_in) (λ lacks. some (sym same ∙ lacks)) in
      let one : i ≡ j = same_Some i j (sym first ∙ (ap (inst_in Fn) (sym same) ∙ second)) in
      clash (sym on ∙ (ap (λ (x : Inst). is x.op code.Variable) (sym one) ∙ other))

  -- and no other global
  global_apart : (g : Inst) → IsIn g s.of.globals → is g.op code.Variable ≡ false → IsMemory g.result → ⊥
  global_apart g g_in other (outside h h_in on same) =
      let one : h ≡ g = same_Some h g (sym (global_found s.of entry right h (as_among Gs h h_in)) ∙ (ap (global Gs) same ∙ global_found s.of entry right g (as_among Gs g g_in))) in
      clash (sym on ∙ (ap (λ (x : Inst). is x.op code.Variable) one ∙ other))
  global_apart g g_in other (lent q q_in on same) =
      no_some g (sym ((inside s entry right Fn in_it).outside q (as_parameter q Fn.params q_in)) ∙ (ap (global Gs) same ∙ global_found s.of entry right g (as_among Gs g g_in)))
  global_apart g g_in other (own j j_in on same) =
      let there = as_among (insts_of Fn) j j_in in
      let some = ((inside s entry right Fn in_it).formed j there).result (typed_result j.op (variable_typed j.op on)) in
      no_some g (sym ((inside s entry right Fn in_it).order.own j there some).inside ∙ (ap (global Gs) same ∙ global_found s.of entry right g (as_among Gs g g_in)))

  pub variable_apart : (g : Inst) → IsIn g s.of.globals → is g.op code.Variable ≡ true → (n : ℕ) → g.result ≡ n → (t : Tree) → type_tree s.of.globals (type_of Where n) ≡ Some t → ⊥
  variable_apart g g_in on n same t shaped = shaped_apart n t shaped (outside g g_in on same)

  -- The laws: no path to memory begins with such a name.
  abbrev pub IsUnseenId : ℕ → Type 0
  IsUnseenId n = is_among (names_in (name_of u.claimed) (memory_ids Src Fn) ++ built_in_variables) (text_of (name_of u.claimed) (IdOf (id n))) ≡ false

  pub value_unseen : (n : ℕ) (t : Tree) → type_tree s.of.globals (type_of Where n) ≡ Some t → IsUnseenId n
  value_unseen n t shaped = id_unseen Found u.lawful (memory_ids Src Fn) n (λ there. shaped_apart n t shaped (memory_of n there))

  pub result_unseen : (i : Inst) → IsIn i (insts_of Fn) → (i.result ≡ 0 → ⊥) → is i.op code.Variable ≡ false → IsUnseenId i.result
  result_unseen i i_in some other = id_unseen Found u.lawful (memory_ids Src Fn) i.result (λ there. result_apart i i_in some other (memory_of i.result there))

  pub global_unseen : (g : Inst) → IsIn g s.of.globals → is g.op code.Variable ≡ false → IsUnseenId g.result
  global_unseen g g_in other = id_unseen Found u.lawful (memory_ids Src Fn) g.result (λ there. global_apart g g_in other (memory_of g.result there))
