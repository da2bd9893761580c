-- No name is declared twice in the body of a planned function: all keys of its variables are apart.
use Rattle.std.proofs.Common.{◌≡◌, ◌<◌, ◌≤◌, ◌+◌, ◌&&◌, ℕ, Bool, true, false, List, [], ◌++◌, length, map, filter, Option, None, inl, inr, refl, sym, ap, ◌∙◌, arith, if◌then◌else◌}
use Rattle.std.specs.List.{range_with_len}
use Rattle.spv_ops.specs.Opcode.{is, number}
use Rattle.spv_ops.specs.OpGroups.{group_of}
use Rattle.spv_ops.specs.Groups.{is_chain}
use Rattle.spv_ops.specs.declared.Op.{Op}
use Rattle.spv_ops.specs.declared.Op.TheVariants as code
use Rattle.spv_module.specs.State.{ModuleState}
use Rattle.spv_module.specs.Lists.{id}
use Rattle.spv_module.specs.declared.inst.Id.{Id as IdOf}
use Rattle.spv_module.specs.declared.inst.Inst.{Inst}
use Rattle.spv_module.specs.declared.inst.Function.{Function}
use Rattle.spv_index.specs.Locals.{insts_of}
use Rattle.structure_rules.specs.Graph.{graph}
use Rattle.switch_ladder.specs.Flags.{needs_again, needs_leave, needs_fell}
use Rattle.conformance.specs.Rules.{Options}
use Rattle.traces.specs.Invocations.{Invocation}
use Rattle.hoist_plan.specs.declared.form.Form.{Form}
use Rattle.hoist_plan.specs.declared.form.Form.TheVariants.{Hoisted}
use Rattle.hoist_plan.specs.Plan.{is_value}
use Rattle.access_paths.specs.Ways.{captured_indexes}
use Rattle.name_alloc.specs.declared.claims.Key.{Key}
use Rattle.name_alloc.specs.declared.claims.Key.TheVariants.{Again, Leave, Fell, Spare}
use Rattle.name_alloc.specs.Naming.{name_of, space_of}
use Rattle.glsl_ast.specs.Tree.{Text, stmts_in, TranslationUnit}
use Rattle.text_rules.specs.Claims.{label}
use Rattle.expr_forward.specs.declared.kinds.InstKind.{InstKind}
use Rattle.expr_forward.specs.declared.kinds.InstKind.TheVariants as kind
use Rattle.expr_forward.specs.Scope.{Scope, globals}
use Rattle.expr_forward.specs.Kinds.{kind_of}
use Rattle.function_plan.specs.Phis.{phi_blocks}
use Rattle.function_text.specs.Functions.{FunctionPlan, written, is_hoisted, body_text}
use Rattle.unit_rules.specs.Translation.{text_of, IsPlanOf}
use Rattle.unit_rules.specs.Unit.{source_of, IsUnitOf}
use Rattle.list_law.proofs.Tests.{not_both}
use Rattle.call_law.specs.Known.{IsFunctionOf}
use Rattle.typed_law.specs.Conforms.{IsConforming}
use Rattle.plan_law.specs.InOrder.{AreApart}
use Rattle.region_law.specs.Leads.{In}
use Rattle.claim_law.specs.Claimed.{IsIn, HasName}
use Rattle.grammar_law.proofs.Unit.Forms.{unmade_gone}
use Rattle.grammar_law.proofs.Unit.Lists.{in_block, in_either, of_filter}
use Rattle.grammar_law.proofs.Meets.LiveOrGone.{of_mapped}
use Rattle.text_law.proofs.Naming.Planned.{flow_number}
use Rattle.text_law.proofs.Naming.Once.{variable_result, chain_result, apart, some_result, no_value, a_value}
use Rattle.text_law.specs.Declarations.{valued, unset, occurs}
use Rattle.text_law.specs.Variables.{of_result, is_spare, is_local, is_local_here, is_hoisted_here, variables, hoisted, locals, index_key, kept_of, kept, flag_key, flags, all_flags, with_value, without_value}
use Rattle.text_law.proofs.Variables.Texts.{occurs_both}
use Rattle.tree_law.proofs.SwitchOrder.{range_apart}
use Rattle.profile_rules.specs.Places.{is_variable}
use Rattle.text_law.proofs.Variables.Blocks.{IsSet}
use Rattle.text_law.proofs.Variables.Plans.{IsKnown, spares, count_both}
use Rattle.text_law.proofs.Variables.Bodies.{body_unset, body_valued}
use Rattle.text_law.proofs.Variables.Named.{AllKeys, all_both, all_flat, all_mapped, are_spares}
use Rattle.text_law.proofs.Variables.Apart.{KeysApart, keys_joined, class, class_space, keys_once, ids_apart, ids_far, locals_apart, local_of, flags_apart_keys, kept_apart}
use Rattle.text_law.proofs.Variables.OnceSpares.{own_label, spares_apart}

-- a variable declares no result
variable_silent : (o : Op) → is o code.Variable ≡ true → kind_of o ≡ kind.Silent
unfolding kind_of group_of number
variable_silent code.Variable on = refl
variable_silent o on = cc

one_form : (x : Form) → is_hoisted x ≡ true → is_local x ≡ true → ⊥
one_form Hoisted a b = cc
one_form x a b = cc

spare_class : (k : Key) → is_spare k ≡ true → class k ≡ 8
spare_class (Spare a b n) on = refl
spare_class k on = cc

-- results, kept indexes, and what control flow needs
abbrev IsResult : Key → Type 0
IsResult k = class k ≡ 1

abbrev IsKept : Key → Type 0
IsKept k = class k ≡ 7

abbrev IsFlow : Key → Type 0
IsFlow k = (4 ≤ class k) × (class k ≡ 7 → ⊥)

flow_of : (k : Key) (n : ℕ) → class k ≡ n → 4 ≤ n → (n ≡ 7 → ⊥) → IsFlow k
flow_of k n at low other = (omega (arith, at, low), λ z. other (sym at ∙ z))

result_flow : (k : Key) → IsResult k → IsFlow k → ⊥
result_flow k a b = let low = b.0 in absurd (omega (arith, a, low))

result_kept : (k : Key) → IsResult k → IsKept k → ⊥
result_kept k a b = absurd (omega (arith, a, b))

-- the keys of a planned function
module _ (p : FunctionPlan) where
  abbrev gs : List Inst
  gs = globals p.scope

  abbrev f : Function
  f = written p

  abbrev form : ℕ → Form
  form = p.scope.form

  abbrev carried : ℕ → Bool
  carried = p.scope.carried

  abbrev flow : List Key
  flow = all_flags gs f form carried ++ spares p

  hoisted_results : AllKeys IsResult (hoisted gs f form carried)
  hoisted_results = all_mapped IsResult of_result (filter (is_hoisted_here gs f form carried) (insts_of f)) (λ i there. refl)

  variable_results : AllKeys IsResult (variables gs f form carried)
  variable_results = all_mapped IsResult of_result (filter is_variable (insts_of f)) (λ i there. refl)

  local_results : AllKeys IsResult (locals gs f form carried)
  local_results k there = let w = local_of gs f form carried f.blocks 0 k there in sym (ap class w.3)

  kept_are : AllKeys IsKept (kept gs f form carried)
  kept_are = all_flat IsKept (kept_of gs f form carried) (insts_of f) (λ i there. by_test i (is_chain i.op && carried i.result))
    where
      by_test : (i : Inst) (q : Bool) → AllKeys IsKept (if q then map (index_key gs f form carried i) (captured_indexes gs i) else [])
      by_test i true = all_mapped IsKept (index_key gs f form carried i) (captured_indexes gs i) (λ n there. refl)
      by_test i false = λ k none. absurd none

  abbrev again : List Key
  again = flags gs f form carried Again (needs_again (graph f))

  abbrev leave : List Key
  leave = flags gs f form carried Leave (needs_leave (graph f))

  abbrev fell : List Key
  fell = flags gs f form carried Fell (needs_fell (graph f) (phi_blocks form f))

  again_class : AllKeys (λ k. class k ≡ 4) again
  again_class = all_mapped (λ k. class k ≡ 4) (flag_key gs f form carried Again) (filter (needs_again (graph f)) (range_with_len 0 (length (graph f)))) (λ b there. refl)

  leave_class : AllKeys (λ k. class k ≡ 5) leave
  leave_class = all_mapped (λ k. class k ≡ 5) (flag_key gs f form carried Leave) (filter (needs_leave (graph f)) (range_with_len 0 (length (graph f)))) (λ b there. refl)

  fell_class : AllKeys (λ k. class k ≡ 6) fell
  fell_class = all_mapped (λ k. class k ≡ 6) (flag_key gs f form carried Fell) (filter (needs_fell (graph f) (phi_blocks form f)) (range_with_len 0 (length (graph f)))) (λ b there. refl)

  spares_class : AllKeys (λ k. class k ≡ 8) (spares p)
  spares_class k there = spare_class k (are_spares p k there)

  flow_are : AllKeys IsFlow flow
  flow_are =
      all_both IsFlow (all_flags gs f form carried) (spares p)
      (all_both IsFlow again (leave ++ fell) (λ k i. flow_of k 4 (again_class k i) (omega arith) (λ z. absurd (omega (arith, z))))
      (all_both IsFlow leave fell (λ k i. flow_of k 5 (leave_class k i) (omega arith) (λ z. absurd (omega (arith, z)))) (λ k i. flow_of k 6 (fell_class k i) (omega arith) (λ z. absurd (omega (arith, z))))))
      (λ k i. flow_of k 8 (spares_class k i) (omega arith) (λ z. absurd (omega (arith, z))))

  -- all are of the space of the whole text
  abbrev IsWhole : Key → Type 0
  IsWhole k = space_of k ≡ None

  result_whole : (k : Key) → IsResult k → IsWhole k
  result_whole k at = class_space k (λ z. absurd (omega (arith, z, at)))

  all_whole : AllKeys IsWhole (without_value gs f form carried ++ with_value gs f form carried (spares p))
  all_whole =
      all_both IsWhole (without_value gs f form carried) (with_value gs f form carried (spares p))
      (all_both IsWhole (hoisted gs f form carried) (kept gs f form carried) (λ k i. result_whole k (hoisted_results k i)) (λ k i. let at = kept_are k i in class_space k (λ z. absurd (omega (arith, z, at)))))
      (all_both IsWhole (variables gs f form carried) (locals gs f form carried ++ flow) (λ k i. result_whole k (variable_results k i))
      (all_both IsWhole (locals gs f form carried) flow (λ k i. result_whole k (local_results k i)) (λ k i. let low = (flow_are k i).0 in class_space k (λ z. absurd (omega (arith, z, low))))))

module _ (m : ModuleState) (o : Options) (unit : TranslationUnit) (u : IsUnitOf m o unit) (inv : Invocation) (p : FunctionPlan) (among : IsIn p u.plans) (entry : Option (List ℕ)) (right : IsConforming m entry) (is_one : IsFunctionOf (written p) m.functions)
    (known : IsKnown p) (plan : IsPlanOf (source_of m o u.entry) (name_of u.claimed) (written p) p)
    (labels : (a b : ℕ) → a < length (written p).blocks → b < length (written p).blocks → label (written p) a ≡ label (written p) b → a ≡ b) where
  abbrev Gs : List Inst
  Gs = globals p.scope

  abbrev F : Function
  F = written p

  abbrev Fm : ℕ → Form
  Fm = p.scope.form

  abbrev Cd : ℕ → Bool
  Cd = p.scope.carried

  abbrev Hs : List Key
  Hs = hoisted Gs F Fm Cd

  abbrev Vs : List Key
  Vs = variables Gs F Fm Cd

  abbrev Ls : List Key
  Ls = locals Gs F Fm Cd

  abbrev Ks : List Key
  Ks = kept Gs F Fm Cd

  insts_apart : AreApart (insts_of F)
  insts_apart = apart m o unit u inv p among entry right is_one

  -- results are not 0
  variable_some : (i : Inst) → IsIn i (insts_of F) → is_variable i ≡ true → i.result ≡ 0 → ⊥
  variable_some i there on = some_result m o unit u inv p among entry right is_one i there (variable_result i.op on)

  hoisted_some : (i : Inst) → IsIn i (insts_of F) → is_hoisted_here Gs F Fm Cd i ≡ true → i.result ≡ 0 → ⊥
  hoisted_some i there on = (a_value m o unit u inv p among entry right is_one i there on).0

  local_some : (i : Inst) → is_local_here Gs F Fm Cd i ≡ true → i.result ≡ 0 → ⊥
  local_some i on zero = not_both (is_local (Fm i.result)) on (ap (λ (n : ℕ). is_local (Fm n)) zero ∙ ap is_local (ap (λ (w : Scope). w.form 0) plan.scope_is ∙ unmade_gone m.globals F plan.links))

  -- a result is of one sort
  variable_local : (i : Inst) → IsIn i (insts_of F) → is_variable i ≡ true → is_local_here Gs F Fm Cd i ≡ true → ⊥
  variable_local i there on local =
      let b = in_block F.blocks i there in
      not_both (is_local (Fm i.result)) local (by_kind (kind_of i.op) (variable_silent i.op on) (known.sets b.0 b.1 b.2 i b.3))
    where
      by_kind : (k : InstKind) → k ≡ kind.Silent → IsSet p.scope i k → is_local (Fm i.result) ≡ false
      by_kind kind.Silent at so = so refl
      by_kind k at so = cc

  hoisted_variable : (i : Inst) → IsIn i (insts_of F) → is_hoisted_here Gs F Fm Cd i ≡ true → is_variable i ≡ true → ⊥
  hoisted_variable i there on also = not_both (is_value m.globals i.ty) (a_value m o unit u inv p among entry right is_one i there on).1 (no_value m o unit u inv p among entry right is_one i there also)

  -- one list of results and the locals
  locals_far : (test : Inst → Bool) → ((i : Inst) → IsIn i (insts_of F) → test i ≡ true → i.result ≡ 0 → ⊥) → ((i : Inst) → IsIn i (insts_of F) → test i ≡ true → is_local_here Gs F Fm Cd i ≡ true → ⊥) → (k : Key) → IsIn k (map of_result (filter test (insts_of F))) → IsIn k Ls → ⊥
  locals_far test some far k l r =
      let i = of_mapped of_result (filter test (insts_of F)) k l in
      let own = of_filter test (insts_of F) i.0 i.1 in
      let j = local_of Gs F Fm Cd F.blocks 0 k r in
      ids_far test (is_local_here Gs F Fm Cd) (insts_of F) insts_apart some far i.0 j.0 own.0 own.1 j.1 j.2 (i.2 ∙ sym j.3)

  hoisted_far : (k : Key) → IsIn k Hs → IsIn k Vs → ⊥
  hoisted_far k l r =
      let i = of_mapped of_result (filter (is_hoisted_here Gs F Fm Cd) (insts_of F)) k l in
      let own = of_filter (is_hoisted_here Gs F Fm Cd) (insts_of F) i.0 i.1 in
      let j = of_mapped of_result (filter is_variable (insts_of F)) k r in
      let other = of_filter is_variable (insts_of F) j.0 j.1 in
      ids_far (is_hoisted_here Gs F Fm Cd) is_variable (insts_of F) insts_apart hoisted_some hoisted_variable i.0 j.0 own.0 own.1 other.0 other.1 (i.2 ∙ sym j.2)

  -- flags and spares
  one_flag : (key : IdOf → Key) → ((n : ℕ) → flow_number (key (id n)) ≡ n) → (a b : ℕ) → In a (range_with_len 0 (length (graph F))) → In b (range_with_len 0 (length (graph F))) → flag_key Gs F Fm Cd key a ≡ flag_key Gs F Fm Cd key b → a ≡ b
  one_flag key tells a b x y same = own_label p known m.globals plan.moves_are labels a b x y (sym (tells (label F a)) ∙ (ap flow_number same ∙ tells (label F b)))

  flag_apart : (key : IdOf → Key) (needs : ℕ → Bool) → ((n : ℕ) → flow_number (key (id n)) ≡ n) → KeysApart (flags Gs F Fm Cd key needs)
  flag_apart key needs tells = flags_apart_keys Gs F Fm Cd key needs (range_with_len 0 (length (graph F))) (range_apart 0 (length (graph F))) (one_flag key tells)

  flow_apart : KeysApart (all_flags Gs F Fm Cd ++ spares p)
  flow_apart =
      keys_joined (all_flags Gs F Fm Cd) (spares p)
      (keys_joined (again p) (leave p ++ fell p) (flag_apart Again (needs_again (graph F)) (λ n. refl))
      (keys_joined (leave p) (fell p) (flag_apart Leave (needs_leave (graph F)) (λ n. refl)) (flag_apart Fell (needs_fell (graph F) (phi_blocks Fm F)) (λ n. refl)) (λ k l r. let a = leave_class p k l in let b = fell_class p k r in absurd (omega (arith, a, b))))
      (λ k l r. let a = again_class p k l in let b = later k r in absurd (omega (arith, a, b))))
      (spares_apart p known m.globals plan.moves_are labels)
      (λ k l r. let a = spares_class p k r in let b = flags_low k l in absurd (omega (arith, a, b)))
    where
      later : AllKeys (λ k. 5 ≤ class k) (leave p ++ fell p)
      later = all_both (λ k. 5 ≤ class k) (leave p) (fell p) (λ k i. let a = leave_class p k i in omega (arith, a)) (λ k i. let a = fell_class p k i in omega (arith, a))

      flags_low : AllKeys (λ k. class k ≤ 6) (all_flags Gs F Fm Cd)
      flags_low =
          all_both (λ k. class k ≤ 6) (again p) (leave p ++ fell p) (λ k i. let a = again_class p k i in omega (arith, a))
          (all_both (λ k. class k ≤ 6) (leave p) (fell p) (λ k i. let a = leave_class p k i in omega (arith, a)) (λ k i. let a = fell_class p k i in omega (arith, a)))

  with_apart : KeysApart (with_value Gs F Fm Cd (spares p))
  with_apart =
      keys_joined Vs (Ls ++ flow p) (ids_apart is_variable (insts_of F) insts_apart variable_some)
      (keys_joined Ls (flow p) (locals_apart Gs F Fm Cd F.blocks 0 insts_apart local_some) flow_apart (λ k l r. result_flow k (local_results p k l) (flow_are p k r)))
      (λ k l r. elim (in_either k Ls (flow p) r) [
        | inl here ↦ locals_far is_variable variable_some variable_local k l here
        | inr there ↦ result_flow k (variable_results p k l) (flow_are p k there)
      ])

  without_apart : KeysApart (without_value Gs F Fm Cd)
  without_apart =
      keys_joined Hs Ks (ids_apart (is_hoisted_here Gs F Fm Cd) (insts_of F) insts_apart hoisted_some)
      (kept_apart Gs F Fm Cd (insts_of F) insts_apart (λ i there chain. some_result m o unit u inv p among entry right is_one i there (chain_result i.op chain)))
      (λ k l r. result_kept k (hoisted_results p k l) (kept_are p k r))

  all_apart : KeysApart (without_value Gs F Fm Cd ++ with_value Gs F Fm Cd (spares p))
  all_apart = keys_joined (without_value Gs F Fm Cd) (with_value Gs F Fm Cd (spares p)) without_apart with_apart (λ k l r. elim (in_either k Hs Ks l) [
    | inl one ↦ elim (in_either k Vs (Ls ++ flow p) r) [
      | inl here ↦ hoisted_far k one here
      | inr later ↦ elim (in_either k Ls (flow p) later) [
        | inl here ↦ locals_far (is_hoisted_here Gs F Fm Cd) hoisted_some (λ i there a b. one_form (Fm i.result) a b) k one here
        | inr there ↦ result_flow k (hoisted_results p k one) (flow_are p k there)
      ]
    ]
    | inr two ↦ elim (in_either k Vs (Ls ++ flow p) r) [
      | inl here ↦ result_kept k (variable_results p k here) (kept_are p k two)
      | inr later ↦ elim (in_either k Ls (flow p) later) [
        | inl here ↦ result_kept k (local_results p k here) (kept_are p k two)
        | inr there ↦ (flow_are p k there).1 (kept_are p k two)
      ]
    ]
  ])

  -- The law: no name is declared twice.
  pub declared_once : AllKeys (HasName (name_of u.claimed)) (without_value Gs F Fm Cd ++ with_value Gs F Fm Cd (spares p)) → (x : Text) → occurs x (unset (stmts_in (body_text p)) ++ valued (stmts_in (body_text p))) ≤ 1
  declared_once named x =
      let ks : List Key = without_value Gs F Fm Cd ++ with_value Gs F Fm Cd (spares p) in
      let a : occurs x (unset (stmts_in (body_text p))) ≡ occurs x (map p.scope.setting.key (without_value Gs F Fm Cd)) = ap (occurs x) (body_unset p) in
      let b : occurs x (valued (stmts_in (body_text p))) ≡ occurs x (map p.scope.setting.key (with_value Gs F Fm Cd (spares p))) = body_valued p known x in
      let c = occurs_both x (unset (stmts_in (body_text p))) (valued (stmts_in (body_text p))) in
      let d : occurs x (map p.scope.setting.key ks) ≡ occurs x (map p.scope.setting.key (without_value Gs F Fm Cd)) + occurs x (map p.scope.setting.key (with_value Gs F Fm Cd (spares p))) = count_both x p.scope.setting.key (without_value Gs F Fm Cd) (with_value Gs F Fm Cd (spares p)) in
      let e : occurs x (map (text_of (name_of u.claimed)) ks) ≤ 1 = keys_once (name_of u.claimed) u.lawful x ks all_apart (λ k i. (named k i, all_whole p k i)) in
      let key_is : occurs x (map p.scope.setting.key ks) ≡ occurs x (map (text_of (name_of u.claimed)) ks) = ap (λ (w : Scope). occurs x (map w.setting.key ks)) plan.scope_is in
      omega (arith, a, b, c, d, e, key_is)
