-- What the rules say of chains in a conforming module: so it is with its pointers.
use Rattle.std.proofs.Common.{◌≡◌, ◌<◌, ◌≤◌, ℕ, suc, true, false, List, [], ◌∷◌, drop, length, Option, Some, Contains, not, refl, sym, ap, ◌∙◌, subst, arith}
use Rattle.std.specs.Prelude.{◌⊎◌, option_and_then, slice_index}
use Rattle.std.specs.Option.{option_map_or}
use Rattle.std.specs.List.{list_any}
use Rattle.std.proofs.lemmas.Bool.{not-false}
use Rattle.spv_ops.specs.Opcode.{is, number}
use Rattle.spv_ops.specs.OpGroups.{takes_of, group_of}
use Rattle.spv_ops.specs.Operands.{is_id}
use Rattle.spv_ops.specs.Groups.{is_chain}
use Rattle.spv_ops.specs.Shape.{shape}
use Rattle.spv_ops.specs.declared.Op.{Op}
use Rattle.spv_ops.specs.declared.Op.TheVariants as code
use Rattle.spv_module.specs.Inst.{has_type, has_result}
use Rattle.spv_module.specs.declared.inst.Inst.{Inst}
use Rattle.spv_module.specs.declared.inst.Function.{Function}
use Rattle.spv_types.specs.Tree.{Tree}
use Rattle.spv_types.specs.Types.{type_tree}
use Rattle.spv_decor.specs.Rows.{word}
use Rattle.spv_index.specs.Locals.{insts_of, type_in}
use Rattle.spv_index.specs.Pointers.{storage_class, pointee_of}
use Rattle.profile_rules.specs.Operands.{need, is_there_in}
use Rattle.profile_rules.specs.TypeRows.{is_pointer, is_int, value_fails}
use Rattle.profile_rules.specs.ValueRules.{chain_end, leads_elsewhere, breaks_t6}
use Rattle.conformance.specs.Rules.{Options}
use Rattle.module_semantics.specs.Setting.{Setting}
use Rattle.name_alloc.specs.Naming.{name_of}
use Rattle.glsl_ast.specs.Tree.{Expr, TranslationUnit}
use Rattle.access_paths.specs.Ways.{indexes}
use Rattle.function_text.specs.Functions.{FunctionPlan}
use Rattle.unit_rules.specs.Unit.{IsUnitOf}
use Rattle.list_law.proofs.Lists.{index_get}
use Rattle.type_law.proofs.Vectors.{three_off}
use Rattle.plan_law.specs.InOrder.{IsAmong}
use Rattle.global_law.specs.Chains.{ChainsRise, NoneMakes}
use Rattle.global_law.proofs.Path.Order.{chains_rise}
use Rattle.claim_law.specs.Uses.{UsesExpr}
use Rattle.typed_law.specs.Conforms.{IsConforming}
use Rattle.typed_law.proofs.Lists.{from_zero, at_least}
use Rattle.typed_law.proofs.Rules.{operand_there, value_right, number_right}
use Rattle.typed_law.proofs.Types.{row_is, pointee_shaped}
use Rattle.typed_law.proofs.Values.{inside, local_row, HasType, own_type, type_suits}
use Rattle.typed_law.proofs.Operations.{Facts}
use Rattle.typed_law.proofs.Others.{target_of, typed_some, typed_operand, chain_types}
use Rattle.claim_law.specs.Claimed.{IsIn}
use Rattle.grammar_law.specs.Mentioned.{IsMentioned, IsLinked, IsCaptured}
use Rattle.grammar_law.specs.Words.{words_of, AreOfStructs}
use Rattle.grammar_law.proofs.Unit.Lists.{as_among}
use Rattle.grammar_law.proofs.Unit.Ways.{HaveKinds, F, R, V, in_module, ordered}
use Rattle.grammar_law.proofs.Unit.Chains.{HasWay}
use Rattle.grammar_law.proofs.Unit.Places.{IsRuled, IsRoot, mentioned_way}
use Rattle.grammar_law.proofs.Unit.Indexes.{index_readable}

module _ (s : Setting) (entry : Option (List ℕ)) (right : IsConforming s.of entry) (kinds : HaveKinds s.of.globals) (o : Options) (unit : TranslationUnit) (u : IsUnitOf s.of o unit) (p : FunctionPlan) (among : IsIn p u.plans) (names : List (List ℕ)) (structs : AreOfStructs s.of.globals (name_of u.claimed) names) where
  abbrev Gs : List Inst
  Gs = s.of.globals

  abbrev Fn : Function
  Fn = F s entry right kinds o unit u p among

  abbrev T : ℕ → Option ℕ
  T = type_in s.of.globals Fn

  in_it : Contains s.of.functions Fn
  in_it = in_module s entry right kinds o unit u p among

  module _ (i : Inst) (there : IsAmong i (insts_of Fn)) where
    facts_of : Facts s entry right Fn in_it i there i.op
    facts_of = record {
      value = value_right s.of entry right Fn in_it i there;
      number = number_right s.of entry right Fn in_it i there;
      least = ((inside s entry right Fn in_it).formed i there).least;
      most = ((inside s entry right Fn in_it).formed i there).most;
      has = operand_there (is_there_in s.of Fn i.at) i ((inside s entry right Fn in_it).order.there i there);
    }

    ruled : has_type i.op ≡ true → has_result i.op ≡ true → breaks_t6 Gs T i ≡ false → ((k : ℕ) → k < length i.args → HasType s entry right Fn in_it (slice_index i.args k)) → 0 < length i.args → IsRuled s entry right kinds o unit u p among names structs i
    ruled has results off each some = record {
      some = ((inside s entry right Fn in_it).formed i there).result results;
      based = index_get i.args 0 some;
      typed = chain_types s entry right Fn in_it i there (drop 1 i.args) (behind i.args each);
      leads = target_of s entry right Fn in_it (word i 0) (each 0 some) (three_off (value_fails is_pointer Gs T (word i 0)) (list_any (value_fails is_int Gs T) (drop 1 i.args)) (leads_elsewhere Gs i.ty (option_and_then (storage_class Gs) (T (word i 0))) (chain_end Gs T i)) off).0;
      sound = off;
      own = own_type s entry right Fn in_it i there (typed_some s entry right Fn in_it i there has);
      points = λ points. (
          let g = local_row s entry right Fn in_it i there (typed_some s entry right Fn in_it i there has) in
          let on = not-false (is_pointer g.0) (ap (λ (q : Option Inst). option_map_or (λ (x : Inst). not (is_pointer x)) q false) (sym (row_is s.of entry right i.ty g.0 g.1 (type_suits i.op g.0 g.2))) ∙ points) in
          pointee_shaped s.of entry right i.ty g.0 g.1 on
          );
    }
      where
        behind : (args : List ℕ) → ((k : ℕ) → k < length args → HasType s entry right Fn in_it (slice_index args k)) → (k : ℕ) → k < length (drop 1 args) → HasType s entry right Fn in_it (slice_index (drop 1 args) k)
        behind [] each k less = absurd (omega (arith, less))
        behind (a ∷ args) each k less = each (suc k) (let more : suc k < suc (length args) = omega (arith, less) in more)

    by_op : (c : Op) → i.op ≡ c → is_chain c ≡ true → Facts s entry right Fn in_it i there c → IsRuled s entry right kinds o unit u p among names structs i
    unfolding group_of takes_of need is_id shape number
    by_op code.AccessChain same on facts =
        ruled (subst (λ (c : Op). has_type c ≡ true) (sym same) refl) (subst (λ (c : Op). has_result c ≡ true) (sym same) refl) facts.value (λ k less. typed_operand s entry right Fn in_it i there code.AccessChain facts k less (from_zero k) refl)
        (let many : 1 ≤ length i.args = at_least 1 (length i.args) facts.least in let less : 0 < length i.args = omega (arith, many) in less)
    by_op code.InBoundsAccessChain same on facts =
        ruled (subst (λ (c : Op). has_type c ≡ true) (sym same) refl) (subst (λ (c : Op). has_result c ≡ true) (sym same) refl) facts.value (λ k less. typed_operand s entry right Fn in_it i there code.InBoundsAccessChain facts k less (from_zero k) refl)
        (let many : 1 ≤ length i.args = at_least 1 (length i.args) facts.least in let less : 0 < length i.args = omega (arith, many) in less)
    by_op c same on facts = cc

    pub chain_ruled : is_chain i.op ≡ true → IsRuled s entry right kinds o unit u p among names structs i
    chain_ruled on = by_op i.op refl on facts_of

  pub chains : (i : Inst) → IsIn i (insts_of Fn) → is_chain i.op ≡ true → IsRuled s entry right kinds o unit u p among names structs i
  chains i i_in on = chain_ruled i (as_among (insts_of Fn) i i_in) on

  pub rise : ChainsRise (insts_of Fn)
  rise = chains_rise s.of Fn (ordered s entry right kinds o unit u p among) (λ i i_in on. (chain_ruled i i_in on).some)

  -- where what is read of indexes as globals is written, and roots are named
  pub pointer_way : (reads : (i : Inst) → is_chain i.op ≡ true → (n : ℕ) → IsIn n (indexes i) → (c : ℕ) → IsMentioned Fn (R s entry right kinds o unit u p among) c i n ⊎ IsCaptured (V s entry right kinds o unit u p among) (R s entry right kinds o unit u p among) c i
      → (e : Expr) → (V s entry right kinds o unit u p among).setting.global n ≡ Some e → UsesExpr (words_of s.of.globals (name_of u.claimed) names) e)
      → (roots : (n ty : ℕ) (t : Tree) → NoneMakes n (insts_of Fn) → (c : ℕ) (i : Inst) → IsLinked Fn (R s entry right kinds o unit u p among) c i n → pointee_of Gs Fn n ≡ Some ty → type_tree Gs ty ≡ Some t → IsRoot s entry right kinds o unit u p among names structs n ty t)
      → (b n : ℕ) (i : Inst) → IsMentioned Fn (R s entry right kinds o unit u p among) b i n → is i.op code.Phi ≡ false → (ty : ℕ) (t : Tree) → pointee_of Gs Fn n ≡ Some ty → type_tree Gs ty ≡ Some t → HasWay s entry right Fn o unit u names (V s entry right kinds o unit u p among).setting.global b n
  pointer_way reads roots b n i m no_phi ty t points shaped =
      mentioned_way s entry right kinds o unit u p among names structs chains rise
      (λ j j_in on k k_in c v. index_readable s entry right kinds o unit u p among names structs j (chains j j_in on) k k_in (reads j on k k_in c v)) roots b n i m no_phi ty t points shaped
