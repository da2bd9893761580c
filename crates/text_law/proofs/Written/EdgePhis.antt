-- The phis of the block to which a taken edge leads are as the law of edges asks: live ones have variables at the top of the function, and each takes one source from the block where the edge begins.
use Rattle.std.proofs.Common.{◌≡◌, ◌≢◌, ◌&&◌, ◌||◌, not, ℕ, zero, suc, Bool, true, false, List, [], ◌∷◌, ◌+◌, take, cond, Option, Some, is_some, inl, inr, refl, sym, ap, ◌∙◌, subst, arith}
use Rattle.std.specs.Prelude.{flat_map, slice_get, take_while}
use Rattle.std.specs.Option.{option_map_or}
use Rattle.std.specs.List.{list_any, prefix_len}
use Rattle.spv_ops.specs.Opcode.{is, number}
use Rattle.spv_ops.specs.Groups.{is_chain}
use Rattle.spv_ops.specs.declared.Op.{Op}
use Rattle.spv_ops.specs.declared.Op.TheVariants as code
use Rattle.spv_module.specs.declared.inst.Inst.{Inst}
use Rattle.spv_module.specs.declared.inst.Block.{Block}
use Rattle.spv_module.specs.declared.inst.Function.{Function}
use Rattle.spv_types.specs.Tree.{Tree}
use Rattle.spv_types.specs.Types.{type_tree}
use Rattle.spv_index.specs.Locals.{block_in, insts_of, type_in}
use Rattle.conformance.specs.Rules.{Options}
use Rattle.profile_rules.specs.FlowRules.{every_second, has_repeat, are_labels, are_no_predecessors, is_from_elsewhere, breaks_t22}
use Rattle.profile_rules.specs.MemoryRules.{is_pointer}
use Rattle.profile_rules.specs.TypeRows.{is_other}
use Rattle.profile_rules.specs.TypeRules.{is_flow_broken}
use Rattle.spv_index.specs.ValueTypes.{is_no_value_type}
use Rattle.module_semantics.specs.Setting.{Setting}
use Rattle.module_semantics.specs.Steps.{is_phi, phis, source_from}
use Rattle.hoist_plan.specs.declared.form.Form.{Form}
use Rattle.hoist_plan.specs.declared.form.Form.TheVariants.{Gone, Forwarded, Local, Hoisted}
use Rattle.glsl_ast.specs.Tree.{TranslationUnit}
use Rattle.expr_forward.specs.Scope.{Scope}
use Rattle.function_plan.specs.Phis.{is_gone}
use Rattle.function_text.specs.Functions.{FunctionPlan, is_hoisted}
use Rattle.unit_rules.specs.Unit.{IsUnitOf}
use Rattle.list_law.proofs.Tests.{and_off}
use Rattle.agree_law.specs.Agree.{Naming}
use Rattle.agree_law.specs.Blocks.{IsOf}
use Rattle.function_law.specs.Edges.{HaveOwnResults, ArePhisOf}
use Rattle.plan_law.specs.InOrder.{HaveNot, AreApart}
use Rattle.plan_law.proofs.Order.{found}
use Rattle.type_law.proofs.Vectors.{three_off}
use Rattle.typed_law.specs.Conforms.{IsConforming}
use Rattle.typed_law.proofs.Lists.{clash}
use Rattle.typed_law.proofs.Rules.{flow_right}
use Rattle.typed_law.proofs.Values.{inside}
use Rattle.typed_law.proofs.Others.{phi_group}
use Rattle.claim_law.specs.Claimed.{IsIn}
use Rattle.claim_law.proofs.Claim.Listed.{in_flat, at_place}
use Rattle.grammar_law.proofs.Unit.Lists.{as_among}
use Rattle.grammar_law.proofs.Unit.Ways.{HaveKinds, F, V, in_module, ordered}
use Rattle.grammar_law.specs.Formed.{IsFormedFunction}
use Rattle.grammar_law.proofs.Formed.Blocks.{phis_come_first}
use Rattle.grammar_law.proofs.Grammar.PhiNames.{phi_always}
use Rattle.text_law.specs.Names.{is_result, is_value_parameter}
use Rattle.text_law.proofs.Naming.Once.{apart_left, apart_right}
use Rattle.text_law.proofs.Written.EdgeSource.{one_source}
use Rattle.text_law.proofs.Written.PhiLabels.{phi_labels}
use Rattle.text_law.proofs.Written.Expressed.{phi_result, local_no_phi, unnamed_so}

phi_other : (o : Op) → is o code.Phi ≡ true → not (is o code.Variable || is_chain o) ≡ true
unfolding number
phi_other code.Phi on = refl
phi_other o on = cc

hoisted_or_gone : (x : Form) → (x ≡ Local → ⊥) → (x ≡ Forwarded → ⊥) → is_hoisted x ≡ not (is_gone x)
hoisted_or_gone Hoisted local forwarded = refl
hoisted_or_gone Gone local forwarded = refl
hoisted_or_gone Local local forwarded = absurd (local refl)
hoisted_or_gone Forwarded local forwarded = absurd (forwarded refl)

-- the first instructions of a list that are phis
abbrev led_by : Bool → Inst → List Inst → List Inst
led_by true x is = x ∷ take_while is_phi is
led_by false x is = []

first_phis : (x : Inst) (is : List Inst) → take_while is_phi (x ∷ is) ≡ led_by (is_phi x) x is
first_phis x is = by_test (is_phi x)
  where
    by_test : (b : Bool) → take (cond b (1 + prefix_len is_phi is) 0) (x ∷ is) ≡ led_by b x is
    by_test true = let next : 1 + prefix_len is_phi is ≡ suc (prefix_len is_phi is) = omega arith in ap (λ (n : ℕ). take n (x ∷ is)) next
    by_test false = refl

phi_of : (is : List Inst) (i : Inst) → IsOf i (take_while is_phi is) → (is_phi i ≡ true) × IsIn i is
phi_of [] i one = absurd one
phi_of (x ∷ is) i one = by_test (is_phi x) refl (subst (IsOf i) (first_phis x is) one) (λ later. phi_of is i later)
  where
    by_test : (b : Bool) → is_phi x ≡ b → IsOf i (led_by b x is) → (IsOf i (take_while is_phi is) → (is_phi i ≡ true) × IsIn i is) → (is_phi i ≡ true) × IsIn i (x ∷ is)
    by_test true on (inl same) rest = (subst (λ (y : Inst). is_phi y ≡ true) same on, inl same)
    by_test true on (inr later) rest = let w = rest later in (w.0, inr w.1)
    by_test false off one rest = absurd one

-- the results of a block are apart
apart_in : (bs : List Block) (t : ℕ) (block : Block) → AreApart (flat_map (λ (x : Block). x.insts) bs) → slice_get bs t ≡ Some block → AreApart block.insts
apart_in [] t block apart at = cc
apart_in (x ∷ bs) zero block apart at =
    let same : x ≡ block = cc in
    subst (λ (y : Block). AreApart y.insts) same (apart_left x.insts (flat_map (λ (y : Block). y.insts) bs) apart)
apart_in (x ∷ bs) (suc t) block apart at = apart_in bs t block (apart_right x.insts (flat_map (λ (y : Block). y.insts) bs) apart) at

none_of : (id : ℕ) (is : List Inst) → HaveNot id is → (j : Inst) → IsOf j (take_while is_phi is) → id ≢ j.result
none_of id [] none j one = absurd one
none_of id (x ∷ is) none j one = by_test (is_phi x) (subst (IsOf j) (first_phis x is) one) (λ later. none_of id is none.1 j later)
  where
    by_test : (b : Bool) → IsOf j (led_by b x is) → (IsOf j (take_while is_phi is) → id ≢ j.result) → id ≢ j.result
    by_test true (inl same) rest = λ e. none.0 (ap (λ (y : Inst). y.result) same ∙ sym e)
    by_test true (inr later) rest = rest later
    by_test false one rest = absurd one

own_results : (is : List Inst) → AreApart is → ((i : Inst) → IsOf i (take_while is_phi is) → i.result ≡ 0 → ⊥) → HaveOwnResults (take_while is_phi is)
own_results [] apart some = tt
own_results (x ∷ is) apart some = subst HaveOwnResults (sym (first_phis x is)) (by_test (is_phi x) (λ i one. some i (subst (IsOf i) (sym (first_phis x is)) one)) (λ rest. own_results is apart.1 rest))
  where
    by_test : (b : Bool) → ((i : Inst) → IsOf i (led_by b x is) → i.result ≡ 0 → ⊥) → (((i : Inst) → IsOf i (take_while is_phi is) → i.result ≡ 0 → ⊥) → HaveOwnResults (take_while is_phi is)) → HaveOwnResults (led_by b x is)
    by_test true some later = (λ j one. none_of x.result is (apart.0 (some x (inl refl))) j one, later (λ i one. some i (inr one)))
    by_test false some later = tt

module _ (s : Setting) (entry : Option (List ℕ)) (right : IsConforming s.of entry) (kinds : HaveKinds s.of.globals) (o : Options) (unit : TranslationUnit) (u : IsUnitOf s.of o unit) (p : FunctionPlan) (among : IsIn p u.plans) where
  abbrev gs : List Inst
  gs = s.of.globals

  abbrev Fn : Function
  Fn = F s entry right kinds o unit u p among

  abbrev Where : Scope
  Where = V s entry right kinds o unit u p among

  -- a phi of the function, whose type has a shape
  module _ (i : Inst) (there : IsIn i (insts_of Fn)) (phi : is_phi i ≡ true) where
    some : i.result ≡ 0 → ⊥
    some = ((inside s entry right Fn (in_module s entry right kinds o unit u p among)).formed i (as_among (insts_of Fn) i there)).result (phi_result i.op phi)

    -- live ones have variables at the top of the function
    form_so : (t : Tree) → type_tree gs i.ty ≡ Some t → is_hoisted (Where.form i.result) ≡ not (is_gone (Where.form i.result))
    form_so t shaped =
        hoisted_or_gone (Where.form i.result)
        (λ local. clash (sym phi ∙ local_no_phi s entry right kinds o unit u p among i there local))
        (λ forwarded. clash (sym (phi_always i.op phi) ∙ unnamed_so s entry right kinds o unit u p among i there t shaped forwarded))

    outer_so : (t : Tree) → type_tree gs i.ty ≡ Some t → (is_value_parameter gs Fn i.result || (is_hoisted (Where.form i.result) && is_result Fn i.result)) ≡ not (is_gone (Where.form i.result))
    outer_so t shaped =
        let order = ordered s entry right kinds o unit u p among in
        let own = order.own i (as_among (insts_of Fn) i there) some in
        let result : is_result Fn i.result ≡ true = ap (λ (x : Option Inst). option_map_or (λ (y : Inst). not (is y.op code.Variable || is_chain y.op)) x false) (found i (insts_of Fn) order.apart (as_among (insts_of Fn) i there) some) ∙ phi_other i.op phi in
        ap (λ (x : Option ℕ). (is_some x && not (is_pointer gs Fn i.result)) || (is_hoisted (Where.form i.result) && is_result Fn i.result)) own.made
        ∙ (ap (λ (b : Bool). is_hoisted (Where.form i.result) && b) result ∙ (and_true (is_hoisted (Where.form i.result)) ∙ form_so t shaped))
      where
        and_true : (b : Bool) → (b && true) ≡ b
        and_true true = refl
        and_true false = refl

    -- T22: no label stands twice
    once : has_repeat (every_second 1 i.args) ≡ false
    once =
        let b = flow_right s.of entry right Fn (in_module s entry right kinds o unit u p among) i (as_among (insts_of Fn) i there) in
        let off : breaks_t22 s.of.heads gs (type_in gs Fn) Fn b.0 i ≡ false = ap (is_flow_broken s.of Fn b.0 i) (sym (phi_group i.op phi)) ∙ b.1 in
        let parts = three_off (is_no_value_type s.of.heads gs i.ty) (list_any (is_other gs (type_in gs Fn) i.ty) (every_second 0 i.args)) (is_from_elsewhere Fn b.0.label.0 i) off in
        repeat_off Fn b.0.label.0 (every_second 1 i.args) (and_off (are_labels Fn (every_second 1 i.args)) (are_no_predecessors Fn b.0.label.0 (every_second 1 i.args)) parts.2 (phi_labels s.of Fn (ordered s entry right kinds o unit u p among) i (as_among (insts_of Fn) i there) phi))
      where
        repeat_by : (a b c : Bool) → (a || b || c) ≡ false → b ≡ false
        repeat_by a b c off = (three_off a b c off).1

        repeat_off : (f : Function) (label : ℕ) (ls : List ℕ) → are_no_predecessors f label ls ≡ false → has_repeat ls ≡ false
        repeat_off f label ls off = repeat_by _ (has_repeat ls) _ off

  -- the law
  pub phis_are_of : (N : Naming) → ((n : ℕ) → N.is_outer n ≡ (is_value_parameter gs Fn n || (is_hoisted (Where.form n) && is_result Fn n))) → IsFormedFunction Fn → ((k : ℕ) (x : Block) → slice_get Fn.blocks k ≡ Some x → block_in Fn x.label.0 ≡ Some k)
      → ((i : Inst) → IsIn i (insts_of Fn) → is_phi i ≡ true → (t : Tree) × (type_tree gs i.ty ≡ Some t))
      → (b t : ℕ) (from block : Block) → slice_get Fn.blocks b ≡ Some from → slice_get Fn.blocks t ≡ Some block → ((i : Inst) → IsOf i (phis block) → (n : ℕ) × (source_from from.label.0 i.args ≡ Some n)) → ArePhisOf N Where.form Fn b block
  phis_are_of N outer form places shaped b t from block begins leads sources = record {
    from = from;
    there = begins;
    place = places b from begins;
    first = phis_come_first block.insts (form.blocks t block leads);
    apart = own_results block.insts (apart_in Fn.blocks t block (ordered s entry right kinds o unit u p among).apart leads) (λ i one. some i (in_it i one) (phi_of block.insts i one).0);
    outer = λ i one. let k = shaped i (in_it i one) (phi_of block.insts i one).0 in outer i.result ∙ outer_so i (in_it i one) (phi_of block.insts i one).0 k.0 k.1;
    one = λ i one.
        let phi = (phi_of block.insts i one).0 in
        let source = sources i one in
        ((source.0, from.label.0), one_source Fn b from begins (places b from begins) i.args source.0 (once i (in_it i one) phi) source.1);
  }
    where
      in_it : (i : Inst) → IsOf i (phis block) → IsIn i (insts_of Fn)
      in_it i one = in_flat (λ (x : Block). x.insts) Fn.blocks block i (at_place Fn.blocks t block leads) (phi_of block.insts i one).1
