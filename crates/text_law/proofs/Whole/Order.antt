-- The functions of a module's text stand in the order of calls: each that a function calls has its text before that function's.
use Rattle.std.proofs.Common.{◌≡◌, ◌<◌, ◌++◌, ℕ, zero, suc, true, List, [], ◌∷◌, length, map, reverse, take, find, append_assoc, Option, Some, None, Contains, inl, inr, refl, sym, ap, ◌∙◌, subst, arith}
use Rattle.std.specs.Prelude.{slice_index, slice_index_or, option_to_list}
use Rattle.std.proofs.lemmas.List.{reverse-append}
use Rattle.std.proofs.lemmas.List.Elements.{Contains-append_left, Contains-append_right}
use Rattle.spv_module.specs.State.{ModuleState}
use Rattle.spv_module.specs.declared.inst.Id.{Id as IdOf}
use Rattle.spv_module.specs.declared.inst.Inst.{Inst}
use Rattle.spv_module.specs.declared.inst.Function.{Function}
use Rattle.spv_index.specs.Locals.{insts_of}
use Rattle.profile_rules.specs.Calls.{Makes, is_call, callee, Calls, Reaches, IsReady, numbers}
use Rattle.profile_rules.specs.Entry.{function_of}
use Rattle.conformance.specs.Rules.{Options}
use Rattle.module_check.specs.Judged.{IsFine}
use Rattle.module_check.specs.ReadFrom.{IsReadFrom}
use Rattle.traces.specs.Invocations.{Invocation}
use Rattle.glsl_ast.specs.Tree.{TranslationUnit}
use Rattle.function_text.specs.Functions.{FunctionPlan, written}
use Rattle.unit_rules.specs.Unit.{has_id, plan_at, in_order, IsUnitOf}
use Rattle.agree_law.specs.Blocks.{IsOf}
use Rattle.call_law.specs.Known.{IsFunctionOf}
use Rattle.function_law.specs.Texts.{FunctionText, IsText}
use Rattle.grammar_law.proofs.Ruled.Ruled.{contains_of}
use Rattle.claim_law.specs.Claimed.{IsIn}
use Rattle.claim_law.proofs.Claim.Listed.{in_left, in_right, in_flat, in_mapped}
use Rattle.grammar_law.proofs.Unit.Lists.{in_either, of_flat}
use Rattle.grammar_law.proofs.Meets.LiveOrGone.{of_mapped}
use Rattle.list_law.proofs.Lists.{map_joined}
use Rattle.text_law.proofs.Naming.Unit.{text, found_plan}
use Rattle.text_law.proofs.Naming.Functions.{contains_call, HasPlan, has_plan, reached_function, called_function, function_found}

-- lists that are turned
in_turned : {A : Type 0} (x : A) (xs : List A) → IsIn x xs → IsIn x (reverse xs)
in_turned x [] among = absurd among
in_turned x (y ∷ xs) (inl same) = subst (IsIn x) (sym (reverse-append (y ∷ []) xs)) (in_right x (reverse xs) (y ∷ []) (inl same))
in_turned x (y ∷ xs) (inr among) = subst (IsIn x) (sym (reverse-append (y ∷ []) xs)) (in_left x (reverse xs) (y ∷ []) (in_turned x xs among))

of_turned : {A : Type 0} (x : A) (xs : List A) → IsIn x (reverse xs) → IsIn x xs
of_turned x [] among = among
of_turned x (y ∷ xs) among = elim (in_either x (reverse xs) (y ∷ []) (subst (IsIn x) (reverse-append (y ∷ []) xs) among)) [
  | inl behind ↦ inr (of_turned x xs behind)
  | inr first ↦ elim first [ inl same ↦ inl same | inr none ↦ absurd none ]
]

is_text : (ts : List FunctionText) (t : FunctionText) → IsIn t ts → IsText t ts
is_text [] t among = absurd among
is_text (u ∷ ts) t (inl same) = inl same
is_text (u ∷ ts) t (inr among) = inr (is_text ts t among)

among_texts : (ts : List FunctionText) (t : FunctionText) → IsText t ts → IsIn t ts
among_texts [] t one = absurd one
among_texts (u ∷ ts) t (inl same) = inl same
among_texts (u ∷ ts) t (inr one) = inr (among_texts ts t one)

-- the parts of a list
taken : (xs ys : List ℕ) → take (length xs) (xs ++ ys) ≡ xs
taken [] ys = refl
taken (x ∷ xs) ys = ap (λ (l : List ℕ). x ∷ l) (taken xs ys)

index_is : (xs ys : List ℕ) (y : ℕ) → slice_index (xs ++ y ∷ ys) (length xs) ≡ y
index_is [] ys y = refl
index_is (x ∷ xs) ys y = index_is xs ys y

before_end : (xs ys : List ℕ) (y : ℕ) → length xs < length (xs ++ y ∷ ys)
before_end [] ys y = let some : 0 < suc (length ys) = omega arith in some
before_end (x ∷ xs) ys y = let less = before_end xs ys y in omega (arith, less)

-- what has a number among those before has an id there
pub with_number : (before : List IdOf) (n : ℕ) → Contains (numbers before) n → (i : IdOf) × IsIn i before × (i.0 ≡ n)
with_number before n there = by_place before there.0 there.1 there.2
  where
    by_place : (is : List IdOf) (k : ℕ) → k < length (numbers is) → slice_index_or (numbers is) k n ≡ n → (i : IdOf) × IsIn i is × (i.0 ≡ n)
    by_place [] k less e = absurd (omega (arith, less))
    by_place (i ∷ is) zero less e = (i, inl refl, e)
    by_place (i ∷ is) (suc k) less e = let w = by_place is k (let low : k < length (numbers is) = omega (arith, less) in low) e in (w.0, inr w.1, w.2)

module _ (bytes : List ℕ) (m : ModuleState) (o : Options) (read : IsReadFrom bytes m) (fine : IsFine m o) (unit : TranslationUnit) (u : IsUnitOf m o unit) (inv : Invocation) where
  abbrev T : FunctionPlan → FunctionText
  T = text m o unit u inv

  -- the texts of the functions with these ids, the last one first
  abbrev pub texts_of : List IdOf → List FunctionText
  texts_of ns = reverse (map T (in_order ns u.plans))

  -- one more function
  in_order_more : (ns : List IdOf) (n : IdOf) (q : FunctionPlan) → find (has_id n) u.plans ≡ Some q → in_order (ns ++ n ∷ []) u.plans ≡ in_order ns u.plans ++ q ∷ []
  in_order_more [] n q at = ap (λ (x : Option FunctionPlan). option_to_list x ++ []) at
  in_order_more (k ∷ ns) n q at = ap (λ (l : List FunctionPlan). plan_at u.plans k ++ l) (in_order_more ns n q at) ∙ sym (append_assoc (plan_at u.plans k) (in_order ns u.plans) (q ∷ []))

  pub texts_more : (ns : List IdOf) (n : IdOf) (q : FunctionPlan) → find (has_id n) u.plans ≡ Some q → texts_of (ns ++ n ∷ []) ≡ T q ∷ texts_of ns
  texts_more ns n q at =
      ap (λ (l : List FunctionPlan). reverse (map T l)) (in_order_more ns n q at)
      ∙ (ap reverse (map_joined T (in_order ns u.plans) (q ∷ [])) ∙ reverse-append (map T (in_order ns u.plans)) (T q ∷ []))

  -- each of them is that of a plan
  pub text_of_plans : (ns : List IdOf) (v : FunctionText) → IsText v (texts_of ns) → (q : FunctionPlan) × IsIn q u.plans × (T q ≡ v)
  text_of_plans ns v one =
      let w = of_mapped T (in_order ns u.plans) v (of_turned v (map T (in_order ns u.plans)) (among_texts (texts_of ns) v one)) in
      let n = of_flat (plan_at u.plans) ns w.0 w.1 in
      (w.0, by_plan n.0 w.0 (find (has_id n.0) u.plans) refl n.2, w.2)
    where
      by_plan : (n : IdOf) (q : FunctionPlan) (x : Option FunctionPlan) → find (has_id n) u.plans ≡ x → IsIn q (option_to_list x) → IsIn q u.plans
      by_plan n q None at among = absurd among
      by_plan n q (Some p) at (inl same) = (found_plan m o unit u inv u.plans n q (at ∙ ap (λ (y : FunctionPlan). Some y) same)).0
      by_plan n q (Some p) at (inr none) = absurd none

  pub text_there : (ns : List IdOf) (k : IdOf) → IsIn k ns → (q : FunctionPlan) → find (has_id k) u.plans ≡ Some q → IsText (T q) (texts_of ns)
  text_there ns k among q at =
      let in_it : IsIn q (in_order ns u.plans) = in_flat (plan_at u.plans) ns k q among (subst (λ (x : Option FunctionPlan). IsIn q (option_to_list x)) (sym at) (inl refl)) in
      is_text (texts_of ns) (T q) (in_turned (T q) (map T (in_order ns u.plans)) (in_mapped T (in_order ns u.plans) q in_it))

  -- a place in the order, with the functions before it
  module _ (before rest : List IdOf) (n : IdOf) (whole : u.order ≡ before ++ n ∷ rest) where
    numbers_are : numbers u.order ≡ numbers before ++ n.0 ∷ numbers rest
    numbers_are = ap numbers whole ∙ map_joined (λ (i : IdOf). i.0) before (n ∷ rest)

    pub ready : IsReady m.functions u.entry (numbers before) n.0
    ready =
        let less : length (numbers before) < length (numbers u.order) = subst (λ (l : List ℕ). length (numbers before) < length l) (sym numbers_are) (before_end (numbers before) (numbers rest) n.0) in
        let next = (u.calls.next (length (numbers before)) less).ready in
        subst (λ (l : List ℕ). IsReady m.functions u.entry l n.0) (ap (take (length (numbers before))) numbers_are ∙ taken (numbers before) (n.0 ∷ numbers rest))
        (subst (IsReady m.functions u.entry (take (length (numbers before)) (numbers u.order))) (ap (λ (l : List ℕ). slice_index l (length (numbers before))) numbers_are ∙ index_is (numbers before) (numbers rest) n.0) next)

    listed : (k : ℕ) → Contains (numbers before) k → Contains (numbers u.order) k
    listed k there = subst (λ (l : List ℕ). Contains l k) (sym numbers_are) (Contains-append_left (numbers before) (n.0 ∷ numbers rest) k there)

    itself_listed : Contains (numbers u.order) n.0
    itself_listed = subst (λ (l : List ℕ). Contains l n.0) (sym numbers_are) (Contains-append_right (numbers before) (n.0 ∷ numbers rest) n.0 (0, (let some : 0 < suc (length (numbers rest)) = omega arith in some), refl))

    -- the function there
    pub there : (f : Function) × IsFunctionOf f m.functions × (f.id.0 ≡ n.0)
    there = reached_function bytes m o read fine unit u n.0 ready.reached

    pub plan_there : HasPlan bytes m o read fine unit u there.0 n
    plan_there = has_plan bytes m o read fine unit u there.0 n there.1 there.2 itself_listed

    -- what it calls stands before it, and is not the entry (M6)
    pub record IsCalled (i : Inst) : Type 0 where
      pub plan : FunctionPlan
      pub among : IsIn plan u.plans
      pub found : function_of m.functions (callee i) ≡ Some (written plan)
      pub before_it : IsText (T plan) (texts_of before)
      pub other : callee i ≡ u.entry → ⊥

    pub callee_there : (i : Inst) → IsOf i (insts_of there.0) → is_call i ≡ true → IsCalled i
    callee_there i i_in on =
        let makes : Makes m.functions n.0 i = (there.0, contains_of m.functions there.0 there.1, there.2, contains_call (insts_of there.0) i i_in on) in
        let calls : Calls m.functions n.0 (callee i) = (i, makes, refl) in
        let g = called_function bytes m o read fine unit u n.0 (callee i) calls in
        let listed_before = ready.callees (callee i) calls in
        let k = with_number before (callee i) listed_before in
        let p = has_plan bytes m o read fine unit u g.0 k.0 g.1 (g.2 ∙ sym k.2) (subst (Contains (numbers u.order)) (sym k.2) (listed (callee i) listed_before)) in
        record {
          plan = p.plan;
          among = p.among;
          found = subst (λ (j : ℕ). function_of m.functions j ≡ Some (written p.plan)) g.2 (function_found bytes m o read fine unit u g.0 g.1 ∙ ap (λ (f : Function). Some f) (sym p.of_it));
          before_it = text_there before k.0 k.1 p.plan p.at;
          other = λ same. fine.later.acyclic i.at (n.0, i, makes, refl, subst (λ (j : ℕ). Reaches (Calls m.functions) j n.0) (sym same) ready.reached);
        }
