-- No name is declared twice at the top of a planned function of a conforming module: each declaration has the name of a key of its own.
use Rattle.std.proofs.Common.{◌≡◌, ◌≤◌, ◌+◌, ◌==◌, ◌&&◌, ◌||◌, not, ℕ, Bool, true, false, List, [], ◌∷◌, ◌++◌, map, filter, fold, unwrap_or, Option, Some, None, inl, inr, refl, sym, ap, ◌∙◌, subst, if◌then◌else◌, arith}
use Rattle.std.specs.Prelude.{◌⊎◌, flat_map, Contains}
use Rattle.std.specs.Option.{option_map_or}
use Rattle.std.specs.List.{enumerate_from}
use Rattle.std.proofs.lemmas.Bool.{and_parts, or_right}
use Rattle.std.proofs.lemmas.Bool.Decides.{eqb_tells}
use Rattle.std.proofs.lemmas.Option.{same_Some}
use Rattle.std.proofs.lemmas.Grind.{flat_map-append}
use Rattle.spv_ops.specs.Opcode.{is}
use Rattle.spv_ops.specs.Groups.{is_chain}
use Rattle.spv_ops.specs.declared.Op.{Op}
use Rattle.spv_ops.specs.declared.Op.TheVariants as code
use Rattle.spv_module.specs.State.{ModuleState}
use Rattle.spv_module.specs.Inst.{has_result}
use Rattle.spv_module.specs.Lists.{id}
use Rattle.spv_module.specs.declared.inst.Inst.{Inst}
use Rattle.spv_module.specs.declared.inst.Block.{Block}
use Rattle.spv_module.specs.declared.inst.Function.{Function}
use Rattle.spv_index.specs.Locals.{insts_of}
use Rattle.conformance.specs.Rules.{Options}
use Rattle.traces.specs.Invocations.{Invocation}
use Rattle.hoist_plan.specs.declared.form.Form.{Form}
use Rattle.hoist_plan.specs.declared.form.Form.TheVariants.{Gone, Forwarded, Hoisted}
use Rattle.hoist_plan.specs.Plan.{Placed, Known, result_of, results_of_block, results, mentions_of, is_live, has_type as has_type_by, is_value, is_named, form_by, form_with, with_told, with_result, nothing, form}
use Rattle.use_chains.specs.Links.{Link}
use Rattle.access_paths.specs.Ways.{is_constant_index, indexes}
use Rattle.name_alloc.specs.declared.claims.Key.{Key}
use Rattle.name_alloc.specs.declared.claims.Key.TheVariants.{Id, Captured}
use Rattle.glsl_ast.specs.Tree.{Text, TranslationUnit}
use Rattle.expr_forward.specs.Scope.{Scope, globals}
use Rattle.expr_forward.specs.Statements.{captured_of}
use Rattle.function_text.specs.Functions.{FunctionPlan, written, is_hoisted_in}
use Rattle.unit_rules.specs.Translation.{plan_scope}
use Rattle.unit_rules.specs.Unit.{source_of, IsUnitOf}
use Rattle.module_semantics.specs.Setting.{Setting}
use Rattle.list_law.proofs.Tests.{no_flip}
pub use Rattle.grammar_law.proofs.Formed.Pointing.{chain_result}
use Rattle.agree_law.specs.Agree.{Naming}
use Rattle.call_law.specs.Known.{IsFunctionOf}
use Rattle.function_law.specs.Tops.{Top, IsNoTop, AreOnceTops, AreTops}
use Rattle.function_law.proofs.PlannedText.{variable_top, hoisted_top, index_top, variable_tops, hoisted_tops, index_tops}
use Rattle.plan_law.specs.InOrder.{HaveNot, AreApart}
use Rattle.typed_law.specs.Conforms.{IsConforming}
use Rattle.typed_law.proofs.Values.{inside, local_row, variable_type_is, typed_result}
use Rattle.typed_law.proofs.Others.{typed_some}
use Rattle.grammar_law.proofs.Ruled.Ruled.{contains_of, variable_has}
use Rattle.claim_law.specs.Claimed.{IsIn}
use Rattle.claim_law.proofs.Claim.Listed.{in_flat}
use Rattle.claim_law.proofs.Claim.Apart.{same_number}
use Rattle.grammar_law.proofs.Unit.Lists.{in_either, of_filter, of_flat, as_among}
use Rattle.grammar_law.proofs.Meets.LiveOrGone.{of_mapped}
use Rattle.profile_rules.specs.Places.{is_variable}
use Rattle.text_law.specs.Alone.{AreAlone}
use Rattle.text_law.proofs.Naming.Alone.{are_alone}
use Rattle.text_law.proofs.Naming.Keys.{S, found as names_found, names, hoisted_is}
use Rattle.text_law.proofs.Naming.Tops.{no_top, no_chain_key, tops as tops_in, planned as planned_in, variable_name, hoisted_name, index_name, variable_of, hoisted_of, index_of, tops_are}

-- what has a variable at the top is a value, and a result of the function
module _ (gs : List Inst) (f : Function) where
  is_told : (named : Bool) (p : Placed) → form_by f named p ≡ Hoisted → named ≡ true
  is_told true p e = refl
  is_told false p e = by_test (is_live p) e
    where
      by_test : (b : Bool) → (if b then Forwarded else Gone) ≡ Hoisted → false ≡ true
      by_test true e = cc
      by_test false e = cc

  some_form : (t : ℕ → Option Form) (r : ℕ) (x : Form) (n : ℕ) → with_told t r x n ≡ Some Hoisted → ((r ≡ n) × (x ≡ Hoisted)) ⊎ (t n ≡ Some Hoisted)
  some_form t r x n e = by_test (r == n) (eqb_tells r n) e
    where
      by_test : (b : Bool) → ((b ≡ true) × (r ≡ n)) ⊎ ((b ≡ false) × (r ≡ n → ⊥)) → elim b [ true ↦ Some x | false ↦ t n ] ≡ Some Hoisted → ((r ≡ n) × (x ≡ Hoisted)) ⊎ (t n ≡ Some Hoisted)
      by_test true (inl w) e = inl (w.1, same_Some x Hoisted e)
      by_test true (inr w) e = let off = w.0 in cc
      by_test false w e = inr e

  hoisted_from : (ps : List Placed) (k : Known) (n : ℕ) → (fold (with_result gs f) k ps).forms n ≡ Some Hoisted → (k.forms n ≡ Some Hoisted) ⊎ ((p : Placed) × IsIn p ps × (p.result ≡ n) × (is_value gs p.ty ≡ true))
  hoisted_from [] k n e = inl e
  hoisted_from (p ∷ ps) k n e = elim (hoisted_from ps (with_result gs f k p) n e) [
    | inr w ↦ inr (w.0, inr w.1, w.2, w.3)
    | inl here ↦ elim (some_form k.forms p.result (form_with gs f k.operands p) n here) [
      | inl w ↦ inr (p, inl refl, w.0, (and_parts (is_value gs p.ty) _ (is_told (is_named gs f k.operands p) p w.1)).0)
      | inr old ↦ inl old
    ]
  ]

  known_form : (o : Option Form) → unwrap_or o Gone ≡ Hoisted → o ≡ Some Hoisted
  known_form None e = cc
  known_form (Some x) e = ap (λ (y : Form). Some y) e

  of_numbered : (bs : List Block) (from : ℕ) (x : ℕ × Block) → IsIn x (enumerate_from from bs) → IsIn x.1 bs
  of_numbered [] from x there = absurd there
  of_numbered (b ∷ bs) from x (inl same) = inl (ap (λ (q : ℕ × Block). q.1) same)
  of_numbered (b ∷ bs) from x (inr there) = inr (of_numbered bs (from + 1) x there)

  abbrev own : List Link → ℕ → Inst → Placed
  own links k i = record { block = k; op = i.op; ty = i.ty; result = i.result; mentions = mentions_of links i.result }

  of_result : (links : List Link) (k : ℕ) (i : Inst) (p : Placed) → IsIn p (result_of links k i) → (i.result ≡ p.result) × (i.ty ≡ p.ty) × (i.result ≡ 0 → ⊥)
  of_result links k i p there = by_test (i.result == 0) (eqb_tells i.result 0) there
    where
      by_test : (b : Bool) → ((b ≡ true) × (i.result ≡ 0)) ⊎ ((b ≡ false) × (i.result ≡ 0 → ⊥)) → IsIn p (if b then [] else own links k i ∷ []) → (i.result ≡ p.result) × (i.ty ≡ p.ty) × (i.result ≡ 0 → ⊥)
      by_test true w there = absurd there
      by_test false (inl w) there = let on = w.0 in cc
      by_test false (inr w) (inl same) = (ap (λ (x : Placed). x.result) same, ap (λ (x : Placed). x.ty) same, w.1)
      by_test false (inr w) (inr never) = absurd never

  hoisted_inst : (links : List Link) (n : ℕ) → form (record { globals = gs; function = f; links = links }) n ≡ Hoisted → (i : Inst) × IsIn i (insts_of f) × (i.result ≡ n) × (i.result ≡ 0 → ⊥) × (is_value gs i.ty ≡ true)
  hoisted_inst links n e = elim (hoisted_from (results links f) nothing n (known_form _ e)) [
    | inl never ↦ (let no : None ≡ Some Hoisted = never in cc)
    | inr p ↦
        let b = of_flat (results_of_block links) (enumerate_from 0 f.blocks) p.0 p.1 in
        let i = of_flat (result_of links b.0.0) b.0.1.insts p.0 b.2 in
        let w = of_result links b.0.0 i.0 p.0 i.2 in
        (i.0, in_flat (λ (x : Block). x.insts) f.blocks b.0.1 i.0 (of_numbered f.blocks 0 b.0 b.1) i.1, w.0 ∙ p.2, w.2, subst (λ ty. is_value gs ty ≡ true) (sym w.1) p.3)
  ]

-- each result is that of one instruction
pub have_not : (id : ℕ) (is : List Inst) (j : Inst) → HaveNot id is → IsIn j is → j.result ≡ id → ⊥
have_not id [] j none there same = there
have_not id (x ∷ is) j none (inl here) same = none.0 (ap (λ (y : Inst). y.result) here ∙ same)
have_not id (x ∷ is) j none (inr there) same = have_not id is j none.1 there same

pub one_inst : (is : List Inst) (i j : Inst) → AreApart is → IsIn i is → IsIn j is → i.result ≡ j.result → (i.result ≡ 0 → ⊥) → i ≡ j
one_inst [] i j apart a b same some = absurd a
one_inst (x ∷ is) i j apart (inl a) (inl b) same some = sym a ∙ b
one_inst (x ∷ is) i j apart (inl a) (inr b) same some =
    absurd (have_not x.result is j (apart.0 (λ z. some (ap (λ (y : Inst). y.result) (sym a) ∙ z))) b (sym same ∙ ap (λ (y : Inst). y.result) (sym a)))
one_inst (x ∷ is) i j apart (inr a) (inl b) same some =
    absurd (have_not x.result is i (apart.0 (λ z. some (same ∙ (ap (λ (y : Inst). y.result) (sym b) ∙ z)))) a (same ∙ ap (λ (y : Inst). y.result) (sym b)))
one_inst (x ∷ is) i j apart (inr a) (inr b) same some = one_inst is i j apart.1 a b same some

-- parts of a list whose results are apart
have_left : (n : ℕ) (xs ys : List Inst) → HaveNot n (xs ++ ys) → HaveNot n xs
have_left n [] ys none = tt
have_left n (x ∷ xs) ys none = (none.0, have_left n xs ys none.1)

pub apart_left : (xs ys : List Inst) → AreApart (xs ++ ys) → AreApart xs
apart_left [] ys apart = tt
apart_left (x ∷ xs) ys apart = ((λ some. have_left x.result xs ys (apart.0 some)), apart_left xs ys apart.1)

pub apart_right : (xs ys : List Inst) → AreApart (xs ++ ys) → AreApart ys
apart_right [] ys apart = apart
apart_right (x ∷ xs) ys apart = apart_right xs ys apart.1

-- lists of declarations that are put together
none_joined : (x : Text) (ts us : List Top) → IsNoTop x ts → IsNoTop x us → IsNoTop x (ts ++ us)
none_joined x [] us a b = b
none_joined x (t ∷ ts) us a b = (a.0, none_joined x ts us a.1 b)

once_joined : (ts us : List Top) → AreOnceTops ts → AreOnceTops us → ((t u : Top) → IsIn t ts → IsIn u us → t.name ≡ u.name → ⊥) → AreOnceTops (ts ++ us)
once_joined [] us a b far = b
once_joined (t ∷ ts) us a b far =
    (none_joined t.name ts us a.0 (no_top t.name us (λ u there same. far t u (inl refl) there (sym same))), once_joined ts us a.1 b (λ v u x y same. far v u (inr x) y same))

flat_blocks : (h : Block → List Top) (g : Inst → List Top) (bs : List Block) → ((b : Block) → h b ≡ flat_map g b.insts) → flat_map h bs ≡ flat_map g (flat_map (λ (b : Block). b.insts) bs)
flat_blocks h g [] same = refl
flat_blocks h g (b ∷ bs) same =
    ap (λ l. l ++ flat_map h bs) (same b) ∙ (ap (λ l. flat_map g b.insts ++ l) (flat_blocks h g bs same) ∙ sym (flat_map-append g b.insts (flat_map (λ (c : Block). c.insts) bs)))

abbrev one_if : (Inst → Bool) → (Inst → Top) → Inst → List Top
one_if test top i = if test i then top i ∷ [] else []

filtered_flat : (test : Inst → Bool) (top : Inst → Top) (is : List Inst) → map top (filter test is) ≡ flat_map (one_if test top) is
filtered_flat test top [] = refl
filtered_flat test top (i ∷ is) = by_test (test i) (filtered_flat test top is)
  where
    by_test : (b : Bool) → map top (filter test is) ≡ flat_map (one_if test top) is → map top (if b then i ∷ filter test is else filter test is) ≡ (if b then top i ∷ [] else []) ++ flat_map (one_if test top) is
    by_test true e = ap (λ l. top i ∷ l) e
    by_test false e = e

-- no two instructions have the names of one key
module _ (IsKeyOf : Inst → Text → Type 0) (tells : (i j : Inst) (x : Text) → IsKeyOf i x → IsKeyOf j x → i.result ≡ j.result) where
  abbrev IsOfIts : (Inst → List Top) → Inst → Type 0
  IsOfIts g i = AreOnceTops (g i) × ((t : Top) → IsIn t (g i) → (i.result ≡ 0 → ⊥) × IsKeyOf i t.name)

  once_flat : (g : Inst → List Top) (is : List Inst) → AreApart is → ((i : Inst) → IsIn i is → IsOfIts g i) → AreOnceTops (flat_map g is)
  once_flat g [] apart each = tt
  once_flat g (i ∷ is) apart each =
      once_joined (g i) (flat_map g is) (each i (inl refl)).0 (once_flat g is apart.1 (λ j there. each j (inr there))) (λ t u a b same.
      let j = of_flat g is u b in
      let mine = (each i (inl refl)).1 t a in
      let other = (each j.0 (inr j.1)).1 u j.2 in
      have_not i.result is j.0 (apart.0 mine.0) j.1 (tells j.0 i u.name other.1 (subst (IsKeyOf i) same mine.1)))

  once_filtered : (test : Inst → Bool) (top : Inst → Top) (i : Inst) → (test i ≡ true → (i.result ≡ 0 → ⊥) × IsKeyOf i (top i).name) → IsOfIts (one_if test top) i
  once_filtered test top i has = by_test (test i) refl
    where
      by_test : (b : Bool) → test i ≡ b → AreOnceTops (if b then top i ∷ [] else []) × ((t : Top) → IsIn t (if b then top i ∷ [] else []) → (i.result ≡ 0 → ⊥) × IsKeyOf i t.name)
      by_test false off = (tt, λ t there. absurd there)
      by_test true on = (
        (tt, tt),
        λ t there. elim there [
          | inl same ↦ let w = has on in (w.0, subst (λ (x : Top). IsKeyOf i x.name) same w.1)
          | inr never ↦ absurd never
        ],
      )

pub variable_result : (o : Op) → is o code.Variable ≡ true → has_result o ≡ true
variable_result o on = typed_result o (variable_has o on)

pub number_from : (xs : List ℕ) (from : ℕ) (n : ℕ × ℕ) → IsIn n (enumerate_from from xs) → from ≤ n.0
number_from [] from n there = absurd there
number_from (x ∷ xs) from n (inl same) = let here : from ≡ n.0 = ap (λ (q : ℕ × ℕ). q.0) same in omega (arith, here)
number_from (x ∷ xs) from n (inr there) = let later = number_from xs (from + 1) n there in omega (arith, later)

abbrev captured_number : Key → ℕ
captured_number (Captured q k) = k
captured_number _ = 0

abbrev captured_id : Key → ℕ
captured_id (Captured q k) = q.0
captured_id _ = 0

module _ (m : ModuleState) (o : Options) (unit : TranslationUnit) (u : IsUnitOf m o unit) (inv : Invocation) (p : FunctionPlan) (among : IsIn p u.plans) (entry : Option (List ℕ)) (right : IsConforming m entry) (is_one : IsFunctionOf (written p) m.functions) where
  abbrev s : Setting
  s = S m o unit u inv

  abbrev found : Key → Option Text
  found = names_found m o unit u inv

  abbrev N : Naming
  N = names m o unit u inv p

  abbrev f : Function
  f = written p

  pub alone : AreAlone m.globals f
  alone = are_alone s entry right f is_one

  abbrev tops : List Top
  tops = tops_in m o unit u inv p among alone

  in_it : Contains m.functions f
  in_it = contains_of m.functions f is_one

  pub apart : AreApart (insts_of f)
  apart = (inside s entry right f in_it).order.apart

  pub some_result : (i : Inst) → IsIn i (insts_of f) → has_result i.op ≡ true → i.result ≡ 0 → ⊥
  some_result i there has = ((inside s entry right f in_it).formed i (as_among (insts_of f) i there)).result has

  -- a variable is no value, and what is declared without a value is one
  pub no_value : (i : Inst) → IsIn i (insts_of f) → is_variable i ≡ true → is_value m.globals i.ty ≡ false
  no_value i there on =
      let here = as_among (insts_of f) i there in
      let g = local_row s entry right f in_it i here (typed_some s entry right f in_it i here (variable_has i.op on)) in
      let pointer : has_type_by m.globals code.TypePointer i.ty ≡ true = ap (λ (x : Option Inst). option_map_or (λ (y : Inst). is y.op code.TypePointer) x false) g.1 ∙ variable_type_is i.op g.0 on g.2 in
      ap (λ (t : Bool). not (has_type_by m.globals code.TypeVoid i.ty || t)) pointer ∙ ap not (or_right (has_type_by m.globals code.TypeVoid i.ty) true refl)

  pub a_value : (i : Inst) → IsIn i (insts_of f) → is_hoisted_in p.scope i ≡ true → (i.result ≡ 0 → ⊥) × (is_value m.globals i.ty ≡ true)
  a_value i there on =
      let planned = planned_in m o unit u inv p among alone in
      let form_is : form (plan_scope (source_of m o u.entry) planned.0 planned.1.links) i.result ≡ Hoisted = sym (ap (λ (w : Scope). w.form i.result) planned.1.scope_is) ∙ hoisted_is (p.scope.form i.result) on in
      let j = hoisted_inst m.globals planned.0 planned.1.links i.result form_is in
      let inside_it = subst (λ (g : Function). IsIn j.0 (insts_of g)) (sym (ap (λ (w : Scope). w.setting.function) planned.1.scope_is)) j.1 in
      let same = one_inst (insts_of f) j.0 i apart inside_it there j.2 j.3 in
      (λ zero_is. j.3 (j.2 ∙ zero_is), subst (λ (x : Inst). is_value m.globals x.ty ≡ true) same j.4)

  -- a name is that of one key
  abbrev IsNamedBy : Inst → Text → Type 0
  IsNamedBy i x = found (Id (id i.result)) ≡ Some x

  abbrev IsKeptBy : Inst → Text → Type 0
  IsKeptBy i x = (k : ℕ) × (found (Captured (id i.result) k) ≡ Some x)

  named_tells : (i j : Inst) (x : Text) → IsNamedBy i x → IsNamedBy j x → i.result ≡ j.result
  named_tells i j x a b = same_number i.result j.result (u.lawful.apart (Id (id i.result)) (Id (id j.result)) x refl a b)

  kept_tells : (i j : Inst) (x : Text) → IsKeptBy i x → IsKeptBy j x → i.result ≡ j.result
  kept_tells i j x a b = ap captured_id (u.lawful.apart (Captured (id i.result) a.0) (Captured (id j.result) b.0) x refl a.1 b.1)

  -- variables
  variables_flat : flat_map (variable_tops p.scope N s) f.blocks ≡ flat_map (one_if is_variable (variable_top p.scope N s)) (insts_of f)
  variables_flat = flat_blocks (variable_tops p.scope N s) (one_if is_variable (variable_top p.scope N s)) f.blocks (λ b. filtered_flat is_variable (variable_top p.scope N s) b.insts)

  variables_once : AreOnceTops (flat_map (variable_tops p.scope N s) f.blocks)
  variables_once = subst AreOnceTops (sym variables_flat) (once_flat IsNamedBy named_tells (one_if is_variable (variable_top p.scope N s)) (insts_of f) apart (λ i there.
      once_filtered IsNamedBy named_tells is_variable (variable_top p.scope N s) i (λ on. (some_result i there (variable_result i.op on), variable_name m o unit u inv p among alone i there on))))

  -- results
  hoisted_flat : flat_map (hoisted_tops p.scope N s) f.blocks ≡ flat_map (one_if (is_hoisted_in p.scope) (hoisted_top p.scope N s)) (insts_of f)
  hoisted_flat = flat_blocks (hoisted_tops p.scope N s) (one_if (is_hoisted_in p.scope) (hoisted_top p.scope N s)) f.blocks (λ b. filtered_flat (is_hoisted_in p.scope) (hoisted_top p.scope N s) b.insts)

  hoisted_once : AreOnceTops (flat_map (hoisted_tops p.scope N s) f.blocks)
  hoisted_once = subst AreOnceTops (sym hoisted_flat) (once_flat IsNamedBy named_tells (one_if (is_hoisted_in p.scope) (hoisted_top p.scope N s)) (insts_of f) apart (λ i there.
      once_filtered IsNamedBy named_tells (is_hoisted_in p.scope) (hoisted_top p.scope N s) i (λ on. ((a_value i there on).0, hoisted_name m o unit u inv p among alone i there on))))

  -- kept indexes
  abbrev indexes_of : Inst → List Top
  indexes_of i = map (index_top p.scope N s i) (captured_of p.scope i)

  abbrev AreNumbered : Inst → List (ℕ × ℕ) → Type 0
  AreNumbered i ns = (n : ℕ × ℕ) → IsIn n ns → found (Captured (id i.result) n.0) ≡ Some (p.scope.setting.key (Captured (id i.result) n.0))

  numbers_once : (i : Inst) (from : ℕ) (xs : List ℕ) (test : ℕ × ℕ → Bool) → AreNumbered i (filter test (enumerate_from from xs)) → AreOnceTops (map (index_top p.scope N s i) (filter test (enumerate_from from xs)))
  numbers_once i from [] test named = tt
  numbers_once i from (x ∷ xs) test named = by_test (test (from, x)) named (numbers_once i (from + 1) xs test)
    where
      by_test : (b : Bool) → AreNumbered i (if b then (from, x) ∷ filter test (enumerate_from (from + 1) xs) else filter test (enumerate_from (from + 1) xs))
          → (AreNumbered i (filter test (enumerate_from (from + 1) xs)) → AreOnceTops (map (index_top p.scope N s i) (filter test (enumerate_from (from + 1) xs))))
          → AreOnceTops (map (index_top p.scope N s i) (if b then (from, x) ∷ filter test (enumerate_from (from + 1) xs) else filter test (enumerate_from (from + 1) xs)))
      by_test false named rest = rest named
      by_test true named rest = (
        no_top (p.scope.setting.key (Captured (id i.result) from)) (map (index_top p.scope N s i) (filter test (enumerate_from (from + 1) xs))) (λ t there same.
            let n = of_mapped (index_top p.scope N s i) (filter test (enumerate_from (from + 1) xs)) t there in
            let later = number_from xs (from + 1) n.0 (of_filter test (enumerate_from (from + 1) xs) n.0 n.1).0 in
            let its : found (Captured (id i.result) n.0.0) ≡ Some (p.scope.setting.key (Captured (id i.result) from)) = named n.0 (inr n.1) ∙ ap (λ (y : Text). Some y) (ap (λ (y : Top). y.name) n.2 ∙ same) in
            let number : n.0.0 ≡ from = ap captured_number (u.lawful.apart (Captured (id i.result) n.0.0) (Captured (id i.result) from) (p.scope.setting.key (Captured (id i.result) from)) refl its (named (from, x) (inl refl))) in
            omega (arith, later, number)),
        rest (λ n there. named n (inr there)),
      )

  abbrev some_of : Inst → Bool → List (ℕ × ℕ)
  some_of i b = if b then filter (λ (n : ℕ × ℕ). not (is_constant_index (globals p.scope) n.1)) (enumerate_from 0 (indexes i)) else []

  its_indexes : (i : Inst) → IsIn i (insts_of f) → IsOfIts IsKeptBy kept_tells indexes_of i
  its_indexes i there = by_test (is_chain i.op && p.scope.carried i.result) refl (λ n one. index_name m o unit u inv p among alone i n there one)
    where
      by_test : (b : Bool) → (is_chain i.op && p.scope.carried i.result) ≡ b → AreNumbered i (some_of i b)
          → AreOnceTops (map (index_top p.scope N s i) (some_of i b)) × ((t : Top) → IsIn t (map (index_top p.scope N s i) (some_of i b)) → (i.result ≡ 0 → ⊥) × IsKeptBy i t.name)
      by_test false off named = (tt, λ t one. absurd one)
      by_test true on named = (
        numbers_once i 0 (indexes i) (λ (n : ℕ × ℕ). not (is_constant_index (globals p.scope) n.1)) named,
        λ t one.
            let n = of_mapped (index_top p.scope N s i) (some_of i true) t one in
            (some_result i there (chain_result i.op (and_parts (is_chain i.op) _ on).0), (n.0.0, subst (λ (x : Top). found (Captured (id i.result) n.0.0) ≡ Some x.name) n.2 (named n.0 n.1))),
      )

  indexes_once : AreOnceTops (flat_map (index_tops p.scope N s) f.blocks)
  indexes_once = subst AreOnceTops (sym (flat_blocks (index_tops p.scope N s) indexes_of f.blocks (λ b. refl))) (once_flat IsKeptBy kept_tells indexes_of (insts_of f) apart its_indexes)

  -- So no name is declared twice.
  index_far : (n : ℕ) (t v : Top) → found (Id (id n)) ≡ Some t.name → IsIn v (flat_map (index_tops p.scope N s) f.blocks) → t.name ≡ v.name → ⊥
  index_far n t v has there same =
      let k = index_of m o unit u inv p among alone v there in
      no_chain_key n k.0 k.1 (u.lawful.apart (Captured (id k.0) k.1) (Id (id n)) v.name refl k.2 (has ∙ ap (λ (x : Text). Some x) same))

  hoisted_far : (t v : Top) → IsIn t (flat_map (variable_tops p.scope N s) f.blocks) → IsIn v (flat_map (hoisted_tops p.scope N s) f.blocks) → t.name ≡ v.name → ⊥
  hoisted_far t v a b same =
      let i = variable_of m o unit u inv p among alone t a in
      let j = hoisted_of m o unit u inv p among alone v b in
      let one = one_inst (insts_of f) i.0 j.0 apart i.1 j.1 (named_tells i.0 j.0 v.name (i.3 ∙ ap (λ (x : Text). Some x) same) j.3) (some_result i.0 i.1 (variable_result i.0.op i.2)) in
      no_flip (is_value m.globals j.0.ty) (a_value j.0 j.1 j.2).1 (subst (λ (x : Inst). is_value m.globals x.ty ≡ false) one (no_value i.0 i.1 i.2))

  pub tops_once : AreOnceTops tops
  tops_once =
      once_joined (flat_map (variable_tops p.scope N s) f.blocks) (flat_map (hoisted_tops p.scope N s) f.blocks ++ flat_map (index_tops p.scope N s) f.blocks) variables_once
      (once_joined (flat_map (hoisted_tops p.scope N s) f.blocks) (flat_map (index_tops p.scope N s) f.blocks) hoisted_once indexes_once (λ t v a b same. let i = hoisted_of m o unit u inv p among alone t a in index_far i.0.result t v i.3 b same))
      (λ t v a b same. elim (in_either v (flat_map (hoisted_tops p.scope N s) f.blocks) (flat_map (index_tops p.scope N s) f.blocks) b) [
        | inl hoisted ↦ hoisted_far t v a hoisted same
        | inr index ↦ let i = variable_of m o unit u inv p among alone t a in index_far i.0.result t v i.3 index same
      ])

  -- What stands at the top of a planned function has the function's names, and no other.
  pub tops_named : AreTops s N f tops
  tops_named = tops_are m o unit u inv p among alone tops_once
