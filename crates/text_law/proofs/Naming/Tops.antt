-- What is declared at the top of a planned function has the names that the function has: its variables, results and kept indexes, and none of a parameter or of a Private variable.
use Rattle.std.proofs.Common.{◌≡◌, ◌≢◌, ◌==◌, ◌&&◌, not, ℕ, Bool, true, false, List, [], ◌∷◌, ◌++◌, map, filter, Option, Some, None, inl, inr, refl, sym, ap, ◌∙◌, subst, if◌then◌else◌}
use Rattle.std.specs.Prelude.{◌⊎◌, flat_map, find, slice_get}
use Rattle.std.proofs.lemmas.Bool.{and_parts, or_cases}
use Rattle.spv_ops.specs.Opcode.{is}
use Rattle.spv_ops.specs.Groups.{is_chain}
use Rattle.spv_ops.specs.declared.Op.TheVariants as code
use Rattle.spv_module.specs.State.{ModuleState}
use Rattle.spv_module.specs.Held.{global}
use Rattle.spv_module.specs.Lists.{id}
use Rattle.spv_module.specs.declared.inst.Inst.{Inst}
use Rattle.spv_module.specs.declared.inst.Block.{Block}
use Rattle.spv_module.specs.declared.inst.Function.{Function}
use Rattle.spv_index.specs.Locals.{insts_of, inst_in}
use Rattle.structure_rules.specs.Graph.{nth}
use Rattle.conformance.specs.Rules.{Options}
use Rattle.profile_rules.specs.MemoryRules.{is_pointer}
use Rattle.profile_rules.specs.Places.{is_variable}
use Rattle.traces.specs.Invocations.{Invocation}
use Rattle.hoist_plan.specs.declared.form.Form.{Form}
use Rattle.access_paths.specs.Ways.{captured_indexes}
use Rattle.name_alloc.specs.declared.claims.Key.{Key}
use Rattle.name_alloc.specs.declared.claims.Key.TheVariants.{Id, Captured}
use Rattle.glsl_ast.specs.Tree.{Text, TranslationUnit}
use Rattle.expr_forward.specs.Scope.{Scope, globals}
use Rattle.expr_forward.specs.Statements.{captured_of}
use Rattle.function_plan.specs.Planned.{has_name_by, has_name}
use Rattle.function_text.specs.Functions.{FunctionPlan, written, is_hoisted, is_hoisted_in}
use Rattle.unit_rules.specs.Translation.{IsPlanOf}
use Rattle.unit_rules.specs.Unit.{called, source_of, IsUnitOf}
use Rattle.module_semantics.specs.Setting.{Setting}
use Rattle.module_semantics.specs.Accesses.{initial_in}
use Rattle.list_law.proofs.Numbers.{number_same, same_number as equal}
use Rattle.agree_law.specs.Agree.{Naming}
use Rattle.call_law.specs.Known.{is_parameter}
use Rattle.function_law.specs.Tops.{Top, IsTop, IsNoTop, AreOnceTops, AreTops}
use Rattle.function_law.proofs.PlannedText.{variable_top, hoisted_top, index_top, variable_tops, hoisted_tops, index_tops, tops_of}
use Rattle.typed_law.proofs.Lists.{some_by}
use Rattle.claim_law.specs.Claimed.{IsIn, HasName}
use Rattle.claim_law.proofs.Claim.Listed.{in_left, in_right, in_flat, in_mapped, at_place}
use Rattle.claim_law.proofs.Claim.Named.{result_named, captured_named}
use Rattle.claim_law.proofs.Claim.Told.{named_is}
use Rattle.claim_law.proofs.Claim.Flags.{planned_as}
use Rattle.claim_law.proofs.Claim.Apart.{same_number}
pub use Rattle.claim_law.proofs.Claim.Apart.{same_number as key_id}
use Rattle.grammar_law.proofs.Unit.Lists.{in_filter, of_filter, in_either, of_flat}
use Rattle.grammar_law.proofs.Meets.LiveOrGone.{of_mapped}
use Rattle.grammar_law.proofs.Meets.Roots.{named_variable}
use Rattle.text_law.specs.Alone.{AreAlone}
use Rattle.text_law.specs.Names.{is_other, is_result, is_value_parameter, is_written_private, keeps, kept_of}
use Rattle.text_law.proofs.Naming.Alone.{variable_inst, made_no_parameter}
use Rattle.text_law.proofs.Naming.Keys.{S, found as names_found, key as key_of, R, names, placed, some_in, hoisted_is, stands, parameter_has, private_has}

-- one of these is one of them by its name, its type and its value
is_top : (ts : List Top) (t : Top) → IsIn t ts → IsTop t.name t.shape t.value ts
is_top [] t among = absurd among
is_top (u ∷ ts) t (inl same) = inl (ap (λ (x : Top). x.name) same, ap (λ (x : Top). x.shape) same, ap (λ (x : Top). x.value) same)
is_top (u ∷ ts) t (inr among) = inr (is_top ts t among)

pub no_top : (x : Text) (ts : List Top) → ((t : Top) → IsIn t ts → t.name ≢ x) → IsNoTop x ts
no_top x [] far = tt
no_top x (t ∷ ts) far = (far t (inl refl), no_top x ts (λ u among. far u (inr among)))

-- what stands in a block of a function stands in the function
pub in_function : (f : Function) (b : Block) (i : Inst) → IsIn b f.blocks → IsIn i b.insts → IsIn i (insts_of f)
in_function f b i block there = in_flat (λ (x : Block). x.insts) f.blocks b i block there

-- an instruction's result is that of one
result_there : (is : List Inst) (i : Inst) → IsIn i is → find (λ (j : Inst). j.result == i.result) is ≡ None → ⊥
result_there [] i among e = among
result_there (j ∷ is) i (inl same) e = by_test (j.result == i.result) (number_same j.result i.result (ap (λ (x : Inst). x.result) same)) e
  where
    by_test : (b : Bool) → b ≡ true → (if b then Some j else find (λ (x : Inst). x.result == i.result) is) ≡ None → ⊥
    by_test true on e = cc
    by_test false on e = cc
result_there (j ∷ is) i (inr among) e = by_test (j.result == i.result) e (result_there is i among)
  where
    by_test : (b : Bool) → (if b then Some j else find (λ (x : Inst). x.result == i.result) is) ≡ None → (find (λ (x : Inst). x.result == i.result) is ≡ None → ⊥) → ⊥
    by_test true e later = cc
    by_test false e later = later e

abbrev key_number : Key → ℕ
key_number (Id n) = n.0
key_number _ = 0

pub no_chain_key : (a q k : ℕ) → Captured (id q) k ≡ Id (id a) → ⊥
no_chain_key a q k e = cc

module _ (m : ModuleState) (o : Options) (unit : TranslationUnit) (u : IsUnitOf m o unit) (inv : Invocation) (p : FunctionPlan) (among : IsIn p u.plans) (alone : AreAlone m.globals (written p)) where
  abbrev s : Setting
  s = S m o unit u inv

  abbrev found : Key → Option Text
  found = names_found m o unit u inv

  abbrev key : Key → Text
  key = key_of m o unit u inv

  abbrev N : Naming
  N = names m o unit u inv p

  abbrev f : Function
  f = written p

  abbrev pub tops : List Top
  tops = tops_of p.scope N s f.blocks

  pub planned : (g : Function) × IsPlanOf (source_of m o u.entry) found g p
  planned = planned_as (IsPlanOf (source_of m o u.entry) found) (called u.order m.functions) u.plans p u.planned among

  key_is : (k : Key) → p.scope.setting.key k ≡ key k
  key_is k = ap (λ (w : Scope). w.setting.key k) planned.1.scope_is

  kept_is : (i : Inst) → captured_of p.scope i ≡ kept_of s o.overrides (R m o unit u inv) key f p.graph p.scope.form p.scope.carried i
  kept_is i = ap (λ (gs : List Inst). if is_chain i.op && p.scope.carried i.result then captured_indexes gs i else []) (ap (λ (w : Scope). globals w) planned.1.scope_is)

  -- where the declarations of an instruction stand
  variable_in : (k : ℕ) (b : Block) (i : Inst) → slice_get f.blocks k ≡ Some b → IsIn i b.insts → is_variable i ≡ true → IsIn (variable_top p.scope N s i) tops
  variable_in k b i at there on =
      in_left (variable_top p.scope N s i) (flat_map (variable_tops p.scope N s) f.blocks) (flat_map (hoisted_tops p.scope N s) f.blocks ++ flat_map (index_tops p.scope N s) f.blocks)
      (in_flat (variable_tops p.scope N s) f.blocks b (variable_top p.scope N s i) (at_place f.blocks k b at) (in_mapped (variable_top p.scope N s) (filter is_variable b.insts) i (in_filter is_variable b.insts i there on)))

  hoisted_in : (k : ℕ) (b : Block) (i : Inst) → slice_get f.blocks k ≡ Some b → IsIn i b.insts → is_hoisted_in p.scope i ≡ true → IsIn (hoisted_top p.scope N s i) tops
  hoisted_in k b i at there on =
      in_right (hoisted_top p.scope N s i) (flat_map (variable_tops p.scope N s) f.blocks) (flat_map (hoisted_tops p.scope N s) f.blocks ++ flat_map (index_tops p.scope N s) f.blocks)
      (in_left (hoisted_top p.scope N s i) (flat_map (hoisted_tops p.scope N s) f.blocks) (flat_map (index_tops p.scope N s) f.blocks)
      (in_flat (hoisted_tops p.scope N s) f.blocks b (hoisted_top p.scope N s i) (at_place f.blocks k b at) (in_mapped (hoisted_top p.scope N s) (filter (is_hoisted_in p.scope) b.insts) i (in_filter (is_hoisted_in p.scope) b.insts i there on))))

  index_in : (k : ℕ) (b : Block) (i : Inst) (n : ℕ × ℕ) → slice_get f.blocks k ≡ Some b → IsIn i b.insts → IsIn n (captured_of p.scope i) → IsIn (index_top p.scope N s i n) tops
  index_in k b i n at there one =
      in_right (index_top p.scope N s i n) (flat_map (variable_tops p.scope N s) f.blocks) (flat_map (hoisted_tops p.scope N s) f.blocks ++ flat_map (index_tops p.scope N s) f.blocks)
      (in_right (index_top p.scope N s i n) (flat_map (hoisted_tops p.scope N s) f.blocks) (flat_map (index_tops p.scope N s) f.blocks)
      (in_flat (index_tops p.scope N s) f.blocks b (index_top p.scope N s i n) (at_place f.blocks k b at)
      (in_flat (λ (j : Inst). map (index_top p.scope N s j) (captured_of p.scope j)) b.insts i (index_top p.scope N s i n) there (in_mapped (index_top p.scope N s i) (captured_of p.scope i) n one))))

  outer_top : (n : ℕ) → N.is_outer n ≡ true → (is_parameter f n ≡ true) ⊎ ((is_parameter f n ≡ false) × IsTop (N.name n) (N.shape n) None tops)
  outer_top n on = elim (or_cases (is_value_parameter m.globals f n) (is_hoisted (p.scope.form n) && is_result f n) on) [
    | inl value ↦ inl (and_parts (is_parameter f n) (not (is_pointer m.globals f n)) value).0
    | inr result ↦
        let parts = and_parts (is_hoisted (p.scope.form n)) (is_result f n) result in
        let i = some_by is_other (inst_in f n) parts.1 in
        let w = stands m o unit u inv p among n i.0 i.1 in
        let top = is_top tops (hoisted_top p.scope N s i.0) (hoisted_in w.0.number w.0.block i.0 w.0.there w.0.among (ap (λ (x : ℕ). is_hoisted (p.scope.form x)) w.1 ∙ parts.0)) in
        inr (made_no_parameter m.globals f alone n i.0 i.1, subst (λ (x : Text). IsTop x (N.shape n) None tops) (key_is (Id (id n))) (subst (λ (x : ℕ). IsTop (p.scope.setting.key (Id (id x))) (N.shape x) None tops) w.1 top))
  ]

  variable_is_top : (n : ℕ) → N.is_variable n ≡ true → IsTop (N.name n) (N.shape n) (initial_in s f n) tops
  variable_is_top n on =
      let v = variable_inst f n on in
      let w = stands m o unit u inv p among n v.0 v.1 in
      let top = is_top tops (variable_top p.scope N s v.0) (variable_in w.0.number w.0.block v.0 w.0.there w.0.among v.2) in
      subst (λ (x : Text). IsTop x (N.shape n) (initial_in s f n) tops) (key_is (Id (id n))) (subst (λ (x : ℕ). IsTop (p.scope.setting.key (Id (id x))) (N.shape x) (initial_in s f x) tops) w.1 top)

  kept_top : (q k : ℕ) → N.is_kept q k ≡ true → (is_parameter f q ≡ false) × IsTop (N.index_name q k) (N.index_shape q k) None tops
  kept_top q k on =
      let i = some_by (keeps s o.overrides (R m o unit u inv) key f p.graph p.scope.form p.scope.carried k) (inst_in f q) on in
      let w = stands m o unit u inv p among q i.0 i.1 in
      let x = some_in (λ (n : ℕ × ℕ). n.0 == k) (kept_of s o.overrides (R m o unit u inv) key f p.graph p.scope.form p.scope.carried i.0) i.2 in
      let top = is_top tops (index_top p.scope N s i.0 x.0) (index_in w.0.number w.0.block i.0 x.0 w.0.there w.0.among (subst (λ (l : List (ℕ × ℕ)). IsIn x.0 l) (sym (kept_is i.0)) x.1)) in (
        made_no_parameter m.globals f alone q i.0 i.1,
        subst (λ (y : Text). IsTop y (N.index_shape q k) None tops) (key_is (Captured (id q) k))
            (subst (λ (j : ℕ). IsTop (p.scope.setting.key (Captured (id q) j)) (N.index_shape q j) None tops) (equal x.0.0 k x.2)
            (subst (λ (r : ℕ). IsTop (p.scope.setting.key (Captured (id r) x.0.0)) (N.index_shape r x.0.0) None tops) w.1 top)),
      )

  -- each declaration has the name of a key: of a result of the function, or of an index that is kept
  abbrev IsOfKey : Text → Type 0
  IsOfKey x = ((i : Inst) × IsIn i (insts_of f) × (found (Id (id i.result)) ≡ Some x)) ⊎ ((q : ℕ) × (k : ℕ) × (found (Captured (id q) k) ≡ Some x))

  result_name : (i : Inst) → IsIn i (insts_of f) → ((reached : Bool) → has_name p.scope.form reached i ≡ true) → found (Id (id i.result)) ≡ Some (p.scope.setting.key (Id (id i.result)))
  result_name i there has =
      let at = placed m o unit u p i there in
      named_is found (Id (id i.result)) (result_named m o unit u p i among at (has (nth p.graph at.number).reached)) ∙ ap (λ (x : Text). Some x) (sym (key_is (Id (id i.result))))

  pub index_name : (i : Inst) (n : ℕ × ℕ) → IsIn i (insts_of f) → IsIn n (captured_of p.scope i) → found (Captured (id i.result) n.0) ≡ Some (p.scope.setting.key (Captured (id i.result) n.0))
  index_name i n there one =
      named_is found (Captured (id i.result) n.0) (captured_named m o unit u p i n.0 among (placed m o unit u p i there) (by_test (is_chain i.op && p.scope.carried i.result) (subst (λ (l : List (ℕ × ℕ)). IsIn n l) (kept_is i) one))) ∙ ap (λ (x : Text). Some x) (sym (key_is (Captured (id i.result) n.0)))
    where
      by_test : (b : Bool) → IsIn n (if b then captured_indexes m.globals i else []) → IsIn n.0 (if b then map (λ (x : ℕ × ℕ). x.0) (captured_indexes m.globals i) else [])
      by_test true one = in_mapped (λ (x : ℕ × ℕ). x.0) (captured_indexes m.globals i) n one
      by_test false one = absurd one

  pub variable_name : (i : Inst) → IsIn i (insts_of f) → is_variable i ≡ true → found (Id (id i.result)) ≡ Some (p.scope.setting.key (Id (id i.result)))
  variable_name i there on = result_name i there (λ reached. ap (has_name_by (p.scope.form i.result) reached) on ∙ named_variable (p.scope.form i.result) reached)

  pub hoisted_name : (i : Inst) → IsIn i (insts_of f) → is_hoisted_in p.scope i ≡ true → found (Id (id i.result)) ≡ Some (p.scope.setting.key (Id (id i.result)))
  hoisted_name i there on = result_name i there (λ reached. ap (λ (x : Form). has_name_by x reached (is i.op code.Variable)) (hoisted_is (p.scope.form i.result) on))

  -- what is declared is declared for an instruction
  pub variable_of : (t : Top) → IsIn t (flat_map (variable_tops p.scope N s) f.blocks) → (i : Inst) × IsIn i (insts_of f) × (is_variable i ≡ true) × (found (Id (id i.result)) ≡ Some t.name)
  variable_of t among =
      let b = of_flat (variable_tops p.scope N s) f.blocks t among in
      let i = of_mapped (variable_top p.scope N s) (filter is_variable b.0.insts) t b.2 in
      let w = of_filter is_variable b.0.insts i.0 i.1 in
      let there = in_function f b.0 i.0 b.1 w.0 in
      (i.0, there, w.1, subst (λ (x : Top). found (Id (id i.0.result)) ≡ Some x.name) i.2 (variable_name i.0 there w.1))

  pub hoisted_of : (t : Top) → IsIn t (flat_map (hoisted_tops p.scope N s) f.blocks) → (i : Inst) × IsIn i (insts_of f) × (is_hoisted_in p.scope i ≡ true) × (found (Id (id i.result)) ≡ Some t.name)
  hoisted_of t among =
      let b = of_flat (hoisted_tops p.scope N s) f.blocks t among in
      let i = of_mapped (hoisted_top p.scope N s) (filter (is_hoisted_in p.scope) b.0.insts) t b.2 in
      let w = of_filter (is_hoisted_in p.scope) b.0.insts i.0 i.1 in
      let there = in_function f b.0 i.0 b.1 w.0 in
      (i.0, there, w.1, subst (λ (x : Top). found (Id (id i.0.result)) ≡ Some x.name) i.2 (hoisted_name i.0 there w.1))

  pub index_of : (t : Top) → IsIn t (flat_map (index_tops p.scope N s) f.blocks) → (q : ℕ) × (k : ℕ) × (found (Captured (id q) k) ≡ Some t.name)
  index_of t among =
      let b = of_flat (index_tops p.scope N s) f.blocks t among in
      let i = of_flat (λ (j : Inst). map (index_top p.scope N s j) (captured_of p.scope j)) b.0.insts t b.2 in
      let n = of_mapped (index_top p.scope N s i.0) (captured_of p.scope i.0) t i.2 in
      (i.0.result, n.0.0, subst (λ (x : Top). found (Captured (id i.0.result) n.0.0) ≡ Some x.name) n.2 (index_name i.0 n.0 (in_function f b.0 i.0 b.1 i.1) n.1))

  of_key : (t : Top) → IsIn t tops → IsOfKey t.name
  of_key t there = elim (in_either t (flat_map (variable_tops p.scope N s) f.blocks) (flat_map (hoisted_tops p.scope N s) f.blocks ++ flat_map (index_tops p.scope N s) f.blocks) there) [
    | inl variable ↦ let i = variable_of t variable in inl (i.0, i.1, i.3)
    | inr more ↦ elim (in_either t (flat_map (hoisted_tops p.scope N s) f.blocks) (flat_map (index_tops p.scope N s) f.blocks) more) [
      | inl hoisted ↦ let i = hoisted_of t hoisted in inl (i.0, i.1, i.3)
      | inr index ↦ inr (index_of t index)
    ]
  ]

  -- so none has the name of what is no result
  none_named : (n : ℕ) → HasName found (Id (id n)) → inst_in f n ≡ None → IsNoTop (N.name n) tops
  none_named n has none = no_top (N.name n) tops (λ t there same. elim (of_key t there) [
    | inl result ↦
        let one = u.lawful.apart (Id (id result.0.result)) (Id (id n)) t.name refl result.2 (named_is found (Id (id n)) has ∙ ap (λ (x : Text). Some x) (sym same)) in
        result_there (insts_of f) result.0 result.1 (ap (inst_in f) (same_number result.0.result n one) ∙ none)
    | inr index ↦ no_chain_key n index.0 index.1 (u.lawful.apart (Captured (id index.0) index.1) (Id (id n)) t.name refl index.2 (named_is found (Id (id n)) has ∙ ap (λ (x : Text). Some x) (sym same)))
  ])

  -- What stands at the top of the function has its names; where no name is declared twice.
  pub tops_are : AreOnceTops tops → AreTops s N f tops
  tops_are once = record {
    once = once;
    apart = λ n on. none_named n (parameter_has m o unit u inv p among n on) (alone.parameters n on).0;
    private = λ n on. let x = some_by (is_written_private s o.overrides (R m o unit u inv) key) (global m.globals n) on in none_named n (private_has m o unit u inv p among n on) (alone.globals n x.0 x.1);
    outer = outer_top;
    variables = variable_is_top;
    kept = kept_top;
  }
