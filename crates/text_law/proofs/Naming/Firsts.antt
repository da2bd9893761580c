-- The variables of a planned function are its first instructions, and what is declared with an expression is one of them.
use Rattle.std.proofs.Common.{◌≡◌, ◌+◌, ◌++◌, Bool, true, false, List, [], ◌∷◌, map, filter, drop, Some, None, inl, inr, refl, sym, ap, ◌∙◌, subst, cond}
use Rattle.std.specs.Prelude.{flat_map}
use Rattle.std.specs.List.{prefix_len}
use Rattle.std.proofs.lemmas.List.Folds.{length-prefix_len}
use Rattle.spv_ops.specs.Opcode.{is, number}
use Rattle.spv_ops.specs.OpGroups.{group_of}
use Rattle.spv_ops.specs.declared.Op.{Op}
use Rattle.spv_ops.specs.declared.Op.TheVariants as code
use Rattle.spv_module.specs.State.{ModuleState}
use Rattle.spv_module.specs.declared.inst.Inst.{Inst}
use Rattle.spv_module.specs.declared.inst.Block.{Block}
use Rattle.spv_module.specs.declared.inst.Function.{Function}
use Rattle.conformance.specs.Rules.{Options}
use Rattle.traces.specs.Invocations.{Invocation}
use Rattle.glsl_ast.specs.Tree.{Expr, TranslationUnit}
use Rattle.expr_forward.specs.Statements.{captured_of}
use Rattle.function_text.specs.Functions.{FunctionPlan, written, is_hoisted_in}
use Rattle.unit_rules.specs.Unit.{IsUnitOf}
use Rattle.module_semantics.specs.Setting.{Setting}
use Rattle.module_semantics.specs.Accesses.{initial_in}
use Rattle.module_semantics.specs.Steps.{variable, step_kind, is_phi, behind_phis, first_insts}
use Rattle.agree_law.specs.Agree.{Naming}
use Rattle.agree_law.specs.Blocks.{IsOf}
use Rattle.function_law.specs.Tops.{Top, IsOneOf, AreFirst}
use Rattle.function_law.proofs.PlannedText.{variable_top, hoisted_top, index_top, variable_tops, hoisted_tops, index_tops}
use Rattle.claim_law.specs.Claimed.{IsIn}
use Rattle.text_law.specs.Alone.{AreAlone}
use Rattle.grammar_law.specs.Declares.{AreVariables, NoneDeclare, DeclaresFirst}
use Rattle.text_law.proofs.Naming.Keys.{S, names}
use Rattle.grammar_law.proofs.Unit.Lists.{in_either, of_filter, of_flat}
use Rattle.grammar_law.proofs.Meets.LiveOrGone.{of_mapped}
use Rattle.grammar_law.proofs.Grammar.FirstBlocks.{none_in}
use Rattle.profile_rules.specs.Places.{is_variable}
use Rattle.text_law.proofs.Naming.Tops.{tops as tops_in}

pub no_phi : (o : Op) → is o code.Variable ≡ true → is o code.Phi ≡ false
unfolding number
no_phi code.Variable on = refl
no_phi o on = cc

step_is : (o : Op) → is o code.Variable ≡ true → step_kind o ≡ variable
unfolding number step_kind group_of
step_is code.Variable on = refl
step_is o on = cc

kind_in : (vs : List Inst) → AreVariables vs → (i : Inst) → IsOf i vs → step_kind i.op ≡ variable
kind_in [] are i one = absurd one
kind_in (v ∷ vs) are i (inl same) = subst (λ (x : Inst). step_kind x.op ≡ variable) same (step_is v.op are.0)
kind_in (v ∷ vs) are i (inr one) = kind_in vs are.1 i one

-- where variables come first no phi does
behind : (vs rest : List Inst) (b : Block) → b.insts ≡ vs ++ rest → AreVariables vs → (r : List Inst) × (behind_phis b ≡ vs ++ r)
behind [] rest b split are = (behind_phis b, refl)
behind (v ∷ vs) rest b split are =
    (rest, ap (λ n. drop n b.insts) (length-prefix_len is_phi b.insts ∙ (ap (prefix_len is_phi) split ∙ ap (λ (t : Bool). cond t (1 + prefix_len is_phi (vs ++ rest)) 0) (no_phi v.op are.0))) ∙ split)

none_there : (bs : List Block) (b : Block) (i : Inst) → NoneDeclare bs → IsIn b bs → IsIn i b.insts → is_variable i ≡ true → ⊥
none_there [] b i none block there on = block
none_there (x ∷ bs) b i none (inl same) there on = none_in x.insts i none.0 (subst (λ (y : Block). IsIn i y.insts) (sym same) there) on
none_there (x ∷ bs) b i none (inr block) there on = none_there bs b i none.1 block there on

pub of_in : (is : List Inst) (i : Inst) → IsIn i is → IsOf i is
of_in [] i there = absurd there
of_in (x ∷ is) i (inl same) = inl same
of_in (x ∷ is) i (inr there) = inr (of_in is i there)

one_in : (ts : List Top) (t : Top) → IsOneOf t ts → IsIn t ts
one_in [] t one = absurd one
one_in (x ∷ ts) t (inl same) = inl same
one_in (x ∷ ts) t (inr one) = inr (one_in ts t one)

-- a variable of the function stands among them
among_first : (bs : List Block) (w : DeclaresFirst bs) (b : Block) (i : Inst) → IsIn b bs → IsIn i b.insts → is_variable i ≡ true → IsIn i w.split.variables
among_first bs w b i block there on = elim (subst (λ (l : List Block). IsIn b l) w.whole block) [
  | inl first ↦ elim (in_either i w.split.variables w.split.rest (subst (λ (l : List Inst). IsIn i l) w.split.whole (subst (λ (x : Block). IsIn i x.insts) (sym first) there))) [
    | inl here ↦ here
    | inr later ↦ absurd (none_in w.split.rest i w.split.none_behind later on)
  ]
  | inr other ↦ absurd (none_there w.others b i w.none_other other there on)
]

no_first : (t u : Top) (e : Expr) → t ≡ u → t.first ≡ None → u.first ≡ Some e → ⊥
no_first t u e same none some = let never : None ≡ Some e = sym none ∙ (ap (λ (x : Top). x.first) same ∙ some) in cc

module _ (m : ModuleState) (o : Options) (unit : TranslationUnit) (u : IsUnitOf m o unit) (inv : Invocation) (p : FunctionPlan) (among : IsIn p u.plans) (alone : AreAlone m.globals (written p)) (declares : DeclaresFirst (written p).blocks) where
  abbrev s : Setting
  s = S m o unit u inv

  abbrev N : Naming
  N = names m o unit u inv p

  abbrev f : Function
  f = written p

  abbrev tops : List Top
  tops = tops_in m o unit u inv p among alone

  begins : (r : List Inst) × (first_insts f.blocks ≡ declares.split.variables ++ r)
  begins =
      let w = behind declares.split.variables declares.split.rest declares.first declares.split.whole declares.split.are_variables in
      (w.0, ap first_insts declares.whole ∙ w.1)

  variable_is : (t : Top) → IsIn t (flat_map (variable_tops p.scope N s) f.blocks) → (i : Inst) × IsOf i declares.split.variables × (initial_in s f i.result ≡ t.value)
  variable_is t there =
      let b = of_flat (variable_tops p.scope N s) f.blocks t there in
      let i = of_mapped (variable_top p.scope N s) (filter is_variable b.0.insts) t b.2 in
      let w = of_filter is_variable b.0.insts i.0 i.1 in
      (i.0, of_in declares.split.variables i.0 (among_first f.blocks declares b.0 i.0 b.1 w.0 w.1), ap (λ (x : Top). x.value) i.2)

  hoisted_first : (t : Top) (e : Expr) → IsIn t (flat_map (hoisted_tops p.scope N s) f.blocks) → t.first ≡ Some e → ⊥
  hoisted_first t e there some =
      let b = of_flat (hoisted_tops p.scope N s) f.blocks t there in
      let i = of_mapped (hoisted_top p.scope N s) (filter (is_hoisted_in p.scope) b.0.insts) t b.2 in
      no_first (hoisted_top p.scope N s i.0) t e i.2 refl some

  index_first : (t : Top) (e : Expr) → IsIn t (flat_map (index_tops p.scope N s) f.blocks) → t.first ≡ Some e → ⊥
  index_first t e there some =
      let b = of_flat (index_tops p.scope N s) f.blocks t there in
      let i = of_flat (λ (j : Inst). map (index_top p.scope N s j) (captured_of p.scope j)) b.0.insts t b.2 in
      let n = of_mapped (index_top p.scope N s i.0) (captured_of p.scope i.0) t i.2 in
      no_first (index_top p.scope N s i.0 n.0) t e n.2 refl some

  pub variables_first : AreFirst s f tops
  variables_first = record {
    variables = declares.split.variables;
    rest = begins.0;
    first = begins.1;
    kinds = kind_in declares.split.variables declares.split.are_variables;
    all = λ t one e some. elim (in_either t (flat_map (variable_tops p.scope N s) f.blocks) (flat_map (hoisted_tops p.scope N s) f.blocks ++ flat_map (index_tops p.scope N s) f.blocks) (one_in tops t one)) [
      | inl one ↦ variable_is t one
      | inr more ↦ elim (in_either t (flat_map (hoisted_tops p.scope N s) f.blocks) (flat_map (index_tops p.scope N s) f.blocks) more) [
        | inl hoisted ↦ absurd (hoisted_first t e hoisted some)
        | inr index ↦ absurd (index_first t e index some)
      ]
    ];
  }
