-- A value that is not read of the module is of the function: nothing outside of it has its id.
use Rattle.std.proofs.Common.{◌≡◌, ℕ, List, Option, Some, None, unwrap_or, refl, sym, ap, ◌∙◌}
use Rattle.std.specs.Prelude.{option_and_then}
use Rattle.std.specs.Option.{option_or}
use Rattle.std.proofs.lemmas.Option.{none-some}
use Rattle.spv_module.specs.Held.{global}
use Rattle.spv_module.specs.declared.inst.Inst.{Inst}
use Rattle.spv_module.specs.declared.inst.Function.{Function}
use Rattle.spv_types.specs.Tree.{Tree}
use Rattle.spv_types.specs.Types.{type_tree}
use Rattle.spv_index.specs.Locals.{typed, local_type, type_in}
use Rattle.conformance.specs.Rules.{Options}
use Rattle.module_semantics.specs.Setting.{Setting}
use Rattle.glsl_ast.specs.Tree.{TranslationUnit}
use Rattle.expr_forward.specs.Scope.{Scope, type_of}
use Rattle.function_text.specs.Functions.{FunctionPlan}
use Rattle.unit_rules.specs.Unit.{IsUnitOf}
use Rattle.typed_law.specs.Conforms.{IsConforming}
use Rattle.claim_law.specs.Claimed.{IsIn}
use Rattle.claim_law.proofs.Claim.Constants.{found_in}
use Rattle.grammar_law.proofs.Unit.Ways.{HaveKinds, F, V, own_type_of, local_outside, never_global}
use Rattle.text_law.proofs.Written.Expressed.{no_zero}

-- what is nothing that it could be is none
pub none_where : {A : Type 0} (x : Option A) → ((a : A) → x ≡ Some a → ⊥) → x ≡ None
none_where None never = refl
none_where (Some a) never = absurd (never a refl)

module _ (s : Setting) (entry : Option (List ℕ)) (right : IsConforming s.of entry) (kinds : HaveKinds s.of.globals) (o : Options) (unit : TranslationUnit) (u : IsUnitOf s.of o unit) (p : FunctionPlan) (among : IsIn p u.plans) where
  abbrev gs : List Inst
  gs = s.of.globals

  abbrev Fn : Function
  Fn = F s entry right kinds o unit u p among

  abbrev Where : Scope
  Where = V s entry right kinds o unit u p among

  module _ (n : ℕ) (t : Tree) (whole : type_tree gs (type_of Where n) ≡ Some t) (local : Where.setting.global n ≡ None) where
    never : (g : Inst) → global gs n ≡ Some g → ⊥
    never g at = by_typed (typed g) refl
      where
        type_by : (x : Option ℕ) → typed g ≡ x → type_in gs Fn n ≡ option_or x (local_type Fn n)
        type_by x is = ap (λ (h : Option Inst). option_or (option_and_then typed h) (local_type Fn n)) at ∙ ap (λ (y : Option ℕ). option_or y (local_type Fn n)) is

        shaped_by : (x : Option ℕ) → type_in gs Fn n ≡ x → type_tree gs (unwrap_or x 0) ≡ Some t
        shaped_by x is = sym (ap (λ (y : Option ℕ). type_tree gs (unwrap_or y 0)) is) ∙ whole

        by_local : (x : Option ℕ) → local_type Fn n ≡ x → type_in gs Fn n ≡ x → ⊥
        by_local None told is = no_zero s entry right 0 t (shaped_by None is) refl
        by_local (Some ty) told is = none-some g (sym (local_outside s entry right kinds o unit u p among n ty told) ∙ at)

        by_typed : (x : Option ℕ) → typed g ≡ x → ⊥
        by_typed None is = by_local (local_type Fn n) refl (type_by None is)
        by_typed (Some y) is =
            let own = own_type_of g y is in
            let there = found_in gs n g at in
            never_global s entry right kinds o unit u p among n t whole local g there.0 at own.1
            (ap (type_tree gs) own.0 ∙ shaped_by (Some y) (type_by (Some y) is)) (kinds g there.0 own.1)

    -- the law
    pub no_global : global gs n ≡ None
    no_global = none_where (global gs n) never
