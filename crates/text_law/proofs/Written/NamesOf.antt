-- The names of a planned function's text are those of its plan, as it is asked of the expressions of its values.
use Rattle.std.proofs.Common.{◌≡◌, ◌&&◌, ℕ, Bool, true, refl, sym, subst}
use Rattle.std.proofs.lemmas.Bool.{or_left, or_right}
use Rattle.spv_module.specs.State.{ModuleState}
use Rattle.conformance.specs.Rules.{Options}
use Rattle.traces.specs.Invocations.{Invocation}
use Rattle.glsl_ast.specs.Tree.{TranslationUnit}
use Rattle.expr_forward.specs.Scope.{Scope}
use Rattle.function_plan.specs.Planned.{is_named_in}
use Rattle.function_text.specs.Functions.{FunctionPlan, is_hoisted}
use Rattle.unit_rules.specs.Unit.{IsUnitOf}
use Rattle.call_law.specs.Known.{LendsWhole}
use Rattle.typed_law.specs.Conforms.{IsConforming}
use Rattle.claim_law.specs.Claimed.{IsIn}
use Rattle.grammar_law.proofs.Unit.Ways.{HaveKinds, V, plan_is}
use Rattle.text_law.specs.Names.{is_result, is_value_parameter, is_local_form}
use Rattle.text_law.proofs.Naming.Keys.{S, names}
use Rattle.text_law.proofs.Written.Says.{AreNamesOf}

module _ (m : ModuleState) (opts : Options) (right : IsConforming m opts.entry) (kinds : HaveKinds m.globals) (unit : TranslationUnit) (u : IsUnitOf m opts unit) (inv : Invocation) (p : FunctionPlan) (among : IsIn p u.plans) (lends : LendsWhole (S m opts unit u inv)) (b : ℕ) where
  abbrev Where : Scope
  Where = V (S m opts unit u inv) opts.entry right kinds opts unit u p among

  -- what the plan's own scope says, as it says it where the blocks are written
  scope_so : (P : Scope → Bool) → P Where ≡ true → P p.scope ≡ true
  scope_so P on = subst (λ (w : Scope). P w ≡ true) (sym (plan_is (S m opts unit u inv) opts.entry right kinds opts unit u p among).scope_is) on

  abbrev is_parameter_in : ℕ → Scope → Bool
  is_parameter_in n w = is_value_parameter m.globals w.setting.function n

  abbrev is_top_in : ℕ → Scope → Bool
  is_top_in n w = is_hoisted (w.form n) && is_result w.setting.function n

  abbrev is_local_in : ℕ → Scope → Bool
  is_local_in n w = is_local_form (w.form n) && (is_result w.setting.function n && is_named_in w.form p.graph w.setting.function.blocks n)

  pub names_are : AreNamesOf (S m opts unit u inv) opts.entry right kinds opts unit u p among lends b (names m opts unit u inv p)
  names_are = record {
    name_is = λ n. refl;
    parameter = λ n on. or_left (is_parameter_in n p.scope) (is_top_in n p.scope) (scope_so (is_parameter_in n) on);
    hoisted = λ n on. or_right (is_parameter_in n p.scope) (is_top_in n p.scope) (scope_so (is_top_in n) on);
    local = λ n on. scope_so (is_local_in n) on;
  }
