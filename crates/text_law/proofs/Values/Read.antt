-- What a block of an accepted module's function reads of the module says what the module has: where a live instruction of a reached block mentions a constant, its expression says its value. A variable that is built in has none.
use Rattle.std.proofs.Common.{◌≡◌, ◌==◌, ℕ, Bool, List, [], Option, Some, None, refl, sym, ap, ◌∙◌}
use Rattle.std.specs.Prelude.{option_map}
use Rattle.std.proofs.lemmas.Option.{none-some, same_Some}
use Rattle.spv_module.specs.Held.{global}
use Rattle.spv_module.specs.State.{ModuleState}
use Rattle.spv_module.specs.declared.inst.Inst.{Inst}
use Rattle.spv_module.specs.declared.inst.Function.{Function}
use Rattle.spv_types.specs.Tree.{ValueTree}
use Rattle.conformance.specs.Rules.{Options}
use Rattle.module_check.specs.Judged.{IsFine}
use Rattle.module_check.specs.ReadFrom.{IsReadFrom}
use Rattle.traces.specs.Invocations.{Invocation, IsInvocation}
use Rattle.traces.specs.Outcomes.{Result, got}
use Rattle.module_semantics.specs.Setting.{Setting, global_variable}
use Rattle.module_semantics.specs.State.{Held, value as holds_value, pointer, global as of_global, Conf}
use Rattle.module_semantics.specs.Operands.{of_module, as_value, value_at}
use Rattle.name_alloc.specs.Naming.{name_of}
use Rattle.glsl_ast.specs.Tree.{Text, Expr, TranslationUnit}
use Rattle.glsl_semantics.specs.Shapes.{Typed, typed}
use Rattle.glsl_semantics.specs.States.{State}
use Rattle.glsl_semantics.specs.Expressions.{Program, Argument, evaluate}
use Rattle.text_items.specs.Globals.{global_by}
use Rattle.expr_forward.specs.Scope.{Scope}
use Rattle.expr_forward.specs.Values.{value}
use Rattle.function_text.specs.Functions.{FunctionPlan}
use Rattle.unit_rules.specs.Translation.{id_text}
use Rattle.unit_rules.specs.Unit.{source_of, IsUnitOf}
use Rattle.fits_law.specs.State.{ConfFits}
use Rattle.agree_law.specs.Agree.{Naming, Agree}
use Rattle.claim_law.proofs.Block.Steady.{written_as_read}
use Rattle.typed_law.specs.Conforms.{IsConforming}
use Rattle.typed_law.proofs.Lists.{some_part}
use Rattle.claim_law.specs.Claimed.{IsIn}
use Rattle.claim_law.proofs.Claim.Listed.{any_in}
use Rattle.grammar_law.specs.Mentioned.{IsMentioned}
use Rattle.grammar_law.specs.Words.{AreOfStructs}
use Rattle.grammar_law.proofs.Unit.Lists.{same_test}
use Rattle.grammar_law.proofs.Unit.Ways.{HaveKinds, F, R, V}
use Rattle.grammar_law.proofs.Meets.GlobalReads.{mention_listed}
use Rattle.text_law.proofs.Naming.Keys.{S, names}
use Rattle.text_law.specs.Left.{IsLeftOfGlobals}
use Rattle.text_law.proofs.Outside.Text.{P as program_in}
use Rattle.text_law.proofs.Outside.Constants.{IsMentioned as IsListed, constant_says}

value_held : (x : Option ValueTree) (v : ValueTree) → as_value (option_map holds_value x) ≡ Some v → x ≡ Some v
value_held None v e = cc
value_held (Some w) v e = e

-- the value that the module gives an id is a constant's
constant_held : (s : Setting) (n : ℕ) (v : ValueTree) → as_value (of_module s n) ≡ Some v → s.constants n ≡ Some v
constant_held s n v has = by_variable (global_variable s n) has
  where
    by_variable : (x : Option Inst) → as_value (elim x as (λ x. Option Held) [ Some g ↦ Some (pointer (of_global n) []) | None ↦ option_map holds_value (s.constants n) ]) ≡ Some v → s.constants n ≡ Some v
    by_variable (Some g) has = cc
    by_variable None has = value_held (s.constants n) v has

-- where a state fits, no call has a value of its own for what stands outside of functions
pub constant_value : (s : Setting) (c : Conf) → ConfFits s c → (n : ℕ) (g : Inst) → global s.of.globals n ≡ Some g → (v : ValueTree) → value_at s c.top n ≡ Some v → s.constants n ≡ Some v
constant_value s c fits n g there v has = by_ids (c.top.ids n) refl has
  where
    by_ids : (x : Option Held) → c.top.ids n ≡ x → as_value (elim x as (λ x. Option Held) [ Some h ↦ Some h | None ↦ of_module s n ]) ≡ Some v → s.constants n ≡ Some v
    by_ids (Some h) own has = absurd (none-some g (sym (fits.top.0 n h own).0 ∙ there))
    by_ids None own has = constant_held s n v has

module _ (bytes : List ℕ) (m : ModuleState) (o : Options) (read : IsReadFrom bytes m) (fine : IsFine m o) (unit : TranslationUnit) (u : IsUnitOf m o unit) (inv : Invocation) (told : IsInvocation inv) (left : IsLeftOfGlobals bytes m o)
    (right : IsConforming m o.entry) (kinds : HaveKinds m.globals) (p : FunctionPlan) (among : IsIn p u.plans) where
  abbrev s : Setting
  s = S m o unit u inv

  abbrev N : Naming
  N = names m o unit u inv p

  abbrev Fn : Function
  Fn = F s o.entry right kinds o unit u p among

  abbrev Marks : List Bool
  Marks = R s o.entry right kinds o unit u p among

  abbrev Where : Scope
  Where = V s o.entry right kinds o unit u p among

  abbrev P : Program
  P = program_in bytes m o read fine unit u inv told left

  no_structs : AreOfStructs m.globals (name_of u.claimed) []
  no_structs w on = cc

  -- what a live instruction of a reached block mentions is mentioned in the text
  pub listed : (b n : ℕ) (user : Inst) → IsMentioned Fn Marks b user n → IsListed bytes m o read fine unit u inv told left n
  listed b n user mentioned = any_in (λ (k : ℕ). k == n) _ n (mention_listed s o.entry right kinds o unit u p among [] no_structs b n user mentioned) (same_test n n refl)

  -- So in a state that agrees and fits, its expression says its value.
  pub read_says : (b : ℕ) (calls : Text → List Argument → State → Result (Option Typed × State)) (c : Conf) (z : State) → Agree N c z → ConfFits s c → (n : ℕ) (e : Expr) → Where.setting.global n ≡ Some e → (user : Inst) → IsMentioned Fn Marks b user n
      → (v : ValueTree) → value_at s c.top n ≡ Some v → evaluate P calls (value Where b n) z ≡ got [] (typed (N.shape n) v, z)
  read_says b calls c z agree fits n e is user mentioned v has =
      let g = some_part (global_by (source_of m o u.entry) (id_text (name_of u.claimed))) (global m.globals n) e is in
      let constant = constant_value s c fits n g.0 g.1 v has in
      let says = constant_says bytes m o read fine unit u inv told left p n v constant (listed b n user mentioned) calls c z agree in
      let same : e ≡ says.0 = same_Some e says.0 (sym is ∙ says.1) in
      ap (λ (x : Expr). evaluate P calls x z) (written_as_read Where b n e is ∙ same) ∙ says.2
