-- In the text of a module the flags of a planned function have the names of their keys, and these are none of the function's other names.
use Rattle.std.proofs.Common.{◌≡◌, ◌⊎◌, ◌<◌, ℕ, Bool, true, false, [], codes, length, Option, Some, None, unwrap_or, inl, inr, refl, sym, ap, ◌∙◌, arith}
use Rattle.std.proofs.lemmas.Option.{same_Some}
use Rattle.spv_module.specs.State.{ModuleState}
use Rattle.spv_module.specs.declared.inst.Function.{Function}
use Rattle.conformance.specs.Rules.{Options}
use Rattle.name_alloc.specs.declared.claims.Key.{Key}
use Rattle.name_alloc.specs.declared.claims.Key.TheVariants.{Main, Again, Leave, Fell}
use Rattle.name_alloc.specs.Law.{AreNames, IsFree}
use Rattle.name_alloc.specs.Naming.{name_of, space_of}
use Rattle.name_alloc.specs.Reserved.{has_prefix}
use Rattle.glsl_ast.specs.Tree.{Text, TranslationUnit}
use Rattle.expr_forward.specs.Scope.{Scope}
use Rattle.function_text.specs.Functions.{FunctionPlan, label_of, when, blocks_of}
use Rattle.unit_rules.specs.Translation.{Naming, text_of, IsPlanOf}
use Rattle.unit_rules.specs.Unit.{source_of, called, IsUnitOf}
use Rattle.list_law.proofs.Tests.{not_both}
use Rattle.agree_law.specs.Agree.{Naming as Names, IsOther}
use Rattle.claim_law.specs.Claimed.{IsIn}
use Rattle.claim_law.specs.Apart.{AreOfKeys, is_flow, IsFlow}
use Rattle.claim_law.proofs.Claim.Flags.{planned_as, again_is_flow, leave_is_flow, fell_is_flow, flows_other}
use Rattle.safe_law.specs.Flags.{is_flag, IsFlag, IsNoFlag}

flag_flow : (key : Key) → is_flag key ≡ true → is_flow key ≡ true
flag_flow (Again label) on = refl
flag_flow (Leave label) on = refl
flag_flow (Fell label) on = refl
flag_flow key on = cc

flag_space : (key : Key) → is_flag key ≡ true → space_of key ≡ None
flag_space (Again label) on = refl
flag_space (Leave label) on = refl
flag_space (Fell label) on = refl
flag_space key on = cc

pub flags_other : (found : Key → Option Text) → AreNames found → (n : Names) → AreOfKeys found n → (x : Text) → IsFlag found x → IsOther n x
flags_other found names n keys x is = flows_other found names n keys x (is.0, flag_flow is.0 is.1, is.2)

module _ (found : Key → Option Text) (names : AreNames found) where
  -- no key has an empty name
  never_empty : (key : Key) → found key ≡ Some [] → ⊥
  never_empty key is = let some : 0 < length {A = ℕ} [] = (names.each key [] is).word.some in omega (arith, some)

  pub empty_no_flag : IsNoFlag found []
  empty_no_flag is = never_empty is.0 is.2

  -- the name of a key that is no flag's
  pub other_no_flag : (key : Key) → is_flag key ≡ false → space_of key ≡ None → IsNoFlag found (text_of found key)
  other_no_flag key off space is = by_name (found key) refl
    where
      by_name : (o : Option Text) → found key ≡ o → ⊥
      by_name None none = never_empty is.0 (is.2 ∙ ap (λ (y : Text). Some y) (ap (λ (q : Option Text). unwrap_or q []) none))
      by_name (Some y) named =
          let own : text_of found key ≡ y = ap (λ (q : Option Text). unwrap_or q []) named in
          let same : is.0 ≡ key = names.apart is.0 key y (flag_space is.0 is.1 ∙ sym space) (is.2 ∙ ap (λ (z : Text). Some z) own) named in
          not_both (is_flag key) (ap is_flag (sym same) ∙ is.1) off

  -- what is built in
  pub built_no_flag : (x : Text) → has_prefix x ≡ true → IsNoFlag found x
  built_no_flag x on is = by_form (names.each is.0 x is.2).free
    where
      no_main : (key : Key) → is_flag key ≡ true → key ≡ Main → ⊥
      no_main key flag same = not_both (is_flag key) flag (ap is_flag same)

      by_form : ((is.0 ≡ Main) × (x ≡ codes "main")) ⊎ IsFree x → ⊥
      by_form (inl main) = no_main is.0 is.1 main.0
      by_form (inr free) = not_both (has_prefix x) on free.prefix

module _ (m : ModuleState) (o : Options) (unit : TranslationUnit) (u : IsUnitOf m o unit) (p : FunctionPlan) (among : IsIn p u.plans) where
  abbrev pub found : Naming
  found = name_of u.claimed

  pub planned : (f : Function) × IsPlanOf (source_of m o u.entry) found f p
  planned = planned_as (IsPlanOf (source_of m o u.entry) found) (called u.order m.functions) u.plans p u.planned among

  named_flag : (key : Key) → is_flag key ≡ true → (b : Bool) (x : Text) → when b (p.scope.setting.key key) ≡ Some x → IsFlow found x → IsFlag found x
  named_flag key on false x is flow = cc
  named_flag key on true x is flow = by_name (found key) refl
    where
      text : text_of found key ≡ x
      text = sym (ap (λ (w : Scope). w.setting.key key) planned.1.scope_is) ∙ same_Some (p.scope.setting.key key) x is

      by_name : (q : Option Text) → found key ≡ q → IsFlag found x
      by_name (Some y) named = (key, on, named ∙ ap (λ (z : Text). Some z) (sym (ap (λ (q : Option Text). unwrap_or q []) named) ∙ text))
      by_name None none =
          let lacks : [] ≡ x = sym (ap (λ (q : Option Text). unwrap_or q []) none) ∙ text in
          absurd (never_empty found u.lawful flow.0 (flow.2 ∙ ap (λ (z : Text). Some z) (sym lacks)))

  pub again_is_flag : (b : ℕ) (x : Text) → (blocks_of p).again b ≡ Some x → IsFlag found x
  again_is_flag b x is = named_flag (Again (label_of p b)) refl (p.again b) x is (again_is_flow m o unit u p among b x is)

  pub leave_is_flag : (b : ℕ) (x : Text) → (blocks_of p).leave b ≡ Some x → IsFlag found x
  leave_is_flag b x is = named_flag (Leave (label_of p b)) refl (p.leave b) x is (leave_is_flow m o unit u p among b x is)

  pub fell_is_flag : (b : ℕ) (x : Text) → (blocks_of p).fell b ≡ Some x → IsFlag found x
  fell_is_flag b x is = named_flag (Fell (label_of p b)) refl (p.fell b) x is (fell_is_flow m o unit u p among b x is)
