-- What a live instruction of a reached block reads is ready at it; so its expression, as the plan's own scope writes it, says its value.
use Rattle.std.proofs.Common.{◌≡◌, ◌⊎◌, ◌≤◌, ◌++◌, ℕ, Bool, true, false, List, [], ◌∷◌, Option, Some, None, unwrap_or, inl, inr, sym, ◌∙◌, subst, arith}
use Rattle.std.specs.Prelude.{option_and_then, slice_get, slice_index_or}
use Rattle.spv_ops.specs.Opcode.{is}
use Rattle.spv_ops.specs.OpGroups.{group_of}
use Rattle.spv_ops.specs.Operands.{is_id}
use Rattle.spv_ops.specs.Shape.{is_pure}
use Rattle.spv_ops.specs.declared.Op.TheVariants as code
use Rattle.spv_module.specs.State.{ModuleState}
use Rattle.spv_module.specs.declared.inst.Inst.{Inst}
use Rattle.spv_module.specs.declared.inst.Function.{Function}
use Rattle.spv_types.specs.Tree.{Tree, ValueTree}
use Rattle.spv_types.specs.Types.{type_tree}
use Rattle.spv_index.specs.Locals.{insts_of, type_in}
use Rattle.structure_rules.specs.Graph.{graph}
use Rattle.conformance.specs.Rules.{Options}
use Rattle.module_check.specs.Judged.{IsFine}
use Rattle.module_check.specs.ReadFrom.{IsReadFrom}
use Rattle.traces.specs.Invocations.{Invocation, IsInvocation}
use Rattle.traces.specs.Outcomes.{Result, got}
use Rattle.traces.specs.Runs.{Supplied}
use Rattle.use_chains.specs.Slots.{is_value, inst_at, IsLive}
use Rattle.module_semantics.specs.Setting.{Setting}
use Rattle.module_semantics.specs.State.{Conf}
use Rattle.module_semantics.specs.Operands.{value_at}
use Rattle.module_semantics.specs.Steps.{step_kind}
use Rattle.glsl_ast.specs.Tree.{Text, TranslationUnit}
use Rattle.glsl_semantics.specs.Shapes.{Typed, typed}
use Rattle.glsl_semantics.specs.States.{State}
use Rattle.glsl_semantics.specs.Expressions.{Program, Argument, evaluate}
use Rattle.expr_forward.specs.Scope.{Scope}
use Rattle.expr_forward.specs.Statements.{is_variable_form}
use Rattle.expr_forward.specs.Values.{value}
use Rattle.function_text.specs.Functions.{FunctionPlan}
use Rattle.unit_rules.specs.Unit.{IsUnitOf}
use Rattle.fits_law.specs.State.{value_shape, functions_of, HasShape, ConfFits, ModuleFits}
use Rattle.fits_law.specs.Typed.{IsTyped}
use Rattle.agree_law.specs.Agree.{Naming}
use Rattle.agree_law.specs.Blocks.{IsOf, Stands}
use Rattle.agree_law.specs.Points.{Body}
use Rattle.call_law.specs.Known.{IsFunctionOf, LendsWhole}
use Rattle.plan_law.specs.InOrder.{IsAmong}
use Rattle.typed_law.specs.Conforms.{IsConforming, IsConformingIn}
use Rattle.typed_law.specs.Words.{IsSettingOfWords, IsStateOfWords}
use Rattle.typed_law.proofs.Values.{inside}
use Rattle.claim_law.specs.Claimed.{IsIn}
use Rattle.grammar_law.specs.Mentioned.{IsMentioned}
use Rattle.grammar_law.proofs.Unit.Lists.{as_in}
use Rattle.grammar_law.proofs.Unit.Links.{placed_in}
use Rattle.grammar_law.proofs.Unit.Ways.{HaveKinds, F, R, V, in_module, plan_is, reached_nth}
use Rattle.grammar_law.proofs.Meets.LiveOrGone.{placed_live}
use Rattle.grammar_law.specs.Formed.{IsFormedBlock, IsFormedFunction}
use Rattle.grammar_law.proofs.Formed.Blocks.{reached_body, reached_only}
use Rattle.grammar_law.proofs.Formed.Inner.{is_inner, accepted_inner}
use Rattle.text_law.proofs.Naming.Keys.{S, names}
use Rattle.text_law.specs.Left.{IsLeftOfGlobals}
use Rattle.text_law.proofs.Outside.Text.{P as program_in}
use Rattle.text_law.proofs.Written.Expressed.{variable_live}
use Rattle.text_law.proofs.Written.Mentions.{live_mentions}
use Rattle.text_law.proofs.Written.NamesOf.{names_are}
use Rattle.text_law.proofs.Written.Says.{IsReady, ready_says}
use Rattle.text_law.proofs.Written.Shapes.{value_has, has_shape}
use Rattle.text_law.proofs.Insts.New.{split_behind, stands_in, stands_among, no_phi}
use Rattle.text_law.proofs.Values.Values.{left_of_values}

module _ (bytes : List ℕ) (m : ModuleState) (o : Options) (read : IsReadFrom bytes m) (fine : IsFine m o) (unit : TranslationUnit) (u : IsUnitOf m o unit) (inv : Invocation) (told : IsInvocation inv) (left : IsLeftOfGlobals bytes m o)
    (right : IsConforming m o.entry) (kinds : HaveKinds m.globals) (p : FunctionPlan) (among : IsIn p u.plans) (lends : LendsWhole (S m o unit u inv)) where
  abbrev s : Setting
  s = S m o unit u inv

  abbrev N : Naming
  N = names m o unit u inv p

  abbrev Fn : Function
  Fn = F s o.entry right kinds o unit u p among

  abbrev Where : Scope
  Where = V s o.entry right kinds o unit u p among

  abbrev Marks : List Bool
  Marks = R s o.entry right kinds o unit u p among

  abbrev P : Program
  P = program_in bytes m o read fine unit u inv told left

  in_it : IsConformingIn m Fn
  in_it = inside s o.entry right Fn (in_module s o.entry right kinds o unit u p among)

  -- an instruction has an effect, or is written to a variable
  abbrev pub IsKeptBy : Scope → Inst → Type 0
  IsKeptBy v i = (is_pure i.op ≡ false) ⊎ ((i.result ≡ 0 → ⊥) × (is_variable_form (v.form i.result) ≡ true))

  module _ (one : IsFunctionOf Fn m.functions) where
    inner : (j : Inst) → IsAmong j (insts_of Fn) → is_inner (group_of j.op) ≡ true
    inner j there = (accepted_inner bytes m read Fn one j there).0

    -- at an instruction of a reached block
    module _ (form : IsFormedFunction Fn) (b : ℕ) (body : Body Fn b) (has : reached_body Fn form b ≡ Some body) (befores : List Inst) (i : Inst) (rest : List Inst) (split : body.insts ≡ befores ++ i ∷ rest) where
      abbrev block : IsFormedBlock body.block.insts
      block = form.blocks b body.block body.there

      there : IsAmong i (insts_of Fn)
      there = stands_among m Fn in_it.order in_it.formed inner b body block befores i rest split

      pub here : slice_index_or Marks b false ≡ true
      here = reached_nth (graph Fn) b ∙ reached_only Fn form b body has

      pub place : (k : ℕ) × (inst_at Fn b k ≡ Some i)
      place = placed_in Fn b body.block i body.there (stands_in m Fn in_it.order in_it.formed inner b body block befores i rest split)

      pub live : IsKeptBy Where i → IsLive Fn Marks b place.0
      live (inl effect) = λ set closed. closed.effects b place.0 i place.1 effect
      live (inr variable) =
          placed_live s o.entry right kinds o unit u p among b place.0 i place.1
          (variable_live s o.entry right kinds o unit u p among i (as_in (insts_of Fn) i there) variable.0 variable.1)

      pub no_phi_here : is i.op code.Phi ≡ false
      no_phi_here = no_phi m Fn in_it.order in_it.formed inner b body block befores i rest split i (inr (let same : i ≡ i = cc in same))

      unwrapped : (x : Option ℕ) (t : Tree) → option_and_then (type_tree m.globals) x ≡ Some t → type_tree m.globals (unwrap_or x 0) ≡ Some t
      unwrapped None t is = cc
      unwrapped (Some ty) t is = is

      -- an operand is mentioned there
      pub mentioned : IsKeptBy Where i → (k n : ℕ) → slice_get i.args k ≡ Some n → is_id i.op i.args k ≡ true → is_value i.op k ≡ true → IsMentioned Fn Marks b i n
      mentioned kept k n word names_id value = live_mentions Fn Marks b place.0 i place.1 here (live kept) no_phi_here k n word names_id value

      -- so one that is a value is ready
      pub ready : IsKeptBy Where i → (k n : ℕ) → slice_get i.args k ≡ Some n → is_id i.op i.args k ≡ true → is_value i.op k ≡ true → (t : Tree) → value_shape s Fn n ≡ Some t → IsReady s o.entry right kinds o unit u p among lends b i.at n
      ready kept k n word names_id value t shaped = record {
        value = record {
          user = i;
          mentioned = mentioned kept k n word names_id value;
          no_phi = no_phi_here;
          shape = t;
          shaped = unwrapped (type_in m.globals Fn n) t shaped;
        };
        early = (let itself : i.at ≤ i.at = omega arith in itself);
      }

    -- where states fit
    module _ (calls : Text → List Argument → State → Result (Option Typed × State)) (Holds : Function → Conf → Type 0) (fitting : (g : Function) (c : Conf) → Holds g c → ConfFits s c) (low : (g : Function) (c : Conf) → Holds g c → IsStateOfWords c) (suits : ModuleFits s) (words : IsSettingOfWords s)
        (typed_so : (j : Inst) → IsIn j (insts_of Fn) → IsTyped s Fn j (step_kind j.op)) where
      -- an operand that is a value says it
      abbrev pub SayOperands : Scope → Type 0
      SayOperands v = (form : IsFormedFunction v.setting.function) (b : ℕ) (body : Body v.setting.function b) → reached_body v.setting.function form b ≡ Some body → (done befores : List Inst) (i : Inst) (rest : List Inst) → body.insts ≡ befores ++ i ∷ rest → ((j : Inst) → IsOf j befores → IsOf j done) → IsKeptBy v i
          → (c : Supplied Conf) (z : State) → Stands N s (Holds v.setting.function) v.setting.function b done c z → (k n : ℕ) → slice_get i.args k ≡ Some n → is_id i.op i.args k ≡ true → is_value i.op k ≡ true
          → (x : ValueTree) → value_at s c.at.top n ≡ Some x → evaluate P calls (value v b n) z ≡ got [] (typed (N.shape n) x, z)

      say_there : SayOperands Where
      say_there form b body has done befores i rest split all kept c z stands k n word names_id value_is x has_it =
          let fit = (fitting Fn c.at stands.holds).top.0 in
          let shape = has_shape (value_shape s Fn n) x (subst (λ (g : Function). HasShape (value_shape s g n) x) stands.function (value_has s suits (functions_of c.at.below) c.at.top n x fit has_it)) in
          let formed = form.blocks b body.block body.there in
          let split_so = split_behind m Fn in_it.order in_it.formed inner b body formed befores i rest split in
          ready_says s o.entry right kinds o unit u p among lends b one P calls N (names_are m o right kinds unit u inv p among lends b) (Holds Fn) done c z stands body formed befores i (rest ++ body.last ∷ []) split_so all
          (left_of_values bytes m o read fine unit u inv told left right kinds p among lends b one calls (names_are m o right kinds unit u inv p among lends b) (Holds Fn) (fitting Fn) done c z stands body formed befores i (rest ++ body.last ∷ []) split_so all suits words (low Fn c.at stands.holds) typed_so)
          n (ready form b body has befores i rest split kept k n word names_id value_is shape.0 shape.1) x has_it

      -- the law
      pub operands_say : SayOperands p.scope
      operands_say = subst SayOperands (sym (plan_is s o.entry right kinds o unit u p among).scope_is) say_there
