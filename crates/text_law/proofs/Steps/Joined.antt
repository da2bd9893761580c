-- So what is asked of the instructions of a planned function of an accepted module is met, in each call of it, where calls run as their functions do.
use Rattle.std.proofs.Common.{◌≡◌, ◌++◌, ℕ, true, false, List, [], ◌∷◌, Contains, Option, Some, inl, refl, sym, subst, arith}
use Rattle.spv_ops.specs.OpGroups.{group_of}
use Rattle.spv_module.specs.Inst.{has_type}
use Rattle.spv_module.specs.State.{ModuleState}
use Rattle.spv_module.specs.declared.inst.Inst.{Inst}
use Rattle.spv_module.specs.declared.inst.Function.{Function}
use Rattle.spv_types.specs.Tree.{Tree}
use Rattle.spv_types.specs.Types.{type_tree}
use Rattle.spv_types.specs.Leaves.{IsSized}
use Rattle.spv_index.specs.Locals.{insts_of}
use Rattle.conformance.specs.Rules.{Options}
use Rattle.module_check.specs.Judged.{IsFine}
use Rattle.module_check.specs.ReadFrom.{IsReadFrom}
use Rattle.traces.specs.Invocations.{Invocation, IsInvocation}
use Rattle.traces.specs.Outcomes.{Result}
use Rattle.module_semantics.specs.Operands.{arg}
use Rattle.module_semantics.specs.Setting.{Setting}
use Rattle.module_semantics.specs.State.{Held, Frame, Conf}
use Rattle.module_semantics.specs.Steps as steps
use Rattle.module_semantics.specs.Steps.{step_kind}
use Rattle.name_alloc.specs.declared.claims.Key.{Key}
use Rattle.hoist_plan.specs.Plan.{is_value}
use Rattle.glsl_ast.specs.Tree.{Text, Expr, TranslationUnit}
use Rattle.glsl_semantics.specs.Shapes.{Typed}
use Rattle.glsl_semantics.specs.States.{State}
use Rattle.glsl_semantics.specs.Expressions.{Program, Argument}
use Rattle.expr_forward.specs.declared.kinds.InstKind.{InstKind}
use Rattle.expr_forward.specs.declared.kinds.InstKind.TheVariants as kind
use Rattle.expr_forward.specs.Kinds.{kind_of}
use Rattle.expr_forward.specs.Scope.{Scope}
use Rattle.function_text.specs.Functions.{FunctionPlan, written}
use Rattle.unit_rules.specs.Translation.{id_text, global_expr}
use Rattle.unit_rules.specs.Unit.{source_of, IsUnitOf}
use Rattle.type_law.specs.Shaped.{AreConstants}
use Rattle.type_law.proofs.Constants.{constants_are}
use Rattle.fits_law.specs.State.{ConfFits}
use Rattle.fits_law.specs.Typed.{IsTyped}
use Rattle.agree_law.specs.Agree.{Naming, AreApart}
use Rattle.agree_law.specs.Blocks.{IsOf}
use Rattle.agree_law.specs.Evaluates.{IsKept}
use Rattle.agree_law.specs.Points.{Body}
use Rattle.agree_law.proofs.Machine.{machine}
use Rattle.call_law.specs.Known.{IsFunctionOf}
use Rattle.global_law.specs.Chains.{AreLed, ChainsAreRight}
use Rattle.global_law.specs.Walks.{writing}
use Rattle.plan_law.specs.InOrder.{IsAmong}
use Rattle.typed_law.specs.Conforms.{IsConforming, IsConformingIn}
use Rattle.typed_law.specs.Words.{IsSettingOfWords, IsStateOfWords}
use Rattle.typed_law.proofs.Values.{inside}
use Rattle.function_law.specs.UnderWay.{IsUnderWay, IsRuled}
use Rattle.function_law.proofs.UnderWay.{way_kept}
use Rattle.grammar_law.proofs.Ruled.Ruled.{contains_of}
use Rattle.global_law.specs.Sources.{chosen}
use Rattle.claim_law.specs.Claimed.{IsIn}
use Rattle.grammar_law.proofs.Unit.Lists.{as_in}
use Rattle.grammar_law.proofs.Unit.Ways.{HaveKinds, F, plan_is, written_is}
use Rattle.grammar_law.specs.Formed.{IsFormedFunction}
use Rattle.grammar_law.specs.Traced.{IsTraced}
use Rattle.grammar_law.proofs.Formed.Blocks.{reached_body}
use Rattle.grammar_law.proofs.Formed.Inner.{is_inner, accepted_inner}
use Rattle.grammar_law.proofs.Formed.Pointing.{accepted_chains}
use Rattle.grammar_law.proofs.Formed.Shaped.{AreGlobals, accepted_shaped}
use Rattle.text_law.proofs.Naming.Insts.{AllAsk}
use Rattle.text_law.proofs.Naming.Keys.{S, key, found as names_found, names}
use Rattle.text_law.proofs.Naming.Firsts.{of_in}
use Rattle.text_law.specs.Left.{IsLeftOfGlobals}
use Rattle.text_law.proofs.Outside.Text.{P as program_in}
use Rattle.text_law.proofs.Insts.Asks.{LeftBy, all_asked}
use Rattle.text_law.proofs.Insts.KindSteps.{is_effect, effect_of}
use Rattle.text_law.proofs.Insts.New.{stands_among}
use Rattle.text_law.proofs.Insts.Said.{PlaceBy, IsLeftOfPlaces, left_of_insts}
use Rattle.text_law.proofs.Steps.Atomics.{atomic_is_left}
use Rattle.text_law.proofs.Steps.Calls.{IsCallBefore, call_step, call_is_left}
use Rattle.text_law.proofs.Steps.Inserts.{composite_left, component_left}
use Rattle.text_law.proofs.Steps.Kept.{have_variables}
use Rattle.text_law.proofs.Steps.LocalTypes.{types_left}
use Rattle.text_law.proofs.Steps.NoAtomics.{no_atomics}
use Rattle.text_law.proofs.Steps.NoBarriers.{no_barriers}
use Rattle.text_law.proofs.Steps.Operands.{operands_say}
use Rattle.text_law.proofs.Steps.Operations.{inner, shapes, operations_left}
use Rattle.text_law.proofs.Steps.Pointed.{IsPointed, load_pointed, store_pointed, atomic_pointed}
use Rattle.text_law.proofs.Steps.Semantics.{control_left, memory_left}
use Rattle.text_law.proofs.Steps.Stores.{SayOperandsHere, WaysHere, load_is_left, store_is_left}
use Rattle.text_law.proofs.Steps.Ways.{IsSeenAt, ways_in, effect_seen}

module _ (bytes : List ℕ) (m : ModuleState) (o : Options) (read : IsReadFrom bytes m) (fine : IsFine m o) (unit : TranslationUnit) (u : IsUnitOf m o unit) (inv : Invocation) (told : IsInvocation inv) (left : IsLeftOfGlobals bytes m o)
    (right : IsConforming m o.entry) (kinds : HaveKinds m.globals) (p : FunctionPlan) (among : IsIn p u.plans) where
  abbrev s : Setting
  s = S m o unit u inv

  abbrev N : Naming
  N = names m o unit u inv p

  abbrev f : Function
  f = written p

  abbrev Fn : Function
  Fn = F s o.entry right kinds o unit u p among

  abbrev P : Program
  P = program_in bytes m o read fine unit u inv told left

  abbrev globals : ℕ → Option Expr
  globals = global_expr (source_of m o u.entry) (id_text (names_found m o unit u inv))

  abbrev its_key : Key → Text
  its_key = key m o unit u inv

  setting_is : writing s o.overrides f its_key globals ≡ p.scope.setting
  setting_is = subst (λ (w : Scope). writing s o.overrides w.setting.function its_key globals ≡ w.setting) (sym (plan_is s o.entry right kinds o unit u p among).scope_is) refl

  constants : AreConstants s
  constants = constants_are s (chosen s o.overrides) (λ n. refl) right.results

  chains : ChainsAreRight s
  chains = accepted_chains bytes m o read fine u.entry o.overrides inv

  are_globals : AreGlobals m.globals
  are_globals g there some = kinds g (as_in m.globals g there) some

  module _ (rules : IsRuled s (IsTraced s)) (words : IsSettingOfWords s) (is_one : IsFunctionOf f m.functions) (form : IsFormedFunction f) (k : ℕ) (calls : Text → List Argument → State → Result (Option Typed × State)) (apart : AreApart N) (IsLent : ℕ → ℕ → Type 0) (start : List (Frame × ℕ)) (given : ℕ → Option Held) where
    abbrev Way : Function → Conf → Type 0
    Way g = IsUnderWay s (IsTraced s) IsLent start g given

    abbrev keeps : IsKept (machine s) (Way f)
    keeps = way_kept s (IsTraced s) rules IsLent start f given

    one : IsFunctionOf Fn m.functions
    one = subst (λ (g : Function). IsFunctionOf g m.functions) (written_is s o.entry right kinds o unit u p among) is_one

    in_mod : Contains m.functions f
    in_mod = contains_of m.functions f is_one

    in_it : IsConformingIn m f
    in_it = inside s o.entry right f in_mod

    fitting : (g : Function) (c : Conf) → Way g c → ConfFits s c
    fitting g c way = way.known.fits

    low : (g : Function) (c : Conf) → Way g c → IsStateOfWords c
    low g c way = way.known.more.words

    typed_there : (j : Inst) → IsIn j (insts_of Fn) → IsTyped s Fn j (step_kind j.op)
    typed_there j there = rules.typed Fn one j (of_in (insts_of Fn) j there)

    typed_so : (j : Inst) → IsOf j (insts_of f) → IsTyped s f j (step_kind j.op)
    typed_so j there = rules.typed f is_one j there

    led : (c : Conf) → Way f c → AreLed s c.below c.top
    led c way = way.known.more.led.top (omega arith)

    inner_of : (j : Inst) → IsAmong j (insts_of f) → (is_inner (group_of j.op) ≡ true) × (has_type j.op ≡ false → j.result ≡ 0)
    inner_of j there = accepted_inner bytes m read f is_one j there

    shapes_of : (j : Inst) → IsAmong j (insts_of f) → has_type j.op ≡ true → is_value m.globals j.ty ≡ true → (t : Tree) × (type_tree m.globals j.ty ≡ Some t) × IsSized t
    shapes_of j there on value = accepted_shaped bytes m o read fine are_globals f is_one j there on value

    -- at an instruction of a reached block
    module _ (b : ℕ) (body : Body f b) (has : reached_body f form b ≡ Some body) (done befores : List Inst) (i : Inst) (rest : List Inst) (split : body.insts ≡ befores ++ i ∷ rest) (only : (j : Inst) → IsOf j done → IsOf j befores) (all : (j : Inst) → IsOf j befores → IsOf j done) where
      there : IsAmong i (insts_of f)
      there = stands_among m f in_it.order in_it.formed (λ j j_in. (inner_of j j_in).0) b body (form.blocks b body.block body.there) befores i rest split

      abbrev Seen : ℕ → Type 0
      Seen = IsSeenAt bytes m o read fine unit u inv told left right kinds p among rules.lends b i.at

      ways : WaysHere m o right kinds unit u inv p among rules.lends is_one P calls k apart (Way f) keeps form globals setting_is constants chains led typed_so b body done i rest Seen there
      ways c z stands n usable = ways_in bytes m o read fine unit u inv told left right kinds p among rules.lends constants one form b body has done befores i rest split all calls c.at z stands.agree.all n usable

      -- of one with an effect
      module _ (effect : is_effect (kind_of i.op) ≡ true) where
        says : SayOperandsHere m o right kinds unit u inv p among rules.lends is_one P calls k apart (Way f) keeps form globals setting_is constants chains led typed_so b body done i rest Seen there
        says c z stands j n word_is names_id value x has_it =
            operands_say bytes m o read fine unit u inv told left right kinds p among rules.lends one calls Way fitting low rules.fits words typed_there form b body has done befores i rest split all (inl (effect_of i.op effect)) c z stands j n word_is names_id value x has_it

        usable : IsPointed s o.entry right f in_mod i there → Seen (arg i 0)
        usable q = effect_seen bytes m o read fine unit u inv told left right kinds p among rules.lends constants one form b body has befores i rest split (effect_of i.op effect) 0 (arg i 0) q.word_is q.first.names_id q.first.value q.type q.shape q.points q.shaped

      effect_on : (q : InstKind) → kind_of i.op ≡ q → is_effect q ≡ true → is_effect (kind_of i.op) ≡ true
      effect_on q e on = subst (λ (x : InstKind). is_effect x ≡ true) (sym e) on

      load_met : kind_of i.op ≡ kind.Load → LeftBy m o right kinds unit u inv p among rules.lends is_one P calls k apart (Way f) keeps form b body done i rest kind.Load
      load_met e =
          load_is_left m o right kinds unit u inv p among rules.lends is_one P calls k apart (Way f) keeps form globals setting_is constants chains led typed_so b body done i rest Seen there e ways
          (usable (effect_on kind.Load e refl) (load_pointed s o.entry right f in_mod i there e))

      store_met : kind_of i.op ≡ kind.Store → LeftBy m o right kinds unit u inv p among rules.lends is_one P calls k apart (Way f) keeps form b body done i rest kind.Store
      store_met e =
          store_is_left m o right kinds unit u inv p among rules.lends is_one P calls k apart (Way f) keeps form globals setting_is constants chains led typed_so b body done i rest Seen there (inner_of i there).1 e (says (effect_on kind.Store e refl)) ways
          (usable (effect_on kind.Store e refl) (store_pointed s o.entry right f in_mod i there e))

      -- the place of each, but that of calls
      module _ (call_met : kind_of i.op ≡ kind.Call → LeftBy m o right kinds unit u inv p among rules.lends is_one P calls k apart (Way f) keeps form b body done i rest kind.Call) where
        place_met : (q : InstKind) → kind_of i.op ≡ q → PlaceBy m o right kinds unit u inv p among rules.lends one (inner bytes m o read fine unit u inv told left right kinds p among rules.lends one) (shapes bytes m o read fine unit u inv told left right kinds p among rules.lends one) P calls Way k apart keeps form is_one (no_barriers bytes m o read fine unit u inv told left) b body done i rest q
        place_met kind.Load e = load_met e
        place_met kind.Store e = store_met e
        place_met kind.Call e = call_met e
        place_met (kind.Atomic a) e =
            atomic_is_left m o right kinds unit u inv p among rules.lends is_one P calls k apart (Way f) keeps form globals setting_is constants chains led typed_so b body done i rest Seen there (no_atomics bytes m o read fine unit u inv told left) (says (effect_on (kind.Atomic a) e refl)) ways
            (usable (effect_on (kind.Atomic a) e refl) (atomic_pointed s o.entry right f in_mod i there a e)) a e
        place_met kind.ControlBarrier e =
            control_left bytes m o read fine unit u inv told left right kinds p among rules.lends rules.fits words P calls (Way f) (fitting f) (low f) is_one k apart keeps form (no_barriers bytes m o read fine unit u inv told left) b body done befores i rest split e
        place_met kind.MemoryBarrier e =
            memory_left bytes m o read fine unit u inv told left right kinds p among rules.lends rules.fits words P calls (Way f) (fitting f) (low f) is_one k apart keeps form (no_barriers bytes m o read fine unit u inv told left) b body done befores i rest split e
        place_met kind.Chain e = λ x x_in.
            let v = have_variables bytes m o read fine unit u inv told left right kinds p among rules.lends one form b body has done befores i rest split all e x x_in in
            record { written = v.written; own = v.own; there = v.there; shape = v.shape; same = v.same }
        place_met kind.CompositeInsert e =
            composite_left bytes m o read fine unit u inv told left right kinds p among rules.lends one calls (Way f) (fitting f) (low f) rules.fits words typed_there is_one k apart keeps form b body has done befores i rest split only all e
        place_met kind.VectorInsertDynamic e =
            component_left bytes m o read fine unit u inv told left right kinds p among rules.lends one calls (Way f) (fitting f) (low f) rules.fits words typed_there is_one k apart keeps form b body has done befores i rest split only all e
        place_met (kind.Value q) e = tt
        place_met kind.Silent e = tt

    -- what is left: that calls do what is asked of them
    abbrev pub AreCallsMet : Type 0
    AreCallsMet = (b : ℕ) (body : Body f b) → reached_body f form b ≡ Some body → (done befores : List Inst) (i : Inst) (rest : List Inst) → body.insts ≡ befores ++ i ∷ rest → ((j : Inst) → IsOf j done → IsOf j befores) → ((j : Inst) → IsOf j befores → IsOf j done)
        → kind_of i.op ≡ kind.Call → LeftBy m o right kinds unit u inv p among rules.lends is_one P calls k apart (Way f) keeps form b body done i rest kind.Call

    -- it is, where the functions that it calls stand before it
    abbrev pub AreCalledBefore : Type 1
    AreCalledBefore = (i : Inst) → IsOf i (insts_of f) → step_kind i.op ≡ steps.call → IsCallBefore bytes m o read fine unit u inv told left right kinds p among rules is_one form k calls apart IsLent start given i

    pub calls_met : AreCalledBefore → AreCallsMet
    calls_met before b body has done befores i rest split only all e =
        call_is_left bytes m o read fine unit u inv told left right kinds p among rules is_one form k calls apart IsLent start given b body done befores i rest split only (there b body has done befores i rest split only all)
        (says b body has done befores i rest split only all (effect_on b body has done befores i rest split only all kind.Call e refl)) e
        (before i (of_in (insts_of f) i (as_in (insts_of f) i (there b body has done befores i rest split only all))) (call_step i.op e))

    places_met : AreCallsMet → IsLeftOfPlaces m o right kinds unit u inv p among rules.lends one (inner bytes m o read fine unit u inv told left right kinds p among rules.lends one) (shapes bytes m o read fine unit u inv told left right kinds p among rules.lends one) P calls Way k apart keeps form is_one (no_barriers bytes m o read fine unit u inv told left)
    places_met met = record {
      places = λ b body has done befores i rest split only all. place_met b body has done befores i rest split only all (met b body has done befores i rest split only all) (kind_of i.op) refl;
      types = types_left bytes m o read fine unit u inv told left right kinds p among rules.lends is_one form;
    }

    -- The law: so of each reached block what is asked is met.
    pub insts_met : AreCallsMet → (b : ℕ) (body : Body f b) → reached_body f form b ≡ Some body → AllAsk P calls k N apart s (Way f) f b keeps p.scope [] body.insts (body.last ∷ [])
    insts_met met b body has =
        all_asked m o right kinds unit u inv p among rules.lends is_one P calls k apart (Way f) keeps form inner_of shapes_of typed_so
        (left_of_insts m o right kinds unit u inv p among rules.lends one (inner bytes m o read fine unit u inv told left right kinds p among rules.lends one) (shapes bytes m o read fine unit u inv told left right kinds p among rules.lends one) P calls Way k apart keeps form is_one (no_barriers bytes m o read fine unit u inv told left)
        (operations_left bytes m o read fine unit u inv told left right kinds p among rules.lends one calls Way fitting low rules.fits words typed_there) (places_met met))
        b body has
