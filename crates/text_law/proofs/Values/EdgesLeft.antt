-- What the law of edges leaves of an edge that is taken, of an accepted module: the types of phis are declared in the text, constants say their values, and pairs are few.
use Rattle.std.proofs.Common.{◌≡◌, ℕ, true, false, List, [], map, Contains, Option, Some, unwrap_or, refl, sym, ap, ◌∙◌, subst}
use Rattle.std.specs.Prelude.{slice_get, slice_index_or}
use Rattle.spv_ops.specs.Opcode.{is, number}
use Rattle.spv_ops.specs.declared.Op.{Op}
use Rattle.spv_ops.specs.declared.Op.TheVariants as code
use Rattle.spv_module.specs.State.{ModuleState}
use Rattle.spv_module.specs.declared.inst.Inst.{Inst}
use Rattle.spv_module.specs.declared.inst.Block.{Block}
use Rattle.spv_module.specs.declared.inst.Function.{Function}
use Rattle.spv_types.specs.Tree.{Tree, ValueTree}
use Rattle.spv_types.specs.Types.{type_tree}
use Rattle.spv_decor.specs.Decorations.{local_insts}
use Rattle.spv_index.specs.Locals.{block_in, insts_of}
use Rattle.structure_rules.specs.declared.graph.Node.{Node}
use Rattle.structure_rules.specs.Graph.{graph}
use Rattle.conformance.specs.Rules.{Options}
use Rattle.module_check.specs.Judged.{IsFine}
use Rattle.module_check.specs.ReadFrom.{IsReadFrom}
use Rattle.traces.specs.Invocations.{Invocation, IsInvocation}
use Rattle.traces.specs.Outcomes.{Result, got}
use Rattle.module_semantics.specs.Setting.{Setting}
use Rattle.module_semantics.specs.State.{Conf}
use Rattle.module_semantics.specs.Steps.{is_phi}
use Rattle.use_chains.specs.Slots.{inst_at, IsLive}
use Rattle.name_alloc.specs.Naming.{name_of}
use Rattle.glsl_ast.specs.Tree.{Text, Expr, TranslationUnit}
use Rattle.glsl_semantics.specs.Shapes.{Typed, typed}
use Rattle.glsl_semantics.specs.States.{State}
use Rattle.glsl_semantics.specs.Expressions.{Program, Argument, evaluate}
use Rattle.expr_forward.specs.Scope.{Scope}
use Rattle.expr_forward.specs.Values.{variable}
use Rattle.function_plan.specs.Phis.{is_gone}
use Rattle.function_plan.specs.Planned.{is_reached_node}
use Rattle.function_text.specs.Functions.{FunctionPlan, written, constant_text}
use Rattle.unit_rules.specs.Unit.{source_of, claims_by, liveness_of, IsUnitOf}
use Rattle.plan_law.specs.InOrder.{IsAmong}
use Rattle.plan_law.proofs.Order.{among_right as body_right}
use Rattle.fits_law.specs.State.{ConfFits}
use Rattle.agree_law.specs.Agree.{Naming, AreApart, Agree}
use Rattle.call_law.specs.Known.{IsFunctionOf, LendsWhole}
use Rattle.typed_law.specs.Conforms.{IsConforming}
use Rattle.typed_law.proofs.Values.{among_functions}
use Rattle.global_law.proofs.Constant.Within.{value_misused}
use Rattle.claim_law.specs.Apart.{AreOfKeys}
use Rattle.claim_law.specs.Claimed.{IsIn, IsOf}
use Rattle.claim_law.proofs.Claim.Listed.{in_flat, at_place}
use Rattle.grammar_law.proofs.Unit.Lists.{as_among}
use Rattle.grammar_law.proofs.Unit.TypesWritten.{live_type_written}
use Rattle.grammar_law.proofs.Unit.Ways.{HaveKinds, F, R, V, plan_is, written_is, in_module, reached_nth}
use Rattle.grammar_law.specs.Formed.{IsFormedFunction}
use Rattle.text_law.proofs.Naming.Keys.{S, names}
use Rattle.text_law.proofs.Whole.Accepted.{few_pairs_so}
use Rattle.text_law.specs.Left.{IsLeftOfGlobals}
use Rattle.text_law.proofs.Outside.Constants.{IsMentioned, constant_says}
use Rattle.text_law.proofs.Outside.Text.{P as program_in}
use Rattle.text_law.proofs.Outside.Typed.{value_declared}
use Rattle.text_law.proofs.Moves.Standing.{AreDeclaredAt}
use Rattle.text_law.proofs.Moves.Planned.{IsLeftOfEdge}

no_variable : (o : Op) → is o code.Phi ≡ true → is o code.Variable ≡ false
unfolding number
no_variable code.Phi on = refl
no_variable o on = cc

module _ (bytes : List ℕ) (m : ModuleState) (o : Options) (read : IsReadFrom bytes m) (fine : IsFine m o) (unit : TranslationUnit) (u : IsUnitOf m o unit) (inv : Invocation) (told : IsInvocation inv) (left : IsLeftOfGlobals bytes m o)
    (right : IsConforming m o.entry) (kinds : HaveKinds m.globals) (p : FunctionPlan) (among : IsIn p u.plans) where
  abbrev s : Setting
  s = S m o unit u inv

  abbrev N : Naming
  N = names m o unit u inv p

  abbrev Fn : Function
  Fn = F s o.entry right kinds o unit u p among

  abbrev Where : Scope
  Where = V s o.entry right kinds o unit u p among

  abbrev P : Program
  P = program_in bytes m o read fine unit u inv told left

  in_it : Contains m.functions Fn
  in_it = in_module s o.entry right kinds o unit u p among

  -- constants as moves write them
  pub constant_text_says : (calls : Text → List Argument → State → Result (Option Typed × State)) (n : ℕ) (v : ValueTree) → IsMentioned bytes m o read fine unit u inv told left n → s.constants n ≡ Some v → (c : Conf) (z : State) → Agree N c z → evaluate P calls (constant_text p.scope n) z ≡ got [] (typed (N.shape n) v, z)
  constant_text_says calls n v mentioned has c z agree =
      let w = constant_says bytes m o read fine unit u inv told left p n v has mentioned calls c z agree in
      ap (λ (x : Scope). evaluate P calls (constant_text x n) z) (plan_is s o.entry right kinds o unit u p among).scope_is
      ∙ (ap (λ (q : Option Expr). evaluate P calls (unwrap_or q (variable Where n)) z) w.1 ∙ w.2)

  module _ (lives : (c place : ℕ) (i : Inst) → inst_at Fn c place ≡ Some i → is_gone (Where.form i.result) ≡ false → IsLive Fn (R s o.entry right kinds o unit u p among) c place) where
    declared : (t : ℕ) → AreDeclaredAt m o right kinds unit u inv p among lives P t
    declared t holder held reached i within phi kept v shape =
        let among_it : IsAmong i (insts_of Fn) = as_among (insts_of Fn) i (in_flat (λ (x : Block). x.insts) Fn.blocks holder i (at_place Fn.blocks t holder held) within) in
        let plan = plan_is s o.entry right kinds o unit u p among in
        let here : slice_index_or (liveness_of (source_of m o u.entry) p).reached t false ≡ true = ap (λ (g : List Node). slice_index_or (map is_reached_node g) t false) plan.graph_is ∙ (reached_nth (graph Fn) t ∙ reached) in
        let there : slice_get (written p).blocks t ≡ Some holder = subst (λ (f : Function). slice_get f.blocks t ≡ Some holder) (sym (written_is s o.entry right kinds o unit u p among)) held in
        let of_it : IsOf (claims_by (source_of m o u.entry) p) i = record { number = t; block = holder; there = there; among = within } in
        value_declared bytes m o read fine unit u inv told left p among i.ty v shape
        (value_misused m o.entry right i (body_right i m.globals (local_insts m) (among_functions m.functions Fn i in_it among_it)) (no_variable i.op phi))
        (λ j has. live_type_written m o unit u p among i of_it here (ap (λ (w : Scope). is_gone (w.form i.result)) plan.scope_is ∙ kept))

    module _ (lends : LendsWhole s) (one : IsFunctionOf Fn m.functions) (keys : AreOfKeys (name_of u.claimed) N) (form : IsFormedFunction (written p)) (places : (k : ℕ) (x : Block) → slice_get (written p).blocks k ≡ Some x → block_in (written p) x.label.0 ≡ Some k)
        (shaped : (i : Inst) → IsIn i (insts_of Fn) → is_phi i ≡ true → (t : Tree) × (type_tree m.globals i.ty ≡ Some t)) (calls : Text → List Argument → State → Result (Option Typed × State)) (k : ℕ) (apart : AreApart N) (chains : (q j : ℕ) → N.is_kept q j ≡ true → N.is_outer q ≡ false)
        (Holds : Conf → Type 0) (fits : (c : Conf) → Holds c → ConfFits s c) where
      -- the law
      pub edge_left : (b t : ℕ) → IsLeftOfEdge m o right kinds unit u inv p among lives lends one keys form places shaped P calls k apart chains Holds fits b t
      edge_left b t = record { declared = declared t; constants = constant_text_says calls; few = few_pairs_so bytes m o read fine unit u inv p among b t }
