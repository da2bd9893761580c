-- The indexes that are kept of a chain where it stands: each has a variable there, of the shape in which it is kept.
use Rattle.std.proofs.Common.{◌≡◌, ◌⊎◌, ◌≤◌, ◌&&◌, ◌++◌, not, ℕ, Bool, true, false, List, [], ◌∷◌, drop, length, Some, None, refl, sym, ◌∙◌, subst, arith, if◌then◌else◌}
use Rattle.std.specs.Prelude.{nat_lt, slice_get, slice_index_or}
use Rattle.std.specs.List.{enumerate_from}
use Rattle.std.proofs.lemmas.Bool.{not-true, or_right}
use Rattle.spv_ops.specs.Groups.{is_chain}
use Rattle.spv_ops.specs.OpGroups.{group_of}
use Rattle.spv_ops.specs.Shape.{is_pure}
use Rattle.spv_module.specs.State.{ModuleState}
use Rattle.spv_module.specs.declared.inst.Inst.{Inst}
use Rattle.spv_module.specs.declared.inst.Function.{Function}
use Rattle.spv_index.specs.Locals.{insts_of}
use Rattle.structure_rules.specs.Graph.{graph}
use Rattle.conformance.specs.Rules.{Options}
use Rattle.module_check.specs.Judged.{IsFine}
use Rattle.module_check.specs.ReadFrom.{IsReadFrom}
use Rattle.traces.specs.Invocations.{Invocation, IsInvocation}
use Rattle.access_paths.specs.Ways.{is_constant_index, captured_indexes}
use Rattle.use_chains.specs.Links.{Link}
use Rattle.use_chains.specs.Slots.{inst_at, IsLive}
use Rattle.hoist_plan.specs.Plan.{mentions_of}
use Rattle.module_semantics.specs.Operands.{of_module}
use Rattle.module_semantics.specs.Setting.{Setting}
use Rattle.glsl_ast.specs.Tree.{name, TranslationUnit}
use Rattle.glsl_semantics.specs.Shapes.{Shape, same_shape}
use Rattle.expr_forward.specs.declared.kinds.InstKind.TheVariants as kind
use Rattle.expr_forward.specs.Kinds.{kind_of}
use Rattle.expr_forward.specs.Paths.{index_expr}
use Rattle.expr_forward.specs.Scope.{Scope}
use Rattle.expr_forward.specs.Statements.{captured_of}
use Rattle.function_text.specs.Functions.{FunctionPlan}
use Rattle.unit_rules.specs.Unit.{IsUnitOf}
use Rattle.agree_law.specs.Agree.{Naming}
use Rattle.agree_law.specs.Blocks.{IsOf, have_result}
use Rattle.agree_law.specs.Points.{Body}
use Rattle.call_law.specs.Known.{IsFunctionOf, LendsWhole}
use Rattle.global_law.proofs.Path.Based.{chain_op}
use Rattle.plan_law.specs.InOrder.{IsAmong}
use Rattle.typed_law.specs.Conforms.{IsConforming, IsConformingIn}
use Rattle.typed_law.proofs.Values.{inside}
use Rattle.claim_law.specs.Claimed.{IsIn}
use Rattle.grammar_law.proofs.Unit.Lists.{as_in, of_filter, of_numbered_first}
use Rattle.grammar_law.proofs.Unit.Links.{placed_in}
use Rattle.grammar_law.proofs.Unit.Ways.{HaveKinds, F, R, V, in_module, plan_is, reached_nth}
use Rattle.grammar_law.proofs.Meets.LiveOrGone.{placed_live}
use Rattle.grammar_law.specs.Formed.{IsFormedBlock, IsFormedFunction}
use Rattle.grammar_law.proofs.Formed.Blocks.{reached_body, reached_only}
use Rattle.grammar_law.proofs.Formed.Inner.{is_inner, accepted_inner}
use Rattle.text_law.proofs.Naming.Keys.{S, names}
use Rattle.text_law.specs.Left.{IsLeftOfGlobals}
use Rattle.text_law.proofs.Insts.KindSteps.{chain_step}
use Rattle.text_law.proofs.Insts.New.{split_behind, stands_in, stands_among}
use Rattle.text_law.proofs.Steps.Indexes.{carried_mentioned, number, own_shape, kept_shape, written_so, own_none, stands_there}

module _ (bytes : List ℕ) (m : ModuleState) (o : Options) (read : IsReadFrom bytes m) (fine : IsFine m o) (unit : TranslationUnit) (u : IsUnitOf m o unit) (inv : Invocation) (told : IsInvocation inv) (left : IsLeftOfGlobals bytes m o)
    (right : IsConforming m o.entry) (kinds : HaveKinds m.globals) (p : FunctionPlan) (among : IsIn p u.plans) (lends : LendsWhole (S m o unit u inv)) (one : IsFunctionOf (F (S m o unit u inv) o.entry right kinds o unit u p among) m.functions) where
  abbrev s : Setting
  s = S m o unit u inv

  abbrev N : Naming
  N = names m o unit u inv p

  abbrev gs : List Inst
  gs = m.globals

  abbrev Fn : Function
  Fn = F s o.entry right kinds o unit u p among

  abbrev Where : Scope
  Where = V s o.entry right kinds o unit u p among

  abbrev Marks : List Bool
  Marks = R s o.entry right kinds o unit u p among

  abbrev links : List Link
  links = (plan_is s o.entry right kinds o unit u p among).links

  in_it : IsConformingIn m Fn
  in_it = inside s o.entry right Fn (in_module s o.entry right kinds o unit u p among)

  inner : (j : Inst) → IsAmong j (insts_of Fn) → is_inner (group_of j.op) ≡ true
  inner j j_in = (accepted_inner bytes m read Fn one j j_in).0

  -- an index that has a variable behind these instructions
  pub record HasVariableFor (v : Scope) (done : List Inst) (q k n : ℕ) : Type 0 where
    pub written : index_expr v.setting n ≡ name (N.name n)
    pub own : of_module s n ≡ None
    pub there : (N.is_outer n ≡ true) ⊎ ((N.is_local n ≡ true) × (have_result done n ≡ true))
    pub shape : N.index_shape q k ≡ N.shape n
    pub same : same_shape (N.shape n) (N.shape n) ≡ true

  -- so have those that are kept of a chain
  abbrev pub HaveVariables : Scope → Type 0
  HaveVariables v = (form : IsFormedFunction v.setting.function) (b : ℕ) (body : Body v.setting.function b) → reached_body v.setting.function form b ≡ Some body → (done befores : List Inst) (i : Inst) (rest : List Inst) → body.insts ≡ befores ++ i ∷ rest → ((j : Inst) → IsOf j befores → IsOf j done) → kind_of i.op ≡ kind.Chain
      → (x : ℕ × ℕ) → IsIn x (captured_of v i) → HasVariableFor v done i.result x.0 x.1

  have_there : HaveVariables Where
  have_there form b body has done befores i rest split all e x x_in = by_carried (is_chain i.op) refl (Where.carried i.result) refl x_in
    where
      formed : IsFormedBlock body.block.insts
      formed = form.blocks b body.block body.there

      stands : IsIn i body.block.insts
      stands = stands_in m Fn in_it.order in_it.formed inner b body formed befores i rest split

      there : IsIn i (insts_of Fn)
      there = as_in (insts_of Fn) i (stands_among m Fn in_it.order in_it.formed inner b body formed befores i rest split)

      chain : is_chain i.op ≡ true
      chain = chain_op i.op (chain_step i.op e)

      place : (k : ℕ) × (inst_at Fn b k ≡ Some i)
      place = placed_in Fn b body.block i body.there stands

      reached : slice_index_or Marks b false ≡ true
      reached = reached_nth (graph Fn) b ∙ reached_only Fn form b body has

      -- what is carried is live
      live : Where.carried i.result ≡ true → IsLive Fn Marks b place.0
      live carried = placed_live s o.entry right kinds o unit u p among b place.0 i place.1 (or_right (not (is_pure i.op)) (nat_lt 0 (length (mentions_of links i.result))) (carried_mentioned Fn links i.result carried))

      by_index : Where.carried i.result ≡ true → (at : slice_get (drop 1 i.args) x.0 ≡ Some x.1) → is_constant_index gs x.1 ≡ false → HasVariableFor Where done i.result x.0 x.1
      by_index carried at off =
          let own = own_shape bytes m o read fine unit u inv told left right kinds p among lends i there chain x.0 x.1 at in
          record {
            written = written_so bytes m o read fine unit u inv told left right kinds p among lends i there chain x.0 x.1 at off;
            own = own_none bytes m o read fine unit u inv told left right kinds p among lends i there chain x.0 x.1 at off;
            there = stands_there bytes m o read fine unit u inv told left right kinds p among lends i there chain x.0 x.1 at off
                b body.block body.there stands place.0 place.1 reached (live carried) one done body formed befores i (rest ++ body.last ∷ []) (split_behind m Fn in_it.order in_it.formed inner b body formed befores i rest split) all (let itself : i.at ≤ i.at = omega arith in itself);
            shape = kept_shape bytes m o read fine unit u inv told left right kinds p among lends i there chain x.0 x.1 at ∙ sym own;
            same = subst (λ (t : Shape). same_shape t t ≡ true) (sym own) (number bytes m o read fine unit u inv told left right kinds p among lends i there chain x.0 x.1 at).1;
          }

      by_carried : (a : Bool) → is_chain i.op ≡ a → (c : Bool) → Where.carried i.result ≡ c → IsIn x (if a && c then captured_indexes gs i else []) → HasVariableFor Where done i.result x.0 x.1
      by_carried true on true carried x_there =
          let w = of_filter (λ (y : ℕ × ℕ). not (is_constant_index gs y.1)) (enumerate_from 0 (drop 1 i.args)) x x_there in
          by_index carried (of_numbered_first (drop 1 i.args) x.0 x.1 w.0) (not-true (is_constant_index gs x.1) w.1)
      by_carried true on false carried x_there = absurd x_there
      by_carried false on c carried x_there = absurd x_there

  -- The law.
  pub have_variables : HaveVariables p.scope
  have_variables = subst HaveVariables (sym (plan_is s o.entry right kinds o unit u p among).scope_is) have_there
