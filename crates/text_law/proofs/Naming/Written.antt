-- What is written of the blocks of a planned function, and of the edges between them, is as the law of functions asks, where it is known of each instruction and of each edge. Asked is it of reached blocks alone, since each call under way stands in one.
use Rattle.std.proofs.Common.{◌≡◌, ℕ, Bool, true, false, List, [], ◌∷◌, Option, Some, None, inl, inr, sym, ap, ◌∙◌, subst, if◌then◌else◌}
use Rattle.std.specs.Prelude.{◌==◌, option_map, option_and_then}
use Rattle.spv_ops.specs.Opcode.{is}
use Rattle.spv_ops.specs.declared.Op.TheVariants as code
use Rattle.spv_module.specs.declared.inst.Inst.{Inst}
use Rattle.spv_module.specs.declared.inst.Block.{Block}
use Rattle.spv_module.specs.declared.inst.Function.{Function}
use Rattle.spv_types.specs.Tree.{ValueTree, truth}
use Rattle.spv_index.specs.Locals.{insts_of}
use Rattle.structure_rules.specs.Graph.{terminator, graph}
use Rattle.structure_rules.specs.Nesting.{first_of}
use Rattle.structure_rules.specs.Structure.{fall_links}
use Rattle.traces.specs.Runs.{Supplied}
use Rattle.traces.specs.Outcomes.{Result, got}
use Rattle.module_semantics.specs.Setting.{Setting}
use Rattle.module_semantics.specs.State.{Conf}
use Rattle.module_semantics.specs.Operands.{arg, value_at, word_at}
use Rattle.glsl_ast.specs.Tree.{Text, Expr, stmts_in}
use Rattle.glsl_semantics.specs.Shapes.{Shape, Typed, typed, boolean}
use Rattle.glsl_semantics.specs.States.{State}
use Rattle.glsl_semantics.specs.Expressions.{Program, Argument, literal_value, evaluate}
use Rattle.glsl_semantics.specs.Statements.{is_case, is_selector, stmts_run}
use Rattle.glsl_semantics.proofs.Appended.{OnOutcome}
use Rattle.expr_forward.specs.Values.{value}
use Rattle.function_text.specs.Functions.{FunctionPlan, written, terminator_at, operand_in, condition_text, returned_by, returned, result_text, copies_text, case_text, blocks_of}
use Rattle.region_law.specs.Leads.{table, return}
use Rattle.region_law.specs.Leads as ending
use Rattle.region_law.proofs.Regions.{names_of, Keeps}
use Rattle.agree_law.specs.Agree.{Naming, AreApart, IsOther}
use Rattle.agree_law.specs.Evaluates.{IsKept}
use Rattle.agree_law.specs.Points.{Body, Stops}
use Rattle.agree_law.specs.Blocks.{IsOf}
use Rattle.agree_law.proofs.Closed.{AreWritten}
use Rattle.agree_law.proofs.Machine.{machine}
use Rattle.agree_law.proofs.Terminators.{GivesIt}
use Rattle.claim_law.proofs.Block.Blocks.{text_of, texts_are, condition_is, result_is}
use Rattle.edge_law.proofs.Copies.{IsTaken, IsEdge, copies_follow}
use Rattle.function_law.proofs.WholeEdges.{IsPlannedEdge, edge_whole}
use Rattle.typed_law.specs.Conforms.{IsFormed}
use Rattle.grammar_law.specs.Formed.{IsFormedFunction}
use Rattle.grammar_law.specs.Traced.{IsReachedBlock}
use Rattle.text_law.specs.Ends.{term_of, HasLabels}
use Rattle.grammar_law.proofs.Formed.Blocks.{reached_body, has_body}
use Rattle.text_law.proofs.Naming.Ends.{ends_by, jumps_to, branches_to, table_kind, return_kind, lost_kind}
use Rattle.text_law.proofs.Naming.Insts.{AllAsk, all_follow}

module _ (p : Program) (calls : Text → List Argument → State → Result (Option Typed × State)) (k : ℕ) (m : Naming) (apart : AreApart m) (chains : (q j : ℕ) → m.is_kept q j ≡ true → m.is_outer q ≡ false) (s : Setting) (Holds : Conf → Type 0) (keeps : IsKept (machine s) Holds)
    (f : Function) (form : IsFormedFunction f) (few : (i : Inst) → IsOf i (insts_of f) → IsFormed i) (labels : HasLabels f) (plan : FunctionPlan) (same : written plan ≡ f) (knows : (c : Conf) → Holds c → IsReachedBlock c.top.function c.top.block) (IsFlag : Text → Type 0) where
  abbrev pub body : (b : ℕ) → Option (Body f b)
  body = reached_body f form

  abbrev pub falls : ℕ → Option ℕ
  falls = first_of (fall_links (graph f))

  abbrev Stop : ℕ → Supplied Conf → State → Type 0
  Stop = Stops m s Holds f body

  -- What is left to other laws: names of flags, the instructions of reached blocks, edges that are taken, and what conditions, selectors and results say.
  pub record AreAsked : Type 0 where
    pub flags : (x : Text) → IsFlag x → IsOther m x
    pub again_flag : (h : ℕ) (x : Text) → (blocks_of plan).again h ≡ Some x → IsFlag x
    pub leave_flag : (h : ℕ) (x : Text) → (blocks_of plan).leave h ≡ Some x → IsFlag x
    pub fell_flag : (t : ℕ) (x : Text) → (blocks_of plan).fell t ≡ Some x → IsFlag x
    pub insts : (b : ℕ) (o : Body f b) → body b ≡ Some o → AllAsk p calls k m apart s Holds f b keeps plan.scope [] o.insts (o.last ∷ [])
    pub edges : (b t : ℕ) (o : Body f b) → body b ≡ Some o → (from : Conf) (block : Block) (values : List ValueTree) → IsTaken p calls k m apart chains s Holds f body b t from block values → (g : Body f t) → body t ≡ Some g → g.block ≡ block
        → IsPlannedEdge p calls k m apart chains s Holds f body s.of.globals plan.scope.form b t o (copies_text plan b t)
    pub block_keeps : (b : ℕ) (z : State) (t : List Text) (ns : List (List Text)) → names_of z.frames ≡ t ∷ ns → OnOutcome (Keeps IsFlag z) (stmts_run p calls k (stmts_in ((blocks_of plan).statements b)) z)
    pub copies_keep : (b t : ℕ) (z : State) (top : List Text) (ns : List (List Text)) → names_of z.frames ≡ top ∷ ns → OnOutcome (Keeps IsFlag z) (stmts_run p calls k (stmts_in (copies_text plan b t)) z)
    pub fallen_copies : (h t u : ℕ) → falls t ≡ Some u → (blocks_of plan).fell u ≡ None → copies_text plan h u ≡ []
    pub conditions : (b t u : ℕ) → term_of f b ≡ ending.branch t u → (c : Supplied Conf) (z : State) (stop : Stop b c z) (v : Bool) → value_at s c.at.top (arg stop.body_of.last 0) ≡ Some (truth v) → evaluate p calls (value plan.scope b (arg stop.body_of.last 0)) z ≡ got [] (typed boolean (truth v), z)
    pub selectors : (h : ℕ) → term_of f h ≡ table → (c : Supplied Conf) (z : State) (stop : Stop h c z) (x : ℕ) → word_at s c.at.top (arg stop.body_of.last 0) ≡ Some x
        → (v : Typed) × (is_selector v ≡ true) × ((l : ℕ) → is_case v (literal_value (case_text plan h l)) ≡ (l == x)) × (evaluate p calls (value plan.scope h (arg stop.body_of.last 0)) z ≡ got [] (v, z))
    pub gives_none : (b : ℕ) (o : Body f b) → body b ≡ Some o → term_of f b ≡ return → is o.last.op code.ReturnValue ≡ false → m.result ≡ None
    pub gives : (b : ℕ) (o : Body f b) → body b ≡ Some o → term_of f b ≡ return → is o.last.op code.ReturnValue ≡ true
        → (t : Shape) × (m.result ≡ Some t) × ((c : Supplied Conf) (z : State) → Stop b c z → (v : ValueTree) → value_at s c.at.top (arg o.last 0) ≡ Some v → evaluate p calls (value plan.scope b (arg o.last 0)) z ≡ got [] (typed t v, z))

  module _ (asked : AreAsked) where
    ends : (b : ℕ) (o : Body f b) → body b ≡ Some o → terminator o.block ≡ Some o.last
    ends b o has = (ends_by f form b o has).0

    -- an edge that is taken leads to a reached block
    edge_is : (b t : ℕ) (o : Body f b) → body b ≡ Some o → (from : Conf) (block : Block) (values : List ValueTree) → IsTaken p calls k m apart chains s Holds f body b t from block values → IsEdge p calls k m apart chains s Holds f body b t o (copies_text plan b t)
    edge_is b t o has from block values taken =
        let reached : IsReachedBlock f t = subst (λ (g : Function). IsReachedBlock g t) taken.function (knows _ taken.arrives) in
        let to = has_body f form t block taken.there reached in
        edge_whole p calls k m apart chains s Holds f body s.of.globals plan.scope.form b t o (copies_text plan b t) (asked.edges b t o has from block values taken to.0 to.1 to.2)

    says_condition : (b : ℕ) (o : Body f b) → body b ≡ Some o → condition_text plan b ≡ value plan.scope b (arg o.last 0)
    says_condition b o has = condition_is f b o (ends b o has) plan same

    no_result : (b : ℕ) (o : Body f b) → body b ≡ Some o → is o.last.op code.ReturnValue ≡ false → result_text plan b ≡ None
    no_result b o has off =
        let at : terminator_at f b ≡ Some o.last = ap (option_and_then terminator) o.there ∙ ends b o has in
        ap (λ (g : Function). option_map (value plan.scope b) (returned g b)) same
        ∙ ap (option_map (value plan.scope b)) (ap (option_and_then returned_by) at ∙ ap (λ (t : Bool). if t then Some (operand_in o.last) else None) off)

    returns_so : (b : ℕ) → term_of f b ≡ return → (o : Body f b) → body b ≡ Some o → GivesIt p calls k m s Holds keeps f body b (result_text plan b) o.last
    returns_so b is_return o has = elim (return_kind f form few labels b o has is_return) [
      | inl none ↦ subst (λ (e : Option Expr). GivesIt p calls k m s Holds keeps f body b e o.last) (sym (no_result b o has none.1)) (none.0, asked.gives_none b o has is_return none.1)
      | inr some ↦
          let g = asked.gives b o has is_return some.1 in
          subst (λ (e : Option Expr). GivesIt p calls k m s Holds keeps f body b e o.last) (sym (result_is f b o (ends b o has) plan same some.1)) (some.0, g.0, g.1, g.2)
    ]

    -- So it is with all that the law asks.
    pub are_written : AreWritten p calls k m s Holds keeps f body (blocks_of plan) (term_of f) falls IsFlag (text_of plan.scope)
    are_written = record {
      flags = asked.flags;
      again_flag = asked.again_flag;
      leave_flag = asked.leave_flag;
      fell_flag = asked.fell_flag;
      insts = λ b o has. (texts_are f b o (ends b o has) plan.scope same, all_follow p calls k m apart s Holds f b keeps plan.scope [] o.insts (o.last ∷ []) (asked.insts b o has));
      block_keeps = asked.block_keeps;
      copies = copies_follow p calls k m apart chains s Holds f body (copies_text plan) edge_is;
      copies_keep = asked.copies_keep;
      fallen_copies = asked.fallen_copies;
      jumps = λ b t is_jump o has. jumps_to f form few labels b o has t is_jump;
      branches = λ b t u is_branch o has. branches_to f form few labels b o has t u is_branch;
      conditions = λ b t u is_branch c z stop v has. ap (λ (e : Expr). evaluate p calls e z) (says_condition b stop.body_of stop.is) ∙ asked.conditions b t u is_branch c z stop v has;
      tables = λ h is_table o has. table_kind f form few labels h o has is_table;
      selectors = λ h is_table c z stop x has.
          let v = asked.selectors h is_table c z stop x has in
          (v.0, v.1, v.2, ap (λ (e : Expr). evaluate p calls e z) (says_condition h stop.body_of stop.is) ∙ v.3);
      returns = returns_so;
      loses = λ b is_lost o has. lost_kind f form few labels b o has is_lost;
    }
