-- What the law of functions asks of the blocks and edges of a planned function, in the text of a module. What is left is asked of its instructions, of its edges, and of what the operands of its terminators say.
use Rattle.std.proofs.Common.{◌≡◌, ◌⊎◌, ◌==◌, ℕ, Bool, true, false, List, [], ◌∷◌, Option, Some, None, inl, inr, refl, sym, ap, ◌∙◌, subst, unwrap_or, if◌then◌else◌}
use Rattle.std.specs.Prelude.{option_and_then}
use Rattle.spv_ops.specs.Opcode.{is}
use Rattle.spv_ops.specs.declared.Op.TheVariants as code
use Rattle.spv_module.specs.State.{ModuleState}
use Rattle.spv_module.specs.declared.inst.Inst.{Inst}
use Rattle.spv_module.specs.declared.inst.Block.{Block}
use Rattle.spv_module.specs.declared.inst.Function.{Function}
use Rattle.spv_types.specs.Tree as plain
use Rattle.spv_types.specs.Tree.{Tree, ValueTree, truth, word}
use Rattle.spv_types.specs.Types.{elem_of, type_tree}
use Rattle.spv_index.specs.Locals.{insts_of, type_in}
use Rattle.op_semantics.specs.Fits.{fits}
use Rattle.conformance.specs.Rules.{Options}
use Rattle.traces.specs.Invocations.{Invocation}
use Rattle.traces.specs.Runs.{Supplied}
use Rattle.traces.specs.Outcomes.{Result, got}
use Rattle.module_semantics.specs.Setting.{Setting}
use Rattle.module_semantics.specs.State.{Held, Frame, Conf}
use Rattle.module_semantics.specs.Operands.{arg, value_at, word_at}
use Rattle.module_semantics.specs.Steps as steps
use Rattle.module_semantics.specs.Steps.{step_kind}
use Rattle.name_alloc.specs.Naming.{name_of}
use Rattle.glsl_ast.specs.Tree.{Text, TranslationUnit, Decl}
use Rattle.glsl_semantics.specs.Shapes.{Shape, boolean, int, uint, Typed, typed}
use Rattle.glsl_semantics.specs.States.{State, Thing}
use Rattle.glsl_semantics.specs.Expressions.{Program, Argument, literal_value, evaluate}
use Rattle.glsl_semantics.specs.Statements.{is_case, is_selector}
use Rattle.glsl_semantics.specs.Run.{calls_of}
use Rattle.list_law.proofs.Tests.{no_flip}
use Rattle.write_law.specs.Writes.{IsWithin}
use Rattle.region_law.specs.Leads.{table, return}
use Rattle.region_law.specs.Leads as ending
use Rattle.text_rules.specs.Constants.{Source}
use Rattle.text_rules.specs.Declarations.{shape_at}
use Rattle.expr_forward.specs.Scope.{Scope}
use Rattle.expr_forward.specs.Statements.{is_void_in}
use Rattle.expr_forward.specs.Values.{value}
use Rattle.function_text.specs.Functions.{FunctionPlan, written, first_operand, elem_at, case_text, copies_text}
use Rattle.unit_rules.specs.Unit.{source_of, IsUnitOf}
use Rattle.agree_law.specs.Agree.{Naming, AreApart}
use Rattle.agree_law.specs.Blocks.{IsOf}
use Rattle.agree_law.specs.Evaluates.{IsKept}
use Rattle.agree_law.specs.Points.{Body, Stops}
use Rattle.agree_law.proofs.Machine.{machine}
use Rattle.claim_law.proofs.Block.Blocks.{first_is}
use Rattle.edge_law.proofs.Copies.{IsTaken}
use Rattle.fits_law.specs.State.{value_shape, result_shape, HasShape, functions_of}
use Rattle.fits_law.specs.Typed.{IsTyped}
use Rattle.call_law.specs.Known.{IsFunctionOf, LendsWhole}
use Rattle.global_law.specs.Parts.{StructNames, shape_in}
use Rattle.global_law.specs.Walks.{struct_names}
use Rattle.global_law.specs.Sources.{source_of as run_source}
use Rattle.plan_law.specs.InOrder.{IsAmong}
use Rattle.typed_law.specs.Conforms.{IsFormed, IsConforming}
use Rattle.grammar_law.proofs.Ruled.Ruled.{contains_of, among_of}
use Rattle.claim_law.specs.Claimed.{IsIn}
use Rattle.claim_law.specs.Apart.{AreOfKeys}
use Rattle.function_law.specs.UnderWay.{IsUnderWay, IsRuled}
use Rattle.function_law.proofs.UnderWay.{way_kept}
use Rattle.function_law.proofs.Selectors.{word_value, selects}
use Rattle.function_law.proofs.WholeEdges.{IsPlannedEdge}
use Rattle.grammar_law.proofs.Unit.Ways.{HaveKinds, F, written_is}
use Rattle.grammar_law.specs.Formed.{IsFormedFunction}
use Rattle.grammar_law.specs.Traced.{IsReachedBlock, IsTraced}
use Rattle.text_law.specs.Ends.{term_of, HasLabels}
use Rattle.grammar_law.proofs.Formed.Blocks.{reached_body}
use Rattle.text_law.proofs.Naming.Ends.{ends_by, branches_to, table_kind, return_kind}
use Rattle.text_law.proofs.Naming.Insts.{AllAsk}
use Rattle.text_law.proofs.Naming.Keys.{S, key, names}
use Rattle.text_law.proofs.Naming.Written.{AreAsked}
use Rattle.safe_law.specs.Flags.{IsFlag, IsNoFlag}
use Rattle.safe_law.proofs.Flags.{flags_other, again_is_flag, leave_is_flag, fell_is_flag, planned}
use Rattle.safe_law.proofs.KeptFlags.{block_keeps, copies_keep}
use Rattle.text_law.proofs.Written.FallenCopies.{fallen_copies}
use Rattle.text_law.proofs.Written.Shapes.{has_shape, shape_of_value, value_has, of_truth, of_word}
use Rattle.text_law.proofs.Written.Mentions.{reads_first, return_reads}
use Rattle.text_law.proofs.Written.EndOperands.{conditional_kind, switch_kind, AreLeftAtEnds, say_at_ends}
use Rattle.text_law.proofs.Written.Ends.{gives_nothing, gives_some, number_shape, case_is}

-- the components of a number's type
elem_by : (f : ℕ → Option Tree) (x : Option ℕ) (t : Tree) → option_and_then f x ≡ Some t → option_and_then elem_of (f (unwrap_or x 0)) ≡ elem_of t
elem_by f None t is = cc
elem_by f (Some ty) t is = ap (option_and_then elem_of) is

module _ (m : ModuleState) (opts : Options) (unit : TranslationUnit) (u : IsUnitOf m opts unit) (inv : Invocation) (p : FunctionPlan) (among : IsIn p u.plans) where
  abbrev s : Setting
  s = S m opts unit u inv

  abbrev N : Naming
  N = names m opts unit u inv p

  abbrev f : Function
  f = written p

  abbrev Y : StructNames
  Y = struct_names (key m opts unit u inv)

  abbrev pub IsFlagHere : Text → Type 0
  IsFlagHere = IsFlag (name_of u.claimed)

  source_is : p.scope.setting.source ≡ source_of m opts u.entry
  source_is = ap (λ (w : Scope). w.setting.source) (planned m opts unit u p among).1.scope_is

  -- the program, in which names of its own stand for no flags, and the functions before; what is known of the module and of the names; and any call of the function
  module _ (right : IsConforming m opts.entry) (is_one : IsFunctionOf f m.functions) (keys : AreOfKeys (name_of u.claimed) N) (apart : AreApart N) (chains : (q j : ℕ) → N.is_kept q j ≡ true → N.is_outer q ≡ false) (ruled : IsRuled s (IsTraced s)) (form : IsFormedFunction f) (few : (i : Inst) → IsOf i (insts_of f) → IsFormed i) (labels : HasLabels f)
      (program : Program) (k : ℕ) (items : List Decl) (outside : (w : Text) (x : Thing) → program.things w ≡ Some x → IsWithin (IsNoFlag (name_of u.claimed)) x) (IsLent : ℕ → ℕ → Type 0) (start : List (Frame × ℕ)) (given : ℕ → Option Held) where
    abbrev calls : Text → List Argument → State → Result (Option Typed × State)
    calls = calls_of program k items

    abbrev Holds : Conf → Type 0
    Holds = IsUnderWay s (IsTraced s) IsLent start f given

    abbrev keeps : IsKept (machine s) Holds
    keeps = way_kept s (IsTraced s) ruled IsLent start f given

    abbrev body : (b : ℕ) → Option (Body f b)
    body = reached_body f form

    abbrev Stop : ℕ → Supplied Conf → State → Type 0
    Stop = Stops N s Holds f body

    -- the terminator of the block reads its first operand
    abbrev ReadsFirst : (b : ℕ) → Body f b → Type 0
    ReadsFirst b o = ((t e : ℕ) × (term_of f b ≡ ending.branch t e)) ⊎ ((term_of f b ≡ table) ⊎ (is o.last.op code.ReturnValue ≡ true))

    -- what instructions do, and the moves of edges that are taken
    abbrev pub AreInstsAsked : Type 0
    AreInstsAsked = (b : ℕ) (o : Body f b) → body b ≡ Some o → AllAsk program calls k N apart s Holds f b keeps p.scope [] o.insts (o.last ∷ [])

    abbrev pub AreEdgesAsked : Type 0
    AreEdgesAsked = (b t : ℕ) (o : Body f b) → body b ≡ Some o → (from : Conf) (block : Block) (values : List ValueTree) → IsTaken program calls k N apart chains s Holds f body b t from block values → (g : Body f t) → body t ≡ Some g → g.block ≡ block
        → IsPlannedEdge program calls k N apart chains s Holds f body m.globals p.scope.form b t o (copies_text p b t)

    -- What is left to be shown of a planned function: of its instructions, of the moves of edges that are taken, and that the expression of the operand of a terminator says its value.
    pub record IsLeftOfPlan : Type 0 where
      pub insts : AreInstsAsked
      pub edges : AreEdgesAsked
      pub says : (b : ℕ) (c : Supplied Conf) (z : State) (stop : Stop b c z) → ReadsFirst b stop.body_of → (v : ValueTree) → value_at s c.at.top (arg stop.body_of.last 0) ≡ Some v → evaluate program calls (value p.scope b (arg stop.body_of.last 0)) z ≡ got [] (typed (N.shape (arg stop.body_of.last 0)) v, z)

    -- a value that an id has, where the block ends, is of its type
    has_type_here : (b : ℕ) (c : Supplied Conf) (z : State) → Stop b c z → (n : ℕ) (v : ValueTree) → value_at s c.at.top n ≡ Some v → (t : Tree) × (value_shape s f n ≡ Some t) × (fits t v ≡ true)
    has_type_here b c z stop n v has =
        let fit = stop.at.stands.holds.known.fits.top.0 in
        has_shape (value_shape s f n) v (subst (λ (g : Function). HasShape (value_shape s g n) v) stop.at.stands.function (value_has s ruled.fits (functions_of c.at.below) c.at.top n v fit has))

    -- literals have the type of the selector
    cases_are : (h : ℕ) (o : Body f h) → body h ≡ Some o → (t : Tree) → value_shape s f (arg o.last 0) ≡ Some t → (t ≡ plain.int) ⊎ (t ≡ plain.uint) → (l : ℕ) → literal_value (case_text p h l) ≡ typed (N.shape (arg o.last 0)) (word l)
    cases_are h o has t shaped kind l =
        case_is (elem_at p.scope (type_in_scope (first_operand f h))) l ∙ ap (λ (x : Shape). typed x (word l)) (ap number_shape elem_is ∙ by_kind kind)
      where
        type_in_scope : ℕ → ℕ
        type_in_scope n = unwrap_or (type_in p.scope.setting.source.of.globals f n) 0

        elem_is : elem_at p.scope (type_in_scope (first_operand f h)) ≡ elem_of t
        elem_is =
            ap (λ (q : Source). option_and_then elem_of (type_tree q.of.globals (unwrap_or (type_in q.of.globals f (first_operand f h)) 0))) source_is
            ∙ (ap (λ (n : ℕ). option_and_then elem_of (type_tree m.globals (unwrap_or (type_in m.globals f n) 0))) (first_is f h o (ends_by f form h o has).0)
            ∙ elem_by (type_tree m.globals) (type_in m.globals f (arg o.last 0)) t shaped)

        shape_is : N.shape (arg o.last 0) ≡ shape_in s Y t
        shape_is = shape_of_value m opts unit u inv p (arg o.last 0) t shaped

        by_kind : (t ≡ plain.int) ⊎ (t ≡ plain.uint) → number_shape (elem_of t) ≡ N.shape (arg o.last 0)
        by_kind (inl same) = ap (λ (x : Tree). number_shape (elem_of x)) same ∙ sym (shape_is ∙ ap (shape_in s Y) same)
        by_kind (inr same) = ap (λ (x : Tree). number_shape (elem_of x)) same ∙ sym (shape_is ∙ ap (shape_in s Y) same)

    last_among : (b : ℕ) (o : Body f b) → body b ≡ Some o → IsAmong o.last (insts_of f)
    last_among b o has = among_of (insts_of f) o.last (ends_by f form b o has).2

    -- the operands of terminators say their values where what is left of the values of blocks is told where these end
    module _ (kinds : HaveKinds m.globals) (lends : LendsWhole s) where
      reads_so : (b : ℕ) (o : Body f b) → body b ≡ Some o → ReadsFirst b o → reads_first o.last.op ≡ true
      reads_so b o has (inl branch) = conditional_kind o.last.op (branches_to f form few labels b o has branch.0 branch.1 branch.2).0
      reads_so b o has (inr (inl is_table)) = switch_kind o.last.op (table_kind f form few labels b o has is_table)
      reads_so b o has (inr (inr on)) = return_reads o.last.op on

      pub one_so : IsFunctionOf (F s opts.entry right kinds opts unit u p among) m.functions
      one_so = subst (λ (g : Function). IsFunctionOf g m.functions) (written_is s opts.entry right kinds opts unit u p among) is_one

      abbrev Way : Function → Conf → Type 0
      Way g = IsUnderWay s (IsTraced s) IsLent start g given

      abbrev pub AreLeftOfEnds : Type 0
      AreLeftOfEnds = AreLeftAtEnds m opts right kinds unit u inv p among lends one_so program calls Way (λ g c way. way.known.fits) ruled.fits

      pub left_of_plan : AreInstsAsked → AreEdgesAsked → AreLeftOfEnds → IsLeftOfPlan
      left_of_plan insts edges left = record {
        insts = insts;
        edges = edges;
        says = λ b c z stop reads v has. say_at_ends m opts right kinds unit u inv p among lends one_so program calls Way (λ g c way. way.known.fits) ruled.fits left form b c z stop (reads_so b stop.body_of stop.is reads) v has;
      }

    module _ (left : IsLeftOfPlan) where
      condition_says : (b t e : ℕ) → term_of f b ≡ ending.branch t e → (c : Supplied Conf) (z : State) (stop : Stop b c z) (v : Bool) → value_at s c.at.top (arg stop.body_of.last 0) ≡ Some (truth v) → evaluate program calls (value p.scope b (arg stop.body_of.last 0)) z ≡ got [] (typed boolean (truth v), z)
      condition_says b t e is_branch c z stop v has =
          let w = has_type_here b c z stop (arg stop.body_of.last 0) (truth v) has in
          let shape : N.shape (arg stop.body_of.last 0) ≡ boolean = shape_of_value m opts unit u inv p (arg stop.body_of.last 0) w.0 w.1 ∙ ap (shape_in s Y) (of_truth w.0 v w.2) in
          subst (λ (x : Shape). evaluate program calls (value p.scope b (arg stop.body_of.last 0)) z ≡ got [] (typed x (truth v), z)) shape (left.says b c z stop (inl (t, e, is_branch)) (truth v) has)

      selector_says : (h : ℕ) → term_of f h ≡ table → (c : Supplied Conf) (z : State) (stop : Stop h c z) (x : ℕ) → word_at s c.at.top (arg stop.body_of.last 0) ≡ Some x
          → (v : Typed) × (is_selector v ≡ true) × ((l : ℕ) → is_case v (literal_value (case_text p h l)) ≡ (l == x)) × (evaluate program calls (value p.scope h (arg stop.body_of.last 0)) z ≡ got [] (v, z))
      selector_says h is_table c z stop x has =
          let n : ℕ = arg stop.body_of.last 0 in
          let w = has_type_here h c z stop n (word x) (word_value (value_at s c.at.top n) x has) in
          let kind = of_word w.0 x w.2 in
          let shape : N.shape n ≡ shape_in s Y w.0 = shape_of_value m opts unit u inv p n w.0 w.1 in
          selects program calls s c.at z n x (N.shape n) (value p.scope h n) (λ l. literal_value (case_text p h l)) (number_kind (N.shape n) w.0 shape kind) (cases_are h stop.body_of stop.is w.0 w.1 kind) (λ v had. left.says h c z stop (inr (inl is_table)) v had) has
        where
          number_kind : (x : Shape) (t : Tree) → x ≡ shape_in s Y t → (t ≡ plain.int) ⊎ (t ≡ plain.uint) → (x ≡ int) ⊎ (x ≡ uint)
          number_kind x t shape (inl same) = inl (shape ∙ ap (shape_in s Y) same)
          number_kind x t shape (inr same) = inr (shape ∙ ap (shape_in s Y) same)

      result_by : (b : Bool) → is_void_in m.globals f.result.0 ≡ b → N.result ≡ (if b then None else Some (shape_in s Y (shape_at (run_source s opts.overrides) f.result.0)))
      result_by b is = ap (λ (t : Bool). if t then None else Some (shape_in s Y (shape_at (run_source s opts.overrides) f.result.0))) is

      gives_none : (b : ℕ) (o : Body f b) → body b ≡ Some o → term_of f b ≡ return → is o.last.op code.ReturnValue ≡ false → N.result ≡ None
      gives_none b o has is_return off = by_kind (return_kind f form few labels b o has is_return)
        where
          by_kind : ((step_kind o.last.op ≡ steps.return) × (is o.last.op code.ReturnValue ≡ false)) ⊎ ((step_kind o.last.op ≡ steps.return_value) × (is o.last.op code.ReturnValue ≡ true)) → N.result ≡ None
          by_kind (inl none) = result_by true (gives_nothing s opts.entry right f (contains_of m.functions f is_one) o.last (last_among b o has) none.0)
          by_kind (inr some) = no_flip (is o.last.op code.ReturnValue) some.1 off

      gives : (b : ℕ) (o : Body f b) → body b ≡ Some o → term_of f b ≡ return → is o.last.op code.ReturnValue ≡ true
          → (t : Shape) × (N.result ≡ Some t) × ((c : Supplied Conf) (z : State) → Stop b c z → (v : ValueTree) → value_at s c.at.top (arg o.last 0) ≡ Some v → evaluate program calls (value p.scope b (arg o.last 0)) z ≡ got [] (typed t v, z))
      gives b o has is_return on = by_kind (return_kind f form few labels b o has is_return)
        where
          R : Shape
          R = shape_in s Y (shape_at (run_source s opts.overrides) f.result.0)

          same_body : (c : Supplied Conf) (z : State) (stop : Stop b c z) → stop.body_of ≡ o
          same_body c z stop = let both : Some stop.body_of ≡ Some o = sym stop.is ∙ has in cc

          typed_so : step_kind o.last.op ≡ steps.return_value → value_shape s f (arg o.last 0) ≡ result_shape s f
          typed_so kind = subst (λ (q : steps.StepKind). IsTyped s f o.last q) kind (ruled.typed f is_one o.last (ends_by f form b o has).2)

          says_it : step_kind o.last.op ≡ steps.return_value → (c : Supplied Conf) (z : State) → Stop b c z → (v : ValueTree) → value_at s c.at.top (arg o.last 0) ≡ Some v → evaluate program calls (value p.scope b (arg o.last 0)) z ≡ got [] (typed R v, z)
          says_it kind c z stop v had =
              let w = has_type_here b c z stop (arg o.last 0) v had in
              let own : value_at s c.at.top (arg stop.body_of.last 0) ≡ Some v = subst (λ (q : Body f b). value_at s c.at.top (arg q.last 0) ≡ Some v) (sym (same_body c z stop)) had in
              let reads : ReadsFirst b stop.body_of = inr (inr (subst (λ (q : Body f b). is q.last.op code.ReturnValue ≡ true) (sym (same_body c z stop)) on)) in
              let says = subst (λ (q : Body f b). evaluate program calls (value p.scope b (arg q.last 0)) z ≡ got [] (typed (N.shape (arg q.last 0)) v, z)) (same_body c z stop) (left.says b c z stop reads v own) in
              let result : type_tree m.globals f.result.0 ≡ Some w.0 = sym (typed_so kind) ∙ w.1 in
              let shape : N.shape (arg o.last 0) ≡ shape_in s Y (shape_at (run_source s opts.overrides) f.result.0)
              = shape_of_value m opts unit u inv p (arg o.last 0) w.0 w.1 ∙ sym (ap (λ (x : Option Tree). shape_in s Y (unwrap_or x plain.uint)) result) in
              subst (λ (x : Shape). evaluate program calls (value p.scope b (arg o.last 0)) z ≡ got [] (typed x v, z)) shape says

          by_kind : ((step_kind o.last.op ≡ steps.return) × (is o.last.op code.ReturnValue ≡ false)) ⊎ ((step_kind o.last.op ≡ steps.return_value) × (is o.last.op code.ReturnValue ≡ true))
              → (t : Shape) × (N.result ≡ Some t) × ((c : Supplied Conf) (z : State) → Stop b c z → (v : ValueTree) → value_at s c.at.top (arg o.last 0) ≡ Some v → evaluate program calls (value p.scope b (arg o.last 0)) z ≡ got [] (typed t v, z))
          by_kind (inl none) = no_flip (is o.last.op code.ReturnValue) on none.1
          by_kind (inr some) = (R, result_by false (gives_some s opts.entry right f (contains_of m.functions f is_one) o.last (last_among b o has) some.0), says_it some.0)

      -- So it is as the law of functions asks.
      pub asked : (knows : (c : Conf) → Holds c → IsReachedBlock c.top.function c.top.block) → AreAsked program calls k N apart chains s Holds keeps f form few labels p refl knows IsFlagHere
      asked knows = record {
        flags = flags_other (name_of u.claimed) u.lawful N keys;
        again_flag = again_is_flag m opts unit u p among;
        leave_flag = leave_is_flag m opts unit u p among;
        fell_flag = fell_is_flag m opts unit u p among;
        insts = left.insts;
        edges = left.edges;
        block_keeps = block_keeps m opts unit u p among program k items outside;
        copies_keep = copies_keep m opts unit u p among program k items outside;
        fallen_copies = fallen_copies m opts unit u p among;
        conditions = condition_says;
        selectors = selector_says;
        gives_none = gives_none;
        gives = gives;
      }
