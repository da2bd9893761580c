-- The text of a planned function is written as the law of functions asks, in whatever call of it, where what is declared at its top, its instructions and its edges are.
use Rattle.std.proofs.Common.{◌≡◌, ◌≤◌, ◌<◌, ◌+◌, ◌++◌, ℕ, true, false, List, [], ◌∷◌, length, map, drop, Option, Some, None, refl, sym, ap, ◌∙◌, subst, arith}
use Rattle.std.specs.Prelude.{slice_get}
use Rattle.spv_ops.specs.OpGroups.{group_of}
use Rattle.spv_ops.specs.Shape.{shape, count_of}
use Rattle.spv_ops.specs.Groups.{is_terminator}
use Rattle.spv_ops.specs.declared.Op.{Op}
use Rattle.spv_ops.specs.declared.Op.TheVariants as code
use Rattle.spv_module.specs.Inst.{has_type, has_result}
use Rattle.spv_module.specs.declared.inst.Inst.{Inst}
use Rattle.spv_module.specs.declared.inst.Block.{Block}
use Rattle.spv_module.specs.declared.inst.Function.{Function}
use Rattle.spv_index.specs.Locals.{insts_of}
use Rattle.structure_rules.specs.declared.graph.Node.{Node}
use Rattle.structure_rules.specs.declared.graph.Exit.{Exit}
use Rattle.structure_rules.specs.declared.graph.Exit.TheVariants.{Switch}
use Rattle.structure_rules.specs.Nesting.{first_of}
use Rattle.structure_rules.specs.Structure.{fall_links}
use Rattle.structure_rules.specs.Graph.{terminator, exit_of, exit_by, labels_by, graph, nth, is_switch}
use Rattle.structure_recover.specs.Follows.{firsts}
use Rattle.nest_place.specs.Nests.{IsSound}
use Rattle.switch_ladder.specs.Flags.{needs_leave}
use Rattle.traces.specs.Outcomes.{Result}
use Rattle.module_semantics.specs.Setting.{Setting}
use Rattle.module_semantics.specs.State.{Held, Frame, Conf}
use Rattle.glsl_ast.specs.Tree.{Text}
use Rattle.glsl_semantics.specs.Shapes.{Typed}
use Rattle.glsl_semantics.specs.States.{State}
use Rattle.glsl_semantics.specs.Expressions.{Program, Argument}
use Rattle.text_rules.specs.Constants.{Source}
use Rattle.control_text.specs.Statements.{region_text}
use Rattle.function_text.specs.Functions.{FunctionPlan, written, blocks_of, body_text}
use Rattle.unit_rules.specs.Translation.{Naming as Names, IsPlanOf}
use Rattle.region_law.specs.Leads.{In}
use Rattle.agree_law.specs.Agree.{Naming, AreApart}
use Rattle.agree_law.specs.Blocks.{IsOf}
use Rattle.agree_law.specs.Points.{Body}
use Rattle.claim_law.proofs.Block.Blocks.{text_of}
use Rattle.tree_law.specs.Serves.{no_ways}
use Rattle.tree_law.specs.Written.{FlagsApart}
use Rattle.function_law.specs.UnderWay.{IsUnderWay, IsRuled}
use Rattle.function_law.specs.Passed.{NamesMemory}
use Rattle.function_law.specs.Tops.{top_text, AllSay, AreTops, AreFirst}
use Rattle.function_law.proofs.CaseGroups.{AreOnceWords, IsSwitchOf}
use Rattle.function_law.proofs.Nodes.{node_is, switch_of}
use Rattle.function_law.proofs.OneFunction.{IsWritten}
use Rattle.function_law.proofs.PlannedText.{tops_of, body_is}
use Rattle.function_law.proofs.TreeWays.{none_out, begins_with, ways_lead}
use Rattle.function_law.proofs.UnderWay.{way_kept}
use Rattle.call_law.specs.Reached.{IsInReached}
use Rattle.typed_law.specs.Conforms.{IsFormed}
use Rattle.grammar_law.specs.Formed.{IsFormedFunction}
use Rattle.grammar_law.specs.Traced.{IsReachedBlock, IsTraced}
use Rattle.text_law.specs.Ends.{term_of, HasLabels}
use Rattle.grammar_law.proofs.Formed.Blocks.{reached_body, has_body}
use Rattle.text_law.proofs.Naming.Ends.{ends_by}
use Rattle.grammar_law.proofs.Formed.Reach.{first_marked}
use Rattle.grammar_law.proofs.Unit.Switching.{switch_exit}
use Rattle.text_law.proofs.Naming.Tree.{tree_written}
use Rattle.text_law.proofs.Naming.Written.{AreAsked, are_written}

switch_least : (p : Op) → exit_of p ≡ Switch → (n : ℕ) → (shape p).least ≤ 1 + count_of (has_type p) + count_of (has_result p) + n → 2 ≤ n
unfolding group_of shape
switch_least code.Switch e n le = omega (arith, le)
switch_least p e n le = cc

module _ (p : Program) (calls : Text → List Argument → State → Result (Option Typed × State)) (k : ℕ) (s : Setting) (ruled : IsRuled s (IsTraced s)) (m : Naming) (apart : AreApart m) (chains : (q j : ℕ) → m.is_kept q j ≡ true → m.is_outer q ≡ false) (IsFlag : Text → Type 0)
    (src : Source) (found : Names) (f : Function) (form : IsFormedFunction f) (few : (i : Inst) → IsOf i (insts_of f) → IsFormed i) (plan : FunctionPlan) (planned : IsPlanOf src found f plan) (same : written plan ≡ f) where
  abbrev Way : (ℕ → ℕ → Type 0) → List (Frame × ℕ) → (ℕ → Option Held) → Conf → Type 0
  Way IsLent start given = IsUnderWay s (IsTraced s) IsLent start f given

  -- the call under way stands in a reached block
  pub stands_reached : (IsLent : ℕ → ℕ → Type 0) (start : List (Frame × ℕ)) (given : ℕ → Option Held) (c : Conf) → Way IsLent start given c → IsReachedBlock c.top.function c.top.block
  stands_reached IsLent start given c way = let here : IsInReached s IsReachedBlock c.top = way.known.more.reached.top (omega arith) in here.reached

  -- What is left to other laws: the rules on labels and structure, what stands at the top, and what blocks and edges are asked.
  pub record IsKnownPlan : Type 1 where
    pub sound : IsSound (graph f)
    pub labels : HasLabels f
    pub once : (b : ℕ) (block : Block) (i : Inst) → slice_get f.blocks b ≡ Some block → terminator block ≡ Some i → exit_of i.op ≡ Switch → AreOnceWords (firsts (drop 2 i.args))
    pub flags : FlagsApart (blocks_of plan)
    pub inside : (h : ℕ) → needs_leave (graph f) h ≡ true → h < length (graph f)
    pub says : AllSay p calls m (tops_of plan.scope m s f.blocks)
    pub tops : AreTops s m f (tops_of plan.scope m s f.blocks)
    pub variables : AreFirst s f (tops_of plan.scope m s f.blocks)
    pub names : NamesMemory m f
    pub asked : (IsLent : ℕ → ℕ → Type 0) (start : List (Frame × ℕ)) (given : ℕ → Option Held) → AreAsked p calls k m apart chains s (Way IsLent start given) (way_kept s (IsTraced s) ruled IsLent start f given) f form few labels plan same (stands_reached IsLent start given) IsFlag

  module _ (known : IsKnownPlan) where
    -- switches
    switch_is : (h : ℕ) → (nth (graph f) h).reached ≡ true → is_switch (nth (graph f) h).exit ≡ true → (o : Body f h) → reached_body f form h ≡ Some o → IsSwitchOf f (graph f) h o.last
    switch_is h here on o has = by_args o.last.args refl ((switch_least o.last.op exit) (length o.last.args) (few o.last ended.2).least)
      where
        ended : (terminator o.block ≡ Some o.last) × (is_terminator o.last.op ≡ true) × IsOf o.last (insts_of f)
        ended = ends_by f form h o has

        exit : exit_of o.last.op ≡ Switch
        exit = sym (ap (λ (n : Node). n.exit) (node_is f h o.block o.there) ∙ ap exit_by ended.0) ∙ switch_exit (nth (graph f) h).exit on

        by_args : (args : List ℕ) → o.last.args ≡ args → 2 ≤ length args → IsSwitchOf f (graph f) h o.last
        by_args [] at few = absurd (omega (arith, few))
        by_args (a ∷ []) at few = absurd (omega (arith, few))
        by_args (a ∷ d ∷ words) at few =
            switch_of f h o.block o.last a d words o.there ended.0 exit at
            (λ label among. known.labels.there h o.block o.last o.there ended.0 label (subst (λ (x : Exit). In label (labels_by x o.last.args)) (sym exit) among))
            (subst (λ (l : List ℕ). AreOnceWords (firsts (drop 2 l))) at (known.once h o.block o.last o.there ended.0 exit))

    -- So its text is written as the law asks.
    pub function_written : IsWritten p calls k s (IsTraced s) ruled m f IsFlag (body_text plan)
    function_written =
        let reached = first_marked f form.first form.there in
        let first = has_body f form 0 form.first form.there reached in
        record {
          body = reached_body f form;
          first = first.0;
          is_first = first.1;
          blocks = blocks_of plan;
          term = term_of f;
          falls = first_of (fall_links (graph f));
          text = text_of plan.scope;
          region = plan.region;
          place = record { in_loop = None; continues = false; in_switch = false };
          ways = no_ways;
          none = none_out;
          item = begins_with f plan.region reached planned.tree;
          tops = tops_of plan.scope m s f.blocks;
          is = body_is plan m s ∙ ap (λ (g : Function). map top_text (tops_of plan.scope m s g.blocks) ++ region_text (blocks_of plan) (record { in_loop = None; continues = false; in_switch = false }) plan.region) same;
          says = known.says;
          tops_are = known.tops;
          variables = known.variables;
          names = known.names;
          written = λ IsLent start given. are_written p calls k m apart chains s (Way IsLent start given) (way_kept s (IsTraced s) ruled IsLent start f given) f form few known.labels plan same (stands_reached IsLent start given) IsFlag (known.asked IsLent start given);
          leads = λ IsLent start given. ways_lead p calls k m s (Way IsLent start given) (way_kept s (IsTraced s) ruled IsLent start f given) f (reached_body f form) (blocks_of plan) (term_of f) IsFlag (text_of plan.scope) known.sound
              (tree_written src found f form few plan planned known.flags known.inside) switch_is plan.region reached planned.tree;
        }
