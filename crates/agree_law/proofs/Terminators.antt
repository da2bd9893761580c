-- Where a block ends: the machine goes by an edge, gives what the text gives, or has no meaning.
use Rattle.std.proofs.Common.{◌≡◌, ◌⊎◌, ℕ, Bool, true, false, List, [], Option, Some, None, inl, inr, refl, sym, ap, ◌∙◌, subst}
use Rattle.std.specs.Prelude.{option_map, if◌then◌else◌, slice_get}
use Rattle.spv_ops.specs.declared.Terminator.{Terminator}
use Rattle.spv_ops.specs.declared.Terminator.TheVariants as ends
use Rattle.spv_module.specs.declared.inst.Inst.{Inst}
use Rattle.spv_module.specs.declared.inst.Function.{Function}
use Rattle.spv_types.specs.Tree.{ValueTree, truth}
use Rattle.spv_index.specs.Locals.{block_in}
use Rattle.traces.specs.Runs.{Act, go, wrong, Supplied, supplied}
use Rattle.traces.specs.Outcomes.{returns, Result, got}
use Rattle.traces.specs.Simulation.{Follows}
use Rattle.traces.proofs.Moves.{Never, stays, fails_now}
use Rattle.module_semantics.specs.Setting.{Setting}
use Rattle.module_semantics.specs.State.{Conf}
use Rattle.module_semantics.specs.Operands.{as_truth, value_at, truth_at, arg}
use Rattle.module_semantics.specs.Steps.{StepKind, branch, return, return_value, unreachable, step_kind, target_label, edge_step, gone_to}
use Rattle.glsl_ast.specs.Tree.{Text, Expr, give}
use Rattle.glsl_semantics.specs.Shapes.{Shape, boolean, Typed, typed}
use Rattle.glsl_semantics.specs.States.{State}
use Rattle.glsl_semantics.specs.Expressions.{Program, Argument, evaluate}
use Rattle.glsl_semantics.specs.Statements.{Run, stmt_run}
use Rattle.region_law.proofs.Regions.{names_of}
use Rattle.agree_law.specs.Answers.{move}
use Rattle.agree_law.specs.Agree.{Naming}
use Rattle.agree_law.specs.Evaluates.{IsKept}
use Rattle.agree_law.specs.Points.{Body, GivesBy, Stops, Arrives, Returns}
use Rattle.agree_law.proofs.Steps.{on_known}
use Rattle.agree_law.proofs.Machine.{machine, kind_is, edge_goes, branch_goes, branch_fails, return_value_fails}

truth_tells : (o : Option ValueTree) (v : Bool) → as_truth o ≡ Some v → o ≡ Some (truth v)
truth_tells None v e = cc
truth_tells (Some (truth u)) v e = let same : u ≡ v = cc in ap (λ u. Some (truth u)) same
truth_tells (Some (Rattle.spv_types.specs.Tree.word w)) v e = cc
truth_tells (Some (Rattle.spv_types.specs.Tree.many vs)) v e = cc

module _ (p : Program) (calls : Text → List Argument → State → Result (Option Typed × State)) (k : ℕ) (m : Naming) (s : Setting) (Holds : Conf → Type 0) (keeps : IsKept (machine s) Holds) (f : Function) (body : (b : ℕ) → Option (Body f b)) where
  abbrev Stop : ℕ → Supplied Conf → State → Type 0
  Stop = Stops m s Holds f body

  abbrev Arrive : ℕ → ℕ → Supplied Conf → State → Type 0
  Arrive = Arrives m s Holds f body

  abbrev pub Goes : Supplied Conf → (Supplied Conf → Type 0) → Type 0
  Goes c P = ((d : Supplied Conf) × (machine s c ≡ go [] d) × P d) ⊎ (machine s c ≡ wrong)

  -- the terminator of a block is of this kind
  abbrev pub EndsBy : ℕ → (Inst → Type 0) → Type 0
  EndsBy b P = (o : Body f b) → body b ≡ Some o → P o.last

  -- by the edge to the block with this label
  pub edge_ok : (b t label : ℕ) (o : Terminator) (c : Supplied Conf) (z : State) (stop : Stop b c z) → step_kind stop.body_of.last.op ≡ branch o → target_label o s c.at.top stop.body_of.last ≡ Some label → block_in f label ≡ Some t → Goes c (λ d. Arrive b t d z)
  edge_ok b t label o c z stop kind target there =
      let first : machine s c ≡ move (edge_step s c.at label) c.answers = kind_is s c stop.body_of.last [] (branch o) stop.at.next kind ∙ ap (λ (a : Act Conf). move a c.answers) (branch_goes s c.at o stop.body_of.last label target) in
      elim (edge_goes s c.at label t (ap (λ (g : Function). block_in g label) stop.at.stands.function ∙ there)) [
        | inl a ↦
            let goes_on : machine s c ≡ go [] (supplied (gone_to c.at t a.block a.values) c.answers) = first ∙ ap (λ (q : Act Conf). move q c.answers) a.goes_there in
            inl (
              supplied (gone_to c.at t a.block a.values) c.answers,
              goes_on,
              record {
                from = c;
                stops = stop;
                block = a.block;
                values = a.values;
                there = sym (ap (λ (g : Function). slice_get g.blocks t) stop.at.stands.function) ∙ a.there;
                sources = a.sources;
                at = refl;
                holds = keeps c (supplied (gone_to c.at t a.block a.values) c.answers) [] refl goes_on stop.at.stands.holds;
              },
            )
        | inr e ↦ inr (first ∙ ap (λ (q : Act Conf). move q c.answers) e)
      ]

  -- OpBranch
  pub jump_ok : (b t : ℕ) → EndsBy b (λ last. (step_kind last.op ≡ branch ends.Branch) × (block_in f (arg last 0) ≡ Some t)) → (c : Supplied Conf) (z : State) → Stop b c z → Goes c (λ d. Arrive b t d z)
  jump_ok b t is c z stop = let e = is stop.body_of stop.is in edge_ok b t (arg stop.body_of.last 0) ends.Branch c z stop e.0 refl e.1

  -- OpBranchConditional: where the condition has a value its expression says it
  pub branch_ok : (b t u : ℕ) (condition : Expr) → EndsBy b (λ last. (step_kind last.op ≡ branch ends.BranchConditional) × (block_in f (arg last 1) ≡ Some t) × (block_in f (arg last 2) ≡ Some u))
      → ((c : Supplied Conf) (z : State) (stop : Stop b c z) (v : Bool) → value_at s c.at.top (arg stop.body_of.last 0) ≡ Some (truth v) → evaluate p calls condition z ≡ got [] (typed boolean (truth v), z))
      → (c : Supplied Conf) (z : State) → Stop b c z
      → ((evaluate p calls condition z ≡ got [] (typed boolean (truth true), z)) × Goes c (λ d. Arrive b t d z))
      ⊎ (((evaluate p calls condition z ≡ got [] (typed boolean (truth false), z)) × Goes c (λ d. Arrive b u d z)) ⊎ (machine s c ≡ wrong))
  branch_ok b t u condition is says c z stop = by_truth (truth_at s c.at.top (arg i 0)) refl
    where
      i : Inst
      i = stop.body_of.last

      kind : step_kind i.op ≡ branch ends.BranchConditional
      kind = (is stop.body_of stop.is).0

      label : (v : Bool) → truth_at s c.at.top (arg i 0) ≡ Some v → target_label ends.BranchConditional s c.at.top i ≡ Some (if v then arg i 1 else arg i 2)
      label v has = ap (λ (o : Option Bool). option_map (λ (b : Bool). if b then arg i 1 else arg i 2) o) has

      by_truth : (o : Option Bool) → truth_at s c.at.top (arg i 0) ≡ o
          → ((evaluate p calls condition z ≡ got [] (typed boolean (truth true), z)) × Goes c (λ d. Arrive b t d z))
          ⊎ (((evaluate p calls condition z ≡ got [] (typed boolean (truth false), z)) × Goes c (λ d. Arrive b u d z)) ⊎ (machine s c ≡ wrong))
      by_truth None has = inr (inr (kind_is s c i [] (branch ends.BranchConditional) stop.at.next kind ∙ ap (λ (a : Act Conf). move a c.answers) (branch_fails s c.at ends.BranchConditional i (ap (λ (o : Option Bool). option_map (λ (b : Bool). if b then arg i 1 else arg i 2) o) has))))
      by_truth (Some true) has = inl (says c z stop true (truth_tells (value_at s c.at.top (arg i 0)) true has), edge_ok b t (arg i 1) ends.BranchConditional c z stop kind (label true has) (is stop.body_of stop.is).1)
      by_truth (Some false) has = inr (inl (says c z stop false (truth_tells (value_at s c.at.top (arg i 0)) false has), edge_ok b u (arg i 2) ends.BranchConditional c z stop kind (label false has) (is stop.body_of stop.is).2))

  -- OpUnreachable
  pub lost_ok : (b : ℕ) → EndsBy b (λ last. step_kind last.op ≡ unreachable) → (c : Supplied Conf) (z : State) → Stop b c z → machine s c ≡ wrong
  lost_ok b is c z stop = kind_is s c stop.body_of.last [] unreachable stop.at.next (is stop.body_of stop.is)

  -- OpReturn and OpReturnValue: the text gives nothing, or what the operand has
  abbrev pub GivesIt : ℕ → Option Expr → Inst → Type 0
  GivesIt b None last = (step_kind last.op ≡ return) × (m.result ≡ None)
  GivesIt b (Some e) last =
      (step_kind last.op ≡ return_value) × (t : Shape) × (m.result ≡ Some t)
      × ((c : Supplied Conf) (z : State) → Stop b c z → (v : ValueTree) → value_at s c.at.top (arg last 0) ≡ Some v → evaluate p calls e z ≡ got [] (typed t v, z))

  abbrev Ended : State → Supplied Conf → Option Typed → State → Type 0
  Ended z d r y = Returns m s Holds f body d r y × (names_of y.frames ≡ names_of z.frames)

  abbrev Leaves : State → Supplied Conf → Run → Type 0
  Leaves z c o = Follows (Supplied Conf) (machine s) State (Option Typed) (Never (Supplied Conf) (machine s) State (Option Typed)) (Never (Supplied Conf) (machine s) State (Option Typed)) (Never (Supplied Conf) (machine s) State (Option Typed)) (Ended z) 0 k c o

  pub return_ok : (b : ℕ) (e : Option Expr) → EndsBy b (GivesIt b e) → (c : Supplied Conf) (z : State) → Stop b c z → Leaves z c (stmt_run p calls k (give e) z)
  return_ok b None is c z stop =
      inl (record { to = c; comes = stays (Supplied Conf) (machine s) c; holds = (record { last = stop.body_of.last; rest = stop.at.next; gives = (let g = is stop.body_of stop.is in subst (λ (q : StepKind). GivesBy m.result s c.at.top stop.body_of.last q None) (sym g.0) (refl, g.1)); agree = stop.at.stands.agree.all; holds = stop.at.stands.holds; answers = stop.at.stands.answers }, refl) })
  return_ok b (Some e) is c z stop = by_value (value_at s c.at.top (arg i 0)) refl
    where
      i : Inst
      i = stop.body_of.last

      g : GivesIt b (Some e) i
      g = is stop.body_of stop.is

      by_value : (o : Option ValueTree) → value_at s c.at.top (arg i 0) ≡ o → Leaves z c (stmt_run p calls k (give (Some e)) z)
      by_value None has = inr (fails_now (Supplied Conf) (machine s) c _ (kind_is s c i [] return_value stop.at.next g.0 ∙ ap (λ (a : Act Conf). move a c.answers) (return_value_fails s c.at i has)))
      by_value (Some v) has =
          subst (Leaves z c) (sym (on_known (evaluate p calls e z) (typed g.1 v, z) (λ v. returns [] (Some v.0) v.1) (g.3 c z stop v has)))
          (inl (record { to = c; comes = stays (Supplied Conf) (machine s) c; holds = (record { last = i; rest = stop.at.next; gives = subst (λ (q : StepKind). GivesBy m.result s c.at.top i q (Some (typed g.1 v))) (sym g.0) (g.2, has); agree = stop.at.stands.agree.all; holds = stop.at.stands.holds; answers = stop.at.stands.answers }, refl) }))
