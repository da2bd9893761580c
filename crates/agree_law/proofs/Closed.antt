-- The agreement of states is closed under all that following a tree of regions asks of blocks and edges.
use Rattle.std.proofs.Common.{◌≡◌, ◌⊎◌, ◌==◌, ℕ, Bool, true, List, [], ◌∷◌, drop, Option, Some, None, inl, inr, refl, ap, ◌∙◌}
use Rattle.std.specs.Prelude.{flat_map, option_map}
use Rattle.spv_ops.specs.declared.Terminator.TheVariants as ends
use Rattle.spv_module.specs.declared.inst.Inst.{Inst}
use Rattle.spv_module.specs.declared.inst.Function.{Function}
use Rattle.spv_types.specs.Tree.{truth}
use Rattle.spv_index.specs.Locals.{block_in}
use Rattle.structure_recover.specs.Tree.{Groups, targets}
use Rattle.control_text.specs.declared.place.Place.{Place}
use Rattle.control_text.specs.Statements.{Blocks}
use Rattle.traces.specs.Runs.{Act, wrong, Supplied}
use Rattle.traces.specs.Outcomes.{behind_switch, Result, got}
use Rattle.traces.specs.Simulation.{Follows}
use Rattle.traces.proofs.Moves.{Never, NeverGives}
use Rattle.module_semantics.specs.Setting.{Setting}
use Rattle.module_semantics.specs.State.{Conf}
use Rattle.module_semantics.specs.Operands.{arg, value_at, word_at}
use Rattle.module_semantics.specs.Steps.{branch, unreachable, step_kind, case_label}
use Rattle.glsl_ast.specs.Tree as tree
use Rattle.glsl_ast.specs.Tree.{Text, Expr, Stmt, stmts_in}
use Rattle.glsl_ast.specs.declared.statements.Label.{Label}
use Rattle.glsl_semantics.specs.Shapes.{Typed, typed, boolean}
use Rattle.glsl_semantics.specs.States.{State}
use Rattle.glsl_semantics.specs.Expressions.{Program, Argument, literal_value, evaluate}
use Rattle.glsl_semantics.specs.Statements.{Run, is_case, entered, is_selector, stmt_run, stmts_run, arms_run}
use Rattle.glsl_semantics.proofs.Appended.{OnOutcome}
use Rattle.region_law.specs.Leads.{Term, jump, table, return, lost, In, AreApart}
use Rattle.region_law.specs.Leads as ending
use Rattle.region_law.proofs.Regions.{names_of, Keeps, Facts}
use Rattle.agree_law.specs.Answers.{move}
use Rattle.agree_law.specs.Agree.{Naming, IsOther}
use Rattle.agree_law.specs.Evaluates.{IsKept}
use Rattle.agree_law.specs.Points.{Body}
use Rattle.agree_law.specs.Tables.{IsPicked, Picks, arms}
use Rattle.agree_law.proofs.Points.{Start, Stop, Arrive, Return, start_declares, stop_declares, start_puts, start_enters, arrives_enters, start_exits, returns_exits}
use Rattle.agree_law.proofs.Insts.{AllFollow, block_follows}
use Rattle.agree_law.proofs.Machine.{machine, kind_is, branch_fails}
use Rattle.agree_law.proofs.Terminators.{EndsBy, GivesIt, Goes, edge_ok, jump_ok, branch_ok, return_ok, lost_ok}
use Rattle.agree_law.proofs.Tables.{picks, switch_runs}

module _ (p : Program) (calls : Text → List Argument → State → Result (Option Typed × State)) (k : ℕ) (m : Naming) (s : Setting) (Holds : Conf → Type 0) (keeps : IsKept (machine s) Holds) (f : Function) (body : (b : ℕ) → Option (Body f b))
    (w : Blocks) (term : ℕ → Term) (falls : ℕ → Option ℕ) (IsFlag : Text → Type 0) (text : ℕ → Inst → List Stmt) where
  abbrev C : Type 0
  C = Supplied Conf

  abbrev Plain : (C → State → Type 0) → C → Run → Type 0
  Plain P c o = Follows C (machine s) State (Option Typed) P (Never C (machine s) State (Option Typed)) (Never C (machine s) State (Option Typed)) (NeverGives C (machine s) State (Option Typed)) 0 k c o

  abbrev runs : List Stmt → State → Run
  runs xs = stmts_run p calls k (stmts_in xs)

  abbrev Ends : ℕ → (Inst → Type 0) → Type 0
  Ends = EndsBy p calls k m s Holds keeps f body

  -- for each word that the selector may have, the block to which the module goes is the target of the group that the word picks
  pub record AreCases (h : ℕ) (gs : Groups) : Type 0 where
    pub once : AreApart (targets gs)
    pub written : (u : ℕ) → In u (targets gs) → In u (w.order h)
    pub each : (o : Body f h) → body h ≡ Some o → (x : ℕ) → (t : ℕ) × (block_in f (case_label x (arg o.last 1) (drop 2 o.last.args)) ≡ Some t) × IsPicked x t gs

  -- what is asked of what is written of the blocks of a function and of the edges between them
  pub record AreWritten : Type 0 where
    pub flags : (x : Text) → IsFlag x → IsOther m x
    pub again_flag : (h : ℕ) (x : Text) → w.again h ≡ Some x → IsFlag x
    pub leave_flag : (h : ℕ) (x : Text) → w.leave h ≡ Some x → IsFlag x
    pub fell_flag : (t : ℕ) (x : Text) → w.fell t ≡ Some x → IsFlag x
    -- blocks: the text of each instruction does what it does, and no flag is written
    pub insts : (b : ℕ) (o : Body f b) → body b ≡ Some o → (w.statements b ≡ flat_map (text b) o.insts) × AllFollow p calls k m s Holds f (machine s) (text b) b [] o.insts (o.last ∷ [])
    pub block_keeps : (b : ℕ) (z : State) (t : List Text) (ns : List (List Text)) → names_of z.frames ≡ t ∷ ns → OnOutcome (Keeps IsFlag z) (runs (w.statements b) z)
    -- edges
    pub copies : (b t : ℕ) (c : C) (z : State) → Arrive m s Holds f body b t c z → Plain (Start m s Holds f body t) c (runs (w.copies b t) z)
    pub copies_keep : (b t : ℕ) (z : State) (top : List Text) (ns : List (List Text)) → names_of z.frames ≡ top ∷ ns → OnOutcome (Keeps IsFlag z) (runs (w.copies b t) z)
    pub fallen_copies : (h t u : ℕ) → falls t ≡ Some u → w.fell u ≡ None → w.copies h u ≡ []
    -- terminators, with what their expressions say
    pub jumps : (b t : ℕ) → term b ≡ jump t → Ends b (λ last. (step_kind last.op ≡ branch ends.Branch) × (block_in f (arg last 0) ≡ Some t))
    pub branches : (b t u : ℕ) → term b ≡ ending.branch t u → Ends b (λ last. (step_kind last.op ≡ branch ends.BranchConditional) × (block_in f (arg last 1) ≡ Some t) × (block_in f (arg last 2) ≡ Some u))
    pub conditions : (b t u : ℕ) → term b ≡ ending.branch t u → (c : C) (z : State) (stop : Stop m s Holds f body b c z) (v : Bool) → value_at s c.at.top (arg stop.body_of.last 0) ≡ Some (truth v) → evaluate p calls (w.condition b) z ≡ got [] (typed boolean (truth v), z)
    pub tables : (h : ℕ) → term h ≡ table → Ends h (λ last. step_kind last.op ≡ branch ends.Switch)
    pub selectors : (h : ℕ) → term h ≡ table → (c : C) (z : State) (stop : Stop m s Holds f body h c z) (x : ℕ) → word_at s c.at.top (arg stop.body_of.last 0) ≡ Some x
        → (v : Typed) × (is_selector v ≡ true) × ((l : ℕ) → is_case v (literal_value (w.case h l)) ≡ (l == x)) × (evaluate p calls (w.condition h) z ≡ got [] (v, z))
    pub returns : (b : ℕ) → term b ≡ return → Ends b (GivesIt p calls k m s Holds keeps f body b (w.value b))
    pub loses : (b : ℕ) → term b ≡ lost → Ends b (λ last. step_kind last.op ≡ unreachable)

  abbrev pub TheFacts : Type 0
  TheFacts = Facts C (machine s) p calls w term falls AreCases k IsFlag (Start m s Holds f body) (Stop m s Holds f body) (Arrive m s Holds f body) (Return m s Holds f body)

  module _ (a : AreWritten) where
    -- OpSwitch
    table_ok : (h : ℕ) (gs : Groups) (pl : Place) (c : C) (z : State) → term h ≡ table → AreCases h gs → Stop m s Holds f body h c z
        → (machine s c ≡ wrong) ⊎ ((t : ℕ) × (q : List Label → Bool) × In t (targets gs) × Picks w h t q gs × (stmt_run p calls k (tree.switch (w.condition h) (arms w h pl gs)) z ≡ behind_switch (arms_run p calls k (arms w h pl gs) q z)) × Goes p calls k m s Holds keeps f body c (λ d. Arrive m s Holds f body h t d z))
    table_ok h gs pl c z is cases stop = by_word (word_at s c.at.top (arg i 0)) refl
      where
        i : Inst
        i = stop.body_of.last

        kind : step_kind i.op ≡ branch ends.Switch
        kind = a.tables h is stop.body_of stop.is

        label : Option ℕ → Option ℕ
        label o = option_map (λ (x : ℕ). case_label x (arg i 1) (drop 2 i.args)) o

        by_word : (o : Option ℕ) → word_at s c.at.top (arg i 0) ≡ o
            → (machine s c ≡ wrong) ⊎ ((t : ℕ) × (q : List Label → Bool) × In t (targets gs) × Picks w h t q gs × (stmt_run p calls k (tree.switch (w.condition h) (arms w h pl gs)) z ≡ behind_switch (arms_run p calls k (arms w h pl gs) q z)) × Goes p calls k m s Holds keeps f body c (λ d. Arrive m s Holds f body h t d z))
        by_word None has = inl (kind_is s c i [] (branch ends.Switch) stop.at.next kind ∙ ap (λ (a : Act Conf). move a c.answers) (branch_fails s c.at ends.Switch i (ap label has)))
        by_word (Some x) has =
            let t = cases.each stop.body_of stop.is x in
            let v = a.selectors h is c z stop x has in
            inr (
              t.0,
              entered v.0 (arms w h pl gs),
              t.2.there,
              picks w h v.0 x v.2 pl t.0 gs cases.once cases.written t.2,
              switch_runs w h v.0 x v.2 pl p calls k gs z v.1 v.3,
              edge_ok p calls k m s Holds keeps f body h t.0 (case_label x (arg i 1) (drop 2 i.args)) ends.Switch c z stop kind (ap label has) t.1,
            )

    -- all that following a tree of regions asks
    pub facts : TheFacts
    facts = record {
      block_ok = block_follows p calls k m s Holds f (machine s) text body w.statements a.insts;
      copies_ok = a.copies;
      block_keeps = a.block_keeps;
      copies_keep = a.copies_keep;
      jump_ok = λ b t c z is stop. jump_ok p calls k m s Holds keeps f body b t (a.jumps b t is) c z stop;
      branch_ok = λ b t u c z is stop. branch_ok p calls k m s Holds keeps f body b t u (w.condition b) (a.branches b t u is) (a.conditions b t u is) c z stop;
      table_ok = table_ok;
      fallen_copies = a.fallen_copies;
      return_ok = λ b c z is stop. return_ok p calls k m s Holds keeps f body b (w.value b) (a.returns b is) c z stop;
      lost_ok = λ b c z is stop. lost_ok p calls k m s Holds keeps f body b (a.loses b is) c z stop;
      again_flag = a.again_flag;
      leave_flag = a.leave_flag;
      fell_flag = a.fell_flag;
      start_declares = λ t c z x flag start. start_declares m s Holds f body t c z x (a.flags x flag) start;
      stop_declares = λ t c z x flag stop. stop_declares m s Holds f body t c z x (a.flags x flag) stop;
      start_puts = λ t c z x b flag start. start_puts m s Holds f body t c z x b (a.flags x flag) start;
      start_enters = start_enters m s Holds f body;
      arrives_enters = arrives_enters m s Holds f body;
      start_exits = start_exits m s Holds f body;
      returns_exits = returns_exits m s Holds f body;
    }
