-- The text of a function does what its blocks do, from the first moment of a call until it returns; and so a call of it in a text does what the call in the module does.
use Rattle.std.proofs.Common.{◌≡◌, ◌++◌, ℕ, List, [], ◌∷◌, map, Option, Some, inl, inr, refl, sym, ap, ◌∙◌, subst}
use Rattle.std.specs.Prelude.{slice_get}
use Rattle.spv_module.specs.declared.inst.Inst.{Inst}
use Rattle.spv_module.specs.declared.inst.Block.{Block}
use Rattle.spv_module.specs.declared.inst.Function.{Function}
use Rattle.structure_recover.specs.Tree.{Region}
use Rattle.control_text.specs.declared.place.Place.{Place}
use Rattle.control_text.specs.Statements.{Blocks, region_text}
use Rattle.traces.specs.Runs.{Supplied}
use Rattle.traces.specs.Outcomes.{Result, then_do}
use Rattle.traces.specs.Simulation.{Follows}
use Rattle.traces.proofs.Moves.{Never, begun_none, fails_more}
use Rattle.module_semantics.specs.Setting.{Setting}
use Rattle.module_semantics.specs.State as module_state
use Rattle.module_semantics.specs.State.{Held, Conf}
use Rattle.module_semantics.specs.Steps.{first_insts, behind_phis, entered}
use Rattle.glsl_ast.specs.Tree.{Text, Stmt, stmts_in}
use Rattle.glsl_semantics.specs.Shapes.{Typed}
use Rattle.glsl_semantics.specs.States.{Frame, State}
use Rattle.glsl_semantics.specs.Expressions.{Program, Argument}
use Rattle.glsl_semantics.specs.Statements.{Run, stmts_run}
use Rattle.glsl_semantics.proofs.Appended.{run_append}
use Rattle.region_law.specs.Leads.{Term, Ways, IsItem, Leads}
use Rattle.agree_law.specs.Agree.{Naming, Agree}
use Rattle.agree_law.specs.Points.{Body, Starts, Returns}
use Rattle.agree_law.proofs.Machine.{machine}
use Rattle.agree_law.proofs.Closed.{AreCases, AreWritten}
use Rattle.agree_law.proofs.Bodies.{AreNone, body_follows}
use Rattle.function_law.specs.UnderWay.{IsUnderWay, IsRuled}
use Rattle.function_law.specs.Passed.{NamesMemory}
use Rattle.function_law.specs.Tops.{Top, top_text, entries, AllSay, AreTops, AreFirst, IsEntered}
use Rattle.function_law.proofs.UnderWay.{way_kept}
use Rattle.function_law.proofs.TopText.{tops_follow}

module _ (p : Program) (calls : Text → List Argument → State → Result (Option Typed × State)) (k : ℕ) (s : Setting) (More : Conf → Type 0) (ruled : IsRuled s More) (m : Naming) (g : Function) (IsFlag : Text → Type 0) where
  -- What is written of a function: its top, and the tree of its blocks, of which it is known what each block and each edge does by itself, in whatever call of it.
  pub record IsWritten (stmts : List Stmt) : Type 1 where
    pub body : (b : ℕ) → Option (Body g b)
    pub first : Body g 0
    pub is_first : body 0 ≡ Some first
    pub blocks : Blocks
    pub term : ℕ → Term
    pub falls : ℕ → Option ℕ
    pub text : ℕ → Inst → List Stmt
    pub region : Region
    pub place : Place
    pub ways : Ways
    pub none : AreNone ways
    pub item : IsItem region
    pub tops : List Top
    pub is : stmts ≡ map top_text tops ++ region_text blocks place region
    pub says : AllSay p calls m tops
    pub tops_are : AreTops s m g tops
    pub variables : AreFirst s g tops
    pub names : NamesMemory m g
    pub written : (IsLent : ℕ → ℕ → Type 0) (start : List (module_state.Frame × ℕ)) (given : ℕ → Option Held) → AreWritten p calls k m s (IsUnderWay s More IsLent start g given) (way_kept s More ruled IsLent start g given) g body blocks term falls IsFlag text
    pub leads : (IsLent : ℕ → ℕ → Type 0) (start : List (module_state.Frame × ℕ)) (given : ℕ → Option Held) → Leads blocks term falls (AreCases p calls k m s (IsUnderWay s More IsLent start g given) (way_kept s More ruled IsLent start g given) g body blocks term falls IsFlag text) region place ways 0

  abbrev pub Gives : (Conf → Type 0) → ((b : ℕ) → Option (Body g b)) → Supplied Conf → Run → Type 0
  Gives Holds body d o =
      Follows (Supplied Conf) (machine s) State (Option Typed) (Never (Supplied Conf) (machine s) State (Option Typed)) (Never (Supplied Conf) (machine s) State (Option Typed)) (Never (Supplied Conf) (machine s) State (Option Typed)) (Returns m s Holds g body) 0 k d o

  module _ (stmts : List Stmt) (w : IsWritten stmts) (IsLent : ℕ → ℕ → Type 0) (start : List (module_state.Frame × ℕ)) (given : ℕ → Option Held) where
    abbrev Way : Conf → Type 0
    Way = IsUnderWay s More IsLent start g given

    first_of : (bs : List Block) (b : Block) → slice_get bs 0 ≡ Some b → first_insts bs ≡ behind_phis b
    first_of [] b e = cc
    first_of (c ∷ bs) b e = let same : c ≡ b = cc in ap behind_phis same

    entered_first : (hs : List Held) → (entered s g hs).rest ≡ w.first.insts ++ w.first.last ∷ []
    unfolding entered
    entered_first hs = first_of g.blocks w.first.block w.first.there ∙ w.first.whole

    entered_function : (hs : List Held) → (entered s g hs).function ≡ g
    unfolding entered
    entered_function hs = refl

    entered_block : (hs : List Held) → (entered s g hs).block ≡ 0
    unfolding entered
    entered_block hs = refl

    starts : (hs : List Held) (f : Frame) (d : Supplied Conf) (z : State) → IsEntered s m g hs f d z → Agree m d.at (record z { frames = entries w.tops f ∷ [] }) → Way d.at → Starts m s Way g w.body 0 d (record z { frames = entries w.tops f ∷ [] })
    starts hs f d z at agree way = record {
      body_of = w.first;
      is = w.is_first;
      at = record {
        stands = record {
          function = ap (λ (q : module_state.Frame). q.function) at.at ∙ entered_function hs;
          block = ap (λ (q : module_state.Frame). q.block) at.at ∙ entered_block hs;
          agree = record { all = agree; local = λ n e l. cc };
          settled = record { still = λ i is on. absurd is };
          holds = way;
          answers = at.answers;
        };
        next = ap (λ (q : module_state.Frame). q.rest) at.at ∙ entered_first hs;
      };
    }

    -- from the first moment of a call
    pub function_follows : (hs : List Held) (f : Frame) (d : Supplied Conf) (z : State) → IsEntered s m g hs f d z → Way d.at → Gives Way w.body d (stmts_run p calls k (stmts_in stmts) (record z { frames = f ∷ [] }))
    function_follows hs f d z at way =
        subst (λ xs. Gives Way w.body d (stmts_run p calls k (stmts_in xs) (record z { frames = f ∷ [] }))) (sym w.is)
        (subst (Gives Way w.body d) (sym (run_append p calls k (map top_text w.tops) (region_text w.blocks w.place w.region) (record z { frames = f ∷ [] }))) (elim (tops_follow p calls k s m g w.tops w.says w.tops_are w.variables hs f d z at w.names.lents) [
          | inl topped ↦
              subst (Gives Way w.body d) (sym (ap (λ (o : Run). then_do o (stmts_run p calls k (stmts_in (region_text w.blocks w.place w.region)))) topped.runs ∙ begun_none (stmts_run p calls k (stmts_in (region_text w.blocks w.place w.region)) (record z { frames = entries w.tops f ∷ [] }))))
              (body_follows p calls k m s Way (way_kept s More ruled IsLent start g given) g w.body w.blocks w.term w.falls IsFlag w.text (w.written IsLent start given) w.region w.place w.ways w.none w.item (w.leads IsLent start given) d (record z { frames = entries w.tops f ∷ [] }) (starts hs f d z at topped.agree way) _ [] refl)
          | inr fails ↦ inr (fails_more (Supplied Conf) (machine s) d [] _ fails)
        ]))
