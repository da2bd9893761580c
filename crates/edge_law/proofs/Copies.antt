-- Behind the copies of an edge the text's state agrees with the module's, whose phis took all their values at once.
use Rattle.std.proofs.Common.{◌≡◌, ◌⊎◌, ◌==◌, ℕ, Bool, true, false, List, [], ◌∷◌, map, Option, Some, None, Contains, inl, inr, refl, sym, ap, ◌∙◌, subst}
use Rattle.std.specs.Prelude.{slice_get}
use Rattle.spv_module.specs.declared.inst.Inst.{Inst}
use Rattle.spv_module.specs.declared.inst.Block.{Block}
use Rattle.spv_module.specs.declared.inst.Function.{Function}
use Rattle.spv_types.specs.Tree.{ValueTree, word}
use Rattle.phi_copies.specs.declared.moves.Move.{Move}
use Rattle.phi_copies.specs.Sequence.{Pair, target}
use Rattle.phi_copies.specs.Meaning.{State as Values, value as value_by, run, IsAtOnce}
use Rattle.op_semantics.specs.Component.{each_one}
use Rattle.traces.specs.Runs.{Supplied, supplied}
use Rattle.traces.specs.Outcomes.{Result, got}
use Rattle.traces.specs.Simulation.{Follows}
use Rattle.traces.proofs.Moves.{Never, NeverGives, stays}
use Rattle.module_semantics.specs.Setting.{Setting}
use Rattle.module_semantics.specs.State.{Root, global, own, lent, Held, value, pointer, Frame, Conf}
use Rattle.module_semantics.specs.Steps.{phis, behind_phis, phi_value, present_label, with_phis, gone_to}
use Rattle.module_semantics.specs.Operands.{as_value}
use Rattle.glsl_ast.specs.Tree.{Text, Stmt, stmts_in}
use Rattle.glsl_semantics.specs.Shapes.{Typed, typed}
use Rattle.glsl_semantics.specs.States.{State}
use Rattle.glsl_semantics.specs.Expressions.{Program, Argument, type_of, evaluate}
use Rattle.glsl_semantics.specs.Statements.{Run, stmts_run}
use Rattle.agree_law.specs.Own.{Own}
use Rattle.agree_law.specs.Agree.{Naming, AreApart, variable_with, value_of, IfPointer, IsFar, target_value, Agree, AgreeIn}
use Rattle.agree_law.specs.Blocks.{have_result}
use Rattle.agree_law.specs.Points.{behind, Body, Starts, Arrives}
use Rattle.agree_law.proofs.Machine.{machine}
use Rattle.edge_law.specs.Copies.{EdgeNames, move_text, AreTyped, AllReads, SparesApart, V, AllRead}
use Rattle.edge_law.proofs.Moves.{Moved, moves_run}

-- an id has what it had, or what a phi took
pub phis_tell : (is : List Inst) (vs : List ValueTree) (ids : ℕ → Option Held) (n : ℕ) → (with_phis is vs ids n ≡ ids n) ⊎ ((u : ValueTree) × (with_phis is vs ids n ≡ Some (value u)))
phis_tell [] vs ids n = inl refl
phis_tell (i ∷ is) [] ids n = inl refl
phis_tell (i ∷ is) (v ∷ vs) ids n = by_test (n == i.result) (phis_tell is vs ids n)
  where
    by_test : (t : Bool) → (with_phis is vs ids n ≡ ids n) ⊎ ((u : ValueTree) × (with_phis is vs ids n ≡ Some (value u)))
        → (elim t as (λ t. Option Held) [ true ↦ Some (value v) | false ↦ with_phis is vs ids n ] ≡ ids n) ⊎ ((u : ValueTree) × (elim t as (λ t. Option Held) [ true ↦ Some (value v) | false ↦ with_phis is vs ids n ] ≡ Some (value u)))
    by_test true rest = inr (v, refl)
    by_test false rest = rest

-- of a pointer that is still there
still : (P : Root → List ℕ → Type 0) (g h o : Option Held) → h ≡ g → ((o ≡ g) ⊎ ((u : ValueTree) × (o ≡ Some (value u)))) → IfPointer h P → IfPointer o P
still P g h o same (inl is) q = subst (λ o. IfPointer o P) (same ∙ sym is) q
still P g h o same (inr u) q = subst (λ o. IfPointer o P) (sym u.1) tt

module _ (m : Naming) (apart : AreApart m) (chains : (q j : ℕ) → m.is_kept q j ≡ true → m.is_outer q ≡ false) (base : Conf) (is : List Inst) (vs : List ValueTree) (t : ℕ) (block : Block) where
  abbrev ids : ℕ → Option Held
  ids = with_phis is vs base.top.ids

  abbrev arrived : Conf
  arrived = record base { top = record base.top { block = t; rest = behind_phis block; ids = ids } }

  target_same : (c : Conf) → c.privates ≡ base.privates → c.below ≡ base.below → (r : Root) (path : List ℕ) → IsFar r → target_value c r path ≡ target_value arrived r path
  target_same c privates below (global id) path far = ap (λ (q : ℕ → Option ValueTree). target_value (record base { privates = q }) (global id) path) privates
  target_same c privates below (own id) path far = absurd far
  target_same c privates below (lent depth id) path far = ap (λ (q : List (Frame × ℕ)). target_value (record base { below = q }) (lent depth id) path) below

  -- an agreement with what the moves have is one with what the phis have
  pub arrives_in : (c : Conf) (z : State) → ((n : ℕ) → m.is_outer n ≡ true → value_of c n ≡ as_value (ids n)) → ((n : ℕ) → m.is_outer n ≡ false → c.top.ids n ≡ base.top.ids n) → c.top.variables ≡ base.top.variables → c.privates ≡ base.privates → c.below ≡ base.below
      → Agree m c z → AgreeIn m (have_result []) arrived z
  arrives_in c z outer same variables privates below a = record {
    all = record {
      outer = λ n e. subst (λ (o : Option ValueTree). Own z.frames (m.name n) (variable_with (m.shape n) o)) (outer n e) (a.outer n e);
      variables = λ n e. subst (λ (q : ℕ → Option ValueTree). Own z.frames (m.name n) (variable_with (m.shape n) (q n))) variables (a.variables n e);
      lents = λ n e. let l = a.lents n e in (l.0, l.1, still (λ r path. IsFar r × (l.0 ≡ target_value arrived r path)) (base.top.ids n) (c.top.ids n) (ids n) (same n (apart.lents n e).0) (phis_tell is vs base.top.ids n) (far (c.top.ids n) l.0 l.2));
      privates = λ n e. let q = a.privates n e in (q.0 ∙ ap (λ (f : ℕ → Option ValueTree). Some (variable_with (m.shape n) (f n))) privates, q.1);
      kept = λ q j e. let i = a.kept q j e in (i.0, i.1, still (λ r path. i.0 ≡ Some (word (m.index_in q j path))) (base.top.ids q) (c.top.ids q) (ids q) (same q (chains q j e)) (phis_tell is vs base.top.ids q) i.2);
      outside = a.outside;
    };
    local = λ n d e. let never : false ≡ true = d in cc;
  }
    where
      far : (h : Option Held) (o : Option ValueTree) → IfPointer h (λ r path. IsFar r × (o ≡ target_value c r path)) → IfPointer h (λ r path. IsFar r × (o ≡ target_value arrived r path))
      far None o l = tt
      far (Some (value u)) o l = tt
      far (Some (pointer r path)) o l = (l.0, l.1 ∙ target_same c privates below r path l.0)

-- the values of variables where an edge begins; no spare has one
abbrev pub first_values : Conf → Values V
first_values c = record { vars = value_of c; spares = λ j. None }

module _ (p : Program) (calls : Text → List Argument → State → Result (Option Typed × State)) (k : ℕ) (m : Naming) (apart : AreApart m) (chains : (q j : ℕ) → m.is_kept q j ≡ true → m.is_outer q ≡ false) (s : Setting) (Holds : Conf → Type 0) (f : Function) (body : (b : ℕ) → Option (Body f b)) where
  -- An edge, on which the phis of its block take these values.
  pub record IsTaken (b t : ℕ) (from : Conf) (block : Block) (values : List ValueTree) : Type 0 where
    pub function : from.top.function ≡ f
    pub at : from.top.block ≡ b
    pub there : slice_get f.blocks t ≡ Some block
    pub sources : each_one (phi_value s from.top (present_label from.top)) (phis block) ≡ Some values
    pub holds : Holds from
    pub arrives : Holds (gone_to from t block values)

  -- What is asked of the moves that are written of an edge: that they make copies at once, of what the phis with variables take, and each reads something.
  pub record IsEdge (b t : ℕ) (o : Body f b) (statements : List Stmt) : Type 0 where
    pub names : EdgeNames
    pub spares : SparesApart m names
    pub types : (j : ℕ) → type_of p (names.spare_type j) ≡ Some (names.spare_shape j)
    pub moves : List Move
    pub written : statements ≡ map (move_text m names) moves
    pub typed_moves : AreTyped m names moves
    pub reads : AllReads m names (have_result (behind [] o.insts)) moves
    pub constants : ℕ → V
    pub constants_say : (n : ℕ) (u : ValueTree) (c : Conf) (z : State) → names.is_constant n ≡ true → constants n ≡ Some u → AgreeIn m (have_result (behind [] o.insts)) c z → evaluate p calls (names.constant n) z ≡ got [] (typed (m.shape n) u, z)
    pub pairs : List Pair
    pub at_once : (st : Values V) → IsAtOnce V constants pairs st.vars (run V constants st moves).vars
    pub goes_to : Body f t
    pub there : body t ≡ Some goes_to
    -- a variable is the target of a pair, whose source has what its phi takes, or of none, and then of no phi
    pub each : (from : Conf) (block : Block) (values : List ValueTree) → IsTaken b t from block values → (n : ℕ) → m.is_outer n ≡ true
        → ((q : Pair) × Contains pairs q × (target q ≡ n) × (value_by V constants (value_of from) q.1 ≡ as_value (with_phis (phis block) values from.top.ids n)))
        ⊎ (((q : Pair) → Contains pairs q → target q ≡ n → ⊥) × (with_phis (phis block) values from.top.ids n ≡ from.top.ids n))
    pub all_read : (from : Conf) (block : Block) (values : List ValueTree) → IsTaken b t from block values → AllRead constants (first_values from) moves

  abbrev Plain : (Supplied Conf → State → Type 0) → Supplied Conf → Run → Type 0
  Plain P c o = Follows (Supplied Conf) (machine s) State (Option Typed) P (Never (Supplied Conf) (machine s) State (Option Typed)) (Never (Supplied Conf) (machine s) State (Option Typed)) (NeverGives (Supplied Conf) (machine s) State (Option Typed)) 0 k c o

  -- The copies of an edge lead to the start of its block: of one that is taken, so that its block is there and all its phis have values.
  pub copies_follow : (copies : ℕ → ℕ → List Stmt) → ((b t : ℕ) (o : Body f b) → body b ≡ Some o → (from : Conf) (block : Block) (values : List ValueTree) → IsTaken b t from block values → IsEdge b t o (copies b t)) → (b t : ℕ) (c : Supplied Conf) (z : State) → Arrives m s Holds f body b t c z → Plain (Starts m s Holds f body t) c (stmts_run p calls k (stmts_in (copies b t)) z)
  copies_follow copies edges b t c z a =
      subst (λ (c : Supplied Conf). Plain (Starts m s Holds f body t) c (stmts_run p calls k (stmts_in (copies b t)) z)) (sym a.at)
      (subst (λ (xs : List Stmt). Plain (Starts m s Holds f body t) there (stmts_run p calls k (stmts_in xs) z)) (sym e.written)
      (subst (Plain (Starts m s Holds f body t) there) (sym r.runs)
      (inl (record {
        to = there;
        comes = stays (Supplied Conf) (machine s) there;
        holds = record {
          body_of = e.goes_to;
          is = e.there;
          at = record {
            stands = record {
              function = a.stops.at.stands.function;
              block = refl;
              agree = arrives_in m apart chains from (phis a.block) a.values t a.block r.conf r.to outer r.follow.same r.follow.variables r.follow.privates r.follow.below r.follow.agree.all;
              settled = record { still = λ i is on. absurd is };
              holds = subst (λ (c : Supplied Conf). Holds c.at) a.at a.holds;
              answers = r.answers ∙ a.stops.at.stands.answers;
            };
            next = ap behind_of (sym a.there ∙ e.goes_to.there) ∙ e.goes_to.whole;
          };
        };
      }))))
    where
      from : Conf
      from = a.from.at

      there : Supplied Conf
      there = supplied (gone_to from t a.block a.values) a.from.answers

      taken : IsTaken b t from a.block a.values
      taken = record { function = a.stops.at.stands.function; at = a.stops.at.stands.block; there = a.there; sources = a.sources; holds = a.stops.at.stands.holds; arrives = subst (λ (c : Supplied Conf). Holds c.at) a.at a.holds }

      e : IsEdge b t a.stops.body_of (copies b t)
      e = edges b t a.stops.body_of a.stops.is from a.block a.values taken

      done : ℕ → Bool
      done = have_result (behind [] a.stops.body_of.insts)

      r : Moved p calls k m apart done e.names e.spares e.types e.constants e.constants_say from (first_values from) e.moves z
      r = moves_run p calls k m apart done e.names e.spares e.types e.constants e.constants_say from e.moves from (first_values from) z e.typed_moves e.reads (e.all_read from a.block a.values taken)
          (record { agree = a.stops.at.stands.agree; vars = λ n. refl; same = λ n off. refl; variables = refl; privates = refl; below = refl; saved = λ j u has. let never : None ≡ Some u = has in cc })

      behind_of : Option Block → List Inst
      behind_of None = []
      behind_of (Some b) = behind_phis b

      outer : (n : ℕ) → m.is_outer n ≡ true → value_of r.conf n ≡ as_value (with_phis (phis a.block) a.values from.top.ids n)
      outer n is = elim (e.each from a.block a.values taken n is) [
        | inl q ↦ r.follow.vars n ∙ subst (λ j. (run V e.constants (first_values from) e.moves).vars j ≡ value_by V e.constants (value_of from) q.0.1) q.2 ((e.at_once (first_values from)).given q.0 q.1) ∙ q.3
        | inr none ↦ r.follow.vars n ∙ (e.at_once (first_values from)).other n none.0 ∙ ap as_value (sym none.1)
      ]
