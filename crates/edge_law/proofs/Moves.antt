-- What is written of the moves of an edge does what the moves do, where each reads something.
use Rattle.std.proofs.Common.{◌≡◌, ◌⊎◌, ◌==◌, ℕ, Bool, true, false, List, [], ◌∷◌, cond, map, Option, Some, inl, inr, refl, sym, ap, ◌∙◌, subst}
use Rattle.std.proofs.lemmas.Bool.Decides.{eqb_tells}
use Rattle.spv_types.specs.Tree.{ValueTree}
use Rattle.phi_copies.specs.declared.moves.Src.{Src}
use Rattle.phi_copies.specs.declared.moves.Src.TheVariants.{Var as Variable, Constant}
use Rattle.phi_copies.specs.declared.moves.Move.{Move}
use Rattle.phi_copies.specs.declared.moves.Move.TheVariants.{Set, Save, Restore}
use Rattle.phi_copies.specs.Meaning.{State as Values, value as value_by, step, run, put as put_by}
use Rattle.traces.specs.Outcomes.{normal, begun, then_do, Result, got}
use Rattle.spv_module.specs.declared.inst.Inst.{Inst}
use Rattle.module_semantics.specs.State.{value, Conf, put}
use Rattle.module_semantics.specs.Operands.{as_value}
use Rattle.glsl_ast.specs.Tree.{Text, name, stmts_in}
use Rattle.glsl_semantics.specs.Shapes.{Shape, Typed, typed}
use Rattle.glsl_semantics.specs.States.{State, found_in, put_in, declared}
use Rattle.glsl_semantics.specs.Expressions.{Program, Argument, type_of, evaluate}
use Rattle.glsl_semantics.specs.Statements.{Run, stmt_run, stmts_run}
use Rattle.region_law.proofs.Flags.{found_declared, other_declared, other_put}
use Rattle.agree_law.specs.Agree.{Naming, AreApart, variable_with, value_of, AgreeIn}
use Rattle.agree_law.specs.Blocks.{with_done}
use Rattle.agree_law.proofs.Owned.{own_found}
use Rattle.agree_law.proofs.Braces.{outer_named, declares_in}
use Rattle.agree_law.proofs.Changes.{with_put, put_same, put_other}
use Rattle.agree_law.proofs.InBlocks.{assigns_in}
use Rattle.agree_law.proofs.Steps.{assign_runs, declare_runs}
use Rattle.agree_law.proofs.Values.{name_says}
use Rattle.edge_law.specs.Copies.{EdgeNames, move_text, source_text, AreTyped, IsSource, IsRead, AllReads, SparesApart, V, AllRead}

put_own : (n k : ℕ) (x : V) (f : ℕ → V) → k ≡ n → put_by V k x f n ≡ x
put_own n k x f same = elim (eqb_tells k n) [ inl e ↦ ap (λ b. cond b x (f n)) e.0 | inr e ↦ absurd (e.1 same) ]

put_else : (n k : ℕ) (x : V) (f : ℕ → V) → (k ≡ n → ⊥) → put_by V k x f n ≡ f n
put_else n k x f ne = elim (eqb_tells k n) [ inl e ↦ absurd (ne e.1) | inr e ↦ ap (λ b. cond b x (f n)) e.0 ]

module _ (p : Program) (calls : Text → List Argument → State → Result (Option Typed × State)) (k : ℕ) (m : Naming) (apart : AreApart m) (done : ℕ → Bool) (e : EdgeNames) (spares : SparesApart m e) (types : (j : ℕ) → type_of p (e.spare_type j) ≡ Some (e.spare_shape j)) (constants : ℕ → V)
    (constants_say : (n : ℕ) (u : ValueTree) (c : Conf) (z : State) → e.is_constant n ≡ true → constants n ≡ Some u → AgreeIn m done c z → evaluate p calls (e.constant n) z ≡ got [] (typed (m.shape n) u, z)) (base : Conf) where
  -- The state of the text has what the moves have: by the ids of a configuration that is like the module's but for what was set so far.
  pub record Follow (c : Conf) (st : Values V) (z : State) : Type 0 where
    pub agree : AgreeIn m done c z
    pub vars : (n : ℕ) → value_of c n ≡ st.vars n
    -- nothing else has changed
    pub same : (n : ℕ) → m.is_outer n ≡ false → c.top.ids n ≡ base.top.ids n
    pub variables : c.top.variables ≡ base.top.variables
    pub privates : c.privates ≡ base.privates
    pub below : c.below ≡ base.below
    pub saved : (j : ℕ) (u : ValueTree) → st.spares j ≡ Some u → found_in z.frames (e.spare j) ≡ Some (variable_with (e.spare_shape j) (Some u))

  var_found : (c : Conf) (st : Values V) (z : State) → Follow c st z → (v : ℕ) (u : ValueTree) → (m.is_outer v ≡ true) ⊎ ((m.is_local v ≡ true) × (done v ≡ true)) → st.vars v ≡ Some u → found_in z.frames (m.name v) ≡ Some (variable_with (m.shape v) (Some u))
  var_found c st z f v u is has = by_place is ∙ ap (λ (o : Option ValueTree). Some (variable_with (m.shape v) o)) (f.vars v ∙ has)
    where
      by_place : (m.is_outer v ≡ true) ⊎ ((m.is_local v ≡ true) × (done v ≡ true)) → found_in z.frames (m.name v) ≡ Some (variable_with (m.shape v) (value_of c v))
      by_place (inl outer) = own_found z.frames (m.name v) _ (f.agree.all.outer v outer)
      by_place (inr local) = f.agree.local v local.1 local.0

  source_says : (c : Conf) (st : Values V) (z : State) → Follow c st z → (t : Shape) (src : Src) (u : ValueTree) → IsSource m e t src → IsRead m e done src → value_by V constants st.vars src ≡ Some u → evaluate p calls (source_text m e src) z ≡ got [] (typed t u, z)
  source_says c st z f t (Variable v) u type read has = subst (λ t. evaluate p calls (name (m.name v.0)) z ≡ got [] (typed t u, z)) type (name_says p calls z (m.name v.0) (m.shape v.0) u (var_found c st z f v.0 u read has))
  source_says c st z f t (Constant n) u type read has = subst (λ t. evaluate p calls (e.constant n.0) z ≡ got [] (typed t u, z)) type (constants_say n.0 u c z read has f.agree)

  -- fewer results are told of
  less_done : (n : ℕ) (c : Conf) (z : State) → AgreeIn m (with_done done n) c z → AgreeIn m done c z
  less_done n c z a = record { all = a.all; local = λ j d l. a.local j (by_test (j == n) d) l }
    where
      by_test : (t : Bool) {j : ℕ} → done j ≡ true → elim t as (λ t. Bool) [ true ↦ true | false ↦ done j ] ≡ true
      by_test true d = refl
      by_test false d = d

  -- a variable is set to what was read
  set_follows : (c : Conf) (st : Values V) (z : State) (v : ℕ) (u : ValueTree) (rest : List Inst) → m.is_outer v ≡ true → Follow c st z → Follow (with_put c rest v u) (record st { vars = put_by V v (Some u) st.vars }) (record z { frames = put_in z.frames (m.name v) u })
  set_follows c st z v u rest outer f = record {
    agree = less_done v (with_put c rest v u) (record z { frames = put_in z.frames (m.name v) u }) (assigns_in m apart done c z rest v u outer f.agree);
    vars = λ n. elim (eqb_tells n v) [
      | inl w ↦ ap as_value (ap (put c.top.ids v (value u)) w.1 ∙ put_same c.top.ids v (value u)) ∙ sym (put_own n v (Some u) st.vars (sym w.1))
      | inr w ↦ ap as_value (put_other c.top.ids v n (value u) w.1) ∙ f.vars n ∙ sym (put_else n v (Some u) st.vars (λ same. w.1 (sym same)))
    ];
    same = λ n off. put_other c.top.ids v n (value u) (λ same. let never : true ≡ false = sym outer ∙ (ap m.is_outer (sym same) ∙ off) in cc) ∙ f.same n off;
    variables = f.variables;
    privates = f.privates;
    below = f.below;
    saved = λ j x has. other_put z.frames (m.name v) (e.spare j) u (λ same. (spares.other j).name v (outer_named m v outer) (sym same)) ∙ f.saved j x has;
  }

  -- and a spare to what a variable has
  save_follows : (c : Conf) (st : Values V) (z : State) (j : ℕ) (u : ValueTree) → Follow c st z → Follow c (record st { spares = put_by V j (Some u) st.spares }) (record z { frames = declared z.frames (e.spare j) (variable_with (e.spare_shape j) (Some u)) })
  save_follows c st z j u f = record {
    agree = declares_in m c z done (e.spare j) (variable_with (e.spare_shape j) (Some u)) (spares.other j) f.agree;
    vars = f.vars;
    same = f.same;
    variables = f.variables;
    privates = f.privates;
    below = f.below;
    saved = λ n x has. elim (eqb_tells n j) [
      | inl w ↦
          let is : Some u ≡ Some x = sym (put_own n j (Some u) st.spares (sym w.1)) ∙ has in
          subst (λ i. found_in (declared z.frames (e.spare j) (variable_with (e.spare_shape j) (Some u))) (e.spare i) ≡ Some (variable_with (e.spare_shape i) (Some x))) (sym w.1)
          (found_declared z.frames (e.spare j) (variable_with (e.spare_shape j) (Some u)) ∙ ap (λ (o : Option ValueTree). Some (variable_with (e.spare_shape j) o)) is)
      | inr w ↦ other_declared z.frames (e.spare j) (e.spare n) (variable_with (e.spare_shape j) (Some u)) (λ same. w.1 (sym (spares.own j n same))) ∙ f.saved n x (sym (put_else n j (Some u) st.spares (λ same. w.1 (sym same))) ∙ has)
    ];
  }

  pub record Moved (st : Values V) (qs : List Move) (z : State) : Type 0 where
    pub conf : Conf
    pub to : State
    pub runs : stmts_run p calls k (stmts_in (map (move_text m e) qs)) z ≡ normal [] to
    pub follow : Follow conf (run V constants st qs) to
    pub answers : to.answers ≡ z.answers

  one_then : (st : Values V) (q : Move) (qs : List Move) (z y : State) → stmt_run p calls k (move_text m e q) z ≡ normal [] y → y.answers ≡ z.answers → Moved (step V constants st q) qs y → Moved st (q ∷ qs) z
  one_then st q qs z y runs same r = record {
    conf = r.conf;
    to = r.to;
    runs = ap (λ (o : Run). then_do o (stmts_run p calls k (stmts_in (map (move_text m e) qs)))) runs ∙ ap (λ (o : Run). begun [] o) r.runs;
    follow = r.follow;
    answers = r.answers ∙ same;
  }

  -- The moves one after another: each is followed, and reads something.
  pub moves_run : (qs : List Move) (c : Conf) (st : Values V) (z : State) → AreTyped m e qs → AllReads m e done qs → AllRead constants st qs → Follow c st z → Moved st qs z
  moves_run [] c st z types_are reads has f = record { conf = c; to = z; runs = refl; follow = f; answers = refl }
  moves_run (Set v src ∷ qs) c st z types_are reads has f =
      let u : ValueTree = has.0.0 in
      let x : Text = m.name v.0 in
      let y : State = record z { frames = put_in z.frames x u } in
      let runs = assign_runs p calls k z x (source_text m e src) (m.shape v.0) (value_of c v.0) u (own_found z.frames x _ (f.agree.all.outer v.0 types_are.0.0)) types_are.0.1 (source_says c st z f (m.shape v.0) src u types_are.0.2 reads.0 has.0.1) in
      let now : record st { vars = put_by V v.0 (Some u) st.vars } ≡ step V constants st (Set v src) = ap (λ (o : V). record st { vars = put_by V v.0 o st.vars }) (sym has.0.1) in
      one_then st (Set v src) qs z y runs refl (moves_run qs (with_put c [] v.0 u) (step V constants st (Set v src)) y types_are.1 reads.1 has.1 (subst (λ s. Follow (with_put c [] v.0 u) s y) now (set_follows c st z v.0 u [] types_are.0.0 f)))
  moves_run (Save j v ∷ qs) c st z types_are reads has f =
      let u : ValueTree = has.0.0 in
      let y : State = record z { frames = declared z.frames (e.spare j) (variable_with (e.spare_shape j) (Some u)) } in
      let says = subst (λ t. evaluate p calls (name (m.name v.0)) z ≡ got [] (typed t u, z)) types_are.0.1 (name_says p calls z (m.name v.0) (m.shape v.0) u (var_found c st z f v.0 u reads.0 has.0.1)) in
      let runs = declare_runs p calls k z (e.spare j) (e.spare_type j) (name (m.name v.0)) (e.spare_shape j) u (types j) types_are.0.0 says in
      let now : record st { spares = put_by V j (Some u) st.spares } ≡ step V constants st (Save j v) = ap (λ (o : V). record st { spares = put_by V j o st.spares }) (sym has.0.1) in
      one_then st (Save j v) qs z y runs refl (moves_run qs c (step V constants st (Save j v)) y types_are.1 reads.1 has.1 (subst (λ s. Follow c s y) now (save_follows c st z j u f)))
  moves_run (Restore v j ∷ qs) c st z types_are reads has f =
      let u : ValueTree = has.0.0 in
      let x : Text = m.name v.0 in
      let y : State = record z { frames = put_in z.frames x u } in
      let says = subst (λ t. evaluate p calls (name (e.spare j)) z ≡ got [] (typed t u, z)) types_are.0.2 (name_says p calls z (e.spare j) (e.spare_shape j) u (f.saved j u has.0.1)) in
      let runs = assign_runs p calls k z x (name (e.spare j)) (m.shape v.0) (value_of c v.0) u (own_found z.frames x _ (f.agree.all.outer v.0 types_are.0.0)) types_are.0.1 says in
      let now : record st { vars = put_by V v.0 (Some u) st.vars } ≡ step V constants st (Restore v j) = ap (λ (o : V). record st { vars = put_by V v.0 o st.vars }) (sym has.0.1) in
      one_then st (Restore v j) qs z y runs refl (moves_run qs (with_put c [] v.0 u) (step V constants st (Restore v j)) y types_are.1 reads.1 has.1 (subst (λ s. Follow (with_put c [] v.0 u) s y) now (set_follows c st z v.0 u [] types_are.0.0 f)))
