-- A composite or a vector with another part: a copy is made, and the part assigned to.
use Rattle.std.proofs.Common.{◌≡◌, ℕ, Bool, true, false, List, [], ◌∷◌, Option, Some, None, inl, inr, refl, sym, ap, ◌∙◌, subst, arith, bytes_eq}
use Rattle.std.specs.Prelude.{option_map}
use Rattle.spv_module.specs.declared.inst.Inst.{Inst}
use Rattle.spv_module.specs.declared.inst.Function.{Function}
use Rattle.spv_types.specs.Tree.{ValueTree}
use Rattle.op_semantics.specs.Composite.{inserted}
use Rattle.traces.specs.Runs.{goes, fails, Supplied, supplied}
use Rattle.traces.specs.Outcomes.{normal, begun, then_do, Result, got, or_stuck}
use Rattle.traces.specs.Simulation.{Follows}
use Rattle.traces.proofs.Moves.{Never, NeverGives, one_step, fewer, fails_now}
use Rattle.module_semantics.specs.Setting.{Setting}
use Rattle.module_semantics.specs.State.{value, Conf}
use Rattle.module_semantics.specs.Steps.{operation, step_kind, computed, set_value}
use Rattle.glsl_ast.specs.Tree.{Text, TypeName, Expr, Stmt, declare, assign, LStep, lvalue, stmts_in}
use Rattle.glsl_semantics.specs.Shapes.{Shape, Typed, typed, tree_of_value, same_shape}
use Rattle.glsl_semantics.specs.States.{Variable, Frame, State, found, found_in, has, or_outer, put_first, put_in, declared, with_value, Thing, variable}
use Rattle.glsl_semantics.specs.Expressions.{Program, Argument, type_of, named, evaluate, steps}
use Rattle.glsl_semantics.specs.Statements.{Run, stmt_run, stmts_run}
use Rattle.region_law.proofs.Flags.{own_text, found_put, found_declared, in_found, same_has_first}
use Rattle.agree_law.specs.Agree.{Naming, AreApart, variable_with, value_of}
use Rattle.agree_law.specs.Blocks.{outcome, IsNew, At}
use Rattle.agree_law.specs.Evaluates.{IsKept, Gets}
use Rattle.agree_law.proofs.Owned.{own_found}
use Rattle.agree_law.proofs.Steps.{assign_runs, declare_runs}
use Rattle.agree_law.proofs.Evaluating.{assigned_at, declared_at}
use Rattle.agree_law.proofs.Stores.{part_runs, with_own}
use Rattle.agree_law.proofs.Instructions.{got_now, next}
use Rattle.agree_law.proofs.Machine.{machine, operation_goes, operation_fails}

-- a variable that is set twice has the second value
first_twice : (f : Frame) (x : Text) (u v : ValueTree) → put_first (put_first f x u) x v ≡ put_first f x v
first_twice [] x u v = refl
first_twice (b ∷ bs) x u v = by_test (bytes_eq b.0 x) refl (first_twice bs x u v)
  where
    by_test : (t : Bool) → bytes_eq b.0 x ≡ t → put_first (put_first bs x u) x v ≡ put_first bs x v
        → put_first (elim t as (λ t. Frame) [ true ↦ (b.0, record b.1 { value = Some u }) ∷ bs | false ↦ b ∷ put_first bs x u ]) x v ≡ elim t as (λ t. Frame) [ true ↦ (b.0, record b.1 { value = Some v }) ∷ bs | false ↦ b ∷ put_first bs x v ]
    by_test true is ih = ap (λ (t : Bool). elim t as (λ t. Frame) [ true ↦ (b.0, record b.1 { value = Some v }) ∷ bs | false ↦ (b.0, record b.1 { value = Some u }) ∷ put_first bs x v ]) is
    by_test false is ih = ap (λ (t : Bool). elim t as (λ t. Frame) [ true ↦ (b.0, record b.1 { value = Some v }) ∷ put_first bs x u | false ↦ b ∷ put_first (put_first bs x u) x v ]) is ∙ ap (λ l. b ∷ l) ih

put_twice : (fs : List Frame) (x : Text) (u v : ValueTree) → put_in (put_in fs x u) x v ≡ put_in fs x v
put_twice [] x u v = refl
put_twice (f ∷ fs) x u v = by_test (has f x) refl (put_twice fs x u v)
  where
    by_test : (t : Bool) → has f x ≡ t → put_in (put_in fs x u) x v ≡ put_in fs x v
        → put_in (elim t as (λ t. List Frame) [ true ↦ put_first f x u ∷ fs | false ↦ f ∷ put_in fs x u ]) x v ≡ elim t as (λ t. List Frame) [ true ↦ put_first f x v ∷ fs | false ↦ f ∷ put_in fs x v ]
    by_test true is ih = ap (λ (t : Bool). elim t as (λ t. List Frame) [ true ↦ put_first (put_first f x u) x v ∷ fs | false ↦ put_first f x u ∷ put_in fs x v ]) (same_has_first f x x u ∙ is) ∙ ap (λ l. l ∷ fs) (first_twice f x u v)
    by_test false is ih = ap (λ (t : Bool). elim t as (λ t. List Frame) [ true ↦ put_first f x v ∷ put_in fs x u | false ↦ f ∷ put_in (put_in fs x u) x v ]) is ∙ ap (λ l. f ∷ l) ih

put_declared : (fs : List Frame) (x : Text) (t : Shape) (u v : ValueTree) → put_in (declared fs x (variable_with t (Some u))) x v ≡ declared fs x (variable_with t (Some v))
put_declared [] x t u v = ap (λ (q : Bool). elim (elim q as (λ q. Bool) [ true ↦ true | false ↦ false ]) as (λ q. List Frame) [ true ↦ (elim q as (λ q. Frame) [ true ↦ (x, variable_with t (Some v)) ∷ [] | false ↦ (x, variable_with t (Some u)) ∷ [] ]) ∷ [] | false ↦ ((x, variable_with t (Some u)) ∷ []) ∷ [] ]) (own_text x)
put_declared (f ∷ fs) x t u v = ap (λ (q : Bool). elim (elim q as (λ q. Bool) [ true ↦ true | false ↦ has f x ]) as (λ q. List Frame) [ true ↦ (elim q as (λ q. Frame) [ true ↦ (x, variable_with t (Some v)) ∷ f | false ↦ (x, variable_with t (Some u)) ∷ put_first f x v ]) ∷ fs | false ↦ ((x, variable_with t (Some u)) ∷ f) ∷ put_in fs x v ]) (own_text x)

module _ (p : Program) (calls : Text → List Argument → State → Result (Option Typed × State)) (k : ℕ) (m : Naming) (apart : AreApart m) (s : Setting) (Holds : Conf → Type 0) (f : Function) (b : ℕ) (keeps : IsKept (machine s) Holds) (done : List Inst) (i : Inst) (rest : List Inst) where
  abbrev Plain : Supplied Conf → Run → Type 0
  Plain c o = Follows (Supplied Conf) (machine s) State (Option Typed) (At m s Holds f b (i ∷ done) rest) (Never (Supplied Conf) (machine s) State (Option Typed)) (Never (Supplied Conf) (machine s) State (Option Typed)) (NeverGives (Supplied Conf) (machine s) State (Option Typed)) 0 k c o

  abbrev x : Text
  x = m.name i.result

  abbrev t : Shape
  t = m.shape i.result

  -- What is asked of the two statements: the first says the composite; behind it, where the variable has that, the second stands for the part, and its expression says the object.
  pub record Inserting (z : State) (whole : Expr) (ls : List LStep) (object : Expr) (v : ValueTree) (copied : ValueTree → State) : Type 0 where
    pub was : ValueTree
    pub path : List ℕ
    pub part : ValueTree
    pub shape : Shape
    pub old : Option ValueTree
    pub says : evaluate p calls whole z ≡ got [] (typed t was, z)
    pub place : or_stuck (named p (copied was) x) (λ (y : Thing). steps p calls y ls (copied was)) ≡ got [] (variable x path shape old, copied was)
    pub object_says : evaluate p calls object (copied was) ≡ got [] (typed shape part, copied was)
    pub same : same_shape shape shape ≡ true
    pub into : inserted part path was ≡ Some v

  abbrev assigned_to : State → ValueTree → State
  assigned_to z u = record z { frames = put_in z.frames x u }

  abbrev declared_with : State → ValueTree → State
  declared_with z u = record z { frames = declared z.frames x (variable_with t (Some u)) }

  two_run : (a b : Stmt) (z y w : State) → stmt_run p calls k a z ≡ normal [] y → stmt_run p calls k b y ≡ normal [] w → stmts_run p calls k (stmts_in (a ∷ b ∷ [])) z ≡ normal [] w
  two_run a b z y w first second = ap (λ (o : Run). then_do o (stmts_run p calls k (stmts_in (b ∷ [])))) first ∙ ap (λ (o : Run). begun [] (then_do o (λ q. normal [] q))) second

  landed : (c : Supplied Conf) (z y : State) (v : ValueTree) → At m s Holds f b done (i ∷ rest) c z → step_kind i.op ≡ operation → computed s c.at.top i ≡ Some v → (Gets m s Holds f b done i rest (supplied (set_value c.at rest i v) c.answers) (typed t v, z) → At m s Holds f b (i ∷ done) rest (supplied (set_value c.at rest i v) c.answers) y) → IsNew i done → Plain c (normal [] y)
  landed c z y v here kind is at new =
      let goes_on = next p calls k m apart s Holds f b keeps done i rest c z operation (goes [] (set_value c.at rest i v)) here kind (operation_goes s c.at rest i v is) in
      inl (record {
        to = supplied (set_value c.at rest i v) c.answers;
        comes = fewer (Supplied Conf) (machine s) 1 0 c (supplied (set_value c.at rest i v) c.answers) [] (omega arith) (one_step (Supplied Conf) (machine s) c (supplied (set_value c.at rest i v) c.answers) [] goes_on);
        holds = at (got_now p calls k m apart s Holds f b keeps done i rest c z v here new (λ on. ap (λ q. outcome q s c.at.top i) kind ∙ ap (option_map value) is) goes_on);
      })

  pub insert_assigned : (c : Supplied Conf) (z : State) (whole object : Expr) (ls : List LStep) → At m s Holds f b done (i ∷ rest) c z → IsNew i done → step_kind i.op ≡ operation → m.is_outer i.result ≡ true → same_shape t t ≡ true → ((v : ValueTree) → computed s c.at.top i ≡ Some v → Inserting z whole ls object v (assigned_to z))
      → Plain c (stmts_run p calls k (stmts_in (assign (lvalue x []) whole ∷ assign (lvalue x ls) object ∷ [])) z)
  insert_assigned c z whole object ls here new kind outer same says = by_value (computed s c.at.top i) refl
    where
      here_found : found_in z.frames x ≡ Some (variable_with t (value_of c.at i.result))
      here_found = own_found z.frames x _ (here.stands.agree.all.outer i.result outer)

      by_value : (o : Option ValueTree) → computed s c.at.top i ≡ o → Plain c (stmts_run p calls k (stmts_in (assign (lvalue x []) whole ∷ assign (lvalue x ls) object ∷ [])) z)
      by_value None is = inr (fails_now (Supplied Conf) (machine s) c _ (next p calls k m apart s Holds f b keeps done i rest c z operation fails here kind (operation_fails s c.at rest i is)))
      by_value (Some v) is =
          let g = says v is in
          let set : found_in (put_in z.frames x g.was) x ≡ Some (variable_with t (Some g.was)) = found_put z.frames x (variable_with t (value_of c.at i.result)) g.was here_found in
          let first = assign_runs p calls k z x whole t (value_of c.at i.result) g.was here_found same g.says in
          let second = part_runs p calls k x ls object x g.path g.shape g.old g.part g.was v t (assigned_to z g.was) g.place g.object_says g.same (ap (λ (o : Option Variable). or_outer o (found z.globals x)) set) g.into in
          let last : with_value x v (assigned_to z g.was) ≡ assigned_to z v = with_own x v (assigned_to z g.was) (in_found (put_in z.frames x g.was) x _ set) ∙ ap (λ (l : List Frame). record z { frames = l }) (put_twice z.frames x g.was v) in
          subst (Plain c) (sym (two_run (assign (lvalue x []) whole) (assign (lvalue x ls) object) z (assigned_to z g.was) (assigned_to z v) first (second ∙ ap (λ (y : State). normal [] y) last)))
          (landed c z (assigned_to z v) v here kind is (λ g. subst (λ u. At m s Holds f b (i ∷ done) rest (supplied (set_value c.at rest i v) c.answers) (assigned_to z u)) (sym (ap tree_of_value g.comes_to)) (assigned_at p calls k m apart s Holds f b (machine s) done i rest (supplied (set_value c.at rest i v) c.answers) (typed t v, z) outer g)) new)

  pub insert_declared : (c : Supplied Conf) (z : State) (name : TypeName) (whole object : Expr) (ls : List LStep) → At m s Holds f b done (i ∷ rest) c z → IsNew i done → step_kind i.op ≡ operation → m.is_local i.result ≡ true → type_of p name ≡ Some t → same_shape t t ≡ true → ((v : ValueTree) → computed s c.at.top i ≡ Some v → Inserting z whole ls object v (declared_with z))
      → Plain c (stmts_run p calls k (stmts_in (declare name x (Some whole) ∷ assign (lvalue x ls) object ∷ [])) z)
  insert_declared c z name whole object ls here new kind local type same says = by_value (computed s c.at.top i) refl
    where
      by_value : (o : Option ValueTree) → computed s c.at.top i ≡ o → Plain c (stmts_run p calls k (stmts_in (declare name x (Some whole) ∷ assign (lvalue x ls) object ∷ [])) z)
      by_value None is = inr (fails_now (Supplied Conf) (machine s) c _ (next p calls k m apart s Holds f b keeps done i rest c z operation fails here kind (operation_fails s c.at rest i is)))
      by_value (Some v) is =
          let g = says v is in
          let set : found_in (declared z.frames x (variable_with t (Some g.was))) x ≡ Some (variable_with t (Some g.was)) = found_declared z.frames x (variable_with t (Some g.was)) in
          let first = declare_runs p calls k z x name whole t g.was type same g.says in
          let second = part_runs p calls k x ls object x g.path g.shape g.old g.part g.was v t (declared_with z g.was) g.place g.object_says g.same (ap (λ (o : Option Variable). or_outer o (found z.globals x)) set) g.into in
          let last : with_value x v (declared_with z g.was) ≡ declared_with z v = with_own x v (declared_with z g.was) (in_found (declared z.frames x (variable_with t (Some g.was))) x _ set) ∙ ap (λ (l : List Frame). record z { frames = l }) (put_declared z.frames x t g.was v) in
          subst (Plain c) (sym (two_run (declare name x (Some whole)) (assign (lvalue x ls) object) z (declared_with z g.was) (declared_with z v) first (second ∙ ap (λ (y : State). normal [] y) last)))
          (landed c z (declared_with z v) v here kind is (λ g. subst (λ u. At m s Holds f b (i ∷ done) rest (supplied (set_value c.at rest i v) c.answers) (declared_with z u)) (sym (ap tree_of_value g.comes_to)) (declared_at p calls k m apart s Holds f b (machine s) done i rest (supplied (set_value c.at rest i v) c.answers) (typed t v, z) local g)) new)
