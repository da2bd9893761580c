-- Statements that go on from an evaluation: a result is assigned to its variable, declared with it, or has none.
use Rattle.std.proofs.Common.{◌≡◌, ℕ, ◌+◌, Bool, true, false, List, [], ◌∷◌, Option, Some, None, inl, inr, sym, ap, ◌∙◌, subst, arith}
use Rattle.spv_module.specs.declared.inst.Inst.{Inst}
use Rattle.spv_module.specs.declared.inst.Function.{Function}
use Rattle.spv_types.specs.Tree.{ValueTree}
use Rattle.traces.specs.Events.{Event, Access, event_of}
use Rattle.traces.specs.Runs.{Move, go, Supplied, supplied, told, after, exec}
use Rattle.traces.specs.Outcomes.{Outcome, normal, cut, waits, stuck, Result, got, or_stuck, on_got}
use Rattle.traces.specs.Simulation.{Follows}
use Rattle.traces.proofs.Moves.{Never, NeverGives, stays, one_step, fewer, weaker, after_coming, fails_now, fails_before}
use Rattle.module_semantics.specs.Setting.{Setting}
use Rattle.module_semantics.specs.State.{Conf}
use Rattle.glsl_ast.specs.Tree.{Text, TypeName, Expr, declare, assign, lvalue}
use Rattle.glsl_semantics.specs.Shapes.{Shape, Typed, typed, same_shape}
use Rattle.glsl_semantics.specs.States as state
use Rattle.glsl_semantics.specs.States.{Variable, State, found, found_in, has_in, or_outer, put_first, put_in, declared, with_value, Thing, variable, accessed, store}
use Rattle.glsl_semantics.specs.Expressions.{Program, Argument, type_of, named, variable_of, evaluate, steps}
use Rattle.glsl_semantics.specs.Statements.{Run, declaration, with_first_value, stmt_run}
use Rattle.region_law.proofs.Flags.{in_found}
use Rattle.agree_law.specs.Answers.{are_words, told_words, answered}
use Rattle.agree_law.specs.Agree.{Naming, AreApart, value_of, AgreeIn}
use Rattle.agree_law.specs.Blocks.{have_result, Stands, At}
use Rattle.agree_law.specs.Evaluates.{Evaluates, Gets}
use Rattle.agree_law.proofs.Owned.{own_found}
use Rattle.agree_law.proofs.InBlocks.{assigns_in, declares_value_in, forwards_in}
use Rattle.agree_law.proofs.Steps.{on_known}

-- what follows where an evaluation gave something
pub got_then : (C : Type 0) (step : C → Move C) (A : Type 0) (P : C → A → Type 0) (S : Type 0) (N L M : C → S → Type 0) (G : C → Option Typed → S → Type 0) (w q : ℕ) (c : C) (g : Result A) (h : A → Outcome S (Option Typed))
    → Evaluates C step A P q c g → ((d : C) (a : A) → P d a → Follows C step S (Option Typed) N L M G w q d (h a)) → Follows C step S (Option Typed) N L M G w q c (on_got g h)
got_then C step A P S N L M G w q c (got e a) h (inl l) f = weaker C step S (Option Typed) N L M G (0 + w) w q c _ (omega arith) (after_coming C step S (Option Typed) N L M G 0 w q q c l.to e (h a) (omega arith) l.comes (f l.to a l.holds))
got_then C step A P S N L M G w q c (cut e) h (inl l) f = inl l
got_then C step A P S N L M G w q c (waits e) h (inl l) f = inl l
got_then C step A P S N L M G w q c (stuck e) h (inl l) f = absurd l
got_then C step A P S N L M G w q c (got e a) h (inr b) f = inr (fails_before C step S (Option Typed) c e (h a) b)
got_then C step A P S N L M G w q c (cut e) h (inr b) f = inr b
got_then C step A P S N L M G w q c (waits e) h (inr b) f = inr b
got_then C step A P S N L M G w q c (stuck e) h (inr b) f = inr b

-- The machine and the evaluation make the same access: it takes the same answer on both sides, or both wait.
pub access_follows : (step : Supplied Conf → Move (Supplied Conf)) (A : Type 0) (P : Supplied Conf → A → Type 0) (k : ℕ) (a : Access) (c : Supplied Conf) (answers : List (List ℕ)) (g : List ℕ → Conf) (h : List ℕ → List (List ℕ) → A)
    → answers ≡ c.answers → step c ≡ answered a g c.answers
    → ((words : List ℕ) (more : List (List ℕ)) (e : List Event) → step c ≡ go e (supplied (g words) more) → P (supplied (g words) more) (h words more)) → Evaluates (Supplied Conf) step A P k c (accessed a answers h)
access_follows step A P k a c answers g h same steps holds = subst (λ l. E (accessed a l h)) (sym same) (by_answers c.answers steps)
  where
    E : Result A → Type 0
    E = Evaluates (Supplied Conf) step A P k c

    by_event : (words : List ℕ) (more : List (List ℕ)) (o : Option Event) → step c ≡ told o (g words) more → Evaluates (Supplied Conf) step A P k c (state.told o (h words more))
    by_event words more None goes = inl (1, ap (λ (m : Move (Supplied Conf)). after m (exec step 0)) goes)
    by_event words more (Some e) goes =
        inl (record { to = supplied (g words) more; comes = fewer (Supplied Conf) step 1 0 c (supplied (g words) more) (e ∷ []) (omega arith) (one_step (Supplied Conf) step c (supplied (g words) more) (e ∷ []) goes); holds = holds words more (e ∷ []) goes })

    by_answers : (l : List (List ℕ)) → step c ≡ answered a g l → Evaluates (Supplied Conf) step A P k c (accessed a l h)
    by_answers [] goes = inl (1, ap (λ (m : Move (Supplied Conf)). after m (exec step 0)) goes)
    by_answers (words ∷ more) goes = by_words (are_words words) goes
      where
        by_words : (b : Bool) → step c ≡ told_words b a g words more → E (accessed a (words ∷ more) h)
        by_words true goes = by_event words more (event_of a words) goes
        by_words false goes = inr (fails_now (Supplied Conf) step c _ goes)

-- one step without an event, behind which an evaluation has come to a value that it says
pub known_follows : (step : Supplied Conf → Move (Supplied Conf)) (A : Type 0) (P : Supplied Conf → A → Type 0) (k : ℕ) (c d : Supplied Conf) (g : Result A) (a : A) → step c ≡ go [] d → g ≡ got [] a → P d a → Evaluates (Supplied Conf) step A P k c g
known_follows step A P k c d g a goes is holds =
    subst (Evaluates (Supplied Conf) step A P k c) (sym is)
    (inl (record { to = d; comes = fewer (Supplied Conf) step 1 0 c d [] (omega arith) (one_step (Supplied Conf) step c d [] goes); holds = holds }))

pub named_is : (p : Program) (z : State) (x : Text) (u : Variable) → found_in z.frames x ≡ Some u → named p z x ≡ Some (variable x [] u.shape u.value)
named_is p z x u is = ap (λ (o : Option Variable). elim (or_outer o (found z.globals x)) as (λ q. Option Thing) [ Some y ↦ Some (variable_of x y) | None ↦ p.things x ]) is

pub store_is : (x : Text) (t : Shape) (o : Option ValueTree) (v : ValueTree) (z : State) → same_shape t t ≡ true → has_in z.frames x ≡ true → store (variable x [] t o) (typed t v) z ≡ got [] (record z { frames = put_in z.frames x v })
store_is x t o v z same has =
    ap (λ (q : Bool). elim q as (λ q. Result State) [ true ↦ got [] (with_value x v z) | false ↦ stuck [] ]) same
    ∙ ap (λ (q : Bool). gives (elim q as (λ q. State) [ true ↦ record z { frames = put_in z.frames x v } | false ↦ record z { globals = put_first z.globals x v } ])) has
  where
    gives : State → Result State
    gives y = got [] y

module _ (p : Program) (calls : Text → List Argument → State → Result (Option Typed × State)) (k : ℕ) (m : Naming) (apart : AreApart m) (s : Setting) (Holds : Conf → Type 0) (f : Function) (b : ℕ) (step : Supplied Conf → Move (Supplied Conf)) (done : List Inst) (i : Inst) (rest : List Inst) where
  abbrev pub Plain : Supplied Conf → Run → Type 0
  Plain c o = Follows (Supplied Conf) step State (Option Typed) (At m s Holds f b (i ∷ done) rest) (Never (Supplied Conf) step State (Option Typed)) (Never (Supplied Conf) step State (Option Typed)) (NeverGives (Supplied Conf) step State (Option Typed)) 0 k c o

  abbrev G : Supplied Conf → Typed × State → Type 0
  G = Gets m s Holds f b done i rest

  abbrev n : ℕ
  n = i.result

  abbrev t : Shape
  t = m.shape i.result

  abbrev x : Text
  x = m.name i.result

  abbrev AgreeAt : Conf → State → Type 0
  AgreeAt c z = AgreeIn m (have_result (i ∷ done)) c z

  here : (d : Supplied Conf) (z : State) → At m s Holds f b (i ∷ done) rest d z → Plain d (normal [] z)
  here d z at = inl (record { to = d; comes = stays (Supplied Conf) step d; holds = at })

  -- the states agree where the value has been assigned, and where it has been declared
  pub assigned_at : (d : Supplied Conf) (r : Typed × State) → m.is_outer n ≡ true → (g : G d r) → At m s Holds f b (i ∷ done) rest d (record r.1 { frames = put_in r.1.frames x g.value })
  assigned_at d r is g = record {
    stands = record {
      function = ap (λ (c : Conf). c.top.function) g.at ∙ g.function;
      block = ap (λ (c : Conf). c.top.block) g.at ∙ g.block;
      agree = subst (λ (c : Conf). AgreeAt c (record r.1 { frames = put_in r.1.frames x g.value })) (sym g.at) (assigns_in m apart (have_result done) g.before r.1 rest n g.value is g.agree);
      settled = g.settled;
      holds = g.holds;
      answers = g.answers;
    };
    next = ap (λ (c : Conf). c.top.rest) g.at;
  }

  pub declared_at : (d : Supplied Conf) (r : Typed × State) → m.is_local n ≡ true → (g : G d r) → At m s Holds f b (i ∷ done) rest d (with_first_value x t (typed t g.value) r.1)
  declared_at d r is g = record {
    stands = record {
      function = ap (λ (c : Conf). c.top.function) g.at ∙ g.function;
      block = ap (λ (c : Conf). c.top.block) g.at ∙ g.block;
      agree = subst (λ (c : Conf). AgreeAt c (with_first_value x t (typed t g.value) r.1)) (sym g.at) (declares_value_in m apart (have_result done) g.before r.1 rest n g.value is g.agree);
      settled = g.settled;
      holds = g.holds;
      answers = g.answers;
    };
    next = ap (λ (c : Conf). c.top.rest) g.at;
  }

  -- behind an assignment
  assigned : (d : Supplied Conf) (r : Typed × State) (o : Option ValueTree) → m.is_outer n ≡ true → same_shape t t ≡ true → G d r → Plain d (on_got (store (variable x [] t o) r.0 r.1) (λ q. normal [] q))
  assigned d r o is same g =
      let has : has_in r.1.frames x ≡ true = in_found r.1.frames x _ (own_found r.1.frames x _ (g.agree.all.outer n is)) in
      subst (λ (v : Typed). Plain d (on_got (store (variable x [] t o) v r.1) (λ q. normal [] q))) (sym g.comes_to)
      (subst (Plain d) (sym (on_known (store (variable x [] t o) (typed t g.value) r.1) (record r.1 { frames = put_in r.1.frames x g.value }) (λ q. normal [] q) (store_is x t o g.value r.1 same has)))
      (here d (record r.1 { frames = put_in r.1.frames x g.value }) (assigned_at d r is g)))

  -- and behind a declaration
  declared_it : (d : Supplied Conf) (r : Typed × State) → m.is_local n ≡ true → same_shape t t ≡ true → G d r → Plain d (declaration x t r.0 r.1)
  declared_it d r is same g =
      subst (λ (v : Typed). Plain d (declaration x t v r.1)) (sym g.comes_to)
      (subst (Plain d) (sym (ap (λ (q : Bool). elim q as (λ q. Run) [ true ↦ normal [] (with_first_value x t (typed t g.value) r.1) | false ↦ stuck [] ]) same))
      (here d (with_first_value x t (typed t g.value) r.1) (declared_at d r is g)))

  -- a result with a variable at the top of the function
  pub assign_follows : (c : Supplied Conf) (z : State) (e : Expr) → m.is_outer n ≡ true → same_shape t t ≡ true → Stands m s Holds f b done c z → Evaluates (Supplied Conf) step (Typed × State) G k c (evaluate p calls e z) → Plain c (stmt_run p calls k (assign (lvalue x []) e) z)
  assign_follows c z e is same stands evaluates =
      subst (Plain c) (sym (on_known (or_stuck (named p z x) (λ y. steps p calls y [] z)) (variable x [] t (value_of c.at n), z) (λ y. on_got (evaluate p calls e y.1) (λ v. on_got (store y.0 v.0 v.1) (λ q. normal [] q))) (ap (λ (o : Option Thing). or_stuck o (λ y. got [] (y, z))) (named_is p z x _ (own_found z.frames x _ (stands.agree.all.outer n is))))))
      (got_then (Supplied Conf) step (Typed × State) G State (At m s Holds f b (i ∷ done) rest) (Never (Supplied Conf) step State (Option Typed)) (Never (Supplied Conf) step State (Option Typed)) (NeverGives (Supplied Conf) step State (Option Typed)) 0 k c (evaluate p calls e z) (λ v. on_got (store (variable x [] t (value_of c.at n)) v.0 v.1) (λ q. normal [] q)) evaluates
      (λ d r g. assigned d r (value_of c.at n) is same g))

  -- one with a variable in its block
  pub declare_follows : (c : Supplied Conf) (z : State) (name : TypeName) (e : Expr) → m.is_local n ≡ true → type_of p name ≡ Some t → same_shape t t ≡ true → Evaluates (Supplied Conf) step (Typed × State) G k c (evaluate p calls e z) → Plain c (stmt_run p calls k (declare name x (Some e)) z)
  declare_follows c z name e is type same evaluates =
      subst (Plain c) (sym (on_known (or_stuck (type_of p name) (λ shape. got [] shape)) t (λ shape. on_got (evaluate p calls e z) (λ v. declaration x shape v.0 v.1)) (ap (λ (o : Option Shape). or_stuck o (λ shape. got [] shape)) type)))
      (got_then (Supplied Conf) step (Typed × State) G State (At m s Holds f b (i ∷ done) rest) (Never (Supplied Conf) step State (Option Typed)) (Never (Supplied Conf) step State (Option Typed)) (NeverGives (Supplied Conf) step State (Option Typed)) 0 k c (evaluate p calls e z) (λ v. declaration x t v.0 v.1) evaluates
      (λ d r g. declared_it d r is same g))

  -- and one that has none: nothing is written, and the value is that of its operands from now on
  pub nothing_follows : (c d : Supplied Conf) (z : State) → m.is_outer n ≡ false → m.is_lent n ≡ false → m.is_local n ≡ false → step c ≡ go [] d → (r : Typed) → G d (r, z) → Plain c (normal [] z)
  nothing_follows c d z outer far off goes r g = inl (record {
    to = d;
    comes = fewer (Supplied Conf) step 1 0 c d [] (omega arith) (one_step (Supplied Conf) step c d [] goes);
    holds = record {
      stands = record {
        function = ap (λ (c : Conf). c.top.function) g.at ∙ g.function;
        block = ap (λ (c : Conf). c.top.block) g.at ∙ g.block;
        agree = subst (λ (c : Conf). AgreeAt c z) (sym g.at) (forwards_in m apart (have_result done) g.before z rest n g.value outer far off g.agree);
        settled = g.settled;
        holds = g.holds;
        answers = g.answers;
      };
      next = ap (λ (c : Conf). c.top.rest) g.at;
    };
  })
