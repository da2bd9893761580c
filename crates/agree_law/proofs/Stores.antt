-- Stores to variables: what is written of them sets the same variable, or the same part of it.
use Rattle.std.proofs.Common.{◌≡◌, ◌≢◌, ◌==◌, ℕ, suc, Bool, true, false, List, [], ◌∷◌, length, Option, Some, None, inl, inr, refl, sym, ap, ◌∙◌, subst, arith}
use Rattle.std.specs.Prelude.{option_and_then}
use Rattle.std.proofs.lemmas.Bool.Decides.{eqb_tells}
use Rattle.spv_module.specs.declared.inst.Inst.{Inst}
use Rattle.spv_module.specs.declared.inst.Function.{Function}
use Rattle.spv_types.specs.Tree.{ValueTree}
use Rattle.op_semantics.specs.Composite.{extracted, inserted}
use Rattle.traces.specs.Runs.{Move, go, Supplied, supplied}
use Rattle.traces.specs.Outcomes.{normal, Result, got, stuck, or_stuck, on_got}
use Rattle.traces.specs.Simulation.{Follows}
use Rattle.traces.proofs.Moves.{Never, NeverGives, one_step, fewer}
use Rattle.module_semantics.specs.Setting.{Setting}
use Rattle.module_semantics.specs.State.{Root, global, own, lent, Held, value, pointer, Frame, Conf, with_variable, with_call, call_at}
use Rattle.module_semantics.specs.Accesses.{keeping, with_lent}
use Rattle.module_semantics.specs.Steps.{step_kind, advanced}
use Rattle.module_semantics.specs.Operands.{as_value}
use Rattle.glsl_ast.specs.Tree.{Text, Expr, assign, LStep, lvalue}
use Rattle.glsl_semantics.specs.Shapes.{Shape, Typed, typed, same_shape}
use Rattle.glsl_semantics.specs.States.{Variable, State, found, found_in, has, has_in, or_outer, put_first, put_in, with_value, Thing, variable, assigned, store}
use Rattle.glsl_semantics.specs.Expressions.{Program, Argument, named, evaluate, steps}
use Rattle.glsl_semantics.specs.Statements.{Run, stmt_run}
use Rattle.list_law.proofs.Numbers.{same_number}
use Rattle.region_law.proofs.Flags.{none_found, in_found, other_put}
use Rattle.agree_law.specs.Agree.{Naming, AreApart, variable_with, IfPointer, IsFar, variable_in, root_value, target_value, AgreeIn}
use Rattle.agree_law.specs.Blocks.{have_result, has_outcome, Stands, At}
use Rattle.agree_law.specs.Evaluates.{IsKept}
use Rattle.agree_law.proofs.Owned.{own_found}
use Rattle.agree_law.proofs.Braces.{local_named, lent_named}
use Rattle.agree_law.proofs.Changes.{is_not, put_same, put_other, stores_private}
use Rattle.agree_law.proofs.Calls.{writes}
use Rattle.agree_law.proofs.InBlocks.{before_it, stores_in}
use Rattle.agree_law.proofs.Settling.{settled_pass}
use Rattle.agree_law.proofs.Steps.{on_known}

-- the whole of a variable that has a value, or a part of it, gets another
pub assigned_is : (x : Text) (path : List ℕ) (v old whole : ValueTree) (t : Shape) (z : State) → inserted v path old ≡ Some whole → assigned x path v z (Some (variable_with t (Some old))) ≡ got [] (with_value x whole z)
assigned_is x [] v old whole t z is = let same : v ≡ whole = cc in ap (λ u. got [] (with_value x u z)) same
assigned_is x (i ∷ path) v old whole t z is = ap (λ (o : Option ValueTree). or_stuck o (λ whole. got [] (with_value x whole z))) is

-- so a store to it
pub store_variable : (x : Text) (path : List ℕ) (u : Shape) (o : Option ValueTree) (v old whole : ValueTree) (t : Shape) (z : State) → same_shape u u ≡ true → or_outer (found_in z.frames x) (found z.globals x) ≡ Some (variable_with t (Some old)) → inserted v path old ≡ Some whole
    → store (variable x path u o) (typed u v) z ≡ got [] (with_value x whole z)
store_variable x path u o v old whole t z same there is =
    ap (λ (q : Bool). elim q as (λ q. Result State) [ true ↦ assigned x path v z (or_outer (found_in z.frames x) (found z.globals x)) | false ↦ stuck [] ]) same
    ∙ ap (assigned x path v z) there ∙ assigned_is x path v old whole t z is

pub with_own : (x : Text) (u : ValueTree) (z : State) → has_in z.frames x ≡ true → with_value x u z ≡ record z { frames = put_in z.frames x u }
with_own x u z has = ap (λ (b : Bool). elim b as (λ b. State) [ true ↦ record z { frames = put_in z.frames x u } | false ↦ record z { globals = put_first z.globals x u } ]) has

with_text : (x : Text) (u : ValueTree) (z : State) → has_in z.frames x ≡ false → with_value x u z ≡ record z { globals = put_first z.globals x u }
with_text x u z has = ap (λ (b : Bool). elim b as (λ b. State) [ true ↦ record z { frames = put_in z.frames x u } | false ↦ record z { globals = put_first z.globals x u } ]) has

none_found_in : (fs : List (List (Text × Variable))) (x : Text) → has_in fs x ≡ false → found_in fs x ≡ None
none_found_in [] x h = refl
none_found_in (f ∷ fs) x h = by_test (has f x) refl h (none_found_in fs x)
  where
    by_test : (t : Bool) → has f x ≡ t → elim t as (λ t. Bool) [ true ↦ true | false ↦ has_in fs x ] ≡ false → (has_in fs x ≡ false → found_in fs x ≡ None) → or_outer (found f x) (found_in fs x) ≡ None
    by_test true is e rest = cc
    by_test false is e rest = ap (λ (o : Option Variable). or_outer o (found_in fs x)) (none_found f x is) ∙ rest e

-- a call under way with another frame in its place
pub length_with : (depth : ℕ) (g : Frame) (bs : List (Frame × ℕ)) → length (with_call depth g bs) ≡ length bs
length_with depth g [] = refl
length_with depth g (b ∷ bs) = by_test (length bs == depth) (length_with depth g bs)
  where
    by_test : (t : Bool) → length (with_call depth g bs) ≡ length bs → length (elim t as (λ t. List (Frame × ℕ)) [ true ↦ (g, b.1) ∷ bs | false ↦ b ∷ with_call depth g bs ]) ≡ suc (length bs)
    by_test true ih = refl
    by_test false ih = ap suc ih

pub call_same : (depth : ℕ) (bs : List (Frame × ℕ)) (h g : Frame) → call_at depth bs ≡ Some h → call_at depth (with_call depth g bs) ≡ Some g
call_same depth [] h g e = cc
call_same depth (b ∷ bs) h g e = by_test (length bs == depth) refl e (call_same depth bs h g)
  where
    by_test : (t : Bool) → (length bs == depth) ≡ t → elim t as (λ t. Option Frame) [ true ↦ Some b.0 | false ↦ call_at depth bs ] ≡ Some h → (call_at depth bs ≡ Some h → call_at depth (with_call depth g bs) ≡ Some g)
        → call_at depth (elim t as (λ t. List (Frame × ℕ)) [ true ↦ (g, b.1) ∷ bs | false ↦ b ∷ with_call depth g bs ]) ≡ Some g
    by_test true is e ih = ap (λ (t : Bool). elim t as (λ t. Option Frame) [ true ↦ Some g | false ↦ call_at depth bs ]) is
    by_test false is e ih = ap (λ l. elim (l == depth) as (λ t. Option Frame) [ true ↦ Some b.0 | false ↦ call_at depth (with_call depth g bs) ]) (length_with depth g bs) ∙ ap (λ (t : Bool). elim t as (λ t. Option Frame) [ true ↦ Some b.0 | false ↦ call_at depth (with_call depth g bs) ]) is ∙ ih e

pub call_other : (depth height : ℕ) (bs : List (Frame × ℕ)) (g : Frame) → height ≢ depth → call_at height (with_call depth g bs) ≡ call_at height bs
call_other depth height [] g other = refl
call_other depth height (b ∷ bs) g other = by_test (length bs == depth) refl (call_other depth height bs g other)
  where
    by_test : (t : Bool) → (length bs == depth) ≡ t → call_at height (with_call depth g bs) ≡ call_at height bs
        → call_at height (elim t as (λ t. List (Frame × ℕ)) [ true ↦ (g, b.1) ∷ bs | false ↦ b ∷ with_call depth g bs ]) ≡ elim (length bs == height) as (λ t. Option Frame) [ true ↦ Some b.0 | false ↦ call_at height bs ]
    by_test true is ih =
        let off : (length bs == height) ≡ false = elim (eqb_tells (length bs) height) [ inl w ↦ absurd (other (sym w.1 ∙ same_number (length bs) depth is)) | inr w ↦ w.0 ] in
        ap (λ (t : Bool). elim t as (λ t. Option Frame) [ true ↦ Some g | false ↦ call_at height bs ]) off ∙ sym (ap (λ (t : Bool). elim t as (λ t. Option Frame) [ true ↦ Some b.0 | false ↦ call_at height bs ]) off)
    by_test false is ih =
        ap (λ l. elim (l == height) as (λ t. Option Frame) [ true ↦ Some b.0 | false ↦ call_at height (with_call depth g bs) ]) (length_with depth g bs)
        ∙ ap (λ (o : Option Frame). elim (length bs == height) as (λ t. Option Frame) [ true ↦ Some b.0 | false ↦ o ]) ih

-- an assignment to a variable that has a value, or to a part of it
pub part_runs : (p : Program) (calls : Text → List Argument → State → Result (Option Typed × State)) (k : ℕ) (w : Text) (ls : List LStep) (e : Expr) (x : Text) (path : List ℕ) (shape : Shape) (o : Option ValueTree) (v was whole : ValueTree) (t : Shape) (z : State)
    → or_stuck (named p z w) (λ (y : Thing). steps p calls y ls z) ≡ got [] (variable x path shape o, z) → evaluate p calls e z ≡ got [] (typed shape v, z) → same_shape shape shape ≡ true
    → or_outer (found_in z.frames x) (found z.globals x) ≡ Some (variable_with t (Some was)) → inserted v path was ≡ Some whole → stmt_run p calls k (assign (lvalue w ls) e) z ≡ normal [] (with_value x whole z)
part_runs p calls k w ls e x path shape o v was whole t z place says same there is =
    on_known (or_stuck (named p z w) (λ (y : Thing). steps p calls y ls z)) (variable x path shape o, z) (λ y. on_got (evaluate p calls e y.1) (λ v. on_got (store y.0 v.0 v.1) (λ q. normal [] q))) place
    ∙ (on_known (evaluate p calls e z) (typed shape v, z) (λ v. on_got (store (variable x path shape o) v.0 v.1) (λ q. normal [] q)) says
    ∙ on_known (store (variable x path shape o) (typed shape v) z) (with_value x whole z) (λ q. normal [] q) (store_variable x path shape o v was whole t z same there is))

module _ (p : Program) (calls : Text → List Argument → State → Result (Option Typed × State)) (k : ℕ) (m : Naming) (apart : AreApart m) (s : Setting) (Holds : Conf → Type 0) (f : Function) (b : ℕ) (step : Supplied Conf → Move (Supplied Conf)) (keeps : IsKept step Holds) (done : List Inst) (i : Inst) (rest : List Inst) where
  abbrev Plain : Supplied Conf → Run → Type 0
  Plain c o = Follows (Supplied Conf) step State (Option Typed) (At m s Holds f b (i ∷ done) rest) (Never (Supplied Conf) step State (Option Typed)) (Never (Supplied Conf) step State (Option Typed)) (NeverGives (Supplied Conf) step State (Option Typed)) 0 k c o

  -- what holds at a store: of where, and of what
  pub record Storing (c : Supplied Conf) (z : State) (w : Text) (ls : List LStep) (e : Expr) (x : Text) (path : List ℕ) (v : ValueTree) : Type 0 where
    pub stands : Stands m s Holds f b done c z
    pub no_outcome : has_outcome (step_kind i.op) ≡ false
    pub no_result : m.is_local i.result ≡ false
    pub shape : Shape
    pub same : same_shape shape shape ≡ true
    pub old : Option ValueTree
    pub place : or_stuck (named p z w) (λ (y : Thing). steps p calls y ls z) ≡ got [] (variable x path shape old, z)
    pub says : evaluate p calls e z ≡ got [] (typed shape v, z)

  -- where the variable has this value, and the part gets the other
  runs_to : (c : Supplied Conf) (z : State) (w : Text) (ls : List LStep) (e : Expr) (x : Text) (path : List ℕ) (v was whole : ValueTree) (t : Shape) → Storing c z w ls e x path v → or_outer (found_in z.frames x) (found z.globals x) ≡ Some (variable_with t (Some was)) → inserted v path was ≡ Some whole
      → stmt_run p calls k (assign (lvalue w ls) e) z ≡ normal [] (with_value x whole z)
  runs_to c z w ls e x path v was whole t g there is = part_runs p calls k w ls e x path g.shape g.old v was whole t z g.place g.says g.same there is

  lands : (c : Supplied Conf) (d : Conf) (z y : State) → Stands m s Holds f b done c z → has_outcome (step_kind i.op) ≡ false → length d.below ≡ length c.at.below → step c ≡ go [] (supplied d c.answers) → d.top.function ≡ c.at.top.function → d.top.block ≡ c.at.top.block → d.top.rest ≡ rest → ((n : ℕ) → d.top.ids n ≡ c.at.top.ids n) → y.answers ≡ z.answers
      → AgreeIn m (have_result (i ∷ done)) d y → Plain c (normal [] y)
  lands c d z y stands off below goes function block next ids same agree = inl (record {
    to = supplied d c.answers;
    comes = fewer (Supplied Conf) step 1 0 c (supplied d c.answers) [] (omega arith) (one_step (Supplied Conf) step c (supplied d c.answers) [] goes);
    holds = record {
      stands = record {
        function = function ∙ stands.function;
        block = block ∙ stands.block;
        agree = agree;
        settled = settled_pass s c.at.top d.top i done ids off stands.settled;
        holds = keeps c (supplied d c.answers) [] below goes stands.holds;
        answers = same ∙ stands.answers;
      };
      next = next;
    };
  })

  -- a Function variable
  pub store_own_follows : (c : Supplied Conf) (z : State) (w : Text) (ls : List LStep) (e : Expr) (id : ℕ) (path : List ℕ) (v was whole : ValueTree) → Storing c z w ls e (m.name id) path v → m.is_variable id ≡ true → c.at.top.variables id ≡ Some was → inserted v path was ≡ Some whole
      → step c ≡ go [] (supplied (keeping (own id) whole (advanced c.at rest)) c.answers) → Plain c (stmt_run p calls k (assign (lvalue w ls) e) z)
  store_own_follows c z w ls e id path v was whole g is had into goes =
      let found_is : found_in z.frames (m.name id) ≡ Some (variable_with (m.shape id) (Some was)) = own_found z.frames (m.name id) _ (g.stands.agree.all.variables id is) ∙ ap (λ (o : Option ValueTree). Some (variable_with (m.shape id) o)) had in
      subst (Plain c) (sym (runs_to c z w ls e (m.name id) path v was whole (m.shape id) g (ap (λ (o : Option Variable). or_outer o (found z.globals (m.name id))) found_is) into ∙ ap (λ (y : State). normal [] y) (with_own (m.name id) whole z (in_found z.frames (m.name id) _ found_is))))
      (lands c (keeping (own id) whole (advanced c.at rest)) z (record z { frames = put_in z.frames (m.name id) whole }) g.stands g.no_outcome refl goes refl refl refl (λ n. refl) refl
      (stores_in m apart (have_result done) c.at z rest id i.result whole is g.no_result g.stands.agree))

  -- a Private variable
  pub store_private_follows : (c : Supplied Conf) (z : State) (w : Text) (ls : List LStep) (e : Expr) (id : ℕ) (path : List ℕ) (v was whole : ValueTree) → Storing c z w ls e (m.name id) path v → m.is_private id ≡ true → c.at.privates id ≡ Some was → inserted v path was ≡ Some whole
      → ((n : ℕ) → m.is_lent n ≡ true → IfPointer (c.at.top.ids n) (λ r path. r ≢ global id))
      → step c ≡ go [] (supplied (keeping (global id) whole (advanced c.at rest)) c.answers) → Plain c (stmt_run p calls k (assign (lvalue w ls) e) z)
  store_private_follows c z w ls e id path v was whole g is had into others goes =
      let a = g.stands.agree.all.privates id is in
      let found_is : found z.globals (m.name id) ≡ Some (variable_with (m.shape id) (Some was)) = a.0 ∙ ap (λ (o : Option ValueTree). Some (variable_with (m.shape id) o)) had in
      subst (Plain c) (sym (runs_to c z w ls e (m.name id) path v was whole (m.shape id) g (ap (λ (o : Option Variable). or_outer o (found z.globals (m.name id))) (none_found_in z.frames (m.name id) a.1) ∙ found_is) into ∙ ap (λ (y : State). normal [] y) (with_text (m.name id) whole z a.1)))
      (lands c d z (record z { globals = put_first z.globals (m.name id) whole }) g.stands g.no_outcome refl goes refl refl refl (λ n. refl) refl
      (record {
        all = stores_private m apart c.at z rest id whole d is refl refl refl (λ n l. far (c.at.top.ids n) (others n l)) g.stands.agree.all;
        local = λ n e l. g.stands.agree.local n (before_it (have_result done) i.result n (is_not m.is_local n i.result l g.no_result) e) l;
      }))
    where
      d : Conf
      d = keeping (global id) whole (advanced c.at rest)

      same_target : (r : Root) (q : List ℕ) → r ≢ global id → target_value d r q ≡ target_value c.at r q
      same_target (global n) q other = ap (option_and_then (extracted q)) (put_other c.at.privates id n whole (λ same. other (ap global same)))
      same_target (own n) q other = refl
      same_target (lent depth n) q other = refl

      far : (h : Option Held) → IfPointer h (λ r path. r ≢ global id) → IfPointer h (λ r path. target_value d r path ≡ target_value c.at r path)
      far None q = tt
      far (Some (value u)) q = tt
      far (Some (pointer r path)) q = same_target r path q

  -- a variable of another call, or one of the module that the function does not name, has another value; nothing else has changed
  pub record IsSet (c : Conf) (r : Root) (whole : ValueTree) (d : Conf) : Type 0 where
    pub top : d.top ≡ (advanced c rest).top
    pub below : length d.below ≡ length c.below
    pub here : root_value d r ≡ Some whole
    pub others : (y : Root) → IsFar y → y ≢ r → root_value d y ≡ root_value c y
    pub privates : (n : ℕ) → m.is_private n ≡ true → d.privates n ≡ c.privates n

  pub set_global : (c : Conf) (id : ℕ) (whole : ValueTree) → m.is_private id ≡ false → IsSet c (global id) whole (keeping (global id) whole (advanced c rest))
  set_global c id whole off = record { top = refl; below = refl; here = put_same c.privates id whole; others = others; privates = λ n is. put_other c.privates id n whole (is_not m.is_private n id is off) }
    where
      others : (y : Root) → IsFar y → y ≢ global id → root_value (keeping (global id) whole (advanced c rest)) y ≡ root_value c y
      others (global n) far other = put_other c.privates id n whole (λ same. other (ap global same))
      others (own n) far other = absurd far
      others (lent depth n) far other = refl

  pub set_lent : (c : Conf) (depth id : ℕ) (whole : ValueTree) (g : Frame) → call_at depth c.below ≡ Some g → IsSet c (lent depth id) whole (keeping (lent depth id) whole (advanced c rest))
  set_lent c depth id whole g is = subst (IsSet c (lent depth id) whole) (sym (ap (with_lent depth id whole (advanced c rest)) is)) (record {
    top = refl;
    below = length_with depth (with_variable id whole g) c.below;
    here = ap (λ (o : Option Frame). variable_in o id) (call_same depth c.below g (with_variable id whole g) is) ∙ put_same g.variables id whole;
    others = others;
    privates = λ n is. refl;
  })
    where
      d : Conf
      d = record (advanced c rest) { below = with_call depth (with_variable id whole g) c.below }

      others : (y : Root) → IsFar y → y ≢ lent depth id → root_value d y ≡ root_value c y
      others (global n) far other = refl
      others (own n) far other = absurd far
      others (lent height n) far other = elim (eqb_tells height depth) [
        | inl w ↦
            ap (λ h. variable_in (call_at h (with_call depth (with_variable id whole g) c.below)) n) w.1
            ∙ ap (λ (o : Option Frame). variable_in o n) (call_same depth c.below g (with_variable id whole g) is)
            ∙ put_other g.variables id n whole (λ same. other (ap (λ h. lent h n) w.1 ∙ ap (lent depth) same))
            ∙ sym (ap (λ (o : Option Frame). variable_in o n) is) ∙ ap (λ h. variable_in (call_at h c.below) n) (sym w.1)
        | inr w ↦ ap (λ (o : Option Frame). variable_in o n) (call_other depth height c.below (with_variable id whole g) w.1)
      ]

  -- through a pointer parameter, which leads to a whole variable
  pub store_lent_follows : (c : Supplied Conf) (z : State) (w : Text) (ls : List LStep) (e : Expr) (q : ℕ) (r : Root) (path : List ℕ) (v was whole : ValueTree) (d : Conf) → Storing c z w ls e (m.name q) path v → m.is_lent q ≡ true → c.at.top.ids q ≡ Some (pointer r []) → root_value c.at r ≡ Some was → inserted v path was ≡ Some whole
      → IsSet c.at r whole d → ((n : ℕ) → m.is_lent n ≡ true → n ≢ q → IfPointer (c.at.top.ids n) (λ y path. IsFar y × (y ≢ r)))
      → step c ≡ go [] (supplied d c.answers) → Plain c (stmt_run p calls k (assign (lvalue w ls) e) z)
  store_lent_follows c z w ls e q r path v was whole d g is leads_to had into set others goes =
      let l = g.stands.agree.all.lents q is in
      let o_is : l.0 ≡ Some was = at_pointer (c.at.top.ids q) l.0 leads_to l.2 ∙ ap (option_and_then (extracted [])) had in
      let found_is : found_in z.frames (m.name q) ≡ Some (variable_with (m.shape q) (Some was)) = own_found z.frames (m.name q) _ l.1 ∙ ap (λ (o : Option ValueTree). Some (variable_with (m.shape q) o)) o_is in
      subst (Plain c) (sym (runs_to c z w ls e (m.name q) path v was whole (m.shape q) g (ap (λ (o : Option Variable). or_outer o (found z.globals (m.name q))) found_is) into ∙ ap (λ (y : State). normal [] y) (with_own (m.name q) whole z (in_found z.frames (m.name q) _ found_is))))
      (lands c d z (record z { frames = put_in z.frames (m.name q) whole }) g.stands g.no_outcome set.below goes (ap (λ (x : Frame). x.function) set.top) (ap (λ (x : Frame). x.block) set.top) (ap (λ (x : Frame). x.rest) set.top) ids refl
      (record {
        all = writes m apart c.at z q whole d is ids (λ n e. ap (λ (x : Frame). x.variables n) set.top) set.privates (here (c.at.top.ids q) leads_to) (λ n l other. far (c.at.top.ids n) (others n l other)) g.stands.agree.all;
        local = λ n e l.
            other_put z.frames (m.name q) (m.name n) whole (λ same. is_not m.is_local n q l (apart.lents q is).1 (sym (apart.names q n (lent_named m q is) (local_named m n l) same)))
            ∙ g.stands.agree.local n (before_it (have_result done) i.result n (is_not m.is_local n i.result l g.no_result) e) l ∙ ap (λ (h : Option Held). Some (variable_with (m.shape n) (as_value h))) (sym (ids n));
      }))
    where
      ids : (n : ℕ) → d.top.ids n ≡ c.at.top.ids n
      ids n = ap (λ (x : Frame). x.ids n) set.top

      at_pointer : (h : Option Held) (o : Option ValueTree) → h ≡ Some (pointer r []) → IfPointer h (λ y path. IsFar y × (o ≡ target_value c.at y path)) → o ≡ target_value c.at r []
      at_pointer h o same l = (subst (λ h. IfPointer h (λ y path. IsFar y × (o ≡ target_value c.at y path))) same l).1

      here : (h : Option Held) → h ≡ Some (pointer r []) → IfPointer h (λ y path. target_value d y path ≡ Some whole)
      here h same = subst (λ h. IfPointer h (λ y path. target_value d y path ≡ Some whole)) (sym same) (ap (option_and_then (extracted [])) set.here)

      far : (h : Option Held) → IfPointer h (λ y path. IsFar y × (y ≢ r)) → IfPointer h (λ y path. target_value d y path ≡ target_value c.at y path)
      far None q = tt
      far (Some (value u)) q = tt
      far (Some (pointer y path)) q = ap (option_and_then (extracted path)) (set.others y q.0 q.1)
