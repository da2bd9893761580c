-- What statements keep: any property of the variables that each single change of the names that they write keeps.
use Rattle.std.proofs.Common.{◌≡◌, ℕ, zero, suc, ◌^◌, ◌++◌, Bool, true, false, List, [], ◌∷◌, Option, Some, None, bytes_eq, refl, subst}
use Rattle.std.specs.Prelude.{option_and_then, option_map, nat_lt, if◌then◌else◌}
use Rattle.spv_types.specs.Tree.{ValueTree, word}
use Rattle.op_semantics.specs.Composite.{inserted, part_at}
use Rattle.layout_rules.specs.declared.Kind.{Kind}
use Rattle.glsl_ast.specs.declared.items.BlockPlace.{BlockPlace}
use Rattle.traces.specs.Invocations.{Invocation}
use Rattle.glsl_ast.specs.Tree.{Text, TypeName, Expr, literal, name, build, not, flip, binary, choose, length_of, Exprs, no_exprs, expr, LStep, lvalue, Stmt, declare, assign, when, either, loop, switch, leave, again, give, Stmts, no_stmts, stmt, Arms, no_arms, arm}
use Rattle.glsl_ast.specs.declared.statements.Label.{Label}
use Rattle.traces.specs.Events.{Event, Access, event_of, reading, updating}
use Rattle.traces.specs.Outcomes.{normal, breaks, continues, returns, cut, waits, stuck, begun, then_do, next_turn, turns, behind_switch, Result, got, with_before, then_get, or_stuck, on_got}
use Rattle.glsl_semantics.specs.Shapes.{Shape, int, Typed, typed, shape_of, tree_of, same_shape, is_sized}
use Rattle.glsl_semantics.specs.Places.{Site, location_of, locations, part_site}
use Rattle.glsl_semantics.specs.Operators.{operated}
use Rattle.glsl_semantics.specs.Functions.{PureFunction, pure_value, built}
use Rattle.glsl_semantics.specs.States.{Variable, State, found, found_in, or_outer, declared, with_value, pushed, popped, Thing, value, variable, instance, memory, told, accessed, variable_value, read_if, fetch, assigned, store_to, is_of_thing, store, part_of_option, part_at_index, shape_of_thing, named_part, site_at, block_member, member_of, index_word, element_shape, element_at, element_of, length_of_thing, length_value}
use Rattle.glsl_semantics.specs.Expressions.{Program, type_of, as_truth, variable_of, named, AtomicFunction, atomic_operation, operand_words, found_value, updated, CallKind, user, atomic, pure, barrier, unknown, call_kind, settling, same_truth, done, then_fetch, Argument, denote, values, arguments, place_and_values, evaluate, steps}
use Rattle.glsl_semantics.specs.Statements.{Run, closed, in_braces, with_first_value, entered, is_selector, barrier_run, truth_then, stmt_run, stmts_run, arms_run, arms_from}
use Rattle.glsl_semantics.proofs.Appended.{OnOutcome}
use Rattle.write_law.specs.Writes.{root, IsWritten, RootsIn, ExprWrites, ExprsWrite, StepsWrite, StmtWrites, StmtsWrite, ArmsWrite, IsWithin, AreWithin}

-- Q holds of what an evaluation returns
abbrev pub OnGot : {A : Type 0} → (A → Type 0) → Result A → Type 0
OnGot Q (got e a) = Q a
OnGot Q (cut e) = Unit {0}
OnGot Q (waits e) = Unit {0}
OnGot Q (stuck e) = Unit {0}

pub on_before : {A : Type 0} (Q : A → Type 0) (d : List Event) (g : Result A) → OnGot Q g → OnGot Q (with_before d g)
on_before Q d (got e a) h = h
on_before Q d (cut e) h = tt
on_before Q d (waits e) h = tt
on_before Q d (stuck e) h = tt

pub on_then : {A B : Type 0} (Q : A → Type 0) (R : B → Type 0) (g : Result A) (f : A → Result B) → OnGot Q g → ((a : A) → Q a → OnGot R (f a)) → OnGot R (then_get g f)
on_then Q R (got e a) f h k = on_before R e (f a) (k a h)
on_then Q R (cut e) f h k = tt
on_then Q R (waits e) f h k = tt
on_then Q R (stuck e) f h k = tt

pub on_option : {A B : Type 0} (R : B → Type 0) (o : Option A) (f : A → Result B) → ((a : A) → OnGot R (f a)) → OnGot R (or_stuck o f)
on_option R None f k = tt
on_option R (Some a) f k = k a

pub on_choice : {B : Type 0} (R : B → Type 0) (b : Bool) (x y : Result B) → OnGot R x → OnGot R y → OnGot R (elim b [ true ↦ x | false ↦ y ])
on_choice R true x y h k = h
on_choice R false x y h k = k

module _ (I : State → Type 0) where
  out_begun : (d : List Event) (o : Run) → OnOutcome I o → OnOutcome I (begun d o)
  out_begun d (normal e s) h = h
  out_begun d (breaks e s) h = h
  out_begun d (continues e s) h = h
  out_begun d (returns e v s) h = h
  out_begun d (cut e) h = tt
  out_begun d (waits e) h = tt
  out_begun d (stuck e) h = tt

  out_then : (o : Run) (f : State → Run) → OnOutcome I o → ((s : State) → I s → OnOutcome I (f s)) → OnOutcome I (then_do o f)
  out_then (normal e s) f h k = out_begun e (f s) (k s h)
  out_then (breaks e s) f h k = h
  out_then (continues e s) f h k = h
  out_then (returns e v s) f h k = h
  out_then (cut e) f h k = tt
  out_then (waits e) f h k = tt
  out_then (stuck e) f h k = tt

  out_got : {A : Type 0} (Q : A → Type 0) (g : Result A) (f : A → Run) → OnGot Q g → ((a : A) → Q a → OnOutcome I (f a)) → OnOutcome I (on_got g f)
  out_got Q (got e a) f h k = out_begun e (f a) (k a h)
  out_got Q (cut e) f h k = tt
  out_got Q (waits e) f h k = tt
  out_got Q (stuck e) f h k = tt

  out_choice : (b : Bool) (x y : Run) → OnOutcome I x → OnOutcome I y → OnOutcome I (elim b [ true ↦ x | false ↦ y ])
  out_choice true x y h k = h
  out_choice false x y h k = k

  out_turn : (o : Run) (f : State → Run) → OnOutcome I o → ((s : State) → I s → OnOutcome I (f s)) → OnOutcome I (next_turn o f)
  out_turn (normal e s) f h k = out_begun e (f s) (k s h)
  out_turn (breaks e s) f h k = h
  out_turn (continues e s) f h k = out_begun e (f s) (k s h)
  out_turn (returns e v s) f h k = h
  out_turn (cut e) f h k = tt
  out_turn (waits e) f h k = tt
  out_turn (stuck e) f h k = tt

  out_turns : (n : ℕ) (body : State → Run) → ((s : State) → I s → OnOutcome I (body s)) → (s : State) → I s → OnOutcome I (turns n body s)
  out_turns zero body g s h = tt
  out_turns (suc n) body g s h = out_turn (body s) (turns n body) (g s h) (out_turns n body g)

  out_behind : (o : Run) → OnOutcome I o → OnOutcome I (behind_switch o)
  out_behind (normal e s) h = h
  out_behind (breaks e s) h = h
  out_behind (continues e s) h = h
  out_behind (returns e v s) h = h
  out_behind (cut e) h = tt
  out_behind (waits e) h = tt
  out_behind (stuck e) h = tt

out_closed : (I J : State → Type 0) (o : Run) → ((s : State) → J s → I (popped s)) → OnOutcome J o → OnOutcome I (closed o)
out_closed I J (normal e s) f h = f s h
out_closed I J (breaks e s) f h = f s h
out_closed I J (continues e s) f h = f s h
out_closed I J (returns e v s) f h = f s h
out_closed I J (cut e) f h = tt
out_closed I J (waits e) f h = tt
out_closed I J (stuck e) f h = tt

-- what holds where so many braces stand open, and is kept by what a statement that writes these names may do
pub record IsKept (W : Text → Type 0) (I : ℕ → State → Type 0) : Type 0 where
  pub answers : (d : ℕ) (s : State) (more : List (List ℕ)) → I d s → I d (record s { answers = more })
  pub puts : (d : ℕ) (s : State) (w : Text) (v : ValueTree) → W w → I d s → I d (with_value w v s)
  pub declares : (d : ℕ) (s : State) (w : Text) (x : Variable) → W w → I d s → I d (record s { frames = declared s.frames w x })
  pub enters : (d : ℕ) (s : State) → I d s → I (suc d) (pushed s)
  pub exits : (d : ℕ) (s : State) → I (suc d) s → I d (popped s)

on_kinds : {B : Type 0} (R : B → Type 0) (kind : CallKind) (x : Result B) (f : AtomicFunction → Result B) (g : PureFunction → Result B) (h : Event → Result B) (y : Result B) → OnGot R x → ((a : AtomicFunction) → OnGot R (f a)) → ((q : PureFunction) → OnGot R (g q)) → ((e : Event) → OnGot R (h e)) → OnGot R y
    → OnGot R (elim kind [ user ↦ x | atomic a ↦ f a | pure q ↦ g q | barrier e ↦ h e | unknown ↦ y ])
on_kinds R user x f g h y a b c d e = a
on_kinds R (atomic q) x f g h y a b c d e = b q
on_kinds R (pure q) x f g h y a b c d e = c q
on_kinds R (barrier q) x f g h y a b c d e = d q
on_kinds R unknown x f g h y a b c d e = e

on_settled : {B : Type 0} (R : B → Type 0) (o : Option Bool) (f : Bool → Result B) (y : Result B) → ((t : Bool) → OnGot R (f t)) → OnGot R y → OnGot R (elim o [ Some t ↦ f t | None ↦ y ])
on_settled R (Some t) f y h k = h t
on_settled R None f y h k = k

on_told : {B : Type 0} (R : B → Type 0) (o : Option Event) (b : B) → R b → OnGot R (told o b)
on_told R None b h = tt
on_told R (Some e) b h = h

on_accessed : {B : Type 0} (R : B → Type 0) (a : Access) (l : List (List ℕ)) (f : List ℕ → List (List ℕ) → B) → ((ws : List ℕ) (more : List (List ℕ)) → R (f ws more)) → OnGot R (accessed a l f)
on_accessed R a [] f h = tt
on_accessed R a (ws ∷ more) f h = on_told R (event_of a ws) (f ws more) (h ws more)

module _ (p : Program) (calls : Text → List Argument → State → Result (Option Typed × State)) (k : ℕ) (W : Text → Type 0) (I : ℕ → State → Type 0) (kept : IsKept W I)
    (outside : (w : Text) (x : Thing) → p.things w ≡ Some x → IsWithin W x)
    (called : (d : ℕ) (w : Text) (xs : List Argument) (s : State) → AreWithin W xs → I d s → OnGot (λ (r : Option Typed × State). I d r.1) (calls w xs s)) where
  abbrev With : (A : Type 0) → ℕ → A × State → Type 0
  With A d x = I d x.1

  -- a thing whose path begins so, and the state
  abbrev Stands : Option Text → ℕ → Thing × State → Type 0
  Stands r d x = (IsWritten W r → IsWithin W x.0) × I d x.1

  abbrev Passed : Exprs → ℕ → List Argument × State → Type 0
  Passed es d x = (RootsIn W es → AreWithin W x.0) × I d x.1

  -- a part of a thing begins where the thing does
  part_within : (x y : Thing) (i : ℕ) (t : Shape) → part_at_index x i t ≡ Some y → IsWithin W x → IsWithin W y
  part_within (value (typed s v)) y i t e h = by_part (part_at v i) e
    where
      by_part : (o : Option ValueTree) → option_map (λ part. value (typed t part)) o ≡ Some y → IsWithin W y
      by_part None e = cc
      by_part (Some u) e = subst (IsWithin W) (let same : value (typed t u) ≡ y = cc in same) tt
  part_within (variable w path s v) y i t e h = subst (IsWithin W) (let same : variable w (path ++ i ∷ []) t (part_of_option v i) ≡ y = cc in same) h
  part_within (instance place kind members) y i t e h = cc
  part_within (memory at s) y i t e h = subst (IsWithin W) (let same : memory (part_site (tree_of s) i at) t ≡ y = cc in same) tt

  by_some : (x y : Thing) (o : Option (ℕ × Shape)) → option_and_then (λ (q : ℕ × Shape). part_at_index x q.0 q.1) o ≡ Some y → IsWithin W x → IsWithin W y
  by_some x y None e h = cc
  by_some x y (Some q) e h = part_within x y q.0 q.1 e h

  block_within : (place : BlockPlace) (kind : Kind) (ms : List (Text × ℕ × Shape)) (w : Text) (y : Thing) → block_member place kind ms w ≡ Some y → IsWithin W y
  block_within place kind [] w y e = cc
  block_within place kind (m ∷ ms) w y e = by_test (bytes_eq m.0 w) (block_within place kind ms w y) e
    where
      by_test : (t : Bool) → (block_member place kind ms w ≡ Some y → IsWithin W y) → elim t as (λ q. Option Thing) [ true ↦ Some (memory (site_at place kind m.1) m.2) | false ↦ block_member place kind ms w ] ≡ Some y → IsWithin W y
      by_test true ih e = subst (IsWithin W) (let same : memory (site_at place kind m.1) m.2 ≡ y = cc in same) tt
      by_test false ih e = ih e

  member_within : (x y : Thing) (w : Text) → member_of x w ≡ Some y → IsWithin W x → IsWithin W y
  member_within (value v) y w e h = by_some (value v) y (named_part (shape_of_thing (value v)) w) e h
  member_within (variable n path s v) y w e h = by_some (variable n path s v) y (named_part (shape_of_thing (variable n path s v)) w) e h
  member_within (instance place kind members) y w e h = block_within place kind members w y e
  member_within (memory at s) y w e h = by_some (memory at s) y (named_part (shape_of_thing (memory at s)) w) e h

  element_within : (x y : Thing) (v : Typed) → element_of x v ≡ Some y → IsWithin W x → IsWithin W y
  element_within x y v e h = by_index (index_word v) e
    where
      by_shape : (i : ℕ) (o : Option Shape) → option_and_then (part_at_index x i) o ≡ Some y → IsWithin W y
      by_shape i None e = cc
      by_shape i (Some t) e = part_within x y i t e h

      by_test : (i : ℕ) (t : Bool) → (if t then option_and_then (part_at_index x i) (element_shape (shape_of_thing x) i) else None) ≡ Some y → IsWithin W y
      by_test i true e = by_shape i (element_shape (shape_of_thing x) i) e
      by_test i false e = cc

      by_index : (o : Option ℕ) → option_and_then (element_at x) o ≡ Some y → IsWithin W y
      by_index None e = cc
      by_index (Some i) e = by_test i (nat_lt i (2 ^ 31)) e

  length_within : (inv : Invocation) (x y : Thing) → length_value inv x ≡ Some y → IsWithin W y
  length_within inv x y e = by_length (length_of_thing inv x) e
    where
      by_length : (o : Option ℕ) → option_map (λ n. value (typed int (word n))) o ≡ Some y → IsWithin W y
      by_length None e = cc
      by_length (Some n) e = subst (IsWithin W) (let same : value (typed int (word n)) ≡ y = cc in same) tt

  named_within : (s : State) (w : Text) (x : Thing) → named p s w ≡ Some x → W w → IsWithin W x
  named_within s w x e ww = by_found (or_outer (found_in s.frames w) (found s.globals w)) e
    where
      by_found : (o : Option Variable) → elim o as (λ q. Option Thing) [ Some y ↦ Some (variable_of w y) | None ↦ p.things w ] ≡ Some x → IsWithin W x
      by_found None e = outside w x e
      by_found (Some y) e = subst (IsWithin W) (let same : variable_of w y ≡ x = cc in same) ww

  -- something that was found, where what is found is within
  part_got : (r : Option Text) (d : ℕ) (o : Option Thing) (s : State) → ((y : Thing) → o ≡ Some y → IsWritten W r → IsWithin W y) → I d s → OnGot (Stands r d) (or_stuck o (λ y. got [] (y, s)))
  part_got r d None s f h = tt
  part_got r d (Some y) s f h = (f y refl, h)

  variable_keeps : (d : ℕ) (t : Shape) (v : Option ValueTree) (s : State) → I d s → OnGot (With Typed d) (variable_value t v s)
  variable_keeps d t None s h = tt
  variable_keeps d t (Some v) s h = h

  read_keeps : (d : ℕ) (b : Bool) (at : Site) (t : Shape) (s : State) → I d s → OnGot (With Typed d) (read_if b at t s)
  read_keeps d true at t s h = on_accessed (With Typed d) (reading (locations (tree_of t) at)) s.answers _ (λ ws more. kept.answers d s more h)
  read_keeps d false at t s h = tt

  fetch_keeps : (d : ℕ) (x : Thing) (s : State) → I d s → OnGot (With Typed d) (fetch x s)
  fetch_keeps d (value v) s h = h
  fetch_keeps d (variable w way t v) s h = variable_keeps d t v s h
  fetch_keeps d (instance place kind members) s h = tt
  fetch_keeps d (memory at t) s h = read_keeps d (is_sized t) at t s h

  then_keeps : {A : Type 0} (R : A → Type 0) (r : Option Text) (d : ℕ) (g : Result (Thing × State)) (f : Typed → State → Result A) → OnGot (Stands r d) g → ((v : Typed) (s : State) → I d s → OnGot R (f v s)) → OnGot R (then_fetch g f)
  then_keeps R r d g f h k = on_then (Stands r d) R g _ h (λ x hx. on_then (With Typed d) R (fetch x.0 x.1) _ (fetch_keeps d x.0 x.1 hx.1) (λ y hy. k y.0 y.1 hy))

  done_keeps : (r : Option Text) (d : ℕ) (v : Option Typed) (s : State) → I d s → OnGot (Stands r d) (done v s)
  done_keeps r d v s h = on_option (Stands r d) v _ (λ x. ((λ u. tt), h))

  found_keeps : (r : Option Text) (d : ℕ) (t : Shape) (s : State) (ws : List ℕ) (more : List (List ℕ)) → I d s → Stands r d (found_value t s ws more)
  found_keeps r d t s [] more h = ((λ u. tt), kept.answers d s more h)
  found_keeps r d t s (w ∷ ws) more h = ((λ u. tt), kept.answers d s more h)

  updated_keeps : (r : Option Text) (d : ℕ) (a : AtomicFunction) (x : Thing) (vs : List Typed) (s : State) → I d s → OnGot (Stands r d) (updated a x vs s)
  updated_keeps r d a (value v) vs s h = tt
  updated_keeps r d a (variable w way t v) vs s h = tt
  updated_keeps r d a (instance place kind members) vs s h = tt
  updated_keeps r d a (memory at t) vs s h = on_option (Stands r d) (operand_words a t vs) _ (λ ws. on_accessed (Stands r d) (updating (atomic_operation a t) (location_of at) ws) s.answers (found_value t s) (λ words more. found_keeps r d t s words more h))

  abbrev Placed : ℕ → Thing × List Typed × State → Type 0
  Placed d x = I d x.2

  mutual
    denote_keeps : (e : Expr) → ExprWrites W e → (d : ℕ) (s : State) → I d s → OnGot (Stands (root e) d) (denote p calls e s)
    denote_keeps (literal l) q d s h = ((λ u. tt), h)
    denote_keeps (name w) q d s h = part_got (Some w) d (named p s w) s (λ y e ww. named_within s w y e ww) h
    denote_keeps (build t args) q d s h = on_option (Stands None d) (type_of p t) _ (λ ty. on_then (With (List Typed) d) (Stands None d) (values p calls args s) _ (values_keep args q d s h) (λ x hx. done_keeps None d (built ty x.0) x.1 hx))
    denote_keeps (Expr.call w args) q d s h =
        on_kinds (Stands None d) (call_kind p w) _ _ _ _ _
        (on_then (Passed args d) (Stands None d) (arguments p calls args s) _ (arguments_keep args q.1 d s h) (λ x hx. on_then (λ (r : Option Typed × State). I d r.1) (Stands None d) (calls w x.0 x.1) _ (called d w x.0 x.1 (hx.0 q.0) hx.1) (λ r hr. done_keeps None d r.0 r.1 hr)))
        (λ a. on_then (Placed d) (Stands None d) (place_and_values p calls args s) _ (place_keeps args q.1 d s h) (λ x hx. updated_keeps None d a x.0 x.1 x.2 hx))
        (λ f. on_then (With (List Typed) d) (Stands None d) (values p calls args s) _ (values_keep args q.1 d s h) (λ x hx. done_keeps None d (pure_value f x.0) x.1 hx))
        (λ e. tt)
        tt
    denote_keeps (not e) q d s h = then_keeps (Stands None d) (root e) d (denote p calls e s) _ (denote_keeps e q d s h) (λ v s hs. done_keeps None d _ s hs)
    denote_keeps (flip e) q d s h = then_keeps (Stands None d) (root e) d (denote p calls e s) _ (denote_keeps e q d s h) (λ v s hs. done_keeps None d _ s hs)
    denote_keeps (binary o a b) q d s h =
        then_keeps (Stands None d) (root a) d (denote p calls a s) _ (denote_keeps a q.0 d s h) (λ v s hs.
        on_settled (Stands None d) (settling o) _ _
        (λ settled. on_option (Stands None d) (as_truth v) _ (λ t. on_choice (Stands None d) (same_truth settled t) (got [] (value v, s)) _ ((λ u. tt), hs)
        (then_keeps (Stands None d) (root b) d (denote p calls b s) _ (denote_keeps b q.1 d s hs) (λ u s hu. on_option (Stands None d) (as_truth u) _ (λ t. ((λ x. tt), hu))))))
        (then_keeps (Stands None d) (root b) d (denote p calls b s) _ (denote_keeps b q.1 d s hs) (λ u s hu. done_keeps None d (operated o v u) s hu)))
    denote_keeps (choose c a b) q d s h =
        then_keeps (Stands None d) (root c) d (denote p calls c s) _ (denote_keeps c q.0 d s h) (λ v s hs. on_option (Stands None d) (as_truth v) _ (λ t. on_choice (Stands None d) t _ _
        (then_keeps (Stands None d) (root a) d (denote p calls a s) _ (denote_keeps a q.1 d s hs) (λ u s hu. ((λ x. tt), hu)))
        (then_keeps (Stands None d) (root b) d (denote p calls b s) _ (denote_keeps b q.2 d s hs) (λ u s hu. ((λ x. tt), hu)))))
    denote_keeps (Expr.member e w) q d s h =
        on_then (Stands (root e) d) (Stands (root e) d) (denote p calls e s) _ (denote_keeps e q d s h) (λ x hx. part_got (root e) d (member_of x.0 w) x.1 (λ y m r. member_within x.0 y w m (hx.0 r)) hx.1)
    denote_keeps (Expr.index a i) q d s h =
        on_then (Stands (root a) d) (Stands (root a) d) (denote p calls a s) _ (denote_keeps a q.0 d s h) (λ x hx. then_keeps (Stands (root a) d) (root i) d (denote p calls i x.1) _ (denote_keeps i q.1 d x.1 hx.1) (λ v s hs. part_got (root a) d (element_of x.0 v) s (λ y m r. element_within x.0 y v m (hx.0 r)) hs))
    denote_keeps (length_of e) q d s h =
        on_then (Stands (root e) d) (Stands None d) (denote p calls e s) _ (denote_keeps e q d s h) (λ x hx. part_got None d (length_value p.invocation x.0) x.1 (λ y m r. length_within p.invocation x.0 y m) hx.1)

    values_keep : (es : Exprs) → ExprsWrite W es → (d : ℕ) (s : State) → I d s → OnGot (With (List Typed) d) (values p calls es s)
    values_keep no_exprs q d s h = h
    values_keep (expr e es) q d s h = then_keeps (With (List Typed) d) (root e) d (denote p calls e s) _ (denote_keeps e q.0 d s h) (λ v s hs. on_then (With (List Typed) d) (With (List Typed) d) (values p calls es s) _ (values_keep es q.1 d s hs) (λ y hy. hy))

    arguments_keep : (es : Exprs) → ExprsWrite W es → (d : ℕ) (s : State) → I d s → OnGot (Passed es d) (arguments p calls es s)
    arguments_keep no_exprs q d s h = ((λ r. tt), h)
    arguments_keep (expr e es) q d s h =
        on_then (Stands (root e) d) (Passed (expr e es) d) (denote p calls e s) _ (denote_keeps e q.0 d s h) (λ x hx.
        on_then (With Typed d) (Passed (expr e es) d) (fetch x.0 x.1) _ (fetch_keeps d x.0 x.1 hx.1) (λ v hv.
        on_then (Passed es d) (Passed (expr e es) d) (arguments p calls es v.1) _ (arguments_keep es q.1 d v.1 hv) (λ y hy. ((λ r. (hx.0 r.0, hy.0 r.1)), hy.1))))

    place_keeps : (es : Exprs) → ExprsWrite W es → (d : ℕ) (s : State) → I d s → OnGot (Placed d) (place_and_values p calls es s)
    place_keeps no_exprs q d s h = tt
    place_keeps (expr e es) q d s h = on_then (Stands (root e) d) (Placed d) (denote p calls e s) _ (denote_keeps e q.0 d s h) (λ x hx. on_then (With (List Typed) d) (Placed d) (values p calls es x.1) _ (values_keep es q.1 d x.1 hx.1) (λ y hy. hy))

  evaluate_keeps : (e : Expr) → ExprWrites W e → (d : ℕ) (s : State) → I d s → OnGot (With Typed d) (evaluate p calls e s)
  evaluate_keeps e q d s h = then_keeps (With Typed d) (root e) d (denote p calls e s) _ (denote_keeps e q d s h) (λ v s hs. hs)

  abbrev Within : ℕ → Thing × State → Type 0
  Within d x = IsWithin W x.0 × I d x.1

  within_got : (d : ℕ) (o : Option Thing) (r : List LStep) (s : State) → ((y : Thing) → o ≡ Some y → OnGot (Within d) (steps p calls y r s)) → OnGot (Within d) (or_stuck o (λ y. steps p calls y r s))
  within_got d None r s f = tt
  within_got d (Some y) r s f = f y refl

  steps_keep : (ls : List LStep) → StepsWrite W ls → (x : Thing) (d : ℕ) (s : State) → IsWithin W x → I d s → OnGot (Within d) (steps p calls x ls s)
  steps_keep [] q x d s i h = (i, h)
  steps_keep (LStep.member w ∷ r) q x d s i h = within_got d (member_of x w) r s (λ y m. steps_keep r q y d s (member_within x y w m i) h)
  steps_keep (LStep.index e ∷ r) q x d s i h = on_then (With Typed d) (Within d) (evaluate p calls e s) _ (evaluate_keeps e q.0 d s h) (λ v hv. within_got d (element_of x v.0) r v.1 (λ y m. steps_keep r q.1 y d v.1 (element_within x y v.0 m i) hv))

  assigned_keeps : (w : Text) (path : List ℕ) (v : ValueTree) (d : ℕ) (s : State) (x : Option Variable) → W w → I d s → OnGot (I d) (assigned w path v s x)
  assigned_keeps w [] v d s x ww h = kept.puts d s w v ww h
  assigned_keeps w (i ∷ path) v d s None ww h = tt
  assigned_keeps w (i ∷ path) v d s (Some x) ww h = on_option (I d) (option_and_then (inserted v (i ∷ path)) x.value) _ (λ whole. kept.puts d s w whole ww h)

  stored_keeps : (x : Thing) (v : ValueTree) (d : ℕ) (s : State) → IsWithin W x → I d s → OnGot (I d) (store_to x v s)
  stored_keeps (value u) v d s i h = tt
  stored_keeps (variable w path t u) v d s i h = assigned_keeps w path v d s (or_outer (found_in s.frames w) (found s.globals w)) i h
  stored_keeps (instance place kind members) v d s i h = tt
  stored_keeps (memory at t) v d s i h = h

  pub store_keeps : (x : Thing) (v : Typed) (d : ℕ) (s : State) → IsWithin W x → I d s → OnGot (I d) (store x v s)
  store_keeps x (typed t v) d s i h = on_choice (I d) (is_of_thing x t) (store_to x v s) (stuck []) (stored_keeps x v d s i h) tt

  declaration_keeps : (b : Bool) (w : Text) (t : Shape) (v : Typed) (d : ℕ) (s : State) → W w → I d s → OnOutcome (I d) (elim b [ true ↦ normal [] (with_first_value w t v s) | false ↦ stuck [] ])
  declaration_keeps true w t v d s ww h = kept.declares d s w _ ww h
  declaration_keeps false w t v d s ww h = tt

  barrier_keeps : (e : Event) (args : Exprs) (d : ℕ) (s : State) → I d s → OnOutcome (I d) (barrier_run e args s)
  barrier_keeps e no_exprs d s h = h
  barrier_keeps e (expr a es) d s h = tt

  out_kinds : (J : State → Type 0) (kind : CallKind) (x : Run) (f : AtomicFunction → Run) (g : PureFunction → Run) (h : Event → Run) (y : Run) → OnOutcome J x → ((a : AtomicFunction) → OnOutcome J (f a)) → ((q : PureFunction) → OnOutcome J (g q)) → ((e : Event) → OnOutcome J (h e)) → OnOutcome J y
      → OnOutcome J (elim kind [ user ↦ x | atomic a ↦ f a | pure q ↦ g q | barrier e ↦ h e | unknown ↦ y ])
  out_kinds J user x f g h y a b c d e = a
  out_kinds J (atomic q) x f g h y a b c d e = b q
  out_kinds J (pure q) x f g h y a b c d e = c q
  out_kinds J (barrier q) x f g h y a b c d e = d q
  out_kinds J unknown x f g h y a b c d e = e

  typed_keeps : (t : TypeName) → OnGot (λ (shape : Shape). Unit {0}) (or_stuck (type_of p t) (λ (shape : Shape). got [] shape))
  typed_keeps t = on_option (λ (shape : Shape). Unit {0}) (type_of p t) _ (λ shape. tt)

  truth_keeps : (d : ℕ) (v : Typed) (f : Bool → Run) → ((t : Bool) → OnOutcome (I d) (f t)) → OnOutcome (I d) (truth_then v f)
  truth_keeps d v f h = out_got (I d) (λ (t : Bool). Unit {0}) _ f (on_option (λ (t : Bool). Unit {0}) (as_truth v) _ (λ t. tt)) (λ t u. h t)

  -- what is assigned to, by its name and steps
  target_keeps : (w : Text) (ls : List LStep) (d : ℕ) (s : State) (o : Option Thing) → named p s w ≡ o → W w → StepsWrite W ls → I d s → OnGot (Within d) (or_stuck o (λ x. steps p calls x ls s))
  target_keeps w ls d s None e ww q h = tt
  target_keeps w ls d s (Some x) e ww q h = steps_keep ls q x d s (named_within s w x e ww) h

  braces_keep : (f : State → Run) → ((d : ℕ) (s : State) → I d s → OnOutcome (I d) (f s)) → (d : ℕ) (s : State) → I d s → OnOutcome (I d) (in_braces f s)
  braces_keep f g d s h = out_closed (I d) (I (suc d)) (f (pushed s)) (λ t ht. kept.exits d t ht) (g (suc d) (pushed s) (kept.enters d s h))

  mutual
    pub stmt_keeps : (x : Stmt) → StmtWrites W x → (d : ℕ) (s : State) → I d s → OnOutcome (I d) (stmt_run p calls k x s)
    stmt_keeps (declare t w None) q d s h = out_got (I d) (λ (shape : Shape). Unit {0}) _ _ (typed_keeps t) (λ shape u. kept.declares d s w _ q h)
    stmt_keeps (declare t w (Some e)) q d s h =
        out_got (I d) (λ (shape : Shape). Unit {0}) _ _ (typed_keeps t) (λ shape u.
        out_got (I d) (With Typed d) (evaluate p calls e s) _ (evaluate_keeps e q.1 d s h) (λ v hv. declaration_keeps (same_shape shape (shape_of v.0)) w shape v.0 d v.1 q.0 hv))
    stmt_keeps (assign (lvalue w ls) e) q d s h =
        out_got (I d) (Within d) (or_stuck (named p s w) (λ x. steps p calls x ls s)) _ (target_keeps w ls d s (named p s w) refl q.0 q.1 h) (λ x hx.
        out_got (I d) (With Typed d) (evaluate p calls e x.1) _ (evaluate_keeps e q.2 d x.1 hx.1) (λ v hv.
        out_got (I d) (I d) (store x.0 v.0 v.1) _ (store_keeps x.0 v.0 d v.1 hx.0 hv) (λ s hs. hs)))
    stmt_keeps (Stmt.call w args) q d s h =
        out_kinds (I d) (call_kind p w) _ _ _ _ _
        (out_got (I d) (Passed args d) (arguments p calls args s) _ (arguments_keep args q.1 d s h) (λ x hx. out_got (I d) (λ (r : Option Typed × State). I d r.1) (calls w x.0 x.1) _ (called d w x.0 x.1 (hx.0 q.0) hx.1) (λ r hr. hr)))
        (λ a. out_got (I d) (Stands None d) (denote p calls (Expr.call w args) s) _ (denote_keeps (Expr.call w args) q d s h) (λ x hx. hx.1))
        (λ f. out_got (I d) (Stands None d) (denote p calls (Expr.call w args) s) _ (denote_keeps (Expr.call w args) q d s h) (λ x hx. hx.1))
        (λ e. barrier_keeps e args d s h)
        tt
    stmt_keeps (when e a) q d s h =
        out_got (I d) (With Typed d) (evaluate p calls e s) _ (evaluate_keeps e q.0 d s h) (λ v hv. truth_keeps d v.0 _ (λ t. out_choice (I d) t _ _ (braces_keep (stmts_run p calls k a) (stmts_keep a q.1) d v.1 hv) hv))
    stmt_keeps (either e a b) q d s h =
        out_got (I d) (With Typed d) (evaluate p calls e s) _ (evaluate_keeps e q.0 d s h) (λ v hv. truth_keeps d v.0 _ (λ t. out_choice (I d) t _ _ (braces_keep (stmts_run p calls k a) (stmts_keep a q.1) d v.1 hv) (braces_keep (stmts_run p calls k b) (stmts_keep b q.2) d v.1 hv)))
    stmt_keeps (loop a) q d s h = out_turns (I d) k (in_braces (stmts_run p calls k a)) (braces_keep (stmts_run p calls k a) (stmts_keep a q) d) s h
    stmt_keeps (switch e arms) q d s h =
        out_got (I d) (With Typed d) (evaluate p calls e s) _ (evaluate_keeps e q.0 d s h) (λ v hv. out_choice (I d) (is_selector v.0) _ _ (out_behind (I d) _ (arms_keep arms q.1 (entered v.0 arms) d v.1 hv)) tt)
    stmt_keeps leave q d s h = h
    stmt_keeps again q d s h = h
    stmt_keeps (give None) q d s h = h
    stmt_keeps (give (Some e)) q d s h = out_got (I d) (With Typed d) (evaluate p calls e s) _ (evaluate_keeps e q d s h) (λ v hv. hv)

    pub stmts_keep : (xs : Stmts) → StmtsWrite W xs → (d : ℕ) (s : State) → I d s → OnOutcome (I d) (stmts_run p calls k xs s)
    stmts_keep no_stmts q d s h = h
    stmts_keep (stmt x r) q d s h = out_then (I d) (stmt_run p calls k x s) (stmts_run p calls k r) (stmt_keeps x q.0 d s h) (stmts_keep r q.1 d)

    arms_keep : (as' : Arms) → ArmsWrite W as' → (v : List Label → Bool) (d : ℕ) (s : State) → I d s → OnOutcome (I d) (arms_run p calls k as' v s)
    arms_keep no_arms q v d s h = h
    arms_keep (arm ls b r) q v d s h = out_choice (I d) (v ls) _ _ (out_then (I d) _ (arms_from p calls k r) (braces_keep (stmts_run p calls k b) (stmts_keep b q.0) d s h) (from_keep r q.1 d)) (arms_keep r q.1 v d s h)

    from_keep : (as' : Arms) → ArmsWrite W as' → (d : ℕ) (s : State) → I d s → OnOutcome (I d) (arms_from p calls k as' s)
    from_keep no_arms q d s h = h
    from_keep (arm ls b r) q d s h = out_then (I d) _ (arms_from p calls k r) (braces_keep (stmts_run p calls k b) (stmts_keep b q.0) d s h) (from_keep r q.1 d)
