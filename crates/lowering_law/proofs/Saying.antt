-- What expressions say, from what their operands say: a law for each way to make an expression.
use Rattle.std.proofs.Common.{◌≡◌, Bool, true, false, List, [], ◌∷◌, ◌++◌, Option, Some, None, refl, ap, ◌∙◌}
use Rattle.std.specs.Prelude.{◌&&◌, ◌||◌}
use Rattle.spv_types.specs.Tree.{ValueTree, truth}
use Rattle.glsl_ast.specs.Tree.{Text, TypeName, Expr, literal, name, build, not, flip, binary, choose, Exprs, no_exprs, expr, exprs_in}
use Rattle.glsl_ast.specs.declared.expressions.Literal.{Literal}
use Rattle.glsl_ast.specs.declared.expressions.BinOp.{BinOp}
use Rattle.glsl_ast.specs.declared.expressions.BinOp.TheVariants.{Both, Either}
use Rattle.traces.specs.Events.{Event}
use Rattle.traces.specs.Outcomes.{Result, got, cut, waits, stuck, with_before, then_get, or_stuck}
use Rattle.glsl_semantics.specs.Shapes.{Shape, boolean, Typed, typed}
use Rattle.glsl_semantics.specs.Operators.{operated, negated, flipped}
use Rattle.glsl_semantics.specs.Functions.{PureFunction, pure_value, built}
use Rattle.glsl_semantics.specs.States.{State, found, found_in, or_outer, Thing, value, fetch}
use Rattle.glsl_semantics.specs.Expressions.{Program, Argument, type_of, literal_value, variable_of, CallKind, user, atomic, pure, barrier, unknown, call_kind, settling, done, then_fetch, denote, values, arguments, place_and_values, updated}
use Rattle.lowering_law.specs.Says.{Says, AllSay}

before_none : {A : Type 0} (g : Result A) → with_before [] g ≡ g
before_none (got e a) = refl
before_none (cut e) = refl
before_none (waits e) = refl
before_none (stuck e) = refl

pub both_empty : (e f : List Event) → e ++ f ≡ [] → (e ≡ []) × (f ≡ [])
both_empty [] f h = (refl, h)
both_empty (x ∷ e) f h = cc

-- what is read as a value
abbrev pub read : Result (Thing × State) → Result (Typed × State)
read g = then_fetch g (λ v z. got [] (v, z))

neither : (q : Option Bool) (f : Bool → Result (Thing × State)) (y : Result (Thing × State)) → q ≡ None → elim q [ Some t ↦ f t | None ↦ y ] ≡ y
neither None f y e = refl
neither (Some t) f y e = cc

-- what goes on from an evaluation that says a value goes on from that value
fetch_then : {A : Type 0} (g : Result (Thing × State)) (v : Typed) (s : State) (f : Typed → State → Result A) → read g ≡ got [] (v, s) → then_fetch g f ≡ f v s
fetch_then (got e x) v s f h = by_fetch (fetch x.0 x.1) h
  where
    by_fetch : (q : Result (Typed × State)) → with_before {A = Typed × State} e (then_get q (λ y. got [] (y.0, y.1))) ≡ got [] (v, s) → with_before e (then_get q (λ y. f y.0 y.1)) ≡ f v s
    by_fetch (got d y) h =
        let events : e ++ (d ++ []) ≡ [] = cc in
        let parts = both_empty e (d ++ []) events in
        let inner = both_empty d [] parts.1 in
        let a : y.0 ≡ v = cc in
        let b : y.1 ≡ s = cc in
        ap (λ l. with_before l (with_before d (f y.0 y.1))) parts.0
        ∙ ap (λ l. with_before [] (with_before l (f y.0 y.1))) inner.0
        ∙ before_none (with_before [] (f y.0 y.1)) ∙ before_none (f y.0 y.1) ∙ ap (λ u. f u y.1) a ∙ ap (f v) b
    by_fetch (cut d) h = cc
    by_fetch (waits d) h = cc
    by_fetch (stuck d) h = cc
fetch_then (cut e) v s f h = cc
fetch_then (waits e) v s f h = cc
fetch_then (stuck e) v s f h = cc

module _ (p : Program) (calls : Text → List Argument → State → Result (Option Typed × State)) (s : State) where
  abbrev S : Expr → Typed → Type 0
  S = Says p calls s

  -- what goes on from an operand
  pub on_operand : {A : Type 0} (e : Expr) (v : Typed) (f : Typed → State → Result A) → S e v → then_fetch (denote p calls e s) f ≡ f v s
  on_operand e v f h = fetch_then (denote p calls e s) v s f h

  -- a value that is there is what is said
  done_says : (o : Option Typed) (v : Typed) → o ≡ Some v → read (done o s) ≡ got [] (v, s)
  done_says o v h = ap (λ q. read (done q s)) h

  pub says_literal : (l : Literal) → S (literal l) (literal_value l)
  says_literal l = refl

  pub says_not : (e : Expr) (v u : Typed) → S e v → negated v ≡ Some u → S (not e) u
  says_not e v u h o = ap read (on_operand e v (λ v s. done (negated v) s) h) ∙ done_says (negated v) u o

  pub says_flip : (e : Expr) (v u : Typed) → S e v → flipped v ≡ Some u → S (flip e) u
  says_flip e v u h o = ap read (on_operand e v (λ v s. done (flipped v) s) h) ∙ done_says (flipped v) u o

  -- an operator that needs both operands
  pub says_binary : (o : BinOp) (a b : Expr) (v u r : Typed) → settling o ≡ None → S a v → S b u → operated o v u ≡ Some r → S (binary o a b) r
  says_binary o a b v u r both ha hb is =
      ap read (on_operand a v _ ha)
      ∙ ap read (neither (settling o) _ _ both ∙ on_operand b u (λ u z. done (operated o v u) z) hb)
      ∙ done_says (operated o v u) r is

  -- `&&` and `||`
  pub says_both : (a b : Expr) (x y : Bool) → S a (typed boolean (truth x)) → S b (typed boolean (truth y)) → S (binary Both a b) (typed boolean (truth (x && y)))
  says_both a b true y ha hb = ap read (on_operand a (typed boolean (truth true)) _ ha ∙ on_operand b (typed boolean (truth y)) _ hb)
  says_both a b false y ha hb = ap read (on_operand a (typed boolean (truth false)) _ ha)

  pub says_either : (a b : Expr) (x y : Bool) → S a (typed boolean (truth x)) → S b (typed boolean (truth y)) → S (binary Either a b) (typed boolean (truth (x || y)))
  says_either a b true y ha hb = ap read (on_operand a (typed boolean (truth true)) _ ha)
  says_either a b false y ha hb = ap read (on_operand a (typed boolean (truth false)) _ ha ∙ on_operand b (typed boolean (truth y)) _ hb)

  -- a choice by a truth value
  pub says_choose_first : (c a b : Expr) (v : Typed) → S c (typed boolean (truth true)) → S a v → S (choose c a b) v
  says_choose_first c a b v hc ha =
      ap read (on_operand c (typed boolean (truth true)) _ hc ∙ on_operand a v (λ u z. got [] (value u, z)) ha)

  pub says_choose_second : (c a b : Expr) (v : Typed) → S c (typed boolean (truth false)) → S b v → S (choose c a b) v
  says_choose_second c a b v hc hb =
      ap read (on_operand c (typed boolean (truth false)) _ hc ∙ on_operand b v (λ u z. got [] (value u, z)) hb)

  all_values : (es : Exprs) (vs : List Typed) → AllSay p calls s es vs → values p calls es s ≡ got [] (vs, s)
  all_values no_exprs [] h = refl
  all_values no_exprs (v ∷ vs) h = absurd h
  all_values (expr e es) [] h = absurd h
  all_values (expr e es) (v ∷ vs) h =
      on_operand e v _ h.0 ∙ ap (λ g. then_get g (λ y. got [] (v ∷ y.0, y.1))) (all_values es vs h.1)

  -- with one expression more
  pub all_end : (es : List Expr) (vs : List Typed) (e : Expr) (v : Typed) → AllSay p calls s (exprs_in es) vs → S e v → AllSay p calls s (exprs_in (es ++ e ∷ [])) (vs ++ v ∷ [])
  all_end [] [] e v a h = (h, tt)
  all_end [] (u ∷ vs) e v a h = absurd a
  all_end (d ∷ es) [] e v a h = absurd a
  all_end (d ∷ es) (u ∷ vs) e v a h = (a.0, all_end es vs e v a.1 h)

  pub says_build : (t : TypeName) (shape : Shape) (es : Exprs) (vs : List Typed) (r : Typed) → type_of p t ≡ Some shape → AllSay p calls s es vs → built shape vs ≡ Some r → S (build t es) r
  says_build t shape es vs r is h o =
      ap (λ q. read (or_stuck q (λ ty. then_get (values p calls es s) (λ x. done (built ty x.0) x.1)))) is
      ∙ ap (λ g. read (then_get g (λ x. done (built shape x.0) x.1))) (all_values es vs h)
      ∙ ap read (before_none (done (built shape vs) s))
      ∙ done_says (built shape vs) r o

  -- a built-in function without effect
  pub says_pure : (w : Text) (f : PureFunction) (es : Exprs) (vs : List Typed) (r : Typed) → call_kind p w ≡ pure f → AllSay p calls s es vs → pure_value f vs ≡ Some r → S (Expr.call w es) r
  says_pure w f es vs r is h o =
      ap read (by_kind (call_kind p w) is)
      ∙ ap (λ g. read (then_get g (λ x. done (pure_value f x.0) x.1))) (all_values es vs h)
      ∙ ap read (before_none (done (pure_value f vs) s))
      ∙ done_says (pure_value f vs) r o
    where
      by_kind : (k : CallKind) → k ≡ pure f
          → elim k as (λ q. Result (Thing × State)) [
            | user ↦ then_get (arguments p calls es s) (λ x. then_get (calls w x.0 x.1) (λ r. done r.0 r.1))
            | atomic a ↦ then_get (place_and_values p calls es s) (λ x. updated a x.0 x.1 x.2)
            | pure g ↦ then_get (values p calls es s) (λ x. done (pure_value g x.0) x.1)
            | barrier e ↦ stuck []
            | unknown ↦ stuck []
          ] ≡ then_get (values p calls es s) (λ x. done (pure_value f x.0) x.1)
      by_kind user e = cc
      by_kind (atomic a) e = cc
      by_kind (pure g) e = let same : g ≡ f = cc in ap (λ q. then_get (values p calls es s) (λ x. done (pure_value q x.0) x.1)) same
      by_kind (barrier b) e = cc
      by_kind unknown e = cc

  -- a variable that has a value
  pub says_name : (w : Text) (t : Shape) (v : ValueTree) → or_outer (found_in s.frames w) (found s.globals w) ≡ Some (record { shape = t; value = Some v }) → S (name w) (typed t v)
  says_name w t v h = ap (λ o. read (or_stuck (elim o as (λ q. Option Thing) [ Some x ↦ Some (variable_of w x) | None ↦ p.things w ]) (λ x. got [] (x, s)))) h
