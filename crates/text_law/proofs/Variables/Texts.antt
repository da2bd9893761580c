-- What lists of statements declare with a value.
use Rattle.std.proofs.Common.{◌≡◌, ◌+◌, ℕ, Bool, List, [], ◌∷◌, ◌++◌, Option, Some, None, append_assoc, refl, ap, sym, ◌∙◌, arith}
use Rattle.std.specs.Prelude.{is_some}
use Rattle.glsl_ast.specs.Tree as text
use Rattle.glsl_ast.specs.Tree.{Text, Expr, Stmt, stmts_in}
use Rattle.control_text.specs.Statements.{set_flag, flags, conditional, unless_fallen, leave_again, turn}
use Rattle.text_law.specs.Declarations.{declared_by, declared, valued, occurs}

pub occurs_both : (x : Text) (xs ys : List Text) → occurs x (xs ++ ys) ≡ occurs x xs + occurs x ys
occurs_both x [] ys = omega arith
occurs_both x (y ∷ xs) ys = let rest = occurs_both x xs ys in omega (arith, rest)

-- in a list of statements
module _ (so : Option Expr → Bool) where
  pub declared_both : (a b : List Stmt) → declared so (stmts_in (a ++ b)) ≡ declared so (stmts_in a) ++ declared so (stmts_in b)
  declared_both [] b = refl
  declared_both (s ∷ a) b = ap (λ (l : List Text). declared_by so s ++ l) (declared_both a b) ∙ sym (append_assoc (declared_by so s) (declared so (stmts_in a)) (declared so (stmts_in b)))

module _ (x : Text) where
  -- how often the name is declared with a value
  abbrev pub times_in : List Stmt → ℕ
  times_in ss = occurs x (valued (stmts_in ss))

  pub times_both : (a b : List Stmt) → times_in (a ++ b) ≡ times_in a + times_in b
  times_both a b = ap (occurs x) (declared_both is_some a b) ∙ occurs_both x (valued (stmts_in a)) (valued (stmts_in b))

  pub times_first : (s : Stmt) (ss : List Stmt) → times_in (s ∷ ss) ≡ times_in (s ∷ []) + times_in ss
  times_first s ss = times_both (s ∷ []) ss

  -- a flag that is set is not declared
  pub set_none : (o : Option Text) (v : Bool) → times_in (flags (λ flag. set_flag flag v ∷ []) o) ≡ 0
  set_none None v = refl
  set_none (Some flag) v = refl

  pub conditional_times : (c : Expr) (a b : List Stmt) → times_in (conditional c a b ∷ []) ≡ times_in a + times_in b
  conditional_times c a [] = occurs_both x (valued (stmts_in a)) []
  conditional_times c a (s ∷ b) =
      let one = occurs_both x (valued (stmts_in a) ++ valued (stmts_in (s ∷ b))) [] in
      let two = occurs_both x (valued (stmts_in a)) (valued (stmts_in (s ∷ b))) in
      omega (arith, one, two)

  pub unless_times : (copies : List Stmt) (o : Option Text) → times_in (unless_fallen copies o) ≡ times_in copies
  unless_times copies None = refl
  unless_times copies (Some flag) = let e = occurs_both x (valued (stmts_in copies)) [] in omega (arith, e)

  pub leave_none : (o : Option Text) → times_in (leave_again o) ≡ 0
  leave_none None = refl
  leave_none (Some flag) = refl

  -- the continue construct is written where the loop has its flag
  pub turn_times : (flag : Text) (cont : List Stmt) → times_in (turn (Some flag) cont) ≡ times_in cont
  turn_times flag cont = let e = occurs_both x (valued (stmts_in cont)) [] in omega (arith, e)

  pub loop_times : (inside : List Stmt) → times_in (text.loop (stmts_in inside) ∷ []) ≡ times_in inside
  loop_times inside = let e = occurs_both x (valued (stmts_in inside)) [] in omega (arith, e)
