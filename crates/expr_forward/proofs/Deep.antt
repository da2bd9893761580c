-- The value with an id, by what is known of it.
use Rattle.std.proofs.Common.{◌≡◌, ℕ, zero, suc, ◌-◌, ◌<◌, Some, None, refl, arith}
use native.Mathlib.Numerals.{unary_clauses}
use Rattle.glsl_ast.specs.Tree.{Expr}
use Rattle.expr_forward.specs.Scope.{Scope}
use Rattle.expr_forward.specs.Values.{value_in, by_form, variable}

pub value_at_end : (w : Scope) (block deep n : ℕ) → deep ≡ 0 → value_in w block deep n ≡ variable w n
unfolding value_in
value_at_end w block zero n e = refl
value_at_end w block (suc deep) n e = absurd (omega arith)

pub value_of_global : (w : Scope) (block deep n : ℕ) (x : Expr) → 0 < deep → w.setting.global n ≡ Some x → value_in w block deep n ≡ x
unfolding value_in
value_of_global w block zero n x less e = absurd (omega arith)
value_of_global w block (suc deep) n x less e = rw e refl

pub value_by_form : (w : Scope) (block deep n : ℕ) → 0 < deep → w.setting.global n ≡ None → value_in w block deep n ≡ by_form w (value_in w block (deep - 1)) block n (w.form n)
unfolding value_in
value_by_form w block zero n less e = absurd (omega arith)
value_by_form w block (suc deep) n less e = rw e (simp unary_clauses)

pub ruleset deep_rules = (value_at_end, value_of_global, value_by_form)
