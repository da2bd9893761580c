-- The expression of a switch's selector enters the group that has its word, where it says what the module has.
use Rattle.std.proofs.Common.{◌≡◌, ◌⊎◌, ◌==◌, ℕ, true, List, [], Option, Some, inl, inr, refl, sym, ap, ◌∙◌, subst}
use Rattle.spv_types.specs.Tree.{ValueTree, word}
use Rattle.list_law.proofs.Numbers.{turned}
use Rattle.traces.specs.Outcomes.{Result, got}
use Rattle.module_semantics.specs.Setting.{Setting}
use Rattle.module_semantics.specs.State.{Conf}
use Rattle.module_semantics.specs.Operands.{value_at, word_at}
use Rattle.glsl_ast.specs.Tree.{Text, Expr}
use Rattle.glsl_semantics.specs.Shapes.{Shape, int, uint, Typed, typed}
use Rattle.glsl_semantics.specs.States.{State}
use Rattle.glsl_semantics.specs.Expressions.{Program, Argument, evaluate}
use Rattle.glsl_semantics.specs.Statements.{is_case, is_selector}
pub use Rattle.fits_law.proofs.Parts.{word_value}

-- literals of the selector's type are its cases by their words
pub selects : (p : Program) (calls : Text → List Argument → State → Result (Option Typed × State)) (s : Setting) (c : Conf) (z : State) (n x : ℕ) (t : Shape) (e : Expr) (literals : ℕ → Typed) → (t ≡ int) ⊎ (t ≡ uint) → ((l : ℕ) → literals l ≡ typed t (word l))
    → ((v : ValueTree) → value_at s c.top n ≡ Some v → evaluate p calls e z ≡ got [] (typed t v, z)) → word_at s c.top n ≡ Some x
    → (v : Typed) × (is_selector v ≡ true) × ((l : ℕ) → is_case v (literals l) ≡ (l == x)) × (evaluate p calls e z ≡ got [] (v, z))
selects p calls s c z n x t e literals kind are says has = (typed t (word x), selector kind, λ l. ap (is_case (typed t (word x))) (are l) ∙ (case_is l kind ∙ turned x l), says (word x) (word_value (value_at s c.top n) x has))
  where
    selector : (t ≡ int) ⊎ (t ≡ uint) → is_selector (typed t (word x)) ≡ true
    selector (inl is) = subst (λ u. is_selector (typed u (word x)) ≡ true) (sym is) refl
    selector (inr is) = subst (λ u. is_selector (typed u (word x)) ≡ true) (sym is) refl

    case_is : (l : ℕ) → (t ≡ int) ⊎ (t ≡ uint) → is_case (typed t (word x)) (typed t (word l)) ≡ (x == l)
    case_is l (inl is) = subst (λ u. is_case (typed u (word x)) (typed u (word l)) ≡ (x == l)) (sym is) refl
    case_is l (inr is) = subst (λ u. is_case (typed u (word x)) (typed u (word l)) ≡ (x == l)) (sym is) refl
