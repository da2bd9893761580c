-- Scalar operands: as whichever type of number they are wanted, they say their word.
use Rattle.std.proofs.Common.{◌≡◌, ℕ, Bool, true, false, List, [], ◌∷◌, Option, Some, None, refl, sym, subst}
use Rattle.std.specs.Prelude.{nat_lt, if◌then◌else◌}
use Rattle.spv_module.specs.declared.tree.Elem.{Elem}
use Rattle.spv_module.specs.declared.tree.Elem.TheVariants as elem
use Rattle.glsl_ast.specs.Tree.{Text, Expr, literal, expr, no_exprs}
use Rattle.glsl_ast.specs.declared.expressions.Literal.TheVariants as of
use Rattle.int_lowering.specs.declared.basic.BasicType.{BasicType}
use Rattle.int_lowering.specs.Operand.{Operand, scalar, with_elem, type_named, literal_of, converted, as_elem}
use Rattle.traces.specs.Outcomes.{Result}
use Rattle.glsl_semantics.specs.Shapes.{Typed, scalar as shape_of_elem}
use Rattle.glsl_semantics.specs.States.{State}
use Rattle.glsl_semantics.specs.Expressions.{Program, Argument, literal_value}
use Rattle.lowering_law.specs.Says.{Says}
use Rattle.lowering_law.specs.Numbers.{IsNumeric, number}
use Rattle.lowering_law.specs.Stands.{Stands}
use Rattle.lowering_law.proofs.Saying.{says_literal, says_build}
use Rattle.lowering_law.proofs.Quotients.{IsNumber}

int_literal : (t : Bool) (w : ℕ) → literal_value (if t then of.Int w else of.Hex w) ≡ number elem.Int w
int_literal true w = refl
int_literal false w = refl

pub literal_number : (e : Elem) (w : ℕ) → IsNumeric e → literal_value (literal_of e w) ≡ number e w
literal_number elem.Int w h = int_literal (nat_lt w 2147483648) w
literal_number elem.Uint w h = refl
literal_number elem.Bool w h = absurd h

module _ (p : Program) (calls : Text → List Argument → State → Result (Option Typed × State)) (s : State) where
  abbrev S : Expr → Typed → Type 0
  S = Says p calls s

  -- a number that is wanted as another type is a constructor of it
  pub converted_says : (e f : Elem) (x : Expr) (a : ℕ) → IsNumeric e → IsNumeric f → S x (number e a) → S (converted (scalar f) e x) (number f a)
  converted_says elem.Int elem.Int x a he hf h = h
  converted_says elem.Uint elem.Uint x a he hf h = h
  converted_says elem.Int elem.Uint x a he hf h = says_build p calls s (type_named (scalar elem.Uint)) (shape_of_elem elem.Uint) (expr x no_exprs) (number elem.Int a ∷ []) (number elem.Uint a) refl (h, tt) refl
  converted_says elem.Uint elem.Int x a he hf h = says_build p calls s (type_named (scalar elem.Int)) (shape_of_elem elem.Int) (expr x no_exprs) (number elem.Uint a ∷ []) (number elem.Int a) refl (h, tt) refl
  converted_says elem.Bool f x a he hf h = absurd he
  converted_says elem.Int elem.Bool x a he hf h = absurd hf
  converted_says elem.Uint elem.Bool x a he hf h = absurd hf

  pub as_elem_says : (e : Elem) (x : Operand) (a : ℕ) → IsNumeric e → Stands p calls s x a → S (as_elem e x) (number e a)
  as_elem_says e x a he h = by_word x.word refl
    where
      otherwise : BasicType → Expr
      otherwise ty = converted (with_elem e ty) ty.elem x.expr

      by_word : (o : Option ℕ) → x.word ≡ o → S (elim o [ Some w ↦ literal (literal_of e w) | None ↦ otherwise x.ty ]) (number e a)
      by_word (Some w) is = subst (λ v. S (literal (literal_of e w)) (number e v)) (h.literal w is) (subst (S (literal (literal_of e w))) (literal_number e w he) (says_literal p calls s (literal_of e w)))
      by_word None is = subst (λ ty. S (otherwise ty) (number e a)) (sym h.of_type) (converted_says h.elem e x.expr a h.is_numeric he h.says)

  pub is_number : (x : Operand) (a : ℕ) → Stands p calls s x a → IsNumber p calls s x a
  is_number x a h = record { as_an_int = as_elem_says elem.Int x a tt h; as_a_uint = as_elem_says elem.Uint x a tt h }

  -- a value of an operation on uints or on ints, as the type of the result has it
  pub as_result : (g : Elem) → IsNumeric g → (e : Elem) (x : Expr) (r : ℕ) → IsNumeric e → S x (number e r) → S (converted (scalar g) e x) (number g r)
  as_result g numbers e x r he h = converted_says e g x r he numbers h
