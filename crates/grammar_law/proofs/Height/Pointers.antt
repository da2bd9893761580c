-- Expressions of pointers and of parts: as high as their steps are many.
use Rattle.std.proofs.Common.{◌≡◌, ◌≤◌, ◌+◌, ℕ, suc, Bool, true, false, List, [], ◌∷◌, Option, Some, None, length, refl, ap, arith, unwrap_or, if◌then◌else◌, nat_lt}
use Rattle.spv_ops.specs.Opcode.{is}
use Rattle.spv_ops.specs.declared.Op.{Op}
use Rattle.spv_ops.specs.declared.Op.TheVariants as code
use Rattle.spv_module.specs.Lists.{id}
use Rattle.name_alloc.specs.declared.claims.Key.TheVariants.{Id, Member}
use Rattle.access_paths.specs.declared.forms.Step.{Step}
use Rattle.access_paths.specs.declared.forms.Step.TheVariants as step
use Rattle.access_paths.specs.Ways.{Way, path}
use Rattle.profile_rules.specs.MemoryRules.{pointee_of}
use Rattle.glsl_ast.specs.Tree as text
use Rattle.glsl_ast.specs.Tree.{Expr, name, literal, LStep}
use Rattle.glsl_ast.specs.declared.expressions.Literal.TheVariants.{Int}
use Rattle.glsl_ast.specs.Height.{highest, height, step_height, lvalue_height}
use Rattle.vec_lowering.specs.Component.{axis_name}
use Rattle.expr_forward.specs.Scope.{Setting, Scope, globals, globals_in}
use Rattle.expr_forward.specs.Paths.{index_expr, word_at, vector_size, index_by, step_text, step_type, steps_text, base_text, place_text, further, part_step_by, composite_op_in, part_type, part_steps, place_expr}
use Rattle.list_law.proofs.Numbers.{le_on}
use Rattle.grammar_law.specs.Shallow.{IsShallow}
use Rattle.grammar_law.proofs.Height.Lists.{some-high}

-- what steps lead to is one higher for each of them
pub further-le : (e : Expr) (ss : List LStep) (n : ℕ) → height e ≤ n → highest step_height ss ≤ n → height (further e ss) ≤ n + length ss
further-le e [] n p q = omega (arith, p)
further-le e (text.LStep.member m ∷ ss) n p q =
    let one = some-high e in
    le_on _ _ _ (further-le (Expr.member e m) ss (n + 1) (omega (arith, p, one)) (omega (arith, q))) (omega arith)
further-le e (text.LStep.index i ∷ ss) n p q =
    le_on _ _ _ (further-le (Expr.index e i) ss (n + 1) (omega (arith, p, q)) (omega (arith, q))) (omega arith)

choice-le : (b : Bool) (x y : LStep) (n : ℕ) → step_height x ≤ n → step_height y ≤ n → step_height (if b then x else y) ≤ n
choice-le true x y n p q = p
choice-le false x y n p q = q

-- a part by literals
part-le : (w : Setting) (ty k : ℕ) (o : Op) → step_height (part_step_by w ty k o) ≤ 3
part-le w ty k o = choice-le (is o code.TypeVector) (text.LStep.member (axis_name k)) _ 3 (omega arith) (choice-le (is o code.TypeStruct) (text.LStep.member (w.key (Member (id ty) k))) (text.LStep.index (literal (Int k))) 3 (omega arith) (omega arith))

pub parts-le : (w : Setting) (ty : ℕ) (ks : List ℕ) → highest step_height (part_steps w ty ks) ≤ 3
parts-le w ty [] = omega arith
parts-le w ty (k ∷ ks) = let one = part-le w ty k (composite_op_in (globals_in w) ty) in let rest = parts-le w (part_type w ty k) ks in omega (arith, one, rest)

pub parts-length : (w : Setting) (ty : ℕ) (ks : List ℕ) → length (part_steps w ty ks) ≡ length ks
parts-length w ty [] = refl
parts-length w ty (k ∷ ks) = ap (λ n. suc n) (parts-length w (part_type w ty k) ks)

module _ (w : Scope) (low : IsShallow w) where
  read-le : (o : Option Expr) (e : Expr) → ((x : Expr) → o ≡ Some x → height x ≤ 3) → height e ≤ 3 → height (unwrap_or o e) ≤ 3
  read-le None e each p = p
  read-le (Some x) e each p = each x refl

  pub index-le : (n : ℕ) → height (index_expr w.setting n) ≤ 3
  index-le n = read-le (w.setting.global n) (name (w.setting.key (Id (id n)))) (low.constants n) (omega arith)

  -- a step of a pointer
  by_word-le : (size n : ℕ) (o : Option ℕ) → step_height (index_by w.setting size n o) ≤ 3
  by_word-le size n None = index-le n
  by_word-le size n (Some k) = choice-le (nat_lt k size) (text.LStep.member (axis_name k)) (text.LStep.index (index_expr w.setting n)) 3 (omega arith) (index-le n)

  step-le : (ty : ℕ) (s : Step) → step_height (step_text w.setting ty s) ≤ 3
  step-le ty (step.Member k) = omega arith
  step-le ty (step.Index n) = by_word-le (vector_size w.setting ty) n.0 (word_at w.setting n.0)
  step-le ty (step.Captured chain k) = omega arith

  steps-le : (ty : ℕ) (ss : List Step) → highest step_height (steps_text w.setting ty ss) ≤ 3
  steps-le ty [] = omega arith
  steps-le ty (s ∷ ss) = let one = step-le ty s in let rest = steps-le (step_type w.setting ty s) ss in omega (arith, one, rest)

  steps-length : (ty : ℕ) (ss : List Step) → length (steps_text w.setting ty ss) ≡ length ss
  steps-length ty [] = refl
  steps-length ty (s ∷ ss) = ap (λ n. suc n) (steps-length (step_type w.setting ty s) ss)

  pub place-le : (block pointer : ℕ) → height (place_expr w.setting block pointer) ≤ 19
  place-le block pointer =
      let way : Way = path (globals w) w.setting.function block pointer in
      let ty : ℕ = unwrap_or (pointee_of (globals w) w.setting.function way.base) 0 in
      let many = low.paths block pointer in
      let same = steps-length ty way.steps in
      le_on _ _ _ (further-le (name (base_text w.setting way.base)) (steps_text w.setting ty way.steps) 3 (omega arith) (steps-le ty way.steps)) (omega (arith, many, same))

  pub target-le : (block pointer : ℕ) → lvalue_height (place_text w.setting block pointer) ≤ 3
  target-le block pointer =
      let way : Way = path (globals w) w.setting.function block pointer in
      let steps = steps-le (unwrap_or (pointee_of (globals w) w.setting.function way.base) 0) way.steps in
      omega (arith, steps)
