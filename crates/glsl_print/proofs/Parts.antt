-- The texts of lists, part by part.
use Rattle.std.proofs.Common.{append_assoc, append-nil, ◌≡◌, ◌++◌, ℕ, zero, suc, Bool, true, false, List, ◌∷◌, Option, Some, None, Vec, Global, refl, sym, ap, arith, option_map}
use Rattle.glsl_ast.specs.Tree as tree
use Rattle.glsl_ast.specs.Tree.{Text, LStep, Expr, Exprs, no_exprs, Param}
use Rattle.glsl_ast.specs.View.{expr_of, stmt_of, stmts_of, arm_of, arms_of}
use Rattle.glsl_ast.specs.declared.expressions.Expr.{Expr as Expr'}
use Rattle.glsl_ast.specs.declared.statements.Label.{Label}
use Rattle.glsl_ast.specs.declared.statements.Stmt.{Stmt}
use Rattle.glsl_ast.specs.declared.statements.Stmt as stmt
use Rattle.glsl_ast.specs.declared.statements.Arm.{Arm}
use Rattle.glsl_ast.specs.declared.items.Size.{Size}
use Rattle.glsl_ast.proofs.Views.{arm-is, stmt-When, stmt-Either, stmt-For, stmt-Switch, stmt-Break, stmt-Continue, stmt-Return}
use Rattle.glsl_grammar.specs.declared.marks.Mark.TheVariants as mark
use Rattle.glsl_grammar.specs.Marks.{mark_text}
use Rattle.glsl_grammar.specs.Levels.{any_level, is_bare}
use Rattle.glsl_grammar.specs.Layout.{steps_text, indent_text, labels_text, result_text, stmt_text, arms_text, placed_text, expr_text, operand_text, param_text, more_params_text, size_text, more_sizes_text}
use Rattle.glsl_grammar.proofs.Levels.{within, any_is_bare}
use Rattle.glsl_print.specs.Parts.{step_text, arm_text, inner_text, if_text, body_of, text_unless, separator_text, args_from}

pub steps-cons : (s : LStep) (ss : List LStep) → steps_text (s ∷ ss) ≡ step_text s ++ steps_text ss
steps-cons (tree.LStep.member w) ss = simp append_assoc
steps-cons (tree.LStep.index e) ss = simp append_assoc

pub arms-cons : (k : ℕ) (a : Arm) (as' : List Arm) → arms_text k (arms_of (a ∷ as')) ≡ arm_text k (arm_of a) ++ arms_text k (arms_of as')
arms-cons k a as' = rw (arm-is a) (simp append_assoc)

pub arm-text : (k : ℕ) (a : Arm) (labels : List Label) (body : List Stmt) → labels ≡ a.labels.items → body ≡ a.body.items → arm_text k (arm_of a) ≡ indent_text k ++ (labels_text labels ++ (mark_text mark.ArmOpen ++ inner_text k (stmts_of body)))
arm-text k a labels body e f = rw (arm-is a, e, f)

pub stmt-If : (s : Stmt) (k : ℕ) (e : Expr') (a : Vec Stmt Global) (o : Option (Vec Stmt Global)) (body : List Stmt) → s ≡ stmt.If e a o → body ≡ a.items → stmt_text k (stmt_of s) ≡ indent_text k ++ if_text k (expr_of e) (stmts_of body) (option_map body_of o)
stmt-If s k e a None body is same = rw (is, stmt-When e a, same)
stmt-If s k e a (Some b) body is same = rw (is, stmt-Either e a b, same)

pub stmt-For_text : (s : Stmt) (k : ℕ) (a : Vec Stmt Global) (body : List Stmt) → s ≡ stmt.For a → body ≡ a.items → stmt_text k (stmt_of s) ≡ indent_text k ++ (mark_text mark.For ++ inner_text k (stmts_of body))
stmt-For_text s k a body is same = rw (is, stmt-For a, same)

pub stmt-Switch_text : (s : Stmt) (k : ℕ) (e : Expr') (as' : Vec Arm Global) (arms : List Arm) → s ≡ stmt.Switch e as' → arms ≡ as'.items → stmt_text k (stmt_of s) ≡ indent_text k ++ (mark_text mark.Switch ++ (expr_text (expr_of e) ++ (mark_text mark.BodyOpen ++ (arms_text (suc k) (arms_of arms) ++ (indent_text k ++ mark_text mark.BodyClose)))))
stmt-Switch_text s k e as' arms is same = rw (is, stmt-Switch e as', same)

pub stmt-Break_text : (s : Stmt) (k : ℕ) → s ≡ stmt.Break → stmt_text k (stmt_of s) ≡ indent_text k ++ mark_text mark.Break
stmt-Break_text s k is = rw (is, stmt-Break)

pub stmt-Continue_text : (s : Stmt) (k : ℕ) → s ≡ stmt.Continue → stmt_text k (stmt_of s) ≡ indent_text k ++ mark_text mark.Continue
stmt-Continue_text s k is = rw (is, stmt-Continue)

pub stmt-Return_text : (s : Stmt) (k : ℕ) (o : Option Expr') → s ≡ stmt.Return o → stmt_text k (stmt_of s) ≡ indent_text k ++ result_text (option_map expr_of o)
stmt-Return_text s k o is = rw (is, stmt-Return o)

pub args-cons : (i : ℕ) (e : Expr) (es : Exprs) → args_from i (tree.Exprs.expr e es) ≡ (separator_text i ++ expr_text e) ++ args_from (suc i) es
args-cons zero e es = refl
args-cons (suc i) e es = simp append_assoc

pub args-end : (i : ℕ) → args_from i no_exprs ≡ mark_text mark.Close
args-end zero = refl
args-end (suc i) = refl

pub params-cons : (p : Param) (ps : List Param) → more_params_text (p ∷ ps) ≡ (mark_text mark.Comma ++ param_text p) ++ more_params_text ps
params-cons p ps = simp append_assoc

pub sizes-cons : (s : Size) (ss : List Size) → more_sizes_text (s ∷ ss) ≡ (mark_text mark.Comma ++ size_text s) ++ more_sizes_text ss
sizes-cons s ss = simp append_assoc

-- bare, or with both parentheses
placed_parts : (b : Bool) (w : Text) → placed_text b w ≡ text_unless b mark.Open ++ (w ++ text_unless b mark.Close)
placed_parts true w = sym (append-nil w)
placed_parts false w = refl

pub operand_parts : (loosest : ℕ) (e : Expr) → operand_text loosest e ≡ text_unless (is_bare loosest e) mark.Open ++ (expr_text e ++ text_unless (is_bare loosest e) mark.Close)
operand_parts loosest e = placed_parts (is_bare loosest e) (expr_text e)

pub operand_bare : (loosest : ℕ) (e : Expr) → is_bare loosest e ≡ true → operand_text loosest e ≡ expr_text e
operand_bare loosest e is = ap (λ b. placed_text b (expr_text e)) is

pub operand_any : (e : Expr) → operand_text any_level e ≡ expr_text e
operand_any e = operand_bare any_level e (any_is_bare e)

pub operand_name : (loosest : ℕ) (w : Text) → operand_text loosest (tree.Expr.name w) ≡ w
operand_name loosest w = operand_bare loosest (tree.Expr.name w) (within 0 loosest (omega arith))
