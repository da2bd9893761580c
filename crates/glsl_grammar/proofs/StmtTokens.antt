-- The tokens of the text of a statement.
use Rattle.std.proofs.Common.{ℕ, zero, suc, List, [], ◌∷◌, ◌++◌, append_assoc}
use Rattle.std.specs.Prelude.{Option, Some, None}
use Rattle.glsl_ast.specs.Tree as tree
use Rattle.glsl_ast.specs.Tree.{Text, Expr, LStep, LValue, lvalue, Stmt, Stmts, no_stmts, Arms, no_arms}
use Rattle.glsl_ast.specs.declared.statements.Label.{Label}
use Rattle.glsl_ast.specs.declared.statements.Label.TheVariants as label
use Rattle.glsl_grammar.specs.declared.marks.Mark.TheVariants as mark
use Rattle.glsl_grammar.specs.Marks.{mark_text}
use Rattle.glsl_grammar.specs.Token.{Token, word, right_brace, return_, put_steps, put_start, put_result, put_labels, put_stmt, put_body, put_arms}
use Rattle.glsl_grammar.specs.Layout.{indent_text, expr_text, steps_text, lvalue_text, start_text, result_text, labels_text, stmt_text, body_text, arms_text}
use Rattle.glsl_grammar.specs.Spelled.{AreSpelledSteps, IsSpelledLValue, IsSpelledIfSome, AreSpelledLabels, IsSpelledStmt, AreSpelledStmts, AreSpelledArms}
use Rattle.glsl_grammar.proofs.Words.{IsBoundary}
use Rattle.glsl_grammar.proofs.Pieces.{Anything, Lexes, IsCut, weaker, none, both, ends, kept, cut_on, cut, regroup}
use Rattle.glsl_grammar.proofs.MarkTokens.{open_cut, dot_cut, bracket_open_cut, bracket_close_cut, space_cut, equals_cut, end_cut, body_open_cut, colon_cut, indent_piece, body_close_piece, if_piece, else_piece, for_piece, switch_piece, case_piece, default_piece, arm_open_piece, break_piece, continue_piece, return_piece, return_void_piece}
use Rattle.glsl_grammar.proofs.ExprTokens.{name_piece, type_piece, literal_piece, expr_piece, args_piece}

-- lvalues
steps_keep : (p : List LStep) (s : List ℕ) → IsBoundary s → IsBoundary (steps_text p ++ s)
steps_keep [] s b = b
steps_keep (tree.LStep.member w ∷ p) s b = rw (append_assoc (mark_text mark.Dot) (w ++ steps_text p) s) (dot_cut.begins ((w ++ steps_text p) ++ s))
steps_keep (tree.LStep.index e ∷ p) s b =
    rw (append_assoc (mark_text mark.BracketOpen) (expr_text e ++ (mark_text mark.BracketClose ++ steps_text p)) s)
    (bracket_open_cut.begins ((expr_text e ++ (mark_text mark.BracketClose ++ steps_text p)) ++ s))

steps_piece : (p : List LStep) → AreSpelledSteps p → Lexes IsBoundary (steps_text p) (put_steps p)
steps_piece [] h = weaker none
steps_piece (tree.LStep.member w ∷ p) h = both dot_cut.lexes (kept (name_piece w h.0) (steps_keep p) (steps_piece p h.1))
steps_piece (tree.LStep.index e ∷ p) h = both bracket_open_cut.lexes (cut (expr_piece e h.0) bracket_close_cut (steps_piece p h.1))

abbrev put_lvalue : LValue → List Token → List Token
put_lvalue (lvalue w p) ts = word w ∷ put_steps p ts

lvalue_piece : (l : LValue) → IsSpelledLValue l → Lexes IsBoundary (lvalue_text l) (put_lvalue l)
lvalue_piece (lvalue w p) h = kept (name_piece w h.0) (steps_keep p) (steps_piece p h.1)

-- parts of statements
start_cut : (o : Option Expr) → IsSpelledIfSome o → IsCut (start_text o) (put_start o)
start_cut None h = end_cut
start_cut (Some e) h = cut_on equals_cut (ends (expr_piece e h) end_cut)

result_piece : (o : Option Expr) → IsSpelledIfSome o → Lexes Anything (result_text o) (λ ts. return_ ∷ put_result o ts)
result_piece None h = return_void_piece
result_piece (Some e) h = both return_piece (ends (expr_piece e h) end_cut)

labels_piece : (ls : List Label) → AreSpelledLabels ls → Lexes Anything (labels_text ls) (put_labels ls)
labels_piece [] h = none
labels_piece (label.Case l ∷ ls) h = both (both case_piece (ends (literal_piece l h.0) colon_cut)) (labels_piece ls h.1)
labels_piece (label.Default ∷ ls) h = both default_piece (labels_piece ls h)

level_piece : (k : ℕ) → Lexes Anything (indent_text k) (λ ts. ts)
level_piece zero = none
level_piece (suc k) = both indent_piece (level_piece k)

-- statements; bodies and groups before the text that has their closing brace
mutual
  stmt_piece : (k : ℕ) (s : Stmt) → IsSpelledStmt s → Lexes Anything (stmt_text k s) (put_stmt s)
  stmt_piece k (tree.Stmt.declare t w o) h = both (level_piece k) (cut (type_piece t h.0) space_cut (ends (name_piece w h.1.0) (start_cut o h.1.1)))
  stmt_piece k (tree.Stmt.assign (lvalue w p) e) h = both (level_piece k) (cut (lvalue_piece (lvalue w p) h.0) equals_cut (ends (expr_piece e h.1) end_cut))
  stmt_piece k (tree.Stmt.call w args) h = both (level_piece k) (ends (name_piece w h.0) (cut_on open_cut (both (args_piece args h.1) end_cut.lexes)))
  stmt_piece k (tree.Stmt.when e a) h = both (level_piece k) (both if_piece (cut (expr_piece e h.0) body_open_cut (body_piece (suc k) a h.1 (both (level_piece k) body_close_piece))))
  stmt_piece k (tree.Stmt.either e a b) h =
      both (level_piece k) (both if_piece (cut (expr_piece e h.0) body_open_cut
      (body_piece (suc k) a h.1.0 (both (level_piece k) (both else_piece (body_piece (suc k) b h.1.1 (both (level_piece k) body_close_piece)))))))
  stmt_piece k (tree.Stmt.loop a) h = both (level_piece k) (both for_piece (body_piece (suc k) a h (both (level_piece k) body_close_piece)))
  stmt_piece k (tree.Stmt.switch e arms) h = both (level_piece k) (both switch_piece (cut (expr_piece e h.0) body_open_cut (arms_piece (suc k) arms h.1 (both (level_piece k) body_close_piece))))
  stmt_piece k tree.Stmt.leave h = both (level_piece k) break_piece
  stmt_piece k tree.Stmt.again h = both (level_piece k) continue_piece
  stmt_piece k (tree.Stmt.give o) h = both (level_piece k) (result_piece o h)

  pub body_piece : (k : ℕ) (b : Stmts) → AreSpelledStmts b → {w : Text} {f : List Token → List Token} → Lexes Anything w (λ ts. right_brace ∷ f ts) → Lexes Anything (body_text k b ++ w) (λ ts. put_body b (f ts))
  body_piece k no_stmts h {w} {f} rest = rest
  body_piece k (tree.Stmts.stmt s ss) h {w} {f} rest = regroup (stmt_text k s) (body_text k ss) w (both (stmt_piece k s h.0) (body_piece k ss h.1 {w = w} {f = f} rest))

  arms_piece : (k : ℕ) (b : Arms) → AreSpelledArms b → {w : Text} {f : List Token → List Token} → Lexes Anything w (λ ts. right_brace ∷ f ts) → Lexes Anything (arms_text k b ++ w) (λ ts. put_arms b (f ts))
  arms_piece k no_arms h {w} {f} rest = rest
  arms_piece k (tree.Arms.arm ls b r) h {w} {f} rest =
      let after_body : Text = mark_text mark.BodyClose ++ arms_text k r in
      let body : Text = body_text (suc k) b ++ (indent_text k ++ after_body) in
      regroup (indent_text k) (labels_text ls ++ (mark_text mark.ArmOpen ++ body)) w (both (level_piece k)
      (regroup (labels_text ls) (mark_text mark.ArmOpen ++ body) w (both (labels_piece ls h.0)
      (regroup (mark_text mark.ArmOpen) body w (both arm_open_piece
      (regroup (body_text (suc k) b) (indent_text k ++ after_body) w (body_piece (suc k) b h.1.0 {w = (indent_text k ++ after_body) ++ w} {f = λ ts. put_arms r (f ts)}
      (regroup (indent_text k) after_body w (both (level_piece k)
      (regroup (mark_text mark.BodyClose) (arms_text k r) w (both body_close_piece (arms_piece k r h.1.1 {w = w} {f = f} rest))))))))))))
