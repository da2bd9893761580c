-- Reading the tokens of a statement gives it back.
use Rattle.std.proofs.Common.{◌≡◌, ℕ, zero, suc, ◌+◌, ◌≤◌, true, List, [], ◌∷◌, length, Option, Some, None, refl, sym, ap, ◌∙◌, arith}
use Rattle.list_law.proofs.Tests.{off_on}
use Rattle.glsl_ast.specs.Tree as tree
use Rattle.glsl_ast.specs.Tree.{Text, TypeName, type_name, Base, Expr, Exprs, LStep, lvalue, Stmt, Stmts, no_stmts, stmts_in, Arms, no_arms, Arm, group, arms_in}
use Rattle.glsl_ast.specs.declared.expressions.Literal.TheVariants.{Int, Uint, Hex, Truth}
use Rattle.glsl_ast.specs.declared.statements.Label.{Label}
use Rattle.glsl_ast.specs.declared.statements.Label.TheVariants.{Case, Default}
use Rattle.glsl_grammar.specs.Token.{Token, word, basic, if_, else_, for_, switch_, break_, continue_, return_, left_paren, right_paren, left_brace, right_bracket, semicolon, equals, put_type, put_expr, put_args, put_steps, put_start, put_result, put_label, put_labels, put_stmt, put_body, put_arms}
use Rattle.glsl_grammar.specs.Parsers.{Parse, close_bracket, ◌>>=◌, ◌>>◌, pure, one_and, until_brace, some_until_brace, any_until_paren, see_semicolon}
use Rattle.glsl_grammar.specs.Read.{read_type, read_expr, read_steps, read_start, read_result, read_declaration, read_assignment, read_action, read_condition, read_else, read_label, read_labels, read_arm, read_arms, read_stmt, read_body}
use Rattle.glsl_grammar.specs.Scopes.{IsDeclaredType, IsFree, IsDeclaredExpr, AreDeclaredExprs, AreDeclaredSteps, IsDeclaredValue, IsDeclaredStmt, AreDeclaredStmts, AreDeclaredArms, has_arms}
use Rattle.glsl_grammar.proofs.ReadExprs.{and_on, one_on, rest_of_type, ends_type-word, type_back, rest_of_expr, rest_of_args, first_of_type, first_of_expr, exprs_of, exprs_back, expr_then, args_back}

-- steps

pub rest_of_steps : (s : List LStep) (ts : List Token) → length ts ≤ length (put_steps s ts)
rest_of_steps [] ts = omega arith
rest_of_steps (tree.LStep.member w ∷ s) ts = omega (arith, rest_of_steps s ts)
rest_of_steps (tree.LStep.index e ∷ s) ts = omega (arith, rest_of_steps s ts, rest_of_expr e (right_bracket ∷ put_steps s ts))

steps_back : (names : List Text) (s : List LStep) → AreDeclaredSteps names s → (n : ℕ) (ts : List Token) → length (put_steps s (equals ∷ ts)) ≤ n → read_steps names n (put_steps s (equals ∷ ts)) ≡ Some (s, equals ∷ ts)
steps_back names [] d zero ts le = refl
steps_back names [] d (suc n) ts le = refl
steps_back names (tree.LStep.member w ∷ s) d zero ts le = absurd (omega arith)
steps_back names (tree.LStep.member w ∷ s) d (suc n) ts le = and_on (read_steps names n) _ (put_steps s (equals ∷ ts)) (equals ∷ ts) s _ (steps_back names s d n ts (omega arith)) refl
steps_back names (tree.LStep.index e ∷ s) d zero ts le = absurd (omega arith)
steps_back names (tree.LStep.index e ∷ s) d (suc n) ts le =
    let l = rest_of_expr e (right_bracket ∷ put_steps s (equals ∷ ts)) in
    expr_then names e d.0 n right_bracket (put_steps s (equals ∷ ts)) (λ i. close_bracket >> (read_steps names n >>= (λ r. pure (tree.LStep.index i ∷ r)))) _ refl (omega arith) (and_on (read_steps names n) _ (put_steps s (equals ∷ ts)) (equals ∷ ts) s _ (steps_back names s d.1 n ts (omega arith)) refl)

-- values

rest_of_start : (o : Option Expr) (ts : List Token) → length ts + 1 ≤ length (put_start o ts)
rest_of_start None ts = omega arith
rest_of_start (Some e) ts = omega (arith, rest_of_expr e (semicolon ∷ ts))

rest_of_result : (o : Option Expr) (ts : List Token) → length ts + 1 ≤ length (put_result o ts)
rest_of_result None ts = omega arith
rest_of_result (Some e) ts = omega (arith, rest_of_expr e (semicolon ∷ ts))

start_back : (names : List Text) (o : Option Expr) → IsDeclaredValue names o → (n : ℕ) (ts : List Token) → length (put_start o ts) ≤ n → read_start names n (put_start o ts) ≡ Some (o, ts)
start_back names None d n ts le = refl
start_back names (Some e) d n ts le = expr_then names e d n semicolon ts _ _ refl (omega arith) refl

result_back : (names : List Text) (o : Option Expr) → IsDeclaredValue names o → (n : ℕ) (ts : List Token) → length (put_result o ts) ≤ n → read_result names n (put_result o ts) ≡ Some (o, ts)
result_back names None d n ts le = refl
result_back names (Some e) d n ts le =
    let P : List Token → Type 0 = λ l. read_result names n l ≡ (read_expr names n >>= (λ v. see_semicolon >> pure (Some v))) l in
    first_of_expr P (λ k r. refl) (λ k r. refl) (λ k r. refl) (λ b r. refl) (λ b r. refl) (λ w r. refl) (λ r. refl) (λ r. refl) (λ r. refl) e (semicolon ∷ ts)
    ∙ expr_then names e d n semicolon ts _ _ refl le refl

-- labels

rest_of_label : (l : Label) (ts : List Token) → length ts + 2 ≤ length (put_label l ts)
rest_of_label (Case l) ts = omega arith
rest_of_label Default ts = omega arith

rest_of_labels : (ls : List Label) (ts : List Token) → length ts ≤ length (put_labels ls ts)
rest_of_labels [] ts = omega arith
rest_of_labels (l ∷ ls) ts = omega (arith, rest_of_labels ls ts, rest_of_label l (put_labels ls ts))

label_one : (l : Label) (more : Parse (List Label)) (ts : List Token) → one_and read_label more (put_label l ts) ≡ (more >>= (λ ls. pure (l ∷ ls))) ts
label_one (Case (Int k)) more ts = refl
label_one (Case (Uint k)) more ts = refl
label_one (Case (Hex k)) more ts = refl
label_one (Case (Truth b)) more ts = refl
label_one Default more ts = refl

label_turn : (l : Label) (n : ℕ) (ts : List Token) → read_labels (suc n) (put_label l ts) ≡ one_and read_label (read_labels n) (put_label l ts)
label_turn (Case l) n ts = refl
label_turn Default n ts = refl

labels_back : (ls : List Label) (n : ℕ) (ts : List Token) → length (put_labels ls (left_brace ∷ ts)) ≤ n → read_labels n (put_labels ls (left_brace ∷ ts)) ≡ Some (ls, left_brace ∷ ts)
labels_back [] zero ts le = absurd (omega arith)
labels_back [] (suc n) ts le = refl
labels_back (l ∷ ls) zero ts le = absurd (omega (arith, rest_of_label l (put_labels ls (left_brace ∷ ts))))
labels_back (l ∷ ls) (suc n) ts le =
    label_turn l n (put_labels ls (left_brace ∷ ts))
    ∙ label_one l (read_labels n) (put_labels ls (left_brace ∷ ts))
    ∙ and_on (read_labels n) _ (put_labels ls (left_brace ∷ ts)) (left_brace ∷ ts) ls _ (labels_back ls n ts (omega (arith, rest_of_label l (put_labels ls (left_brace ∷ ts))))) refl

some_labels_back : (ls : List Label) → 1 ≤ length ls → (n : ℕ) (ts : List Token) → length (put_labels ls (left_brace ∷ ts)) ≤ n → one_and read_label (read_labels n) (put_labels ls (left_brace ∷ ts)) ≡ Some (ls, left_brace ∷ ts)
some_labels_back [] some n ts le = absurd (omega arith)
some_labels_back (l ∷ ls) some n ts le = label_one l (read_labels n) (put_labels ls (left_brace ∷ ts)) ∙ and_on (read_labels n) _ (put_labels ls (left_brace ∷ ts)) (left_brace ∷ ts) ls _ (labels_back ls n ts (omega (arith, rest_of_label l (put_labels ls (left_brace ∷ ts))))) refl

-- statements

mutual
  rest_of_stmt : (s : Stmt) (ts : List Token) → length ts + 1 ≤ length (put_stmt s ts)
  rest_of_stmt (tree.Stmt.declare t w o) ts = omega (arith, rest_of_type t (word w ∷ put_start o ts), rest_of_start o ts)
  rest_of_stmt (tree.Stmt.assign (lvalue w s) e) ts = omega (arith, rest_of_steps s (equals ∷ put_expr e (semicolon ∷ ts)), rest_of_expr e (semicolon ∷ ts))
  rest_of_stmt (tree.Stmt.call w args) ts = omega (arith, rest_of_args args (semicolon ∷ ts))
  rest_of_stmt (tree.Stmt.when e a) ts = omega (arith, rest_of_expr e (right_paren ∷ left_brace ∷ put_body a ts), rest_of_body a ts)
  rest_of_stmt (tree.Stmt.either e a b) ts = omega (arith, rest_of_expr e (right_paren ∷ left_brace ∷ put_body a (else_ ∷ left_brace ∷ put_body b ts)), rest_of_body a (else_ ∷ left_brace ∷ put_body b ts), rest_of_body b ts)
  rest_of_stmt (tree.Stmt.loop a) ts = omega (arith, rest_of_body a ts)
  rest_of_stmt (tree.Stmt.switch e arms) ts = omega (arith, rest_of_expr e (right_paren ∷ left_brace ∷ put_arms arms ts), rest_of_arms arms ts)
  rest_of_stmt tree.Stmt.leave ts = omega arith
  rest_of_stmt tree.Stmt.again ts = omega arith
  rest_of_stmt (tree.Stmt.give o) ts = omega (arith, rest_of_result o ts)

  pub rest_of_body : (b : Stmts) (ts : List Token) → length ts + 1 ≤ length (put_body b ts)
  rest_of_body no_stmts ts = omega arith
  rest_of_body (tree.Stmts.stmt s ss) ts = omega (arith, rest_of_stmt s (put_body ss ts), rest_of_body ss ts)

  rest_of_arms : (arms : Arms) (ts : List Token) → length ts + 1 ≤ length (put_arms arms ts)
  rest_of_arms no_arms ts = omega arith
  rest_of_arms (tree.Arms.arm ls b r) ts = omega (arith, rest_of_labels ls (left_brace ∷ put_body b (put_arms r ts)), rest_of_body b (put_arms r ts), rest_of_arms r ts)

-- what a statement begins with
first_of_stmt : (P : List Token → Type 0) → ((b : Base) (ts : List Token) → P (basic b ∷ ts)) → ((w : Text) (ts : List Token) → P (word w ∷ ts)) → ((ts : List Token) → P (if_ ∷ ts)) → ((ts : List Token) → P (for_ ∷ ts)) → ((ts : List Token) → P (switch_ ∷ ts)) → ((ts : List Token) → P (break_ ∷ ts)) → ((ts : List Token) → P (continue_ ∷ ts)) → ((ts : List Token) → P (return_ ∷ ts)) → (s : Stmt) (ts : List Token) → P (put_stmt s ts)
first_of_stmt P a b c d e f g h (tree.Stmt.declare t w o) ts = first_of_type P a b t (word w ∷ put_start o ts)
first_of_stmt P a b c d e f g h (tree.Stmt.assign (lvalue w s) v) ts = b _ _
first_of_stmt P a b c d e f g h (tree.Stmt.call w args) ts = b _ _
first_of_stmt P a b c d e f g h (tree.Stmt.when v x) ts = c _
first_of_stmt P a b c d e f g h (tree.Stmt.either v x y) ts = c _
first_of_stmt P a b c d e f g h (tree.Stmt.loop x) ts = d _
first_of_stmt P a b c d e f g h (tree.Stmt.switch v x) ts = e _
first_of_stmt P a b c d e f g h tree.Stmt.leave ts = f _
first_of_stmt P a b c d e f g h tree.Stmt.again ts = g _
first_of_stmt P a b c d e f g h (tree.Stmt.give o) ts = h _

-- no `else` stands there
abbrev pub NoElse : List Token → Type 0
NoElse ts = (body : Parse Stmts) (e : Expr) (a : Stmts) → read_else body e a ts ≡ Some (tree.Stmt.when e a, ts)

no_else_after : (b : Stmts) (ts : List Token) → NoElse (put_body b ts)
no_else_after no_stmts ts body e a = refl
no_else_after (tree.Stmts.stmt s ss) ts body e a =
    let P : List Token → Type 0 = λ l. read_else body e a l ≡ Some (tree.Stmt.when e a, l) in
    first_of_stmt P (λ b r. refl) (λ w r. refl) (λ r. refl) (λ r. refl) (λ r. refl) (λ r. refl) (λ r. refl) (λ r. refl) s (put_body ss ts)

stmt_turn : (s : Stmt) (part : Parse Stmt) (n : ℕ) (ts : List Token) → until_brace part (suc n) (put_stmt s ts) ≡ one_and part (until_brace part n) (put_stmt s ts)
stmt_turn s part n ts =
    let P : List Token → Type 0 = λ l. until_brace part (suc n) l ≡ one_and part (until_brace part n) l in
    first_of_stmt P (λ b r. refl) (λ w r. refl) (λ r. refl) (λ r. refl) (λ r. refl) (λ r. refl) (λ r. refl) (λ r. refl) s ts

arm_turn : (ls : List Label) → 1 ≤ length ls → (part : Parse Arm) (n : ℕ) (ts : List Token) → until_brace part (suc n) (put_labels ls ts) ≡ one_and part (until_brace part n) (put_labels ls ts)
arm_turn [] some part n ts = absurd (omega arith)
arm_turn (Case l ∷ ls) some part n ts = refl
arm_turn (Default ∷ ls) some part n ts = refl

-- the statements and the groups as lists
abbrev pub stmts_of : Stmts → List Stmt
stmts_of no_stmts = []
stmts_of (tree.Stmts.stmt s ss) = s ∷ stmts_of ss

stmts_back : (b : Stmts) → stmts_in (stmts_of b) ≡ b
stmts_back no_stmts = refl
stmts_back (tree.Stmts.stmt s ss) = ap (tree.Stmts.stmt s) (stmts_back ss)

abbrev pub arms_of : Arms → List Arm
arms_of no_arms = []
arms_of (tree.Arms.arm ls b r) = group ls b ∷ arms_of r

arms_back : (arms : Arms) → arms_in (arms_of arms) ≡ arms
arms_back no_arms = refl
arms_back (tree.Arms.arm ls b r) = ap (tree.Arms.arm ls b) (arms_back r)

-- a type begins a declaration, and a name that no struct has begins none
stmt_typed : (names : List Text) (body : Parse Stmts) (t : TypeName) → IsDeclaredType names t → (n : ℕ) (ts : List Token) → read_stmt names body n (put_type t ts) ≡ read_declaration names n (put_type t ts)
stmt_typed names body (type_name tree.Base.boolean es) d n ts = refl
stmt_typed names body (type_name tree.Base.int es) d n ts = refl
stmt_typed names body (type_name tree.Base.uint es) d n ts = refl
stmt_typed names body (type_name (tree.Base.bool_vec k) es) d n ts = refl
stmt_typed names body (type_name (tree.Base.int_vec k) es) d n ts = refl
stmt_typed names body (type_name (tree.Base.uint_vec k) es) d n ts = refl
stmt_typed names body (type_name (tree.Base.struct w) es) d n ts = rw (d, read_stmt)

stmt_named : (names : List Text) (body : Parse Stmts) (w : Text) → IsFree names w → (n : ℕ) (ts : List Token) → read_stmt names body n (word w ∷ ts) ≡ read_action names n w ts
stmt_named names body w d n ts = rw (d, read_stmt)

declaration_back : (names : List Text) (body : Parse Stmts) (t : TypeName) (w : Text) (o : Option Expr) → IsDeclaredType names t → IsDeclaredValue names o → (n : ℕ) (ts : List Token) → length (put_type t (word w ∷ put_start o ts)) ≤ n → read_stmt names body n (put_type t (word w ∷ put_start o ts)) ≡ Some (tree.Stmt.declare t w o, ts)
declaration_back names body t w o d v n ts le =
    stmt_typed names body t d n (word w ∷ put_start o ts)
    ∙ and_on (read_type names n) _ (put_type t (word w ∷ put_start o ts)) (word w ∷ put_start o ts) t _ (type_back names t d n (word w ∷ put_start o ts) (ends_type-word w (put_start o ts)) (omega arith))
    (and_on (read_start names n) _ (put_start o ts) ts o _ (start_back names o v n ts (omega (arith, rest_of_type t (word w ∷ put_start o ts)))) refl)

no_call : (names : List Text) (n : ℕ) (w : Text) (s : List LStep) (ts : List Token) → read_action names n w (put_steps s (equals ∷ ts)) ≡ read_assignment names n w (put_steps s (equals ∷ ts))
no_call names n w [] ts = refl
no_call names n w (tree.LStep.member v ∷ s) ts = refl
no_call names n w (tree.LStep.index e ∷ s) ts = refl

assignment_back : (names : List Text) (body : Parse Stmts) (w : Text) (s : List LStep) (e : Expr) → IsFree names w → AreDeclaredSteps names s → IsDeclaredExpr names e → (n : ℕ) (ts : List Token) → length (put_steps s (equals ∷ put_expr e (semicolon ∷ ts))) ≤ n → read_stmt names body n (word w ∷ put_steps s (equals ∷ put_expr e (semicolon ∷ ts))) ≡ Some (tree.Stmt.assign (lvalue w s) e, ts)
assignment_back names body w s e dw ds de n ts le =
    stmt_named names body w dw n (put_steps s (equals ∷ put_expr e (semicolon ∷ ts)))
    ∙ no_call names n w s (put_expr e (semicolon ∷ ts))
    ∙ and_on (read_steps names n) _ (put_steps s (equals ∷ put_expr e (semicolon ∷ ts))) (equals ∷ put_expr e (semicolon ∷ ts)) s _ (steps_back names s ds n (put_expr e (semicolon ∷ ts)) le)
    (expr_then names e de n semicolon ts _ _ refl (omega (arith, rest_of_steps s (equals ∷ put_expr e (semicolon ∷ ts)))) refl)

call_stmt_back : (names : List Text) (body : Parse Stmts) (w : Text) (args : Exprs) → IsFree names w → AreDeclaredExprs names args → (n : ℕ) (ts : List Token) → length (put_args args (semicolon ∷ ts)) ≤ n → read_stmt names body n (word w ∷ left_paren ∷ put_args args (semicolon ∷ ts)) ≡ Some (tree.Stmt.call w args, ts)
call_stmt_back names body w args dw da n ts le =
    stmt_named names body w dw n (left_paren ∷ put_args args (semicolon ∷ ts))
    ∙ and_on (any_until_paren (read_expr names n) n) _ (put_args args (semicolon ∷ ts)) (semicolon ∷ ts) (exprs_of args) _ (args_back names args da n (semicolon ∷ ts) le) (ap (λ es. Some (tree.Stmt.call w es, ts)) (exprs_back args))

condition_back : (names : List Text) (e : Expr) → IsDeclaredExpr names e → (n : ℕ) (ts : List Token) → length (put_expr e (right_paren ∷ ts)) ≤ n → read_condition names n (left_paren ∷ put_expr e (right_paren ∷ ts)) ≡ Some (e, ts)
condition_back names e d n ts le = expr_then names e d n right_paren ts _ _ refl le refl

-- a body, where its statements are read
body_from : (names : List Text) (b : Stmts) (n : ℕ) (ts : List Token) → length (left_brace ∷ put_body b ts) ≤ n → ((m j : ℕ) → length (put_body b ts) ≤ m → length (put_body b ts) ≤ j → until_brace (read_stmt names (read_body names m) m) j (put_body b ts) ≡ Some (stmts_of b, ts)) → read_body names n (left_brace ∷ put_body b ts) ≡ Some (b, ts)
body_from names b zero ts le h = absurd (omega arith)
body_from names b (suc n) ts le h = and_on (until_brace (read_stmt names (read_body names n) n) n) _ (put_body b ts) ts (stmts_of b) _ (h n n (omega arith) (omega arith)) (ap (λ ss. Some (ss, ts)) (stmts_back b))

-- a group, where its body is read
arm_from : (body : Parse Stmts) (ls : List Label) → 1 ≤ length ls → (b : Stmts) (n : ℕ) (ts : List Token) → length (put_labels ls (left_brace ∷ put_body b ts)) ≤ n → body (left_brace ∷ put_body b ts) ≡ Some (b, ts) → read_arm body n (put_labels ls (left_brace ∷ put_body b ts)) ≡ Some (group ls b, ts)
arm_from body ls some b n ts le back = and_on (one_and read_label (read_labels n)) _ (put_labels ls (left_brace ∷ put_body b ts)) (left_brace ∷ put_body b ts) ls _ (some_labels_back ls some n (put_body b ts) le) (and_on body _ (left_brace ∷ put_body b ts) ts b _ back refl)

-- the groups, where they are read after a turn
arms_from : (names : List Text) (arms : Arms) → has_arms arms ≡ true → AreDeclaredArms names arms → (body : Parse Stmts) (n : ℕ) (ts : List Token) → until_brace (read_arm body n) (suc n) (put_arms arms ts) ≡ Some (arms_of arms, ts) → read_arms body n (left_brace ∷ put_arms arms ts) ≡ Some (arms, ts)
arms_from names no_arms some d body n ts back = off_on some
arms_from names (tree.Arms.arm ls b r) some d body n ts back =
    and_on (some_until_brace (read_arm body n) n) _ (put_arms (tree.Arms.arm ls b r) ts) ts (group ls b ∷ arms_of r) _ (sym (arm_turn ls d.0 (read_arm body n) n (left_brace ∷ put_body b (put_arms r ts))) ∙ back) (ap (λ as'. Some (as', ts)) (arms_back (tree.Arms.arm ls b r)))

mutual
  stmt_on : (names : List Text) (s : Stmt) → IsDeclaredStmt names s → (n : ℕ) (ts : List Token) → NoElse ts → length (put_stmt s ts) ≤ n → read_stmt names (read_body names n) n (put_stmt s ts) ≡ Some (s, ts)
  stmt_on names (tree.Stmt.declare t w o) d n ts free le = declaration_back names (read_body names n) t w o d.0 d.1 n ts le
  stmt_on names (tree.Stmt.assign (lvalue w s) e) d n ts free le = assignment_back names (read_body names n) w s e d.0.0 d.0.1 d.1 n ts (omega arith)
  stmt_on names (tree.Stmt.call w args) d n ts free le = call_stmt_back names (read_body names n) w args d.0 d.1 n ts (omega arith)
  stmt_on names (tree.Stmt.when e a) d n ts free le =
      let l = rest_of_expr e (right_paren ∷ left_brace ∷ put_body a ts) in
      let ra : read_body names n (left_brace ∷ put_body a ts) ≡ Some (a, ts) = body_from names a n ts (omega arith) (λ m j. stmts_on names a d.1 m j ts) in
      and_on (read_condition names n) _ (left_paren ∷ put_expr e (right_paren ∷ left_brace ∷ put_body a ts)) (left_brace ∷ put_body a ts) e _ (condition_back names e d.0 n (left_brace ∷ put_body a ts) (omega arith)) (and_on (read_body names n) _ (left_brace ∷ put_body a ts) ts a _ ra (free (read_body names n) e a))
  stmt_on names (tree.Stmt.either e a b) d n ts free le =
      let rest = else_ ∷ left_brace ∷ put_body b ts in
      let le' = rest_of_expr e (right_paren ∷ left_brace ∷ put_body a (else_ ∷ left_brace ∷ put_body b ts)) in
      let la = rest_of_body a (else_ ∷ left_brace ∷ put_body b ts) in
      let ra : read_body names n (left_brace ∷ put_body a rest) ≡ Some (a, rest) = body_from names a n rest (omega arith) (λ m j. stmts_on names a d.1 m j rest) in
      let rb : read_body names n (left_brace ∷ put_body b ts) ≡ Some (b, ts) = body_from names b n ts (omega arith) (λ m j. stmts_on names b d.2 m j ts) in
      and_on (read_condition names n) _ (left_paren ∷ put_expr e (right_paren ∷ left_brace ∷ put_body a rest)) (left_brace ∷ put_body a rest) e _ (condition_back names e d.0 n (left_brace ∷ put_body a rest) (omega arith)) (and_on (read_body names n) _ (left_brace ∷ put_body a rest) rest a _ ra (and_on (read_body names n) _ (left_brace ∷ put_body b ts) ts b _ rb refl))
  stmt_on names (tree.Stmt.loop a) d n ts free le =
      let ra : read_body names n (left_brace ∷ put_body a ts) ≡ Some (a, ts) = body_from names a n ts (omega arith) (λ m j. stmts_on names a d m j ts) in
      and_on (read_body names n) _ (left_brace ∷ put_body a ts) ts a _ ra refl
  stmt_on names (tree.Stmt.switch e arms) d n ts free le =
      let l = rest_of_expr e (right_paren ∷ left_brace ∷ put_arms arms ts) in
      let ra : read_arms (read_body names n) n (left_brace ∷ put_arms arms ts) ≡ Some (arms, ts) = arms_from names arms d.1 d.2 (read_body names n) n ts (arms_on names arms d.2 n (suc n) ts (omega arith) (omega arith)) in
      and_on (read_condition names n) _ (left_paren ∷ put_expr e (right_paren ∷ left_brace ∷ put_arms arms ts)) (left_brace ∷ put_arms arms ts) e _ (condition_back names e d.0 n (left_brace ∷ put_arms arms ts) (omega arith)) (and_on (read_arms (read_body names n) n) _ (left_brace ∷ put_arms arms ts) ts arms _ ra refl)
  stmt_on names tree.Stmt.leave d n ts free le = refl
  stmt_on names tree.Stmt.again d n ts free le = refl
  stmt_on names (tree.Stmt.give o) d n ts free le = and_on (read_result names n) _ (put_result o ts) ts o _ (result_back names o d n ts (omega arith)) refl

  stmts_on : (names : List Text) (b : Stmts) → AreDeclaredStmts names b → (m j : ℕ) (ts : List Token) → length (put_body b ts) ≤ m → length (put_body b ts) ≤ j → until_brace (read_stmt names (read_body names m) m) j (put_body b ts) ≡ Some (stmts_of b, ts)
  stmts_on names no_stmts d m zero ts lm lj = absurd (omega arith)
  stmts_on names no_stmts d m (suc j) ts lm lj = refl
  stmts_on names (tree.Stmts.stmt s ss) d m zero ts lm lj = absurd (omega (arith, rest_of_stmt s (put_body ss ts)))
  stmts_on names (tree.Stmts.stmt s ss) d m (suc j) ts lm lj =
      let l = rest_of_stmt s (put_body ss ts) in
      let rs : read_stmt names (read_body names m) m (put_stmt s (put_body ss ts)) ≡ Some (s, put_body ss ts) = stmt_on names s d.0 m (put_body ss ts) (no_else_after ss ts) lm in
      stmt_turn s (read_stmt names (read_body names m) m) j (put_body ss ts)
      ∙ one_on (read_stmt names (read_body names m) m) (until_brace (read_stmt names (read_body names m) m) j) (put_stmt s (put_body ss ts)) (put_body ss ts) ts s (stmts_of ss) rs (stmts_on names ss d.1 m j ts (omega arith) (omega arith))

  arms_on : (names : List Text) (arms : Arms) → AreDeclaredArms names arms → (m j : ℕ) (ts : List Token) → length (put_arms arms ts) ≤ m → length (put_arms arms ts) ≤ j → until_brace (read_arm (read_body names m) m) j (put_arms arms ts) ≡ Some (arms_of arms, ts)
  arms_on names no_arms d m zero ts lm lj = absurd (omega arith)
  arms_on names no_arms d m (suc j) ts lm lj = refl
  arms_on names (tree.Arms.arm ls b r) d m zero ts lm lj = absurd (omega (arith, rest_of_labels ls (left_brace ∷ put_body b (put_arms r ts))))
  arms_on names (tree.Arms.arm ls b r) d m (suc j) ts lm lj =
      let rest = put_arms r ts in
      let ll = rest_of_labels ls (left_brace ∷ put_body b (put_arms r ts)) in
      let lb = rest_of_body b (put_arms r ts) in
      let rb : read_body names m (left_brace ∷ put_body b rest) ≡ Some (b, rest) = body_from names b m rest (omega arith) (λ i k. stmts_on names b d.1 i k rest) in
      arm_turn ls d.0 (read_arm (read_body names m) m) j (left_brace ∷ put_body b rest)
      ∙ one_on (read_arm (read_body names m) m) (until_brace (read_arm (read_body names m) m) j) (put_labels ls (left_brace ∷ put_body b rest)) rest ts (group ls b) (arms_of r) (arm_from (read_body names m) ls d.0 b m rest lm rb) (arms_on names r d.2 m j ts (omega arith) (omega arith))

pub body_back : (names : List Text) (b : Stmts) → AreDeclaredStmts names b → (n : ℕ) (ts : List Token) → length (left_brace ∷ put_body b ts) ≤ n → read_body names n (left_brace ∷ put_body b ts) ≡ Some (b, ts)
body_back names b d n ts le = body_from names b n ts le (λ m j. stmts_on names b d m j ts)
