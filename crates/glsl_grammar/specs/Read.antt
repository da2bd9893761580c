-- How a tree is read from tokens: one definition for each production of the grammar, with the production above it.
-- A number bounds the turns of a recursion; the count of the tokens is always enough. `names` are those of the structs declared before.
use Rattle.std.specs.Prelude.{ℕ, zero, suc, Bool, true, false, ◌==◌, List, [], ◌∷◌, length, Option, Some, None, option_map, codes, bytes_eq, find}
use Rattle.std.specs.List.{list_any}
use Rattle.glsl_ast.specs.Tree as tree
use Rattle.glsl_ast.specs.Tree.{Text, TypeName, type_name, Extent, Base, Expr, exprs_in, LStep, lvalue, Stmt, Stmts, stmts_in, Arms, Arm, group, arms_in, Field, field, Member, Param, param, Decl, TranslationUnit, translation_unit}
use Rattle.glsl_ast.specs.declared.expressions.Literal.{Literal}
use Rattle.glsl_ast.specs.declared.expressions.Literal.TheVariants.{Int, Uint, Hex, Truth}
use Rattle.glsl_ast.specs.declared.statements.Label.{Label}
use Rattle.glsl_ast.specs.declared.statements.Label.TheVariants.{Case, Default}
use Rattle.glsl_ast.specs.declared.items.Size.{Size}
use Rattle.glsl_ast.specs.declared.items.BlockPlace.{BlockPlace}
use Rattle.glsl_ast.specs.declared.items.BlockPlace.TheVariants.{Set, Push}
use Rattle.glsl_ast.specs.declared.items.BlockRules.{BlockRules}
use Rattle.glsl_ast.specs.declared.items.BlockRules.TheVariants.{Std430, Std140}
use Rattle.glsl_ast.specs.declared.items.Qual.{Qual}
use Rattle.glsl_grammar.specs.Token.{Token, word, number, unsigned, hexadecimal, truth, basic, qualifier, operator, struct_, layout_, const_, shared_, void_, inout_, if_, else_, for_, switch_, case_, default_, break_, continue_, return_, length_, buffer_, uniform_, left_paren, right_paren, left_brace, left_bracket, right_bracket, semicolon, dot, equals, not_sign, flip_sign, question, size_word}
use Rattle.glsl_grammar.specs.Levels.{op_level, unary_level, condition_level, any_level}
use Rattle.glsl_grammar.specs.Parsers.{Parse, ◌>>=◌, ◌>>◌, pure, open_paren, close_paren, open_brace, close_bracket, see_semicolon, see_comma, see_colon, see_equals, see_layout, see_in, see_const, read_number, read_name, see_word, one_and, until_brace, some_until_brace, some_until_paren, any_until_paren}

-- a struct of the names has the word
abbrev pub is_declared : List Text → Text → Bool
is_declared names w = list_any (λ v. bytes_eq v w) names

-- literal = decimal ["u"] | "0x" eight digits | "true" | "false"
abbrev pub read_literal : Parse Literal
read_literal (number n ∷ ts) = Some (Int n, ts)
read_literal (unsigned n ∷ ts) = Some (Uint n, ts)
read_literal (hexadecimal n ∷ ts) = Some (Hex n, ts)
read_literal (truth b ∷ ts) = Some (Truth b, ts)
read_literal _ = None

-- base = bool int uint, bvec ivec uvec with 2 3 4, or a struct's name
abbrev pub read_base : List Text → Parse Base
read_base names (basic b ∷ ts) = Some (b, ts)
read_base names (word w ∷ ts) = elim (is_declared names w) [ true ↦ Some (tree.Base.struct w, ts) | false ↦ None ]
read_base names _ = None

-- length = .. | name | "gl_WorkGroupSize" "." name
abbrev pub read_named_length : Text → Parse Extent
read_named_length w (dot ∷ ts) = elim (bytes_eq w (codes "gl_WorkGroupSize")) [ true ↦ (do v ← read_name; pure (tree.Extent.size v)) ts | false ↦ None ]
read_named_length w ts = Some (tree.Extent.named w, ts)

-- length = number | name | "gl_WorkGroupSize" "." name
abbrev pub read_length : Parse Extent
read_length (number n ∷ ts) = Some (tree.Extent.number n, ts)
read_length (word w ∷ ts) = read_named_length w ts
read_length _ = None

-- [length] "]"
abbrev pub read_extent : Parse Extent
read_extent (right_bracket ∷ ts) = Some (tree.open_end, ts)
read_extent ts = (do e ← read_length; close_bracket; pure e) ts

-- ("[" [length] "]")*
abbrev pub read_extents : ℕ → Parse (List Extent)
read_extents zero ts = Some ([], ts)
read_extents (suc n) (left_bracket ∷ ts) = one_and read_extent (read_extents n) ts
read_extents (suc n) ts = Some ([], ts)

-- type = base ("[" [length] "]")*
abbrev pub read_type : List Text → ℕ → Parse TypeName
read_type names n = do
  b ← read_base names
  es ← read_extents n
  pure (type_name b es)

-- type "(" args ")"
abbrev pub read_build : List Text → Parse Expr → ℕ → Parse Expr
read_build names inner n = do
  t ← read_type names n
  open_paren
  args ← any_until_paren inner n
  pure (tree.build t (exprs_in args))

-- name | name "(" args ")"
abbrev pub read_named : Parse Expr → ℕ → Text → Parse Expr
read_named inner n w (left_paren ∷ ts) = (do args ← any_until_paren inner n; pure (tree.Expr.call w (exprs_in args))) ts
read_named inner n w ts = Some (tree.name w, ts)

-- name | "length" "(" ")"
abbrev pub read_part : Expr → Parse Expr
read_part e (word w ∷ ts) = Some (tree.Expr.member e w, ts)
read_part e (length_ ∷ left_paren ∷ right_paren ∷ ts) = Some (tree.length_of e, ts)
read_part e _ = None

-- ("." name | "[" expr "]" | "." "length" "(" ")")*
abbrev pub read_suffixes : Parse Expr → ℕ → Expr → Parse Expr
read_suffixes inner zero e ts = Some (e, ts)
read_suffixes inner (suc n) e (dot ∷ ts) = (do a ← read_part e; read_suffixes inner n a) ts
read_suffixes inner (suc n) e (left_bracket ∷ ts) = (do i ← inner; close_bracket; read_suffixes inner n (tree.Expr.index e i)) ts
read_suffixes inner (suc n) e ts = Some (e, ts)

-- prim = literal | name | type "(" args ")" | name "(" args ")" | "(" expr ")"
abbrev pub read_prim : List Text → Parse Expr → ℕ → Parse Expr
read_prim names inner n (basic b ∷ ts) = read_build names inner n (basic b ∷ ts)
read_prim names inner n (word w ∷ ts) = elim (is_declared names w) [ true ↦ read_build names inner n (word w ∷ ts) | false ↦ read_named inner n w ts ]
read_prim names inner n (left_paren ∷ ts) = (do e ← inner; close_paren; pure e) ts
read_prim names inner n ts = (do l ← read_literal; pure (tree.literal l)) ts

-- post = prim ("." name | "[" expr "]" | "." "length" "(" ")")*
abbrev pub read_post : List Text → Parse Expr → ℕ → Parse Expr
read_post names inner n = do
  e ← read_prim names inner n
  read_suffixes inner n e

-- unary = ("!" | "~") unary | post, where `inner` reads an expression of a level
abbrev pub read_unary : List Text → (ℕ → Parse Expr) → ℕ → Parse Expr
read_unary names inner n (not_sign ∷ ts) = (do e ← inner unary_level; pure (tree.not e)) ts
read_unary names inner n (flip_sign ∷ ts) = (do e ← inner unary_level; pure (tree.flip e)) ts
read_unary names inner n ts = read_post names (inner any_level) n ts

-- (op part)*, where the operators are those of a level
abbrev pub read_chain : Parse Expr → ℕ → ℕ → Expr → Parse Expr
read_chain part level zero a ts = Some (a, ts)
read_chain part level (suc n) a (operator op ∷ ts) = elim (op_level op == level) [ true ↦ (do b ← part; read_chain part level n (tree.binary op a b)) ts | false ↦ Some (a, operator op ∷ ts) ]
read_chain part level (suc n) a ts = Some (a, ts)

-- ["?" expr ":" expr]
abbrev pub read_choice : Parse Expr → Expr → Parse Expr
read_choice inner c (question ∷ ts) = (do a ← inner; see_colon; b ← inner; pure (tree.choose c a b)) ts
read_choice inner c ts = Some (c, ts)

-- what stands behind the first part of an expression, which is of a level, up to the next looser level
abbrev pub read_rest : (ℕ → Parse Expr) → ℕ → ℕ → Expr → Parse Expr
read_rest inner level n a = elim (level == condition_level) [ true ↦ read_choice (inner any_level) a | false ↦ read_chain (inner level) (suc level) n a ]

-- expr  = lor ["?" expr ":" expr]
-- lor   = land ("||" land)*
-- land  = bor ("&&" bor)*
-- bor   = bxor ("|" bxor)*
-- bxor  = band ("^" band)*
-- band  = equal ("&" equal)*
-- equal = rel (("==" | "!=") rel)*
-- rel   = shift (("<" | "<=" | ">" | ">=") shift)*
-- shift = sum (("<<" | ">>") sum)*
-- sum   = prod (("+" | "-") prod)*
-- prod  = unary (("*" | "/" | "%") unary)*
-- Level 12 is `expr`, 11 to 2 are `lor` to `prod`, 1 is `unary` and 0 `post`.
abbrev pub read_level : List Text → (ℕ → Parse Expr) → ℕ → ℕ → Parse Expr
read_level names inner n zero = read_post names (inner any_level) n
read_level names inner n (suc zero) = read_unary names inner n
read_level names inner n (suc (suc level)) = read_level names inner n (suc level) >>= read_rest inner (suc level) n

-- an expression of a level or a tighter one
abbrev pub read_within : List Text → ℕ → ℕ → Parse Expr
read_within names zero level ts = None
read_within names (suc n) level ts = read_level names (read_within names n) n level ts

abbrev pub read_expr : List Text → ℕ → Parse Expr
read_expr names n = read_within names n any_level

-- ("." name | "[" expr "]")*
abbrev pub read_steps : List Text → ℕ → Parse (List LStep)
read_steps names zero ts = Some ([], ts)
read_steps names (suc n) (dot ∷ ts) = (do w ← read_name; s ← read_steps names n; pure (tree.LStep.member w ∷ s)) ts
read_steps names (suc n) (left_bracket ∷ ts) = (do e ← read_expr names n; close_bracket; s ← read_steps names n; pure (tree.LStep.index e ∷ s)) ts
read_steps names (suc n) ts = Some ([], ts)

-- ["=" expr] ";"
abbrev pub read_start : List Text → ℕ → Parse (Option Expr)
read_start names n (semicolon ∷ ts) = Some (None, ts)
read_start names n (equals ∷ ts) = (do e ← read_expr names n; see_semicolon; pure (Some e)) ts
read_start names n _ = None

-- [expr] ";"
abbrev pub read_result : List Text → ℕ → Parse (Option Expr)
read_result names n (semicolon ∷ ts) = Some (None, ts)
read_result names n ts = (do e ← read_expr names n; see_semicolon; pure (Some e)) ts

-- type name ["=" expr] ";"
abbrev pub read_declaration : List Text → ℕ → Parse Stmt
read_declaration names n = do
  t ← read_type names n
  w ← read_name
  value ← read_start names n
  pure (tree.declare t w value)

-- behind its name: lvalue "=" expr ";"
-- lvalue = name ("." name | "[" expr "]")*
abbrev pub read_assignment : List Text → ℕ → Text → Parse Stmt
read_assignment names n w = do
  s ← read_steps names n
  see_equals
  e ← read_expr names n
  see_semicolon
  pure (tree.assign (lvalue w s) e)

-- behind its name: lvalue "=" expr ";" | name "(" args ")" ";"
abbrev pub read_action : List Text → ℕ → Text → Parse Stmt
read_action names n w (left_paren ∷ ts) = (do args ← any_until_paren (read_expr names n) n; see_semicolon; pure (tree.Stmt.call w (exprs_in args))) ts
read_action names n w ts = read_assignment names n w ts

-- "(" expr ")"
abbrev pub read_condition : List Text → ℕ → Parse Expr
read_condition names n = do
  open_paren
  e ← read_expr names n
  close_paren
  pure e

-- ["else" body], with the statement that it makes
abbrev pub read_else : Parse Stmts → Expr → Stmts → Parse Stmt
read_else body e a (else_ ∷ ts) = (do b ← body; pure (tree.either e a b)) ts
read_else body e a ts = Some (tree.when e a, ts)

-- "(" ";" ";" ")"
abbrev pub read_for_head : Parse (Unit {0})
read_for_head (left_paren ∷ semicolon ∷ semicolon ∷ right_paren ∷ ts) = Some (tt, ts)
read_for_head _ = None

-- label = "case" literal ":" | "default" ":"
abbrev pub read_label : Parse Label
read_label (case_ ∷ ts) = (do l ← read_literal; see_colon; pure (Case l)) ts
read_label (default_ ∷ ts) = (do see_colon; pure Default) ts
read_label _ = None

-- label* "{", where the brace is left for the body
abbrev pub read_labels : ℕ → Parse (List Label)
read_labels zero ts = Some ([], ts)
read_labels (suc n) (left_brace ∷ ts) = Some ([], left_brace ∷ ts)
read_labels (suc n) ts = one_and read_label (read_labels n) ts

-- label+ body
abbrev pub read_arm : Parse Stmts → ℕ → Parse Arm
read_arm body n = do
  ls ← one_and read_label (read_labels n)
  b ← body
  pure (group ls b)

-- "{" (label+ body)+ "}"
abbrev pub read_arms : Parse Stmts → ℕ → Parse Arms
read_arms body n = do
  open_brace
  as' ← some_until_brace (read_arm body n) n
  pure (arms_in as')

-- stmt = type name ["=" expr] ";" | lvalue "=" expr ";" | name "(" args ")" ";"
--      | "if" "(" expr ")" body ["else" body] | "for" "(" ";" ";" ")" body
--      | "switch" "(" expr ")" "{" (label+ body)+ "}" | "break" ";" | "continue" ";" | "return" [expr] ";"
abbrev pub read_stmt : List Text → Parse Stmts → ℕ → Parse Stmt
read_stmt names body n (basic b ∷ ts) = read_declaration names n (basic b ∷ ts)
read_stmt names body n (word w ∷ ts) = elim (is_declared names w) [ true ↦ read_declaration names n (word w ∷ ts) | false ↦ read_action names n w ts ]
read_stmt names body n (if_ ∷ ts) = (do e ← read_condition names n; a ← body; read_else body e a) ts
read_stmt names body n (for_ ∷ ts) = (do read_for_head; a ← body; pure (tree.loop a)) ts
read_stmt names body n (switch_ ∷ ts) = (do e ← read_condition names n; as' ← read_arms body n; pure (tree.switch e as')) ts
read_stmt names body n (break_ ∷ ts) = (do see_semicolon; pure tree.leave) ts
read_stmt names body n (continue_ ∷ ts) = (do see_semicolon; pure tree.again) ts
read_stmt names body n (return_ ∷ ts) = (do value ← read_result names n; pure (tree.give value)) ts
read_stmt names body n _ = None

-- body = "{" stmt* "}"
abbrev pub read_body : List Text → ℕ → Parse Stmts
read_body names zero ts = None
read_body names (suc n) ts = (do open_brace; ss ← until_brace (read_stmt names (read_body names n) n) n; pure (stmts_in ss)) ts

-- type name ";"
abbrev pub read_field : List Text → ℕ → Parse Field
read_field names n = do
  t ← read_type names n
  w ← read_name
  see_semicolon
  pure (field t w)

-- name "{" (type name ";")+ "}" ";"
abbrev pub read_struct : List Text → ℕ → Parse Decl
read_struct names n = do
  w ← read_name
  open_brace
  fs ← some_until_brace (read_field names n) n
  see_semicolon
  pure (tree.Decl.struct w fs)

-- "const" type name "=" expr ";"
abbrev pub read_constant : List Text → ℕ → Option ℕ → Parse Decl
read_constant names n id = do
  see_const
  t ← read_type names n
  w ← read_name
  see_equals
  e ← read_expr names n
  see_semicolon
  pure (tree.constant id t w e)

-- type name ";"
abbrev pub read_shared : List Text → ℕ → Parse Decl
read_shared names n = do
  t ← read_type names n
  w ← read_name
  see_semicolon
  pure (tree.shared t w)

-- qual = "coherent" | "volatile" | "restrict" | "readonly" | "writeonly"
-- qual*
abbrev pub read_quals : ℕ → Parse (List Qual)
read_quals zero ts = Some ([], ts)
read_quals (suc n) (qualifier q ∷ ts) = (do qs ← read_quals n; pure (q ∷ qs)) ts
read_quals (suc n) ts = Some ([], ts)

-- member = "layout" "(" "offset" "=" number ")" qual* type name ";"
abbrev pub read_member : List Text → ℕ → Parse Member
read_member names n = do
  see_layout
  open_paren
  see_word (codes "offset")
  see_equals
  k ← read_number
  close_paren
  qs ← read_quals n
  t ← read_type names n
  w ← read_name
  see_semicolon
  pure (tree.Member.member k qs t w)

-- "=" number "," "binding" "=" number
abbrev pub read_set : Parse BlockPlace
read_set = do
  see_equals
  s ← read_number
  see_comma
  see_word (codes "binding")
  see_equals
  b ← read_number
  pure (Set s b)

-- where = ("set" "=" number "," "binding" "=" number | "push_constant") ..
abbrev pub read_place : Parse BlockPlace
read_place (word w ∷ ts) = elim (bytes_eq w (codes "set")) [ true ↦ read_set ts | false ↦ (do see_word (codes "push_constant"); pure Push) (word w ∷ ts) ]
read_place _ = None

-- where = .. "," ("std430" | "std140")
abbrev pub read_rules : Parse BlockRules
read_rules (word w ∷ ts) = elim (bytes_eq w (codes "std430")) [ true ↦ Some (Std430, ts) | false ↦ (do see_word (codes "std140"); pure Std140) (word w ∷ ts) ]
read_rules _ = None

-- "buffer" | "uniform"
abbrev pub read_kind : Parse Bool
read_kind (buffer_ ∷ ts) = Some (true, ts)
read_kind (uniform_ ∷ ts) = Some (false, ts)
read_kind _ = None

-- behind "layout" "(": where ")" qual* ("buffer" | "uniform") name "{" member+ "}" name ";"
abbrev pub read_block : List Text → ℕ → Parse Decl
read_block names n = do
  place ← read_place
  see_comma
  rules ← read_rules
  close_paren
  qs ← read_quals n
  buffer ← read_kind
  w ← read_name
  open_brace
  ms ← some_until_brace (read_member names n) n
  instance ← read_name
  see_semicolon
  pure (tree.block place rules qs buffer w ms instance)

-- behind "layout" "(" "constant_id": "=" number ")" "const" type name "=" expr ";"
abbrev pub read_constant_id : List Text → ℕ → Parse Decl
read_constant_id names n = do
  see_equals
  k ← read_number
  close_paren
  read_constant names n (Some k)

-- behind "layout" "(": a constant with an id, or a block
abbrev pub read_laid_out : List Text → ℕ → Parse Decl
read_laid_out names n (word w ∷ ts) = elim (bytes_eq w (codes "constant_id")) [ true ↦ read_constant_id names n ts | false ↦ read_block names n (word w ∷ ts) ]
read_laid_out names n _ = None

-- ["inout"]
abbrev pub read_inout : Parse Bool
read_inout (inout_ ∷ ts) = Some (true, ts)
read_inout ts = Some (false, ts)

-- param = ["inout"] type name
abbrev pub read_param : List Text → ℕ → Parse Param
read_param names n = do
  inout ← read_inout
  t ← read_type names n
  w ← read_name
  pure (param inout t w)

-- behind the name: "(" [param ("," param)*] ")" body
abbrev pub read_function : List Text → ℕ → Option TypeName → Text → Parse Decl
read_function names n result w = do
  open_paren
  ps ← any_until_paren (read_param names n) n
  b ← read_body names n
  pure (tree.function result w ps b)

-- behind the type and the name: type name "=" expr ";" | type name "(" [param ("," param)*] ")" body
abbrev pub read_definition : List Text → ℕ → TypeName → Text → Parse Decl
read_definition names n t w (equals ∷ ts) = (do e ← read_expr names n; see_semicolon; pure (tree.global t w e)) ts
read_definition names n t w ts = read_function names n (Some t) w ts

-- type name "=" expr ";" | type name "(" [param ("," param)*] ")" body
abbrev pub read_typed : List Text → ℕ → Parse Decl
read_typed names n = do
  t ← read_type names n
  w ← read_name
  read_definition names n t w

-- item = "struct" name "{" (type name ";")+ "}" ";"
--      | ["layout" "(" "constant_id" "=" number ")"] "const" type name "=" expr ";"
--      | "shared" type name ";" | type name "=" expr ";" | block
--      | ("void" | type) name "(" [param ("," param)*] ")" body
abbrev pub read_item : List Text → ℕ → Parse Decl
read_item names n (struct_ ∷ ts) = read_struct names n ts
read_item names n (layout_ ∷ ts) = (do open_paren; read_laid_out names n) ts
read_item names n (const_ ∷ ts) = read_constant names n None (const_ ∷ ts)
read_item names n (shared_ ∷ ts) = read_shared names n ts
read_item names n (void_ ∷ ts) = (do w ← read_name; read_function names n None w) ts
read_item names n ts = read_typed names n ts

-- the structs declared, an item later
abbrev pub names_after : List Text → Decl → List Text
names_after names (tree.Decl.struct w fs) = w ∷ names
names_after names _ = names

-- item*, up to the end
abbrev pub read_items : List Text → ℕ → Parse (List Decl)
read_items names n [] = Some ([], [])
read_items names zero (t ∷ ts) = None
read_items names (suc n) (t ∷ ts) = (do d ← read_item names (suc n); ds ← read_items (names_after names d) n; pure (d ∷ ds)) (t ∷ ts)

-- the axis whose word it is, and whether it is that of an id
abbrev pub axis_of : Text → Option (ℕ × Bool)
axis_of w = find (λ p. bytes_eq w (size_word p.0 p.1)) ((0, false) ∷ (0, true) ∷ (1, false) ∷ (1, true) ∷ (2, false) ∷ (2, true) ∷ [])

-- "local_size_" ("x" | "y" | "z") ["_id"]
abbrev pub read_axis : Parse (ℕ × Bool)
read_axis (word w ∷ ts) = option_map (λ p. (p, ts)) (axis_of w)
read_axis _ = None

-- size = ("local_size_" ("x" | "y" | "z") ["_id"]) "=" number
abbrev pub read_size : Parse Size
read_size = do
  p ← read_axis
  see_equals
  k ← read_number
  pure (record { axis = p.0; by_id = p.1; number = k })

-- unit = .. "layout" "(" size ("," size)* ")" "in" ";" item*, behind the version line
abbrev pub read_unit : ℕ → Parse TranslationUnit
read_unit n = do
  see_layout
  open_paren
  ss ← some_until_paren read_size n
  see_in
  see_semicolon
  ds ← read_items [] n
  pure (translation_unit ss ds)

-- the tree whose tokens these are
unfoldable pub tree_of_tokens : List Token → Option TranslationUnit
tree_of_tokens ts = option_map (λ r. r.0) (read_unit (length ts) ts)
