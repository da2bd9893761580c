-- The tokens of a text, and those of each tree.
use Rattle.std.specs.Prelude.{ℕ, Bool, true, false, List, ◌∷◌, [], Option, Some, None, codes, if◌then◌else◌, ◌==◌}
use Rattle.glsl_ast.specs.Tree as tree
use Rattle.glsl_ast.specs.Tree.{Text, TypeName, type_name, Extent, Base, Expr, Exprs, no_exprs, LStep, LValue, lvalue, Stmt, Stmts, no_stmts, Arms, no_arms, Field, field, Member, Param, param, Decl, TranslationUnit, translation_unit}
use Rattle.glsl_ast.specs.declared.expressions.Literal.{Literal}
use Rattle.glsl_ast.specs.declared.expressions.Literal.TheVariants.{Int, Uint, Hex, Truth}
use Rattle.glsl_ast.specs.declared.expressions.BinOp.{BinOp}
use Rattle.glsl_ast.specs.declared.statements.Label.{Label}
use Rattle.glsl_ast.specs.declared.statements.Label.TheVariants.{Case, Default}
use Rattle.glsl_ast.specs.declared.items.Size.{Size}
use Rattle.glsl_ast.specs.declared.items.BlockPlace.{BlockPlace}
use Rattle.glsl_ast.specs.declared.items.BlockPlace.TheVariants.{Set, Push}
use Rattle.glsl_ast.specs.declared.items.BlockRules.{BlockRules}
use Rattle.glsl_ast.specs.declared.items.BlockRules.TheVariants.{Std430, Std140}
use Rattle.glsl_ast.specs.declared.items.Qual.{Qual}
use Rattle.glsl_grammar.specs.Levels.{op_level, right_level, unary_level, condition_level, is_bare}

-- A word is a name, or a word that has a meaning only where the grammar asks for it, as `offset`.
pub data Token : Type 0 where
  word : Text → Token
  number : ℕ → Token
  unsigned : ℕ → Token
  hexadecimal : ℕ → Token
  truth : Bool → Token
  basic : Base → Token
  qualifier : Qual → Token
  operator : BinOp → Token
  struct_ : Token
  layout_ : Token
  const_ : Token
  shared_ : Token
  void_ : Token
  in_ : Token
  inout_ : Token
  if_ : Token
  else_ : Token
  for_ : Token
  switch_ : Token
  case_ : Token
  default_ : Token
  break_ : Token
  continue_ : Token
  return_ : Token
  length_ : Token
  buffer_ : Token
  uniform_ : Token
  left_paren : Token
  right_paren : Token
  left_brace : Token
  right_brace : Token
  left_bracket : Token
  right_bracket : Token
  semicolon : Token
  comma : Token
  dot : Token
  equals : Token
  not_sign : Token
  flip_sign : Token
  question : Token
  colon : Token
  bad : Token

-- Each of these is the tokens of a part, before those that follow it.

abbrev pub put_extent : Extent → List Token → List Token
put_extent tree.open_end ts = left_bracket ∷ right_bracket ∷ ts
put_extent (tree.Extent.number n) ts = left_bracket ∷ number n ∷ right_bracket ∷ ts
put_extent (tree.Extent.named w) ts = left_bracket ∷ word w ∷ right_bracket ∷ ts
put_extent (tree.Extent.size w) ts = left_bracket ∷ word (codes "gl_WorkGroupSize") ∷ dot ∷ word w ∷ right_bracket ∷ ts

abbrev pub put_extents : List Extent → List Token → List Token
put_extents [] ts = ts
put_extents (e ∷ es) ts = put_extent e (put_extents es ts)

abbrev pub base_token : Base → Token
base_token tree.Base.boolean = basic tree.Base.boolean
base_token tree.Base.int = basic tree.Base.int
base_token tree.Base.uint = basic tree.Base.uint
base_token (tree.Base.bool_vec n) = basic (tree.Base.bool_vec n)
base_token (tree.Base.int_vec n) = basic (tree.Base.int_vec n)
base_token (tree.Base.uint_vec n) = basic (tree.Base.uint_vec n)
base_token (tree.Base.struct w) = word w

abbrev pub put_type : TypeName → List Token → List Token
put_type (type_name b es) ts = base_token b ∷ put_extents es ts

abbrev pub literal_token : Literal → Token
literal_token (Int n) = number n
literal_token (Uint n) = unsigned n
literal_token (Hex n) = hexadecimal n
literal_token (Truth b) = truth b

-- a part that stands bare, or in parentheses
abbrev pub put_placed : Bool → (List Token → List Token) → List Token → List Token
put_placed true part ts = part ts
put_placed false part ts = left_paren ∷ part (right_paren ∷ ts)

abbrev mutual
  pub put_expr : Expr → List Token → List Token
  put_expr (tree.Expr.literal l) ts = literal_token l ∷ ts
  put_expr (tree.Expr.name w) ts = word w ∷ ts
  put_expr (tree.Expr.build t args) ts = put_type t (left_paren ∷ put_args args ts)
  put_expr (tree.Expr.call w args) ts = word w ∷ left_paren ∷ put_args args ts
  put_expr (tree.Expr.not e) ts = not_sign ∷ put_placed (is_bare unary_level e) (put_expr e) ts
  put_expr (tree.Expr.flip e) ts = flip_sign ∷ put_placed (is_bare unary_level e) (put_expr e) ts
  put_expr (tree.Expr.binary o a b) ts = put_placed (is_bare (op_level o) a) (put_expr a) (operator o ∷ put_placed (is_bare (right_level o) b) (put_expr b) ts)
  put_expr (tree.Expr.choose c a b) ts = put_placed (is_bare condition_level c) (put_expr c) (question ∷ put_expr a (colon ∷ put_expr b ts))
  put_expr (tree.Expr.member e w) ts = put_placed (is_bare 0 e) (put_expr e) (dot ∷ word w ∷ ts)
  put_expr (tree.Expr.index a b) ts = put_placed (is_bare 0 a) (put_expr a) (left_bracket ∷ put_expr b (right_bracket ∷ ts))
  put_expr (tree.Expr.length_of e) ts = put_placed (is_bare 0 e) (put_expr e) (dot ∷ length_ ∷ left_paren ∷ right_paren ∷ ts)

  -- arguments, and the closing parenthesis
  pub put_args : Exprs → List Token → List Token
  put_args no_exprs ts = right_paren ∷ ts
  put_args (tree.Exprs.expr e es) ts = put_expr e (put_more_args es ts)

  pub put_more_args : Exprs → List Token → List Token
  put_more_args no_exprs ts = right_paren ∷ ts
  put_more_args (tree.Exprs.expr e es) ts = comma ∷ put_expr e (put_more_args es ts)

-- an expression where those up to a level stand bare
abbrev pub put_operand : ℕ → Expr → List Token → List Token
put_operand loosest e = put_placed (is_bare loosest e) (put_expr e)

abbrev pub put_steps : List LStep → List Token → List Token
put_steps [] ts = ts
put_steps (tree.LStep.member w ∷ s) ts = dot ∷ word w ∷ put_steps s ts
put_steps (tree.LStep.index e ∷ s) ts = left_bracket ∷ put_expr e (right_bracket ∷ put_steps s ts)

-- what follows a name that is declared
abbrev pub put_start : Option Expr → List Token → List Token
put_start None ts = semicolon ∷ ts
put_start (Some e) ts = equals ∷ put_expr e (semicolon ∷ ts)

abbrev pub put_result : Option Expr → List Token → List Token
put_result None ts = semicolon ∷ ts
put_result (Some e) ts = put_expr e (semicolon ∷ ts)

abbrev pub put_label : Label → List Token → List Token
put_label (Case l) ts = case_ ∷ literal_token l ∷ colon ∷ ts
put_label Default ts = default_ ∷ colon ∷ ts

abbrev pub put_labels : List Label → List Token → List Token
put_labels [] ts = ts
put_labels (l ∷ ls) ts = put_label l (put_labels ls ts)

abbrev mutual
  pub put_stmt : Stmt → List Token → List Token
  put_stmt (tree.Stmt.declare t w o) ts = put_type t (word w ∷ put_start o ts)
  put_stmt (tree.Stmt.assign (lvalue w s) e) ts = word w ∷ put_steps s (equals ∷ put_expr e (semicolon ∷ ts))
  put_stmt (tree.Stmt.call w args) ts = word w ∷ left_paren ∷ put_args args (semicolon ∷ ts)
  put_stmt (tree.Stmt.when e a) ts = if_ ∷ left_paren ∷ put_expr e (right_paren ∷ left_brace ∷ put_body a ts)
  put_stmt (tree.Stmt.either e a b) ts = if_ ∷ left_paren ∷ put_expr e (right_paren ∷ left_brace ∷ put_body a (else_ ∷ left_brace ∷ put_body b ts))
  put_stmt (tree.Stmt.loop a) ts = for_ ∷ left_paren ∷ semicolon ∷ semicolon ∷ right_paren ∷ left_brace ∷ put_body a ts
  put_stmt (tree.Stmt.switch e arms) ts = switch_ ∷ left_paren ∷ put_expr e (right_paren ∷ left_brace ∷ put_arms arms ts)
  put_stmt tree.Stmt.leave ts = break_ ∷ semicolon ∷ ts
  put_stmt tree.Stmt.again ts = continue_ ∷ semicolon ∷ ts
  put_stmt (tree.Stmt.give o) ts = return_ ∷ put_result o ts

  -- statements, and the closing brace
  pub put_body : Stmts → List Token → List Token
  put_body no_stmts ts = right_brace ∷ ts
  put_body (tree.Stmts.stmt s ss) ts = put_stmt s (put_body ss ts)

  -- groups of a switch, and the closing brace
  pub put_arms : Arms → List Token → List Token
  put_arms no_arms ts = right_brace ∷ ts
  put_arms (tree.Arms.arm ls b r) ts = put_labels ls (left_brace ∷ put_body b (put_arms r ts))

abbrev pub put_field : Field → List Token → List Token
put_field (field t w) ts = put_type t (word w ∷ semicolon ∷ ts)

-- fields, and the closing brace
abbrev pub put_fields : List Field → List Token → List Token
put_fields [] ts = right_brace ∷ ts
put_fields (f ∷ fs) ts = put_field f (put_fields fs ts)

abbrev pub put_quals : List Qual → List Token → List Token
put_quals [] ts = ts
put_quals (q ∷ qs) ts = qualifier q ∷ put_quals qs ts

abbrev pub put_member : Member → List Token → List Token
put_member (tree.Member.member n qs t w) ts = layout_ ∷ left_paren ∷ word (codes "offset") ∷ equals ∷ number n ∷ right_paren ∷ put_quals qs (put_type t (word w ∷ semicolon ∷ ts))

-- members, and the closing brace
abbrev pub put_members : List Member → List Token → List Token
put_members [] ts = right_brace ∷ ts
put_members (m ∷ ms) ts = put_member m (put_members ms ts)

abbrev pub put_inout : Bool → List Token → List Token
put_inout true ts = inout_ ∷ ts
put_inout false ts = ts

abbrev pub put_param : Param → List Token → List Token
put_param (param b t w) ts = put_inout b (put_type t (word w ∷ ts))

abbrev pub put_more_params : List Param → List Token → List Token
put_more_params [] ts = right_paren ∷ ts
put_more_params (p ∷ ps) ts = comma ∷ put_param p (put_more_params ps ts)

-- parameters, and the closing parenthesis
abbrev pub put_params : List Param → List Token → List Token
put_params [] ts = right_paren ∷ ts
put_params (p ∷ ps) ts = put_param p (put_more_params ps ts)

abbrev pub put_place : BlockPlace → List Token → List Token
put_place (Set s b) ts = word (codes "set") ∷ equals ∷ number s ∷ comma ∷ word (codes "binding") ∷ equals ∷ number b ∷ ts
put_place Push ts = word (codes "push_constant") ∷ ts

abbrev pub rules_word : BlockRules → Text
rules_word Std430 = codes "std430"
rules_word Std140 = codes "std140"

abbrev pub kind_token : Bool → Token
kind_token true = buffer_
kind_token false = uniform_

abbrev pub put_result_type : Option TypeName → List Token → List Token
put_result_type None ts = void_ ∷ ts
put_result_type (Some t) ts = put_type t ts

abbrev pub put_constant_id : Option ℕ → List Token → List Token
put_constant_id None ts = ts
put_constant_id (Some n) ts = layout_ ∷ left_paren ∷ word (codes "constant_id") ∷ equals ∷ number n ∷ right_paren ∷ ts

abbrev pub put_decl : Decl → List Token → List Token
put_decl (tree.Decl.struct w fs) ts = struct_ ∷ word w ∷ left_brace ∷ put_fields fs (semicolon ∷ ts)
put_decl (tree.Decl.constant id t w e) ts = put_constant_id id (const_ ∷ put_type t (word w ∷ equals ∷ put_expr e (semicolon ∷ ts)))
put_decl (tree.Decl.shared t w) ts = shared_ ∷ put_type t (word w ∷ semicolon ∷ ts)
put_decl (tree.Decl.global t w e) ts = put_type t (word w ∷ equals ∷ put_expr e (semicolon ∷ ts))
put_decl (tree.Decl.block place rules qs buffer w ms instance) ts = layout_ ∷ left_paren ∷ put_place place (comma ∷ word (rules_word rules) ∷ right_paren ∷ put_quals qs (kind_token buffer ∷ word w ∷ left_brace ∷ put_members ms (word instance ∷ semicolon ∷ ts)))
put_decl (tree.Decl.function result w ps body) ts = put_result_type result (word w ∷ left_paren ∷ put_params ps (left_brace ∷ put_body body ts))

abbrev pub put_decls : List Decl → List Token → List Token
put_decls [] ts = ts
put_decls (d ∷ ds) ts = put_decl d (put_decls ds ts)

-- the word of a part of the workgroup's size, of axis 0, 1 or 2
abbrev pub size_word : ℕ → Bool → Text
size_word axis true = if axis == 0 then codes "local_size_x_id" else (if axis == 1 then codes "local_size_y_id" else codes "local_size_z_id")
size_word axis false = if axis == 0 then codes "local_size_x" else (if axis == 1 then codes "local_size_y" else codes "local_size_z")

abbrev pub put_size : Size → List Token → List Token
put_size s ts = word (size_word s.axis s.by_id) ∷ equals ∷ number s.number ∷ ts

abbrev pub put_more_sizes : List Size → List Token → List Token
put_more_sizes [] ts = right_paren ∷ ts
put_more_sizes (s ∷ ss) ts = comma ∷ put_size s (put_more_sizes ss ts)

-- sizes, and the closing parenthesis
abbrev pub put_sizes : List Size → List Token → List Token
put_sizes [] ts = right_paren ∷ ts
put_sizes (s ∷ ss) ts = put_size s (put_more_sizes ss ts)

-- the tokens behind the version line
abbrev pub put_unit : TranslationUnit → List Token
put_unit (translation_unit ss ds) = layout_ ∷ left_paren ∷ put_sizes ss (in_ ∷ semicolon ∷ put_decls ds [])
