-- How a tree is laid out as text: four spaces a level, `{` at the end of its line, one blank round each binary operator, and
-- parentheses only where the tree needs them.
use Rattle.std.specs.Prelude.{ℕ, zero, suc, ◌+◌, ◌/◌, ◌%◌, ◌^◌, ◌==◌, nat_lt, if◌then◌else◌, Bool, true, false, List, [], ◌∷◌, ◌++◌, Option, Some, None}
use Rattle.std.specs.Fmt.{decimal}
use Rattle.glsl_ast.specs.Tree as tree
use Rattle.glsl_ast.specs.Tree.{Text, TypeName, type_name, Extent, Base, Expr, Exprs, no_exprs, LStep, LValue, lvalue, Stmt, Stmts, no_stmts, Arms, no_arms, Field, field, Member, Param, param, Decl, TranslationUnit, translation_unit}
use Rattle.glsl_ast.specs.declared.expressions.Literal.{Literal}
use Rattle.glsl_ast.specs.declared.expressions.Literal.TheVariants as literal
use Rattle.glsl_ast.specs.declared.expressions.BinOp.{BinOp}
use Rattle.glsl_ast.specs.declared.expressions.BinOp.TheVariants as op
use Rattle.glsl_ast.specs.declared.statements.Label.{Label}
use Rattle.glsl_ast.specs.declared.statements.Label.TheVariants as label
use Rattle.glsl_ast.specs.declared.items.Size.{Size}
use Rattle.glsl_ast.specs.declared.items.BlockPlace.{BlockPlace}
use Rattle.glsl_ast.specs.declared.items.BlockPlace.TheVariants as place
use Rattle.glsl_ast.specs.declared.items.BlockRules.{BlockRules}
use Rattle.glsl_ast.specs.declared.items.BlockRules.TheVariants as rules
use Rattle.glsl_ast.specs.declared.items.Qual.{Qual}
use Rattle.glsl_ast.specs.declared.items.Qual.TheVariants as qual
use Rattle.glsl_grammar.specs.declared.marks.Mark.{Mark}
use Rattle.glsl_grammar.specs.declared.marks.Mark.TheVariants as mark
use Rattle.glsl_grammar.specs.Marks.{mark_text}
use Rattle.glsl_grammar.specs.Levels.{op_level, right_level, unary_level, condition_level, is_bare}

-- an upper-case hexadecimal digit
abbrev pub hex_digit : ℕ → ℕ
hex_digit d = if nat_lt d 10 then 48 + d else 55 + d

-- eight of them
abbrev pub hex_text : ℕ → Text
hex_text n =
    hex_digit (n / 16 ^ 7 % 16)
    ∷ hex_digit (n / 16 ^ 6 % 16)
    ∷ hex_digit (n / 16 ^ 5 % 16)
    ∷ hex_digit (n / 16 ^ 4 % 16)
    ∷ hex_digit (n / 16 ^ 3 % 16)
    ∷ hex_digit (n / 16 ^ 2 % 16)
    ∷ hex_digit (n / 16 % 16)
    ∷ hex_digit (n % 16)
    ∷ []

abbrev pub indent_text : ℕ → Text
indent_text zero = []
indent_text (suc level) = mark_text mark.Indent ++ indent_text level

abbrev pub extent_text : Extent → Text
extent_text tree.open_end = mark_text mark.OpenExtent
extent_text (tree.Extent.number n) = mark_text mark.BracketOpen ++ (decimal n ++ mark_text mark.BracketClose)
extent_text (tree.Extent.named w) = mark_text mark.BracketOpen ++ (w ++ mark_text mark.BracketClose)
extent_text (tree.Extent.size w) = mark_text mark.SizeExtent ++ (w ++ mark_text mark.BracketClose)

abbrev pub extents_text : List Extent → Text
extents_text [] = []
extents_text (e ∷ es) = extent_text e ++ extents_text es

abbrev pub base_text : Base → Text
base_text tree.Base.boolean = mark_text mark.Bool
base_text tree.Base.int = mark_text mark.Int
base_text tree.Base.uint = mark_text mark.Uint
base_text (tree.Base.bool_vec n) = mark_text mark.BoolVec ++ decimal n
base_text (tree.Base.int_vec n) = mark_text mark.IntVec ++ decimal n
base_text (tree.Base.uint_vec n) = mark_text mark.UintVec ++ decimal n
base_text (tree.Base.struct w) = w

abbrev pub type_text : TypeName → Text
type_text (type_name b es) = base_text b ++ extents_text es

abbrev pub literal_text : Literal → Text
literal_text (literal.Int n) = decimal n
literal_text (literal.Uint n) = decimal n ++ mark_text mark.Suffix
literal_text (literal.Hex n) = mark_text mark.Hex ++ hex_text n
literal_text (literal.Truth true) = mark_text mark.True
literal_text (literal.Truth false) = mark_text mark.False

abbrev pub op_mark : BinOp → Mark
op_mark op.Add = mark.Add
op_mark op.Sub = mark.Sub
op_mark op.Mul = mark.Mul
op_mark op.Div = mark.Div
op_mark op.Rem = mark.Rem
op_mark op.Shl = mark.Shl
op_mark op.Shr = mark.Shr
op_mark op.And = mark.And
op_mark op.Or = mark.Or
op_mark op.Xor = mark.Xor
op_mark op.Less = mark.Less
op_mark op.LessEqual = mark.LessEqual
op_mark op.Greater = mark.Greater
op_mark op.GreaterEqual = mark.GreaterEqual
op_mark op.Equal = mark.Equal
op_mark op.NotEqual = mark.NotEqual
op_mark op.Both = mark.Both
op_mark op.Either = mark.Either

-- a text that stands bare, or in parentheses
abbrev pub placed_text : Bool → Text → Text
placed_text true w = w
placed_text false w = mark_text mark.Open ++ (w ++ mark_text mark.Close)

abbrev mutual
  pub expr_text : Expr → Text
  expr_text (tree.Expr.literal l) = literal_text l
  expr_text (tree.Expr.name w) = w
  expr_text (tree.Expr.build t args) = type_text t ++ (mark_text mark.Open ++ args_text args)
  expr_text (tree.Expr.call w args) = w ++ (mark_text mark.Open ++ args_text args)
  expr_text (tree.Expr.not e) = mark_text mark.Not ++ placed_text (is_bare unary_level e) (expr_text e)
  expr_text (tree.Expr.flip e) = mark_text mark.Flip ++ placed_text (is_bare unary_level e) (expr_text e)
  expr_text (tree.Expr.binary o a b) = placed_text (is_bare (op_level o) a) (expr_text a) ++ (mark_text (op_mark o) ++ placed_text (is_bare (right_level o) b) (expr_text b))
  expr_text (tree.Expr.choose c a b) = placed_text (is_bare condition_level c) (expr_text c) ++ (mark_text mark.Question ++ (expr_text a ++ (mark_text mark.Otherwise ++ expr_text b)))
  expr_text (tree.Expr.member e w) = placed_text (is_bare 0 e) (expr_text e) ++ (mark_text mark.Dot ++ w)
  expr_text (tree.Expr.index a b) = placed_text (is_bare 0 a) (expr_text a) ++ (mark_text mark.BracketOpen ++ (expr_text b ++ mark_text mark.BracketClose))
  expr_text (tree.Expr.length_of e) = placed_text (is_bare 0 e) (expr_text e) ++ mark_text mark.Length

  -- arguments, and the closing parenthesis
  pub args_text : Exprs → Text
  args_text no_exprs = mark_text mark.Close
  args_text (tree.Exprs.expr e es) = expr_text e ++ more_args_text es

  pub more_args_text : Exprs → Text
  more_args_text no_exprs = mark_text mark.Close
  more_args_text (tree.Exprs.expr e es) = mark_text mark.Comma ++ (expr_text e ++ more_args_text es)

-- an expression where those up to a level stand bare
abbrev pub operand_text : ℕ → Expr → Text
operand_text loosest e = placed_text (is_bare loosest e) (expr_text e)

abbrev pub steps_text : List LStep → Text
steps_text [] = []
steps_text (tree.LStep.member w ∷ s) = mark_text mark.Dot ++ (w ++ steps_text s)
steps_text (tree.LStep.index e ∷ s) = mark_text mark.BracketOpen ++ (expr_text e ++ (mark_text mark.BracketClose ++ steps_text s))

abbrev pub lvalue_text : LValue → Text
lvalue_text (lvalue w s) = w ++ steps_text s

-- the value that a declaration begins with, and the end of the line
abbrev pub start_text : Option Expr → Text
start_text None = mark_text mark.End
start_text (Some e) = mark_text mark.Equals ++ (expr_text e ++ mark_text mark.End)

abbrev pub result_text : Option Expr → Text
result_text None = mark_text mark.ReturnVoid
result_text (Some e) = mark_text mark.Return ++ (expr_text e ++ mark_text mark.End)

abbrev pub label_text : Label → Text
label_text (label.Case l) = mark_text mark.Case ++ (literal_text l ++ mark_text mark.Colon)
label_text label.Default = mark_text mark.Default

abbrev pub labels_text : List Label → Text
labels_text [] = []
labels_text (l ∷ ls) = label_text l ++ labels_text ls

abbrev mutual
  -- a statement on a level
  pub stmt_text : ℕ → Stmt → Text
  stmt_text k (tree.Stmt.declare t w o) = indent_text k ++ (type_text t ++ (mark_text mark.Space ++ (w ++ start_text o)))
  stmt_text k (tree.Stmt.assign l e) = indent_text k ++ (lvalue_text l ++ (mark_text mark.Equals ++ (expr_text e ++ mark_text mark.End)))
  stmt_text k (tree.Stmt.call w args) = indent_text k ++ (w ++ (mark_text mark.Open ++ (args_text args ++ mark_text mark.End)))
  stmt_text k (tree.Stmt.when e a) = indent_text k ++ (mark_text mark.If ++ (expr_text e ++ (mark_text mark.BodyOpen ++ (body_text (suc k) a ++ (indent_text k ++ mark_text mark.BodyClose)))))
  stmt_text k (tree.Stmt.either e a b) = indent_text k ++ (mark_text mark.If ++ (expr_text e ++ (mark_text mark.BodyOpen ++ (body_text (suc k) a ++ (indent_text k ++ (mark_text mark.Else ++ (body_text (suc k) b ++ (indent_text k ++ mark_text mark.BodyClose))))))))
  stmt_text k (tree.Stmt.loop a) = indent_text k ++ (mark_text mark.For ++ (body_text (suc k) a ++ (indent_text k ++ mark_text mark.BodyClose)))
  stmt_text k (tree.Stmt.switch e arms) = indent_text k ++ (mark_text mark.Switch ++ (expr_text e ++ (mark_text mark.BodyOpen ++ (arms_text (suc k) arms ++ (indent_text k ++ mark_text mark.BodyClose)))))
  stmt_text k tree.Stmt.leave = indent_text k ++ mark_text mark.Break
  stmt_text k tree.Stmt.again = indent_text k ++ mark_text mark.Continue
  stmt_text k (tree.Stmt.give o) = indent_text k ++ result_text o

  pub body_text : ℕ → Stmts → Text
  body_text k no_stmts = []
  body_text k (tree.Stmts.stmt s ss) = stmt_text k s ++ body_text k ss

  pub arms_text : ℕ → Arms → Text
  arms_text k no_arms = []
  arms_text k (tree.Arms.arm ls b r) = indent_text k ++ (labels_text ls ++ (mark_text mark.ArmOpen ++ (body_text (suc k) b ++ (indent_text k ++ (mark_text mark.BodyClose ++ arms_text k r)))))

abbrev pub field_text : Field → Text
field_text (field t w) = mark_text mark.Indent ++ (type_text t ++ (mark_text mark.Space ++ (w ++ mark_text mark.End)))

abbrev pub fields_text : List Field → Text
fields_text [] = []
fields_text (f ∷ fs) = field_text f ++ fields_text fs

abbrev pub qual_mark : Qual → Mark
qual_mark qual.Coherent = mark.Coherent
qual_mark qual.Volatile = mark.Volatile
qual_mark qual.Restrict = mark.Restrict
qual_mark qual.Readonly = mark.Readonly
qual_mark qual.Writeonly = mark.Writeonly

abbrev pub quals_text : List Qual → Text
quals_text [] = []
quals_text (q ∷ qs) = mark_text (qual_mark q) ++ quals_text qs

abbrev pub member_text : Member → Text
member_text (tree.Member.member n qs t w) = mark_text mark.Indent ++ (mark_text mark.Offset ++ (decimal n ++ (mark_text mark.OffsetClose ++ (quals_text qs ++ (type_text t ++ (mark_text mark.Space ++ (w ++ mark_text mark.End)))))))

abbrev pub members_text : List Member → Text
members_text [] = []
members_text (m ∷ ms) = member_text m ++ members_text ms

abbrev pub inout_text : Bool → Text
inout_text true = mark_text mark.Inout
inout_text false = []

abbrev pub param_text : Param → Text
param_text (param b t w) = inout_text b ++ (type_text t ++ (mark_text mark.Space ++ w))

abbrev pub more_params_text : List Param → Text
more_params_text [] = []
more_params_text (p ∷ ps) = mark_text mark.Comma ++ (param_text p ++ more_params_text ps)

abbrev pub params_text : List Param → Text
params_text [] = []
params_text (p ∷ ps) = param_text p ++ more_params_text ps

abbrev pub place_text : BlockPlace → Text
place_text (place.Set s b) = mark_text mark.Set ++ (decimal s ++ (mark_text mark.Binding ++ decimal b))
place_text place.Push = mark_text mark.PushConstant

abbrev pub rules_mark : BlockRules → Mark
rules_mark rules.Std430 = mark.Std430
rules_mark rules.Std140 = mark.Std140

abbrev pub kind_mark : Bool → Mark
kind_mark true = mark.Buffer
kind_mark false = mark.Uniform

abbrev pub result_type_text : Option TypeName → Text
result_type_text None = mark_text mark.Void
result_type_text (Some t) = type_text t ++ mark_text mark.Space

abbrev pub const_text : Option ℕ → Text
const_text None = mark_text mark.Const
const_text (Some n) = mark_text mark.ConstantId ++ (decimal n ++ mark_text mark.ConstAfterId)

abbrev pub decl_text : Decl → Text
decl_text (tree.Decl.struct w fs) = mark_text mark.Struct ++ (w ++ (mark_text mark.FieldsOpen ++ (fields_text fs ++ mark_text mark.FieldsClose)))
decl_text (tree.Decl.constant id t w e) = const_text id ++ (type_text t ++ (mark_text mark.Space ++ (w ++ (mark_text mark.Equals ++ (expr_text e ++ mark_text mark.End)))))
decl_text (tree.Decl.shared t w) = mark_text mark.Shared ++ (type_text t ++ (mark_text mark.Space ++ (w ++ mark_text mark.End)))
decl_text (tree.Decl.global t w e) = type_text t ++ (mark_text mark.Space ++ (w ++ (mark_text mark.Equals ++ (expr_text e ++ mark_text mark.End))))
decl_text (tree.Decl.block p r qs buffer w ms instance) = place_text p ++ (mark_text (rules_mark r) ++ (quals_text qs ++ (mark_text (kind_mark buffer) ++ (w ++ (mark_text mark.FieldsOpen ++ (members_text ms ++ (mark_text mark.InstanceOpen ++ (instance ++ mark_text mark.End))))))))
decl_text (tree.Decl.function result w ps body) = result_type_text result ++ (w ++ (mark_text mark.Open ++ (params_text ps ++ (mark_text mark.BodyOpen ++ (body_text 1 body ++ mark_text mark.BodyClose)))))

abbrev pub decls_text : List Decl → Text
decls_text [] = []
decls_text (d ∷ ds) = decl_text d ++ decls_text ds

-- the name of a part of the workgroup's size, of axis 0, 1 or 2
abbrev pub size_mark : ℕ → Bool → Mark
size_mark axis true = if axis == 0 then mark.SizeXId else (if axis == 1 then mark.SizeYId else mark.SizeZId)
size_mark axis false = if axis == 0 then mark.SizeX else (if axis == 1 then mark.SizeY else mark.SizeZ)

abbrev pub size_text : Size → Text
size_text s = mark_text (size_mark s.axis s.by_id) ++ decimal s.number

abbrev pub more_sizes_text : List Size → Text
more_sizes_text [] = []
more_sizes_text (s ∷ ss) = mark_text mark.Comma ++ (size_text s ++ more_sizes_text ss)

abbrev pub sizes_text : List Size → Text
sizes_text [] = []
sizes_text (s ∷ ss) = size_text s ++ more_sizes_text ss

-- the whole text
abbrev pub unit_text : TranslationUnit → Text
unit_text (translation_unit ss ds) = mark_text mark.Version ++ (sizes_text ss ++ (mark_text mark.SizesEnd ++ decls_text ds))
