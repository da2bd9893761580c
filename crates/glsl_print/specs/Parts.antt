-- The texts of parts of statements.
use Rattle.std.specs.Prelude.{ℕ, zero, suc, ◌++◌, Bool, true, false, List, [], Option, Some, None, Vec}
use Rattle.std.specs.Fmt.{decimal}
use Rattle.std.specs.Global.{Global}
use Rattle.glsl_ast.specs.Tree as tree
use Rattle.glsl_ast.specs.Tree.{Text, TypeName, Expr, Exprs, LStep, Stmts, Arm, group, Member, Param}
use Rattle.glsl_ast.specs.Size.{stmts_size}
use Rattle.glsl_ast.specs.View.{stmts_of}
use Rattle.glsl_ast.specs.declared.statements.Stmt.{Stmt}
use Rattle.glsl_ast.specs.declared.items.BlockPlace.{BlockPlace}
use Rattle.glsl_ast.specs.declared.items.BlockRules.{BlockRules}
use Rattle.glsl_ast.specs.declared.items.Qual.{Qual}
use Rattle.glsl_grammar.specs.declared.marks.Mark.{Mark}
use Rattle.glsl_grammar.specs.declared.marks.Mark.TheVariants as mark
use Rattle.glsl_grammar.specs.Marks.{mark_text}
use Rattle.glsl_grammar.specs.Layout.{type_text, expr_text, args_text, more_args_text, indent_text, labels_text, body_text, quals_text, place_text, rules_mark, kind_mark, members_text, params_text}

abbrev pub step_text : LStep → Text
step_text (tree.LStep.member w) = mark_text mark.Dot ++ w
step_text (tree.LStep.index e) = mark_text mark.BracketOpen ++ (expr_text e ++ mark_text mark.BracketClose)

-- a body whose braces stand on a level, but for what stands before it on its first line
abbrev pub inner_text : ℕ → Stmts → Text
inner_text k b = body_text (suc k) b ++ (indent_text k ++ mark_text mark.BodyClose)

abbrev pub else_text : ℕ → Option Stmts → Text
else_text k None = mark_text mark.BodyClose
else_text k (Some b) = mark_text mark.Else ++ inner_text k b

abbrev pub if_text : ℕ → Expr → Stmts → Option Stmts → Text
if_text k e a b = mark_text mark.If ++ (expr_text e ++ (mark_text mark.BodyOpen ++ (body_text (suc k) a ++ (indent_text k ++ else_text k b))))

abbrev pub body_of : Vec Stmt Global → Stmts
body_of body = stmts_of body.items

abbrev pub arm_text : ℕ → Arm → Text
arm_text k (group ls b) = indent_text k ++ (labels_text ls ++ (mark_text mark.ArmOpen ++ inner_text k b))

-- a fixed piece that an expression has unless it stands bare
abbrev pub text_unless : Bool → Mark → Text
text_unless true m = []
text_unless false m = mark_text m

-- what stands before the part at this index of a list
abbrev pub separator_text : ℕ → Text
separator_text zero = []
separator_text (suc i) = mark_text mark.Comma

-- the arguments from an index on, and the closing parenthesis
abbrev pub args_from : ℕ → Exprs → Text
args_from zero es = args_text es
args_from (suc i) es = more_args_text es

-- a type and a name
abbrev pub named_text : TypeName → Text → Text
named_text t w = type_text t ++ (mark_text mark.Space ++ w)

-- a type and a name, and the end of the line
abbrev pub line_text : TypeName → Text → Text
line_text t w = type_text t ++ (mark_text mark.Space ++ (w ++ mark_text mark.End))

-- a value behind a fixed piece, and the end of the line
abbrev pub value_text : Mark → Expr → Text
value_text m e = mark_text m ++ (expr_text e ++ mark_text mark.End)

-- a block up to its name
abbrev pub memory_text : BlockPlace → BlockRules → List Qual → Bool → Text
memory_text p r qs buffer = place_text p ++ (mark_text (rules_mark r) ++ (quals_text qs ++ mark_text (kind_mark buffer)))

-- the end of a block
abbrev pub instance_text : Text → Text
instance_text w = mark_text mark.InstanceOpen ++ (w ++ mark_text mark.End)

-- a block from its name on
abbrev pub block_text : Text → List Member → Text → Text
block_text w ms instance = w ++ (mark_text mark.FieldsOpen ++ (members_text ms ++ instance_text instance))

-- a function's name and parameters, up to its body
abbrev pub head_text : Text → List Param → Text
head_text w ps = w ++ (mark_text mark.Open ++ (params_text ps ++ mark_text mark.BodyOpen))

-- the offset of a member, on a line of its own
abbrev pub offset_text : ℕ → Text
offset_text n = mark_text mark.Indent ++ (mark_text mark.Offset ++ (decimal n ++ mark_text mark.OffsetClose))

abbrev pub else_size : Option Stmts → ℕ
else_size None = 0
else_size (Some b) = stmts_size b
