-- The plain tree that a value of the code's types stands for.
use Rattle.std.specs.Prelude.{List, Some, None, map, option_map}
use Rattle.std.specs.Rc.{rc_str_bytes}
use Rattle.glsl_ast.specs.Short.{short_text}
use Rattle.glsl_ast.specs.Tree as tree
use Rattle.glsl_ast.specs.declared.names.Name.{Name}
use Rattle.glsl_ast.specs.declared.names.Name.TheVariants as name
use Rattle.glsl_ast.specs.declared.types.Base.{Base}
use Rattle.glsl_ast.specs.declared.types.Base.TheVariants as base
use Rattle.glsl_ast.specs.declared.types.Extent.{Extent}
use Rattle.glsl_ast.specs.declared.types.Extent.TheVariants as extent
use Rattle.glsl_ast.specs.declared.types.TypeName.{TypeName}
use Rattle.glsl_ast.specs.declared.expressions.Expr.{Expr, fold-Expr}
use Rattle.glsl_ast.specs.declared.expressions.Expr.TheOpen.{Expr-F}
use Rattle.glsl_ast.specs.declared.statements.LStep.{LStep}
use Rattle.glsl_ast.specs.declared.statements.LStep.TheVariants as step
use Rattle.glsl_ast.specs.declared.statements.LValue.{LValue}
use Rattle.glsl_ast.specs.declared.statements.Stmt.{Stmt, fold-Stmt}
use Rattle.glsl_ast.specs.declared.statements.Arm.{Arm, fold-Arm}
use Rattle.glsl_ast.specs.declared.statements.Stmt.TheOpen.{Stmt-F, Arm-F}
use Rattle.glsl_ast.specs.declared.items.Field.{Field}
use Rattle.glsl_ast.specs.declared.items.Member.{Member}
use Rattle.glsl_ast.specs.declared.items.Param.{Param}
use Rattle.glsl_ast.specs.declared.items.Decl.{Decl}
use Rattle.glsl_ast.specs.declared.items.Decl.TheVariants as decl
use Rattle.glsl_ast.specs.declared.items.Unit.{Unit as Whole}

-- the bytes of a name
abbrev pub name_text : Name → tree.Text
name_text (name.Short w) = short_text w
name_text (name.Long w) = rc_str_bytes w

abbrev pub base_of : Base → tree.Base
base_of base.Bool = tree.boolean
base_of base.Int = tree.int
base_of base.Uint = tree.uint
base_of (base.BoolVec n) = tree.bool_vec n
base_of (base.IntVec n) = tree.int_vec n
base_of (base.UintVec n) = tree.uint_vec n
base_of (base.Struct w) = tree.Base.struct (name_text w)

abbrev pub extent_of : Extent → tree.Extent
extent_of extent.Open = tree.open_end
extent_of (extent.Number n) = tree.number n
extent_of (extent.Name w) = tree.named (name_text w)
extent_of (extent.Size w) = tree.size (name_text w)

abbrev pub type_of : TypeName → tree.TypeName
type_of t = tree.type_name (base_of t.base) (map extent_of t.extents.items)

abbrev pub expr_step : Expr-F tree.Expr → tree.Expr
expr_step (Expr-F.Literal l) = tree.literal l
expr_step (Expr-F.Name w) = tree.name (name_text w)
expr_step (Expr-F.Build parts) = tree.build (type_of parts.value.0) (tree.exprs_in parts.value.1.items)
expr_step (Expr-F.Call parts) = tree.Expr.call (name_text parts.value.0) (tree.exprs_in parts.value.1.items)
expr_step (Expr-F.Not e) = tree.not e.value
expr_step (Expr-F.Flip e) = tree.flip e.value
expr_step (Expr-F.Binary op parts) = tree.binary op parts.value.0 parts.value.1
expr_step (Expr-F.Choose c parts) = tree.choose c.value parts.value.0 parts.value.1
expr_step (Expr-F.Member parts) = tree.Expr.member parts.value.0 (name_text parts.value.1)
expr_step (Expr-F.Index a b) = tree.Expr.index a.value b.value
expr_step (Expr-F.Length e) = tree.length_of e.value

abbrev pub expr_of : Expr → tree.Expr
expr_of = fold-Expr tree.Expr expr_step

abbrev pub exprs_of : List Expr → tree.Exprs
exprs_of l = tree.exprs_in (map expr_of l)

abbrev pub step_of : LStep → tree.LStep
step_of (step.Member w) = tree.LStep.member (name_text w)
step_of (step.Index e) = tree.LStep.index (expr_of e)

abbrev pub lvalue_of : LValue → tree.LValue
lvalue_of l = tree.lvalue (name_text l.name) (map step_of l.steps.items)

abbrev pub stmt_step : Stmt-F tree.Stmt tree.Arm → tree.Stmt
stmt_step (Stmt-F.Declare t w value) = tree.declare (type_of t) (name_text w) (option_map expr_of value)
stmt_step (Stmt-F.Assign l e) = tree.assign (lvalue_of l) (expr_of e)
stmt_step (Stmt-F.Call w args) = tree.Stmt.call (name_text w) (exprs_of args.items)
stmt_step (Stmt-F.If e a None) = tree.when (expr_of e) (tree.stmts_in a.items)
stmt_step (Stmt-F.If e a (Some b)) = tree.either (expr_of e) (tree.stmts_in a.items) (tree.stmts_in b.items)
stmt_step (Stmt-F.For a) = tree.loop (tree.stmts_in a.items)
stmt_step (Stmt-F.Switch e arms) = tree.switch (expr_of e) (tree.arms_in arms.items)
stmt_step Stmt-F.Break = tree.leave
stmt_step Stmt-F.Continue = tree.again
stmt_step (Stmt-F.Return value) = tree.give (option_map expr_of value)

abbrev pub arm_step : Arm-F tree.Stmt tree.Arm → tree.Arm
arm_step a = tree.group a.labels.items (tree.stmts_in a.body.items)

abbrev pub stmt_of : Stmt → tree.Stmt
stmt_of = fold-Stmt tree.Stmt tree.Arm stmt_step arm_step

abbrev pub arm_of : Arm → tree.Arm
arm_of = fold-Arm tree.Stmt tree.Arm stmt_step arm_step

abbrev pub stmts_of : List Stmt → tree.Stmts
stmts_of l = tree.stmts_in (map stmt_of l)

abbrev pub arms_of : List Arm → tree.Arms
arms_of l = tree.arms_in (map arm_of l)

abbrev pub field_of : Field → tree.Field
field_of f = tree.field (type_of f.ty) (name_text f.name)

abbrev pub member_of : Member → tree.Member
member_of m = tree.Member.member m.offset m.quals.items (type_of m.ty) (name_text m.name)

abbrev pub param_of : Param → tree.Param
param_of p = tree.param p.inout (type_of p.ty) (name_text p.name)

abbrev pub decl_of : Decl → tree.Decl
decl_of (decl.Struct w fields) = tree.Decl.struct (name_text w) (map field_of fields.items)
decl_of (decl.Const id ty w value) = tree.constant id (type_of ty) (name_text w) (expr_of value)
decl_of (decl.Shared ty w) = tree.shared (type_of ty) (name_text w)
decl_of (decl.Global ty w value) = tree.global (type_of ty) (name_text w) (expr_of value)
decl_of (decl.Block place rules quals buffer w members instance) = tree.block place rules quals.items buffer (name_text w) (map member_of members.items) (name_text instance)
decl_of (decl.Function result w params body) = tree.function (option_map type_of result) (name_text w) (map param_of params.items) (stmts_of body.items)

abbrev pub unit_of : Whole → tree.TranslationUnit
unit_of u = tree.translation_unit u.sizes.items (map decl_of u.items.items)
