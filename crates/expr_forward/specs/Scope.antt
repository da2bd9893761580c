-- What is known where a block of a function is written.
use Rattle.std.specs.Prelude.{ℕ, Bool, List, Option, unwrap_or}
use Rattle.spv_ops.specs.declared.Op.{Op}
use Rattle.spv_module.specs.Held.{global}
use Rattle.spv_module.specs.declared.inst.Inst.{Inst}
use Rattle.spv_module.specs.declared.inst.Function.{Function}
use Rattle.spv_types.specs.Tree.{Tree}
use Rattle.spv_index.specs.Locals.{inst_in, type_in}
use Rattle.name_alloc.specs.declared.claims.Key.{Key}
use Rattle.hoist_plan.specs.declared.form.Form.{Form}
use Rattle.glsl_ast.specs.Tree.{Text, Expr}
use Rattle.text_rules.specs.Constants.{Source}
use Rattle.text_rules.specs.Declarations.{Names}

-- an operand of an operation: its expression, its shape, and its word where it is a scalar integer constant that is written as a literal
pub record Argument : Type 0 where
  pub expr : Expr
  pub shape : Tree
  pub word : Option ℕ

-- the module and the function; the names of keys; and the expressions of constants and of what is built in
pub record Setting : Type 0 where
  pub source : Source
  pub function : Function
  pub key : Key → Text
  pub global : ℕ → Option Expr

-- these; the forms of the function's values, and which chains are mentioned in other blocks than their own; the names of types; and how an operation is written, from its opcode, its number where it is an extended one, the shape of its result, its operands and its literals
pub record Scope : Type 0 where
  pub setting : Setting
  pub form : ℕ → Form
  pub carried : ℕ → Bool
  pub names : Names
  pub lowered : Op → ℕ → Tree → List Argument → List ℕ → Expr

abbrev pub globals_in : Setting → List Inst
globals_in w = w.source.of.globals

abbrev pub globals : Scope → List Inst
globals w = globals_in w.setting

abbrev pub inst_at : Scope → ℕ → Option Inst
inst_at w n = inst_in w.setting.function n

-- the type of a value
abbrev pub type_of : Scope → ℕ → ℕ
type_of w n = unwrap_or (type_in (globals w) w.setting.function n) 0
