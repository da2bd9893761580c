-- What contracts see of what is known where a function is written.
use Rattle.std.specs.Prelude.{ℕ, [], map, unwrap_or}
use Rattle.spv_module.specs.Lists.{id}
use Rattle.spv_module.specs.declared.inst.Function.{Function}
use Rattle.name_alloc.specs.declared.claims.Key.{Key}
use Rattle.name_alloc.specs.declared.claims.Key.TheVariants.{Block, Member}
use Rattle.name_alloc.specs.declared.claims.Names.{Names as Given}
use Rattle.name_alloc.specs.Lookup.{name_in}
use Rattle.hoist_plan.specs.Kept.{NamingState, form_in, is_carried_in}
use Rattle.glsl_ast.specs.Tree.{Expr, Text, literal}
use Rattle.int_lowering.specs.declared.basic.BasicType.{BasicType}
use Rattle.int_lowering.specs.Operand.{Operand, basic_type}
use Rattle.glsl_ast.specs.declared.expressions.Literal.TheVariants.{Uint}
use Rattle.vec_lowering.specs.Composite as composite
use Rattle.vec_lowering.specs.Named.{naming_of}
use Rattle.vec_lowering.specs.Lowered.{lowered_vector}
use Rattle.text_rules.specs.Constants.{Source}
use Rattle.text_rules.specs.Declarations.{Names}
use Rattle.text_rules.specs.Outlines.{basic}
use Rattle.constant_text.specs.Named.{id_names}
use Rattle.expr_forward.specs.Scope.{Setting, Scope, Argument, globals}
use Rattle.expr_forward.specs.Globals.{global_in}
use Rattle.expr_forward.specs.Values.{argument}
use Rattle.expr_forward.specs.declared.globals.Globals.{Globals}

pub record ContextState : Type 0 where
  pub source : Source
  pub function : Function
  pub names : Given
  pub globals : Globals
  pub plan : NamingState

-- the name of a key; that of one that was not claimed is empty
abbrev pub key_text : Given → Key → Text
key_text names key = unwrap_or (name_in names key) []

-- no expression here mentions the constants that are calculated but by name
abbrev pub all_names : Given → Names
all_names names = record {
  id = id_names names;
  block = λ v s. key_text names (Block (id v) (id s));
  member = λ s k. key_text names (Member (id s) k);
  calculated = λ g. literal (Uint 0);
}

-- an operand, as the lowering of operations takes it
abbrev pub operand : Argument → composite.Argument
operand a = record { of = a.expr; shape = a.shape; word = a.word }

-- the type of the values of a scalar or vector type
abbrev pub basic_in : Scope → ℕ → BasicType
basic_in w ty = basic_type (basic (globals w) ty)

-- an operand of an operation that is written with an operator, where values are written so
abbrev pub read_operand : Scope → (ℕ → Expr) → ℕ → Operand
read_operand w value n = composite.operand (operand (argument w value n))

-- what is known where a pointer is written
abbrev pub setting_of : ContextState → Setting
setting_of c = record { source = c.source; function = c.function; key = key_text c.names; global = global_in c.globals }

-- and where a block is written
abbrev pub scope_of : ContextState → Scope
scope_of c = record {
  setting = setting_of c;
  form = form_in c.plan;
  carried = is_carried_in c.plan;
  names = all_names c.names;
  lowered = λ o number t args literals. lowered_vector (naming_of c.names) o number t literals (map operand args);
}
