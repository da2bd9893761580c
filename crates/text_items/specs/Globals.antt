-- How constants and built-in variables are read (SPIR-V 1.6, section 3.21; GLSL 4.60, section 7.1.3).
use Rattle.std.specs.Prelude.{ℕ, ◌==◌, ◌&&◌, Bool, Option, Some, None, codes, if◌then◌else◌, slice_index, unwrap_or}
use Rattle.spv_ops.specs.Opcode.{is}
use Rattle.spv_ops.specs.Enumerants.{built_in_of_number, class_number, decoration_number}
use Rattle.spv_ops.specs.declared.BuiltIn.{BuiltIn}
use Rattle.spv_ops.specs.declared.BuiltIn.TheVariants as built
use Rattle.spv_ops.specs.declared.Decoration.TheVariants as decoration
use Rattle.spv_ops.specs.declared.Op.TheVariants as code
use Rattle.spv_ops.specs.declared.StorageClass.TheVariants as storage
use Rattle.spv_module.specs.declared.inst.Inst.{Inst}
use Rattle.spv_decor.specs.Rows.{value_of}
use Rattle.glsl_ast.specs.Tree.{Text, Expr, name}
use Rattle.text_rules.specs.Constants.{Source, is_constant, constant_expr}

-- the name of what is built in; what else a variable is decorated with counts as LocalInvocationIndex
abbrev pub built_in_name : Option BuiltIn → Text
built_in_name (Some built.NumWorkgroups) = codes "gl_NumWorkGroups"
built_in_name (Some built.WorkgroupId) = codes "gl_WorkGroupID"
built_in_name (Some built.LocalInvocationId) = codes "gl_LocalInvocationID"
built_in_name (Some built.GlobalInvocationId) = codes "gl_GlobalInvocationID"
built_in_name _ = codes "gl_LocalInvocationIndex"

-- by its number
abbrev pub built_in_text : ℕ → Text
built_in_text n = built_in_name (built_in_of_number n)

-- a variable of class Input
abbrev pub is_input : Inst → Bool
is_input g = (is g.op code.Variable) && (slice_index g.args 0 == class_number storage.Input)

-- the expression of a constant, and of a variable that is built in, where ids have these names
abbrev pub global_by : Source → (ℕ → Text) → Inst → Option Expr
global_by s ids g =
    if is_constant g then Some (constant_expr s ids g) else
    (if is_input g then Some (name (built_in_text (unwrap_or (value_of s.of.heads g.result (decoration_number decoration.BuiltIn)) 0))) else None)
