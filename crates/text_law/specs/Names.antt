-- The names of a function's text by ids, from what is planned of the function: the names that are given to keys, and the types of what has them.
use Rattle.std.specs.Prelude.{ℕ, ◌-◌, ◌==◌, ◌&&◌, ◌||◌, not, Bool, true, false, List, [], drop, length, map, Option, Some, None, bytes_eq, unwrap_or, if◌then◌else◌, slice_index}
use Rattle.std.specs.Option.{option_map_or}
use Rattle.std.specs.List.{list_any}
use Rattle.spv_ops.specs.Opcode.{is}
use Rattle.spv_ops.specs.Groups.{is_chain}
use Rattle.spv_ops.specs.declared.Op.TheVariants as code
use Rattle.spv_module.specs.Held.{global}
use Rattle.spv_module.specs.Lists.{id}
use Rattle.spv_module.specs.declared.inst.Inst.{Inst}
use Rattle.spv_module.specs.declared.inst.Function.{Function}
use Rattle.spv_index.specs.Locals.{inst_in, type_in}
use Rattle.structure_rules.specs.declared.graph.Node.{Node}
use Rattle.profile_rules.specs.declared.given.Given.{Given}
use Rattle.profile_rules.specs.MemoryRules.{is_pointer, is_own_memory}
use Rattle.hoist_plan.specs.declared.form.Form.{Form}
use Rattle.hoist_plan.specs.declared.form.Form.TheVariants.{Local}
use Rattle.access_paths.specs.Ways.{captured_indexes}
use Rattle.name_alloc.specs.declared.claims.Key.{Key}
use Rattle.name_alloc.specs.declared.claims.Key.TheVariants.{Id, Captured}
use Rattle.name_alloc.specs.Reserved.{has_prefix}
use Rattle.glsl_ast.specs.Tree.{Text}
use Rattle.glsl_semantics.specs.Shapes.{Shape}
use Rattle.text_rules.specs.Constants.{Source}
use Rattle.text_rules.specs.Printed.{Reached, is_private, is_written_variable, is_declared_constant}
use Rattle.text_rules.specs.Declarations.{shape_at, pointee_at}
use Rattle.expr_forward.specs.Statements.{is_void_in}
use Rattle.function_plan.specs.Planned.{is_named_in}
use Rattle.function_text.specs.Functions.{FunctionPlan, written, is_hoisted, param_text, result_type, function_name, body_text}
use Rattle.module_semantics.specs.Setting.{Setting}
use Rattle.agree_law.specs.Agree.{Naming}
use Rattle.call_law.specs.Known.{is_parameter}
use Rattle.function_law.specs.Texts.{FunctionText}
use Rattle.global_law.specs.Parts.{shape_in}
use Rattle.global_law.specs.Walks.{struct_names}
use Rattle.global_law.specs.Sources.{source_of}

-- an instruction gives it that is no OpVariable and no chain: what it gives is no pointer
abbrev pub is_other : Inst → Bool
is_other i = not (is i.op code.Variable || is_chain i.op)

abbrev pub is_result : Function → ℕ → Bool
is_result f n = option_map_or is_other (inst_in f n) false

-- parameters: values, and pointers; and the variables of a function
abbrev pub is_value_parameter : List Inst → Function → ℕ → Bool
is_value_parameter gs f n = is_parameter f n && not (is_pointer gs f n)

abbrev pub is_lent_name : List Inst → Function → ℕ → Bool
is_lent_name gs f n = is_parameter f n && is_pointer gs f n

abbrev pub is_variable_name : Function → ℕ → Bool
is_variable_name f n = not (is_parameter f n) && is_own_memory f n

abbrev pub is_local_form : Form → Bool
is_local_form Local = true
is_local_form _ = false

-- r: what is written of the module's functions; key: the names of keys
module _ (s : Setting) (overrides : List (ℕ × Given)) (r : Reached) (key : Key → Text) where
  abbrev pub source : Source
  source = source_of s overrides

  -- the type of a shape with this id
  abbrev pub shape_of : ℕ → Shape
  shape_of ty = shape_in s (struct_names key) (shape_at source ty)

  -- a Private variable that is written
  abbrev pub is_written_private : Inst → Bool
  is_written_private g = is_private g && is_written_variable r g

  abbrev pub is_private_name : ℕ → Bool
  is_private_name n = option_map_or is_written_private (global s.of.globals n) false

  -- constants that are declared, and other variables that are written
  abbrev pub is_outer_global : Inst → Bool
  is_outer_global g = is_declared_constant source r g || (is_written_variable r g && not (is_private g))

  abbrev pub has_text : Text → Inst → Bool
  has_text x g = is_outer_global g && bytes_eq (key (Id (id g.result))) x

  -- what stands outside of functions: what is built in, and these
  abbrev pub is_outside_name : Text → Bool
  is_outside_name x = has_prefix x || list_any (has_text x) s.of.globals

  -- of a function with its control-flow graph: the forms of its values, and which chains are mentioned in other blocks
  module _ (f : Function) (g : List Node) (form : ℕ → Form) (carried : ℕ → Bool) where
    -- value parameters and results that are declared at the top; and results that are declared in a reached block
    abbrev pub is_outer_name : ℕ → Bool
    is_outer_name n = is_value_parameter s.of.globals f n || (is_hoisted (form n) && is_result f n)

    abbrev pub is_local_name : ℕ → Bool
    is_local_name n = is_local_form (form n) && (is_result f n && is_named_in form g f.blocks n)

    -- the indexes that are kept of a chain, with their numbers
    abbrev pub kept_of : Inst → List (ℕ × ℕ)
    kept_of i = if is_chain i.op && carried i.result then captured_indexes s.of.globals i else []

    abbrev pub keeps : ℕ → Inst → Bool
    keeps k i = list_any (λ (n : ℕ × ℕ). n.0 == k) (kept_of i)

    abbrev pub is_kept_name : ℕ → ℕ → Bool
    is_kept_name q k = option_map_or (keeps k) (inst_in f q) false

    -- the value's type, or the type of what it points to
    abbrev pub data_type : ℕ → ℕ
    data_type n = pointee_at source (unwrap_or (type_in s.of.globals f n) 0)

    -- the index of a chain with a number, and that which a path has there: indexes stand at its end
    abbrev pub index_id : ℕ → Inst → ℕ
    index_id k i = slice_index (drop 1 i.args) k

    abbrev pub index_at : ℕ → List ℕ → Inst → ℕ
    index_at k path i = slice_index (drop (length path - length (drop 1 i.args)) path) k

    abbrev pub result_of : Option Shape
    result_of = if is_void_in s.of.globals f.result.0 then None else Some (shape_of f.result.0)

    abbrev pub names_by : Naming
    names_by = record {
      name = λ n. key (Id (id n));
      index_name = λ q k. key (Captured (id q) k);
      shape = λ n. shape_of (data_type n);
      index_shape = λ q k. shape_of (unwrap_or (type_in s.of.globals f (option_map_or (index_id k) (inst_in f q) 0)) 0);
      is_outer = is_outer_name;
      is_local = is_local_name;
      is_variable = is_variable_name f;
      is_lent = is_lent_name s.of.globals f;
      is_private = is_private_name;
      is_kept = is_kept_name;
      is_outside = is_outside_name;
      index_in = λ q k path. option_map_or (index_at k path) (inst_in f q) 0;
      result = result_of;
    }

  -- of a planned function
  abbrev pub names_of : FunctionPlan → Naming
  names_of p = names_by (written p) p.graph p.scope.form p.scope.carried

  -- and its text
  abbrev pub text_of_plan : FunctionPlan → FunctionText
  text_of_plan p = record {
    name = function_name p.scope;
    result = result_type p.scope;
    parameters = map (param_text p.scope) (written p).params;
    statements = body_text p;
    function = written p;
    naming = names_of p;
  }
