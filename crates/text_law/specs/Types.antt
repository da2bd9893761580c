-- What is asked of the types that a text names: each has a shape, and its structs are declared in the text.
use Rattle.std.specs.Prelude.{◌≡◌, ℕ, false, List, Some}
use Rattle.spv_module.specs.declared.inst.Id.{Id}
use Rattle.spv_module.specs.declared.inst.Function.{Function}
use Rattle.spv_types.specs.Tree.{Tree}
use Rattle.spv_types.specs.Types.{type_tree}
use Rattle.spv_types.specs.Leaves.{IsSized}
use Rattle.profile_rules.specs.declared.given.Given.{Given}
use Rattle.name_alloc.specs.declared.claims.Key.{Key}
use Rattle.glsl_ast.specs.Tree.{Text}
use Rattle.glsl_semantics.specs.Expressions.{Program}
use Rattle.text_rules.specs.Declarations.{pointee_at}
use Rattle.expr_forward.specs.Statements.{is_void_in}
use Rattle.module_semantics.specs.Setting.{Setting}
use Rattle.global_law.specs.Sources.{source_of}
use Rattle.global_law.specs.Names.{IsDeclared}
use Rattle.typed_law.specs.Conforms.{IsParameter}

module _ (p : Program) (s : Setting) (overrides : List (ℕ × Given)) (key : Key → Text) where
  pub record IsTypeOfText (ty : ℕ) : Type 0 where
    pub shape : Tree
    pub is : type_tree s.of.globals ty ≡ Some shape
    pub sized : IsSized shape
    pub declared : IsDeclared p s (source_of s overrides) key shape

  -- of what the parameters of a function are, or point to, and of its result
  pub record HasTypesOfText (f : Function) : Type 0 where
    pub parameters : (q : Id × Id) → IsParameter q f.params → IsTypeOfText (pointee_at (source_of s overrides) q.1.0)
    pub result : is_void_in s.of.globals f.result.0 ≡ false → IsTypeOfText f.result.0
