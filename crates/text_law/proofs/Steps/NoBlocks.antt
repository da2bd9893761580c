-- What a type is that values have: no block. So it is of what a load or a store is of, and of what an atomic instruction is.
use Rattle.std.proofs.Common.{◌≡◌, ℕ, false, List, [], Option, Some, subst}
use Rattle.spv_module.specs.declared.inst.Function.{Function}
use Rattle.spv_types.specs.Tree as plain
use Rattle.spv_types.specs.Tree.{Tree}
use Rattle.spv_types.specs.Types.{type_tree}
use Rattle.spv_index.specs.BlockStructs.{is_block}
use Rattle.spv_index.specs.ValueTypes.{is_no_value_type}
use Rattle.profile_rules.specs.declared.given.Given.{Given}
use Rattle.traces.specs.Outcomes.{Result}
use Rattle.module_semantics.specs.Setting.{Setting}
use Rattle.module_semantics.specs.State.{own, Conf}
use Rattle.name_alloc.specs.declared.claims.Key.{Key}
use Rattle.glsl_ast.specs.Tree.{Text, Expr}
use Rattle.glsl_semantics.specs.Shapes.{Typed}
use Rattle.glsl_semantics.specs.States.{State}
use Rattle.glsl_semantics.specs.Expressions.{Program, Argument}
use Rattle.fits_law.proofs.Steps.{named}
use Rattle.type_law.specs.Shaped.{AreConstants}
use Rattle.global_law.proofs.Path.Walks.{IsNoBlock}
use Rattle.typed_law.specs.Conforms.{IsConforming}
use Rattle.global_law.specs.Within.{IsWithin}
use Rattle.global_law.specs.Within as within
use Rattle.global_law.proofs.Constant.Within.{value_within}

module _ (s : Setting) (entry : Option (List ℕ)) (right : IsConforming s.of entry) (program : Program) (calls : Text → List Argument → State → Result (Option Typed × State)) (overrides : List (ℕ × Given)) (f : Function) (key : Key → Text) (globals : ℕ → Option Expr) (constants : AreConstants s) (c : Conf) (z : State) where
  abbrev NoBlock : Tree → Type 0
  NoBlock t = IsNoBlock program calls z s overrides f key globals constants c [] [] (own 0) t

  no_block_by : (n : ℕ) (t : Tree) → IsWithin (within.IsNoBlock s.of) s.of n t → NoBlock t
  no_block_by n plain.boolean w = tt
  no_block_by n plain.int w = tt
  no_block_by n plain.uint w = tt
  no_block_by n (plain.vector e k) w = tt
  no_block_by n (plain.array t l) w = tt
  no_block_by n (plain.runtime t) w = tt
  no_block_by n (plain.struct k ts) w = subst (λ (x : ℕ). is_block s.of.heads x ≡ false) (named s.of.globals k w.0.inst w.0.there) w.0.asked

  -- the law
  pub value_no_block : (ty : ℕ) (t : Tree) → is_no_value_type s.of.heads s.of.globals ty ≡ false → type_tree s.of.globals ty ≡ Some t → NoBlock t
  value_no_block ty t value shaped = let w = value_within s.of entry right ty t value shaped in no_block_by w.0 t w.1
