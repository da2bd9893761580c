-- How a pointer is written at a moment of a run: by what it begins with, or as a chain, further than its base.
use Rattle.std.specs.Prelude.{◌≡◌, ◌⊎◌, ◌<◌, ◌++◌, ℕ, true, List, drop, Option, Some}
use Rattle.spv_module.specs.declared.inst.Inst.{Inst}
use Rattle.spv_module.specs.declared.inst.Function.{Function}
use Rattle.spv_types.specs.Tree.{Tree}
use Rattle.spv_types.specs.Types.{type_tree}
use Rattle.spv_index.specs.Pointers.{pointee_of}
use Rattle.profile_rules.specs.declared.given.Given.{Given}
use Rattle.traces.specs.Outcomes.{Result}
use Rattle.module_semantics.specs.Setting.{Setting}
use Rattle.module_semantics.specs.Memory.{type_along, are_allowed}
use Rattle.module_semantics.specs.State.{Root, Conf}
use Rattle.module_semantics.specs.Operands.{pointer_at}
use Rattle.name_alloc.specs.declared.claims.Key.{Key}
use Rattle.access_paths.specs.Ways.{base, spot_of, chain_steps, start, further, path}
use Rattle.glsl_ast.specs.Tree.{Text, Expr}
use Rattle.glsl_semantics.specs.Shapes.{Typed}
use Rattle.glsl_semantics.specs.States.{State}
use Rattle.glsl_semantics.specs.Expressions.{Program, Argument}
use Rattle.agree_law.specs.Agree.{Naming}
use Rattle.global_law.specs.Parts.{HasMembersApart}
use Rattle.global_law.specs.Walks.{writing, struct_names, AreIndexes, ByConstants}
use Rattle.global_law.specs.Starts.{IsStart}

module _ (p : Program) (calls : Text → List Argument → State → Result (Option Typed × State)) (z : State) (m : Naming) (s : Setting) (overrides : List (ℕ × Given)) (f : Function) (key : Key → Text) (globals : ℕ → Option Expr) (c : Conf) (b : ℕ) where
  -- no chain makes it: it is a variable or a parameter
  pub record BeginsAs (n : ℕ) : Type 0 where
    pub way : path s.of.globals f b n ≡ start n
    pub type : ℕ
    pub shape : Tree
    pub points_to : pointee_of s.of.globals f n ≡ Some type
    pub typed_as : type_tree s.of.globals type ≡ Some shape
    pub members : HasMembersApart (struct_names key) shape
    pub is : (r : Root) (at : List ℕ) → pointer_at s c.top n ≡ Some (r, at) → IsStart p m s (writing s overrides f key globals).source key globals c n shape r at

  -- where a chain leads: from where its base leads, by indexes that are written, to the type of which its own pointer is
  pub record IsLedBy (i : Inst) (stands n : ℕ) (r : Root) (at : List ℕ) : Type 0 where
    pub from : List ℕ
    pub indexes : List ℕ
    pub base_is : pointer_at s c.top (base i) ≡ Some (r, from)
    pub whole : at ≡ from ++ indexes
    pub type : ℕ
    pub points_to : pointee_of s.of.globals f (base i) ≡ Some type
    pub allowed : are_allowed s type indexes ≡ true
    pub says : AreIndexes p calls z (writing s overrides f key globals) (spot_of b (stands, i)) 0 (drop 1 i.args) indexes
    pub by_constants : ByConstants s type (drop 1 i.args) indexes
    pub reaches : pointee_of s.of.globals f n ≡ Some (type_along s type indexes)

  -- rank: chains stand behind their bases; which pointers may be written here: with a chain its base
  module _ (rank : ℕ → ℕ) (IsUsable : ℕ → Type 0) where
    pub record GoesOn (n : ℕ) : Type 0 where
      pub by : Inst
      pub stands : ℕ
      pub way : path s.of.globals f b n ≡ further (path s.of.globals f b (base by)) (chain_steps s.of.globals f (spot_of b (stands, by)) by)
      pub lower : rank (base by) < rank n
      pub usable : IsUsable (base by)
      pub leads : (r : Root) (at : List ℕ) → pointer_at s c.top n ≡ Some (r, at) → IsLedBy by stands n r at

    abbrev pub Written : ℕ → Type 0
    Written n = BeginsAs n ⊎ GoesOn n
