-- Block variables whose blocks take a layout.
use Rattle.std.specs.Prelude.{ℕ, ◌≡◌, Some}
use Rattle.spv_module.specs.Held.{global}
use Rattle.spv_module.specs.declared.inst.Inst.{Inst}
use Rattle.spv_types.specs.Tree.{Tree, Trees, struct}
use Rattle.spv_types.specs.Types.{type_tree}
use Rattle.layout_rules.specs.declared.Kind.{Kind}
use Rattle.layout_rules.specs.Blocks.{kind_at}
use Rattle.module_semantics.specs.Setting.{Setting}
use Rattle.module_semantics.specs.Memory.{variable_type}
use Rattle.fits_law.specs.Takes.{nth_of}
use Rattle.narrow_law.specs.Low.{IsFineMember}

-- the variable's type is a struct that takes a layout, whose members have sizes or are runtime arrays of what has one
pub record IsPlaced (s : Setting) (v : Inst) : Type 0 where
  pub layout : Kind
  pub block : Inst
  pub takes : kind_at s.of.heads s.of.globals v block ≡ Some layout
  pub declared_is : global s.of.globals (variable_type s v) ≡ Some block
  pub number : ℕ
  pub members : Trees
  pub shape : type_tree s.of.globals (variable_type s v) ≡ Some (struct number members)
  pub fine : (i : ℕ) (u : Tree) → nth_of members i ≡ Some u → IsFineMember u
