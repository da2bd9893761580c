-- By what types are measured.
use Rattle.std.specs.Prelude.{List}
use Rattle.spv_module.specs.declared.inst.Inst.{Inst}
use Rattle.layout_rules.specs.declared.Kind.{Kind}

-- the heads and the globals of a module, and a layout
pub record RulerState : Type 0 where
  pub heads : List Inst
  pub globals : List Inst
  pub kind : Kind
