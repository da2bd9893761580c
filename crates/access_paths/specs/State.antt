-- What contracts see of the paths of a function.
use Rattle.std.specs.Prelude.{List}
use Rattle.spv_module.specs.declared.inst.Inst.{Inst}
use Rattle.spv_module.specs.declared.inst.Function.{Function}
use Rattle.access_paths.specs.declared.forms.Path.{Path}
use Rattle.access_paths.specs.Ways.{Way}

pub record PathsState : Type 0 where
  pub globals : List Inst
  pub function : Function

-- a path without its memory
abbrev pub plain : Path → Way
plain p = record { base = p.base.0; steps = p.steps.items }

abbrev pub paths_of : List Inst → Function → PathsState
paths_of gs f = record { globals = gs; function = f }
