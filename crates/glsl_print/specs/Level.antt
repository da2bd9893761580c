-- How deep a statement stands, as a number.
use Rattle.std.specs.Prelude.{ℕ, ◌+◌}
use Rattle.glsl_print.specs.declared.level.Level.{Level, fold-Level}
use Rattle.glsl_print.specs.declared.level.Level.TheOpen.{Level-F}

abbrev pub level_step : Level-F ℕ → ℕ
level_step (Level-F.Top levels) = levels
level_step (Level-F.Under levels outer) = levels + outer.now

abbrev pub level_of : Level → ℕ
level_of = fold-Level ℕ level_step
