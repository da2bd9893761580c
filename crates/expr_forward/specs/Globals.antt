-- The expressions by which constants and built-in variables are read.
use Rattle.std.specs.Prelude.{ℕ, ◌==◌, List, Option, Some, None, option_and_then, slice_get, if◌then◌else◌}
use Rattle.id_map.specs.Entries.{id_place}
use Rattle.id_map.specs.declared.places.PlaceMap.{PlaceMap}
use Rattle.glsl_ast.specs.Tree as text
use Rattle.glsl_ast.specs.View.{expr_of}
use Rattle.glsl_ast.specs.declared.expressions.Expr.{Expr}
use Rattle.expr_forward.specs.declared.globals.Globals.{Globals}

-- an expression, where it is that of an id
abbrev pub expr_for : ℕ → ℕ × Expr → Option text.Expr
expr_for id e = if e.0 == id then Some (expr_of e.1) else None

-- the expression at a place, where it is that of an id
abbrev pub expr_at : List (ℕ × Expr) → ℕ → ℕ → Option text.Expr
expr_at exprs id place = option_and_then (expr_for id) (slice_get exprs place)

-- the place that is noted for an id; there is none before the first is noted
abbrev pub place_in : Option PlaceMap → ℕ → Option ℕ
place_in None id = None
place_in (Some places) id = id_place places id

-- the expression that is there for an id
abbrev pub global_in : Globals → ℕ → Option text.Expr
global_in g id = option_and_then (expr_at g.exprs.items id) (place_in g.places id)
