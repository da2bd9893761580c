use Rattle.std.proofs.Common.{◌≡◌, ◌++◌, map, drop}
use Rattle.std.specs.List.{filter_map}
use Rattle.glsl_ast.specs.View.{unit_of}
use Rattle.serde_json.specs.View.{view}
use Rattle.text_report.specs.Constants.{spec_by, spec}
use Rattle.text_report.proofs.constants.constants.Given as goal

abbrev pub invariant-loop-inst : goal.invariant-loop-inst
invariant-loop-inst l = map view l.list.items ++ filter_map (spec_by l.module (unit_of l.unit)) (drop l.inst-index l.inst-items) ≡ spec l.module (unit_of l.unit)
