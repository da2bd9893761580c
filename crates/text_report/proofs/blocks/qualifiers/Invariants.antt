use Rattle.std.proofs.Common.{◌≡◌, ◌++◌, map, drop}
use Rattle.serde_json.specs.View.{view}
use Rattle.text_report.specs.Blocks.{qualifier_data}
use Rattle.text_report.proofs.blocks.qualifiers.Given as goal

abbrev pub invariant-loop-qual : goal.invariant-loop-qual
invariant-loop-qual l = map view l.list.items ++ map qualifier_data (drop l.qual-index l.quals) ≡ map qualifier_data l.quals
