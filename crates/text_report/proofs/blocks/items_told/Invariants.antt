use Rattle.std.proofs.Common.{◌≡◌, ◌++◌, map, drop}
use Rattle.std.specs.List.{filter_map}
use Rattle.glsl_ast.specs.View.{decl_of}
use Rattle.serde_json.specs.View.{view}
use Rattle.text_report.specs.Blocks.{item_data}
use Rattle.text_report.proofs.blocks.items_told.Given as goal

abbrev pub invariant-loop-item : goal.invariant-loop-item
invariant-loop-item l = map view l.list.items ++ filter_map (item_data l.told) (map decl_of (drop l.item-index l.items)) ≡ filter_map (item_data l.told) (map decl_of l.items)
