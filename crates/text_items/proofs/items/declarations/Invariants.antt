use Rattle.std.proofs.Common.{◌≡◌, map, take}
use Rattle.std.specs.List.{flat_map}
use Rattle.glsl_ast.specs.View.{decl_of}
use Rattle.text_rules.specs.Declarations.{declaration}
use Rattle.text_items.specs.Names.{item_names}
use Rattle.text_items.proofs.items.declarations.Given as goal

abbrev pub invariant-loop-inst : goal.invariant-loop-inst
invariant-loop-inst l = map decl_of l.items.items ≡ flat_map (declaration l.written.source l.written.reached (item_names l.written.source l.names)) (take l.inst-index l.inst-items)
