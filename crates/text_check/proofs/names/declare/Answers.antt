use Rattle.std.proofs.Common.{rules}
use Rattle.text_check.proofs.Declared.{declared_more}
use Rattle.text_check.proofs.names.declare.Goals as goal

pub returns-in_ok-insert : goal.returns-in_ok-insert
returns-in_ok-insert c = declared_more c.args.structs.now c.insert.new.self c.in-Struct.name c.in_ok-from_str.field-0 c.in-Struct.fields c.args.item.now c.in-Struct.is (search rules) c.in_ok-insert.ensures.updates
