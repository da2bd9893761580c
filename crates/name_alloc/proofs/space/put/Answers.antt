use Rattle.std.proofs.Common.{Some}
use Rattle.glsl_ast.specs.View.{name_text}
use Rattle.name_alloc.proofs.Updated.{name_updates}
use Rattle.name_alloc.proofs.space.put.Goals as goal

pub returns-clause-puts : goal.returns-clause-puts
returns-clause-puts c = record {
  puts = λ t. name_updates c.args.space.now c.insert.new.self (name_text c.args.name) (Some c.args.number) c.in_ok-insert.ensures.updates t;
  count = rw (← c.in_ok-insert.ensures.old) c.in_ok-insert.ensures.len;
}
