use Rattle.std.proofs.Common.{take}
use Rattle.type_rules.specs.Edges.{Adds}
use Rattle.type_rules.proofs.Sources.{goes_by}
use Rattle.type_rules.proofs.edges.Adding.add_inst.Given as goal

abbrev pub invariant-loop-k : goal.invariant-loop-k
invariant-loop-k l = Adds l.self.locals.now l.self.source (goes_by l.inst.op (take l.k l.inst.args)) l.initial.lists.items l.lists.items
