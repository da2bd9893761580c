use Rattle.std.proofs.Common.{take}
use Rattle.std.specs.List.{list_any}
use Rattle.profile_rules.specs.FlowRules.{goes}
use Rattle.type_rules.specs.Edges.{Adds}
use Rattle.type_rules.proofs.edges.Adding.add_block.Given as goal

abbrev pub invariant-loop-inst : goal.invariant-loop-inst
invariant-loop-inst l = Adds l.self.locals.now l.self.source (λ x. list_any (goes x) (take l.inst-index l.inst-items)) l.initial.lists.items l.lists.items
