use Rattle.std.proofs.Common.{take}
use Rattle.access_paths.specs.Links.{HaveMore}
use Rattle.access_paths.proofs.links.Links.add_block.Given as goal

abbrev pub invariant-loop-inst : goal.invariant-loop-inst
invariant-loop-inst l = HaveMore l.module.globals l.locals l.stands (take l.inst-index l.insts) l.initial.self l.self
