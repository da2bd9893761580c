use Rattle.std.proofs.Common.{ap, ◌∙◌}
use Rattle.std.specs.Prelude.{option_and_then}
use Rattle.op_semantics.specs.Composite.{extracted}
use Rattle.run_memory.proofs.kept.part_kept.Goals as goal

pub returns-in-None : goal.returns-in-None
returns-in-None c = λ fs. ap (option_and_then (extracted c.args.path.now)) (c.in-None.ensures fs)

pub returns-in-Some : goal.returns-in-Some
returns-in-Some c = λ fs. c.part_by.ensures ∙ ap (option_and_then (extracted c.args.path.now)) (c.in-Some.ensures fs)
