use Rattle.std.proofs.Common.{rules, List, sym, subst}
use Rattle.std.specs.List.{All}
use Rattle.spv_module.specs.declared.inst.Function.{Function}
use Rattle.use_chains.specs.Small.{IsSmall}
use Rattle.accepted_law.proofs.Small.{read_small}
use Rattle.part_tests.proofs.tests.plans.first.first_function.Goals as goal

pub returns : goal.returns
returns c =
    let small : All IsSmall c.functions.result.now = subst (λ (fs : List Function). All IsSmall fs) (sym c.functions.ensures) (read_small c.requires.bytes c.args.«module».now c.requires.is) in
    search (rules, small)
