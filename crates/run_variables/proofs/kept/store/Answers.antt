use Rattle.std.proofs.Common.{◌≡◌, rules}
use Rattle.std.specs.Prelude.{Some, IsSome}
use Rattle.std.specs.BTreeMap.{get}
use Rattle.std.specs.Ordering.{nat_cmp}
use Rattle.run_variables.proofs.Written.{stored}
use Rattle.run_variables.proofs.kept.store.Goals as goal

pub returns-in-Some : goal.returns-in-Some
returns-in-Some c =
    let found : get nat_cmp c.args.variables.now c.args.id ≡ Some c.in-Some.whole.now = search rules in
    let there : IsSome (get nat_cmp c.args.variables.now c.args.id) = search rules in
    stored c.args.variables.now (c.get_mut.follows.lender c.put_part.new.whole) c.args.id c.in-Some.whole.now c.put_part.new.whole c.args.path.now _ c.put_part.result found
    ((c.get_mut.follows.holds c.put_part.new.whole).3 there).0 c.put_part.ensures.done c.put_part.ensures.kept
