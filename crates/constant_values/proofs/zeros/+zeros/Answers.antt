use Rattle.std.proofs.Common.{◌≡◌, ◌+◌, [], ◌∷◌, ◌++◌, map, rules}
use Rattle.std.specs.Prelude.{Some}
use Rattle.spv_types.specs.View.{tree_of, value_of}
use Rattle.spv_types.specs.Leaves.{zero_of}
use Rattle.profile_rules.specs.Constants.{if_fits}
use Rattle.constant_values.specs.Zeros.{zero_parts}
use Rattle.constant_values.proofs.ZeroParts.{parts_more}
use Rattle.constant_values.proofs.zeros.+zeros.Goals as goal

pub zero_parts-loop-preserved : goal.zero_parts-loop-preserved
zero_parts-loop-preserved t c =
    let some : if_fits (tree_of c.args.part.now) (zero_of (tree_of c.args.part.now)) ≡ Some (value_of c.in-Some.value) = search rules in
    let more : zero_parts (tree_of c.args.part.now) (c.loop.counter + 1) ≡ Some (map value_of (c.loop.values.items ++ c.in-Some.value ∷ [])) = parts_more (tree_of c.args.part.now) c.loop.counter c.loop.values.items c.in-Some.value c.loop.invariant some in
    cc (c.in_ok-push-in-Some.ensures.items)
