use Rattle.std.proofs.Common.{◌<◌, ◌≤◌, rules, length}
use Rattle.value_ops.proofs.Paths.{put_found, put_kept, put_past}
use Rattle.value_ops.proofs.parts.+putting.Goals as goal

pub put_below-returns-in-None-clause-done : goal.put_below-returns-in-None-clause-done
put_below-returns-in-None-clause-done t c =
    let past : length c.args.parts.now.items ≤ c.args.index = search rules in
    put_past c.args.parts.now.items c.args.index _ c.args.rest.now past

pub put_below-returns-in-Some-clause-done : goal.put_below-returns-in-Some-clause-done
put_below-returns-in-Some-clause-done t c =
    let inside : c.args.index < length c.args.parts.now.items = search rules in
    put_found c.args.parts.now.items c.args.index c.in-Some.inner.now c.put_part.new.whole c.put_part.result _ c.args.rest.now c.in-Some.ensures.value inside c.put_part.ensures.done

pub put_below-returns-in-Some-clause-kept : goal.put_below-returns-in-Some-clause-kept
put_below-returns-in-Some-clause-kept t c = λ off. put_kept c.args.parts.now.items c.args.index c.in-Some.inner.now c.put_part.new.whole c.in-Some.ensures.value (c.put_part.ensures.kept off)
