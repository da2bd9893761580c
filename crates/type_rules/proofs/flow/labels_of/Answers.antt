use Rattle.std.proofs.Common.{◌<◌, length, rules}
use Rattle.std.specs.BTreeSet.{contains}
use Rattle.std.specs.Ordering.{nat_cmp}
use Rattle.type_rules.proofs.Sources.{labels_more}
use Rattle.type_rules.proofs.flow.labels_of.Goals as goal

pub loop-source-preserved : goal.loop-source-preserved
loop-source-preserved c =
    let inside : c.loop-source.source-index < length c.args.sources.now = search rules in
    labels_more c.args.sources.now c.loop-source.source-index _ (contains nat_cmp c.loop-source.labels) (contains nat_cmp c.add_label.new.labels) inside c.loop-source.invariant c.in_ok-add_label.ensures
