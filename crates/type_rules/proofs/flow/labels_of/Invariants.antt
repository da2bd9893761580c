use Rattle.std.proofs.Common.{◌≡◌, ℕ, take}
use Rattle.std.specs.BTreeSet.{contains}
use Rattle.std.specs.Ordering.{nat_cmp}
use Rattle.type_rules.specs.Edges.{is_source}
use Rattle.type_rules.proofs.flow.labels_of.Given as goal

abbrev pub invariant-loop-source : goal.invariant-loop-source
invariant-loop-source l = (label : ℕ) → contains nat_cmp l.labels label ≡ is_source (take l.source-index l.sources) label
