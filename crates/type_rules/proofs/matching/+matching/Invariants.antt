use Rattle.std.proofs.Common.{◌≡◌, ◌+◌, ◌*◌, drop}
use Rattle.std.specs.List.{list_all, zip}
use Rattle.profile_rules.specs.ValueRules.{match_before}
use Rattle.type_rules.specs.Matches.{AreKnown}
use Rattle.type_rules.proofs.matching.+matching.Given as goal

abbrev pub decreases-match_part : goal.decreases-match_part
decreases-match_part l = 4 * l.before

abbrev pub decreases-match_all : goal.decreases-match_all
decreases-match_all l = 4 * l.before + 1

abbrev pub decreases-match_parts : goal.decreases-match_parts
decreases-match_parts l = 4 * l.row.now.at + 2

abbrev pub decreases-match_row : goal.decreases-match_row
decreases-match_row l = 4 * l.row.now.at + 3

abbrev pub invariant-match_all-loop-k : goal.invariant-match_all-loop-k
invariant-match_all-loop-k l = record {
  known : AreKnown l.scope.m.globals l.known;
  left : list_all (λ p. match_before l.scope.m.globals l.before p.0 p.1) (zip (drop l.k l.members) (drop l.k l.others)) ≡ list_all (λ p. match_before l.scope.m.globals l.before p.0 p.1) (zip l.members l.others);
}
