use Rattle.std.proofs.Common.{◌≡◌, ◌<◌, ℕ, length, get_or}
use Rattle.structure_rules.specs.declared.graph.Role.TheVariants.{First}
use Rattle.structure_rules.specs.Nesting.{role}
use Rattle.nest_place.proofs.parents.all_roles.Given as goal

abbrev pub invariant-loop-block : goal.invariant-loop-block
invariant-loop-block l = record {
  sized : length l.roles.items ≡ l.block;
  same : (t : ℕ) → t < l.block → get_or l.roles.items t First ≡ role l.cases t;
}
