use Rattle.std.proofs.Common.{ℕ, arith}
use Rattle.std.specs.BTreeSet.{contains}
use Rattle.std.specs.Ordering.{nat_cmp}
use Rattle.spec_constants.proofs.Sets.{set_more}
use Rattle.spec_constants.proofs.fit.add_words.Goals as goal

pub loop-word-preserved : goal.loop-word-preserved
loop-word-preserved c = λ q. set_more (λ (n : ℕ). n) c.args.words.now c.loop-word.word-index 0 q (contains nat_cmp c.insert.new.self q) (contains nat_cmp c.loop-word.ids q) (contains nat_cmp c.args.ids.now q) (omega arith) (c.in_ok-insert.ensures.updates.0 q) (c.loop-word.invariant q)
