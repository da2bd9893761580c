use Rattle.std.proofs.Common.{◌∙◌, ◌-◌, ◌+◌, ◌<◌, ◌≡◌, ℕ, Some, ap, arith, cond, get_or, length}
use Rattle.std.specs.BTreeMap.{get, is_at}
use Rattle.std.specs.Ordering.{nat_cmp}
use Rattle.profile_rules.specs.declared.given.Given.TheVariants.{Decimal}
use Rattle.run_module.proofs.Words.{given_before}
use Rattle.run_module.proofs.given.words_given.Goals as goal

pub loop-k-preserved : goal.loop-k-preserved
loop-k-preserved c = λ q.
    let pairs = c.args.pairs.now in
    let n = c.loop-k.k in
    let next : n ≡ n - 1 + 1 = omega (arith, c.loop-k-test.true) in
    let inside : n - 1 < length pairs = omega (arith, c.loop-k-test.true, c.loop-k.auto.k) in
    given_before pairs n (n - 1) (0, Decimal 0) q (get nat_cmp c.loop-k.special) (get nat_cmp c.insert.new.self) next inside c.loop-k.invariant
    (c.in_ok-insert.ensures.updates.0 q ∙ ap (λ (w : ℕ). cond (is_at (nat_cmp (get_or pairs (n - 1) (0, Decimal 0)).0) q) (Some w) (get nat_cmp c.loop-k.special q)) c.word_given.ensures)
