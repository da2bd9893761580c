use Rattle.std.proofs.Common.{◌≡◌, ◌∙◌, ℕ, sym, arith, true, false, get_or}
use Rattle.std.specs.BTreeSet.{contains}
use Rattle.std.specs.Ordering.{nat_cmp}
use Rattle.profile_rules.specs.declared.given.Given.TheVariants.{Decimal}
use Rattle.spec_constants.proofs.Repeats.{no_repeat, found_repeat}
use Rattle.spec_constants.proofs.Sets.{set_more}
use Rattle.profile_rules.specs.declared.given.Given.{Given}
use Rattle.spec_constants.proofs.overrides.repeats.Goals as goal

pub returns-then-not-branch : goal.returns-then-not-branch
returns-then-not-branch c =
    let id : ℕ = (get_or c.args.pairs.now c.loop-pair.pair-index (0, Decimal 0)).0 in
    let seen : contains nat_cmp c.loop-pair.seen id ≡ true = grind (arith, c.in_ok-insert.ensures.added, c.if-not-branch.true) in
    sym (found_repeat c.args.pairs.now c.loop-pair.pair-index (0, Decimal 0) (omega arith) (sym (c.loop-pair.invariant.1 id) ∙ seen))

pub loop-pair-preserved : goal.loop-pair-preserved
loop-pair-preserved c =
    let id : ℕ = (get_or c.args.pairs.now c.loop-pair.pair-index (0, Decimal 0)).0 in
    let new : contains nat_cmp c.loop-pair.seen id ≡ false = grind (arith, c.in_ok-insert.ensures.added, c.if-not-branch.false) in (
      no_repeat c.args.pairs.now c.loop-pair.pair-index (0, Decimal 0) (omega arith) c.loop-pair.invariant.0 (sym (c.loop-pair.invariant.1 id) ∙ new),
      λ q. set_more (λ (p : ℕ × Given). p.0) c.args.pairs.now c.loop-pair.pair-index (0, Decimal 0) q (contains nat_cmp c.insert.new.self q) (contains nat_cmp c.loop-pair.seen q) false (omega arith) (c.in_ok-insert.ensures.updates.0 q) (c.loop-pair.invariant.1 q),
    )
