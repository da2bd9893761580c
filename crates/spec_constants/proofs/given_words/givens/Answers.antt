use Rattle.std.proofs.Common.{◌≡◌, rules, ℕ, true, false, is_some, arith, get_or}
use Rattle.std.specs.BTreeMap.{get}
use Rattle.std.specs.Ordering.{nat_cmp}
use Rattle.profile_rules.specs.declared.given.Given.TheVariants.{Decimal}
use Rattle.spec_constants.proofs.FirstGiven.{given_new, given_old}
use Rattle.spec_constants.proofs.given_words.givens.Goals as goal
use Rattle.spec_constants.proofs.given_words.givens.Goals.{then-not-contains_key+in_ok-insert, else-not-contains_key}

pub loop-pair-preserved : goal.loop-pair-preserved
loop-pair-preserved c =
    let key : ℕ = (get_or c.args.pairs.now c.loop-pair.pair-index (0, Decimal 0)).0 in
    elim c.if-not-contains_key.branch [
      | then-not-contains_key+in_ok-insert w ↦
          let absent : is_some (get nat_cmp c.loop-pair.map key) ≡ false = search rules in
          rw w.map-is (λ q. given_new c.args.pairs.now c.loop-pair.pair-index (0, Decimal 0) q (get nat_cmp c.loop-pair.map) (get nat_cmp w.insert.new.self) (omega arith) c.loop-pair.invariant absent (w.in_ok-insert.ensures.updates.0 q))
      | else-not-contains_key w ↦
          let present : is_some (get nat_cmp c.loop-pair.map key) ≡ true = search rules in
          rw w.map-is (λ q. given_old c.args.pairs.now c.loop-pair.pair-index (0, Decimal 0) q (get nat_cmp c.loop-pair.map) (omega arith) c.loop-pair.invariant present)
    ]
