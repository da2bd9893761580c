use Rattle.std.proofs.Common.{◌≡◌, ℕ, true, false, List, get_or, take, rules, sym, arith}
use Rattle.std.specs.BTreeSet.{contains}
use Rattle.std.specs.Ordering.{nat_cmp}
use Rattle.std.proofs.lemmas.List.{take_all}
use Rattle.type_rules.proofs.Repeats.{seen_more, repeats, repeats_not}
use Rattle.type_rules.proofs.flow.has_repeat_among_many.Goals as goal

pub returns-then-contains : goal.returns-then-contains
returns-then-contains c =
    let present : contains nat_cmp c.loop-word.seen (get_or c.args.words.now c.loop-word.word-index 0) ≡ true = search rules in
    sym (repeats c.args.words.now c.loop-word.word-index (contains nat_cmp c.loop-word.seen) (omega arith) c.loop-word.invariant present)

pub loop-word-preserved : goal.loop-word-preserved
loop-word-preserved c =
    let absent : contains nat_cmp c.loop-word.seen (get_or c.args.words.now c.loop-word.word-index 0) ≡ false = search rules in
    seen_more c.args.words.now c.loop-word.word-index (contains nat_cmp c.loop-word.seen) (contains nat_cmp c.insert.new.self) (omega arith) c.loop-word.invariant absent (λ x. c.in_ok-insert.ensures.updates.0 x)

pub returns : goal.returns
returns c =
    let ws : List ℕ = c.args.words.now in
    let all : take c.loop-word.word-index ws ≡ ws = take_all c.loop-word.word-index ws (omega arith) in
    sym (repeats_not ws (λ x. rw all at (c.loop-word.invariant.once x)))
