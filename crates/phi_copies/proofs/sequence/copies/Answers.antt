use Rattle.std.proofs.Common.{◌≡◌, filter, reverse}
use Rattle.std.proofs.lemmas.List.Kept.{AllPairs-filter}
use Rattle.spv_module.specs.declared.tree.Value.{Value}
use Rattle.phi_copies.specs.Sequence.{Pair, target, HaveOwnTargets, is_proper}
use Rattle.phi_copies.proofs.Started.{none_in}
use Rattle.phi_copies.proofs.Law.{sequence_law}
use Rattle.phi_copies.proofs.Spared.{spares_of}
use Rattle.phi_copies.proofs.sequence.copies.Goals as goal

pub new-requires : goal.new-requires
new-requires c = rw (c.deref.ensures.value, c.in_ok-proper.ensures) (AllPairs-filter (λ (p : Pair) (q : Pair). target p ≡ target q → ⊥) is_proper c.args.pairs.now c.requires)

pub list-requires-clause-own : goal.list-requires-clause-own
list-requires-clause-own c = rw (c.deref-2.ensures.value, c.in_ok-proper.ensures) (AllPairs-filter (λ (p : Pair) (q : Pair). target p ≡ target q → ⊥) is_proper c.args.pairs.now c.requires)

pub returns-clause-sequence : goal.returns-clause-sequence
returns-clause-sequence c =
    let done = rw (c.deref-2.ensures.value, c.in_ok-proper.ensures) at c.in_ok-list.ensures.work in
    record {
      next = done.state.next;
      whole = λ i l. none_in c.list.new.self.left.keys c.in_ok-list.ensures.whole i (done.state.left_complete i l);
    }

pub returns-clause-at_once : goal.returns-clause-at_once
returns-clause-at_once c = sequence_law Value c.args.pairs.now c.list.new.self.moves.items c.requires (returns-clause-sequence c)

pub returns-clause-spares : goal.returns-clause-spares
returns-clause-spares c =
    let done = returns-clause-sequence c in
    let own : HaveOwnTargets (filter is_proper c.args.pairs.now) = AllPairs-filter (λ (p : Pair) (q : Pair). target p ≡ target q → ⊥) is_proper c.args.pairs.now c.requires in
    spares_of (filter is_proper c.args.pairs.now) (reverse c.list.new.self.moves.items) own done.next done.whole
