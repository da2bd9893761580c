use Rattle.std.proofs.Common.{◌≡◌, ◌∙◌, ◌<◌, ◌≤◌, ◌+◌, ◌-◌, ◌++◌, ◌∷◌, [], List, ℕ, ap, sym, rules, arith, map, length}
use Rattle.std.proofs.lemmas.List.{append-nil}
use Rattle.spv_types.specs.Tree.{ValueTree, values_in}
use Rattle.spv_types.specs.View.{tree_of, trees_of, value_of}
use Rattle.spv_types.specs.Leaves.{leaf_count}
use Rattle.op_semantics.specs.Component.{listed}
use Rattle.value_words.specs.Words.{parts_from, value_from, values_from}
use Rattle.value_ops.proofs.Lists.{values_listed}
use Rattle.value_ops.proofs.Streams.{members_end, parts_step}
use Rattle.value_ops.proofs.words.+reading.Goals as goal

pub members_from-returns : goal.members_from-returns
members_from-returns t c =
    let past : length c.args.members.now ≤ c.loop-member.member-index = omega arith in
    let done : map value_of c.loop-member.values.items ≡ listed (values_from (trees_of c.args.members.now) c.args.words.now) =
    sym (append-nil (map value_of c.loop-member.values.items))
    ∙ ap (λ more. map value_of c.loop-member.values.items ++ more) (sym (members_end c.args.members.now c.loop-member.member-index c.loop-member.rest.now past))
    ∙ c.loop-member.invariant in
    ap values_in done ∙ values_listed (values_from (trees_of c.args.members.now) c.args.words.now)

pub parts_from-loop-preserved : goal.parts_from-loop-preserved
parts_from-loop-preserved t c =
    let f : List ℕ → ValueTree = value_from (tree_of c.args.part.now) in
    let size : ℕ = leaf_count (tree_of c.args.part.now) in
    let items : c.push.new.self.items ≡ c.loop.values.items ++ c.in_ok-value_from.field-0 ∷ [] = search rules in
    let inside : c.loop.counter < c.args.length = omega arith in
    ap (λ l. map value_of l ++ parts_from f size (c.args.length - (c.loop.counter + 1)) c.behind-rest.result.now) items
    ∙ parts_step f size c.args.length c.loop.counter c.loop.values.items c.in_ok-value_from.field-0 c.loop.rest.now c.behind-rest.result.now (parts_from f size c.args.length c.args.words.now) inside c.in_ok-value_from.ensures c.behind-rest.ensures c.loop.invariant
