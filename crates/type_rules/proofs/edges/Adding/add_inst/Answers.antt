use Rattle.std.proofs.Common.{◌≡◌, false, ◌==◌, ◌&&◌, ◌<◌, ◌≤◌, ℕ, List, length, get_or, arith, sym, ◌∙◌, subst}
use Rattle.std.proofs.lemmas.Grind.{get_or_default_zero}
use Rattle.std.proofs.lemmas.Grind.{common_steps}
use Rattle.profile_rules.specs.FlowRules.{is_target}
use Rattle.type_rules.specs.Edges.{Adds}
use Rattle.type_rules.proofs.Sources.{operand_more, adds_targets, inst_passed}
use Rattle.type_rules.proofs.edges.Adding.add_inst.Goals as goal

pub loop-k-preserved : goal.loop-k-preserved
loop-k-preserved c =
    let f = c.args.self.now.locals.now in
    let s = c.args.self.now.source in
    let op = c.args.inst.now.op in
    let args : List ℕ = c.args.inst.now.args in
    let k = c.loop-k.k in
    let w : ℕ = get_or args k 0 in
    let inside : k < length args = subst (λ (l : List ℕ). k < length l) c.as_slice-label-items.ensures c.loop-k-test.true in
    let is : w ≡ get_or args k w = sym (get_or_default_zero args k w inside) in
    let more : Adds f s (λ x. is_target op k && (w == x)) c.loop-k.lists.items c.add_operand.new.lists.items =
    subst (λ (l : List ℕ). Adds f s (λ x. is_target op k && (get_or l k 0 == x)) c.loop-k.lists.items c.add_operand.new.lists.items) c.as_slice-label-items.ensures c.in_ok-add_operand.ensures in
    operand_more f s op args k w c.args.lists.now.items c.loop-k.lists.items c.add_operand.new.lists.items inside is c.loop-k.invariant more

pub returns : goal.returns
returns c =
    let k = c.loop-k.k in
    let all : length c.as_slice-label-items.result.now ≤ k = omega arith in
    adds_targets c.args.self.now.locals.now c.args.self.now.source c.args.inst.now k c.args.lists.now.items c.loop-k.lists.items (subst (λ (l : List ℕ). length l ≤ k) c.as_slice-label-items.ensures all) c.loop-k.invariant

pub returns-then-not-is_terminator : goal.returns-then-not-is_terminator
returns-then-not-is_terminator c =
    let other : c.is_terminator.result ≡ false = grind (arith, common_steps, c.if-not-is_terminator.true) in
    inst_passed c.args.self.now.locals.now c.args.self.now.source c.args.inst.now c.args.lists.now.items (sym c.is_terminator.ensures ∙ other)
