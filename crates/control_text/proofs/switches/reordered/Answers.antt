use Rattle.std.proofs.Common.{◌≡◌, ◌++◌, ◌+◌, ◌∷◌, ℕ, List, Vec, Global, map, drop, slice_index, subst, ap, refl, ◌∙◌, arith}
use Rattle.std.specs.Prelude.{Ok}
use Rattle.std.specs.Option.{option_to_list}
use Rattle.std.specs.Ordering.{nat_cmp}
use Rattle.std.specs.BTreeMap.{IsFromIterResult}
use Rattle.std.proofs.lemmas.List.{drop_more}
use Rattle.std.proofs.lemmas.Iterator.Adapters.{YieldsList-from_vec, fact_from_collect}
use Rattle.glsl_ast.specs.View.{arm_of}
use Rattle.glsl_ast.specs.declared.statements.Arm.{Arm}
use Rattle.control_text.specs.Statements.{in_order, by_target}
use Rattle.control_text.specs.Written.{group_written}
use Rattle.control_text.proofs.Orders.{arms_at, map_is, order_more, pushed_some, pushed_none}
use Rattle.control_text.proofs.switches.reordered.Goals as goal
use Rattle.control_text.proofs.switches.reordered.Goals.{in-Some+in_ok-push, in_default}

pub loop-target-init : goal.loop-target-init
loop-target-init c =
    let road = YieldsList-from_vec {s = c.into_iter.result} c.args.groups.items c.into_iter.ensures.rest (c.into_iter.ensures.len ∙ c.args.groups.ok.0) in
    let got = fact_from_collect {E = ℕ} (λ (xs : List (ℕ × Arm)) m. IsFromIterResult nat_cmp xs m) (Ok c.in_ok-by_target.by_target) c.in_ok-by_target.ensures.ran road in
    rw c.new-arms.ensures.items (rw (map_is c.in_ok-by_target.by_target c.args.groups.items got.0) refl)

pub loop-target-preserved : goal.loop-target-preserved
loop-target-preserved c =
    let order = c.args.order.now in
    let i = c.loop-target.target-index in
    let t = slice_index order i in
    let m = c.loop-target.by_target in
    let old = c.loop-target.arms.items in
    let all = in_order order (by_target (map group_written c.args.groups.items)) in
    let kept : map arm_of old ++ in_order (t ∷ drop (i + 1) order) (arms_at m) ≡ all = subst (λ l. map arm_of old ++ in_order l (arms_at m) ≡ all) (drop_more order i 0 (omega arith)) c.loop-target.invariant in
    let pushed : map arm_of c.match-remove.arms.items ≡ map arm_of old ++ option_to_list (arms_at m t) = elim c.match-remove.branch [
      | in-Some+in_ok-push w ↦ pushed_some m t c.remove.result w.in-Some.arm old c.match-remove.arms.items c.remove.ensures.value w.in-Some.is (ap (λ (v : Vec Arm Global). v.items) w.arms-is ∙ w.in_ok-push.ensures.items)
      | in_default w ↦ pushed_none m t c.remove.result old c.match-remove.arms.items c.remove.ensures.value w.in_default.is (ap (λ (v : Vec Arm Global). v.items) w.arms-is)
    ] in
    order_more t (drop (i + 1) order) m c.remove.new.self (map arm_of old) (map arm_of c.match-remove.arms.items) all c.remove.ensures.updates.0 pushed kept
