use Rattle.std.proofs.Common.{◌≡◌, Some, None, ap, sym, ◌∙◌, arith}
use Rattle.std.specs.List.{position_from, slice_get, find}
use Rattle.std.specs.Option.{option_copied}
use Rattle.std.proofs.lemmas.Grind.{common_steps}
use Rattle.std.proofs.lemmas.Option.{gets}
use Rattle.spv_decor.proofs.First.{find_none, slice_get_first}
use Rattle.unit_text.specs.Reached.{has_id}
use Rattle.unit_text.proofs.plans.plan_at.Goals as goal

pub returns-in_err-place : goal.returns-in_err-place
returns-in_err-place c =
    let known = c.requires.each c.args.id.0 in
    let none_known = c.in_err-place.ensures in
    let nowhere : position_from (has_id c.args.id.0) 0 c.args.plans.now ≡ None = cc in
    let none : find (has_id c.args.id.0) c.args.plans.now ≡ None = find_none (has_id c.args.id.0) 0 c.args.plans.now nowhere in
    ap option_copied c.from_residual.ensures ∙ sym none

pub returns : goal.returns
returns c =
    let known = c.requires.each c.args.id.0 in
    let one_known = c.in_ok-place.ensures in
    let somewhere : position_from (has_id c.args.id.0) 0 c.args.plans.now ≡ Some c.in_ok-place.place = cc in
    let found : slice_get c.args.plans.now c.in_ok-place.place ≡ find (has_id c.args.id.0) c.args.plans.now = slice_get_first (has_id c.args.id.0) c.args.plans.now c.in_ok-place.place somewhere in
    grind (arith, common_steps, gets, found, c.get-2.ensures.lookup)
