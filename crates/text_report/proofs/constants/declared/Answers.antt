use Rattle.std.proofs.Common.{◌≡◌, Some, None, ap, sym, ◌∙◌, arith}
use Rattle.std.specs.List.{position_from, slice_get, find}
use Rattle.std.specs.Option.{option_copied}
use Rattle.std.proofs.lemmas.Grind.{common_steps}
use Rattle.std.proofs.lemmas.Option.{gets}
use Rattle.spv_decor.proofs.First.{find_none, slice_get_first}
use Rattle.text_report.specs.Places.{is_of}
use Rattle.text_report.proofs.constants.declared.Goals as goal

pub returns-in_err-place : goal.returns-in_err-place
returns-in_err-place c =
    let known = c.requires c.args.id in
    let none_known = c.in_err-place.ensures.value in
    let nowhere : position_from (is_of c.args.id) 0 c.args.items.now ≡ None = cc in
    let none : find (is_of c.args.id) c.args.items.now ≡ None = find_none (is_of c.args.id) 0 c.args.items.now nowhere in
    ap option_copied c.from_residual.ensures ∙ sym none

pub returns : goal.returns
returns c =
    let known = c.requires c.args.id in
    let one_known = c.in_ok-place.ensures.value in
    let somewhere : position_from (is_of c.args.id) 0 c.args.items.now ≡ Some c.in_ok-place.place.now = cc in
    let found : slice_get c.args.items.now c.in_ok-place.place.now ≡ find (is_of c.args.id) c.args.items.now = slice_get_first (is_of c.args.id) c.args.items.now c.in_ok-place.place.now somewhere in
    grind (arith, common_steps, gets, found, c.get-2.ensures.lookup)
