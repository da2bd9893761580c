use Rattle.std.proofs.Common.{rules, ◌≡◌, ◌<◌, ◌==◌, ◌^◌, true, [], length, option_map, string_bytes, refl, ap, sym, ◌∙◌, arith}
use Rattle.std.specs.Option.{option_map_or}
use Rattle.std.proofs.lemmas.Bool.Decides.{nat_tests}
use Rattle.std.proofs.lemmas.List.{nil_from_length}
use Rattle.name_alloc.specs.Base.{cleaned}
use Rattle.name_alloc.proofs.Lettered.{empty_base}
use Rattle.name_alloc.proofs.base.named.Goals.{in-None, in-Some+in_ok-text-in-Some}
use Rattle.name_alloc.proofs.base.named.Goals as goal

pub returns-then-is_empty : goal.returns-then-is_empty
returns-then-is_empty c =
    let told : (length c.as_str.result.now == 0) ≡ true = sym c.is_empty.ensures ∙ c.if-is_empty.true in
    let none : string_bytes c.match-given.text ≡ [] = sym c.as_str.ensures.value ∙ nil_from_length c.as_str.result.now (grind (arith, nat_tests, told)) in
    let kept : option_map_or cleaned (option_map (λ v. v.items) c.args.given.now) [] ≡ [] =
    elim c.match-given.branch [
      | in-None w ↦ rw w.in-None.is refl
      | in-Some+in_ok-text-in-Some w ↦ rw w.in-Some.is (let same : string_bytes w.in_ok-text-in-Some.text ≡ cleaned w.in-Some.bytes.items = search rules in sym same ∙ (sym (ap string_bytes w.text-is) ∙ none))
    ] in
    let small : c.args.number < 2 ^ 64 = omega (arith, c.ranges.number.fits) in
    c.in_ok-worded_number.ensures ∙ sym (empty_base (option_map_or cleaned (option_map (λ v. v.items) c.args.given.now) []) c.args.letter.now c.args.number kept c.requires small)
