use Rattle.std.proofs.Common.{◌≡◌, ◌+◌, ◌-◌, ◌∙◌, drop, length, replicate}
use Rattle.glsl_ast.proofs.Joined.{written_behind, utf8_behind}
use Rattle.glsl_ast.proofs.short.ShortText.joined.Goals as goal

pub invariant_of-result-clause-is_text : goal.invariant_of-result-clause-is_text
invariant_of-result-clause-is_text c =
    let front : c.copy_from_slice.new.self ≡ c.args.front.now = c.copy_from_slice.ensures.after ∙ c.as_bytes.ensures.value in
    let back : c.copy_from_slice-2.new.self ≡ c.args.back.now = c.copy_from_slice-2.ensures.after ∙ c.as_bytes-2.ensures.value in
    let size = length c.args.front.now in
    ∣ utf8_behind c.args.front.now c.args.back.now _ _ (drop size (replicate 14 0)) (size + length c.args.back.now - size) front back c.utf8.front c.utf8.back ∣₁

pub returns : goal.returns
returns c =
    let front : c.copy_from_slice.new.self ≡ c.args.front.now = c.copy_from_slice.ensures.after ∙ c.as_bytes.ensures.value in
    let back : c.copy_from_slice-2.new.self ≡ c.args.back.now = c.copy_from_slice-2.ensures.after ∙ c.as_bytes-2.ensures.value in
    rw (front, back) (written_behind c.args.front.now c.args.back.now _ _)
