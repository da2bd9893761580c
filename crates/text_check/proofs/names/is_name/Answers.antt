use Rattle.std.proofs.Common.{◌≡◌, true, sym, ◌∙◌}
use Rattle.text_check.specs.Words.{is_name}
use Rattle.text_check.proofs.LetterAndDigits.{is_named}
use Rattle.text_check.proofs.names.is_name.Goals as goal

pub returns-then-is_letter_and_digits : goal.returns-then-is_letter_and_digits
returns-then-is_letter_and_digits c =
    let named : is_name c.as_bytes.result.now ≡ true = is_named c.as_bytes.result.now (sym c.is_letter_and_digits.ensures ∙ c.if-is_letter_and_digits.true) in
    cc
