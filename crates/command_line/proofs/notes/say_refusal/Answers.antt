use Rattle.std.proofs.Common.{refl}
use Rattle.command_line.proofs.Writes.{goes_then}
use Rattle.command_line.proofs.notes.say_refusal.Goals as goal

pub returns : goal.returns
returns g c =
    (goes_then _ _ _ (goes_then _ _ _ (goes_then _ _ _ (goes_then _ _ _ (goes_then _ _ _ c.put-refused.ensures c.put_letter-letter.ensures) c.put_rule_number-number.ensures) c.put-at.ensures) c.put_number-word.ensures) c.put.ensures).from_ok tt refl
