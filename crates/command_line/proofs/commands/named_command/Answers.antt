use Rattle.std.proofs.Common.{◌∙◌, ◌-◌, [], Bor, Bool, List, ℕ, Option, Some, None, IfErr, cond, drop, get_or, length, map, sym, subst, take}
use Rattle.command_line.specs.State.{CommandState}
use Rattle.command_line.specs.Commands.{named, with_verb}
use Rattle.command_line.specs.Unread.{IsUnread}
use Rattle.command_line.proofs.Fronts.{front}
use Rattle.command_line.proofs.commands.named_command.Goals as goal

pub returns-in-len1-up-clause-unread : goal.returns-in-len1-up-clause-unread
returns-in-len1-up-clause-unread c =
    let none : Bor (List ℕ) = record { ref_ptr = (0, 0); now = [] } in
    let words = c.args.words.now in
    let asked : Option CommandState = with_verb (Some (get_or words 0 none).now) (map (λ w. w.now) (take (length words - 1) (drop 1 words))) c.args.verb in
    subst (λ (ws : List (List ℕ)). IfErr c.verb_command.result (IsUnread (named ws c.args.verb))) (sym (front words none c.in-len1-up.len_at_least))
    (subst (λ (b : Bool). IfErr c.verb_command.result (IsUnread (cond b asked None))) (sym (sym c.is_name.ensures ∙ c.if-is_name.true)) c.verb_command.ensures.unread)
