use Rattle.std.proofs.Common.{◌≡◌, ◌-◌, [], Bor, List, ℕ, Option, Some, IfOk, drop, get_or, length, map, sym, subst, take}
use Rattle.std.specs.Prelude.{option_and_then, option_map}
use Rattle.dispatch_case.specs.Cases.{CaseParts, parts_of}
use Rattle.command_line.specs.State.{runs}
use Rattle.command_line.specs.Commands.{with_case, with_task}
use Rattle.command_line.proofs.Cases.{fine_case}
use Rattle.command_line.proofs.Fronts.{front}
use Rattle.command_line.proofs.commands.run_command.Goals as goal

pub command_with-requires : goal.command_with-requires
command_with-requires c =
    let none : Bor (List ℕ) = record { ref_ptr = (0, 0); now = [] } in
    fine_case (get_or c.args.words.now 0 none).now (parts_of c.in_ok-case.case) c.in_ok-case.ensures.read

pub returns-clause-read : goal.returns-clause-read
returns-clause-read c =
    let none : Bor (List ℕ) = record { ref_ptr = (0, 0); now = [] } in
    let words = c.args.words.now in
    let rest : List (List ℕ) = map (λ w. w.now) (take (length words - 1) (drop 1 words)) in
    let entry : Option (List ℕ) = option_map (λ n. n.now) c.args.entry in
    subst (λ (ws : List (List ℕ)). IfOk c.command_with.result (λ command. with_case entry ws ≡ Some command)) (sym (front words none c.in-len1-up.len_at_least))
    (subst (λ (o : Option CaseParts). IfOk c.command_with.result (λ command. option_and_then (λ (k : CaseParts). with_task entry rest (runs k)) o ≡ Some command)) (sym c.in_ok-case.ensures.read) c.command_with.ensures.read)
