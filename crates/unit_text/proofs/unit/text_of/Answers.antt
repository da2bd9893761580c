use Rattle.std.proofs.Common.{◌∙◌, ℕ, List, ap, subst, sym}
use Rattle.std.proofs.lemmas.Result.{MatchResult-weaker}
use Rattle.std.specs.List.{All}
use Rattle.profile_rules.specs.declared.given.Given.{Given}
use Rattle.glsl_ast.specs.View.{unit_of}
use Rattle.text_rules.specs.Constants.{Source}
use Rattle.few_law.specs.Short.{HasFewArgs}
use Rattle.unit_text.specs.Reached.{IsMade}
use Rattle.unit_text.proofs.unit.text_of.Goals as goal

pub planned_text-requires-clause-few : goal.planned_text-requires-clause-few
planned_text-requires-clause-few c = subst (λ (s : Source). All HasFewArgs s.of.globals) (sym c.in_ok-readings.ensures) c.requires.few

pub returns : goal.returns
returns c =
    let read = c.in_ok-readings.ensures ∙ ap (λ (pairs : List (ℕ × Given)). record { of = c.args.«module».now; entry = c.args.found.entry.function.0; overrides = pairs }) c.as_slice-pairs.ensures.value in
    MatchResult-weaker c.planned_text.result c.planned_text.ensures (λ text is. subst (λ (s : Source). IsMade s c.args.found.entry.size.items c.args.found.order.items (unit_of text.unit)) read is) (λ e no. no)
