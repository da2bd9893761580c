use Rattle.std.proofs.Common.{◌≡◌, List, [], ◌∷◌, Err, rules}
use Rattle.spv_words.specs.declared.rule.Rule.{Rule}
use Rattle.spv_words.specs.declared.rule.Rule.TheVariants.{P17, P18, P19, P20}
use Rattle.declaration_check.proofs.Groups.{refused_by}
use Rattle.declaration_check.proofs.declarations.check_types.Goals as goal

abbrev group : List Rule
group = P17 ∷ P18 ∷ P19 ∷ P20 ∷ []

pub returns-in_err-check_uses : goal.returns-in_err-check_uses
returns-in_err-check_uses c =
    λ entry. let is : c.from_residual.result ≡ Err c.in_err-check_uses.field-0.0 = search rules in
    refused_by c.args.context.now entry group P17 c.in_err-check_uses.field-0.0 c.from_residual.result c.in_err-check_uses.ensures is

pub returns-in_err-check_form : goal.returns-in_err-check_form
returns-in_err-check_form c =
    λ entry. let is : c.from_residual-in_err-check_form.result ≡ Err c.in_err-check_form.field-0.0 = search rules in
    refused_by c.args.context.now entry group P18 c.in_err-check_form.field-0.0 c.from_residual-in_err-check_form.result c.in_err-check_form.ensures is

pub returns-in_err-check_signatures : goal.returns-in_err-check_signatures
returns-in_err-check_signatures c =
    λ entry. let is : c.from_residual-in_err-check_signatures.result ≡ Err c.in_err-check_signatures.field-0.0 = search rules in
    refused_by c.args.context.now entry group P19 c.in_err-check_signatures.field-0.0 c.from_residual-in_err-check_signatures.result c.in_err-check_signatures.ensures is

pub returns-in_err-check_spec_ids : goal.returns-in_err-check_spec_ids
returns-in_err-check_spec_ids c =
    λ entry. let is : c.from_residual-in_err-check_spec_ids.result ≡ Err c.in_err-check_spec_ids.field-0.0 = search rules in
    refused_by c.args.context.now entry group P20 c.in_err-check_spec_ids.field-0.0 c.from_residual-in_err-check_spec_ids.result c.in_err-check_spec_ids.ensures is
