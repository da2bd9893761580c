use Rattle.std.proofs.Common.{◌≡◌, List, [], ◌∷◌, Err, rules}
use Rattle.spv_words.specs.declared.rule.Rule.{Rule}
use Rattle.spv_words.specs.declared.rule.Rule.TheVariants.{P13, P14, P15, P16}
use Rattle.declaration_check.proofs.Groups.{refused_by}
use Rattle.declaration_check.proofs.declarations.check_variables.Goals as goal

abbrev group : List Rule
group = P13 ∷ P14 ∷ P15 ∷ P16 ∷ []

pub returns-in_err-check_classes : goal.returns-in_err-check_classes
returns-in_err-check_classes c =
    λ entry. let is : c.from_residual.result ≡ Err c.in_err-check_classes.field-0.0 = search rules in
    refused_by c.args.context.now entry group P13 c.in_err-check_classes.field-0.0 c.from_residual.result c.in_err-check_classes.ensures is

pub returns-in_err-check_inputs : goal.returns-in_err-check_inputs
returns-in_err-check_inputs c =
    λ entry. let is : c.from_residual-in_err-check_inputs.result ≡ Err c.in_err-check_inputs.field-0.0 = search rules in
    refused_by c.args.context.now entry group P14 c.in_err-check_inputs.field-0.0 c.from_residual-in_err-check_inputs.result c.in_err-check_inputs.ensures is

pub returns-in_err-check_blocks : goal.returns-in_err-check_blocks
returns-in_err-check_blocks c =
    λ entry. let is : c.from_residual-in_err-check_blocks.result ≡ Err c.in_err-check_blocks.field-0.0 = search rules in
    refused_by c.args.context.now entry group P15 c.in_err-check_blocks.field-0.0 c.from_residual-in_err-check_blocks.result c.in_err-check_blocks.ensures is

pub returns-in_err-check_initializers : goal.returns-in_err-check_initializers
returns-in_err-check_initializers c =
    λ entry. let is : c.from_residual-in_err-check_initializers.result ≡ Err c.in_err-check_initializers.field-0.0 = search rules in
    refused_by c.args.context.now entry group P16 c.in_err-check_initializers.field-0.0 c.from_residual-in_err-check_initializers.result c.in_err-check_initializers.ensures is
