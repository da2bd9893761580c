use Rattle.std.proofs.Common.{◌≡◌, List, [], ◌∷◌, Err, rules}
use Rattle.spv_words.specs.declared.rule.Rule.{Rule}
use Rattle.spv_words.specs.declared.rule.Rule.TheVariants.{P5, P6, P7, P8, P9, P10}
use Rattle.declaration_check.proofs.Groups.{refused_by}
use Rattle.declaration_check.proofs.declarations.check_head.Goals as goal

abbrev group : List Rule
group = P5 ∷ P6 ∷ P7 ∷ P8 ∷ P9 ∷ P10 ∷ []

pub returns-in_err-check_capabilities : goal.returns-in_err-check_capabilities
returns-in_err-check_capabilities c =
    let is : c.from_residual.result ≡ Err c.in_err-check_capabilities.field-0.0 = search rules in
    refused_by c.args.context.now c.args.entry.now group P5 c.in_err-check_capabilities.field-0.0 c.from_residual.result c.in_err-check_capabilities.ensures is

pub returns-in_err-check_imports : goal.returns-in_err-check_imports
returns-in_err-check_imports c =
    let is : c.from_residual-in_err-check_imports.result ≡ Err c.in_err-check_imports.field-0.0 = search rules in
    refused_by c.args.context.now c.args.entry.now group P6 c.in_err-check_imports.field-0.0 c.from_residual-in_err-check_imports.result c.in_err-check_imports.ensures is

pub returns-in_err-check_memory_model : goal.returns-in_err-check_memory_model
returns-in_err-check_memory_model c =
    let is : c.from_residual-in_err-check_memory_model.result ≡ Err c.in_err-check_memory_model.field-0.0 = search rules in
    refused_by c.args.context.now c.args.entry.now group P7 c.in_err-check_memory_model.field-0.0 c.from_residual-in_err-check_memory_model.result c.in_err-check_memory_model.ensures is

pub returns-in_err-check_kernel : goal.returns-in_err-check_kernel
returns-in_err-check_kernel c =
    let is : c.from_residual-in_err-check_kernel.result ≡ Err c.in_err-check_kernel.field-0.0 = search rules in
    refused_by c.args.context.now c.args.entry.now group P8 c.in_err-check_kernel.field-0.0 c.from_residual-in_err-check_kernel.result c.in_err-check_kernel.ensures is

pub returns-in_err-check_modes : goal.returns-in_err-check_modes
returns-in_err-check_modes c =
    let is : c.from_residual-in_err-check_modes.result ≡ Err c.in_err-check_modes.field-0.0 = search rules in
    refused_by c.args.context.now c.args.entry.now group P9 c.in_err-check_modes.field-0.0 c.from_residual-in_err-check_modes.result c.in_err-check_modes.ensures is

pub returns-in_err-check_size : goal.returns-in_err-check_size
returns-in_err-check_size c =
    let is : c.from_residual-in_err-check_size.result ≡ Err c.in_err-check_size.field-0.0 = search rules in
    refused_by c.args.context.now c.args.entry.now group P10 c.in_err-check_size.field-0.0 c.from_residual-in_err-check_size.result c.in_err-check_size.ensures is
