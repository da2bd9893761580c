use Rattle.std.proofs.Common.{◌≡◌, ◌∙◌, ap, sym, rules, false, arith}
use Rattle.std.proofs.lemmas.List.{take_all}
use Rattle.spv_types.specs.Tree.{many, values_in}
use Rattle.spv_types.specs.View.{tree_of, value_of}
use Rattle.spv_types.proofs.Views.{value-Many}
use Rattle.profile_rules.specs.Constants.{if_fits}
use Rattle.constant_values.specs.Parts.{part_fits}
use Rattle.value_ops.specs.References.{referred}
use Rattle.constant_values.proofs.Parts.{misfit_reference}
use Rattle.constant_values.proofs.assemble.assembled.Goals as goal

pub returns-then-not-part_fits : goal.returns-then-not-part_fits
returns-then-not-part_fits c =
    let off : part_fits (tree_of c.args.shape.now) c.loop-i.i (value_of c.index-parts-i.result.now) ≡ false = search rules in
    sym (misfit_reference (tree_of c.args.shape.now) c.args.parts.now c.loop-i.i c.index-parts-i.result c.index-parts-i.is (omega arith) off)

pub returns : goal.returns
returns c =
    c.fitting.ensures
    ∙ ap (if_fits (tree_of c.args.shape.now)) (value-Many c.loop-i.copies ∙ ap (λ vs. many (values_in vs)) (c.loop-i.invariant ∙ ap referred (take_all c.loop-i.i c.args.parts.now (omega arith))))
