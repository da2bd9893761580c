use Rattle.std.proofs.Common.{subst, sym}
use Rattle.spv_module.specs.State.{ModuleState}
use Rattle.glsl_ast.specs.View.{unit_of}
use Rattle.glsl_ast.specs.declared.items.Unit.{Unit as Tree}
use Rattle.conformance.specs.Rules.{Options}
use Rattle.module_check.specs.Asked.{asked}
use Rattle.emit_glsl.specs.Text.{IsTranslationOf}
use Rattle.cross_core.proofs.Trees.{of_module}
use Rattle.cross_core.proofs.texts.Subject.tree.Goals as goal

pub returns-clause-tree : goal.returns-clause-tree
returns-clause-tree c =
    let o : Options = asked c.args.self.now.options.now in
    let m : ModuleState = c.args.self.now.«module».now in
    let translation = subst (λ (u : Tree). IsTranslationOf m o (unit_of u)) (sym c.forget_parts.ensures) c.in_ok-translate.ensures.translation in
    of_module m o c.requires c.args.self.now.decorated c.in_ok-translate.ensures.passes (unit_of c.forget_parts.result) translation
