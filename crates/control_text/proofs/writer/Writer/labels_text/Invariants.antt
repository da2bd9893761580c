use Rattle.std.proofs.Common.{◌≡◌, map, take}
use Rattle.glsl_ast.specs.declared.statements.Label.TheVariants.{Case}
use Rattle.control_text.proofs.writer.Writer.labels_text.Given as goal

abbrev pub invariant-loop-word : goal.invariant-loop-word
invariant-loop-word g l = l.labels.items ≡ map (λ word. Case ((g.B.BlockText.blocks l.self.blocks.now).case l.header word)) (take l.word-index l.words)
