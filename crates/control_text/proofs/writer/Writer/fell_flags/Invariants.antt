use Rattle.std.proofs.Common.{◌≡◌, ◌++◌, map, drop}
use Rattle.structure_recover.specs.View.{group_of, groups_of}
use Rattle.glsl_ast.specs.View.{stmt_of}
use Rattle.control_text.specs.Statements.{fell_flags}
use Rattle.control_text.proofs.writer.Writer.fell_flags.Given as goal

abbrev pub invariant-loop-group : goal.invariant-loop-group
invariant-loop-group g l = map stmt_of l.out.items ++ fell_flags (g.B.BlockText.blocks l.self.blocks.now) (groups_of (map group_of (drop l.group-index l.groups))) ≡ map stmt_of l.initial.out.items ++ fell_flags (g.B.BlockText.blocks l.self.blocks.now) (groups_of (map group_of l.groups))
