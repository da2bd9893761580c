use Rattle.std.proofs.Common.{◌+◌, ◌*◌, drop, option_map}
use Rattle.glsl_ast.specs.Size.{stmt_size, stmts_size, arms_size}
use Rattle.glsl_ast.specs.View.{stmt_of, stmts_of, arms_of}
use Rattle.glsl_grammar.specs.Layout.{body_text, arms_text}
use Rattle.glsl_print.specs.Level.{level_of}
use Rattle.glsl_print.specs.Parts.{body_of, else_size}
use Rattle.glsl_print.proofs.Steps.{Remains}
use Rattle.glsl_print.proofs.statements.+statement.Given as goal

abbrev pub invariant-print_body-loop-stmt : goal.invariant-print_body-loop-stmt
invariant-print_body-loop-stmt g l = Remains g.K.Sink.written g.K.Sink.faults g.K.Sink.wants l.initial.sink l.initial.page (body_text (level_of l.level) (stmts_of (drop l.stmt-index l.body))) (body_text (level_of l.level) (stmts_of l.body)) l.sink l.page

abbrev pub invariant-print_arms-loop-arm : goal.invariant-print_arms-loop-arm
invariant-print_arms-loop-arm g l = Remains g.K.Sink.written g.K.Sink.faults g.K.Sink.wants l.initial.sink l.initial.page (arms_text (level_of l.level) (arms_of (drop l.arm-index l.arms))) (arms_text (level_of l.level) (arms_of l.arms)) l.sink l.page

abbrev pub decreases-print_stmt : goal.decreases-print_stmt
decreases-print_stmt g l = 4 * stmt_size (stmt_of l.stmt.now)

abbrev pub decreases-print_if : goal.decreases-print_if
decreases-print_if g l = 4 * (stmts_size (stmts_of l.yes.now) + else_size (option_map body_of l.no.now)) + 3

abbrev pub decreases-print_else : goal.decreases-print_else
decreases-print_else g l = 4 * else_size (option_map body_of l.no.now) + 2

abbrev pub decreases-print_inner : goal.decreases-print_inner
decreases-print_inner g l = 4 * stmts_size (stmts_of l.body.now) + 1

abbrev pub decreases-print_body : goal.decreases-print_body
decreases-print_body g l = 4 * stmts_size (stmts_of l.body.now)

abbrev pub decreases-print_switch : goal.decreases-print_switch
decreases-print_switch g l = 4 * arms_size (arms_of l.arms.now) + 1

abbrev pub decreases-print_arms : goal.decreases-print_arms
decreases-print_arms g l = 4 * arms_size (arms_of l.arms.now)
