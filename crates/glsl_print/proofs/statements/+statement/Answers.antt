use Rattle.std.proofs.Common.{◌<◌, List, refl, ap, arith}
use Rattle.glsl_ast.specs.Size.{stmt_size, stmts_size, arms_size}
use Rattle.glsl_ast.specs.View.{stmt_of, stmts_of, arm_of, arms_of}
use Rattle.glsl_ast.specs.declared.statements.Stmt.{Stmt}
use Rattle.glsl_ast.specs.declared.statements.Arm.{Arm}
use Rattle.glsl_ast.proofs.Sizes.{stmt_in, body_in}
use Rattle.glsl_grammar.specs.Layout.{stmt_text, body_text, arms_text}
use Rattle.glsl_print.specs.Level.{level_of}
use Rattle.glsl_print.specs.Parts.{arm_text}
use Rattle.glsl_print.proofs.Parts.{arms-cons, arm-text, stmt-If, stmt-For_text, stmt-Switch_text, stmt-Break_text, stmt-Continue_text, stmt-Return_text}
use Rattle.glsl_print.proofs.Steps.{goes_then, goes_as, remains_item, remains_none}
use Rattle.glsl_print.proofs.statements.+statement.Goals as goal

pub print_body-print_stmt-requires : goal.print_body-print_stmt-requires
print_body-print_stmt-requires g t c κs within =
    let m = stmt_in c.args.body.now c.loop-stmt.stmt-index c.stmt-item.result c.loop-stmt-test.true in
    let s : stmt_size (stmt_of c.stmt-item.result) < stmts_size (stmts_of c.args.body.now) = rw c.stmt-item.is m in
    (omega (arith, s), within)

pub print_arms-print_inner-requires : goal.print_arms-print_inner-requires
print_arms-print_inner-requires g t c κs within =
    let m = body_in c.args.arms.now c.loop-arm.arm-index c.arm-item.result c.loop-arm-test.true in
    let s : stmts_size (stmts_of c.arm-item.result.body.items) < arms_size (arms_of c.args.arms.now) = rw c.arm-item.is m in
    let e = ap (λ (l : List Stmt). stmts_size (stmts_of l)) c.deref-in-loop-arm.ensures.value in
    (omega (arith, s, e), within)

pub print_body-loop-stmt-preserved : goal.print_body-loop-stmt-preserved
print_body-loop-stmt-preserved g t c =
    remains_item (λ (xs : List Stmt). body_text (level_of c.args.level.now) (stmts_of xs)) (λ (x : Stmt). stmt_text (level_of c.args.level.now) (stmt_of x)) _ _ _ (λ y ys. refl) c.loop-stmt-test.true c.stmt-item.is c.loop-stmt.invariant c.print_stmt.ensures

pub print_body-returns : goal.print_body-returns
print_body-returns g t c = remains_none (λ (xs : List Stmt). body_text (level_of c.args.level.now) (stmts_of xs)) _ _ c.loop-stmt-test.false refl c.loop-stmt.invariant

pub print_arms-loop-arm-preserved : goal.print_arms-loop-arm-preserved
print_arms-loop-arm-preserved g t c =
    remains_item (λ (xs : List Arm). arms_text (level_of c.args.level.now) (arms_of xs)) (λ (x : Arm). arm_text (level_of c.args.level.now) (arm_of x)) _ _ _ (λ y ys. arms-cons (level_of c.args.level.now) y ys) c.loop-arm-test.true c.arm-item.is c.loop-arm.invariant (goes_as (arm-text (level_of c.args.level.now) c.arm-item.result c.deref.result.now c.deref-in-loop-arm.result.now c.deref.ensures.value c.deref-in-loop-arm.ensures.value) (goes_then c.indent.ensures (goes_then c.print_labels.ensures (goes_then c.put_mark.ensures c.print_inner.ensures))))

pub print_arms-returns : goal.print_arms-returns
print_arms-returns g t c = remains_none (λ (xs : List Arm). arms_text (level_of c.args.level.now) (arms_of xs)) _ _ c.loop-arm-test.false refl c.loop-arm.invariant

pub print_stmt-returns-in-If : goal.print_stmt-returns-in-If
print_stmt-returns-in-If g t c = goes_as (stmt-If _ _ _ _ _ _ c.in-If.is c.deref-in-If.ensures.value) (goes_then c.indent.ensures c.print_if.ensures)

pub print_stmt-returns-in-For : goal.print_stmt-returns-in-For
print_stmt-returns-in-For g t c = goes_as (stmt-For_text _ _ _ _ c.in-For.is c.deref-in-For.ensures.value) (goes_then c.indent.ensures (goes_then c.put_mark-in-For.ensures c.print_inner.ensures))

pub print_stmt-returns-in-Switch : goal.print_stmt-returns-in-Switch
print_stmt-returns-in-Switch g t c = goes_as (stmt-Switch_text _ _ _ _ _ c.in-Switch.is c.deref-in-Switch.ensures.value) (goes_then c.indent.ensures c.print_switch.ensures)

pub print_stmt-returns-in-Break : goal.print_stmt-returns-in-Break
print_stmt-returns-in-Break g t c = goes_as (stmt-Break_text _ _ c.in-Break.is) (goes_then c.indent.ensures c.put_mark-in-Break.ensures)

pub print_stmt-returns-in-Continue : goal.print_stmt-returns-in-Continue
print_stmt-returns-in-Continue g t c = goes_as (stmt-Continue_text _ _ c.in-Continue.is) (goes_then c.indent.ensures c.put_mark-in-Continue.ensures)

pub print_stmt-returns-in-Return : goal.print_stmt-returns-in-Return
print_stmt-returns-in-Return g t c = goes_as (stmt-Return_text _ _ _ c.in-Return.is) (goes_then c.indent.ensures c.print_return.ensures)
