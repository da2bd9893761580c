use Rattle.std.proofs.Common.{arith}
use Rattle.glsl_ast.specs.View.{expr_of}
use Rattle.std.specs.Prelude.{option_map}
use Rattle.expr_forward.specs.Globals.{global_in}
use Rattle.unit_text.proofs.Expressed.{among_more}
use Rattle.unit_text.proofs.globals.globals_among.Goals as goal

pub loop-inst-preserved : goal.loop-inst-preserved
loop-inst-preserved c = λ n.
    among_more c.args.readings.now c.args.names.now c.args.insts.now c.loop-inst.inst-index n c.inst-item.result (global_in c.loop-inst.globals n) (global_in c.put_if_any.new.globals n) (option_map expr_of c.in_ok-expr.expr) (omega arith) c.inst-item.is (c.loop-inst.invariant n) (c.in_ok-put_if_any.ensures n) c.in_ok-expr.ensures
