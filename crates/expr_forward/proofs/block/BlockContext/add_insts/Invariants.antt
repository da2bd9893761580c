use Rattle.std.proofs.Common.{◌≡◌, ◌++◌, drop, map}
use Rattle.std.specs.Prelude.{flat_map}
use Rattle.spv_module.specs.declared.inst.Inst.{Inst}
use Rattle.glsl_ast.specs.View.{stmt_of}
use Rattle.expr_forward.specs.Context.{scope_of}
use Rattle.expr_forward.specs.Statements.{inst_text, kind_of}
use Rattle.expr_forward.proofs.block.BlockContext.add_insts.Given as goal

abbrev pub invariant-loop-inst : goal.invariant-loop-inst
invariant-loop-inst l =
    map stmt_of l.into.items ++ flat_map (λ (i : Inst). inst_text (scope_of l.self.context.now) l.self.block i (kind_of i.op)) (drop l.inst-index l.insts)
    ≡ map stmt_of l.initial.into.items ++ flat_map (λ (i : Inst). inst_text (scope_of l.self.context.now) l.self.block i (kind_of i.op)) l.insts
