use Rattle.std.proofs.Common.{◌+◌, ◌∙◌, ap}
use Rattle.module_gen.specs.Assembly.{Assembly}
use Rattle.module_gen.proofs.Turns.{whole_kept}
use Rattle.module_gen.proofs.generated.put_pieces.Goals as goal

pub loop-number-preserved : goal.loop-number-preserved
loop-number-preserved c = record {
  version = ap (λ (m : Assembly). m.version) c.in_ok-block.ensures.insts ∙ c.loop-number.invariant.version;
  insts = whole_kept _ _ _ (c.args.n + 1) c.loop-number.number c.loop-number.block _ c.loop-number-test.true c.loop-number.invariant.insts (ap (λ (m : Assembly). m.insts) c.in_ok-block.ensures.insts) c.in_ok-block.ensures.block;
}
