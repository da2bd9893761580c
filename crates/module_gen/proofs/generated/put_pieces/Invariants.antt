use Rattle.std.proofs.Common.{◌≡◌, ◌+◌, ◌-◌, ◌++◌}
use Rattle.module_gen.specs.Generated.{pieces_from}
use Rattle.module_gen.proofs.generated.put_pieces.Given as goal

abbrev pub invariant-loop-number : goal.invariant-loop-number
invariant-loop-number l = record {
  version : l.builder.version ≡ l.initial.builder.version;
  insts : l.builder.insts ++ pieces_from (l.n + 1 - l.number) l.number l.block ≡ l.initial.builder.insts ++ pieces_from l.n 1 16;
}
