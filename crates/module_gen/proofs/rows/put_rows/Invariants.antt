use Rattle.std.proofs.Common.{◌≡◌, ◌++◌, take, map}
use Rattle.module_gen.specs.Rows.{instruction_of}
use Rattle.module_gen.proofs.rows.put_rows.Given as goal

abbrev pub invariant-loop-op : goal.invariant-loop-op
invariant-loop-op l =
    l.builder ≡ record l.initial.builder { insts = l.initial.builder.insts ++ map instruction_of (take l.op-index l.rows) }
