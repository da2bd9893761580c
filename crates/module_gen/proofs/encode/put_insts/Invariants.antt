use Rattle.std.proofs.Common.{◌≡◌, ◌++◌, take, map}
use Rattle.spv_words.specs.Words.{octets_of}
use Rattle.module_gen.specs.Assembly.{stream, instruction}
use Rattle.module_gen.proofs.encode.put_insts.Given as goal

abbrev pub invariant-loop-inst : goal.invariant-loop-inst
invariant-loop-inst l = l.bytes.items ≡ l.initial.bytes.items ++ octets_of (stream (map instruction (take l.inst-index l.insts)))
