use Rattle.std.proofs.Common.{◌≡◌, ◌+◌, ◌*◌, IfOk, subst}
use Rattle.spv_words.specs.Words.{octets_of}
use Rattle.module_gen.specs.Assembly.{Assembly, module_words}
use Rattle.module_gen.specs.Generated.{generated, generated_assembly}
use Rattle.module_gen.proofs.Turns.{assembled}
use Rattle.module_gen.proofs.generated.generate.Goals as goal

pub returns : goal.returns
unfolding generated
returns c =
    let whole : c.put_rows.new.builder ≡ generated_assembly c.args.n =
    assembled c.in_ok-builder.builder c.put_frame.new.builder c.put_pieces.new.builder c.put_rows.new.builder c.args.n
    c.in_ok-builder.ensures c.in_ok-put_frame.ensures c.in_ok-put_pieces.ensures c.in_ok-put_rows.ensures in
    subst (λ (m : Assembly). IfOk c.finish.result (λ bytes. bytes.items ≡ octets_of (module_words m (32 + 16 * c.args.n)))) whole c.finish.ensures.bytes
