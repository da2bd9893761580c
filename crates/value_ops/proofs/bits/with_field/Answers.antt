use Rattle.std.proofs.Common.{◌≡◌, ◌<◌, ◌+◌, ◌*◌, ◌/◌, ◌%◌, ◌^◌, rules, arith}
use Rattle.value_ops.proofs.Powers.{sum_below}
use Rattle.value_ops.proofs.bits.with_field.Goals as goal

pub overflow_add-result-2 : goal.overflow_add-result-2
overflow_add-result-2 c =
    let low : c.from-low.result ≡ c.args.base % 2 ^ c.args.offset = search rules in
    let field : c.from.result ≡ c.args.insert % 2 ^ c.args.count = search rules in
    let high : c.from-2.result ≡ c.args.base / 2 ^ (c.args.offset + c.args.count) = search rules in
    let below : c.from-low.result + c.from.result * 2 ^ c.args.offset % 2 ^ 64 + c.from-2.result * 2 ^ (c.args.offset + c.args.count) % 2 ^ 64 < 2 ^ 32 =
    sum_below c.args.offset c.args.count c.args.base c.args.insert c.from-low.result c.from.result c.from-2.result c.ranges.base.fits c.requires low field high in
    omega (arith, below)

pub overflow_cast-result : goal.overflow_cast-result
overflow_cast-result c =
    let low : c.from-low.result ≡ c.args.base % 2 ^ c.args.offset = search rules in
    let field : c.from.result ≡ c.args.insert % 2 ^ c.args.count = search rules in
    let high : c.from-2.result ≡ c.args.base / 2 ^ (c.args.offset + c.args.count) = search rules in
    let below : c.from-low.result + c.from.result * 2 ^ c.args.offset % 2 ^ 64 + c.from-2.result * 2 ^ (c.args.offset + c.args.count) % 2 ^ 64 < 2 ^ 32 =
    sum_below c.args.offset c.args.count c.args.base c.args.insert c.from-low.result c.from.result c.from-2.result c.ranges.base.fits c.requires low field high in
    omega (arith, below)
