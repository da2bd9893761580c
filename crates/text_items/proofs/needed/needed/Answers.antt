use Rattle.std.proofs.Common.{◌≡◌, rules}
use Rattle.id_map.specs.Entries.{is_in}
use Rattle.text_items.proofs.Built.{needed_all}
use Rattle.text_items.proofs.needed.needed.Goals as goal

pub returns : goal.returns
returns c =
    let same : c.globals-globals.result.now ≡ c.args.readings.now.of.globals = search rules in
    needed_all c.args.readings.now (is_in c.args.operand_ids.now) c.args.mentions.now c.globals-globals.result.now (is_in c.in_ok-needed.needed) (is_in c.add_ids.new.ids) (is_in c.add_lengths.new.needed) (is_in c.add_initializers.new.needed) (is_in c.add_earlier.new.needed) same c.in_ok-needed.ensures c.in_ok-add_ids.ensures c.in_ok-add_lengths.ensures c.in_ok-add_initializers.ensures c.in_ok-add_earlier.ensures
