use Rattle.std.proofs.Common.{◌∙◌, ℕ, ap, unwrap_or}
use Rattle.spv_ops.specs.Enumerants.{decoration_number}
use Rattle.spv_ops.specs.declared.Decoration.TheVariants as decoration
use Rattle.spv_decor.specs.Rows.{value_of}
use Rattle.group_items.specs.Sides.{bytes_in}
use Rattle.memory_places.proofs.located.bytes_in_buffer.Goals as goal

pub returns : goal.returns
returns c =
    let set : ℕ = unwrap_or (value_of c.args.decor.now c.args.variable.now.result (decoration_number decoration.DescriptorSet)) 0 in
    c.bytes_of.ensures ∙ (ap (λ n. bytes_in c.args.sizes.now n c.literal-binding.result) c.literal-set.ensures ∙ ap (λ n. bytes_in c.args.sizes.now set n) c.literal-binding.ensures)
