use Rattle.std.proofs.Common.{◌∙◌, refl, ap}
use Rattle.std.specs.Prelude.{unwrap_or}
use Rattle.spv_decor.specs.Rows.{member_value_of}
use Rattle.glsl_ast.specs.View.{name_text, type_of}
use Rattle.text_items.proofs.Fits.{member_is}
use Rattle.text_items.proofs.blocks.member.Goals as goal

pub returns : goal.returns
returns c =
    member_is c.args.written.now.source c.args.written.now.source c.args.names.now c.args.variable.now c.args.block.now c.args.k c.args.part c.counted-number.result c.decor-decor.result.now c.is_buffer-buffer.result c.unwrap_or-offset.result c.in_ok-quals.quals.items (type_of c.in_ok-ty.ty) (name_text c.in_ok-name.name)
    c.counted-number.ensures c.decor-decor.ensures refl c.is_buffer-buffer.ensures (c.unwrap_or-offset.ensures ∙ ap (λ o. unwrap_or o 0) (c.member_value-value.ensures ∙ ap (member_value_of c.decor-decor.result.now c.args.block.now.result c.counted-number.result) c.number.ensures)) c.in_ok-quals.ensures c.in_ok-ty.ensures c.in_ok-name.ensures
