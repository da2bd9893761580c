use Rattle.std.proofs.Common.{◌∙◌, ap}
use Rattle.spv_types.specs.Types.{type_tree}
use Rattle.module_semantics.specs.Memory.{type_along}
use Rattle.memory_places.specs.Kernel.{bare}
use Rattle.memory_places.proofs.variables.shape_along.Goals as goal

pub returns : goal.returns
returns c =
    c.in_ok-shape_of.ensures
    ∙ ap (type_tree c.args.module.now.globals) (c.type_along-ty.ensures ∙ ap (λ t. type_along (bare c.args.module.now) t c.args.path.now) c.variable_type.ensures)
