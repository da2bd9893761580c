use Rattle.std.proofs.Common.{◌≡◌, ◌∙◌, sym, subst, option_map}
use Rattle.spv_types.specs.View.{tree_of}
use Rattle.module_semantics.specs.Memory.{shape_along, type_along, variable_type}
use Rattle.memory_places.specs.Kernel.{Kernel, bare, kernel, setting_for}
use Rattle.memory_places.proofs.Few.{few_there}
use Rattle.memory_places.proofs.Positions.{shape_bare}
use Rattle.memory_places.proofs.map.MemoryMap.shape_along.Goals as goal

pub returns-clause-shape : goal.returns-clause-shape
returns-clause-shape c = λ told.
    subst (λ (k : Kernel). option_map tree_of c.in_ok-shape_along.field-0 ≡ shape_along (setting_for k told) c.args.variable.now c.args.path.now) c.self.view_is
    (c.in_ok-shape_along.ensures ∙ sym (shape_bare (kernel c.self.inside.source.now c.self.inside.entry.0 c.self.inside.constants.now) told c.args.variable.now c.args.path.now))

pub returns-clause-few : goal.returns-clause-few
returns-clause-few c = few_there c.self.inside.source.now.globals c.self.invariant.few (type_along (bare c.self.inside.source.now) (variable_type (bare c.self.inside.source.now) c.args.variable.now) c.args.path.now) c.in_ok-shape_along.field-0 c.in_ok-shape_along.ensures
