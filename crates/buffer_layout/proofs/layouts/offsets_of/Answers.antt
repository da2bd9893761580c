-- A struct that ends within holds members that do.
use Rattle.std.proofs.Common.{◌≡◌, ap, ◌∙◌}
use Rattle.spv_types.specs.Tree.{struct}
use Rattle.spv_types.specs.View.{tree_of, trees_of}
use Rattle.spv_types.proofs.Views.{shape-Struct}
use Rattle.buffer_layout.proofs.Fits.{members_fit}
use Rattle.buffer_layout.proofs.layouts.offsets_of.Goals as goal

pub offsets_behind-requires : goal.offsets_behind-requires
offsets_behind-requires c =
    let ts = trees_of c.in-Struct.members.items in
    let row : tree_of c.args.shape.now ≡ struct c.in-Struct.field-0.0 ts = ap tree_of c.in-Struct.is ∙ shape-Struct c.in-Struct.field-0 c.in-Struct.members in
    rw c.deref.ensures.value (members_fit c.args.ruler.now.kind c.in-Struct.field-0.0 ts (rw row at c.requires))
