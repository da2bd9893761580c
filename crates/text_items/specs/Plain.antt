-- The declarations of variables that are no blocks.
use Rattle.std.specs.Prelude.{if◌then◌else◌}
use Rattle.spv_module.specs.declared.inst.Inst.{Inst}
use Rattle.glsl_ast.specs.Tree.{Decl, shared, global}
use Rattle.text_rules.specs.Constants.{Source}
use Rattle.text_rules.specs.Printed.{is_private}
use Rattle.text_rules.specs.Declarations.{Names, type_at, pointee_at, initial}

-- of class Workgroup, and of class Private
abbrev pub shared_decl : Source → Names → Inst → Decl
shared_decl s names v = shared (type_at s names (pointee_at s v.ty)) (names.id v.result)

abbrev pub private_decl : Source → Names → Inst → Decl
private_decl s names v = global (type_at s names (pointee_at s v.ty)) (names.id v.result) (initial s names v)

abbrev pub plain_decl : Source → Names → Inst → Decl
plain_decl s names v = if is_private v then private_decl s names v else shared_decl s names v
