-- Tests of items and of a whole text: whether each is in the grammar. `declared` tells which names structs have.
use Rattle.std.specs.Prelude.{ℕ, ◌&&◌, Bool, true, false, List, [], ◌∷◌, Option, Some, None, nat_lt}
use Rattle.std.specs.List.{list_all}
use Rattle.glsl_ast.specs.Tree as tree
use Rattle.glsl_ast.specs.Tree.{Text, TypeName, Expr, Field, field, Member, Param, param, Decl, TranslationUnit, translation_unit}
use Rattle.glsl_ast.specs.declared.items.Size.{Size}
use Rattle.glsl_ast.specs.declared.items.BlockPlace.{BlockPlace}
use Rattle.glsl_ast.specs.declared.items.BlockPlace.TheVariants as place
use Rattle.text_check.specs.Words.{is_name, declared_after}
use Rattle.text_check.specs.Parts.{is_spelled, is_type, is_expr}
use Rattle.text_check.specs.Statements.{has_some, are_stmts}

-- a type and a name
abbrev pub is_named : (Text → Bool) → TypeName → Text → Bool
is_named declared t w = is_type declared t && is_name w

abbrev pub is_field : (Text → Bool) → Field → Bool
is_field declared (field t w) = is_named declared t w

abbrev pub is_member : (Text → Bool) → Member → Bool
is_member declared (tree.Member.member n qs t w) = is_spelled n && is_named declared t w

abbrev pub is_param : (Text → Bool) → Param → Bool
is_param declared (param inout t w) = is_named declared t w

abbrev pub is_place : BlockPlace → Bool
is_place (place.Set s b) = is_spelled s && is_spelled b
is_place place.Push = true

abbrev pub is_result : (Text → Bool) → Option TypeName → Bool
is_result declared None = true
is_result declared (Some t) = is_type declared t

abbrev pub is_id : Option ℕ → Bool
is_id None = true
is_id (Some n) = is_spelled n

-- a type, a name and a value
abbrev pub is_valued : (Text → Bool) → TypeName → Text → Expr → Bool
is_valued declared t w e = is_named declared t w && is_expr declared e

abbrev pub are_fields : (Text → Bool) → List Field → Bool
are_fields declared fs = has_some fs && list_all (is_field declared) fs

abbrev pub are_members : (Text → Bool) → List Member → Bool
are_members declared ms = has_some ms && list_all (is_member declared) ms

abbrev pub is_block : (Text → Bool) → Text → List Member → Text → Bool
is_block declared w ms instance = is_name w && is_name instance && are_members declared ms

abbrev pub is_item : (Text → Bool) → Decl → Bool
is_item declared (tree.Decl.struct w fs) = is_name w && are_fields declared fs
is_item declared (tree.Decl.constant id t w e) = is_id id && is_valued declared t w e
is_item declared (tree.Decl.shared t w) = is_named declared t w
is_item declared (tree.Decl.global t w e) = is_valued declared t w e
is_item declared (tree.Decl.block p r qs buffer w ms instance) = is_place p && is_block declared w ms instance
is_item declared (tree.Decl.function result w ps body) = is_result declared result && is_name w && list_all (is_param declared) ps && are_stmts declared body

-- a struct's name counts from the next item on
abbrev pub are_items : (Text → Bool) → List Decl → Bool
are_items declared [] = true
are_items declared (d ∷ ds) = is_item declared d && are_items (declared_after declared d) ds

abbrev pub is_size : Size → Bool
is_size s = nat_lt s.axis 3 && is_spelled s.number

-- no struct
abbrev pub none : Text → Bool
none w = false

abbrev pub is_unit : TranslationUnit → Bool
is_unit (translation_unit ss ds) = (has_some ss && list_all is_size ss) && are_items none ds
