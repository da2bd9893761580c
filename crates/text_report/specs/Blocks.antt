-- What a report tells of blocks and shared variables. Members of objects stand in the order of their keys.
use Rattle.std.specs.Prelude.{ℕ, Bool, true, false, Option, Some, None, codes, map}
use Rattle.glsl_ast.specs.Tree as tree
use Rattle.glsl_ast.specs.Tree.{Text, Member, Decl, block, shared}
use Rattle.glsl_ast.specs.declared.items.BlockPlace.{BlockPlace}
use Rattle.glsl_ast.specs.declared.items.BlockPlace.TheVariants.{Set, Push}
use Rattle.glsl_ast.specs.declared.items.Qual.{Qual}
use Rattle.glsl_ast.specs.declared.items.Qual.TheVariants.{Coherent, Volatile, Restrict, Readonly, Writeonly}
use Rattle.glsl_grammar.specs.Layout.{type_text}
use Rattle.glsl_grammar.specs.Token.{rules_word}
use Rattle.serde_json.specs.Data.{Data, number, unsigned, string, object, member, no_members}
use Rattle.text_report.specs.Sizes.{number_or_null, array_of}
use Rattle.text_report.specs.declared.blocks.Told.{Told}
use Rattle.text_report.specs.declared.blocks.Told.TheVariants.{Blocks, SharedVariables}

abbrev pub set_number : BlockPlace → Option ℕ
set_number (Set set binding) = Some set
set_number Push = None

abbrev pub binding_number : BlockPlace → Option ℕ
binding_number (Set set binding) = Some binding
binding_number Push = None

abbrev pub kind_text : BlockPlace → Bool → Text
kind_text Push buffer = codes "push"
kind_text (Set set binding) true = codes "buffer"
kind_text (Set set binding) false = codes "uniform"

abbrev pub qualifier_text : Qual → Text
qualifier_text Coherent = codes "coherent"
qualifier_text Volatile = codes "volatile"
qualifier_text Restrict = codes "restrict"
qualifier_text Readonly = codes "readonly"
qualifier_text Writeonly = codes "writeonly"

abbrev pub qualifier_data : Qual → Data
qualifier_data q = string (qualifier_text q)

abbrev pub member_data : Member → Data
member_data (tree.Member.member offset quals ty name) =
    object (member (codes "name") (string name) (member (codes "offset") (number (unsigned offset)) (member (codes "type") (string (type_text ty)) no_members)))

-- of an item that is a block; its name is not that of its instance
abbrev pub block_data : Decl → Option Data
block_data (block place rules quals buffer name members instance) =
    Some (object (member (codes "binding") (number_or_null (binding_number place)) (member (codes "kind") (string (kind_text place buffer))
    (member (codes "layout") (string (rules_word rules)) (member (codes "members") (array_of (map member_data members))
    (member (codes "name") (string name) (member (codes "qualifiers") (array_of (map qualifier_data quals))
    (member (codes "set") (number_or_null (set_number place)) no_members))))))))
block_data _ = None

-- of an item that is a shared variable
abbrev pub shared_data : Decl → Option Data
shared_data (shared ty name) = Some (object (member (codes "name") (string name) (member (codes "type") (string (type_text ty)) no_members)))
shared_data _ = None

-- of an item, where the list tells of such
abbrev pub item_data : Told → Decl → Option Data
item_data Blocks = block_data
item_data SharedVariables = shared_data
