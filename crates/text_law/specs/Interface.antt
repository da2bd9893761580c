-- The interface of a text (GLSL 4.60, sections 4.3.9, 4.4 and 4.4.1.4; the qualifiers of Vulkan): its blocks, the size of its workgroups, and the constants that a specialization may set, each as the module has it.
use Rattle.std.specs.Prelude.{◌≡◌, ◌&&◌, Bool, true, false, List, [], ◌∷◌, filter, flat_map, map, is_some, Option, Some, None}
use Rattle.spv_module.specs.State.{ModuleState}
use Rattle.spv_module.specs.declared.inst.Inst.{Inst}
use Rattle.spv_module.specs.declared.inst.Function.{Function}
use Rattle.layout_rules.specs.Blocks.{block_of}
use Rattle.conformance.specs.Rules.{Options}
use Rattle.name_alloc.specs.Naming.{name_of}
use Rattle.glsl_ast.specs.Tree.{Decl, constant, block, TranslationUnit, translation_unit}
use Rattle.glsl_ast.specs.declared.items.Size.{Size}
use Rattle.text_rules.specs.Constants.{Source, is_constant, reading, free_spec_id, sizes}
use Rattle.text_rules.specs.Printed.{is_operand_in, is_named}
use Rattle.text_rules.specs.Declarations.{Names, block_decl, constant_decl}
use Rattle.unit_rules.specs.Unit.{item_names_of, called, source_of, IsUnitOf}

-- the blocks of a text, and its constants with a `constant_id`, in their order; the line of the size of workgroups
abbrev pub is_block_item : Decl → Bool
is_block_item (block place r quals buffer w members name) = true
is_block_item _ = false

abbrev pub is_spec_item : Decl → Bool
is_spec_item (constant id t w e) = is_some id
is_spec_item _ = false

abbrev pub items_in : TranslationUnit → List Decl
items_in (translation_unit lines items) = items

abbrev pub sizes_in : TranslationUnit → List Size
sizes_in (translation_unit lines items) = lines

-- the block variables of a module that an instruction of these functions has as an operand, in the order of the module: each by its set and binding or as push constants, with its layout, its members at their offsets, qualifiers and names
abbrev pub is_seen : List Function → Inst → Bool
is_seen fs v = is_operand_in fs v.result

abbrev pub block_item : Source → Names → Inst → Option Inst → List Decl
block_item s names v None = []
block_item s names v (Some g) = block_decl s names v g ∷ []

abbrev pub item_of : Source → Names → Inst → List Decl
item_of s names v = block_item s names v (block_of s.of.globals v)

-- a constant that a specialization may set: it has a SpecId that is not overridden, and is no part of the size of workgroups
abbrev pub is_settable : Source → Inst → Bool
is_settable s g = is_constant g && (is_named (reading s g) && is_some (free_spec_id s g.result))

-- By the entry point, the functions and the names of the tree that the definitions make (`made`): the blocks of the text are these blocks of the module, its constants with a `constant_id` these constants, each with its type and default, and the size of workgroups is the module's, part by part a number, or a SpecId with its default.
pub record HasInterface (m : ModuleState) (o : Options) (unit : TranslationUnit) : Type 0 where
  pub made : IsUnitOf m o unit
  pub blocks : filter is_block_item (items_in unit) ≡ flat_map (item_of (source_of m o made.entry) (item_names_of (source_of m o made.entry) (name_of made.claimed))) (filter (is_seen (called made.order m.functions)) m.globals)
  pub constants : filter is_spec_item (items_in unit) ≡ map (constant_decl (source_of m o made.entry) (item_names_of (source_of m o made.entry) (name_of made.claimed))) (filter (is_settable (source_of m o made.entry)) m.globals)
  pub size : sizes_in unit ≡ sizes (source_of m o made.entry)
