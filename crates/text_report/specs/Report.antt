-- The report on a module by its text.
use Rattle.std.specs.Prelude.{◌≡◌, Bool, List, [], Option, Some, None, codes, drop, find}
use Rattle.std.specs.Option.{option_map_or}
use Rattle.std.specs.List.{filter_map}
use Rattle.std.specs.Str.Lossy.{utf8_lossy}
use Rattle.spv_ops.specs.Opcode.{is}
use Rattle.spv_ops.specs.declared.Op.TheVariants as code
use Rattle.spv_module.specs.State.{ModuleState}
use Rattle.spv_module.specs.declared.inst.Inst.{Inst}
use Rattle.spv_decor.specs.Rows.{text_of}
use Rattle.glsl_ast.specs.Tree.{Text, TranslationUnit, translation_unit}
use Rattle.serde_json.specs.Data.{Data, string, object, member, no_members}
use Rattle.text_report.specs.Sizes.{array_of, size_data, size_ids_data}
use Rattle.text_report.specs.Blocks.{block_data, shared_data}
use Rattle.text_report.specs.Constants.{spec}

-- OpEntryPoint
abbrev pub is_entry_point : Inst → Bool
is_entry_point i = is i.op code.EntryPoint

-- the name in it, which is UTF-8 where the module was read from words
abbrev pub name_in : Inst → Text
name_in i = utf8_lossy (text_of (drop 2 i.args))

-- the name of the entry point: the one that is asked for, else that of the only one
abbrev pub entry_name : Option Text → List Inst → Text
entry_name (Some name) heads = name
entry_name None heads = option_map_or name_in (find is_entry_point heads) []

abbrev pub report_data : ModuleState → Option Text → TranslationUnit → Data
report_data m name (translation_unit ss ds) =
    object (member (codes "blocks") (array_of (filter_map block_data ds)) (member (codes "entry") (string (entry_name name m.heads))
    (member (codes "shared") (array_of (filter_map shared_data ds)) (member (codes "size") (size_data ss) (member (codes "size_ids") (size_ids_data ss)
    (member (codes "spec") (array_of (spec m (translation_unit ss ds))) no_members))))))

-- the data are the report on a module by one of these texts, for an entry point
pub record IsReportBy (m : ModuleState) (name : Option Text) (IsText : TranslationUnit → Type 0) (data' : Data) : Type 0 where
  pub unit : TranslationUnit
  pub text : IsText unit
  pub is : data' ≡ report_data m name unit
