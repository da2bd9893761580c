-- A report has no number with a fraction, so that its text is determined.
use Rattle.std.proofs.Common.{◌≡◌, ℕ, false, List, [], ◌∷◌, map, Option, None, Some, IfSome, option_map, refl, ◌∙◌, ap}
use Rattle.std.specs.Prelude.{ℤ, pos, negsuc, option_and_then}
use Rattle.std.specs.Option.{option_or}
use Rattle.std.specs.Int.{w32, cast_signed}
use Rattle.std.specs.List.{filter_map, cons_option, find}
use Rattle.std.proofs.lemmas.Bool.{or_from}
use Rattle.spv_module.specs.State.{ModuleState}
use Rattle.spv_ops.specs.Enumerants.{decoration_number}
use Rattle.spv_ops.specs.declared.Decoration.TheVariants as decoration
use Rattle.spv_decor.specs.Rows.{value_of}
use Rattle.glsl_ast.specs.Tree as tree
use Rattle.glsl_ast.specs.Tree.{Text, Expr, literal, Member, Decl, struct, constant, shared, global, block, function, TranslationUnit, translation_unit}
use Rattle.glsl_ast.specs.declared.expressions.Literal.{Literal}
use Rattle.glsl_ast.specs.declared.expressions.Literal.TheVariants.{Int, Uint, Hex, Truth}
use Rattle.glsl_ast.specs.declared.items.Qual.{Qual}
use Rattle.glsl_ast.specs.declared.items.Size.{Size}
use Rattle.serde_json.specs.Data.{Data}
use Rattle.serde_json.specs.Find.{is_float, of_integer}
use Rattle.serde_json.specs.View.{items_of}
use Rattle.serde_json.specs.Written.{has_float, items_have_float}
use Rattle.text_report.specs.Sizes.{number_or_null, number_at, id_at, axes, size_data, size_ids_data}
use Rattle.text_report.specs.Blocks.{binding_number, set_number, member_data, qualifier_data, block_data, shared_data}
use Rattle.text_report.specs.Constants.{literal_data, default_data, declares, declared_data, is_part, part_data, spec_data, spec_by, spec}
use Rattle.text_report.specs.Report.{report_data, IsReportBy}

-- the data, where there are some, have no float
abbrev IsWhole : Option Data → Type 0
IsWhole o = IfSome o (λ d. has_float d ≡ false)

whole_items : {X : Type 0} (f : X → Data) → ((x : X) → has_float (f x) ≡ false) → (xs : List X) → items_have_float (items_of (map f xs)) ≡ false
whole_items f h [] = refl
whole_items f h (x ∷ xs) = or_from (has_float (f x)) _ (h x) (whole_items f h xs)

whole_more : (o : Option Data) (ds : List Data) → IsWhole o → items_have_float (items_of ds) ≡ false → items_have_float (items_of (cons_option o ds)) ≡ false
whole_more None ds h rest = rest
whole_more (Some d) ds h rest = or_from (has_float d) _ h rest

whole_some : {X : Type 0} (f : X → Option Data) → ((x : X) → IsWhole (f x)) → (xs : List X) → items_have_float (items_of (filter_map f xs)) ≡ false
whole_some f h [] = refl
whole_some f h (x ∷ xs) = whole_more (f x) (filter_map f xs) (h x) (whole_some f h xs)

whole_number : (n : Option ℕ) → has_float (number_or_null n) ≡ false
whole_number None = refl
whole_number (Some n) = refl

whole_member : (m : Member) → has_float (member_data m) ≡ false
whole_member (tree.Member.member offset quals ty name) = refl

whole_qualifier : (q : Qual) → has_float (qualifier_data q) ≡ false
whole_qualifier q = refl

whole_block : (d : Decl) → IsWhole (block_data d)
whole_block (struct name fields) = tt
whole_block (constant id ty name value) = tt
whole_block (shared ty name) = tt
whole_block (global ty name value) = tt
whole_block (block place rules quals buffer name members instance) =
    or_from (has_float (number_or_null (binding_number place))) _ (whole_number (binding_number place))
    (or_from (items_have_float (items_of (map member_data members))) _ (whole_items member_data whole_member members)
    (or_from (items_have_float (items_of (map qualifier_data quals))) _ (whole_items qualifier_data whole_qualifier quals)
    (or_from (has_float (number_or_null (set_number place))) _ (whole_number (set_number place)) refl)))
whole_block (function result name params body) = tt

whole_shared : (d : Decl) → IsWhole (shared_data d)
whole_shared (struct name fields) = tt
whole_shared (constant id ty name value) = tt
whole_shared (shared ty name) = refl
whole_shared (global ty name value) = tt
whole_shared (block place rules quals buffer name members instance) = tt
whole_shared (function result name params body) = tt

whole_integer : (z : ℤ) → is_float (of_integer z) ≡ false
whole_integer (pos n) = refl
whole_integer (negsuc n) = refl

whole_literal : (l : Literal) → has_float (literal_data l) ≡ false
whole_literal (Int n) = whole_integer (cast_signed w32 n)
whole_literal (Hex n) = whole_integer (cast_signed w32 n)
whole_literal (Uint n) = refl
whole_literal (Truth b) = refl

whole_default : (e : Expr) → has_float (default_data e) ≡ false
whole_default (literal l) = whole_literal l
whole_default _ = refl

whole_constant : (id : Option ℕ) (ty : tree.TypeName) (name : Text) (value : Expr) → IsWhole (declared_data (constant id ty name value))
whole_constant None ty name value = tt
whole_constant (Some id) ty name value = or_from (has_float (default_data value)) _ (whole_default value) refl

whole_declared : (d : Decl) → IsWhole (declared_data d)
whole_declared (struct name fields) = tt
whole_declared (constant id ty name value) = whole_constant id ty name value
whole_declared (shared ty name) = tt
whole_declared (global ty name value) = tt
whole_declared (block place rules quals buffer name members instance) = tt
whole_declared (function result name params body) = tt

whole_part : (ss : List Size) (s : Size) → has_float (part_data ss s) ≡ false
whole_part ss s = or_from (has_float (number_or_null (number_at ss s.axis))) _ (whole_number (number_at ss s.axis)) refl

whole_then : {X : Type 0} (f : X → Option Data) → ((x : X) → IsWhole (f x)) → (o : Option X) → IsWhole (option_and_then f o)
whole_then f h None = tt
whole_then f h (Some x) = h x

whole_or : (ss : List Size) (o : Option Size) (p : Option Data) → IsWhole p → IsWhole (option_or (option_map (part_data ss) o) p)
whole_or ss None p h = h
whole_or ss (Some s) p h = whole_part ss s

whole_spec : (u : TranslationUnit) (id : ℕ) → IsWhole (spec_data u id)
whole_spec (translation_unit ss ds) id = whole_or ss (find (is_part id) ss) _ (whole_then declared_data whole_declared (find (declares id) ds))

whole_size : (ss : List Size) → has_float (size_data ss) ≡ false
whole_size ss = whole_items (λ axis. number_or_null (number_at ss axis)) (λ axis. whole_number (number_at ss axis)) axes

whole_size_ids : (ss : List Size) → has_float (size_ids_data ss) ≡ false
whole_size_ids ss = whole_items (λ axis. number_or_null (id_at ss axis)) (λ axis. whole_number (id_at ss axis)) axes

pub whole_report : (m : ModuleState) (name : Option Text) (u : TranslationUnit) → has_float (report_data m name u) ≡ false
whole_report m name (translation_unit ss ds) =
    or_from (items_have_float (items_of (filter_map block_data ds))) _ (whole_some block_data whole_block ds)
    (or_from (items_have_float (items_of (filter_map shared_data ds))) _ (whole_some shared_data whole_shared ds)
    (or_from (has_float (size_data ss)) _ (whole_size ss)
    (or_from (has_float (size_ids_data ss)) _ (whole_size_ids ss)
    (or_from (items_have_float (items_of (spec m (translation_unit ss ds)))) _
    (whole_some (spec_by m (translation_unit ss ds)) (λ g. whole_then (spec_data (translation_unit ss ds)) (whole_spec (translation_unit ss ds)) (value_of m.heads g.result (decoration_number decoration.SpecId))) m.globals) refl))))

pub no_float : (m : ModuleState) (name : Option Text) (IsText : TranslationUnit → Type 0) (d : Data) → IsReportBy m name IsText d → has_float d ≡ false
no_float m name IsText d report = ap has_float report.is ∙ whole_report m name report.unit
