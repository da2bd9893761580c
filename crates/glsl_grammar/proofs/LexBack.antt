-- The text of a tree has the tree's tokens.
use Rattle.std.proofs.Common.{◌≡◌, ℕ, zero, suc, ◌<◌, ◌^◌, Bool, true, false, List, [], ◌∷◌, ◌++◌, sym, ap, ◌∙◌, arith, append-nil}
use Rattle.std.specs.Prelude.{Option, Some, None}
use Rattle.glsl_ast.specs.Tree as tree
use Rattle.glsl_ast.specs.Tree.{Text, TypeName, Field, field, Member, Param, param, Decl, TranslationUnit, translation_unit}
use Rattle.glsl_ast.specs.declared.items.Size.{Size}
use Rattle.glsl_ast.specs.declared.items.BlockPlace.{BlockPlace}
use Rattle.glsl_ast.specs.declared.items.BlockPlace.TheVariants as place
use Rattle.glsl_ast.specs.declared.items.Qual.{Qual}
use Rattle.glsl_grammar.specs.declared.marks.Mark.TheVariants as mark
use Rattle.glsl_grammar.specs.Marks.{mark_text}
use Rattle.glsl_grammar.specs.Token.{Token, word, right_brace, right_paren, equals, layout_, left_paren, left_brace, semicolon, in_, const_, put_field, put_fields, put_quals, put_member, put_members, put_inout, put_param, put_more_params, put_params, put_place, put_result_type, put_constant_id, put_decl, put_decls, size_word, put_size, put_more_sizes, put_sizes, put_body, put_unit}
use Rattle.glsl_grammar.specs.Lex.{lex, glsl_tokens}
use Rattle.glsl_grammar.specs.Layout.{field_text, fields_text, quals_text, member_text, members_text, inout_text, param_text, more_params_text, params_text, place_text, result_type_text, const_text, decl_text, decls_text, size_mark, size_text, more_sizes_text, sizes_text, unit_text, body_text}
use Rattle.glsl_grammar.specs.Spelled.{AreSpelledFields, AreSpelledMembers, IsSpelledParam, AreSpelledParams, IsSpelledPlace, IsSpelledResult, IsSpelledId, IsSpelledDecl, AreSpelledDecls, AreSpelledSizes, IsSpelledType, IsName}
use Rattle.glsl_grammar.specs.Scopes.{AreAxes, IsDeclared}
use Rattle.glsl_grammar.specs.InGrammar.{IsInGrammar}
use Rattle.glsl_grammar.proofs.Words.{IsBoundary, lex_nothing}
use Rattle.glsl_grammar.proofs.Pieces.{Anything, Lexes, IsCut, none, both, ends, cut_on, cut, regroup, regroup_cut}
use Rattle.glsl_grammar.proofs.MarkTokens.{push_constant_piece, size_x_piece, size_y_piece, size_z_piece, size_x_id_piece, size_y_id_piece, size_z_id_piece, sizes_end_cut, indent_piece, struct_piece, fields_open_cut, fields_close_piece, const_piece, constant_id_piece, const_after_id_cut, shared_piece, set_piece, binding_cut, rules_cut, qual_piece, kind_piece, instance_open_piece, offset_piece, offset_close_cut, void_piece, inout_piece, body_open_cut, body_close_piece, open_cut, space_cut, comma_cut, equals_cut, end_cut, version_line}
use Rattle.glsl_grammar.proofs.ExprTokens.{name_piece, number_piece, type_piece, expr_piece}
use Rattle.glsl_grammar.proofs.StmtTokens.{body_piece}

-- a type, a name and the end of the line
declared_piece : (t : TypeName) (w : Text) → IsSpelledType t → IsName w → Lexes Anything (field_text (field t w)) (put_field (field t w))
declared_piece t w h g = both indent_piece (cut (type_piece t h) space_cut (ends (name_piece w g) end_cut))

fields_piece : (fs : List Field) → AreSpelledFields fs → {w : Text} {f : List Token → List Token} → Lexes Anything w (λ ts. right_brace ∷ f ts) → Lexes Anything (fields_text fs ++ w) (λ ts. put_fields fs (f ts))
fields_piece [] h rest = rest
fields_piece (field t n ∷ fs) h {w} {f} rest = regroup (field_text (field t n)) (fields_text fs) w (both (declared_piece t n h.0.0 h.0.1) (fields_piece fs h.1 {w = w} {f = f} rest))

quals_piece : (qs : List Qual) → Lexes Anything (quals_text qs) (put_quals qs)
quals_piece [] = none
quals_piece (q ∷ qs) = both (qual_piece q) (quals_piece qs)

members_piece : (ms : List Member) → AreSpelledMembers ms → {w : Text} {f : List Token → List Token} → Lexes Anything w (λ ts. right_brace ∷ f ts) → Lexes Anything (members_text ms ++ w) (λ ts. put_members ms (f ts))
members_piece [] h rest = rest
members_piece (tree.Member.member n qs t m ∷ ms) h {w} {f} rest =
    let one : Lexes Anything (member_text (tree.Member.member n qs t m)) (put_member (tree.Member.member n qs t m)) =
    both indent_piece (both offset_piece (cut (number_piece n h.0.0) offset_close_cut (both (quals_piece qs) (cut (type_piece t h.0.1.0) space_cut (ends (name_piece m h.0.1.1) end_cut))))) in
    regroup (member_text (tree.Member.member n qs t m)) (members_text ms) w (both one (members_piece ms h.1 {w = w} {f = f} rest))

inout_part : (b : Bool) → Lexes Anything (inout_text b) (put_inout b)
inout_part true = inout_piece
inout_part false = none

param_piece : (p : Param) → IsSpelledParam p → Lexes IsBoundary (param_text p) (put_param p)
param_piece (param b t w) h = both (inout_part b) (cut (type_piece t h.0) space_cut (name_piece w h.1))

more_params_cut : (ps : List Param) → AreSpelledParams ps → {w : Text} {f : List Token → List Token} → IsCut w (λ ts. right_paren ∷ f ts) → IsCut (more_params_text ps ++ w) (λ ts. put_more_params ps (f ts))
more_params_cut [] h rest = rest
more_params_cut (p ∷ ps) h {w} {f} rest =
    regroup_cut (mark_text mark.Comma) (param_text p ++ more_params_text ps) w (cut_on comma_cut (regroup (param_text p) (more_params_text ps) w (ends (param_piece p h.0) (more_params_cut ps h.1 {w = w} {f = f} rest))))

params_piece : (ps : List Param) → AreSpelledParams ps → {w : Text} {f : List Token → List Token} → IsCut w (λ ts. right_paren ∷ f ts) → Lexes Anything (params_text ps ++ w) (λ ts. put_params ps (f ts))
params_piece [] h rest = rest.lexes
params_piece (p ∷ ps) h {w} {f} rest = regroup (param_text p) (more_params_text ps) w (ends (param_piece p h.0) (more_params_cut ps h.1 {w = w} {f = f} rest))

place_piece : (p : BlockPlace) → IsSpelledPlace p → Lexes IsBoundary (place_text p) (λ ts. layout_ ∷ left_paren ∷ put_place p ts)
place_piece (place.Set s b) h = both set_piece (cut (number_piece s h.0) binding_cut (number_piece b h.1))
place_piece place.Push h = push_constant_piece

result_type_piece : (o : Option TypeName) → IsSpelledResult o → Lexes Anything (result_type_text o) (put_result_type o)
result_type_piece None h = void_piece
result_type_piece (Some t) h = ends (type_piece t h) space_cut

const_part : (o : Option ℕ) → IsSpelledId o → Lexes Anything (const_text o) (λ ts. put_constant_id o (const_ ∷ ts))
const_part None h = const_piece
const_part (Some n) h = both constant_id_piece (ends (number_piece n h) const_after_id_cut)

decl_piece : (d : Decl) → IsSpelledDecl d → Lexes Anything (decl_text d) (put_decl d)
decl_piece (tree.Decl.struct w fs) h = both struct_piece (cut (name_piece w h.0) fields_open_cut (fields_piece fs h.1 fields_close_piece))
decl_piece (tree.Decl.constant id t w e) h = both (const_part id h.0) (cut (type_piece t h.1.0) space_cut (cut (name_piece w h.1.1.0) equals_cut (ends (expr_piece e h.1.1.1) end_cut)))
decl_piece (tree.Decl.shared t w) h = both shared_piece (cut (type_piece t h.0) space_cut (ends (name_piece w h.1) end_cut))
decl_piece (tree.Decl.global t w e) h = cut (type_piece t h.0) space_cut (cut (name_piece w h.1.0) equals_cut (ends (expr_piece e h.1.1) end_cut))
decl_piece (tree.Decl.block p r qs buffer w ms instance) h =
    cut (place_piece p h.0) (rules_cut r) (both (quals_piece qs) (both (kind_piece buffer) (cut (name_piece w h.1.0) fields_open_cut
    (members_piece ms h.1.1.0 (both instance_open_piece (ends (name_piece instance h.1.1.1) end_cut))))))
decl_piece (tree.Decl.function result w ps body) h =
    both (result_type_piece result h.0) (cut (name_piece w h.1.0) open_cut
    (params_piece ps h.1.1.0 {w = mark_text mark.BodyOpen ++ (body_text 1 body ++ mark_text mark.BodyClose)} {f = λ ts. left_brace ∷ put_body body ts} (cut_on body_open_cut (body_piece 1 body h.1.1.1 body_close_piece))))

decls_piece : (ds : List Decl) → AreSpelledDecls ds → Lexes Anything (decls_text ds) (put_decls ds)
decls_piece [] h = none
decls_piece (d ∷ ds) h = both (decl_piece d h.0) (decls_piece ds h.1)

-- the sizes of the workgroup
size_name_piece : (axis : ℕ) (by_id : Bool) → axis < 3 → Lexes Anything (mark_text (size_mark axis by_id)) (λ ts. word (size_word axis by_id) ∷ equals ∷ ts)
size_name_piece zero true h = size_x_id_piece
size_name_piece zero false h = size_x_piece
size_name_piece (suc zero) true h = size_y_id_piece
size_name_piece (suc zero) false h = size_y_piece
size_name_piece (suc (suc zero)) true h = size_z_id_piece
size_name_piece (suc (suc zero)) false h = size_z_piece
size_name_piece (suc (suc (suc n))) b h = absurd (omega arith)

size_piece : (z : Size) → z.axis < 3 → z.number < 2 ^ 32 → Lexes IsBoundary (size_text z) (put_size z)
size_piece z a h = both (size_name_piece z.axis z.by_id a) (number_piece z.number h)

more_sizes_cut : (zs : List Size) → AreAxes zs → AreSpelledSizes zs → {w : Text} {f : List Token → List Token} → IsCut w (λ ts. right_paren ∷ f ts) → IsCut (more_sizes_text zs ++ w) (λ ts. put_more_sizes zs (f ts))
more_sizes_cut [] a h rest = rest
more_sizes_cut (z ∷ zs) a h {w} {f} rest =
    regroup_cut (mark_text mark.Comma) (size_text z ++ more_sizes_text zs) w (cut_on comma_cut (regroup (size_text z) (more_sizes_text zs) w (ends (size_piece z a.0 h.0) (more_sizes_cut zs a.1 h.1 {w = w} {f = f} rest))))

sizes_piece : (zs : List Size) → AreAxes zs → AreSpelledSizes zs → {w : Text} {f : List Token → List Token} → IsCut w (λ ts. right_paren ∷ f ts) → Lexes Anything (sizes_text zs ++ w) (λ ts. put_sizes zs (f ts))
sizes_piece [] a h rest = rest.lexes
sizes_piece (z ∷ zs) a h {w} {f} rest = regroup (size_text z) (more_sizes_text zs) w (ends (size_piece z a.0 h.0) (more_sizes_cut zs a.1 h.1 {w = w} {f = f} rest))

pub lex_back : (u : TranslationUnit) → IsInGrammar u → glsl_tokens (unit_text u) ≡ Some (put_unit u)
unfolding IsDeclared
lex_back (translation_unit zs ds) h =
    let behind : Text = sizes_text zs ++ (mark_text mark.SizesEnd ++ decls_text ds) in
    let rest : IsCut (mark_text mark.SizesEnd ++ decls_text ds) (λ ts. right_paren ∷ in_ ∷ semicolon ∷ put_decls ds ts) = cut_on sizes_end_cut (decls_piece ds h.spelled.1) in
    let whole = sizes_piece zs h.declared.1 h.spelled.0 {f = λ ts. in_ ∷ semicolon ∷ put_decls ds ts} rest in
    let tokens : lex behind ≡ put_sizes zs (in_ ∷ semicolon ∷ put_decls ds []) =
    ap lex (sym (append-nil behind)) ∙ whole.by [] tt ∙ ap (λ l. put_sizes zs (in_ ∷ semicolon ∷ put_decls ds l)) lex_nothing in
    version_line behind ∙ ap (λ l. Some (layout_ ∷ left_paren ∷ l)) tokens
