-- The tokens of each fixed piece.
use Rattle.std.proofs.Common.{◌≡◌, ℕ, true, false, List, [], ◌∷◌, ◌++◌, refl, ap}
use Rattle.std.specs.Prelude.{Bool, codes, Some}
use Rattle.glsl_ast.specs.declared.expressions.BinOp.{BinOp}
use Rattle.glsl_ast.specs.declared.expressions.BinOp.TheVariants as op
use Rattle.glsl_ast.specs.declared.items.BlockRules.{BlockRules}
use Rattle.glsl_ast.specs.declared.items.BlockRules.TheVariants as rules
use Rattle.glsl_ast.specs.declared.items.Qual.{Qual}
use Rattle.glsl_ast.specs.declared.items.Qual.TheVariants as qual
use Rattle.glsl_grammar.specs.declared.marks.Mark.TheVariants as mark
use Rattle.glsl_grammar.specs.Marks.{mark_text}
use Rattle.glsl_grammar.specs.Token.{Token, word, qualifier, operator, struct_, layout_, const_, shared_, void_, in_, inout_, if_, else_, for_, switch_, case_, default_, break_, continue_, return_, length_, buffer_, uniform_, left_paren, right_paren, left_brace, right_brace, left_bracket, right_bracket, semicolon, comma, dot, equals, not_sign, flip_sign, question, colon, rules_word, kind_token}
use Rattle.glsl_grammar.specs.Lex.{is_white, is_digit, is_word, name_token, sign_token, ended, is_sign, lengthens, begun, lex_on, lex, after_version, glsl_tokens}
use Rattle.glsl_grammar.specs.Layout.{op_mark, qual_mark, rules_mark, kind_mark}
use Rattle.glsl_grammar.proofs.Words.{IsBoundary, word_ends}
use Rattle.glsl_grammar.proofs.Pieces.{Anything, IsUnequal, Lexes, IsCut, closed, cut_of}

-- what the laws of the pieces compute with
opened : Unit {0}
unfolding mark_text is_white is_digit is_word name_token sign_token ended is_sign lengthens begun lex
opened = tt

-- a sign that no byte lengthens
sign_ends : (c : ℕ) (t : Token) → ((d : ℕ) → lengthens (c ∷ []) d ≡ false) → ((ts : List Token) → ended (c ∷ []) ts ≡ t ∷ ts) → (s : List ℕ) → lex_on (c ∷ []) s ≡ t ∷ lex s
unfolding lex ended lengthens
sign_ends c t short is [] = is []
sign_ends c t short is (d ∷ s) = rw (short d, lex_on) (is (lex_on (begun d) s))

left_paren_ends : (s : List ℕ) → lex_on (40 ∷ []) s ≡ left_paren ∷ lex s
unfolding opened
left_paren_ends = sign_ends 40 left_paren (λ d. refl) (λ ts. refl)

right_paren_ends : (s : List ℕ) → lex_on (41 ∷ []) s ≡ right_paren ∷ lex s
unfolding opened
right_paren_ends = sign_ends 41 right_paren (λ d. refl) (λ ts. refl)

left_bracket_ends : (s : List ℕ) → lex_on (91 ∷ []) s ≡ left_bracket ∷ lex s
unfolding opened
left_bracket_ends = sign_ends 91 left_bracket (λ d. refl) (λ ts. refl)

right_bracket_ends : (s : List ℕ) → lex_on (93 ∷ []) s ≡ right_bracket ∷ lex s
unfolding opened
right_bracket_ends = sign_ends 93 right_bracket (λ d. refl) (λ ts. refl)

dot_ends : (s : List ℕ) → lex_on (46 ∷ []) s ≡ dot ∷ lex s
unfolding opened
dot_ends = sign_ends 46 dot (λ d. refl) (λ ts. refl)

flip_sign_ends : (s : List ℕ) → lex_on (126 ∷ []) s ≡ flip_sign ∷ lex s
unfolding opened
flip_sign_ends = sign_ends 126 flip_sign (λ d. refl) (λ ts. refl)

pub size_x_piece : Lexes Anything (mark_text mark.SizeX) (λ ts. word (codes "local_size_x") ∷ equals ∷ ts)
unfolding opened
size_x_piece = closed (λ s. refl)

pub size_y_piece : Lexes Anything (mark_text mark.SizeY) (λ ts. word (codes "local_size_y") ∷ equals ∷ ts)
unfolding opened
size_y_piece = closed (λ s. refl)

pub size_z_piece : Lexes Anything (mark_text mark.SizeZ) (λ ts. word (codes "local_size_z") ∷ equals ∷ ts)
unfolding opened
size_z_piece = closed (λ s. refl)

pub size_x_id_piece : Lexes Anything (mark_text mark.SizeXId) (λ ts. word (codes "local_size_x_id") ∷ equals ∷ ts)
unfolding opened
size_x_id_piece = closed (λ s. refl)

pub size_y_id_piece : Lexes Anything (mark_text mark.SizeYId) (λ ts. word (codes "local_size_y_id") ∷ equals ∷ ts)
unfolding opened
size_y_id_piece = closed (λ s. refl)

pub size_z_id_piece : Lexes Anything (mark_text mark.SizeZId) (λ ts. word (codes "local_size_z_id") ∷ equals ∷ ts)
unfolding opened
size_z_id_piece = closed (λ s. refl)

pub indent_piece : Lexes Anything (mark_text mark.Indent) (λ ts. ts)
unfolding opened
indent_piece = closed (λ s. refl)

pub struct_piece : Lexes Anything (mark_text mark.Struct) (λ ts. struct_ ∷ ts)
unfolding opened
struct_piece = closed (λ s. refl)

pub fields_close_piece : Lexes Anything (mark_text mark.FieldsClose) (λ ts. right_brace ∷ semicolon ∷ ts)
unfolding opened
fields_close_piece = closed (λ s. refl)

pub const_piece : Lexes Anything (mark_text mark.Const) (λ ts. const_ ∷ ts)
unfolding opened
const_piece = closed (λ s. refl)

pub constant_id_piece : Lexes Anything (mark_text mark.ConstantId) (λ ts. layout_ ∷ left_paren ∷ word (codes "constant_id") ∷ equals ∷ ts)
unfolding opened
constant_id_piece = closed (λ s. refl)

pub shared_piece : Lexes Anything (mark_text mark.Shared) (λ ts. shared_ ∷ ts)
unfolding opened
shared_piece = closed (λ s. refl)

pub set_piece : Lexes Anything (mark_text mark.Set) (λ ts. layout_ ∷ left_paren ∷ word (codes "set") ∷ equals ∷ ts)
unfolding opened
set_piece = closed (λ s. refl)

pub buffer_piece : Lexes Anything (mark_text mark.Buffer) (λ ts. buffer_ ∷ ts)
unfolding opened
buffer_piece = closed (λ s. refl)

pub uniform_piece : Lexes Anything (mark_text mark.Uniform) (λ ts. uniform_ ∷ ts)
unfolding opened
uniform_piece = closed (λ s. refl)

pub instance_open_piece : Lexes Anything (mark_text mark.InstanceOpen) (λ ts. right_brace ∷ ts)
unfolding opened
instance_open_piece = closed (λ s. refl)

pub offset_piece : Lexes Anything (mark_text mark.Offset) (λ ts. layout_ ∷ left_paren ∷ word (codes "offset") ∷ equals ∷ ts)
unfolding opened
offset_piece = closed (λ s. refl)

pub void_piece : Lexes Anything (mark_text mark.Void) (λ ts. void_ ∷ ts)
unfolding opened
void_piece = closed (λ s. refl)

pub inout_piece : Lexes Anything (mark_text mark.Inout) (λ ts. inout_ ∷ ts)
unfolding opened
inout_piece = closed (λ s. refl)

pub body_close_piece : Lexes Anything (mark_text mark.BodyClose) (λ ts. right_brace ∷ ts)
unfolding opened
body_close_piece = closed (λ s. refl)

pub else_piece : Lexes Anything (mark_text mark.Else) (λ ts. right_brace ∷ else_ ∷ left_brace ∷ ts)
unfolding opened
else_piece = closed (λ s. refl)

pub if_piece : Lexes Anything (mark_text mark.If) (λ ts. if_ ∷ left_paren ∷ ts)
unfolding opened
if_piece = closed (λ s. ap (λ l. if_ ∷ l) (left_paren_ends s))

pub for_piece : Lexes Anything (mark_text mark.For) (λ ts. for_ ∷ left_paren ∷ semicolon ∷ semicolon ∷ right_paren ∷ left_brace ∷ ts)
unfolding opened
for_piece = closed (λ s. refl)

pub switch_piece : Lexes Anything (mark_text mark.Switch) (λ ts. switch_ ∷ left_paren ∷ ts)
unfolding opened
switch_piece = closed (λ s. ap (λ l. switch_ ∷ l) (left_paren_ends s))

pub case_piece : Lexes Anything (mark_text mark.Case) (λ ts. case_ ∷ ts)
unfolding opened
case_piece = closed (λ s. refl)

pub default_piece : Lexes Anything (mark_text mark.Default) (λ ts. default_ ∷ colon ∷ ts)
unfolding opened
default_piece = closed (λ s. refl)

pub arm_open_piece : Lexes Anything (mark_text mark.ArmOpen) (λ ts. left_brace ∷ ts)
unfolding opened
arm_open_piece = closed (λ s. refl)

pub break_piece : Lexes Anything (mark_text mark.Break) (λ ts. break_ ∷ semicolon ∷ ts)
unfolding opened
break_piece = closed (λ s. refl)

pub continue_piece : Lexes Anything (mark_text mark.Continue) (λ ts. continue_ ∷ semicolon ∷ ts)
unfolding opened
continue_piece = closed (λ s. refl)

pub return_piece : Lexes Anything (mark_text mark.Return) (λ ts. return_ ∷ ts)
unfolding opened
return_piece = closed (λ s. refl)

pub return_void_piece : Lexes Anything (mark_text mark.ReturnVoid) (λ ts. return_ ∷ semicolon ∷ ts)
unfolding opened
return_void_piece = closed (λ s. refl)

pub flip_piece : Lexes Anything (mark_text mark.Flip) (λ ts. flip_sign ∷ ts)
unfolding opened
flip_piece = closed flip_sign_ends

pub sizes_end_cut : IsCut (mark_text mark.SizesEnd) (λ ts. right_paren ∷ in_ ∷ semicolon ∷ ts)
unfolding opened
sizes_end_cut = cut_of (λ s. refl) (λ s. refl)

pub space_cut : IsCut (mark_text mark.Space) (λ ts. ts)
unfolding opened
space_cut = cut_of (λ s. refl) (λ s. refl)

pub comma_cut : IsCut (mark_text mark.Comma) (λ ts. comma ∷ ts)
unfolding opened
comma_cut = cut_of (λ s. refl) (λ s. refl)

pub equals_cut : IsCut (mark_text mark.Equals) (λ ts. equals ∷ ts)
unfolding opened
equals_cut = cut_of (λ s. refl) (λ s. refl)

pub end_cut : IsCut (mark_text mark.End) (λ ts. semicolon ∷ ts)
unfolding opened
end_cut = cut_of (λ s. refl) (λ s. refl)

pub fields_open_cut : IsCut (mark_text mark.FieldsOpen) (λ ts. left_brace ∷ ts)
unfolding opened
fields_open_cut = cut_of (λ s. refl) (λ s. refl)

pub const_after_id_cut : IsCut (mark_text mark.ConstAfterId) (λ ts. right_paren ∷ const_ ∷ ts)
unfolding opened
const_after_id_cut = cut_of (λ s. refl) (λ s. refl)

pub binding_cut : IsCut (mark_text mark.Binding) (λ ts. comma ∷ word (codes "binding") ∷ equals ∷ ts)
unfolding opened
binding_cut = cut_of (λ s. refl) (λ s. refl)

pub offset_close_cut : IsCut (mark_text mark.OffsetClose) (λ ts. right_paren ∷ ts)
unfolding opened
offset_close_cut = cut_of (λ s. refl) (λ s. refl)

pub body_open_cut : IsCut (mark_text mark.BodyOpen) (λ ts. right_paren ∷ left_brace ∷ ts)
unfolding opened
body_open_cut = cut_of (λ s. refl) (λ s. refl)

pub colon_cut : IsCut (mark_text mark.Colon) (λ ts. colon ∷ ts)
unfolding opened
colon_cut = cut_of (λ s. refl) (λ s. refl)

pub open_cut : IsCut (mark_text mark.Open) (λ ts. left_paren ∷ ts)
unfolding opened
open_cut = cut_of (λ s. refl) left_paren_ends

pub close_cut : IsCut (mark_text mark.Close) (λ ts. right_paren ∷ ts)
unfolding opened
close_cut = cut_of (λ s. refl) right_paren_ends

pub question_cut : IsCut (mark_text mark.Question) (λ ts. question ∷ ts)
unfolding opened
question_cut = cut_of (λ s. refl) (λ s. refl)

pub otherwise_cut : IsCut (mark_text mark.Otherwise) (λ ts. colon ∷ ts)
unfolding opened
otherwise_cut = cut_of (λ s. refl) (λ s. refl)

pub dot_cut : IsCut (mark_text mark.Dot) (λ ts. dot ∷ ts)
unfolding opened
dot_cut = cut_of (λ s. refl) dot_ends

pub length_cut : IsCut (mark_text mark.Length) (λ ts. dot ∷ length_ ∷ left_paren ∷ right_paren ∷ ts)
unfolding opened
length_cut = cut_of (λ s. refl) (λ s. ap (λ l. dot ∷ length_ ∷ left_paren ∷ l) (right_paren_ends s))

pub bracket_open_cut : IsCut (mark_text mark.BracketOpen) (λ ts. left_bracket ∷ ts)
unfolding opened
bracket_open_cut = cut_of (λ s. refl) left_bracket_ends

pub bracket_close_cut : IsCut (mark_text mark.BracketClose) (λ ts. right_bracket ∷ ts)
unfolding opened
bracket_close_cut = cut_of (λ s. refl) right_bracket_ends

pub open_extent_cut : IsCut (mark_text mark.OpenExtent) (λ ts. left_bracket ∷ right_bracket ∷ ts)
unfolding opened
open_extent_cut = cut_of (λ s. refl) (λ s. ap (λ l. left_bracket ∷ l) (right_bracket_ends s))

pub size_extent_cut : IsCut (mark_text mark.SizeExtent) (λ ts. left_bracket ∷ word (codes "gl_WorkGroupSize") ∷ dot ∷ ts)
unfolding opened
size_extent_cut = cut_of (λ s. refl) (λ s. ap (λ l. left_bracket ∷ word (codes "gl_WorkGroupSize") ∷ l) (dot_ends s))

not_sign_ends : (s : List ℕ) → IsUnequal s → lex_on (33 ∷ []) s ≡ not_sign ∷ lex s
unfolding opened
not_sign_ends [] h = refl
not_sign_ends (d ∷ s) h = rw (h, lex_on, lengthens, is_sign) refl

pub not_piece : Lexes IsUnequal (mark_text mark.Not) (λ ts. not_sign ∷ ts)
unfolding opened
not_piece = record { by = not_sign_ends }

pub op_cut : (o : BinOp) → IsCut (mark_text (op_mark o)) (λ ts. operator o ∷ ts)
unfolding opened
op_cut op.Add = cut_of (λ s. refl) (λ s. refl)
op_cut op.Sub = cut_of (λ s. refl) (λ s. refl)
op_cut op.Mul = cut_of (λ s. refl) (λ s. refl)
op_cut op.Div = cut_of (λ s. refl) (λ s. refl)
op_cut op.Rem = cut_of (λ s. refl) (λ s. refl)
op_cut op.Shl = cut_of (λ s. refl) (λ s. refl)
op_cut op.Shr = cut_of (λ s. refl) (λ s. refl)
op_cut op.And = cut_of (λ s. refl) (λ s. refl)
op_cut op.Or = cut_of (λ s. refl) (λ s. refl)
op_cut op.Xor = cut_of (λ s. refl) (λ s. refl)
op_cut op.Less = cut_of (λ s. refl) (λ s. refl)
op_cut op.LessEqual = cut_of (λ s. refl) (λ s. refl)
op_cut op.Greater = cut_of (λ s. refl) (λ s. refl)
op_cut op.GreaterEqual = cut_of (λ s. refl) (λ s. refl)
op_cut op.Equal = cut_of (λ s. refl) (λ s. refl)
op_cut op.NotEqual = cut_of (λ s. refl) (λ s. refl)
op_cut op.Both = cut_of (λ s. refl) (λ s. refl)
op_cut op.Either = cut_of (λ s. refl) (λ s. refl)

pub qual_piece : (q : Qual) → Lexes Anything (mark_text (qual_mark q)) (λ ts. qualifier q ∷ ts)
unfolding opened
qual_piece qual.Coherent = closed (λ s. refl)
qual_piece qual.Volatile = closed (λ s. refl)
qual_piece qual.Restrict = closed (λ s. refl)
qual_piece qual.Readonly = closed (λ s. refl)
qual_piece qual.Writeonly = closed (λ s. refl)

pub rules_cut : (r : BlockRules) → IsCut (mark_text (rules_mark r)) (λ ts. comma ∷ word (rules_word r) ∷ right_paren ∷ ts)
unfolding opened
rules_cut rules.Std430 = cut_of (λ s. refl) (λ s. refl)
rules_cut rules.Std140 = cut_of (λ s. refl) (λ s. refl)

pub kind_piece : (b : Bool) → Lexes Anything (mark_text (kind_mark b)) (λ ts. kind_token b ∷ ts)
kind_piece true = buffer_piece
kind_piece false = uniform_piece

pub push_constant_piece : Lexes IsBoundary (mark_text mark.PushConstant) (λ ts. layout_ ∷ left_paren ∷ word (codes "push_constant") ∷ ts)
unfolding opened
push_constant_piece = record { by = λ s b. ap (λ l. layout_ ∷ left_paren ∷ l) (word_ends 112 (codes "ush_constant") s refl b) }

-- the version line, and the `layout(` behind it
pub version_line : (s : List ℕ) → glsl_tokens (mark_text mark.Version ++ s) ≡ Some (layout_ ∷ left_paren ∷ lex s)
unfolding opened glsl_tokens after_version
version_line s = ap (λ l. Some (layout_ ∷ l)) (left_paren_ends s)
