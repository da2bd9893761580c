-- The tokens of the text of an expression.
use Rattle.std.proofs.Common.{◌≡◌, ℕ, zero, suc, ◌+◌, ◌<◌, ◌^◌, Bool, true, false, List, [], ◌∷◌, ◌++◌, length, refl, sym, subst, arith, append_assoc}
use Rattle.std.specs.Prelude.{codes}
use Rattle.std.specs.Fmt.{decimal}
use Rattle.std.proofs.lemmas.Fmt.{decimal_nonempty, decimal_digit}
use Rattle.glsl_ast.specs.Tree as tree
use Rattle.glsl_ast.specs.Tree.{Text, TypeName, type_name, Extent, Base, Expr, Exprs, no_exprs}
use Rattle.glsl_ast.specs.declared.expressions.Literal.{Literal}
use Rattle.glsl_ast.specs.declared.expressions.Literal.TheVariants as literal
use Rattle.glsl_grammar.specs.declared.marks.Mark.TheVariants as mark
use Rattle.glsl_grammar.specs.Marks.{mark_text}
use Rattle.glsl_grammar.specs.Token.{Token, word, number, truth, basic, put_extent, put_extents, base_token, put_type, literal_token, put_placed, put_expr, put_args, put_more_args}
use Rattle.glsl_grammar.specs.Lex.{is_digit, is_word, name_token, classify}
use Rattle.glsl_grammar.specs.Layout.{extent_text, extents_text, base_text, type_text, literal_text, op_mark, placed_text, expr_text, operand_text, args_text, more_args_text}
use Rattle.glsl_grammar.specs.Levels.{op_level, right_level, unary_level, condition_level, is_bare}
use Rattle.glsl_grammar.specs.Spelled.{AreWordBytes, IsName, IsVectorSize, IsSpelledExtent, AreSpelledExtents, IsSpelledBase, IsSpelledType, IsSpelledLiteral, IsSpelledExpr, AreSpelledExprs}
use Rattle.glsl_grammar.proofs.Words.{IsBoundary, lex_word_bytes, lex_name, name_is_long, lex_decimal, lex_suffixed, decimal_bytes}
use Rattle.glsl_grammar.proofs.Hexadecimal.{lex_hex}
use Rattle.glsl_grammar.proofs.Pieces.{Anything, Lexes, IsCut, weaker, none, both, ends, kept, cut_on, cut, Opens, opens_on, unless, word_opens}
use Rattle.glsl_grammar.proofs.MarkTokens.{open_cut, close_cut, comma_cut, dot_cut, length_cut, bracket_open_cut, bracket_close_cut, open_extent_cut, size_extent_cut, question_cut, otherwise_cut, op_cut, not_piece, flip_piece}

pub name_piece : (w : Text) → IsName w → Lexes IsBoundary w (λ ts. word w ∷ ts)
name_piece w h = record { by = λ s b. lex_name w s h b }

pub number_piece : (n : ℕ) → n < 2 ^ 32 → Lexes IsBoundary (decimal n) (λ ts. number n ∷ ts)
number_piece n h = record { by = λ s b. lex_decimal n s h b }

word_piece : (w : Text) (t : Token) → 0 < length w → AreWordBytes w → classify w ≡ t → Lexes IsBoundary w (λ ts. t ∷ ts)
word_piece w t l h e = record { by = λ s b. lex_word_bytes w t s l h e b }

-- extents
extent_cut : (e : Extent) → IsSpelledExtent e → IsCut (extent_text e) (put_extent e)
extent_cut tree.open_end h = open_extent_cut
extent_cut (tree.Extent.number n) h = cut_on bracket_open_cut (ends (number_piece n h) bracket_close_cut)
extent_cut (tree.Extent.named w) h = cut_on bracket_open_cut (ends (name_piece w h) bracket_close_cut)
extent_cut (tree.Extent.size w) h = cut_on size_extent_cut (ends (name_piece w h) bracket_close_cut)

extents_piece : (es : List Extent) → AreSpelledExtents es → Lexes Anything (extents_text es) (put_extents es)
extents_piece [] h = none
extents_piece (e ∷ es) h = both (extent_cut e h.0).lexes (extents_piece es h.1)

extents_keep : (es : List Extent) → AreSpelledExtents es → (s : List ℕ) → IsBoundary s → IsBoundary (extents_text es ++ s)
extents_keep [] h s b = b
extents_keep (e ∷ es) h s b = rw (append_assoc (extent_text e) (extents_text es) s) ((extent_cut e h.0).begins (extents_text es ++ s))

-- types
-- a vector type's word and its number, as one word
abbrev VectorLexes : Text → (ℕ → Base) → ℕ → Type 0
VectorLexes m make n = Lexes IsBoundary (m ++ (48 + n) ∷ []) (λ ts. basic (make n) ∷ ts)

module _ (m : Text) (make : ℕ → Base) (two : VectorLexes m make 2) (three : VectorLexes m make 3) (four : VectorLexes m make 4) where
  vector_word : (n : ℕ) → IsVectorSize n → VectorLexes m make n
  vector_word zero h = absurd (omega arith)
  vector_word (suc zero) h = absurd (omega arith)
  vector_word (suc (suc zero)) h = two
  vector_word (suc (suc (suc zero))) h = three
  vector_word (suc (suc (suc (suc zero)))) h = four
  vector_word (suc (suc (suc (suc (suc n))))) h = absurd (omega arith)

  vector_piece : (n : ℕ) → IsVectorSize n → Lexes IsBoundary (m ++ decimal n) (λ ts. basic (make n) ∷ ts)
  vector_piece n h = subst (λ l. Lexes IsBoundary (m ++ l) (λ ts. basic (make n) ∷ ts)) (sym (decimal_digit n (omega arith))) (vector_word n h)

base_piece : (b : Base) → IsSpelledBase b → Lexes IsBoundary (base_text b) (λ ts. base_token b ∷ ts)
unfolding mark_text is_digit is_word name_token
base_piece tree.Base.boolean h = word_piece (codes "bool") (basic tree.Base.boolean) (omega arith) (refl, (refl, (refl, (refl, tt)))) refl
base_piece tree.Base.int h = word_piece (codes "int") (basic tree.Base.int) (omega arith) (refl, (refl, (refl, tt))) refl
base_piece tree.Base.uint h = word_piece (codes "uint") (basic tree.Base.uint) (omega arith) (refl, (refl, (refl, (refl, tt)))) refl
base_piece (tree.Base.bool_vec n) h =
    vector_piece (mark_text mark.BoolVec) tree.Base.bool_vec
    (word_piece (codes "bvec2") (basic (tree.Base.bool_vec 2)) (omega arith) (refl, (refl, (refl, (refl, (refl, tt))))) refl)
    (word_piece (codes "bvec3") (basic (tree.Base.bool_vec 3)) (omega arith) (refl, (refl, (refl, (refl, (refl, tt))))) refl)
    (word_piece (codes "bvec4") (basic (tree.Base.bool_vec 4)) (omega arith) (refl, (refl, (refl, (refl, (refl, tt))))) refl)
    n h
base_piece (tree.Base.int_vec n) h =
    vector_piece (mark_text mark.IntVec) tree.Base.int_vec
    (word_piece (codes "ivec2") (basic (tree.Base.int_vec 2)) (omega arith) (refl, (refl, (refl, (refl, (refl, tt))))) refl)
    (word_piece (codes "ivec3") (basic (tree.Base.int_vec 3)) (omega arith) (refl, (refl, (refl, (refl, (refl, tt))))) refl)
    (word_piece (codes "ivec4") (basic (tree.Base.int_vec 4)) (omega arith) (refl, (refl, (refl, (refl, (refl, tt))))) refl)
    n h
base_piece (tree.Base.uint_vec n) h =
    vector_piece (mark_text mark.UintVec) tree.Base.uint_vec
    (word_piece (codes "uvec2") (basic (tree.Base.uint_vec 2)) (omega arith) (refl, (refl, (refl, (refl, (refl, tt))))) refl)
    (word_piece (codes "uvec3") (basic (tree.Base.uint_vec 3)) (omega arith) (refl, (refl, (refl, (refl, (refl, tt))))) refl)
    (word_piece (codes "uvec4") (basic (tree.Base.uint_vec 4)) (omega arith) (refl, (refl, (refl, (refl, (refl, tt))))) refl)
    n h
base_piece (tree.Base.struct w) h = name_piece w h

pub type_piece : (t : TypeName) → IsSpelledType t → Lexes IsBoundary (type_text t) (put_type t)
type_piece (type_name b es) h = kept (base_piece b h.0) (extents_keep es h.1) (weaker (extents_piece es h.1))

pub literal_piece : (l : Literal) → IsSpelledLiteral l → Lexes IsBoundary (literal_text l) (λ ts. literal_token l ∷ ts)
unfolding mark_text is_digit is_word name_token
literal_piece (literal.Int n) h = number_piece n h
literal_piece (literal.Uint n) h = record { by = λ s b. lex_suffixed n s h b }
literal_piece (literal.Hex n) h = record { by = λ s b. lex_hex n s h b }
literal_piece (literal.Truth true) h = word_piece (codes "true") (truth true) (omega arith) (refl, (refl, (refl, (refl, tt)))) refl
literal_piece (literal.Truth false) h = word_piece (codes "false") (truth false) (omega arith) (refl, (refl, (refl, (refl, (refl, tt))))) refl

-- no expression begins with `=`
name_opens : (w : Text) → IsName w → Opens w
name_opens w h = word_opens w (name_is_long w h.token) h.bytes

decimal_opens : (n : ℕ) → n < 2 ^ 32 → Opens (decimal n)
decimal_opens n h = let wide : n < 2 ^ 64 = omega arith in word_opens (decimal n) (decimal_nonempty n wide) (decimal_bytes n wide)

base_opens : (b : Base) → IsSpelledBase b → Opens (base_text b)
unfolding mark_text
base_opens tree.Base.boolean h = record { by = λ s. refl }
base_opens tree.Base.int h = record { by = λ s. refl }
base_opens tree.Base.uint h = record { by = λ s. refl }
base_opens (tree.Base.bool_vec n) h = record { by = λ s. refl }
base_opens (tree.Base.int_vec n) h = record { by = λ s. refl }
base_opens (tree.Base.uint_vec n) h = record { by = λ s. refl }
base_opens (tree.Base.struct w) h = name_opens w h

type_opens : (t : TypeName) → IsSpelledType t → Opens (type_text t)
type_opens (type_name b es) h = opens_on (extents_text es) (base_opens b h.0)

literal_opens : (l : Literal) → IsSpelledLiteral l → Opens (literal_text l)
unfolding mark_text
literal_opens (literal.Int n) h = decimal_opens n h
literal_opens (literal.Uint n) h = opens_on (mark_text mark.Suffix) (decimal_opens n h)
literal_opens (literal.Hex n) h = record { by = λ s. refl }
literal_opens (literal.Truth true) h = record { by = λ s. refl }
literal_opens (literal.Truth false) h = record { by = λ s. refl }

placed_opens : (b : Bool) (w : Text) → Opens w → Opens (placed_text b w)
unfolding mark_text
placed_opens true w h = h
placed_opens false w h = record { by = λ s. refl }

expr_opens : (e : Expr) → IsSpelledExpr e → Opens (expr_text e)
unfolding mark_text
expr_opens (tree.Expr.literal l) h = literal_opens l h
expr_opens (tree.Expr.name w) h = name_opens w h
expr_opens (tree.Expr.build t args) h = opens_on (mark_text mark.Open ++ args_text args) (type_opens t h.0)
expr_opens (tree.Expr.call w args) h = opens_on (mark_text mark.Open ++ args_text args) (name_opens w h.0)
expr_opens (tree.Expr.not e) h = record { by = λ s. refl }
expr_opens (tree.Expr.flip e) h = record { by = λ s. refl }
expr_opens (tree.Expr.binary o a b) h = opens_on (mark_text (op_mark o) ++ operand_text (right_level o) b) (placed_opens (is_bare (op_level o) a) (expr_text a) (expr_opens a h.0))
expr_opens (tree.Expr.choose c a b) h = opens_on (mark_text mark.Question ++ (expr_text a ++ (mark_text mark.Otherwise ++ expr_text b))) (placed_opens (is_bare condition_level c) (expr_text c) (expr_opens c h.0))
expr_opens (tree.Expr.member e w) h = opens_on (mark_text mark.Dot ++ w) (placed_opens (is_bare 0 e) (expr_text e) (expr_opens e h.0))
expr_opens (tree.Expr.index a b) h = opens_on (mark_text mark.BracketOpen ++ (expr_text b ++ mark_text mark.BracketClose)) (placed_opens (is_bare 0 a) (expr_text a) (expr_opens a h.0))
expr_opens (tree.Expr.length_of e) h = opens_on (mark_text mark.Length) (placed_opens (is_bare 0 e) (expr_text e) (expr_opens e h))

placed_piece : (b : Bool) {w : Text} {f : List Token → List Token} → Lexes IsBoundary w f → Lexes IsBoundary (placed_text b w) (put_placed b f)
placed_piece true h = h
placed_piece false h = weaker (both open_cut.lexes (ends h close_cut))

mutual
  pub expr_piece : (e : Expr) → IsSpelledExpr e → Lexes IsBoundary (expr_text e) (put_expr e)
  expr_piece (tree.Expr.literal l) h = literal_piece l h
  expr_piece (tree.Expr.name w) h = name_piece w h
  expr_piece (tree.Expr.build t args) h = weaker (ends (type_piece t h.0) (cut_on open_cut (args_piece args h.1)))
  expr_piece (tree.Expr.call w args) h = weaker (ends (name_piece w h.0) (cut_on open_cut (args_piece args h.1)))
  expr_piece (tree.Expr.not e) h = unless not_piece (placed_opens (is_bare unary_level e) (expr_text e) (expr_opens e h)) (placed_piece (is_bare unary_level e) (expr_piece e h))
  expr_piece (tree.Expr.flip e) h = both flip_piece (placed_piece (is_bare unary_level e) (expr_piece e h))
  expr_piece (tree.Expr.binary o a b) h = cut (placed_piece (is_bare (op_level o) a) (expr_piece a h.0)) (op_cut o) (placed_piece (is_bare (right_level o) b) (expr_piece b h.1))
  expr_piece (tree.Expr.choose c a b) h = cut (placed_piece (is_bare condition_level c) (expr_piece c h.0)) question_cut (cut (expr_piece a h.1.0) otherwise_cut (expr_piece b h.1.1))
  expr_piece (tree.Expr.member e w) h = cut (placed_piece (is_bare 0 e) (expr_piece e h.0)) dot_cut (name_piece w h.1)
  expr_piece (tree.Expr.index a b) h = weaker (ends (placed_piece (is_bare 0 a) (expr_piece a h.0)) (cut_on bracket_open_cut (ends (expr_piece b h.1) bracket_close_cut)))
  expr_piece (tree.Expr.length_of e) h = weaker (ends (placed_piece (is_bare 0 e) (expr_piece e h)) length_cut)

  -- arguments, and the closing parenthesis
  pub args_piece : (es : Exprs) → AreSpelledExprs es → Lexes Anything (args_text es) (put_args es)
  args_piece no_exprs h = close_cut.lexes
  args_piece (tree.Exprs.expr e es) h = ends (expr_piece e h.0) (more_args_cut es h.1)

  more_args_cut : (es : Exprs) → AreSpelledExprs es → IsCut (more_args_text es) (put_more_args es)
  more_args_cut no_exprs h = close_cut
  more_args_cut (tree.Exprs.expr e es) h = cut_on comma_cut (ends (expr_piece e h.0) (more_args_cut es h.1))
