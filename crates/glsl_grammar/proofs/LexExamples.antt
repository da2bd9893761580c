-- Texts and their tokens, also such as no tree is laid out as.
use Rattle.std.proofs.Common.{◌≡◌, [], ◌∷◌, refl}
use Rattle.std.specs.Prelude.{true, codes, Some, None}
use Rattle.glsl_ast.specs.Tree as tree
use Rattle.glsl_ast.specs.declared.expressions.BinOp.TheVariants as op
use Rattle.glsl_grammar.specs.Lex.{is_white, is_digit, is_word, name_token, sign_token, ended, is_sign, lengthens, begun, lex, after_version, glsl_tokens, number_parts, fitting, hex_token}
use Rattle.glsl_grammar.specs.Token.{word, in_, number, unsigned, hexadecimal, truth, basic, operator, equals, bad, dot, length_, left_paren, not_sign, void_}

opened : Unit {0}
unfolding is_white is_digit is_word name_token sign_token ended is_sign lengthens begun lex number_parts fitting hex_token after_version glsl_tokens
opened = tt

longest_signs : lex (codes "a<<=b &&& !=!c") ≡ word (codes "a") ∷ operator op.Shl ∷ equals ∷ word (codes "b") ∷ operator op.Both ∷ operator op.And ∷ operator op.NotEqual ∷ not_sign ∷ word (codes "c") ∷ []
unfolding opened
longest_signs = refl

longest_words : lex (codes "_in in uvec2 uvec5 a.length(true") ≡ word (codes "_in") ∷ in_ ∷ basic (tree.Base.uint_vec 2) ∷ word (codes "uvec5") ∷ word (codes "a") ∷ dot ∷ length_ ∷ left_paren ∷ truth true ∷ []
unfolding opened
longest_words = refl

decimals : lex (codes "0 0u 007 4294967295 4294967295u 4294967296 4294967296u 5U 9a") ≡ number 0 ∷ unsigned 0 ∷ number 7 ∷ number 4294967295 ∷ unsigned 4294967295 ∷ bad ∷ bad ∷ bad ∷ bad ∷ []
unfolding opened
decimals = refl

hexadecimals : lex (codes "0x0000000a 0xFFFFFFFF 0x0A 0X0000000A 0x000000000") ≡ hexadecimal 10 ∷ hexadecimal 4294967295 ∷ bad ∷ bad ∷ bad ∷ []
unfolding opened
hexadecimals = refl

-- a byte outside ASCII, white space of each kind, NUL and `#`
other_bytes : lex (200 ∷ 97 ∷ 9 ∷ 10 ∷ 11 ∷ 12 ∷ 13 ∷ 32 ∷ 97 ∷ 0 ∷ 35 ∷ []) ≡ bad ∷ word (codes "a") ∷ word (codes "a") ∷ bad ∷ bad ∷ []
unfolding opened
other_bytes = refl

version : glsl_tokens (codes "\n #version 460\r\nvoid") ≡ Some (void_ ∷ [])
unfolding opened
version = refl

longer_version : glsl_tokens (codes "#version 4600\nvoid") ≡ None
unfolding opened
longer_version = refl

unended_version : glsl_tokens (codes "#version 460") ≡ None
unfolding opened
unended_version = refl
