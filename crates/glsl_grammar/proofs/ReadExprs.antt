-- Reading the tokens of a type or an expression gives it back.
use Rattle.std.proofs.Common.{◌≡◌, ◌==◌, ℕ, zero, suc, ◌+◌, ◌≤◌, ◌<◌, Bool, true, false, List, [], ◌∷◌, length, Option, Some, refl, sym, ap, subst, ◌∙◌, inl, inr, arith}
use Rattle.std.proofs.lemmas.Bool.{cases_lt}
use Rattle.std.proofs.lemmas.Bool.Decides.{nat_tests}
use Rattle.std.specs.Prelude.{option_and_then}
use Rattle.list_law.proofs.Tests.{off_on}
use Rattle.glsl_ast.specs.Tree as tree
use Rattle.glsl_ast.specs.Tree.{Text, TypeName, type_name, Extent, Base, Expr, Exprs, no_exprs, exprs_in}
use Rattle.glsl_ast.specs.declared.expressions.Literal.{Literal}
use Rattle.glsl_ast.specs.declared.expressions.Literal.TheVariants.{Int, Uint, Hex, Truth}
use Rattle.glsl_ast.specs.declared.expressions.BinOp.{BinOp}
use Rattle.glsl_grammar.specs.Levels.{op_rank, op_level, right_level, unary_level, condition_level, any_level, expr_level, is_bare}
use Rattle.glsl_grammar.specs.Token.{Token, word, number, unsigned, hexadecimal, truth, basic, operator, length_, left_paren, right_paren, left_bracket, right_bracket, semicolon, comma, dot, not_sign, flip_sign, question, colon, put_extent, put_extents, base_token, put_type, literal_token, put_placed, put_expr, put_operand, put_args, put_more_args}
use Rattle.glsl_grammar.specs.Parsers.{Parse, ◌>>=◌, ◌>>◌, pure, close_bracket, one_and, until_paren, some_until_paren, any_until_paren}
use Rattle.glsl_grammar.specs.Read.{read_base, read_extents, read_type, read_build, read_named, read_prim, read_suffixes, read_post, read_unary, read_chain, read_choice, read_rest, read_level, read_within, read_expr}
use Rattle.glsl_grammar.specs.Scopes.{IsDeclaredBase, IsDeclaredType, IsFree, IsDeclaredExpr, AreDeclaredExprs}
use Rattle.glsl_grammar.proofs.Levels.{rank_fits, level_fits, bare_fits}

-- what a part reads is handed on
pub and_on : {A B : Type 0} (p : Parse A) (f : A → Parse B) (ts rest : List Token) (a : A) (x : Option (B × List Token)) → p ts ≡ Some (a, rest) → f a rest ≡ x → (p >>= f) ts ≡ x
and_on p f ts rest a x e g = ap (option_and_then (λ r. f r.0 r.1)) e ∙ g

-- one part and those behind it
pub one_on : {A : Type 0} (part : Parse A) (parts : Parse (List A)) (us vs ts : List Token) (a : A) (r : List A) → part us ≡ Some (a, vs) → parts vs ≡ Some (r, ts) → one_and part parts us ≡ Some (a ∷ r, ts)
one_on part parts us vs ts a r e g = and_on part (λ b. parts >>= (λ bs. pure (b ∷ bs))) us vs a _ e (and_on parts (λ bs. pure (a ∷ bs)) vs ts r _ g refl)

-- types

-- the tokens after a part are no more than those with it
pub rest_of_extents : (es : List Extent) (ts : List Token) → length ts ≤ length (put_extents es ts)
rest_of_extents [] ts = omega arith
rest_of_extents (tree.open_end ∷ es) ts = omega (arith, rest_of_extents es ts)
rest_of_extents (tree.Extent.number n ∷ es) ts = omega (arith, rest_of_extents es ts)
rest_of_extents (tree.Extent.named w ∷ es) ts = omega (arith, rest_of_extents es ts)
rest_of_extents (tree.Extent.size w ∷ es) ts = omega (arith, rest_of_extents es ts)

pub rest_of_type : (t : TypeName) (ts : List Token) → length ts + 1 ≤ length (put_type t ts)
rest_of_type (type_name b es) ts = omega (arith, rest_of_extents es ts)

-- no extent stands there
abbrev pub EndsType : List Token → Type 0
EndsType ts = (m : ℕ) → read_extents m ts ≡ Some ([], ts)

pub ends_type-word : (w : Text) (ts : List Token) → EndsType (word w ∷ ts)
ends_type-word w ts zero = refl
ends_type-word w ts (suc m) = refl

ends_type-paren : (ts : List Token) → EndsType (left_paren ∷ ts)
ends_type-paren ts zero = refl
ends_type-paren ts (suc m) = refl

extent_back : (e : Extent) (n : ℕ) (ts : List Token) → read_extents (suc n) (put_extent e ts) ≡ (read_extents n >>= (λ es. pure (e ∷ es))) ts
extent_back tree.open_end n ts = refl
extent_back (tree.Extent.number k) n ts = refl
extent_back (tree.Extent.named w) n ts = refl
extent_back (tree.Extent.size w) n ts = refl

rest_of_extent : (e : Extent) (ts : List Token) → length ts + 1 ≤ length (put_extent e ts)
rest_of_extent tree.open_end ts = omega arith
rest_of_extent (tree.Extent.number n) ts = omega arith
rest_of_extent (tree.Extent.named w) ts = omega arith
rest_of_extent (tree.Extent.size w) ts = omega arith

extents_back : (es : List Extent) (n : ℕ) (ts : List Token) → EndsType ts → length (put_extents es ts) ≤ n → read_extents n (put_extents es ts) ≡ Some (es, ts)
extents_back [] n ts ends le = ends n
extents_back (e ∷ es) zero ts ends le = absurd (omega (arith, rest_of_extent e (put_extents es ts)))
extents_back (e ∷ es) (suc n) ts ends le = extent_back e n (put_extents es ts) ∙ and_on (read_extents n) _ _ _ es _ (extents_back es n ts ends (omega (arith, rest_of_extent e (put_extents es ts)))) refl

base_back : (names : List Text) (b : Base) → IsDeclaredBase names b → (ts : List Token) → read_base names (base_token b ∷ ts) ≡ Some (b, ts)
base_back names tree.Base.boolean d ts = refl
base_back names tree.Base.int d ts = refl
base_back names tree.Base.uint d ts = refl
base_back names (tree.Base.bool_vec n) d ts = refl
base_back names (tree.Base.int_vec n) d ts = refl
base_back names (tree.Base.uint_vec n) d ts = refl
base_back names (tree.Base.struct w) d ts = rw (d, read_base)

pub type_back : (names : List Text) (t : TypeName) → IsDeclaredType names t → (n : ℕ) (ts : List Token) → EndsType ts → length (put_type t ts) ≤ suc n → read_type names n (put_type t ts) ≡ Some (t, ts)
type_back names (type_name b es) d n ts ends le = and_on (read_base names) _ (base_token b ∷ put_extents es ts) (put_extents es ts) b _ (base_back names b d (put_extents es ts)) (and_on (read_extents n) _ _ _ es _ (extents_back es n ts ends (omega arith)) refl)

-- expressions

-- the tokens after a part that stands bare or in parentheses
rest_of_placed : (b : Bool) (part : List Token → List Token) → ((us : List Token) → length us + 1 ≤ length (part us)) → (ts : List Token) → length ts + 1 ≤ length (put_placed b part ts)
rest_of_placed true part h ts = h ts
rest_of_placed false part h ts = omega (arith, h (right_paren ∷ ts))

mutual
  pub rest_of_expr : (e : Expr) (ts : List Token) → length ts + 1 ≤ length (put_expr e ts)
  rest_of_expr (tree.Expr.literal l) ts = omega arith
  rest_of_expr (tree.Expr.name w) ts = omega arith
  rest_of_expr (tree.Expr.build t args) ts = omega (arith, rest_of_type t (left_paren ∷ put_args args ts), rest_of_args args ts)
  rest_of_expr (tree.Expr.call w args) ts = omega (arith, rest_of_args args ts)
  rest_of_expr (tree.Expr.not e) ts = omega (arith, rest_of_placed (is_bare unary_level e) (put_expr e) (rest_of_expr e) ts)
  rest_of_expr (tree.Expr.flip e) ts = omega (arith, rest_of_placed (is_bare unary_level e) (put_expr e) (rest_of_expr e) ts)
  rest_of_expr (tree.Expr.binary op a b) ts = omega (arith, rest_of_placed (is_bare (op_level op) a) (put_expr a) (rest_of_expr a) (operator op ∷ put_operand (right_level op) b ts), rest_of_placed (is_bare (right_level op) b) (put_expr b) (rest_of_expr b) ts)
  rest_of_expr (tree.Expr.choose c a b) ts = omega (arith, rest_of_placed (is_bare condition_level c) (put_expr c) (rest_of_expr c) (question ∷ put_expr a (colon ∷ put_expr b ts)), rest_of_expr a (colon ∷ put_expr b ts), rest_of_expr b ts)
  rest_of_expr (tree.Expr.member e w) ts = omega (arith, rest_of_placed (is_bare 0 e) (put_expr e) (rest_of_expr e) (dot ∷ word w ∷ ts))
  rest_of_expr (tree.Expr.index a b) ts = omega (arith, rest_of_placed (is_bare 0 a) (put_expr a) (rest_of_expr a) (left_bracket ∷ put_expr b (right_bracket ∷ ts)), rest_of_expr b (right_bracket ∷ ts))
  rest_of_expr (tree.Expr.length_of e) ts = omega (arith, rest_of_placed (is_bare 0 e) (put_expr e) (rest_of_expr e) (dot ∷ length_ ∷ left_paren ∷ right_paren ∷ ts))

  pub rest_of_args : (es : Exprs) (ts : List Token) → length ts + 1 ≤ length (put_args es ts)
  rest_of_args no_exprs ts = omega arith
  rest_of_args (tree.Exprs.expr e es) ts = omega (arith, rest_of_expr e (put_more_args es ts), rest_of_more_args es ts)

  pub rest_of_more_args : (es : Exprs) (ts : List Token) → length ts + 1 ≤ length (put_more_args es ts)
  rest_of_more_args no_exprs ts = omega arith
  rest_of_more_args (tree.Exprs.expr e es) ts = omega (arith, rest_of_expr e (put_more_args es ts), rest_of_more_args es ts)

rest_of_operand : (loosest : ℕ) (e : Expr) (ts : List Token) → length ts + 1 ≤ length (put_operand loosest e ts)
rest_of_operand loosest e ts = rest_of_placed (is_bare loosest e) (put_expr e) (rest_of_expr e) ts

-- what a type begins with
pub first_of_type : (P : List Token → Type 0) → ((b : Base) (ts : List Token) → P (basic b ∷ ts)) → ((w : Text) (ts : List Token) → P (word w ∷ ts)) → (t : TypeName) (ts : List Token) → P (put_type t ts)
first_of_type P f g (type_name tree.Base.boolean es) ts = f _ _
first_of_type P f g (type_name tree.Base.int es) ts = f _ _
first_of_type P f g (type_name tree.Base.uint es) ts = f _ _
first_of_type P f g (type_name (tree.Base.bool_vec n) es) ts = f _ _
first_of_type P f g (type_name (tree.Base.int_vec n) es) ts = f _ _
first_of_type P f g (type_name (tree.Base.uint_vec n) es) ts = f _ _
first_of_type P f g (type_name (tree.Base.struct w) es) ts = g _ _

-- what a part begins with that stands bare or in parentheses
first_of_placed : (P : List Token → Type 0) → ((ts : List Token) → P (left_paren ∷ ts)) → (b : Bool) (part : List Token → List Token) → (b ≡ true → (ts : List Token) → P (part ts)) → (ts : List Token) → P (put_placed b part ts)
first_of_placed P h true part f ts = f refl ts
first_of_placed P h false part f ts = h _

-- what an expression of a level or a tighter one begins with: a sign only where signs may stand bare
module _ (P : List Token → Type 0) (a : (n : ℕ) (ts : List Token) → P (number n ∷ ts)) (b : (n : ℕ) (ts : List Token) → P (unsigned n ∷ ts)) (c : (n : ℕ) (ts : List Token) → P (hexadecimal n ∷ ts)) (d : (v : Bool) (ts : List Token) → P (truth v ∷ ts)) (f : (v : Base) (ts : List Token) → P (basic v ∷ ts)) (g : (w : Text) (ts : List Token) → P (word w ∷ ts)) (h : (ts : List Token) → P (left_paren ∷ ts)) (k : ℕ) (i : 1 ≤ k → (ts : List Token) → P (not_sign ∷ ts)) (j : 1 ≤ k → (ts : List Token) → P (flip_sign ∷ ts)) where
  first_within : (e : Expr) → expr_level e ≤ k → (ts : List Token) → P (put_expr e ts)
  first_within (tree.Expr.literal (Int n)) le ts = a n ts
  first_within (tree.Expr.literal (Uint n)) le ts = b n ts
  first_within (tree.Expr.literal (Hex n)) le ts = c n ts
  first_within (tree.Expr.literal (Truth v)) le ts = d v ts
  first_within (tree.Expr.name w) le ts = g w ts
  first_within (tree.Expr.build t args) le ts = first_of_type P f g t (left_paren ∷ put_args args ts)
  first_within (tree.Expr.call w args) le ts = g w _
  first_within (tree.Expr.not e) le ts = i le _
  first_within (tree.Expr.flip e) le ts = j le _
  first_within (tree.Expr.binary o x y) le ts = first_of_placed P h (is_bare (op_level o) x) (put_expr x) (λ bare. first_within x (omega (arith, bare_fits (op_level o) x bare))) (operator o ∷ put_operand (right_level o) y ts)
  first_within (tree.Expr.choose x y z) le ts = first_of_placed P h (is_bare condition_level x) (put_expr x) (λ bare. first_within x (omega (arith, bare_fits condition_level x bare))) (question ∷ put_expr y (colon ∷ put_expr z ts))
  first_within (tree.Expr.member e w) le ts = first_of_placed P h (is_bare 0 e) (put_expr e) (λ bare. first_within e (omega (arith, bare_fits 0 e bare))) (dot ∷ word w ∷ ts)
  first_within (tree.Expr.index x y) le ts = first_of_placed P h (is_bare 0 x) (put_expr x) (λ bare. first_within x (omega (arith, bare_fits 0 x bare))) (left_bracket ∷ put_expr y (right_bracket ∷ ts))
  first_within (tree.Expr.length_of e) le ts = first_of_placed P h (is_bare 0 e) (put_expr e) (λ bare. first_within e (omega (arith, bare_fits 0 e bare))) (dot ∷ length_ ∷ left_paren ∷ right_paren ∷ ts)

pub first_of_expr : (P : List Token → Type 0) → ((n : ℕ) (ts : List Token) → P (number n ∷ ts)) → ((n : ℕ) (ts : List Token) → P (unsigned n ∷ ts)) → ((n : ℕ) (ts : List Token) → P (hexadecimal n ∷ ts)) → ((b : Bool) (ts : List Token) → P (truth b ∷ ts)) → ((b : Base) (ts : List Token) → P (basic b ∷ ts)) → ((w : Text) (ts : List Token) → P (word w ∷ ts)) → ((ts : List Token) → P (left_paren ∷ ts)) → ((ts : List Token) → P (not_sign ∷ ts)) → ((ts : List Token) → P (flip_sign ∷ ts)) → (e : Expr) (ts : List Token) → P (put_expr e ts)
first_of_expr P a b c d f g h i j e ts = first_within P a b c d f g h any_level (λ le. i) (λ le. j) e (level_fits e) ts

-- Behind a part of a level below this number, the tokens go on at no tighter level; at its own they may.
abbrev stop : List Token → ℕ
stop (left_paren ∷ ts) = 0
stop (left_bracket ∷ ts) = 1
stop (dot ∷ ts) = 1
stop (operator o ∷ ts) = suc (op_level o)
stop (question ∷ ts) = 12
stop _ = 13

-- Behind a part of a level below this number, the tokens go on at no level up to its own.
abbrev end : List Token → ℕ
end (left_paren ∷ ts) = 0
end (left_bracket ∷ ts) = 0
end (dot ∷ ts) = 0
end (operator o ∷ ts) = op_level o
end (question ∷ ts) = 12
end _ = 13

end_is_stop : (ts : List Token) → end ts ≤ stop ts
end_is_stop [] = omega arith
end_is_stop (left_paren ∷ ts) = omega arith
end_is_stop (left_bracket ∷ ts) = omega arith
end_is_stop (dot ∷ ts) = omega arith
end_is_stop (operator o ∷ ts) = omega arith
end_is_stop (question ∷ ts) = omega arith
end_is_stop (_ ∷ ts) = omega arith

stop_is_near : (ts : List Token) → stop ts ≤ suc (end ts)
stop_is_near [] = omega arith
stop_is_near (left_paren ∷ ts) = omega arith
stop_is_near (left_bracket ∷ ts) = omega arith
stop_is_near (dot ∷ ts) = omega arith
stop_is_near (operator o ∷ ts) = omega arith
stop_is_near (question ∷ ts) = omega arith
stop_is_near (_ ∷ ts) = omega arith

-- no token goes on at the level of the signs, nor at that of `?:`
unary_ends : (ts : List Token) → unary_level < stop ts → unary_level < end ts
unary_ends [] h = omega arith
unary_ends (left_paren ∷ ts) h = omega arith
unary_ends (left_bracket ∷ ts) h = omega arith
unary_ends (dot ∷ ts) h = omega arith
unary_ends (operator o ∷ ts) h = omega arith
unary_ends (question ∷ ts) h = omega arith
unary_ends (_ ∷ ts) h = omega arith

any_ends : (ts : List Token) → any_level < stop ts → any_level < end ts
any_ends [] h = omega arith
any_ends (left_paren ∷ ts) h = omega arith
any_ends (left_bracket ∷ ts) h = omega arith
any_ends (dot ∷ ts) h = omega arith
any_ends (operator o ∷ ts) h = omega (arith, rank_fits o)
any_ends (question ∷ ts) h = omega arith
any_ends (_ ∷ ts) h = omega arith

-- no parenthesis stands there
ends_name : (inner : Parse Expr) (n : ℕ) (w : Text) (ts : List Token) → 0 < stop ts → read_named inner n w ts ≡ Some (tree.Expr.name w, ts)
ends_name inner n w [] h = refl
ends_name inner n w (left_paren ∷ ts) h = absurd (omega arith)
ends_name inner n w (_ ∷ ts) h = refl

-- what stands behind the front of an expression, at a level
abbrev rest_at : (ℕ → Parse Expr) → ℕ → ℕ → Expr → Parse Expr
rest_at inner n zero e = read_suffixes (inner any_level) n e
rest_at inner n (suc zero) e = pure e
rest_at inner n (suc (suc r)) e = read_rest inner (suc r) n e

suffixes_end : (inner : Parse Expr) (n : ℕ) (e : Expr) (ts : List Token) → 0 < end ts → read_suffixes inner n e ts ≡ Some (e, ts)
suffixes_end inner zero e ts h = refl
suffixes_end inner (suc n) e [] h = refl
suffixes_end inner (suc n) e (left_bracket ∷ ts) h = absurd (omega arith)
suffixes_end inner (suc n) e (dot ∷ ts) h = absurd (omega arith)
suffixes_end inner (suc n) e (_ ∷ ts) h = refl

chain_ends : (part : Parse Expr) (level n : ℕ) (e : Expr) (ts : List Token) → level < end ts → read_chain part level n e ts ≡ Some (e, ts)
chain_ends part level zero e ts h = refl
chain_ends part level (suc n) e [] h = refl
chain_ends part level (suc n) e (operator o ∷ ts) h = rw (differ (op_level o) h, read_chain) refl
  where
    differ : (l : ℕ) → level < l → (l == level) ≡ false
    differ l g = grind (arith, nat_tests)
chain_ends part level (suc n) e (_ ∷ ts) h = refl

choice_ends : (inner : Parse Expr) (e : Expr) (ts : List Token) → any_level < end ts → read_choice inner e ts ≡ Some (e, ts)
choice_ends inner e [] h = refl
choice_ends inner e (question ∷ ts) h = absurd (omega arith)
choice_ends inner e (_ ∷ ts) h = refl

rest_ends : (inner : ℕ → Parse Expr) (r n : ℕ) (e : Expr) (ts : List Token) (b : Bool) → (r == condition_level) ≡ b → suc r < end ts → read_rest inner r n e ts ≡ Some (e, ts)
rest_ends inner r n e ts true is h = rw (is, read_rest) (choice_ends (inner any_level) e ts (same r is h))
  where
    same : (r : ℕ) → (r == 11) ≡ true → suc r < end ts → 12 < end ts
    same r g l = grind (arith, nat_tests)
rest_ends inner r n e ts false is h = rw (is, read_rest) (chain_ends (inner r) (suc r) n e ts h)

level_ends : (inner : ℕ → Parse Expr) (n level : ℕ) (e : Expr) (ts : List Token) → level < end ts → rest_at inner n level e ts ≡ Some (e, ts)
level_ends inner n zero e ts h = suffixes_end (inner any_level) n e ts h
level_ends inner n (suc zero) e ts h = refl
level_ends inner n (suc (suc r)) e ts h = rest_ends inner (suc r) n e ts (suc r == condition_level) refl h

-- what follows an expression of any level
abbrev pub is_end : Token → Bool
is_end right_paren = true
is_end right_bracket = true
is_end semicolon = true
is_end comma = true
is_end colon = true
is_end _ = false

ends_any : (t : Token) (ts : List Token) → is_end t ≡ true → any_level < end (t ∷ ts)
ends_any right_paren ts h = omega arith
ends_any right_bracket ts h = omega arith
ends_any semicolon ts h = omega arith
ends_any comma ts h = omega arith
ends_any colon ts h = omega arith
ends_any _ ts h = off_on h

-- the arguments as a list
abbrev pub exprs_of : Exprs → List Expr
exprs_of no_exprs = []
exprs_of (tree.Exprs.expr e es) = e ∷ exprs_of es

pub exprs_back : (es : Exprs) → exprs_in (exprs_of es) ≡ es
exprs_back no_exprs = refl
exprs_back (tree.Exprs.expr e es) = ap (tree.Exprs.expr e) (exprs_back es)

more_ends : (es : Exprs) (ts : List Token) → any_level < end (put_more_args es ts)
more_ends no_exprs ts = omega arith
more_ends (tree.Exprs.expr e es) ts = omega arith

literal_back : (names : List Text) (inner : Parse Expr) (l : Literal) (n : ℕ) (ts : List Token) → read_prim names inner n (literal_token l ∷ ts) ≡ Some (tree.Expr.literal l, ts)
literal_back names inner (Int k) n ts = refl
literal_back names inner (Uint k) n ts = refl
literal_back names inner (Hex k) n ts = refl
literal_back names inner (Truth b) n ts = refl

-- a name that no struct has begins no type
prim_named : (names : List Text) (inner : Parse Expr) (w : Text) → IsFree names w → (n : ℕ) (ts : List Token) → read_prim names inner n (word w ∷ ts) ≡ read_named inner n w ts
prim_named names inner w d n ts = rw (d, read_prim)

prim_build : (names : List Text) (inner : Parse Expr) (t : TypeName) → IsDeclaredType names t → (n : ℕ) (ts : List Token) → read_prim names inner n (put_type t ts) ≡ read_build names inner n (put_type t ts)
prim_build names inner (type_name tree.Base.boolean es) d n ts = refl
prim_build names inner (type_name tree.Base.int es) d n ts = refl
prim_build names inner (type_name tree.Base.uint es) d n ts = refl
prim_build names inner (type_name (tree.Base.bool_vec k) es) d n ts = refl
prim_build names inner (type_name (tree.Base.int_vec k) es) d n ts = refl
prim_build names inner (type_name (tree.Base.uint_vec k) es) d n ts = refl
prim_build names inner (type_name (tree.Base.struct w) es) d n ts = rw (d, read_prim)

build_back : (names : List Text) (t : TypeName) → IsDeclaredType names t → (args : Exprs) (n : ℕ) (ts : List Token) → length (put_type t (left_paren ∷ put_args args ts)) ≤ suc n → any_until_paren (read_expr names n) n (put_args args ts) ≡ Some (exprs_of args, ts) → read_prim names (read_expr names n) n (put_type t (left_paren ∷ put_args args ts)) ≡ Some (tree.Expr.build t args, ts)
build_back names t d args n ts le back =
    prim_build names (read_expr names n) t d n (left_paren ∷ put_args args ts)
    ∙ and_on (read_type names n) _ (put_type t (left_paren ∷ put_args args ts)) (left_paren ∷ put_args args ts) t _ (type_back names t d n (left_paren ∷ put_args args ts) (ends_type-paren (put_args args ts)) le)
    (and_on (any_until_paren (read_expr names n) n) _ (put_args args ts) ts (exprs_of args) _ back (ap (λ es. Some (tree.Expr.build t es, ts)) (exprs_back args)))

call_back : (names : List Text) (w : Text) → IsFree names w → (args : Exprs) (n : ℕ) (ts : List Token) → any_until_paren (read_expr names n) n (put_args args ts) ≡ Some (exprs_of args, ts) → read_prim names (read_expr names n) n (word w ∷ left_paren ∷ put_args args ts) ≡ Some (tree.Expr.call w args, ts)
call_back names w d args n ts back =
    prim_named names (read_expr names n) w d n (left_paren ∷ put_args args ts)
    ∙ and_on (any_until_paren (read_expr names n) n) _ (put_args args ts) ts (exprs_of args) _ back (ap (λ es. Some (tree.Expr.call w es, ts)) (exprs_back args))

-- the arguments, where the first and the others are read
args_from : (part : Parse Expr) (e : Expr) (es : Exprs) (n : ℕ) (ts : List Token) → part (put_expr e (put_more_args es ts)) ≡ Some (e, put_more_args es ts) → until_paren part n (put_more_args es ts) ≡ Some (exprs_of es, ts) → any_until_paren part n (put_expr e (put_more_args es ts)) ≡ Some (e ∷ exprs_of es, ts)
args_from part e es n ts one more =
    let P : List Token → Type 0 = λ l. any_until_paren part n l ≡ some_until_paren part n l in
    first_of_expr P (λ k r. refl) (λ k r. refl) (λ k r. refl) (λ b r. refl) (λ b r. refl) (λ w r. refl) (λ r. refl) (λ r. refl) (λ r. refl) e (put_more_args es ts)
    ∙ one_on part (until_paren part n) (put_expr e (put_more_args es ts)) (put_more_args es ts) ts e (exprs_of es) one more

-- Where the turns are enough, these tokens are read at a level as what follows the tree at this level makes of the tree.
abbrev At : List Text → ℕ → ℕ → Expr → List Token → List Token → Type 0
At names n level e us ts = (x : Option (Expr × List Token)) → level < stop ts → ((j : ℕ) → length ts ≤ j → rest_at (read_within names n) j level e ts ≡ x) → read_level names (read_within names n) n level us ≡ x

-- no sign stands there
abbrev NoSign : List Text → ℕ → List Token → Type 0
NoSign names n us = read_unary names (read_within names n) n us ≡ read_post names (read_within names n any_level) n us

-- so it is at looser levels
looser : (names : List Text) (n level : ℕ) (e : Expr) (us ts : List Token) → length ts ≤ n → (level ≡ 0 → NoSign names n us) → At names n level e us ts → At names n (suc level) e us ts
looser names n zero e us ts le plain at x s h = plain refl ∙ at (Some (e, ts)) (omega arith) (λ j l. level_ends (read_within names n) j 0 e ts (omega (arith, stop_is_near ts))) ∙ h n le
looser names n (suc r) e us ts le plain at x s h =
    and_on (read_level names (read_within names n) n (suc r)) (read_rest (read_within names n) (suc r) n) us ts e x
    (at (Some (e, ts)) (omega arith) (λ j l. level_ends (read_within names n) j (suc r) e ts (omega (arith, stop_is_near ts))))
    (h n le)

lifted : (names : List Text) (n level k : ℕ) (e : Expr) (us ts : List Token) → k ≤ level → length ts ≤ n → (k ≡ 0 → NoSign names n us) → At names n k e us ts → At names n level e us ts
lifted names n zero k e us ts fits le plain at = subst (λ l. At names n l e us ts) (omega arith) at
lifted names n (suc level) k e us ts fits le plain at =
    elim (cases_lt level k) [
      | inl here ↦ subst (λ l. At names n l e us ts) (omega arith) at
      | inr fits' ↦ looser names n level e us ts le (λ z. plain (omega arith)) (lifted names n level k e us ts fits' le plain at)
    ]

-- the law of a tree at its own level
abbrev Own : List Text → Expr → Type 0
Own names e = (n : ℕ) (ts : List Token) → length (put_expr e ts) ≤ suc n → At names n (expr_level e) e (put_expr e ts) ts

no_sign : (names : List Text) (n : ℕ) (e : Expr) (ts : List Token) → expr_level e ≡ 0 → NoSign names n (put_expr e ts)
no_sign names n e ts own =
    let P : List Token → Type 0 = λ l. NoSign names n l in
    first_within P (λ k r. refl) (λ k r. refl) (λ k r. refl) (λ b r. refl) (λ b r. refl) (λ w r. refl) (λ r. refl) 0 (λ le. absurd (omega arith)) (λ le. absurd (omega arith)) e (omega arith) ts

bare_at : (names : List Text) (e : Expr) → Own names e → (level n : ℕ) (ts : List Token) → expr_level e ≤ level → length (put_expr e ts) ≤ suc n → At names n level e (put_expr e ts) ts
bare_at names e own level n ts fits le = lifted names n level (expr_level e) e (put_expr e ts) ts fits (omega (arith, rest_of_expr e ts)) (no_sign names n e ts) (own n ts le)

-- where no token goes on with it
any_back : (names : List Text) (e : Expr) → Own names e → (n : ℕ) (ts : List Token) → length (put_expr e ts) ≤ n → any_level < end ts → read_expr names n (put_expr e ts) ≡ Some (e, ts)
any_back names e own zero ts le h = absurd (omega (arith, rest_of_expr e ts))
any_back names e own (suc n) ts le h = bare_at names e own any_level n ts (level_fits e) le (Some (e, ts)) (omega (arith, end_is_stop ts)) (λ j l. level_ends (read_within names n) j any_level e ts h)

-- in parentheses
wrapped_at : (names : List Text) (e : Expr) → Own names e → (n : ℕ) (ts : List Token) → length (left_paren ∷ put_expr e (right_paren ∷ ts)) ≤ suc n → At names n 0 e (left_paren ∷ put_expr e (right_paren ∷ ts)) ts
wrapped_at names e own n ts le x s h =
    let back : read_expr names n (put_expr e (right_paren ∷ ts)) ≡ Some (e, right_paren ∷ ts) = any_back names e own n (right_paren ∷ ts) (omega arith) (omega arith) in
    let l = rest_of_expr e (right_paren ∷ ts) in
    and_on (read_prim names (read_expr names n) n) (read_suffixes (read_expr names n) n) (left_paren ∷ put_expr e (right_paren ∷ ts)) ts e x (and_on (read_expr names n) _ _ _ e _ back refl) (h n (omega arith))

placed_at : (names : List Text) (e : Expr) → Own names e → (loosest n : ℕ) (ts : List Token) (b : Bool) → is_bare loosest e ≡ b → length (put_placed b (put_expr e) ts) ≤ suc n → At names n loosest e (put_placed b (put_expr e) ts) ts
placed_at names e own loosest n ts true is le = bare_at names e own loosest n ts (bare_fits loosest e is) le
placed_at names e own loosest n ts false is le =
    lifted names n loosest 0 e (left_paren ∷ put_expr e (right_paren ∷ ts)) ts (omega arith) (omega (arith, rest_of_expr e (right_paren ∷ ts))) (λ z. refl) (wrapped_at names e own n ts le)

-- at its place, bare or in parentheses
operand_at : (names : List Text) (e : Expr) → Own names e → (loosest n : ℕ) (ts : List Token) → length (put_operand loosest e ts) ≤ suc n → At names n loosest e (put_operand loosest e ts) ts
operand_at names e own loosest n ts le = placed_at names e own loosest n ts (is_bare loosest e) refl le

operand_back : (names : List Text) (e : Expr) → Own names e → (loosest n : ℕ) (ts : List Token) → length (put_operand loosest e ts) ≤ n → loosest < end ts → read_within names n loosest (put_operand loosest e ts) ≡ Some (e, ts)
operand_back names e own loosest zero ts le h = absurd (omega (arith, rest_of_operand loosest e ts))
operand_back names e own loosest (suc n) ts le h = operand_at names e own loosest n ts le (Some (e, ts)) (omega (arith, end_is_stop ts)) (λ j l. level_ends (read_within names n) j loosest e ts h)

-- the law of each kind of tree, from those of its parts

literal_on : (names : List Text) (l : Literal) → Own names (tree.Expr.literal l)
literal_on names l n ts le x s h = and_on (read_prim names (read_expr names n) n) (read_suffixes (read_expr names n) n) (literal_token l ∷ ts) ts (tree.Expr.literal l) x (literal_back names (read_expr names n) l n ts) (h n (omega arith))

name_on : (names : List Text) (w : Text) → IsFree names w → Own names (tree.Expr.name w)
name_on names w free n ts le x s h = and_on (read_prim names (read_expr names n) n) (read_suffixes (read_expr names n) n) (word w ∷ ts) ts (tree.Expr.name w) x (prim_named names (read_expr names n) w free n ts ∙ ends_name (read_expr names n) n w ts s) (h n (omega arith))

-- the arguments are read
abbrev ArgsOn : List Text → Exprs → Type 0
ArgsOn names es = (n j : ℕ) (ts : List Token) → length (put_args es ts) ≤ n → length (put_args es ts) ≤ j → any_until_paren (read_expr names n) j (put_args es ts) ≡ Some (exprs_of es, ts)

build_on : (names : List Text) (t : TypeName) (args : Exprs) → IsDeclaredType names t → ArgsOn names args → Own names (tree.Expr.build t args)
build_on names t args d on n ts le x s h =
    let lt = rest_of_type t (left_paren ∷ put_args args ts) in
    let la = rest_of_args args ts in
    let back : any_until_paren (read_expr names n) n (put_args args ts) ≡ Some (exprs_of args, ts) = on n n ts (omega arith) (omega arith) in
    and_on (read_prim names (read_expr names n) n) (read_suffixes (read_expr names n) n) (put_type t (left_paren ∷ put_args args ts)) ts (tree.Expr.build t args) x (build_back names t d args n ts le back) (h n (omega arith))

call_on : (names : List Text) (w : Text) (args : Exprs) → IsFree names w → ArgsOn names args → Own names (tree.Expr.call w args)
call_on names w args d on n ts le x s h =
    let la = rest_of_args args ts in
    let back : any_until_paren (read_expr names n) n (put_args args ts) ≡ Some (exprs_of args, ts) = on n n ts (omega arith) (omega arith) in
    and_on (read_prim names (read_expr names n) n) (read_suffixes (read_expr names n) n) (word w ∷ left_paren ∷ put_args args ts) ts (tree.Expr.call w args) x (call_back names w d args n ts back) (h n (omega arith))

not_on : (names : List Text) (a : Expr) → Own names a → Own names (tree.Expr.not a)
not_on names a own n ts le x s h =
    let la = rest_of_operand unary_level a ts in
    and_on (read_within names n unary_level) _ (put_operand unary_level a ts) ts a x (operand_back names a own unary_level n ts (omega arith) (unary_ends ts s)) (h n (omega arith))

flip_on : (names : List Text) (a : Expr) → Own names a → Own names (tree.Expr.flip a)
flip_on names a own n ts le x s h =
    let la = rest_of_operand unary_level a ts in
    and_on (read_within names n unary_level) _ (put_operand unary_level a ts) ts a x (operand_back names a own unary_level n ts (omega arith) (unary_ends ts s)) (h n (omega arith))

no_choice : (o : BinOp) → (right_level o == condition_level) ≡ false
no_choice o = differs (op_rank o) (rank_fits o)
  where
    differs : (r : ℕ) → r ≤ 9 → (suc r == 11) ≡ false
    differs r h = grind (arith, nat_tests)

chain_of : (inner : ℕ → Parse Expr) (o : BinOp) (j : ℕ) (e : Expr) (ts : List Token) → read_rest inner (right_level o) j e ts ≡ read_chain (inner (right_level o)) (op_level o) j e ts
chain_of inner o j e ts = rw (no_choice o, read_rest) refl

chain_turn : (part : Parse Expr) (o : BinOp) (j : ℕ) (a : Expr) (ts : List Token) → read_chain part (op_level o) (suc j) a (operator o ∷ ts) ≡ (part >>= (λ b. read_chain part (op_level o) j (tree.binary o a b))) ts
chain_turn part o j a ts = rw (same (op_level o), read_chain) refl
  where
    same : (l : ℕ) → (l == l) ≡ true
    same l = grind (arith, nat_tests)

binary_on : (names : List Text) (o : BinOp) (a b : Expr) → Own names a → Own names b → Own names (tree.Expr.binary o a b)
binary_on names o a b oa ob n ts le x s h = operand_at names a oa (op_level o) n (operator o ∷ put_operand (right_level o) b ts) le x (omega arith) go
  where
    go : (j : ℕ) → length (operator o ∷ put_operand (right_level o) b ts) ≤ j → read_rest (read_within names n) (right_level o) j a (operator o ∷ put_operand (right_level o) b ts) ≡ x
    go zero l = absurd (omega arith)
    go (suc j) l =
        let la = rest_of_operand (op_level o) a (operator o ∷ put_operand (right_level o) b ts) in
        let lb = rest_of_operand (right_level o) b ts in
        let ends : right_level o < end ts = omega (arith, stop_is_near ts) in
        let back : read_within names n (right_level o) (put_operand (right_level o) b ts) ≡ Some (b, ts) = operand_back names b ob (right_level o) n ts (omega arith) ends in
        chain_of (read_within names n) o (suc j) a (operator o ∷ put_operand (right_level o) b ts)
        ∙ chain_turn (read_within names n (right_level o)) o j a (put_operand (right_level o) b ts)
        ∙ and_on (read_within names n (right_level o)) _ (put_operand (right_level o) b ts) ts b x back (sym (chain_of (read_within names n) o j (tree.Expr.binary o a b) ts) ∙ h j (omega arith))

choose_on : (names : List Text) (c a b : Expr) → Own names c → Own names a → Own names b → Own names (tree.Expr.choose c a b)
choose_on names c a b oc oa ob n ts le x s h =
    let other : List Token = colon ∷ put_expr b ts in
    let rest : List Token = question ∷ put_expr a other in
    let lc = rest_of_operand condition_level c (question ∷ put_expr a (colon ∷ put_expr b ts)) in
    let la = rest_of_expr a (colon ∷ put_expr b ts) in
    let lb = rest_of_expr b ts in
    let rc : read_level names (read_within names n) n condition_level (put_operand condition_level c rest) ≡ Some (c, rest) =
    operand_at names c oc condition_level n rest le (Some (c, rest)) (omega arith) (λ j l. level_ends (read_within names n) j condition_level c rest (omega arith)) in
    let ra : read_expr names n (put_expr a other) ≡ Some (a, other) = any_back names a oa n other (omega arith) (omega arith) in
    let rb : read_expr names n (put_expr b ts) ≡ Some (b, ts) = any_back names b ob n ts (omega arith) (any_ends ts s) in
    let done : Some (tree.Expr.choose c a b, ts) ≡ x = sym (level_ends (read_within names n) n any_level (tree.Expr.choose c a b) ts (any_ends ts s)) ∙ h n (omega arith) in
    and_on (read_level names (read_within names n) n condition_level) (read_rest (read_within names n) condition_level n) (put_operand condition_level c rest) rest c x rc
    (and_on (read_expr names n) _ (put_expr a other) other a x ra (and_on (read_expr names n) _ (put_expr b ts) ts b x rb done))

member_on : (names : List Text) (a : Expr) (w : Text) → Own names a → Own names (tree.Expr.member a w)
member_on names a w own n ts le x s h = operand_at names a own 0 n (dot ∷ word w ∷ ts) le x (omega arith) go
  where
    go : (j : ℕ) → length (dot ∷ word w ∷ ts) ≤ j → read_suffixes (read_expr names n) j a (dot ∷ word w ∷ ts) ≡ x
    go zero l = absurd (omega arith)
    go (suc j) l = h j (omega arith)

index_on : (names : List Text) (a b : Expr) → Own names a → Own names b → Own names (tree.Expr.index a b)
index_on names a b oa ob n ts le x s h = operand_at names a oa 0 n (left_bracket ∷ put_expr b (right_bracket ∷ ts)) le x (omega arith) go
  where
    go : (j : ℕ) → length (left_bracket ∷ put_expr b (right_bracket ∷ ts)) ≤ j → read_suffixes (read_expr names n) j a (left_bracket ∷ put_expr b (right_bracket ∷ ts)) ≡ x
    go zero l = absurd (omega arith)
    go (suc j) l =
        let la = rest_of_operand 0 a (left_bracket ∷ put_expr b (right_bracket ∷ ts)) in
        let lb = rest_of_expr b (right_bracket ∷ ts) in
        let rb : read_expr names n (put_expr b (right_bracket ∷ ts)) ≡ Some (b, right_bracket ∷ ts) = any_back names b ob n (right_bracket ∷ ts) (omega arith) (omega arith) in
        and_on (read_expr names n) (λ i. close_bracket >> read_suffixes (read_expr names n) j (tree.Expr.index a i)) (put_expr b (right_bracket ∷ ts)) (right_bracket ∷ ts) b x rb (h j (omega arith))

length_on : (names : List Text) (a : Expr) → Own names a → Own names (tree.Expr.length_of a)
length_on names a own n ts le x s h = operand_at names a own 0 n (dot ∷ length_ ∷ left_paren ∷ right_paren ∷ ts) le x (omega arith) go
  where
    go : (j : ℕ) → length (dot ∷ length_ ∷ left_paren ∷ right_paren ∷ ts) ≤ j → read_suffixes (read_expr names n) j a (dot ∷ length_ ∷ left_paren ∷ right_paren ∷ ts) ≡ x
    go zero l = absurd (omega arith)
    go (suc j) l = h j (omega arith)

mutual
  expr_on : (names : List Text) (e : Expr) → IsDeclaredExpr names e → Own names e
  expr_on names (tree.Expr.literal l) d = literal_on names l
  expr_on names (tree.Expr.name w) d = name_on names w d
  expr_on names (tree.Expr.build t args) d = build_on names t args d.0 (args_on names args d.1)
  expr_on names (tree.Expr.call w args) d = call_on names w args d.0 (args_on names args d.1)
  expr_on names (tree.Expr.not a) d = not_on names a (expr_on names a d)
  expr_on names (tree.Expr.flip a) d = flip_on names a (expr_on names a d)
  expr_on names (tree.Expr.binary o a b) d = binary_on names o a b (expr_on names a d.0) (expr_on names b d.1)
  expr_on names (tree.Expr.choose c a b) d = choose_on names c a b (expr_on names c d.0) (expr_on names a d.1) (expr_on names b d.2)
  expr_on names (tree.Expr.member a w) d = member_on names a w (expr_on names a d)
  expr_on names (tree.Expr.index a b) d = index_on names a b (expr_on names a d.0) (expr_on names b d.1)
  expr_on names (tree.Expr.length_of a) d = length_on names a (expr_on names a d)

  args_on : (names : List Text) (es : Exprs) → AreDeclaredExprs names es → ArgsOn names es
  args_on names no_exprs d m j ts lm lj = refl
  args_on names (tree.Exprs.expr e es) d m j ts lm lj =
      let le = rest_of_expr e (put_more_args es ts) in
      let re : read_expr names m (put_expr e (put_more_args es ts)) ≡ Some (e, put_more_args es ts) = any_back names e (expr_on names e d.0) m (put_more_args es ts) lm (more_ends es ts) in
      args_from (read_expr names m) e es j ts re (more_on names es d.1 m j ts (omega arith) (omega arith))

  more_on : (names : List Text) (es : Exprs) → AreDeclaredExprs names es → (m j : ℕ) (ts : List Token) → length (put_more_args es ts) ≤ m → length (put_more_args es ts) ≤ j → until_paren (read_expr names m) j (put_more_args es ts) ≡ Some (exprs_of es, ts)
  more_on names no_exprs d m zero ts lm lj = absurd (omega arith)
  more_on names no_exprs d m (suc j) ts lm lj = refl
  more_on names (tree.Exprs.expr e es) d m zero ts lm lj = absurd (omega arith)
  more_on names (tree.Exprs.expr e es) d m (suc j) ts lm lj =
      let le = rest_of_expr e (put_more_args es ts) in
      let re : read_expr names m (put_expr e (put_more_args es ts)) ≡ Some (e, put_more_args es ts) = any_back names e (expr_on names e d.0) m (put_more_args es ts) (omega arith) (more_ends es ts) in
      one_on (read_expr names m) (until_paren (read_expr names m) j) (put_expr e (put_more_args es ts)) (put_more_args es ts) ts e (exprs_of es) re (more_on names es d.1 m j ts (omega arith) (omega arith))

-- where a token follows that ends an expression, the tree is read
expr_back : (names : List Text) (e : Expr) → IsDeclaredExpr names e → (n : ℕ) (t : Token) (ts : List Token) → is_end t ≡ true → length (put_expr e (t ∷ ts)) ≤ n → read_expr names n (put_expr e (t ∷ ts)) ≡ Some (e, t ∷ ts)
expr_back names e d n t ts last le = any_back names e (expr_on names e d) n (t ∷ ts) le (ends_any t ts last)

-- and what follows it is read
pub expr_then : {B : Type 0} (names : List Text) (e : Expr) → IsDeclaredExpr names e → (n : ℕ) (t : Token) (ts : List Token) (f : Expr → Parse B) (x : Option (B × List Token)) → is_end t ≡ true → length (put_expr e (t ∷ ts)) ≤ n → f e (t ∷ ts) ≡ x → (read_expr names n >>= f) (put_expr e (t ∷ ts)) ≡ x
expr_then names e d n t ts f x last le h = and_on (read_expr names n) f (put_expr e (t ∷ ts)) (t ∷ ts) e x (expr_back names e d n t ts last le) h

pub args_back : (names : List Text) (es : Exprs) → AreDeclaredExprs names es → (n : ℕ) (ts : List Token) → length (put_args es ts) ≤ n → any_until_paren (read_expr names n) n (put_args es ts) ≡ Some (exprs_of es, ts)
args_back names es d n ts le = args_on names es d n n ts le le
