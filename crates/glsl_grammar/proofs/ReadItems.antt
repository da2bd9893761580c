-- Reading the tokens of an item gives it back.
use Rattle.std.proofs.Common.{◌≡◌, ℕ, zero, suc, ◌+◌, ◌≤◌, ◌<◌, Bool, true, false, List, [], ◌∷◌, length, Option, Some, None, refl, sym, ap, ◌∙◌, arith}
use Rattle.std.specs.Prelude.{option_map}
use Rattle.glsl_ast.specs.Tree as tree
use Rattle.glsl_ast.specs.Tree.{Text, TypeName, type_name, Base, Expr, Stmts, Field, field, Member, Param, param, Decl}
use Rattle.glsl_ast.specs.declared.items.Size.{Size}
use Rattle.glsl_ast.specs.declared.items.BlockPlace.{BlockPlace}
use Rattle.glsl_ast.specs.declared.items.BlockPlace.TheVariants.{Set, Push}
use Rattle.glsl_ast.specs.declared.items.BlockRules.{BlockRules}
use Rattle.glsl_ast.specs.declared.items.BlockRules.TheVariants.{Std430, Std140}
use Rattle.glsl_ast.specs.declared.items.Qual.{Qual}
use Rattle.glsl_grammar.specs.Token.{Token, word, number, const_, left_paren, right_paren, left_brace, semicolon, comma, equals, put_type, put_expr, put_body, put_fields, put_quals, put_member, put_members, put_inout, put_param, put_more_params, put_params, put_place, rules_word, kind_token, put_result_type, put_constant_id, put_decl, size_word, put_size, put_more_sizes, put_sizes}
use Rattle.glsl_grammar.specs.Parsers.{Parse, ◌>>=◌, one_and, until_brace, some_until_brace, until_paren, some_until_paren, any_until_paren}
use Rattle.glsl_grammar.specs.Read.{read_type, read_body, read_field, read_constant, read_quals, read_member, read_place, read_rules, read_kind, read_block, read_laid_out, read_inout, read_param, read_function, read_typed, read_item, axis_of, read_axis, read_size}
use Rattle.glsl_grammar.specs.Scopes.{IsDeclaredType, IsDeclaredExpr, AreDeclaredStmts, AreDeclaredFields, AreDeclaredMembers, AreDeclaredParams, IsDeclaredDecl, AreAxes}
use Rattle.glsl_grammar.proofs.ReadExprs.{and_on, one_on, rest_of_type, ends_type-word, type_back, rest_of_expr, first_of_type, expr_then}
use Rattle.glsl_grammar.proofs.ReadStmts.{rest_of_body, body_back}

-- a type and a name are read, and what follows them
typed_on : {B : Type 0} (names : List Text) (t : TypeName) → IsDeclaredType names t → (n : ℕ) (w : Text) (ts : List Token) (f : TypeName → Parse B) (x : Option (B × List Token)) → length (put_type t (word w ∷ ts)) ≤ n → f t (word w ∷ ts) ≡ x → (read_type names n >>= f) (put_type t (word w ∷ ts)) ≡ x
typed_on names t d n w ts f x le h = and_on (read_type names n) f (put_type t (word w ∷ ts)) (word w ∷ ts) t x (type_back names t d n (word w ∷ ts) (ends_type-word w ts) (omega arith)) h

-- fields

rest_of_fields : (fs : List Field) (ts : List Token) → length ts + 1 ≤ length (put_fields fs ts)
rest_of_fields [] ts = omega arith
rest_of_fields (field t w ∷ fs) ts = omega (arith, rest_of_type t (word w ∷ semicolon ∷ put_fields fs ts), rest_of_fields fs ts)

field_back : (names : List Text) (t : TypeName) (w : Text) → IsDeclaredType names t → (n : ℕ) (ts : List Token) → length (put_type t (word w ∷ semicolon ∷ ts)) ≤ n → read_field names n (put_type t (word w ∷ semicolon ∷ ts)) ≡ Some (field t w, ts)
field_back names t w d n ts le = typed_on names t d n w (semicolon ∷ ts) _ _ le refl

field_turn : (part : Parse Field) (t : TypeName) (n : ℕ) (ts : List Token) → until_brace part (suc n) (put_type t ts) ≡ one_and part (until_brace part n) (put_type t ts)
field_turn part t n ts =
    let P : List Token → Type 0 = λ l. until_brace part (suc n) l ≡ one_and part (until_brace part n) l in
    first_of_type P (λ b r. refl) (λ w r. refl) t ts

fields_on : (names : List Text) (fs : List Field) → AreDeclaredFields names fs → (m j : ℕ) (ts : List Token) → length (put_fields fs ts) ≤ m → length (put_fields fs ts) ≤ j → until_brace (read_field names m) j (put_fields fs ts) ≡ Some (fs, ts)
fields_on names [] d m zero ts lm lj = absurd (omega arith)
fields_on names [] d m (suc j) ts lm lj = refl
fields_on names (field t w ∷ fs) d m zero ts lm lj = absurd (omega (arith, rest_of_type t (word w ∷ semicolon ∷ put_fields fs ts)))
fields_on names (field t w ∷ fs) d m (suc j) ts lm lj =
    let rest = put_fields fs ts in
    let l = rest_of_type t (word w ∷ semicolon ∷ put_fields fs ts) in
    field_turn (read_field names m) t j (word w ∷ semicolon ∷ rest)
    ∙ one_on (read_field names m) (until_brace (read_field names m) j) (put_type t (word w ∷ semicolon ∷ rest)) rest ts (field t w) fs (field_back names t w d.0 m rest lm) (fields_on names fs d.1 m j ts (omega arith) (omega arith))

some_fields : (names : List Text) (fs : List Field) → 1 ≤ length fs → AreDeclaredFields names fs → (n : ℕ) (ts : List Token) → length (put_fields fs ts) ≤ n → some_until_brace (read_field names n) n (put_fields fs ts) ≡ Some (fs, ts)
some_fields names [] some d n ts le = absurd (omega arith)
some_fields names (field t w ∷ fs) some d n ts le = sym (field_turn (read_field names n) t n (word w ∷ semicolon ∷ put_fields fs ts)) ∙ fields_on names (field t w ∷ fs) d n (suc n) ts le (omega arith)

-- members

rest_of_quals : (qs : List Qual) (ts : List Token) → length ts ≤ length (put_quals qs ts)
rest_of_quals [] ts = omega arith
rest_of_quals (q ∷ qs) ts = omega (arith, rest_of_quals qs ts)

-- no qualifier stands there
abbrev pub EndsQuals : List Token → Type 0
EndsQuals ts = (n : ℕ) → read_quals n ts ≡ Some ([], ts)

ends_quals-type : (t : TypeName) (ts : List Token) → EndsQuals (put_type t ts)
ends_quals-type t ts zero = refl
ends_quals-type t ts (suc n) =
    let P : List Token → Type 0 = λ l. read_quals (suc n) l ≡ Some ([], l) in
    first_of_type P (λ b r. refl) (λ w r. refl) t ts

ends_quals-kind : (b : Bool) (ts : List Token) → EndsQuals (kind_token b ∷ ts)
ends_quals-kind b ts zero = refl
ends_quals-kind true ts (suc n) = refl
ends_quals-kind false ts (suc n) = refl

quals_back : (qs : List Qual) (n : ℕ) (ts : List Token) → EndsQuals ts → length (put_quals qs ts) ≤ n → read_quals n (put_quals qs ts) ≡ Some (qs, ts)
quals_back [] n ts ends le = ends n
quals_back (q ∷ qs) zero ts ends le = absurd (omega arith)
quals_back (q ∷ qs) (suc n) ts ends le = and_on (read_quals n) _ (put_quals qs ts) ts qs _ (quals_back qs n ts ends (omega arith)) refl

rest_of_members : (ms : List Member) (ts : List Token) → length ts + 1 ≤ length (put_members ms ts)
rest_of_members [] ts = omega arith
rest_of_members (tree.Member.member k qs t w ∷ ms) ts = omega (arith, rest_of_quals qs (put_type t (word w ∷ semicolon ∷ put_members ms ts)), rest_of_type t (word w ∷ semicolon ∷ put_members ms ts), rest_of_members ms ts)

member_back : (names : List Text) (k : ℕ) (qs : List Qual) (t : TypeName) (w : Text) → IsDeclaredType names t → (n : ℕ) (ts : List Token) → length (put_quals qs (put_type t (word w ∷ semicolon ∷ ts))) ≤ n → read_member names n (put_member (tree.Member.member k qs t w) ts) ≡ Some (tree.Member.member k qs t w, ts)
member_back names k qs t w d n ts le =
    let rest = put_type t (word w ∷ semicolon ∷ ts) in
    let l = rest_of_quals qs (put_type t (word w ∷ semicolon ∷ ts)) in
    and_on (read_quals n) _ (put_quals qs rest) rest qs _ (quals_back qs n rest (ends_quals-type t (word w ∷ semicolon ∷ ts)) le) (typed_on names t d n w (semicolon ∷ ts) _ _ (omega arith) refl)

members_on : (names : List Text) (ms : List Member) → AreDeclaredMembers names ms → (m j : ℕ) (ts : List Token) → length (put_members ms ts) ≤ m → length (put_members ms ts) ≤ j → until_brace (read_member names m) j (put_members ms ts) ≡ Some (ms, ts)
members_on names [] d m zero ts lm lj = absurd (omega arith)
members_on names [] d m (suc j) ts lm lj = refl
members_on names (tree.Member.member k qs t w ∷ ms) d m zero ts lm lj = absurd (omega arith)
members_on names (tree.Member.member k qs t w ∷ ms) d m (suc j) ts lm lj =
    let rest = put_members ms ts in
    let lq = rest_of_quals qs (put_type t (word w ∷ semicolon ∷ put_members ms ts)) in
    let lt = rest_of_type t (word w ∷ semicolon ∷ put_members ms ts) in
    one_on (read_member names m) (until_brace (read_member names m) j) (put_member (tree.Member.member k qs t w) rest) rest ts (tree.Member.member k qs t w) ms (member_back names k qs t w d.0 m rest (omega arith)) (members_on names ms d.1 m j ts (omega arith) (omega arith))

member_turn : (part : Parse Member) (m : Member) (n : ℕ) (ts : List Token) → until_brace part (suc n) (put_member m ts) ≡ one_and part (until_brace part n) (put_member m ts)
member_turn part (tree.Member.member k qs t w) n ts = refl

some_members : (names : List Text) (ms : List Member) → 1 ≤ length ms → AreDeclaredMembers names ms → (n : ℕ) (ts : List Token) → length (put_members ms ts) ≤ n → some_until_brace (read_member names n) n (put_members ms ts) ≡ Some (ms, ts)
some_members names [] some d n ts le = absurd (omega arith)
some_members names (m ∷ ms) some d n ts le = sym (member_turn (read_member names n) m n (put_members ms ts)) ∙ members_on names (m ∷ ms) d n (suc n) ts le (omega arith)

-- parameters

inout_back : (b : Bool) (t : TypeName) (ts : List Token) → read_inout (put_inout b (put_type t ts)) ≡ Some (b, put_type t ts)
inout_back true t ts = refl
inout_back false t ts =
    let P : List Token → Type 0 = λ l. read_inout l ≡ Some (false, l) in
    first_of_type P (λ b r. refl) (λ w r. refl) t ts

rest_of_inout : (b : Bool) (ts : List Token) → length ts ≤ length (put_inout b ts)
rest_of_inout true ts = omega arith
rest_of_inout false ts = omega arith

rest_of_param : (p : Param) (ts : List Token) → length ts + 2 ≤ length (put_param p ts)
rest_of_param (param b t w) ts = omega (arith, rest_of_inout b (put_type t (word w ∷ ts)), rest_of_type t (word w ∷ ts))

rest_of_more_params : (ps : List Param) (ts : List Token) → length ts + 1 ≤ length (put_more_params ps ts)
rest_of_more_params [] ts = omega arith
rest_of_more_params (p ∷ ps) ts = omega (arith, rest_of_param p (put_more_params ps ts), rest_of_more_params ps ts)

rest_of_params : (ps : List Param) (ts : List Token) → length ts + 1 ≤ length (put_params ps ts)
rest_of_params [] ts = omega arith
rest_of_params (p ∷ ps) ts = omega (arith, rest_of_param p (put_more_params ps ts), rest_of_more_params ps ts)

param_back : (names : List Text) (b : Bool) (t : TypeName) (w : Text) → IsDeclaredType names t → (n : ℕ) (ts : List Token) → length (put_param (param b t w) ts) ≤ n → read_param names n (put_param (param b t w) ts) ≡ Some (param b t w, ts)
param_back names b t w d n ts le =
    let l = rest_of_inout b (put_type t (word w ∷ ts)) in
    and_on read_inout _ (put_inout b (put_type t (word w ∷ ts))) (put_type t (word w ∷ ts)) b _ (inout_back b t (word w ∷ ts)) (typed_on names t d n w ts _ _ (omega arith) refl)

more_params_on : (names : List Text) (ps : List Param) → AreDeclaredParams names ps → (m j : ℕ) (ts : List Token) → length (put_more_params ps ts) ≤ m → length (put_more_params ps ts) ≤ j → until_paren (read_param names m) j (put_more_params ps ts) ≡ Some (ps, ts)
more_params_on names [] d m zero ts lm lj = absurd (omega arith)
more_params_on names [] d m (suc j) ts lm lj = refl
more_params_on names (param b t w ∷ ps) d m zero ts lm lj = absurd (omega arith)
more_params_on names (param b t w ∷ ps) d m (suc j) ts lm lj =
    let rest = put_more_params ps ts in
    let l = rest_of_param (param b t w) (put_more_params ps ts) in
    one_on (read_param names m) (until_paren (read_param names m) j) (put_param (param b t w) rest) rest ts (param b t w) ps (param_back names b t w d.0 m rest (omega arith)) (more_params_on names ps d.1 m j ts (omega arith) (omega arith))

param_turn : (part : Parse Param) (b : Bool) (t : TypeName) (n : ℕ) (ts : List Token) → any_until_paren part n (put_inout b (put_type t ts)) ≡ some_until_paren part n (put_inout b (put_type t ts))
param_turn part true t n ts = refl
param_turn part false t n ts =
    let P : List Token → Type 0 = λ l. any_until_paren part n l ≡ some_until_paren part n l in
    first_of_type P (λ b r. refl) (λ w r. refl) t ts

params_back : (names : List Text) (ps : List Param) → AreDeclaredParams names ps → (n : ℕ) (ts : List Token) → length (put_params ps ts) ≤ n → any_until_paren (read_param names n) n (put_params ps ts) ≡ Some (ps, ts)
params_back names [] d n ts le = refl
params_back names (param b t w ∷ ps) d n ts le =
    let rest = put_more_params ps ts in
    let l = rest_of_param (param b t w) (put_more_params ps ts) in
    param_turn (read_param names n) b t n (word w ∷ rest)
    ∙ one_on (read_param names n) (until_paren (read_param names n) n) (put_param (param b t w) rest) rest ts (param b t w) ps (param_back names b t w d.0 n rest le) (more_params_on names ps d.1 n n ts (omega arith) (omega arith))

-- items

place_back : (place : BlockPlace) (ts : List Token) → read_place (put_place place ts) ≡ Some (place, ts)
place_back (Set s b) ts = refl
place_back Push ts = refl

laid_out-block : (names : List Text) (n : ℕ) (place : BlockPlace) (ts : List Token) → read_laid_out names n (put_place place ts) ≡ read_block names n (put_place place ts)
laid_out-block names n (Set s b) ts = refl
laid_out-block names n Push ts = refl

rules_back : (rules : BlockRules) (ts : List Token) → read_rules (word (rules_word rules) ∷ ts) ≡ Some (rules, ts)
rules_back Std430 ts = refl
rules_back Std140 ts = refl

kind_back : (b : Bool) (ts : List Token) → read_kind (kind_token b ∷ ts) ≡ Some (b, ts)
kind_back true ts = refl
kind_back false ts = refl

rest_of_place : (place : BlockPlace) (ts : List Token) → length ts + 1 ≤ length (put_place place ts)
rest_of_place (Set s b) ts = omega arith
rest_of_place Push ts = omega arith

rest_of_constant_id : (id : Option ℕ) (ts : List Token) → length ts ≤ length (put_constant_id id ts)
rest_of_constant_id None ts = omega arith
rest_of_constant_id (Some k) ts = omega arith

rest_of_result_type : (result : Option TypeName) (ts : List Token) → length ts + 1 ≤ length (put_result_type result ts)
rest_of_result_type None ts = omega arith
rest_of_result_type (Some t) ts = omega (arith, rest_of_type t ts)

pub rest_of_decl : (d : Decl) (ts : List Token) → length ts + 1 ≤ length (put_decl d ts)
rest_of_decl (tree.Decl.struct w fs) ts = omega (arith, rest_of_fields fs (semicolon ∷ ts))
rest_of_decl (tree.Decl.constant id t w e) ts =
    let rest = put_expr e (semicolon ∷ ts) in
    omega (arith, rest_of_constant_id id (const_ ∷ put_type t (word w ∷ equals ∷ put_expr e (semicolon ∷ ts))), rest_of_type t (word w ∷ equals ∷ put_expr e (semicolon ∷ ts)), rest_of_expr e (semicolon ∷ ts))
rest_of_decl (tree.Decl.shared t w) ts = omega (arith, rest_of_type t (word w ∷ semicolon ∷ ts))
rest_of_decl (tree.Decl.global t w e) ts = omega (arith, rest_of_type t (word w ∷ equals ∷ put_expr e (semicolon ∷ ts)), rest_of_expr e (semicolon ∷ ts))
rest_of_decl (tree.Decl.block place rules qs buffer w ms instance) ts = omega (arith, rest_of_members ms (word instance ∷ semicolon ∷ ts), rest_of_quals qs (kind_token buffer ∷ word w ∷ left_brace ∷ put_members ms (word instance ∷ semicolon ∷ ts)), rest_of_place place (comma ∷ word (rules_word rules) ∷ right_paren ∷ put_quals qs (kind_token buffer ∷ word w ∷ left_brace ∷ put_members ms (word instance ∷ semicolon ∷ ts))))
rest_of_decl (tree.Decl.function result w ps body) ts = omega (arith, rest_of_body body ts, rest_of_params ps (left_brace ∷ put_body body ts), rest_of_result_type result (word w ∷ left_paren ∷ put_params ps (left_brace ∷ put_body body ts)))

item_typed : (names : List Text) (t : TypeName) (n : ℕ) (ts : List Token) → read_item names n (put_type t ts) ≡ read_typed names n (put_type t ts)
item_typed names t n ts =
    let P : List Token → Type 0 = λ l. read_item names n l ≡ read_typed names n l in
    first_of_type P (λ b r. refl) (λ w r. refl) t ts

constant_back : (names : List Text) (id : Option ℕ) (t : TypeName) (w : Text) (e : Expr) → IsDeclaredType names t → IsDeclaredExpr names e → (n : ℕ) (ts : List Token) → length (put_type t (word w ∷ equals ∷ put_expr e (semicolon ∷ ts))) ≤ n → read_constant names n id (const_ ∷ put_type t (word w ∷ equals ∷ put_expr e (semicolon ∷ ts))) ≡ Some (tree.Decl.constant id t w e, ts)
constant_back names id t w e dt de n ts le =
    let l = rest_of_type t (word w ∷ equals ∷ put_expr e (semicolon ∷ ts)) in
    typed_on names t dt n w (equals ∷ put_expr e (semicolon ∷ ts)) _ _ le (expr_then names e de n semicolon ts _ _ refl (omega arith) refl)

block_back : (names : List Text) (place : BlockPlace) (rules : BlockRules) (qs : List Qual) (buffer : Bool) (w : Text) (ms : List Member) (instance : Text) → 1 ≤ length ms → AreDeclaredMembers names ms → (n : ℕ) (ts : List Token) → length (put_quals qs (kind_token buffer ∷ word w ∷ left_brace ∷ put_members ms (word instance ∷ semicolon ∷ ts))) ≤ n → read_block names n (put_place place (comma ∷ word (rules_word rules) ∷ right_paren ∷ put_quals qs (kind_token buffer ∷ word w ∷ left_brace ∷ put_members ms (word instance ∷ semicolon ∷ ts)))) ≡ Some (tree.Decl.block place rules qs buffer w ms instance, ts)
block_back names place rules qs buffer w ms instance some d n ts le =
    let end = word instance ∷ semicolon ∷ ts in
    let named = word w ∷ left_brace ∷ put_members ms (word instance ∷ semicolon ∷ ts) in
    let quals = put_quals qs (kind_token buffer ∷ word w ∷ left_brace ∷ put_members ms (word instance ∷ semicolon ∷ ts)) in
    let l = rest_of_quals qs (kind_token buffer ∷ word w ∷ left_brace ∷ put_members ms (word instance ∷ semicolon ∷ ts)) in
    and_on read_place _ (put_place place (comma ∷ word (rules_word rules) ∷ right_paren ∷ quals)) (comma ∷ word (rules_word rules) ∷ right_paren ∷ quals) place _ (place_back place (comma ∷ word (rules_word rules) ∷ right_paren ∷ quals))
    (and_on read_rules _ (word (rules_word rules) ∷ right_paren ∷ quals) (right_paren ∷ quals) rules _ (rules_back rules (right_paren ∷ quals))
    (and_on (read_quals n) _ quals (kind_token buffer ∷ named) qs _ (quals_back qs n (kind_token buffer ∷ named) (ends_quals-kind buffer named) le)
    (and_on read_kind _ (kind_token buffer ∷ named) named buffer _ (kind_back buffer named)
    (and_on (some_until_brace (read_member names n) n) _ (put_members ms end) end ms _ (some_members names ms some d n end (omega arith)) refl))))

function_back : (names : List Text) (result : Option TypeName) (w : Text) (ps : List Param) (body : Stmts) → AreDeclaredParams names ps → AreDeclaredStmts names body → (n : ℕ) (ts : List Token) → length (put_params ps (left_brace ∷ put_body body ts)) ≤ n → read_function names n result w (left_paren ∷ put_params ps (left_brace ∷ put_body body ts)) ≡ Some (tree.Decl.function result w ps body, ts)
function_back names result w ps body dp db n ts le =
    let l = rest_of_params ps (left_brace ∷ put_body body ts) in
    and_on (any_until_paren (read_param names n) n) _ (put_params ps (left_brace ∷ put_body body ts)) (left_brace ∷ put_body body ts) ps _ (params_back names ps dp n (left_brace ∷ put_body body ts) le)
    (and_on (read_body names n) _ (left_brace ∷ put_body body ts) ts body _ (body_back names body db n ts (omega arith)) refl)

pub decl_back : (names : List Text) (d : Decl) → IsDeclaredDecl names d → (n : ℕ) (ts : List Token) → length (put_decl d ts) ≤ n → read_item names n (put_decl d ts) ≡ Some (d, ts)
decl_back names (tree.Decl.struct w fs) d n ts le = and_on (some_until_brace (read_field names n) n) _ (put_fields fs (semicolon ∷ ts)) (semicolon ∷ ts) fs _ (some_fields names fs d.0 d.1 n (semicolon ∷ ts) (omega arith)) refl
decl_back names (tree.Decl.constant None t w e) d n ts le = constant_back names None t w e d.0 d.1 n ts (omega arith)
decl_back names (tree.Decl.constant (Some k) t w e) d n ts le = constant_back names (Some k) t w e d.0 d.1 n ts (omega arith)
decl_back names (tree.Decl.shared t w) d n ts le = typed_on names t d n w (semicolon ∷ ts) _ _ (omega arith) refl
decl_back names (tree.Decl.global t w e) d n ts le =
    let l = rest_of_type t (word w ∷ equals ∷ put_expr e (semicolon ∷ ts)) in
    item_typed names t n (word w ∷ equals ∷ put_expr e (semicolon ∷ ts))
    ∙ typed_on names t d.0 n w (equals ∷ put_expr e (semicolon ∷ ts)) _ _ le (expr_then names e d.1 n semicolon ts _ _ refl (omega arith) refl)
decl_back names (tree.Decl.block place rules qs buffer w ms instance) d n ts le =
    let quals = put_quals qs (kind_token buffer ∷ word w ∷ left_brace ∷ put_members ms (word instance ∷ semicolon ∷ ts)) in
    let l = rest_of_place place (comma ∷ word (rules_word rules) ∷ right_paren ∷ put_quals qs (kind_token buffer ∷ word w ∷ left_brace ∷ put_members ms (word instance ∷ semicolon ∷ ts))) in
    laid_out-block names n place (comma ∷ word (rules_word rules) ∷ right_paren ∷ quals)
    ∙ block_back names place rules qs buffer w ms instance d.0 d.1 n ts (omega arith)
decl_back names (tree.Decl.function None w ps body) d n ts le = function_back names None w ps body d.1 d.2 n ts (omega arith)
decl_back names (tree.Decl.function (Some t) w ps body) d n ts le =
    let rest = left_paren ∷ put_params ps (left_brace ∷ put_body body ts) in
    let l = rest_of_type t (word w ∷ left_paren ∷ put_params ps (left_brace ∷ put_body body ts)) in
    item_typed names t n (word w ∷ rest)
    ∙ typed_on names t d.0 n w rest _ _ le (function_back names (Some t) w ps body d.1 d.2 n ts (omega arith))

-- sizes

axis_back : (a : ℕ) (b : Bool) → a < 3 → axis_of (size_word a b) ≡ Some (a, b)
axis_back zero true l = refl
axis_back zero false l = refl
axis_back (suc zero) true l = refl
axis_back (suc zero) false l = refl
axis_back (suc (suc zero)) true l = refl
axis_back (suc (suc zero)) false l = refl
axis_back (suc (suc (suc a))) b l = absurd (omega arith)

size_back : (s : Size) → s.axis < 3 → (ts : List Token) → read_size (put_size s ts) ≡ Some (s, ts)
size_back s l ts = and_on read_axis _ (put_size s ts) (equals ∷ number s.number ∷ ts) (s.axis, s.by_id) _ (ap (option_map (λ p. (p, equals ∷ number s.number ∷ ts))) (axis_back s.axis s.by_id l)) refl

rest_of_more_sizes : (ss : List Size) (ts : List Token) → length ts + 1 ≤ length (put_more_sizes ss ts)
rest_of_more_sizes [] ts = omega arith
rest_of_more_sizes (s ∷ ss) ts = omega (arith, rest_of_more_sizes ss ts)

pub rest_of_sizes : (ss : List Size) (ts : List Token) → length ts + 1 ≤ length (put_sizes ss ts)
rest_of_sizes [] ts = omega arith
rest_of_sizes (s ∷ ss) ts = omega (arith, rest_of_more_sizes ss ts)

more_sizes_on : (ss : List Size) → AreAxes ss → (n : ℕ) (ts : List Token) → length (put_more_sizes ss ts) ≤ n → until_paren read_size n (put_more_sizes ss ts) ≡ Some (ss, ts)
more_sizes_on [] d zero ts le = absurd (omega arith)
more_sizes_on [] d (suc n) ts le = refl
more_sizes_on (s ∷ ss) d zero ts le = absurd (omega arith)
more_sizes_on (s ∷ ss) d (suc n) ts le = one_on read_size (until_paren read_size n) (put_size s (put_more_sizes ss ts)) (put_more_sizes ss ts) ts s ss (size_back s d.0 (put_more_sizes ss ts)) (more_sizes_on ss d.1 n ts (omega arith))

pub sizes_back : (ss : List Size) → 1 ≤ length ss → AreAxes ss → (n : ℕ) (ts : List Token) → length (put_sizes ss ts) ≤ n → some_until_paren read_size n (put_sizes ss ts) ≡ Some (ss, ts)
sizes_back [] some d n ts le = absurd (omega arith)
sizes_back (s ∷ ss) some d n ts le = one_on read_size (until_paren read_size n) (put_size s (put_more_sizes ss ts)) (put_more_sizes ss ts) ts s ss (size_back s d.0 (put_more_sizes ss ts)) (more_sizes_on ss d.1 n ts (omega arith))
