-- Reading the tokens of a tree gives the tree back.
use Rattle.std.proofs.Common.{◌≡◌, ℕ, zero, suc, ◌≤◌, List, [], ◌∷◌, length, Some, refl, ap, ◌∙◌, arith}
use Rattle.std.specs.Prelude.{option_map}
use Rattle.glsl_ast.specs.Tree.{Text, Decl, TranslationUnit, translation_unit}
use Rattle.glsl_ast.specs.declared.items.Size.{Size}
use Rattle.glsl_grammar.specs.Token.{Token, in_, semicolon, put_decl, put_decls, put_sizes, put_unit}
use Rattle.glsl_grammar.specs.Parsers.{◌>>=◌, pure, some_until_paren}
use Rattle.glsl_grammar.specs.Read.{names_after, read_item, read_items, read_size, read_unit, tree_of_tokens}
use Rattle.glsl_grammar.specs.Scopes.{AreAxes, AreDeclaredDecls, IsDeclared}
use Rattle.glsl_grammar.proofs.ReadExprs.{and_on}
use Rattle.glsl_grammar.proofs.ReadItems.{rest_of_decl, decl_back, rest_of_sizes, sizes_back}

-- an item stands where there is a token
items_turn : (names : List Text) (n : ℕ) (ts : List Token) → 1 ≤ length ts → read_items names (suc n) ts ≡ (read_item names (suc n) >>= (λ d. read_items (names_after names d) n >>= (λ ds. pure (d ∷ ds)))) ts
items_turn names n [] some = absurd (omega arith)
items_turn names n (t ∷ ts) some = refl

decls_back : (names : List Text) (ds : List Decl) → AreDeclaredDecls names ds → (n : ℕ) → length (put_decls ds []) ≤ n → read_items names n (put_decls ds []) ≡ Some (ds, [])
decls_back names [] h zero le = refl
decls_back names [] h (suc n) le = refl
decls_back names (d ∷ ds) h zero le = absurd (omega (arith, rest_of_decl d (put_decls ds [])))
decls_back names (d ∷ ds) h (suc n) le =
    let rest = put_decls ds [] in
    let l = rest_of_decl d (put_decls ds []) in
    items_turn names n (put_decl d rest) (omega arith)
    ∙ and_on (read_item names (suc n)) _ (put_decl d rest) rest d _ (decl_back names d h.0 (suc n) rest le)
    (and_on (read_items (names_after names d) n) _ rest [] ds _ (decls_back (names_after names d) ds h.1 n (omega arith)) refl)

unit_back : (ss : List Size) (ds : List Decl) → 1 ≤ length ss → AreAxes ss → AreDeclaredDecls [] ds → (n : ℕ) → length (put_unit (translation_unit ss ds)) ≤ n → read_unit n (put_unit (translation_unit ss ds)) ≡ Some (translation_unit ss ds, [])
unit_back ss ds some axes h n le =
    let rest = in_ ∷ semicolon ∷ put_decls ds [] in
    let l = rest_of_sizes ss (in_ ∷ semicolon ∷ put_decls ds []) in
    and_on (some_until_paren read_size n) _ (put_sizes ss rest) rest ss _ (sizes_back ss some axes n rest (omega arith))
    (and_on (read_items [] n) _ (put_decls ds []) [] ds _ (decls_back [] ds h n (omega arith)) refl)

pub tokens_back : (u : TranslationUnit) → IsDeclared u → tree_of_tokens (put_unit u) ≡ Some u
unfolding tree_of_tokens IsDeclared
tokens_back (translation_unit ss ds) d = ap (option_map (λ r. r.0)) (unit_back ss ds d.0 d.1 d.2 (length (put_unit (translation_unit ss ds))) (omega arith))
