-- The keywords as words.
use Rattle.std.proofs.Common.{◌≡◌, ◌||◌, Bool, true, false, List, [], ◌∷◌, map, Option, Some, bytes_eq, refl, sym, ap, subst, ◌∙◌, inl, inr}
use Rattle.std.specs.Prelude.{is_some}
use Rattle.std.specs.List.{list_all, list_any}
use Rattle.std.proofs.lemmas.Bool.{and_parts, cases_Bool, or_cases, both_ways, false_from_ne_true}
use Rattle.std.proofs.lemmas.Slice.Eq.{bytes_eq-Decides}
use Rattle.glsl_ast.specs.Tree.{Text}
use Rattle.glsl_grammar.specs.Token.{Token}
use Rattle.glsl_grammar.specs.Lex.{keywords, token_in}
use Rattle.text_check.specs.Words.{is_keyword}
use Rattle.text_check.specs.declared.names.TheConstants.{KEYWORDS}

-- one of the words
abbrev among : Text → List Text → Bool
among t ws = list_any (λ w. bytes_eq t w) ws

included : (ws vs : List Text) → list_all (λ w. among w vs) ws ≡ true → (t : Text) → among t ws ≡ true → among t vs ≡ true
included [] vs all t h = absurd (both_ways false refl h)
included (w ∷ ws) vs all t h =
    let k = and_parts (among w vs) (list_all (λ v. among v vs) ws) all in
    elim (or_cases (bytes_eq t w) (among t ws) h) [
      | inl here ↦ subst (λ v. among v vs ≡ true) (sym ((bytes_eq-Decides t w).0 here)) k.0
      | inr later ↦ included ws vs k.1 t later
    ]

same_words : (ws vs : List Text) → list_all (λ w. among w vs) ws ≡ true → list_all (λ v. among v ws) vs ≡ true → (t : Text) → among t ws ≡ among t vs
same_words ws vs there back t = elim (cases_Bool (among t ws)) [
  | inl is ↦ is ∙ sym (included ws vs there t is)
  | inr not_is ↦ not_is ∙ sym (false_from_ne_true (among t vs) (λ h. both_ways (among t ws) not_is (included vs ws back t h)))
]

abbrev firsts : List (Text × Token) → List Text
firsts rows = map (λ (row : Text × Token). row.0) rows

abbrev found : Bool → Token → Option Token → Option Token
found b t o = elim b [ true ↦ Some t | false ↦ o ]

found_is : (b : Bool) (t : Token) (o : Option Token) → is_some (found b t o) ≡ (b || is_some o)
found_is true t o = refl
found_is false t o = refl

in_rows : (rows : List (Text × Token)) (t : Text) → is_some (token_in rows t) ≡ among t (firsts rows)
in_rows [] t = refl
in_rows (row ∷ rows) t =
    found_is (bytes_eq t row.0) row.1 (token_in rows t)
    ∙ ap (λ b. bytes_eq t row.0 || b) (in_rows rows t)

abbrev pub each : {A : Type 0} → List A → (A → Text) → List Text
each [] f = []
each (x ∷ xs) f = f x ∷ each xs f

-- the words of the table
abbrev pub table : List Text
table = each KEYWORDS (λ k. k.now)

pub are_keywords : (t : Text) → list_any (λ w. bytes_eq t w) table ≡ is_keyword t
are_keywords t = same_words table (firsts keywords) refl refl t ∙ sym (in_rows keywords t)
