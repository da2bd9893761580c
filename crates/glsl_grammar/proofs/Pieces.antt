-- How the tokens of a text come from those of its pieces.
use Rattle.std.proofs.Common.{◌≡◌, ℕ, ◌<◌, true, false, List, [], ◌∷◌, ◌++◌, length, refl, ap, ◌∙◌, arith, append_assoc}
use Rattle.std.specs.Prelude.{◌==◌}
use Rattle.std.proofs.lemmas.Bool.Decides.{nat_tests}
use Rattle.glsl_ast.specs.Tree.{Text}
use Rattle.glsl_grammar.specs.Token.{Token}
use Rattle.glsl_grammar.specs.Lex.{is_word, lex}
use Rattle.glsl_grammar.specs.Spelled.{AreWordBytes}
use Rattle.glsl_grammar.proofs.Words.{IsBoundary}

-- what may follow a piece: anything, a boundary, or all but `=`
abbrev pub Anything : List ℕ → Type 0
Anything s = Unit {0}

abbrev pub IsUnequal : List ℕ → Type 0
IsUnequal [] = Unit {0}
IsUnequal (c ∷ s) = (c == 61) ≡ false

-- these bytes are these tokens, before a text that may follow them
pub record Lexes (Q : List ℕ → Type 0) (w : Text) (f : List Token → List Token) : Type 0 where
  pub by : (s : List ℕ) → Q s → lex (w ++ s) ≡ f (lex s)

-- before anything; and they may follow a word
pub record IsCut (w : Text) (f : List Token → List Token) : Type 0 where
  pub begins : (s : List ℕ) → IsBoundary (w ++ s)
  pub lexes : Lexes Anything w f

module _ {w : Text} {f : List Token → List Token} where
  pub closed : ((s : List ℕ) → lex (w ++ s) ≡ f (lex s)) → Lexes Anything w f
  closed h = record { by = λ s q. h s }

  pub cut_of : ((s : List ℕ) → IsBoundary (w ++ s)) → ((s : List ℕ) → lex (w ++ s) ≡ f (lex s)) → IsCut w f
  cut_of b h = record { begins = b; lexes = closed h }

  pub weaker : {Q : List ℕ → Type 0} → Lexes Anything w f → Lexes Q w f
  weaker a = record { by = λ s q. a.by s tt }

pub none : Lexes Anything [] (λ ts. ts)
none = record { by = λ s q. refl }

module _ (v w s : List ℕ) (f g : List Token → List Token) where
  chain : lex (v ++ (w ++ s)) ≡ f (lex (w ++ s)) → lex (w ++ s) ≡ g (lex s) → lex ((v ++ w) ++ s) ≡ f (g (lex s))
  chain a b = ap lex (append_assoc v w s) ∙ a ∙ ap f b

module _ {v w : Text} {f g : List Token → List Token} where
  pub both : {Q : List ℕ → Type 0} → Lexes Anything v f → Lexes Q w g → Lexes Q (v ++ w) (λ ts. f (g ts))
  both a b = record { by = λ s q. chain v w s f g (a.by (w ++ s) tt) (b.by s q) }

  -- a word and what may follow it
  pub ends : Lexes IsBoundary v f → IsCut w g → Lexes Anything (v ++ w) (λ ts. f (g ts))
  ends a b = record { by = λ s q. chain v w s f g (a.by (w ++ s) (b.begins s)) (b.lexes.by s q) }

  -- a word and what may be nothing
  pub kept : Lexes IsBoundary v f → ((s : List ℕ) → IsBoundary s → IsBoundary (w ++ s)) → Lexes IsBoundary w g → Lexes IsBoundary (v ++ w) (λ ts. f (g ts))
  kept a k b = record { by = λ s q. chain v w s f g (a.by (w ++ s) (k s q)) (b.by s q) }

  pub cut_on : IsCut v f → Lexes Anything w g → IsCut (v ++ w) (λ ts. f (g ts))
  cut_on a b = record { begins = λ s. rw (append_assoc v w s) (a.begins (w ++ s)); lexes = both a.lexes b }

-- a word, what may follow it, and a further piece
pub cut : {Q : List ℕ → Type 0} {u v w : Text} {f g h : List Token → List Token} → Lexes IsBoundary u f → IsCut v g → Lexes Q w h → Lexes Q (u ++ (v ++ w)) (λ ts. f (g (h ts)))
cut {u} {v} {w} {f} {g} {h} a b c = record { by = λ s q. chain u (v ++ w) s f (λ ts. g (h ts)) (a.by ((v ++ w) ++ s) (rw (append_assoc v w s) (b.begins (w ++ s)))) ((both b.lexes c).by s q) }

pub regroup : {Q : List ℕ → Type 0} (u v w : Text) {f : List Token → List Token} → Lexes Q (u ++ (v ++ w)) f → Lexes Q ((u ++ v) ++ w) f
regroup u v w a = record { by = λ s q. ap (λ l. lex (l ++ s)) (append_assoc u v w) ∙ a.by s q }

pub regroup_cut : (u v w : Text) {f : List Token → List Token} → IsCut (u ++ (v ++ w)) f → IsCut ((u ++ v) ++ w) f
regroup_cut u v w a = record { begins = λ s. rw (append_assoc u v w) (a.begins s); lexes = regroup u v w a.lexes }

-- the text begins with a byte that is no `=`
pub record Opens (w : Text) : Type 0 where
  pub by : (s : List ℕ) → IsUnequal (w ++ s)

pub opens_on : {v : Text} (w : Text) → Opens v → Opens (v ++ w)
opens_on {v} w a = record { by = λ s. rw (append_assoc v w s) (a.by (w ++ s)) }

-- a piece that no `=` may follow
pub unless : {Q : List ℕ → Type 0} {v w : Text} {f g : List Token → List Token} → Lexes IsUnequal v f → Opens w → Lexes Q w g → Lexes Q (v ++ w) (λ ts. f (g ts))
unless {v} {w} {f} {g} a o b = record { by = λ s q. chain v w s f g (a.by (w ++ s) (o.by s)) (b.by s q) }

word_is_no_equals : (c : ℕ) → is_word c ≡ true → (c == 61) ≡ false
unfolding is_word
word_is_no_equals c h = grind (arith, nat_tests)

pub word_opens : (w : Text) → 0 < length w → AreWordBytes w → Opens w
word_opens [] l h = absurd (omega arith)
word_opens (c ∷ w) l h = record { by = λ s. word_is_no_equals c h.0 }
