-- The names of keys are none with which paths to memory begin, but those of what memory is: so are those of values, of kept indexes, of flags and of spares.
use Rattle.std.proofs.Common.{◌≡◌, ◌++◌, ℕ, Bool, true, false, List, [], ◌∷◌, Option, Some, None, unwrap_or, inl, inr, refl, sym, ap, ◌∙◌, subst, arith}
use Rattle.std.specs.Prelude.{bytes_eq, option_to_list}
use Rattle.std.proofs.lemmas.Bool.{or_from}
use Rattle.spv_module.specs.Lists.{id}
use Rattle.name_alloc.specs.declared.claims.Key.{Key}
use Rattle.name_alloc.specs.declared.claims.Key.TheVariants.{Id as IdOf}
use Rattle.name_alloc.specs.Law.{AreNames}
use Rattle.name_alloc.specs.Naming.{space_of}
use Rattle.name_alloc.specs.Reserved.{has_prefix}
use Rattle.glsl_ast.specs.Tree.{Text}
use Rattle.text_rules.specs.Constants.{group_size_text}
use Rattle.unit_rules.specs.Translation.{text_of}
use Rattle.region_law.proofs.Flags.{other_text}
use Rattle.typed_law.proofs.Lists.{clash}
use Rattle.claim_law.specs.Claimed.{IsIn}
use Rattle.claim_law.specs.Apart.{is_flow, IsFlow}
use Rattle.claim_law.specs.Told.{built_in_variables, is_among}
use Rattle.claim_law.proofs.Claim.Apart.{main_free, size_reserved}
use Rattle.grammar_law.proofs.Grammar.FunctionsMade.{flow_own}
use Rattle.text_law.specs.Pairs.{Naming}
use Rattle.text_law.specs.Shape.{names_in}

-- what is built in has a name that GLSL reserves
abbrev AreReserved : List Text → Type 0
AreReserved [] = Unit {0}
AreReserved (y ∷ ys) = (has_prefix y ≡ true) × AreReserved ys

built_reserved : AreReserved built_in_variables
unfolding has_prefix
built_reserved = (refl, (refl, (refl, (refl, (refl, tt)))))

none_reserved : (ys : List Text) → AreReserved ys → (x : Text) → has_prefix x ≡ false → is_among ys x ≡ false
none_reserved [] reserved x off = refl
none_reserved (y ∷ ys) reserved x off =
    or_from (bytes_eq x y) (is_among ys x) (other_text x y (λ same. clash (sym reserved.0 ∙ (ap has_prefix (sym same) ∙ off)))) (none_reserved ys reserved.1 x off)

empty_free : has_prefix [] ≡ false
unfolding has_prefix
empty_free = refl

-- the number of an id's key
abbrev number_of : Key → ℕ
number_of (IdOf k) = k.0
number_of _ = 0

abbrev is_id_key : Key → Bool
is_id_key (IdOf n) = true
is_id_key _ = false

size_apart : is_among built_in_variables group_size_text ≡ false
size_apart = refl

module _ (found : Naming) (lawful : AreNames found) where
  -- a name begins with no reserved prefix
  free_name : (key : Key) (x : Text) → found key ≡ Some x → has_prefix x ≡ false
  free_name key x is = elim (lawful.each key x is).free [ inl main ↦ ap has_prefix main.1 ∙ main_free | inr free ↦ free.prefix ]

  free_text : (key : Key) → has_prefix (text_of found key) ≡ false
  free_text key = by_name (found key) refl
    where
      by_name : (q : Option Text) → found key ≡ q → has_prefix (unwrap_or q []) ≡ false
      by_name None is = empty_free
      by_name (Some x) is = free_name key x is

  -- a text that none of these ids has as its name
  other_names : (ns : List ℕ) (x : Text) → ((n : ℕ) → IsIn n ns → found (IdOf (id n)) ≡ Some x → ⊥) → is_among built_in_variables x ≡ false → is_among (names_in found ns ++ built_in_variables) x ≡ false
  other_names [] x other off = off
  other_names (n ∷ ns) x other off = by_name (found (IdOf (id n))) refl (other_names ns x (λ k k_in. other k (inr k_in)) off)
    where
      by_name : (q : Option Text) → found (IdOf (id n)) ≡ q → is_among (names_in found ns ++ built_in_variables) x ≡ false → is_among ((option_to_list q ++ names_in found ns) ++ built_in_variables) x ≡ false
      by_name None is later = later
      by_name (Some y) is later = or_from (bytes_eq x y) (is_among (names_in found ns ++ built_in_variables) x) (other_text x y (λ same. other n (inl refl) (is ∙ ap (λ (z : Text). Some z) (sym same)))) later

  -- The law, of a key that is none of what memory is; where it has no name, its text is empty.
  module _ (ns : List ℕ) (key : Key) (space : space_of key ≡ None) (other : (n : ℕ) → IsIn n ns → key ≡ IdOf (id n) → ⊥) where
    pub key_unseen : is_among (names_in found ns ++ built_in_variables) (text_of found key) ≡ false
    key_unseen = other_names ns (text_of found key) (λ n n_in is. by_name (found key) refl n n_in is) (none_reserved built_in_variables built_reserved (text_of found key) (free_text key))
      where
        none_empty : (n : ℕ) → found (IdOf (id n)) ≡ Some [] → ⊥
        none_empty n is = let some = (lawful.each (IdOf (id n)) [] is).word.some in omega (arith, some)

        by_name : (q : Option Text) → found key ≡ q → (n : ℕ) → IsIn n ns → found (IdOf (id n)) ≡ Some (unwrap_or q []) → ⊥
        by_name None none n n_in is = none_empty n is
        by_name (Some x) some n n_in is = other n n_in (lawful.apart key (IdOf (id n)) x space some is)

  -- of the size of workgroups
  pub size_unseen : (ns : List ℕ) → is_among (names_in found ns ++ built_in_variables) group_size_text ≡ false
  size_unseen ns = other_names ns group_size_text (λ n n_in is. clash (sym size_reserved ∙ free_name (IdOf (id n)) group_size_text is)) size_apart

  -- of a key of no id
  pub other_unseen : (ns : List ℕ) (key : Key) → space_of key ≡ None → is_id_key key ≡ false → is_among (names_in found ns ++ built_in_variables) (text_of found key) ≡ false
  other_unseen ns key space off = key_unseen ns key space (λ n n_in same. clash (ap is_id_key (sym same) ∙ off))

  -- and of an id that is none of these
  pub id_unseen : (ns : List ℕ) (n : ℕ) → (IsIn n ns → ⊥) → is_among (names_in found ns ++ built_in_variables) (text_of found (IdOf (id n))) ≡ false
  id_unseen ns n other = key_unseen ns (IdOf (id n)) refl (λ k k_in same. other (subst (λ (j : ℕ). IsIn j ns) (ap number_of (sym same)) k_in))

  no_id : (key : Key) → is_flow key ≡ true → is_id_key key ≡ false
  no_id (IdOf n) flow = cc
  no_id key flow = refl

  -- flags and spares
  pub flow_unseen : (ns : List ℕ) (x : Text) → IsFlow found x → is_among (names_in found ns ++ built_in_variables) x ≡ false
  flow_unseen ns x flow =
      subst (λ (y : Text). is_among (names_in found ns ++ built_in_variables) y ≡ false) (ap (λ (q : Option Text). unwrap_or q []) flow.2)
      (other_unseen ns flow.0 (flow_own [] flow.0 flow.1).0 (no_id flow.0 flow.1))
