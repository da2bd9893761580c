-- The names of an edge's spares: those of their keys; and of numbers that have none, texts that no name is. So all are apart from each other, and from the names of the function's values.
use Rattle.std.proofs.Common.{◌≡◌, ℕ, zero, suc, Bool, true, false, List, [], ◌∷◌, Option, Some, None, is_some, unwrap_or, inl, inr, refl, sym, ap, ◌∙◌, subst}
use Rattle.spv_module.specs.Lists.{id}
use Rattle.spv_module.specs.declared.inst.Id.{Id as IdOf}
use Rattle.name_alloc.specs.declared.claims.Key.{Key}
use Rattle.name_alloc.specs.declared.claims.Key.TheVariants.{Id, Captured, Spare}
use Rattle.name_alloc.specs.Law.{IsWord, AreNames}
use Rattle.name_alloc.specs.Reserved.{has_prefix}
use Rattle.glsl_ast.specs.Tree.{Text}
use Rattle.unit_rules.specs.Translation.{text_of}
use Rattle.list_law.proofs.Tests.{clash}
use Rattle.agree_law.specs.Agree.{Naming, IsOther}
use Rattle.claim_law.specs.Claimed.{HasName}
use Rattle.claim_law.specs.Apart.{IsOutside, AreOfKeys}
use Rattle.claim_law.proofs.Claim.Apart.{flow_is_other}
use Rattle.edge_law.specs.Copies.{EdgeNames, SparesApart}

-- what no name is: a text of zeros, of any length but none
abbrev zeros : ℕ → Text
zeros zero = 0 ∷ []
zeros (suc k) = 0 ∷ zeros k

abbrev pub spare_by : Option Text → ℕ → Text
spare_by (Some x) k = x
spare_by None k = zeros k

-- the name of a spare by its key
abbrev pub spare_text : (Key → Option Text) → IdOf → IdOf → ℕ → Text
spare_text found from to k = spare_by (found (Spare from to k)) k

abbrev rest_of : List ℕ → List ℕ
rest_of [] = []
rest_of (x ∷ xs) = xs

abbrev is_empty : List ℕ → Bool
is_empty [] = true
is_empty (x ∷ xs) = false

zeros_apart : (j k : ℕ) → zeros j ≡ zeros k → j ≡ k
zeros_apart zero zero e = refl
zeros_apart zero (suc k) e = clash (ap is_empty (ap rest_of e) ∙ some k)
  where
    some : (k : ℕ) → is_empty (zeros k) ≡ false
    some zero = refl
    some (suc k) = refl
zeros_apart (suc j) zero e = clash (sym (ap is_empty (ap rest_of e)) ∙ some j)
  where
    some : (k : ℕ) → is_empty (zeros k) ≡ false
    some zero = refl
    some (suc k) = refl
zeros_apart (suc j) (suc k) e = ap (λ (n : ℕ). suc n) (zeros_apart j k (ap rest_of e))

zeros_no_word : (k : ℕ) → IsWord (zeros k) → ⊥
zeros_no_word zero w = let never : false ≡ true = w.bytes.0 in clash (sym never)
zeros_no_word (suc k) w = let never : false ≡ true = w.bytes.0 in clash (sym never)

zeros_no_prefix : (k : ℕ) → has_prefix (zeros k) ≡ false
unfolding has_prefix
zeros_no_prefix zero = refl
zeros_no_prefix (suc k) = refl

abbrev number_in : Key → ℕ
number_in (Spare from to k) = k
number_in _ = 0

module _ (found : Key → Option Text) (names : AreNames found) where
  no_name : (key : Key) (k : ℕ) (x : Text) → found key ≡ Some x → zeros k ≡ x → ⊥
  no_name key k x is same = zeros_no_word k (subst IsWord (sym same) (names.each key x is).word)

  -- it is none of the function's names
  zeros_other : (m : Naming) → AreOfKeys found m → (k : ℕ) → IsOther m (zeros k)
  zeros_other m keys k = record {
    name = λ n named same. no_name (Id (id n)) k (m.name n) (keys.name n named) same;
    index = λ q j kept same. no_name (Captured (id q) j) k (m.index_name q j) (keys.index q j kept) same;
    outside = λ y on same. by_place y (keys.outside y on) same;
  }
    where
      by_place : (y : Text) → IsOutside found m y → zeros k ≡ y → ⊥
      by_place y (inl prefix) same = clash (sym prefix ∙ (ap has_prefix (sym same) ∙ zeros_no_prefix k))
      by_place y (inr o) same = no_name (Id (id o.0)) k y o.2 same

  module _ (m : Naming) (keys : AreOfKeys found m) (from to : IdOf) where
    by_key : (k : ℕ) (o : Option Text) → found (Spare from to k) ≡ o → IsOther m (spare_by o k)
    by_key k None at = zeros_other m keys k
    by_key k (Some x) at = flow_is_other found names m keys (Spare from to k) x refl at

    by_keys : (j k : ℕ) (o q : Option Text) → found (Spare from to j) ≡ o → found (Spare from to k) ≡ q → spare_by o j ≡ spare_by q k → j ≡ k
    by_keys j k None None at there same = zeros_apart j k same
    by_keys j k None (Some y) at there same = absurd (no_name (Spare from to k) j y there same)
    by_keys j k (Some x) None at there same = absurd (no_name (Spare from to j) k x at (sym same))
    by_keys j k (Some x) (Some y) at there same = ap number_in (names.apart (Spare from to j) (Spare from to k) x refl at (there ∙ ap (λ (z : Text). Some z) (sym same)))

    -- The spares of an edge have names of their own.
    pub spares_apart : (e : EdgeNames) → ((k : ℕ) → e.spare k ≡ spare_text found from to k) → SparesApart m e
    spares_apart e are = record {
      other = λ k. subst (IsOther m) (sym (are k)) (by_key k (found (Spare from to k)) refl);
      own = λ j k same. by_keys j k (found (Spare from to j)) (found (Spare from to k)) refl refl (sym (are j) ∙ (same ∙ are k));
    }

-- and a spare whose key has a name has that name
pub spare_named_as : (found : Key → Option Text) (from to : IdOf) (k : ℕ) → HasName found (Spare from to k) → text_of found (Spare from to k) ≡ spare_text found from to k
spare_named_as found from to k has = by_name (found (Spare from to k)) refl has
  where
    by_name : (o : Option Text) → found (Spare from to k) ≡ o → is_some o ≡ true → text_of found (Spare from to k) ≡ spare_by o k
    by_name None at on = clash (sym on)
    by_name (Some x) at on = ap (λ (o : Option Text). unwrap_or o []) at
