-- Each name is one that its key may have, and keys of one space have names of their own.
use Rattle.std.proofs.Common.{◌≡◌, ◌||◌, ◌⊎◌, ℕ, Bool, true, false, List, [], ◌∷◌, ◌++◌, Option, None, Some, is_some, refl, ap, sym, ◌∙◌, inl, inr, subst, bytes_eq, eq-eqb}
use Rattle.std.proofs.lemmas.Bool.{cases_Bool, false≢true, or_parts}
use Rattle.std.proofs.Math.Bool.{or-true}
use Rattle.list_law.proofs.Lists.{same_bytes}
use Rattle.glsl_ast.specs.declared.names.Name.{Name}
use Rattle.name_alloc.specs.declared.claims.Claim.{Claim}
use Rattle.name_alloc.specs.declared.claims.Key.{Key}
use Rattle.name_alloc.specs.Base.{Text, base_of}
use Rattle.name_alloc.specs.Keys.{same_key}
use Rattle.name_alloc.specs.Law.{IsFree, IsNameFor, AreNames}
use Rattle.name_alloc.specs.Naming.{Taken as AllTaken, space_of, same_space, claim_name, with_name, with_key, none_taken, names_from, name_of, is_claimed, numbered}
use Rattle.name_alloc.specs.declared.space.Spaces.{Spaces}
use Rattle.name_alloc.specs.declared.places.Places.{Places}
use Rattle.name_alloc.specs.Places.{place_in}
use Rattle.name_alloc.specs.Given.{taken_of, name_at, IsNamed, AreGiven}
use Rattle.name_alloc.proofs.Keyed.{key_tells}
use Rattle.name_alloc.proofs.Words.{base_word, numbered_word}
use Rattle.name_alloc.proofs.Free.{base_free, numbered_free, main_free}

-- the name of a claim: its base, or with a number
number_free : (key : Key) (given : Option Text) (n : ℕ) → IsFree (numbered (base_of key given) n)
number_free key given n =
    elim (base_free key given) [
      | inl m ↦ subst (λ b. IsFree (numbered b n)) (sym m.1) (main_free n)
      | inr f ↦ numbered_free (base_of key given) n f
    ]

pub name_for : (key : Key) (given : Option Text) (name : Text) → (name ≡ base_of key given) ⊎ ((n : ℕ) × (name ≡ numbered (base_of key given) n)) → IsNameFor key name
name_for key given name form =
    elim form [
      | inl e ↦ subst (IsNameFor key) (sym e) record { word = base_word key given; free = base_free key given }
      | inr m ↦ subst (IsNameFor key) (sym m.1) record { word = numbered_word (base_of key given) m.0 (base_word key given); free = inr (number_free key given m.0) }
    ]

-- one more name
some_same : (a b : Text) → Some a ≡ Some b → a ≡ b
some_same a b e = cc

pub own_space : (s : Option ℕ) → same_space s s ≡ true
own_space None = refl
own_space (Some n) = eq-eqb n n refl

-- what was taken stays so, and the name is
has_more : (taken : AllTaken) (space : Option ℕ) (name : Text) (other : Option ℕ) (text : Text) → taken.has other text ≡ true → (with_name taken space name).has other text ≡ true
has_more taken space name other text h =
    elim (cases_Bool (same_space space other)) [
      | inl e ↦ rw (e, h) (or-true (bytes_eq name text))
      | inr e ↦ rw e h
    ]

has_own : (taken : AllTaken) (space : Option ℕ) (name : Text) → (with_name taken space name).has space name ≡ true
has_own taken space name = rw (own_space space, same_bytes name) refl

abbrev AreHeld : AllTaken → (Key → Option Text) → Type 0
AreHeld taken found = (key : Key) (name : Text) → found key ≡ Some name → taken.has (space_of key) name ≡ true

module _ (taken : AllTaken) (found : Key → Option Text) (held : AreHeld taken found) (laws : AreNames found) (key : Key) (name : Text) (fresh : taken.has (space_of key) name ≡ false) (law : IsNameFor key name) where
  found_own : (k : Key) (n : Text) → same_key key k ≡ true → with_key found key name k ≡ Some n → name ≡ n
  found_own k n e h = some_same name n (rw e at h)

  found_old : (k : Key) (n : Text) → same_key key k ≡ false → with_key found key name k ≡ Some n → found k ≡ Some n
  found_old k n e h = rw e at h

  pub held_more : AreHeld (with_name taken (space_of key) name) (with_key found key name)
  held_more k n h =
      elim (cases_Bool (same_key key k)) [
        | inl e ↦ subst (λ q. (with_name taken (space_of key) name).has (space_of q) n ≡ true) (key_tells key k e) (subst (λ t. (with_name taken (space_of key) name).has (space_of key) t ≡ true) (found_own k n e h) (has_own taken (space_of key) name))
        | inr e ↦ has_more taken (space_of key) name (space_of k) n (held k n (found_old k n e h))
      ]

  -- a name that is held is not the new one
  not_new : {A : Type 0} (k : Key) (n : Text) → space_of key ≡ space_of k → name ≡ n → found k ≡ Some n → A
  not_new k n s e h =
      let was : taken.has (space_of k) n ≡ true = held k n h in
      let here : taken.has (space_of key) name ≡ true = subst (λ o. taken.has o name ≡ true) (sym s) (subst (λ t. taken.has (space_of k) t ≡ true) (sym e) was) in
      absurd (false≢true (sym fresh ∙ here))

  pub names_more : AreNames (with_key found key name)
  names_more = record {
    each = λ k n h.
        elim (cases_Bool (same_key key k)) [
          | inl e ↦ subst (λ q. IsNameFor q n) (key_tells key k e) (subst (IsNameFor key) (found_own k n e h) law)
          | inr e ↦ laws.each k n (found_old k n e h)
        ];
    apart = λ a b n s h k.
        elim (cases_Bool (same_key key a)) [
          | inl e ↦
              elim (cases_Bool (same_key key b)) [
                | inl f ↦ sym (key_tells key a e) ∙ key_tells key b f
                | inr f ↦ not_new b n (ap space_of (key_tells key a e) ∙ s) (found_own a n e h) (found_old b n f k)
              ]
          | inr e ↦
              elim (cases_Bool (same_key key b)) [
                | inl f ↦ not_new a n (ap space_of (key_tells key b f) ∙ sym s) (found_own b n f k) (found_old a n e h)
                | inr f ↦ laws.apart a b n s (found_old a n e h) (found_old b n f k)
              ]
        ];
  }

-- at first there are none
no_name : {A : Type 0} (x : Text) → None ≡ Some x → A
no_name x h = absurd (false≢true (ap is_some h))

pub given_none : (spaces : Spaces) (names : List Name) (places : Places) → ((key : Key) → place_in places key ≡ None) → AreGiven spaces names places
given_none spaces names places e =
    let nothing : (key : Key) → name_at names places key ≡ None = λ key. rw (e key) refl in
    record {
      held = λ key name h. no_name name (sym (nothing key) ∙ h);
      laws = record {
        each = λ key name h. no_name name (sym (nothing key) ∙ h);
        apart = λ a b name s h k. no_name name (sym (nothing a) ∙ h);
      };
      stand = λ key. ap is_some (nothing key) ∙ sym (ap is_some (e key));
    }

-- each claim keeps it
pub given_step : (old new : Spaces) (names later : List Name) (places more : Places) (c : Claim) (name : Text) → IsNamed old new c name
    → ((key : Key) → name_at later more key ≡ with_key (name_at names places) c.key name key) → ((key : Key) → is_some (name_at later more key) ≡ is_some (place_in more key))
    → AreGiven old names places → AreGiven new later more
given_step old new names later places more c name named found stand given =
    let same : name_at later more ≡ with_key (name_at names places) c.key name = λ i key. found key i in
    let held : AreHeld (with_name (taken_of old) (space_of c.key) name) (with_key (name_at names places) c.key name) = held_more (taken_of old) (name_at names places) given.held given.laws c.key name named.fresh named.law in
    record {
      held = subst (λ t. AreHeld t (name_at later more)) (sym named.taken) (subst (AreHeld (with_name (taken_of old) (space_of c.key) name)) (sym same) held);
      laws = subst AreNames (sym same) (names_more (taken_of old) (name_at names places) given.held given.laws c.key name named.fresh named.law);
      stand = stand;
    }

-- a key has a name where a claim has the key
or_false : (a : Bool) → (a || false) ≡ a
or_false true = refl
or_false false = refl

claimed_from : (taken : AllTaken) (found : Key → Option Text) (claims : List Claim) (key : Key) → is_some (names_from taken found claims key) ≡ (is_some (found key) || is_claimed claims key)
claimed_from taken found [] key = sym (or_false (is_some (found key)))
claimed_from taken found (c ∷ cs) key =
    let name = claim_name taken c in
    let later = claimed_from (with_name taken (space_of c.key) name) (with_key found c.key name) cs key in
    later ∙ elim (cases_Bool (same_key c.key key)) [
      | inl e ↦ rw (e, or-true (is_some (found key))) refl
      | inr e ↦ rw e refl
    ]

pub claimed_is : (claims : List Claim) (key : Key) → is_some (name_of claims key) ≡ is_claimed claims key
claimed_is claims key = claimed_from none_taken (λ k. None) claims key

-- later claims of other keys change no name
names_kept : (taken : AllTaken) (found : Key → Option Text) (claims : List Claim) (key : Key) → is_claimed claims key ≡ false → names_from taken found claims key ≡ found key
names_kept taken found [] key h = refl
names_kept taken found (c ∷ cs) key h =
    let name = claim_name taken c in
    let parts = or_parts (same_key c.key key) (is_claimed cs key) h in
    names_kept (with_name taken (space_of c.key) name) (with_key found c.key name) cs key parts.1 ∙ rw parts.0 refl

names_before : (taken : AllTaken) (found : Key → Option Text) (done more : List Claim) (key : Key) → is_claimed more key ≡ false → names_from taken found (done ++ more) key ≡ names_from taken found done key
names_before taken found [] more key h = names_kept taken found more key h
names_before taken found (c ∷ cs) more key h = names_before (with_name taken (space_of c.key) (claim_name taken c)) (with_key found c.key (claim_name taken c)) cs more key h

pub name_before : (done more : List Claim) (key : Key) → is_claimed more key ≡ false → name_of (done ++ more) key ≡ name_of done key
name_before done more key h = names_before none_taken (λ k. None) done more key h
