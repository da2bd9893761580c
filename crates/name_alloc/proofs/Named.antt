-- Spaces and names after a claim.
use Rattle.std.proofs.Common.{◌≡◌, ◌+◌, ◌||◌, ◌==◌, ◌⊎◌, ◌++◌, ℕ, zero, suc, length, Bool, true, false, cond, List, [], ◌∷◌, Option, None, Some, is_some, option_map, refl, ap, sym, ◌∙◌, inl, inr, subst, bytes_eq, option_and_then}
use Rattle.std.specs.Ordering.{nat_cmp, is_eq}
use Rattle.std.specs.BTreeMap.{get}
use Rattle.std.proofs.lemmas.Bool.{cases_Bool, false≢true}
use Rattle.std.proofs.lemmas.Bool.Decides.{eqb_tells}
use Rattle.list_law.proofs.Numbers.{order_same}
use Rattle.glsl_ast.specs.View.{name_text}
use Rattle.glsl_ast.specs.declared.names.Name.{Name}
use Rattle.name_alloc.specs.declared.claims.Claim.{Claim}
use Rattle.name_alloc.specs.declared.claims.Key.{Key}
use Rattle.name_alloc.specs.Base.{Text}
use Rattle.name_alloc.specs.Naming.{space_of, same_space, free_name, claim_base, claim_name, with_name, with_key, none_taken, names_from, name_of, numbered}
use Rattle.name_alloc.specs.Keys.{same_key}
use Rattle.name_alloc.specs.Law.{IsNameFor}
use Rattle.name_alloc.proofs.Lawful.{name_for}
use Rattle.name_alloc.specs.Taken.{Held, number_at, is_held, held_count, claimed_name, IsSkipping, IsClaimed}
use Rattle.name_alloc.specs.declared.space.Spaces.{Spaces}
use Rattle.name_alloc.specs.declared.places.Places.{Places}
use Rattle.name_alloc.specs.Places.{place_in}
use Rattle.name_alloc.specs.Given.{Members, held_at, taken_of, AreSkipping, IsSpaceOf, IsHeldOut, IsNamed, text_at, name_at}

-- the test tells
same_tells : (s o : Option ℕ) → same_space s o ≡ true → s ≡ o
same_tells None None h = refl
same_tells None (Some y) h = absurd (false≢true h)
same_tells (Some x) None h = absurd (false≢true h)
same_tells (Some x) (Some y) h =
    elim (eqb_tells x y) [
      | inl w ↦ ap Some w.1
      | inr w ↦ absurd (false≢true (sym w.0 ∙ h))
    ]

none_some : {A X : Type 0} (x : X) → None ≡ Some x → A
none_some x h = absurd (false≢true (ap is_some h))

some_held : (a b : Held) → Some a ≡ Some b → a ≡ b
some_held a b e = cc

-- a space that is taken out
abbrev TakenOut : Members → ℕ → Members → Type 0
TakenOut old block rest = (other : ℕ) → get nat_cmp rest other ≡ cond (is_eq (nat_cmp block other)) None (get nat_cmp old other)

space_none : (held : Held) → held.entries ≡ [] → IsSpaceOf None held
space_none held empty = record {
  has = λ text. rw empty refl;
  count = rw empty refl;
  skipping = λ skips. record { next = λ base next h. none_some next (let nothing : number_at held base ≡ None = rw empty refl in sym nothing ∙ h) };
}

pub space_some : (held : Held) → IsSpaceOf (Some held) held
space_some held = record { has = λ text. refl; count = refl; skipping = λ skips. skips held refl }

pub held_out_none : (old : Members) (block : ℕ) (held : Held) (rest : Members) → held.entries ≡ [] → get nat_cmp old block ≡ None → TakenOut old block rest → IsHeldOut old block held rest
held_out_none old block held rest empty none out = record { space = subst (λ found. IsSpaceOf found held) (sym none) (space_none held empty); others = out }

pub held_out_some : (old : Members) (block : ℕ) (held : Held) (rest : Members) → get nat_cmp old block ≡ Some held → TakenOut old block rest → IsHeldOut old block held rest
held_out_some old block held rest some out = record { space = subst (λ found. IsSpaceOf found held) (sym some) (space_some held); others = out }

-- a space has other names now
abbrev Back : Spaces → Option ℕ → Held → Spaces → Type 0
Back old space now new = (other : Option ℕ) → held_at new other ≡ cond (same_space space other) (Some now) (held_at old other)

pub back_text : (old : Spaces) (now : Held) (new : Spaces) → new.text ≡ now → new.members ≡ old.members → Back old None now new
back_text old now new text members None = ap Some text
back_text old now new text members (Some other) = ap (λ m. get nat_cmp m other) members

cond_twice : (b c : Bool) (x y : Option Held) → b ≡ c → cond b x (cond b None y) ≡ cond c x y
cond_twice true c x y e = rw (← e) refl
cond_twice false c x y e = rw (← e) refl

pub back_members : (old : Spaces) (block : ℕ) (held : Held) (rest : Members) (now : Held) (new : Spaces) → IsHeldOut old.members block held rest → new.text ≡ old.text
    → ((other : ℕ) → get nat_cmp new.members other ≡ cond (is_eq (nat_cmp block other)) (Some now) (get nat_cmp rest other)) → Back old (Some block) now new
back_members old block held rest now new out text put None = ap Some text
back_members old block held rest now new out text put (Some other) =
    put other ∙ (ap (λ r. cond (is_eq (nat_cmp block other)) (Some now) r) (out.others other) ∙ cond_twice (is_eq (nat_cmp block other)) (block == other) (Some now) (get nat_cmp old.members other) (order_same block other))

-- the name that a base takes in its space is that of the claim
pub name_now : (old : Spaces) (space : Option ℕ) (held : Held) (base : Text) → IsSpaceOf (held_at old space) held → (c : Claim) → space ≡ space_of c.key → base ≡ claim_base c → claimed_name held base ≡ claim_name (taken_of old) c
name_now old space held base out c s b =
    let has : is_held held ≡ (taken_of old).has space = λ i text. out.has text i in
    let own : claimed_name held base ≡ free_name ((taken_of old).has space) ((taken_of old).count space) base = ap (λ f. free_name f (held_count held) base) has ∙ ap (λ n. free_name ((taken_of old).has space) n base) out.count in
    let here : claimed_name held base ≡ free_name ((taken_of old).has (space_of c.key)) ((taken_of old).count (space_of c.key)) base = subst (λ o. claimed_name held base ≡ free_name ((taken_of old).has o) ((taken_of old).count o) base) s own in
    here ∙ ap (λ t. free_name ((taken_of old).has (space_of c.key)) ((taken_of old).count (space_of c.key)) t) b

-- the space with one more name is put back
module _ (old : Spaces) (space : Option ℕ) (held : Held) (now : Held) (base name : Text) (new : Spaces) (out : IsSpaceOf (held_at old space) held) (claimed : IsClaimed held now base name) (back : Back old space now new) where
  at_same : (other : Option ℕ) → same_space space other ≡ true → held_at new other ≡ Some now
  at_same other h = rw (back other, h) refl

  at_other : (other : Option ℕ) → same_space space other ≡ false → held_at new other ≡ held_at old other
  at_other other h = rw (back other, h) refl

  has_now : (other : Option ℕ) (text : Text) → (taken_of new).has other text ≡ (with_name (taken_of old) space name).has other text
  has_now other text =
      elim (cases_Bool (same_space space other)) [
        | inl h ↦
            let was : is_held held text ≡ (taken_of old).has other text = subst (λ o. is_held held text ≡ (taken_of old).has o text) (same_tells space other h) (out.has text) in
            rw (at_same other h, h) (claimed.held text ∙ ap (λ b. bytes_eq name text || b) was)
        | inr h ↦ rw (at_other other h, h) refl
      ]

  count_now : (other : Option ℕ) → (taken_of new).count other ≡ (with_name (taken_of old) space name).count other
  count_now other =
      elim (cases_Bool (same_space space other)) [
        | inl h ↦
            let was : held_count held ≡ (taken_of old).count other = subst (λ o. held_count held ≡ (taken_of old).count o) (same_tells space other h) out.count in
            rw (at_same other h, h) (claimed.count ∙ ap (λ n. n + 1) was)
        | inr h ↦ rw (at_other other h, h) refl
      ]

  pub taken_now : taken_of new ≡ with_name (taken_of old) space name
  taken_now = λ i. record { has = λ other text. has_now other text i; count = λ other. count_now other i }

  pub skipping_now : AreSkipping old → AreSkipping new
  skipping_now skips = record {
    each = λ other h e.
        elim (cases_Bool (same_space space other)) [
          | inl w ↦ subst IsSkipping (some_held now h (sym (at_same other w) ∙ e)) claimed.skipping
          | inr w ↦ skips.each other h (sym (at_other other w) ∙ e)
        ];
  }

  fresh_now : (taken_of old).has space name ≡ false
  fresh_now = sym (out.has name) ∙ claimed.fresh

  law_now : (c : Claim) → base ≡ claim_base c → IsNameFor c.key name
  law_now c b = name_for c.key (option_map (λ v. v.items) c.given) name (subst (λ t. (name ≡ t) ⊎ ((n : ℕ) × (name ≡ numbered t n))) b claimed.form)

  named_by : (c : Claim) → AreSkipping old → space ≡ space_of c.key → base ≡ claim_base c → IsNamed old new c name
  named_by c skips s b = record {
    taken = subst (λ o. taken_of new ≡ with_name (taken_of old) o name) s taken_now;
    skipping = skipping_now skips;
    fresh = subst (λ o. (taken_of old).has o name ≡ false) s fresh_now;
    law = law_now c b;
  }

  pub named_now : (c : Claim) → AreSkipping old → space ≡ space_of c.key → base ≡ claim_base c → IsNamed old new c (claim_name (taken_of old) c)
  named_now c skips s b = subst (IsNamed old new c) (claimed.name_is ∙ name_now old space held base out c s b) (named_by c skips s b)

-- at first nothing is taken or named
abbrev pub Empty : Spaces → Type 0
Empty spaces = (spaces.text.entries ≡ []) × (spaces.members.entries ≡ [])

first_skipping : (spaces : Spaces) → Empty spaces → (s : Option ℕ) (held : Held) → held_at spaces s ≡ Some held → IsSkipping held
first_skipping spaces e None held h = subst IsSkipping (some_held spaces.text held h) ((space_none spaces.text e.0).skipping (λ none at. none_some none at))
first_skipping spaces e (Some s) held h = none_some held (let none : get nat_cmp spaces.members s ≡ None = rw e.1 refl in sym none ∙ h)

pub skipping_empty : (spaces : Spaces) → Empty spaces → AreSkipping spaces
skipping_empty spaces e = record { each = λ s held h. first_skipping spaces e s held h }

first_has : (spaces : Spaces) → Empty spaces → (s : Option ℕ) (t : Text) → (taken_of spaces).has s t ≡ false
first_has spaces e None t = rw e.0 refl
first_has spaces e (Some s) t = rw e.1 refl

first_count : (spaces : Spaces) → Empty spaces → (s : Option ℕ) → (taken_of spaces).count s ≡ 0
first_count spaces e None = rw e.0 refl
first_count spaces e (Some s) = rw e.1 refl

taken_empty : (spaces : Spaces) → Empty spaces → taken_of spaces ≡ none_taken
taken_empty spaces e = λ i. record { has = λ s t. first_has spaces e s t i; count = λ s. first_count spaces e s i }

-- no key has a place
abbrev NoPlaces : Places → Type 0
NoPlaces places = (key : Key) → place_in places key ≡ None

pub named_none : (names : List Name) (places : Places) (key : Key) → NoPlaces places → name_at names places key ≡ None
named_none names places key none = rw (none key) refl

pub names_begin : (spaces : Spaces) (names : List Name) (places : Places) (claims : List Claim) → Empty spaces → NoPlaces places → (key : Key) → names_from (taken_of spaces) (name_at names places) claims key ≡ name_of claims key
names_begin spaces names places claims e none key =
    ap (λ t. names_from t (name_at names places) claims key) (taken_empty spaces e)
    ∙ ap (λ g. names_from none_taken g claims key) (λ i k. named_none names places k none i)

-- what stands at a place stays there when one more is put behind, and that one stands there
stays_at : (names : List Name) (more : Name) (place : ℕ) (text : Text) → text_at names place ≡ Some text → text_at (names ++ more ∷ []) place ≡ Some text
stays_at [] more place text h = none_some text h
stays_at (n ∷ names) more zero text h = h
stays_at (n ∷ names) more (suc place) text h = stays_at names more place text h

stands_at : (names : List Name) (more : Name) → text_at (names ++ more ∷ []) (length names) ≡ Some (name_text more)
stands_at [] more = refl
stands_at (n ∷ names) more = stands_at names more

-- each claim adds its name
module _ (names : List Name) (places more : Places) (key : Key) (name : Name)
    (put : (k : Key) → place_in more k ≡ cond (same_key key k) (Some (length names)) (place_in places k))
    (stand : (k : Key) → is_some (name_at names places k) ≡ is_some (place_in places k)) where
  abbrev now : List Name
  now = names ++ name ∷ []

  found_own : (k : Key) → place_in more k ≡ Some (length names) → name_at now more k ≡ Some (name_text name)
  found_own k at = rw at (stands_at names name)

  -- a name that stood at its place stands there
  kept_at : (place : ℕ) (found : Option Text) → text_at names place ≡ found → is_some found ≡ true → text_at now place ≡ found
  kept_at place None e h = absurd (false≢true h)
  kept_at place (Some text) e h = stays_at names name place text e

  kept_by : (found : Option ℕ) → is_some (option_and_then (text_at names) found) ≡ is_some found → option_and_then (text_at now) found ≡ option_and_then (text_at names) found
  kept_by None h = refl
  kept_by (Some place) h = kept_at place (text_at names place) refl h

  pub found_put : (k : Key) → name_at now more k ≡ with_key (name_at names places) key (name_text name) k
  found_put k =
      elim (cases_Bool (same_key key k)) [
        | inl w ↦
            let at : place_in more k ≡ Some (length names) = rw (put k, w) refl in
            rw w (found_own k at)
        | inr w ↦
            let at : place_in more k ≡ place_in places k = rw (put k, w) refl in
            rw w (ap (option_and_then (text_at now)) at ∙ kept_by (place_in places k) (stand k))
      ]

  pub stand_put : (k : Key) → is_some (name_at now more k) ≡ is_some (place_in more k)
  stand_put k =
      elim (cases_Bool (same_key key k)) [
        | inl w ↦
            let at : place_in more k ≡ Some (length names) = rw (put k, w) refl in
            ap is_some (found_own k at) ∙ sym (ap is_some at)
        | inr w ↦
            let at : place_in more k ≡ place_in places k = rw (put k, w) refl in
            let found : name_at now more k ≡ name_at names places k = ap (option_and_then (text_at now)) at ∙ kept_by (place_in places k) (stand k) in
            ap is_some found ∙ (stand k ∙ sym (ap is_some at))
      ]

pub names_step : (old new : Spaces) (names later : List Name) (places more : Places) (c : Claim) (rest : List Claim) → IsNamed old new c (claim_name (taken_of old) c)
    → ((k : Key) → name_at later more k ≡ with_key (name_at names places) c.key (claim_name (taken_of old) c) k)
    → (key : Key) → names_from (taken_of old) (name_at names places) (c ∷ rest) key ≡ names_from (taken_of new) (name_at later more) rest key
names_step old new names later places more c rest named found key =
    ap (λ t. names_from t (with_key (name_at names places) c.key (claim_name (taken_of old) c)) rest key) (sym named.taken)
    ∙ ap (λ f. names_from (taken_of new) f rest key) (λ i k. sym (found k) i)
