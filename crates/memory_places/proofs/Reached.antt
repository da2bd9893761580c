-- The functions in the order of calls are those to which at most as many calls lead from the entry as there are functions.
use Rattle.std.proofs.Common.{◌≡◌, ◌<◌, ◌≤◌, ◌⊎◌, inl, inr, ℕ, zero, suc, ◌+◌, ◌-◌, ◌==◌, ◌&&◌, ◌||◌, Bool, true, false, cond, List, [], ◌∷◌, refl, ap, sym, subst, ◌∙◌, arith, length, filter, slice_index}
use Rattle.std.specs.List.{list_any, Contains}
use Rattle.std.proofs.lemmas.Bool.{eqb-true, eq-eqb, false≢true, cases_lt, or_right, and_from, and_parts, or_cases}
use Rattle.std.proofs.lemmas.List.Folds.{Any-from_list_any, list_any-from_Any}
use Rattle.std.proofs.lemmas.Map.Views.{any-filter_same}
use Rattle.std.proofs.lemmas.List.{get_or_default}
use Rattle.list_law.proofs.Tests.{same_tests}
use Rattle.spv_module.specs.declared.inst.Id.{Id}
use Rattle.spv_module.specs.declared.inst.Inst.{Inst}
use Rattle.spv_module.specs.declared.inst.Function.{Function}
use Rattle.spv_module.specs.State.{ModuleState}
use Rattle.profile_rules.specs.Calls.{calls_in, callee, id_of, ids_of, numbers, Calls, Leads, Reaches, IsCallOrder}
use Rattle.module_semantics.specs.Setting.{is_listed, calls_to, called_within, reached_functions}
use Rattle.memory_places.specs.Kernel.{bare_from}
use Rattle.memory_places.specs.Mentions.{AreMentioned, mention, with_ids, is_among_ids}

-- truth
first_true : (a b : Bool) → (elim a [ true ↦ true | false ↦ b ]) ≡ true → (a ≡ true) ⊎ (b ≡ true)
first_true true b h = inl refl
first_true false b h = inr h

from_first : (a b : Bool) → a ≡ true → (elim a [ true ↦ true | false ↦ b ]) ≡ true
from_first true b h = refl
from_first false b h = absurd (false≢true h)

from_second : (a b : Bool) → b ≡ true → (elim a [ true ↦ true | false ↦ b ]) ≡ true
from_second true b h = refl
from_second false b h = h

-- what is called from those that pass a test, and those that pass it
abbrev pub next : List Function → (ℕ → Bool) → ℕ → Bool
next fs t id = elim (t id) [ true ↦ true | false ↦ list_any (λ (f : Function). t (id_of f) && calls_to id f) fs ]

abbrev pub within : List Function → ℕ → ℕ → ℕ → Bool
within fs entry n id = is_listed (called_within fs entry n) id

within_next : (fs : List Function) (entry n id : ℕ) → within fs entry (suc n) id ≡ (next fs (within fs entry n) id && is_listed (ids_of fs) id)
within_next fs entry n id =
    any-filter_same (λ (x : ℕ). x == id) (next fs (within fs entry n)) (next fs (within fs entry n) id) (λ k h. ap (next fs (within fs entry n)) (eqb-true k id h)) (ids_of fs)

-- what is within so many calls is reached
sound : (fs : List Function) (entry n id : ℕ) → within fs entry n id ≡ true → Reaches (Calls fs) entry id
sound fs entry zero id h = elim (or_cases (entry == id) false h) [
  | inl e ↦ (0, eqb-true entry id e)
  | inr f ↦ absurd (false≢true f)
]
sound fs entry (suc n) id h =
    let now : next fs (within fs entry n) id ≡ true = (and_parts (next fs (within fs entry n) id) (is_listed (ids_of fs) id) (sym (within_next fs entry n id) ∙ h)).0 in
    elim (first_true (within fs entry n id) (list_any (λ (f : Function). within fs entry n (id_of f) && calls_to id f) fs) now) [
      | inl t ↦ sound fs entry n id t
      | inr t ↦
          let (k, f, inside, is, p) = Any-from_list_any (λ (g : Function). within fs entry n (id_of g) && calls_to id g) fs t in
          let both : (within fs entry n (id_of f) ≡ true) × (calls_to id f ≡ true) = and_parts (within fs entry n (id_of f)) (calls_to id f) p in
          let (m, leads) = sound fs entry n (id_of f) both.0 in
          let (j, call, jn, jis, e) = Any-from_list_any (λ (c : Inst). callee c == id) (calls_in f) both.1 in
          (suc m, (id_of f, leads, (call, (f, (k, inside, is), refl, (j, jn, jis)), eqb-true (callee call) id e)))
    ]

-- and the other way
listed_map : (fs : List Function) (id : ℕ) → is_listed (ids_of fs) id ≡ list_any (λ (f : Function). id_of f == id) fs
listed_map [] id = refl
listed_map (f ∷ fs) id = ap (λ (b : Bool). (id_of f == id) || b) (listed_map fs id)

is_among : (fs : List Function) (f : Function) (id : ℕ) → Contains fs f → id_of f ≡ id → is_listed (ids_of fs) id ≡ true
is_among fs f id (k, inside, is) e = listed_map fs id ∙ list_any-from_Any (λ (g : Function). id_of g == id) fs (k, f, inside, is, eq-eqb (id_of f) id e)

complete : (fs : List Function) (entry n id : ℕ) → Leads (Calls fs) n entry id → is_listed (ids_of fs) id ≡ true → within fs entry n id ≡ true
complete fs entry zero id e l = ap (λ (b : Bool). b || false) (eq-eqb entry id e)
complete fs entry (suc n) id (h, leads, (call, (f, (k, inside, is), named, (j, jn, jis)), to)) l =
    let before : within fs entry n h ≡ true = complete fs entry n h leads (is_among fs f h (k, inside, is) named) in
    let here : within fs entry n (id_of f) ≡ true = subst (λ (x : ℕ). within fs entry n x ≡ true) (sym named) before in
    let calls : calls_to id f ≡ true = list_any-from_Any (λ (c : Inst). callee c == id) (calls_in f) (j, call, jn, jis, eq-eqb (callee call) id to) in
    let any : list_any (λ (g : Function). within fs entry n (id_of g) && calls_to id g) fs ≡ true =
    list_any-from_Any (λ (g : Function). within fs entry n (id_of g) && calls_to id g) fs (k, f, inside, is, and_from (within fs entry n (id_of f)) (calls_to id f) here calls) in
    within_next fs entry n id ∙ and_from (next fs (within fs entry n) id) (is_listed (ids_of fs) id) (from_second (within fs entry n id) (list_any (λ (g : Function). within fs entry n (id_of g) && calls_to id g) fs) any) l

-- more calls lead to no fewer
more_calls : (fs : List Function) (entry n id : ℕ) → is_listed (ids_of fs) id ≡ true → within fs entry n id ≡ true → within fs entry (suc n) id ≡ true
more_calls fs entry n id l h =
    within_next fs entry n id
    ∙ and_from (next fs (within fs entry n) id) (is_listed (ids_of fs) id) (from_first (within fs entry n id) (list_any (λ (g : Function). within fs entry n (id_of g) && calls_to id g) fs) h) l

many_more : (fs : List Function) (entry k n m id : ℕ) → m ≡ n + k → is_listed (ids_of fs) id ≡ true → within fs entry n id ≡ true → within fs entry m id ≡ true
many_more fs entry zero n m id e l h = subst (λ (x : ℕ). within fs entry x id ≡ true) (let same : n ≡ m = omega (arith, e) in same) h
many_more fs entry (suc k) n m id e l h =
    let up : m ≡ suc (n + k) = omega (arith, e) in
    subst (λ (x : ℕ). within fs entry x id ≡ true) (sym up) (more_calls fs entry (n + k) id l (many_more fs entry k n (n + k) id refl l h))

-- how many of these pass a test
abbrev pub passing : (ℕ → Bool) → List ℕ → ℕ
passing p [] = 0
passing p (x ∷ xs) = cond (p x) 1 0 + passing p xs

passing_at_most : (p : ℕ → Bool) (xs : List ℕ) → passing p xs ≤ length xs
passing_at_most p [] = omega arith
passing_at_most p (x ∷ xs) =
    elim (p x) as (λ b. cond b 1 0 + passing p xs ≤ suc (length xs)) [
      | true ↦ omega (arith, passing_at_most p xs)
      | false ↦ omega (arith, passing_at_most p xs)
    ]

-- the tests agree on these
abbrev pub Agree : (ℕ → Bool) → (ℕ → Bool) → List ℕ → Type 0
Agree p q [] = Unit {0}
Agree p q (x ∷ xs) = (q x ≡ p x) × Agree p q xs

agree_at : (p q : ℕ → Bool) (xs : List ℕ) (id : ℕ) → Agree p q xs → is_listed xs id ≡ true → q id ≡ p id
agree_at p q [] id a l = absurd (false≢true l)
agree_at p q (x ∷ xs) id (e, es) l = elim (or_cases (x == id) (is_listed xs id) l) [
  | inl h ↦ subst (λ (n : ℕ). q n ≡ p n) (eqb-true x id h) e
  | inr h ↦ agree_at p q xs id es h
]

-- a test that lets no fewer through agrees with the first, or lets one more through
abbrev pub Wider : (ℕ → Bool) → (ℕ → Bool) → List ℕ → Type 0
Wider p q xs = (passing p xs ≤ passing q xs) × (Agree p q xs ⊎ (passing p xs + 1 ≤ passing q xs))

wider_by : (p q : ℕ → Bool) (x : ℕ) (xs : List ℕ) (a b : Bool) → p x ≡ a → q x ≡ b → (a ≡ true → b ≡ true) → Wider p q xs
    → (cond a 1 0 + passing p xs ≤ cond b 1 0 + passing q xs) × (((b ≡ a) × Agree p q xs) ⊎ (cond a 1 0 + passing p xs + 1 ≤ cond b 1 0 + passing q xs))
wider_by p q x xs true true f g h (m, inl r) = (omega (arith, m), inl (refl, r))
wider_by p q x xs true true f g h (m, inr r) = (omega (arith, m), inr (omega (arith, r)))
wider_by p q x xs true false f g h w = absurd (false≢true (h refl))
wider_by p q x xs false true f g h (m, r) = (omega (arith, m), inr (omega (arith, m)))
wider_by p q x xs false false f g h (m, inl r) = (omega (arith, m), inl (refl, r))
wider_by p q x xs false false f g h (m, inr r) = (omega (arith, m), inr (omega (arith, r)))

wider : (p q : ℕ → Bool) (xs : List ℕ) → ((id : ℕ) → is_listed xs id ≡ true → p id ≡ true → q id ≡ true) → Wider p q xs
wider p q [] sub = (omega arith, inl tt)
wider p q (x ∷ xs) sub =
    wider_by p q x xs (p x) (q x) refl refl (sub x (ap (λ (b : Bool). b || is_listed xs x) (eq-eqb x x refl)))
    (wider p q xs (λ id l. sub id (or_right (x == id) (is_listed xs id) l)))

-- no more functions are reached by one more call
abbrev pub IsStable : List Function → ℕ → ℕ → Type 0
IsStable fs entry n = (id : ℕ) → is_listed (ids_of fs) id ≡ true → within fs entry (suc n) id ≡ within fs entry n id

any_by : (p q : Function → Bool) (fs : List Function) → ((f : Function) → Contains fs f → p f ≡ q f) → list_any p fs ≡ true → list_any q fs ≡ true
any_by p q fs same h =
    let (k, f, inside, is, t) = Any-from_list_any p fs h in
    list_any-from_Any q fs (k, f, inside, is, sym (same f (k, inside, is)) ∙ t)

any_same : (p q : Function → Bool) (fs : List Function) → ((f : Function) → Contains fs f → p f ≡ q f) → list_any p fs ≡ list_any q fs
any_same p q fs same = same_tests (list_any p fs) (list_any q fs) (any_by p q fs same) (any_by q p fs (λ f i. sym (same f i)))

stays : (fs : List Function) (entry n : ℕ) → IsStable fs entry n → IsStable fs entry (suc n)
stays fs entry n st id l =
    let own : within fs entry (suc n) id ≡ within fs entry n id = st id l in
    let any : list_any (λ (f : Function). within fs entry (suc n) (id_of f) && calls_to id f) fs ≡ list_any (λ (f : Function). within fs entry n (id_of f) && calls_to id f) fs =
    any_same (λ (f : Function). within fs entry (suc n) (id_of f) && calls_to id f) (λ (f : Function). within fs entry n (id_of f) && calls_to id f) fs
    (λ f i. ap (λ (b : Bool). b && calls_to id f) (st (id_of f) (is_among fs f (id_of f) i refl))) in
    within_next fs entry (suc n) id
    ∙ (ap (λ (b : Bool). (elim b [ true ↦ true | false ↦ list_any (λ (f : Function). within fs entry (suc n) (id_of f) && calls_to id f) fs ]) && is_listed (ids_of fs) id) own
    ∙ (ap (λ (c : Bool). (elim (within fs entry n id) [ true ↦ true | false ↦ c ]) && is_listed (ids_of fs) id) any
    ∙ sym (within_next fs entry n id)))

stable_or_more : (fs : List Function) (entry n : ℕ) → IsStable fs entry n ⊎ (n + 1 ≤ passing (within fs entry (suc n)) (ids_of fs))
stable_or_more fs entry zero = elim ((wider (within fs entry 0) (within fs entry 1) (ids_of fs) (more_calls fs entry 0)).1) [
  | inl a ↦ inl (λ id l. agree_at (within fs entry 0) (within fs entry 1) (ids_of fs) id a l)
  | inr m ↦ inr (omega (arith, m))
]
stable_or_more fs entry (suc n) = elim (stable_or_more fs entry n) [
  | inl st ↦ inl (stays fs entry n st)
  | inr k ↦ elim ((wider (within fs entry (suc n)) (within fs entry (suc (suc n))) (ids_of fs) (more_calls fs entry (suc n))).1) [
    | inl a ↦ inl (λ id l. agree_at (within fs entry (suc n)) (within fs entry (suc (suc n))) (ids_of fs) id a l)
    | inr m ↦ inr (omega (arith, k, m))
  ]
]

length_ids : (fs : List Function) → length (ids_of fs) ≡ length fs
length_ids [] = refl
length_ids (f ∷ fs) = ap suc (length_ids fs)

stable_all : (fs : List Function) (entry : ℕ) → IsStable fs entry (length fs)
stable_all fs entry = elim (stable_or_more fs entry (length fs)) [
  | inl st ↦ st
  | inr m ↦ absurd (omega (arith, m, passing_at_most (within fs entry (suc (length fs))) (ids_of fs), length_ids fs))
]

stable_from : (fs : List Function) (entry k : ℕ) → IsStable fs entry (length fs + k)
stable_from fs entry zero = let e : length fs ≡ length fs + 0 = omega arith in subst (IsStable fs entry) e (stable_all fs entry)
stable_from fs entry (suc k) = let e : suc (length fs + k) ≡ length fs + suc k = omega arith in subst (IsStable fs entry) e (stays fs entry (length fs + k) (stable_from fs entry k))

no_more : (fs : List Function) (entry k n id : ℕ) → n ≡ length fs + k → is_listed (ids_of fs) id ≡ true → within fs entry n id ≡ true → within fs entry (length fs) id ≡ true
no_more fs entry zero n id e l h = subst (λ (x : ℕ). within fs entry x id ≡ true) (let same : n ≡ length fs = omega (arith, e) in same) h
no_more fs entry (suc k) n id e l h =
    let down : n ≡ suc (length fs + k) = omega (arith, e) in
    no_more fs entry k (length fs + k) id refl l (sym (stable_from fs entry k id l) ∙ subst (λ (x : ℕ). within fs entry x id ≡ true) down h)

all_reached : (fs : List Function) (entry n id : ℕ) → is_listed (ids_of fs) id ≡ true → within fs entry n id ≡ true → within fs entry (length fs) id ≡ true
all_reached fs entry n id l h = elim (cases_lt n (length fs)) [
  | inl few ↦ many_more fs entry (length fs - n) n (length fs) id (omega (arith, few)) l h
  | inr many ↦ no_more fs entry (n - length fs) n id (omega (arith, many)) l h
]

-- the order lists those functions
ordered : (fs : List Function) (entry : ℕ) (order : List ℕ) (f : Function) → IsCallOrder fs entry order → Contains fs f
    → is_listed order (id_of f) ≡ within fs entry (length fs) (id_of f)
ordered fs entry order f o inside = same_tests (is_listed order (id_of f)) (within fs entry (length fs) (id_of f))
    (λ h.
    let (k, x, kn, is, e) = Any-from_list_any (λ (n : ℕ). n == id_of f) order h in
    let at : slice_index order k ≡ id_of f = sym (get_or_default order k x 0 kn) ∙ (is ∙ eqb-true x (id_of f) e) in
    let (n, leads) = (o.next k kn).ready.reached in
    let l : is_listed (ids_of fs) (id_of f) ≡ true = is_among fs f (id_of f) inside refl in
    all_reached fs entry n (id_of f) l (complete fs entry n (id_of f) (subst (λ (x : ℕ). Leads (Calls fs) n entry x) at leads) l))
    (λ h.
    let (k, kn, is) = o.all (id_of f) (sound fs entry (length fs) (id_of f) h) in
    list_any-from_Any (λ (n : ℕ). n == id_of f) order (k, id_of f, kn, is, eq-eqb (id_of f) (id_of f) refl))

among_numbers : (ids : List Id) (id : ℕ) → is_among_ids ids id ≡ is_listed (numbers ids) id
among_numbers [] id = refl
among_numbers (x ∷ xs) id = ap (λ (b : Bool). (x.0 == id) || b) (among_numbers xs id)

behind_first : (f g : Function) (fs : List Function) → Contains fs f → Contains (g ∷ fs) f
behind_first f g fs (k, inside, is) = (suc k, (let h : suc k < suc (length fs) = omega (arith, inside) in h), is)

filter_same : (p q : Function → Bool) (fs : List Function) → ((f : Function) → Contains fs f → p f ≡ q f) → filter p fs ≡ filter q fs
filter_same p q [] same = refl
filter_same p q (f ∷ fs) same =
    ap (λ (b : Bool). cond b (f ∷ filter p fs) (filter p fs)) (same f (0, (let h : 0 < suc (length fs) = omega arith in h), refl))
    ∙ ap (λ (l : List Function). cond (q f) (f ∷ l) l) (filter_same p q fs (λ g i. same g (behind_first g f fs i)))

pub mentioned_are : (m : ModuleState) (entry : ℕ) (order : List Id) (called none found : ℕ → Bool) → IsCallOrder m.functions entry (numbers order)
    → ((id : ℕ) → called id ≡ is_among_ids order id) → ((id : ℕ) → none id ≡ false) → ((id : ℕ) → found id ≡ (none id || mention (with_ids called m.functions) id))
    → AreMentioned m entry found
mentioned_are m entry order called none found o c n h = record {
  each = λ id.
      let reached : with_ids called m.functions ≡ reached_functions (bare_from m entry) =
      filter_same (λ (f : Function). called (id_of f)) (λ (f : Function). within m.functions entry (length m.functions) (id_of f)) m.functions
      (λ f i. c (id_of f) ∙ (among_numbers order (id_of f) ∙ ordered m.functions entry (numbers order) f o i)) in
      h id ∙ (ap (λ (b : Bool). b || mention (with_ids called m.functions) id) (n id) ∙ ap (λ (fs : List Function). mention fs id) reached);
}
