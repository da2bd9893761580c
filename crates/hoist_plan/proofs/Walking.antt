-- A walk along the slots of an id: which of them are left.
use Rattle.std.proofs.Common.{◌≡◌, ◌<◌, ◌≤◌, ◌+◌, ◌==◌, ℕ, suc, Bool, true, false, List, [], ◌∷◌, filter, map, refl, ap, sym, ◌∙◌, inl, inr, arith, Option, Some, None}
use Rattle.std.specs.Prelude.{nat_le, nat_lt, unwrap_or}
use Rattle.std.specs.List.{find}
use Rattle.std.specs.Option.{option_map}
use Rattle.std.proofs.lemmas.Bool.{and_parts, and_from, cases_Bool, eqb-true, ne_eqb, leb-true, le-leb, lt-leb, ltb-true, lt-ltb}
use Rattle.use_chains.specs.declared.slot.Slot.{Slot}
use Rattle.use_chains.specs.declared.slot.SlotPlace.{SlotPlace}
use Rattle.use_chains.specs.Links.{Link, chain, next_link, link_at, has_slot}
use Rattle.hoist_plan.specs.Kept.{are_rising_from}

abbrev pub slot_number : Link → ℕ
slot_number l = l.slot

-- those from a slot on, and none where no slot is given
abbrev pub left : Option ℕ → List Link → List Link
left None ls = []
left (Some s) ls = filter (λ (l : Link). nat_le s l.slot) ls

weaken : (n m : ℕ) (ls : List Link) → n ≤ m → are_rising_from m ls ≡ true → are_rising_from n ls ≡ true
weaken n m [] le e = refl
weaken n m (l ∷ ls) le e =
    let both = and_parts (nat_le m l.slot) (are_rising_from (l.slot + 1) ls) e in
    let there : m ≤ l.slot = leb-true m l.slot both.0 in
    and_from (nat_le n l.slot) (are_rising_from (l.slot + 1) ls) (le-leb n l.slot (omega (arith, le, there))) both.1

-- some of them are in order too
pub rising_kept : (q : Link → Bool) (n : ℕ) (ls : List Link) → are_rising_from n ls ≡ true → are_rising_from n (filter q ls) ≡ true
rising_kept q n [] e = refl
rising_kept q n (l ∷ ls) e =
    let both = and_parts (nat_le n l.slot) (are_rising_from (l.slot + 1) ls) e in
    let there : n ≤ l.slot = leb-true n l.slot both.0 in
    let rest : are_rising_from (l.slot + 1) (filter q ls) ≡ true = rising_kept q (l.slot + 1) ls both.1 in
    elim (cases_Bool (q l)) [
      | inl here ↦ rw here (and_from (nat_le n l.slot) (are_rising_from (l.slot + 1) (filter q ls)) both.0 rest)
      | inr other ↦ rw other (weaken n (l.slot + 1) (filter q ls) (omega (arith, there)) rest)
    ]

rising_chain : (id n : ℕ) (ls : List Link) → are_rising_from n ls ≡ true → are_rising_from n (chain ls id) ≡ true
rising_chain id n ls e = rising_kept (λ (l : Link). l.id == id) n ls e

all_left : (n s : ℕ) (ls : List Link) → s ≤ n → are_rising_from n ls ≡ true → filter (λ (l : Link). nat_le s l.slot) ls ≡ ls
all_left n s [] le e = refl
all_left n s (l ∷ ls) le e =
    let both = and_parts (nat_le n l.slot) (are_rising_from (l.slot + 1) ls) e in
    let there : n ≤ l.slot = leb-true n l.slot both.0 in
    let passes : nat_le s l.slot ≡ true = le-leb s l.slot (omega (arith, there, le)) in
    rw (passes, all_left (l.slot + 1) s ls (omega (arith, there, le)) both.1) refl

-- the first that is given leaves all
pub all_from_first : (q : ℕ → Bool) (n : ℕ) (ls : List Link) → are_rising_from n ls ≡ true → ((k : ℕ) → n ≤ k → q k ≡ true) → left (option_map slot_number (find (λ (l : Link). q l.slot) ls)) ls ≡ ls
all_from_first q n [] e all = refl
all_from_first q n (l ∷ ls) e all =
    let both = and_parts (nat_le n l.slot) (are_rising_from (l.slot + 1) ls) e in
    let there : n ≤ l.slot = leb-true n l.slot both.0 in
    let own : nat_le l.slot l.slot ≡ true = le-leb l.slot l.slot (omega arith) in
    rw (all l.slot there) (all_left l.slot l.slot (l ∷ ls) (omega arith) (and_from (nat_le l.slot l.slot) (are_rising_from (l.slot + 1) ls) own both.1))

-- one that stands before is not left
skipped : (s : ℕ) (x : Link) (xs ls : List Link) → x.slot ≤ s → left (option_map slot_number (find (λ (l : Link). nat_lt s l.slot) ls)) (x ∷ xs) ≡ left (option_map slot_number (find (λ (l : Link). nat_lt s l.slot) ls)) xs
skipped s x xs [] le = refl
skipped s x xs (l ∷ ls) le = elim (cases_Bool (nat_lt s l.slot)) [
  | inl here ↦
      let behind : s < l.slot = ltb-true s l.slot here in
      let fails : nat_le l.slot x.slot ≡ false = lt-leb l.slot x.slot (omega (arith, behind, le)) in
      rw (here, fails) refl
  | inr other ↦ rw other (skipped s x xs ls le)
]

has_above : (s n : ℕ) (ls : List Link) → are_rising_from n ls ≡ true → has_slot ls s ≡ true → n ≤ s
has_above s n [] e has = cc
has_above s n (l ∷ ls) e has =
    let both = and_parts (nat_le n l.slot) (are_rising_from (l.slot + 1) ls) e in
    let there : n ≤ l.slot = leb-true n l.slot both.0 in
    elim (cases_Bool (l.slot == s)) [
      | inl here ↦ let same : l.slot ≡ s = eqb-true l.slot s here in omega (arith, there, same)
      | inr other ↦ let later : l.slot + 1 ≤ s = has_above s (l.slot + 1) ls both.1 (rw other at has) in omega (arith, there, later)
    ]

-- the slots that are left from one on are that one, and those from the next one on
pub one_left : (s n : ℕ) (ls : List Link) → are_rising_from n ls ≡ true → has_slot ls s ≡ true → (l : Link) × (link_at ls s ≡ Some l) × (left (Some s) ls ≡ l ∷ left (option_map slot_number (find (λ (k : Link). nat_lt s k.slot) ls)) ls)
one_left s n [] e has = cc
one_left s n (x ∷ xs) e has =
    let both = and_parts (nat_le n x.slot) (are_rising_from (x.slot + 1) xs) e in
    elim (cases_Bool (x.slot == s)) [
      | inl here ↦
          let same : x.slot ≡ s = eqb-true x.slot s here in
          let stays : nat_le s x.slot ≡ true = le-leb s x.slot (omega (arith, same)) in
          let passed : nat_lt s x.slot ≡ false = lt-leb (suc s) x.slot (omega (arith, same)) in
          let rest : left (option_map slot_number (find (λ (k : Link). nat_lt s k.slot) xs)) xs ≡ xs = all_from_first (λ k. nat_lt s k) (x.slot + 1) xs both.1 (λ k le. lt-ltb s k (omega (arith, same, le))) in
          (x, rw here refl, rw (stays, passed, all_left (x.slot + 1) s xs (omega (arith, same)) both.1, skipped s x xs xs (omega (arith, same)), rest) refl)
      | inr other ↦
          let inside : has_slot xs s ≡ true = rw other at has in
          let above : x.slot + 1 ≤ s = has_above s (x.slot + 1) xs both.1 inside in
          let more = one_left s (x.slot + 1) xs both.1 inside in
          let gone : nat_le s x.slot ≡ false = lt-leb s x.slot (omega (arith, above)) in
          let passed : nat_lt s x.slot ≡ false = lt-leb (suc s) x.slot (omega (arith, above)) in
          (more.0, rw other more.1, rw (gone, passed, skipped s x xs xs (omega (arith, above))) more.2)
    ]

-- the slot of an id is found among those of the id
pub found_in_chain : (s id n : ℕ) (ls : List Link) → are_rising_from n ls ≡ true → has_slot (chain ls id) s ≡ true → link_at ls s ≡ link_at (chain ls id) s
found_in_chain s id n [] e has = refl
found_in_chain s id n (x ∷ xs) e has =
    let both = and_parts (nat_le n x.slot) (are_rising_from (x.slot + 1) xs) e in
    elim (cases_Bool (x.id == id)) [
      | inl named ↦ elim (cases_Bool (x.slot == s)) [
        | inl here ↦ rw (named, here) refl
        | inr other ↦ rw (named, other) (found_in_chain s id (x.slot + 1) xs both.1 (rw (named, other) at has))
      ]
      | inr unnamed ↦
          let inside : has_slot (chain xs id) s ≡ true = rw unnamed at has in
          let above : x.slot + 1 ≤ s = has_above s (x.slot + 1) (chain xs id) (rising_chain id (x.slot + 1) xs both.1) inside in
          let other : (x.slot == s) ≡ false = ne_eqb x.slot s (λ e. omega (arith, e, above)) in
          rw (unnamed, other) (found_in_chain s id (x.slot + 1) xs both.1 inside)
    ]

abbrev pub place_of : Link → SlotPlace
place_of l = l.place

abbrev pub slot_of : Option Slot → Option ℕ
slot_of at = option_map (λ (s : Slot). s.0) at

-- at first all slots of the id are left
pub at_first : (ls : List Link) (id : ℕ) (r : Option Slot) → are_rising_from 0 ls ≡ true → slot_of r ≡ option_map slot_number (next_link ls id None) → left (slot_of r) (chain ls id) ≡ chain ls id
at_first ls id r e is = rw is (all_from_first (λ k. true) 0 (chain ls id) (rising_chain id 0 ls e) (λ k le. refl))

-- a step of a walk
pub a_step : (ls : List Link) (id : ℕ) (s : Slot) (place : SlotPlace) (r : Option Slot) → are_rising_from 0 ls ≡ true → has_slot (chain ls id) s.0 ≡ true → Some place ≡ option_map place_of (link_at ls s.0) → slot_of r ≡ option_map slot_number (next_link ls id (Some s)) → map place_of (left (Some s.0) (chain ls id)) ≡ place ∷ map place_of (left (slot_of r) (chain ls id))
a_step ls id s place r e has at is =
    let one = one_left s.0 0 (chain ls id) (rising_chain id 0 ls e) has in
    let found : Some place ≡ Some one.0.place = at ∙ (ap (option_map place_of) (found_in_chain s.0 id 0 ls e has) ∙ ap (option_map place_of) one.1) in
    let same : place ≡ one.0.place = ap (λ (o : Option SlotPlace). unwrap_or o place) found in
    rw is (ap (map place_of) one.2 ∙ ap (λ (p : SlotPlace). p ∷ map place_of (left (option_map slot_number (next_link ls id (Some s))) (chain ls id))) (sym same))
