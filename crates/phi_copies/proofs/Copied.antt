-- What is kept once a pair is copied.
use Rattle.std.proofs.Common.{◌≡◌, ◌≢◌, ◌<◌, ◌≤◌, ◌+◌, ◌==◌, ◌&&◌, ◌||◌, not, ◌⊎◌, ℕ, zero, suc, Bool, true, false, cond, Option, None, Some, List, [], ◌∷◌, length, get_or, refl, ap, sym, subst, ◌∙◌, inl, inr, arith, eq-eqb}
use Rattle.std.specs.Option.{is_some}
use Rattle.std.specs.Ordering.{nat_cmp, is_eq}
use Rattle.std.proofs.lemmas.Bool.Decides.{nat_tests, eqb_tells}
use Rattle.std.proofs.lemmas.Bool.{or_right, or_left, and_from, and_parts, or_from, or_parts, or_cases, false_from_ne_true}
use Rattle.list_law.proofs.Options.{some_of}
use Rattle.list_law.proofs.Tests.{not_both}
use Rattle.phi_copies.specs.declared.moves.Src.{Src}
use Rattle.phi_copies.specs.declared.moves.Src.TheVariants.{Var as Variable, Constant}
use Rattle.phi_copies.specs.declared.moves.Move.{Move}
use Rattle.phi_copies.specs.Sequence.{Pair, target, pair_at, HaveOwnTargets, is_var, sets, is_set, spare_of, is_save, reads, readers, IsLeft, move_of}
use Rattle.phi_copies.specs.Kept.{ArePlaces, unless_saved, source_place, is_place, IsReleased, IsState}
use Rattle.phi_copies.proofs.Reading.{as_number, sets_move, after_move, save_move, saves_cons, readers_less, some_reader, quiet, same_place}
use Rattle.phi_copies.proofs.Counted.{copy_readers}
use Rattle.phi_copies.proofs.Saved.{cmp_same, cmp_other, cond_true, cond_false}

-- a number stands within the list, or is read as 0
inside_or : (xs : List ℕ) (j : ℕ) → (j < length xs) ⊎ (get_or xs j 0 ≡ 0)
inside_or [] j = inr refl
inside_or (x ∷ xs) zero = inl (omega arith)
inside_or (x ∷ xs) (suc j) =
    elim (inside_or xs j) [
      | inl w ↦ inl (omega (arith, w))
      | inr w ↦ inr w
    ]

-- the place of a target
place_is : (ps : List Pair) (places : ℕ → Option ℕ) (j : ℕ) → HaveOwnTargets ps → ArePlaces ps (length ps) places → j < length ps → places (target (pair_at ps j)) ≡ Some j
place_is ps places j own are small =
    let found = some_of (places (target (pair_at ps j))) (are.complete j small) in
    let known = are.sound (target (pair_at ps j)) found.0 found.1 in
    found.1 ∙ ap (λ (k : ℕ). Some k) (same_place ps found.0 j own known.0 small known.1)

none_saved : (j : ℕ) (o e : Option ℕ) → is_some o ≡ true → is_place j (unless_saved o e) ≡ false
none_saved j None e h = cc
none_saved j (Some k) e h = refl

kept_saved : (j : ℕ) (o e : Option ℕ) → is_some o ≡ false → is_place j (unless_saved o e) ≡ is_place j e
kept_saved j None e h = refl
kept_saved j (Some k) e h = cc

no_place : (j : ℕ) (o e : Option ℕ) → is_place j e ≡ false → is_place j (unless_saved o e) ≡ false
no_place j None e h = h
no_place j (Some k) e h = refl

other_place : (ps : List Pair) (places : ℕ → Option ℕ) (j v : ℕ) (o : Option ℕ) → ArePlaces ps (length ps) places → places v ≡ o → v ≢ target (pair_at ps j) → is_place j o ≡ false
other_place ps places j v None are e apart = refl
other_place ps places j v (Some k) are e apart =
    let known = are.sound v k e in
    elim (eqb_tells k j) [
      | inl w ↦ absurd (apart (sym known.1 ∙ ap (λ i. target (pair_at ps i)) w.1))
      | inr w ↦ w.0
    ]

var_reads : (a b c : Bool) → a ≡ false → (not a && (b && not c)) ≡ (b && not c)
var_reads a b c e = rw e refl

-- the place of the source tells whether a pair that is left reads a target
pub reads_source : (ps : List Pair) (h : List Move) (places spares : ℕ → Option ℕ) (j : ℕ) (s : Src) → HaveOwnTargets ps → ArePlaces ps (length ps) places → ((v : ℕ) → spares v ≡ spare_of h v) → j < length ps
    → is_place j (source_place places spares s) ≡ (is_var (target (pair_at ps j)) s && not (is_some (spare_of h (target (pair_at ps j)))))
reads_source ps h places spares j (Constant c) own are same small = refl
reads_source ps h places spares j (Variable x) own are same small =
    let v = target (pair_at ps j) in
    elim (eqb_tells x.0 v) [
      | inl w ↦
          let stand : spares x.0 ≡ spare_of h v = ap spares w.1 ∙ same v in
          let place : places x.0 ≡ Some j = ap places w.1 ∙ place_is ps places j own are small in
          let right : ((x.0 == v) && not (is_some (spare_of h v))) ≡ not (is_some (spare_of h v)) = ap (λ b. b && not (is_some (spare_of h v))) w.0 in
          (elim (is_some (spare_of h v)) as (λ b. is_some (spare_of h v) ≡ b → is_place j (unless_saved (spares x.0) (places x.0)) ≡ not b) [
            | true ↦ λ e. none_saved j (spares x.0) (places x.0) (ap is_some stand ∙ e)
            | false ↦ λ e. kept_saved j (spares x.0) (places x.0) (ap is_some stand ∙ e) ∙ (ap (is_place j) place ∙ eq-eqb j j refl)
          ]) refl ∙ sym right
      | inr w ↦
          let right : ((x.0 == v) && not (is_some (spare_of h v))) ≡ false = ap (λ b. b && not (is_some (spare_of h v))) w.0 in
          no_place j (spares x.0) (places x.0) (other_place ps places j x.0 (places x.0) are refl w.1) ∙ sym right
    ]

-- one may ask for less than the source of the pair has
pub enough_readers : (ps : List Pair) (h : List Move) (counts : List ℕ) (left ready : ℕ → Bool) (places spares : ℕ → Option ℕ) (n i j : ℕ)
    → HaveOwnTargets ps → ArePlaces ps (length ps) places → IsState ps h counts left ready spares n → ready i ≡ true → source_place places spares (pair_at ps i).1 ≡ Some j → j < length ps → 0 < get_or counts j 0
enough_readers ps h counts left ready places spares n i j own are state here e small =
    let known = state.ready_sound i here in
    let place : is_place j (source_place places spares (pair_at ps i).1) ≡ true = ap (is_place j) e ∙ eq-eqb j j refl in
    let reading : reads h (target (pair_at ps j)) (pair_at ps i) ≡ true =
    var_reads (is_set h (target (pair_at ps i))) (is_var (target (pair_at ps j)) (pair_at ps i).1) (is_some (spare_of h (target (pair_at ps j)))) known.still.unset
    ∙ (sym (reads_source ps h places spares j (pair_at ps i).1 own are state.spares_are small) ∙ place) in
    omega (arith, some_reader ps h (target (pair_at ps j)) i known.still.below reading, state.counts_are j small)

pub state_copy : (ps : List Pair) (h : List Move) (counts : List ℕ) (left ready : ℕ → Bool) (places spares : ℕ → Option ℕ) (n i : ℕ) (still rest : ℕ → Bool) (after : List ℕ) (is : ℕ → Bool)
    → HaveOwnTargets ps → ArePlaces ps (length ps) places → IsState ps h counts left ready spares n
    → ready i ≡ true → ((j : ℕ) → ready j ≡ true → i ≤ j)
    → ((j : ℕ) → still j ≡ cond (is_eq (nat_cmp i j)) false (left j))
    → ((j : ℕ) → rest j ≡ cond (is_eq (nat_cmp i j)) false (ready j))
    → IsReleased (source_place places spares (pair_at ps i).1) counts after rest is
    → IsState ps (move_of (pair_at ps i) (spare_of h) ∷ h) after still is spares n
state_copy ps h counts left ready places spares n i still rest after is own are state here least removed popped released =
    let p = pair_at ps i in
    let m = move_of p (spare_of h) in
    let known = state.ready_sound i here in
    let place = source_place places spares p.1 in
    let reading : (j : ℕ) → j < length ps → is_place j place ≡ reads h (target (pair_at ps j)) p = λ j small.
    reads_source ps h places spares j p.1 own are state.spares_are small
    ∙ sym (var_reads (is_set h (target p)) (is_var (target (pair_at ps j)) p.1) (is_some (spare_of h (target (pair_at ps j)))) known.still.unset) in
    let counted : (j : ℕ) → j < length ps → get_or after j 0 ≡ readers ps (m ∷ h) (target (pair_at ps j)) = λ j small.
    let one : as_number (is_place j place) ≡ as_number (reads h (target (pair_at ps j)) p) = ap as_number (reading j small) in
    omega (arith, one, released.less j, state.counts_are j small, copy_readers ps h i (target (pair_at ps j)) own known.still.below) in
    let unset : (j : ℕ) → j < length ps → i ≢ j → is_set h (target (pair_at ps j)) ≡ false → is_set (m ∷ h) (target (pair_at ps j)) ≡ false = λ j small apart e.
    let other : sets (target (pair_at ps j)) m ≡ false =
    sets_move p (spare_of h) (target (pair_at ps j))
    ∙ elim (eqb_tells (target p) (target (pair_at ps j))) [
      | inl w ↦ absurd (apart (same_place ps i j own known.still.below small w.1))
      | inr w ↦ w.0
    ] in
    or_from (sets (target (pair_at ps j)) m) (is_set h (target (pair_at ps j))) other e in
    let set : is_set (m ∷ h) (target p) ≡ true = or_left (sets (target p) m) (is_set h (target p)) (sets_move p (spare_of h) (target p) ∙ eq-eqb (target p) (target p) refl) in
    let before : (j : ℕ) → IsLeft ps (m ∷ h) j → IsLeft ps h j × (i ≢ j) = λ j l. (
      record { below = l.below; unset = (or_parts (sets (target (pair_at ps j)) m) (is_set h (target (pair_at ps j))) l.unset).1 },
      λ e. not_both (is_set (m ∷ h) (target (pair_at ps j))) (ap (λ k. is_set (m ∷ h) (target (pair_at ps k))) (sym e) ∙ set) l.unset,
    ) in
    record {
      next = (inl record { at = i; first = record { holds = known; least = λ j r. least j (state.ready_complete j r) }; move = refl }, state.next);
      size = released.size ∙ state.size;
      counts_are = counted;
      left_sound = λ j l.
          elim (eqb_tells i j) [
            | inl w ↦ absurd (not_both (still j) l (removed j ∙ cond_true (is_eq (nat_cmp i j)) false (left j) (cmp_same i j w.1)))
            | inr w ↦
                let was = state.left_sound j (sym (cond_false (is_eq (nat_cmp i j)) false (left j) (cmp_other i j w.1)) ∙ (sym (removed j) ∙ l)) in
                record { below = was.below; unset = unset j was.below w.1 was.unset }
          ];
      left_complete = λ j l.
          let was = before j l in
          removed j ∙ (cond_false (is_eq (nat_cmp i j)) false (left j) (cmp_other i j was.1) ∙ state.left_complete j was.0);
      ready_sound = λ j r.
          elim (or_cases (rest j) (is_place j place && (get_or after j 0 == 0)) (sym (released.ready_is j) ∙ r)) [
            | inl old ↦
                elim (eqb_tells i j) [
                  | inl w ↦ absurd (not_both (rest j) old (popped j ∙ cond_true (is_eq (nat_cmp i j)) false (ready j) (cmp_same i j w.1)))
                  | inr w ↦
                      let was = state.ready_sound j (sym (cond_false (is_eq (nat_cmp i j)) false (ready j) (cmp_other i j w.1)) ∙ (sym (popped j) ∙ old)) in
                      record { still = record { below = was.still.below; unset = unset j was.still.below w.1 was.still.unset }; unread = omega (arith, was.unread, readers_less ps m h (target (pair_at ps j))) }
                ]
            | inr new ↦
                let parts = and_parts (is_place j place) (get_or after j 0 == 0) new in
                let less : get_or after j 0 + as_number (is_place j place) ≡ get_or counts j 0 = released.less j in
                let one : as_number (is_place j place) ≡ 1 = ap as_number parts.0 in
                let small : j < length ps =
                elim (inside_or counts j) [
                  | inl w ↦ omega (arith, w, state.size)
                  | inr w ↦ absurd (omega (arith, w, less, one))
                ] in
                let reads_here : reads h (target (pair_at ps j)) p ≡ true = sym (reading j small) ∙ parts.0 in
                let some = some_reader ps h (target (pair_at ps j)) i known.still.below reads_here in
                let was : is_set h (target (pair_at ps j)) ≡ false = false_from_ne_true (is_set h (target (pair_at ps j))) (λ e. absurd (omega (arith, some, quiet ps h (target (pair_at ps j)) state.next e))) in
                let apart : i ≢ j = λ e.
                let none : readers ps h (target (pair_at ps j)) ≡ 0 = ap (λ k. readers ps h (target (pair_at ps k))) (sym e) ∙ known.unread in
                omega (arith, some, none) in
                let zero_left : get_or after j 0 ≡ 0 = grind (arith, nat_tests, parts.1) in
                record { still = record { below = small; unset = unset j small apart was }; unread = sym (counted j small) ∙ zero_left }
          ];
      ready_complete = λ j r.
          let was = before j r.still in
          let empty : get_or after j 0 ≡ 0 = counted j r.still.below ∙ r.unread in
          released.ready_is j
          ∙ (elim (is_place j place) as (λ b. is_place j place ≡ b → (rest j || (is_place j place && (get_or after j 0 == 0))) ≡ true) [
            | true ↦ λ e. or_right (rest j) (is_place j place && (get_or after j 0 == 0)) (and_from (is_place j place) (get_or after j 0 == 0) e (eq-eqb (get_or after j 0) 0 empty))
            | false ↦ λ e.
                let none : as_number (is_place j place) ≡ 0 = ap as_number e in
                let unread : readers ps h (target (pair_at ps j)) ≡ 0 = omega (arith, none, empty, released.less j, state.counts_are j r.still.below) in
                or_left (rest j) (is_place j place && (get_or after j 0 == 0))
                (popped j ∙ (cond_false (is_eq (nat_cmp i j)) false (ready j) (cmp_other i j was.1) ∙ state.ready_complete j record { still = was.0; unread = unread }))
          ]) refl;
      spares_are = λ v. state.spares_are v ∙ sym (after_move p (spare_of h) (spare_of h v) v);
      number =
          let none : as_number (is_save m) ≡ 0 = ap as_number (save_move p (spare_of h)) in
          omega (arith, state.number, none, saves_cons m h);
    }

-- the same, by the spares that are kept
pub state_copied : (ps : List Pair) (h : List Move) (counts : List ℕ) (left ready : ℕ → Bool) (places spares : ℕ → Option ℕ) (n i : ℕ) (still rest : ℕ → Bool) (after : List ℕ) (is : ℕ → Bool)
    → HaveOwnTargets ps → ArePlaces ps (length ps) places → IsState ps h counts left ready spares n
    → ready i ≡ true → ((j : ℕ) → ready j ≡ true → i ≤ j)
    → ((j : ℕ) → still j ≡ cond (is_eq (nat_cmp i j)) false (left j))
    → ((j : ℕ) → rest j ≡ cond (is_eq (nat_cmp i j)) false (ready j))
    → IsReleased (source_place places spares (pair_at ps i).1) counts after rest is
    → IsState ps (move_of (pair_at ps i) spares ∷ h) after still is spares n
state_copied ps h counts left ready places spares n i still rest after is own are state here least removed popped released =
    let same : spares ≡ spare_of h = λ k v. state.spares_are v k in
    let P : (ℕ → Option ℕ) → Type 0 = λ f. IsState ps (move_of (pair_at ps i) f ∷ h) after still is spares n in
    subst P (sym same) (state_copy ps h counts left ready places spares n i still rest after is own are state here least removed popped released)
