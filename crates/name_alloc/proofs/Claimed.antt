-- A space after a claim.
use Rattle.std.proofs.Common.{◌≡◌, ◌<◌, ◌≤◌, ◌+◌, ◌-◌, ◌^◌, ◌||◌, ℕ, true, false, List, None, Some, refl, ap, sym, ◌∙◌, inl, inr, arith, subst, bytes_eq}
use Rattle.std.specs.Map.{update}
use Rattle.std.proofs.lemmas.Bool.{cases_Bool, false_from_ne_true}
use Rattle.std.proofs.lemmas.Bool.Decides.{eqb_tells}
use Rattle.std.proofs.lemmas.Slice.Eq.{bytes_eq-Decides}
use Rattle.std.proofs.Math.Bool.{or-true}
use Rattle.std.proofs.lemmas.Option.{same_Some}
use Rattle.name_alloc.specs.Naming.{numbered, first_free, free_name}
use Rattle.name_alloc.specs.Taken.{number_at, Held, is_held, held_count, claimed_name, IsNext, IsPut, IsSkipping, IsClaimed}
use Rattle.name_alloc.proofs.First.{skips_taken, first_bounds, below_taken, all_taken}
use Rattle.name_alloc.proofs.Crowd.{numbered_apart, one_free}

abbrev Puts : Held → Held → List ℕ → ℕ → Type 0
Puts old new base n = (t : List ℕ) → number_at new t ≡ update bytes_eq (number_at old) base (Some n) t

same_text : (t : List ℕ) → bytes_eq t t ≡ true
same_text t = (bytes_eq-Decides t t).1 refl

-- what is held stays held, and the text is
stays : (old new : Held) (base : List ℕ) (v : ℕ) → Puts old new base v → (t : List ℕ) → is_held old t ≡ true → is_held new t ≡ true
stays old new base v put t h =
    elim (cases_Bool (bytes_eq base t)) [
      | inl w ↦ rw (put t, w) refl
      | inr w ↦ rw (put t, w) h
    ]

is_put : (old new : Held) (base : List ℕ) (v : ℕ) → Puts old new base v → is_held new base ≡ true
is_put old new base v put = rw (put base, same_text base) refl

held_put : (old new : Held) (base : List ℕ) (v : ℕ) → Puts old new base v → (t : List ℕ) → is_held new t ≡ (bytes_eq base t || is_held old t)
held_put old new base v put t =
    elim (cases_Bool (bytes_eq base t)) [
      | inl w ↦ rw (put t, w) refl
      | inr w ↦ rw (put t, w) refl
    ]

-- the numbers stay right
skips_put : (old new : Held) (base : List ℕ) (v : ℕ) → IsSkipping old → Puts old new base v → held_count old ≤ held_count new → IsNext (is_held new) (held_count new) base v → IsSkipping new
skips_put old new base v skips put more own = record {
  next = λ t n h.
      elim (cases_Bool (bytes_eq base t)) [
        | inl w ↦
            let at : base ≡ t = (bytes_eq-Decides base t).0 w in
            let e : Some v ≡ Some n = rw (put t, w) at h in
            let m : v ≡ n = same_Some v n e in
            subst (λ b. IsNext (is_held new) (held_count new) b n) at (subst (λ k. IsNext (is_held new) (held_count new) base k) m own)
        | inr w ↦
            let e : number_at old t ≡ Some n = rw (put t, w) at h in
            let was = skips.next t n e in
            record { least = was.least; most = omega (arith, was.most, more); below = λ k low high. stays old new base v put (numbered t k) (was.below k low high) }
      ];
}

-- the base was free
pub claimed_base : (old new : Held) (base : List ℕ) → IsSkipping old → number_at old base ≡ None → IsPut old new base 2 → IsClaimed old new base base
claimed_base old new base skips free put =
    let open_base : is_held old base ≡ false = rw free refl in
    let count : held_count new ≡ held_count old + 1 = rw open_base at put.count in
    record {
      name_is = rw free refl;
      held = held_put old new base 2 put.puts;
      count = count;
      skipping = skips_put old new base 2 skips put.puts (omega (arith, count)) (record { least = omega arith; most = omega arith; below = λ k low high. absurd (omega (arith, low, high)) });
      fresh = open_base;
      form = inl refl;
    }

-- the number that is found is the first free one, and it is free
number_is : (old : Held) (base : List ℕ) (start number : ℕ) → IsSkipping old → number_at old base ≡ Some start → number ≡ first_free (λ k. is_held old (numbered base k)) (held_count old + 2 - start) start → number ≡ first_free (λ k. is_held old (numbered base k)) (held_count old) 2
number_is old base start number skips at found =
    let was = skips.next base start at in
    let count : held_count old + 2 - 2 ≡ held_count old = omega arith in
    let same : first_free (λ k. is_held old (numbered base k)) (held_count old + 2 - 2) 2 ≡ first_free (λ k. is_held old (numbered base k)) (held_count old + 2 - start) start =
    skips_taken (λ k. is_held old (numbered base k)) (held_count old + 2) 2 start was.least was.most was.below in
    found ∙ (sym same ∙ ap (λ n. first_free (λ k. is_held old (numbered base k)) n 2) count)

number_free : (old : Held) (base : List ℕ) (number : ℕ) → held_count old < 2 ^ 63 → number ≡ first_free (λ k. is_held old (numbered base k)) (held_count old) 2 → is_held old (numbered base number) ≡ false
number_free old base number small found =
    false_from_ne_true (is_held old (numbered base number)) (λ h.
    one_free old base small (λ k low high. all_taken (λ k. is_held old (numbered base k)) (held_count old) 2 k (subst (λ n. is_held old (numbered base n) ≡ true) found h) low high))

-- the base was taken
claimed_number : (old mid new : Held) (base name : List ℕ) (start number : ℕ) → IsSkipping old → held_count old < 2 ^ 63 → number_at old base ≡ Some start
    → number ≡ first_free (λ k. is_held old (numbered base k)) (held_count old + 2 - start) start → name ≡ numbered base number
    → IsPut old mid name 2 → IsPut mid new base (number + 1) → IsClaimed old new base name
claimed_number old mid new base name start number skips small at found is name_put base_put =
    let put = name_put.puts in
    let put_base = base_put.puts in
    let n : number ≡ first_free (λ k. is_held old (numbered base k)) (held_count old) 2 = number_is old base start number skips at found in
    let free : is_held old (numbered base number) ≡ false = number_free old base number small n in
    let open_name : is_held old name ≡ false = rw is free in
    let more : held_count mid ≡ held_count old + 1 = rw open_name at name_put.count in
    let apart : bytes_eq name base ≡ false = rw is (numbered_apart base number) in
    let base_stays : number_at mid base ≡ Some start = rw (put base, apart) at in
    let still : is_held mid base ≡ true = rw base_stays refl in
    let same_count : held_count new ≡ held_count mid + 0 = rw still at base_put.count in
    let all : held_count new ≡ held_count old + 1 = omega (arith, same_count, more) in
    let taken_base : is_held old base ≡ true = rw at refl in
    let mid_skips : IsSkipping mid = skips_put old mid name 2 skips put (omega (arith, more)) (record { least = omega arith; most = omega arith; below = λ k low high. absurd (omega (arith, low, high)) }) in
    let bounds = first_bounds (λ k. is_held old (numbered base k)) (held_count old) 2 in
    record {
      name_is = rw taken_base (is ∙ ap (numbered base) n);
      held = λ t.
          elim (cases_Bool (bytes_eq base t)) [
            | inl w ↦
                let same : base ≡ t = (bytes_eq-Decides base t).0 w in
                let now : is_held new t ≡ true = rw (put_base t, w) refl in
                let was : is_held old t ≡ true = subst (λ b. is_held old b ≡ true) same taken_base in
                now ∙ sym (rw was (or-true (bytes_eq name t)))
            | inr w ↦
                let now : is_held new t ≡ is_held mid t = rw (put_base t, w) refl in
                now ∙ held_put old mid name 2 put t
          ];
      count = all;
      skipping = skips_put mid new base (number + 1) mid_skips put_base (omega (arith, all, more)) (record {
        least = omega (arith, n, bounds.0);
        most = omega (arith, n, bounds.1, all);
        below = λ k low high.
            elim (eqb_tells k number) [
              | inl w ↦ stays mid new base (number + 1) put_base (numbered base k) (subst (λ t. is_held mid t ≡ true) (is ∙ ap (numbered base) (sym w.1)) (is_put old mid name 2 put))
              | inr w ↦ stays mid new base (number + 1) put_base (numbered base k) (stays old mid name 2 put (numbered base k) (below_taken (λ k. is_held old (numbered base k)) (held_count old) 2 k low (omega (arith, high, w.1, n))))
            ];
      });
      fresh = open_name;
      form = inr (number, is);
    }

-- what is held stays so where a base that is held is put again
held_again : (old new : Held) (base : List ℕ) (v : ℕ) → Puts old new base v → is_held old base ≡ true → (t : List ℕ) → is_held new t ≡ is_held old t
held_again old new base v put taken t =
    elim (cases_Bool (bytes_eq base t)) [
      | inl w ↦
          let now : is_held new t ≡ true = rw (put t, w) refl in
          now ∙ sym (subst (λ b. is_held old b ≡ true) ((bytes_eq-Decides base t).0 w) taken)
      | inr w ↦ rw (put t, w) refl
    ]

-- the base was taken, and is put again before the search
pub claimed_again : (old first mid new : Held) (base name : List ℕ) (start number : ℕ) → IsSkipping old → held_count old < 2 ^ 63 → number_at old base ≡ Some start
    → IsPut old first base 2 → number ≡ first_free (λ k. is_held first (numbered base k)) (held_count old + 2 - start) start → name ≡ numbered base number
    → IsPut first mid name 2 → IsPut mid new base (number + 1) → IsClaimed old new base name
claimed_again old first mid new base name start number skips small at again found is name_put base_put =
    let taken : is_held old base ≡ true = rw at refl in
    let more : held_count first ≡ held_count old + 0 = rw taken at again.count in
    let count : held_count first ≡ held_count old = omega (arith, more) in
    let same : is_held first ≡ is_held old = λ i t. held_again old first base 2 again.puts taken t i in
    let found_old : number ≡ first_free (λ k. is_held old (numbered base k)) (held_count old + 2 - start) start =
    subst (λ h. number ≡ first_free (λ k. h (numbered base k)) (held_count old + 2 - start) start) same found in
    let number_old : number ≡ first_free (λ k. is_held old (numbered base k)) (held_count old) 2 = number_is old base start number skips at found_old in
    let number_first : number ≡ first_free (λ k. is_held first (numbered base k)) (held_count old) 2 =
    subst (λ h. number ≡ first_free (λ k. h (numbered base k)) (held_count old) 2) (sym same) number_old in
    let two : held_count old ≡ held_count first + 2 - 2 = omega (arith, count) in
    let found_first : number ≡ first_free (λ k. is_held first (numbered base k)) (held_count first + 2 - 2) 2 =
    subst (λ m. number ≡ first_free (λ k. is_held first (numbered base k)) m 2) two number_first in
    let at_first : number_at first base ≡ Some 2 = rw (again.puts base, same_text base) refl in
    let skips_first : IsSkipping first =
    skips_put old first base 2 skips again.puts (omega (arith, count)) (record { least = omega arith; most = omega arith; below = λ k low high. absurd (omega (arith, low, high)) }) in
    let got : IsClaimed first new base name = claimed_number first mid new base name 2 number skips_first (omega (arith, small, count)) at_first found_first is name_put base_put in
    record {
      name_is = got.name_is ∙ (ap (λ h. free_name h (held_count first) base) same ∙ ap (λ n. free_name (is_held old) n base) count);
      held = λ t. got.held t ∙ ap (λ b. bytes_eq name t || b) (held_again old first base 2 again.puts taken t);
      count = omega (arith, got.count, count);
      skipping = got.skipping;
      fresh = sym (held_again old first base 2 again.puts taken name) ∙ got.fresh;
      form = got.form;
    }

-- the name is the one that the base takes
pub claimed_is_name : (old new : Held) (base name : List ℕ) → IsClaimed old new base name → IsClaimed old new base (claimed_name old base)
claimed_is_name old new base name c = subst (IsClaimed old new base) c.name_is c
