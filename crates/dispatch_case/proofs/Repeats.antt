-- Buffers that come twice.
use Rattle.std.proofs.Common.{◌≡◌, ◌<◌, ◌≤◌, ◌+◌, ℕ, zero, suc, Bool, true, false, ◌==◌, ◌&&◌, ◌||◌, List, [], ◌∷◌, ◌++◌, refl, ap, sym, ◌∙◌, add-one, arith, take, drop, get_or, length}
use Rattle.std.specs.List.{list_any}
use Rattle.std.proofs.lemmas.List.Folds.{list_any_more, list_any-append}
use Rattle.std.proofs.lemmas.List.{take-append-drop, take_all}
use Rattle.std.proofs.Math.Bool.{or-true}
use Rattle.list_law.proofs.Numbers.{turned}
use Rattle.list_law.proofs.Tests.{or_steps}
use Rattle.dispatch_case.specs.Cases.{Buffer, is_at, buffers_repeat}

same_place : (b c : Buffer) → is_at b.0 b.1 c ≡ is_at c.0 c.1 b
same_place b c = ap (λ t. t && (c.1 == b.1)) (turned c.0 b.0) ∙ ap (λ t. (b.0 == c.0) && t) (turned c.1 b.1)

-- one of the buffers is here
abbrev pub has_at : List Buffer → ℕ → ℕ → Bool
has_at bs set binding = list_any (is_at set binding) bs

pub has_at_more : (bs : List Buffer) (i set binding : ℕ) (d : Buffer) → i < length bs → has_at (take (i + 1) bs) set binding ≡ (has_at (take i bs) set binding || is_at set binding (get_or bs i d))
has_at_more bs i set binding d inside = list_any_more (is_at set binding) bs i d inside

repeats_more : (bs : List Buffer) (i : ℕ) (d : Buffer) → i < length bs → buffers_repeat (take (suc i) bs) ≡ (buffers_repeat (take i bs) || has_at (take i bs) (get_or bs i d).0 (get_or bs i d).1)
repeats_more [] i d inside = absurd (omega arith)
repeats_more (q ∷ bs) zero d inside = refl
repeats_more (q ∷ bs) (suc i) d inside =
    let within : i < length bs = omega arith in
    let b : Buffer = get_or bs i d in
    ap (λ (t : Bool). t || buffers_repeat (take (suc i) bs)) (ap (λ n. has_at (take n bs) q.0 q.1) (sym (add-one i)) ∙ has_at_more bs i q.0 q.1 d within)
    ∙ ap (λ (t : Bool). (has_at (take i bs) q.0 q.1 || is_at q.0 q.1 b) || t) (repeats_more bs i d within)
    ∙ or_steps (has_at (take i bs) q.0 q.1) (is_at q.0 q.1 b) (buffers_repeat (take i bs)) (has_at (take i bs) b.0 b.1) (is_at b.0 b.1 q) (same_place q b)

repeats_append : (xs ys : List Buffer) → buffers_repeat xs ≡ true → buffers_repeat (xs ++ ys) ≡ true
repeats_append [] ys h = cc
repeats_append (x ∷ xs) ys h =
    rw (list_any-append (is_at x.0 x.1) xs ys)
    ((elim (has_at xs x.0 x.1) as (λ b. (b || buffers_repeat xs) ≡ true → ((b || has_at ys x.0 x.1) || buffers_repeat (xs ++ ys)) ≡ true) [
      | true ↦ λ e. refl
      | false ↦ λ e. ap (λ (b : Bool). has_at ys x.0 x.1 || b) (repeats_append xs ys e) ∙ or-true (has_at ys x.0 x.1)
    ]) h)

repeats_front : (i : ℕ) (bs : List Buffer) → buffers_repeat (take i bs) ≡ true → buffers_repeat bs ≡ true
repeats_front i bs h = ap buffers_repeat (sym (take-append-drop i bs)) ∙ repeats_append (take i bs) (drop i bs) h

-- the next buffer is none of those before
pub no_repeat : (bs : List Buffer) (i : ℕ) (d : Buffer) → i < length bs → buffers_repeat (take i bs) ≡ false → has_at (take i bs) (get_or bs i d).0 (get_or bs i d).1 ≡ false → buffers_repeat (take (i + 1) bs) ≡ false
no_repeat bs i d inside none new = ap (λ k. buffers_repeat (take k bs)) (add-one i) ∙ repeats_more bs i d inside ∙ ap (λ (b : Bool). b || has_at (take i bs) (get_or bs i d).0 (get_or bs i d).1) none ∙ new

-- the next buffer is one of those before
pub found_repeat : (bs : List Buffer) (i : ℕ) (d : Buffer) → i < length bs → has_at (take i bs) (get_or bs i d).0 (get_or bs i d).1 ≡ true → buffers_repeat bs ≡ true
found_repeat bs i d inside old = repeats_front (suc i) bs (repeats_more bs i d inside ∙ ap (λ (b : Bool). buffers_repeat (take i bs) || b) old ∙ or-true (buffers_repeat (take i bs)))

-- where none of the first comes twice and there are no others
pub none_repeats : (bs : List Buffer) (i : ℕ) → length bs ≤ i → buffers_repeat (take i bs) ≡ false → buffers_repeat bs ≡ false
none_repeats bs i all none = ap buffers_repeat (sym (take_all i bs all)) ∙ none
