-- A text that is written behind another.
use Rattle.std.proofs.Common.{ℕ, ◌≡◌, ◌+◌, ◌++◌, take, length, List, refl, ap, sym, subst, ◌∙◌, arith, length-append, take_at, IsUtf8}
use Rattle.std.proofs.lemmas.Slice.{take-put_mid}
use Rattle.std.proofs.lemmas.Str.{IsUtf8-append}
use borrow.Rule.Slice.PartMut.{put_mid}

pub written_behind : (front back rest : List ℕ) (k : ℕ) → take (length front + length back) (put_mid (length front) k (front ++ rest) back) ≡ front ++ back
written_behind front back rest k =
    take-put_mid (length front) k (front ++ rest) back (length front + length back) refl (omega (arith, length-append front rest))
    ∙ ap (λ l. l ++ back) (take_at front rest (length front) refl)

utf8_written : (front back rest : List ℕ) (k : ℕ) → IsUtf8 front → IsUtf8 back → IsUtf8 (take (length front + length back) (put_mid (length front) k (front ++ rest) back))
utf8_written front back rest k f b = subst IsUtf8 (sym (written_behind front back rest k)) (IsUtf8-append front back f b)

pub utf8_behind : (front back first second rest : List ℕ) (k : ℕ) → first ≡ front → second ≡ back → IsUtf8 front → IsUtf8 back
    → IsUtf8 (take (length front + length back) (put_mid (length front) k (first ++ rest) second))
utf8_behind front back first second rest k p q f b =
    subst (λ l. IsUtf8 (take (length front + length back) (put_mid (length front) k (l ++ rest) second))) (sym p)
    (subst (λ l. IsUtf8 (take (length front + length back) (put_mid (length front) k (front ++ rest) l))) (sym q) (utf8_written front back rest k f b))
