-- Sets of pairs of numbers, as they grow.
use Rattle.std.proofs.Common.{◌≡◌, ◌<◌, ◌+◌, ℕ, Bool, true, false, ◌||◌, List, ap, sym, ◌∙◌, subst, arith, cond, take, get_or, length}
use Rattle.std.specs.Ordering.{nat_cmp, ordering_then}
use Rattle.std.specs.declared.cmp.Ordering.{Ordering}
use Rattle.std.specs.BTreeMap.{is_at}
use Rattle.list_law.proofs.Numbers.{order_pairs}
use Rattle.dispatch_case.specs.Cases as case
use Rattle.dispatch_case.specs.Cases.{Buffer, buffers_repeat}
use Rattle.dispatch_case.proofs.Repeats.{has_at, has_at_more, no_repeat, found_repeat}

abbrev pub pair_cmp : ℕ × ℕ → ℕ × ℕ → Ordering
pair_cmp x y = ordering_then (nat_cmp x.0 y.0) (nat_cmp x.1 y.1)

or_by : (t old : Bool) → cond t true old ≡ (old || t)
or_by t old = grind arith

-- a buffer more
module _ (bs : List Buffer) (i : ℕ) (b : Buffer) (inside : i < length bs) (is : b ≡ get_or bs i b) where
  pub set_more : (set binding : ℕ) (new old : Bool) → new ≡ cond (is_at (pair_cmp (b.0, b.1)) (set, binding)) true old → old ≡ has_at (take i bs) set binding → new ≡ has_at (take (i + 1) bs) set binding
  set_more set binding new old put was =
      put
      ∙ ap (λ t. cond t true old) (order_pairs (b.0, b.1) (set, binding))
      ∙ or_by (case.is_at set binding b) old
      ∙ ap (λ t. t || case.is_at set binding b) was
      ∙ ap (λ (x : Buffer). has_at (take i bs) set binding || case.is_at set binding x) is
      ∙ sym (has_at_more bs i set binding b inside)

  pub apart_more : buffers_repeat (take i bs) ≡ false → has_at (take i bs) b.0 b.1 ≡ false → buffers_repeat (take (i + 1) bs) ≡ false
  apart_more none new = no_repeat bs i b inside none (subst (λ (x : Buffer). has_at (take i bs) x.0 x.1 ≡ false) is new)

  pub twice_at : has_at (take i bs) b.0 b.1 ≡ true → buffers_repeat bs ≡ true
  twice_at old = found_repeat bs i b inside (subst (λ (x : Buffer). has_at (take i bs) x.0 x.1 ≡ true) is old)
