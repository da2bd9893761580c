-- What the bounds of a case give.
use Rattle.std.proofs.Common.{◌≡◌, ℕ, ◌<◌, ◌≤◌, ◌*◌, ◌&&◌, true, false, not, ◌∙◌, subst, arith, nat_le, map}
use Rattle.std.proofs.Math.Nat.{le-mul_of_pos_right, mul_comm, mul-pos}
use Rattle.std.proofs.lemmas.Bool.Decides.{nat_tests}
use Rattle.std.specs.List.{list_all}
use Rattle.std.proofs.lemmas.Bool.{not-true}
use Rattle.list_law.proofs.Tests.{and_left, and_right}
use Rattle.traces.specs.Invocations.{Triple}
use Rattle.dispatch_semantics.specs.Grid.{product}
use Rattle.group_items.specs.Sides.{keys_repeat}
use Rattle.dispatch_case.specs.Cases.{CaseParts, Buffer, is_side, is_short, are_groups, are_buffers, buffers_repeat, is_fine}
use Rattle.group_sched.specs.Sides.{AreAbove, AreSmall}
use Rattle.group_sched.specs.Start.{size_of}
use Rattle.group_sched.proofs.Beginning.{repeats_same}

side_above : (n : ℕ) → is_side n ≡ true → 0 < n
side_above n h = let low : nat_le 1 n ≡ true = and_left (nat_le 1 n) (nat_le n 1024) h in grind (arith, nat_tests, low)

side_small : (n : ℕ) → is_side n ≡ true → n ≤ 1024
side_small n h = let high : nat_le n 1024 ≡ true = and_right (nat_le 1 n) (nat_le n 1024) h in grind (arith, nat_tests, high)

module _ (c : CaseParts) (fine : is_fine c ≡ true) where
  groups_fine : are_groups c.groups ≡ true
  groups_fine = and_left (are_groups c.groups) _ fine

  x_fine : is_side c.groups.0 ≡ true
  x_fine = and_left (is_side c.groups.0) (is_side c.groups.1 && is_side c.groups.2) groups_fine

  y_fine : is_side c.groups.1 ≡ true
  y_fine = and_left (is_side c.groups.1) (is_side c.groups.2) (and_right (is_side c.groups.0) (is_side c.groups.1 && is_side c.groups.2) groups_fine)

  z_fine : is_side c.groups.2 ≡ true
  z_fine = and_right (is_side c.groups.1) (is_side c.groups.2) (and_right (is_side c.groups.0) (is_side c.groups.1 && is_side c.groups.2) groups_fine)

  pub groups_above : AreAbove c.groups
  groups_above = (side_above c.groups.0 x_fine, side_above c.groups.1 y_fine, side_above c.groups.2 z_fine)

  pub groups_small : AreSmall c.groups
  groups_small = (side_small c.groups.0 x_fine, side_small c.groups.1 y_fine, side_small c.groups.2 z_fine)

  buffers_fine : are_buffers c.buffers ≡ true
  buffers_fine = and_left (are_buffers c.buffers) _ (and_right (are_groups c.groups) _ fine)

  -- no buffer has two sizes
  pub sizes_apart : keys_repeat (map size_of c.buffers) ≡ false
  sizes_apart =
      repeats_same c.buffers
      ∙ not-true (buffers_repeat c.buffers) (and_right (list_all (λ (b : Buffer). is_short b.2) c.buffers) (not (buffers_repeat c.buffers)) buffers_fine)

pub product_above : (t : Triple) → AreAbove t → 0 < product t
product_above t a = mul-pos a.0 (mul-pos a.1 a.2)

-- a factor is at most the product
below_left : (x y : ℕ) → 0 < y → x ≤ x * y
below_left x y some = le-mul_of_pos_right x some

below_right : (x y : ℕ) → 0 < x → y ≤ x * y
below_right x y some = subst (λ p. y ≤ p) (mul_comm y x) (le-mul_of_pos_right y some)

-- the sides of workgroups are at most the number of invocations
module _ (g s : Triple) (above : AreAbove g) (sides : AreAbove s) (few : product g * product s ≤ 1024) where
  volume_small : product s ≤ 1024
  volume_small = let less : product s ≤ product g * product s = below_right (product g) (product s) (product_above g above) in omega (arith, less, few)

  plane_small : s.1 * s.2 ≤ 1024
  plane_small = let less : s.1 * s.2 ≤ s.0 * (s.1 * s.2) = below_right s.0 (s.1 * s.2) sides.0 in omega (arith, less, volume_small)

  x_small : s.0 ≤ 1024
  x_small = let less : s.0 ≤ s.0 * (s.1 * s.2) = below_left s.0 (s.1 * s.2) (mul-pos sides.1 sides.2) in omega (arith, less, volume_small)

  y_small : s.1 ≤ 1024
  y_small = let less : s.1 ≤ s.1 * s.2 = below_left s.1 s.2 sides.2 in omega (arith, less, plane_small)

  z_small : s.2 ≤ 1024
  z_small = let less : s.2 ≤ s.1 * s.2 = below_right s.1 s.2 sides.1 in omega (arith, less, plane_small)

  pub sides_small : AreSmall s
  sides_small = (x_small, y_small, z_small)
