-- Counts of invocations.
use Rattle.std.proofs.Common.{◌≡◌, ℕ, ◌<◌, ◌≤◌, ◌*◌, ◌/◌, ◌%◌, arith}
use Rattle.std.proofs.Math.Nat.{le-mul_of_pos_right, mul_comm, mul-le-mul, mul-pos, mod-le, div-le_self}

-- what is too many stays so
pub past_left : (x n : ℕ) → 0 < x → 1024 < n → 1024 < x * n
past_left x n some past =
    let more : n ≤ n * x = le-mul_of_pos_right n some in
    let same : n * x ≡ x * n = mul_comm n x in
    omega (arith, past, more, same)

pub past_right : (x n : ℕ) → 0 < x → 1024 < n → 1024 < n * x
past_right x n some past =
    let more : n ≤ n * x = le-mul_of_pos_right n some in
    omega (arith, past, more)

-- products of small numbers
pub small_product : (x y : ℕ) → x ≤ 1024 → y ≤ 1024 → x * y ≤ 1048576
small_product x y a b = mul-le-mul a b

pub some_product : (x y : ℕ) → 0 < x → 0 < y → 0 < x * y
some_product x y a b = mul-pos a b

pub small_mod : (n m : ℕ) → n ≤ 1024 → n % m ≤ 1024
small_mod n m h = let less : n % m ≤ n = mod-le n m in omega (arith, h, less)

pub small_div : (n m : ℕ) → n ≤ 1024 → n / m ≤ 1024
small_div n m h = let less : n / m ≤ n = div-le_self n m in omega (arith, h, less)

pub ruleset count_rules = (past_left, past_right, small_product, some_product, small_mod, small_div)
