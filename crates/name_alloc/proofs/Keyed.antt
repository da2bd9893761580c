-- When two keys are one.
use Rattle.std.proofs.Common.{rules, ◌≡◌, true, arith}
use Rattle.std.proofs.lemmas.Bool.Decides.{nat_tests}
use Rattle.name_alloc.specs.Keys.{same_key}
use Rattle.name_alloc.specs.declared.claims.Key.{Key}
use Rattle.name_alloc.specs.contracts.claims.KeyPartialEq.TheImpl as key_eq

-- `==` tells
eq_is : (a b : Key) → key_eq.ghosts.eq a b ≡ same_key a b
eq_is a b = search rules

pub eq_same : key_eq.ghosts.eq ≡ same_key
eq_same = λ i a b. eq_is a b i

pub key_tells : (a b : Key) → same_key a b ≡ true → a ≡ b
key_tells a b h = grind (arith, nat_tests, h)

pub key_own : (a : Key) → same_key a a ≡ true
key_own a = search (rules, nat_tests)
