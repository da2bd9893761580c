-- What is so of any tests.
use Rattle.std.proofs.Common.{◌≡◌, ◌||◌, ◌&&◌, not, Bool, true, false, refl, sym, arith}

-- in another order
pub or_steps : (a d r b e : Bool) → d ≡ e → ((a || d) || (r || b)) ≡ ((a || r) || (e || b))
or_steps a d r b e same = grind (arith, same)

-- without what does not hold
pub or_alone : (a b : Bool) → b ≡ false → (a || b) ≡ a
or_alone true b off = refl
or_alone false b off = off

-- tests of which each tells the other
pub same_tests : (a b : Bool) → (a ≡ true → b ≡ true) → (b ≡ true → a ≡ true) → a ≡ b
same_tests true b there back = sym (there refl)
same_tests false true there back = back refl
same_tests false false there back = refl

-- a test that holds and does not
pub not_both : (b : Bool) → b ≡ true → b ≡ false → ⊥
not_both true on off = cc
not_both false on off = cc

pub no_flip : {A : Type 0} (b : Bool) → b ≡ true → b ≡ false → A
no_flip b on off = absurd (not_both b on off)

pub clash : {A : Type 0} → true ≡ false → A
clash e = cc

pub off_on : {A : Type 0} → false ≡ true → A
off_on e = cc

-- both of two
pub and_left : (a b : Bool) → (a && b) ≡ true → a ≡ true
and_left true b e = refl
and_left false b e = cc

pub and_right : (a b : Bool) → (a && b) ≡ true → b ≡ true
and_right true b e = e
and_right false b e = cc

pub and_off : (a b : Bool) → (a && b) ≡ false → a ≡ true → b ≡ false
and_off true b e on = e
and_off false b e on = cc

pub and_none : (b : Bool) → (b && false) ≡ false
and_none true = refl
and_none false = refl

-- the one, of which the other does not hold
pub but_not : (a b : Bool) → a ≡ true → (a && not b) ≡ false → b ≡ true
but_not true true on off = refl
but_not true false on off = cc
but_not false b on off = cc

-- one of two
pub or_left : (a b : Bool) → (a || b) ≡ false → a ≡ false
or_left true b e = cc
or_left false b e = refl

pub or_right : (a b : Bool) → (a || b) ≡ false → b ≡ false
or_right true b e = cc
or_right false b e = e

pub or_true : (b : Bool) → (b || true) ≡ true
or_true true = refl
or_true false = refl

pub second_by : (a b : Bool) → (a || b) ≡ true → a ≡ false → b ≡ true
second_by true b e off = cc
second_by false b e off = e

pub first_by : (a b : Bool) → (a || b) ≡ true → b ≡ false → a ≡ true
first_by true b e off = refl
first_by false b e off = cc

pub neither : (a b : Bool) → a ≡ false → b ≡ false → (a || b) ≡ true → ⊥
neither true b off none on = cc
neither false true off none on = cc
neither false false off none on = cc

pub unless : (a b : Bool) → a ≡ false → (not a || b) ≡ true
unless true b off = cc
unless false b off = refl

-- the first of each of three pairs
pub common : (v a b c : Bool) → ((v && a) || ((v && b) || (v && c))) ≡ true → v ≡ true
common true a b c on = refl
common false a b c on = cc

-- in other order
pub and_turned : (a b : Bool) → (a && b) ≡ (b && a)
and_turned true true = refl
and_turned true false = refl
and_turned false true = refl
and_turned false false = refl
