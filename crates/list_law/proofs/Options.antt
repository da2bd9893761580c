-- What is so of any options.
use Rattle.std.proofs.Common.{◌≡◌, Bool, true, false, Option, Some, None, ℕ, refl}
use Rattle.std.specs.Prelude.{is_some, is_none, option_and_then, unwrap_or}
use Rattle.std.specs.Option.{option_map_or, option_or}

-- none by a test
pub none_unless : {A : Type 0} (o : Option A) → is_some o ≡ false → o ≡ None
none_unless None e = refl
none_unless (Some a) e = cc

pub none_by : {A : Type 0} (o : Option A) → is_none o ≡ true → o ≡ None
none_by None e = refl
none_by (Some a) e = cc

-- the first of two
pub or_none : {A : Type 0} (o : Option A) → option_or o None ≡ o
or_none None = refl
or_none (Some a) = refl

pub or_some : {A : Type 0} (o p : Option A) → is_some o ≡ true → option_or o p ≡ o
or_some None p e = cc
or_some (Some a) p e = refl

-- the rest

pub none_some : {A B : Type 0} {x : A} → None ≡ Some x → B
none_some e = cc

pub no_some : {A B : Type 0} (x : A) → None ≡ Some x → B
no_some x e = cc

pub none_or_some : {A : Type 0} (o : Option A) (x : A) → o ≡ None → o ≡ Some x → ⊥
none_or_some None x none some = cc
none_or_some (Some y) x none some = cc

pub some_of : {A : Type 0} (o : Option A) → is_some o ≡ true → (a : A) × (o ≡ Some a)
some_of None e = cc
some_of (Some a) e = (a, refl)

pub some_by : {A : Type 0} (test : A → Bool) (o : Option A) → option_map_or test o false ≡ true → (a : A) × (o ≡ Some a) × (test a ≡ true)
some_by test None e = cc
some_by test (Some a) e = (a, refl, e)

pub some_part : {A B : Type 0} (f : A → Option B) (o : Option A) (b : B) → option_and_then f o ≡ Some b → (a : A) × (o ≡ Some a) × (f a ≡ Some b)
some_part f None b e = cc
some_part f (Some a) b e = (a, refl, e)

pub some_number : (o : Option ℕ) → is_some o ≡ true → o ≡ Some (unwrap_or o 0)
some_number None e = cc
some_number (Some n) e = refl

pub some_unwrapped : {A : Type 0} (f : ℕ → Option A) (o : Option ℕ) (a : A) → option_and_then f o ≡ Some a → f (unwrap_or o 0) ≡ Some a
some_unwrapped f None a e = cc
some_unwrapped f (Some n) a e = e
