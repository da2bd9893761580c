-- What each element of a list gives, one after another.
use Rattle.std.proofs.Common.{◌≡◌, ◌<◌, ◌+◌, ℕ, suc, List, [], ◌∷◌, ◌++◌, refl, ap, sym, ◌∙◌, add-one, length, drop, get_or, map}
use Rattle.std.specs.Prelude.{Option, Some, None, option_map}
use Rattle.std.proofs.Math.Seq.{drop-cons}
use Rattle.std.proofs.lemmas.Option.{same_Some}
use Rattle.run_operands.proofs.Operands.{pushed}
use Rattle.op_semantics.specs.Component.{before, each_one}

module _ {A B : Type 0} (f : A → Option B) (xs : List A) (i : ℕ) (x : A) (inside : i < length xs) (is : x ≡ get_or xs i x) where
  each_at : each_one f (drop i xs) ≡ before (f x) (each_one f (drop (i + 1) xs))
  each_at =
      ap (each_one f) (drop-cons xs i x inside)
      ∙ ap (λ y. before (f y) (each_one f (drop (suc i) xs))) (sym is)
      ∙ ap (λ n. before (f x) (each_one f (drop n xs))) (sym (add-one i))

  -- what was found so far, up to one that gives nothing, and with one more
  pub none_at : (vs : List B) → None ≡ f x → option_map (λ (rest : List B). vs ++ rest) (each_one f (drop i xs)) ≡ each_one f xs → None ≡ each_one f xs
  none_at vs none whole = sym (ap (option_map (λ (rest : List B). vs ++ rest)) (each_at ∙ ap (λ o. before o (each_one f (drop (i + 1) xs))) (sym none))) ∙ whole

  pub more_at : (vs : List B) (v : B) → Some v ≡ f x → option_map (λ (rest : List B). vs ++ rest) (each_one f (drop i xs)) ≡ each_one f xs → option_map (λ (rest : List B). (vs ++ v ∷ []) ++ rest) (each_one f (drop (i + 1) xs)) ≡ each_one f xs
  more_at vs v some whole =
      pushed vs v (each_one f (drop (i + 1) xs))
      ∙ ap (λ o. option_map (λ (rest : List B). vs ++ rest) (before o (each_one f (drop (i + 1) xs)))) some
      ∙ ap (option_map (λ (rest : List B). vs ++ rest)) (sym each_at)
      ∙ whole

mapped_before : {B C : Type 0} (g : B → C) (o : Option B) (rest : Option (List B)) → before (option_map g o) (option_map (map g) rest) ≡ option_map (map g) (before o rest)
mapped_before g None rest = refl
mapped_before g (Some b) None = refl
mapped_before g (Some b) (Some bs) = refl

-- there are as many as in the list
long_before : {B : Type 0} (o : Option B) (r : Option (List B)) (n : ℕ) (ys : List B) → Some ys ≡ before o r → ((zs : List B) → Some zs ≡ r → length zs ≡ n) → length ys ≡ suc n
long_before None r n ys h rest = cc
long_before (Some b) None n ys h rest = cc
long_before (Some b) (Some bs) n ys h rest = ap length (same_Some ys (b ∷ bs) h) ∙ ap suc (rest bs refl)

pub each_long : {A B : Type 0} (f : A → Option B) (xs : List A) (ys : List B) → Some ys ≡ each_one f xs → length ys ≡ length xs
each_long f [] ys h = ap length (same_Some ys [] h)
each_long f (x ∷ xs) ys h = long_before (f x) (each_one f xs) (length xs) ys h (each_long f xs)

-- what each gives, changed by g
pub each_mapped : {A B C : Type 0} (f : A → Option B) (g : B → C) (xs : List A) → each_one (λ x. option_map g (f x)) xs ≡ option_map (map g) (each_one f xs)
each_mapped f g [] = refl
each_mapped f g (x ∷ xs) = ap (before (option_map g (f x))) (each_mapped f g xs) ∙ mapped_before g (f x) (each_one f xs)

pub none_mapped : {A B : Type 0} (g : A → B) (o : Option A) → None ≡ option_map g o → None ≡ o
none_mapped g None h = refl
none_mapped g (Some a) h = cc
