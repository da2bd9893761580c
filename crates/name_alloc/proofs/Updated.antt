-- The numbers of a space's names, by their text, after one is put.
use Rattle.std.proofs.Common.{◌≡◌, ℕ, Bool, true, false, List, Option, bytes_eq, sym, ◌∙◌, subst, inl, inr}
use Rattle.std.specs.Map.{update, lookup, IsKeyTest, AreApart, KeepsOthers}
use Rattle.std.specs.HashMap.{UpdatesBy}
use Rattle.std.specs.Cmp.Lexicographic.{bytes_decides, nat_list_eq_equiv}
use Rattle.std.proofs.lemmas.Bool.{cases_Bool}
use Rattle.glsl_ast.specs.View.{name_text}
use Rattle.glsl_ast.specs.declared.names.Name.{Name}
use Rattle.name_alloc.specs.Taken.{Held, number_at}

abbrev same_name : Name → Name → Bool
same_name a b = bytes_eq (name_text a) (name_text b)

others_stay : (test : Name → Bool) (old new : List (Name × ℕ)) → KeepsOthers same_name test old new → (other : Name → Bool) → IsKeyTest same_name other → AreApart test other → lookup other new ≡ lookup other old
unfolding KeepsOthers
others_stay test old new h = h

apart : (text other word : List ℕ) → bytes_eq text other ≡ false → bytes_eq text word ≡ true → bytes_eq other word ≡ false
apart text other word n y = nat_list_eq_equiv.symm other word ∙ sym (nat_list_eq_equiv.congr text word other y) ∙ n

pub name_updates : (old new : Held) (text : List ℕ) (number : Option ℕ) → UpdatesBy same_name (λ k. bytes_eq text (name_text k)) old new number → (other : List ℕ) → number_at new other ≡ update bytes_eq (number_at old) text number other
name_updates old new text number h other =
    elim (cases_Bool (bytes_eq text other)) [
      | inl y ↦ rw y (subst (λ t. number_at new t ≡ number) ((bytes_decides text other).0 y) h.1)
      | inr n ↦ rw n (others_stay _ _ _ h.3 (λ k. bytes_eq other (name_text k)) (λ x y. nat_list_eq_equiv.congr other (name_text x) (name_text y)) (λ k. apart text other (name_text k) n))
    ]
