-- What an invocation is told, once more.
use Rattle.std.proofs.Common.{◌≡◌, ◌&&◌, true, false, List, [], ◌∷◌, refl, map}
use Rattle.std.specs.Prelude.{Some, slice_get}
use Rattle.list_law.proofs.Tests.{and_left, and_right}
use Rattle.spv_types.specs.Tree.{ValueTree, word, many, no_values, value}
use Rattle.spv_types.specs.View.{value_of}
use Rattle.group_items.specs.declared.runner.Invocation.{Invocation}
use Rattle.group_items.specs.Sides.{word_in, triple_in, three, keys_repeat, IsWhole}
use Rattle.spv_run.specs.Whole.{is_three, is_word, have_shape}

three_is : (v : ValueTree) → is_three v ≡ true → v ≡ three (triple_in (Some v))
three_is (many (value (word a) (value (word b) (value (word c) no_values)))) h = refl
three_is _ h = cc

word_is : (v : ValueTree) → is_word v ≡ true → v ≡ word (word_in (Some v))
word_is (word w) h = refl
word_is _ h = cc

shape_is : (vs : List ValueTree) → have_shape vs ≡ true → vs ≡ three (triple_in (slice_get vs 0)) ∷ three (triple_in (slice_get vs 1)) ∷ three (triple_in (slice_get vs 2)) ∷ three (triple_in (slice_get vs 3)) ∷ word (word_in (slice_get vs 4)) ∷ []
shape_is (a ∷ b ∷ c ∷ d ∷ e ∷ []) h =
    let behind_a = and_right (is_three a) (is_three b && (is_three c && (is_three d && is_word e))) h in
    let behind_b = and_right (is_three b) (is_three c && (is_three d && is_word e)) behind_a in
    let behind_c = and_right (is_three c) (is_three d && is_word e) behind_b in
    λ j.
    three_is a (and_left (is_three a) (is_three b && (is_three c && (is_three d && is_word e))) h) j
    ∷ three_is b (and_left (is_three b) (is_three c && (is_three d && is_word e)) behind_a) j
    ∷ three_is c (and_left (is_three c) (is_three d && is_word e) behind_b) j
    ∷ three_is d (and_left (is_three d) (is_word e) behind_c) j
    ∷ word_is e (and_right (is_three d) (is_word e) behind_c) j
    ∷ []
shape_is _ h = cc

pub whole_of : (v : Invocation) → have_shape (map value_of v.builtins.items) ≡ true → keys_repeat v.sizes.items ≡ false → IsWhole v
whole_of v shape sizes = record { values = shape_is (map value_of v.builtins.items) shape; sizes = sizes }
