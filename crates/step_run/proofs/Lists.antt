-- Values of three parts.
use Rattle.std.proofs.Common.{◌≡◌, List, [], ◌∷◌, refl, ap, map}
use Rattle.std.specs.Prelude.{Some, slice_get}
use Rattle.spv_module.specs.declared.tree.Value.{Value}
use Rattle.spv_types.specs.Tree.{ValueTree, many, values_in}
use Rattle.spv_types.specs.View.{value_of}
use Rattle.op_semantics.specs.Component.{listed}
use Rattle.group_items.specs.Sides.{word_in, triple_in}

listed_values : (vs : List ValueTree) → listed (values_in vs) ≡ vs
listed_values [] = refl
listed_values (v ∷ vs) = ap (λ rest. v ∷ rest) (listed_values vs)

pub triple_listed : (vs : List Value) → triple_in (Some (many (values_in (map value_of vs)))) ≡ (word_in (slice_get (map value_of vs) 0), word_in (slice_get (map value_of vs) 1), word_in (slice_get (map value_of vs) 2))
triple_listed vs = ap (λ l. (word_in (slice_get l 0), word_in (slice_get l 1), word_in (slice_get l 2))) (listed_values (map value_of vs))
