-- What a report tells of the size of workgroups.
use Rattle.std.specs.Prelude.{ℕ, ◌==◌, ◌&&◌, not, List, [], ◌∷◌, Option, Some, None, find, map, option_map}
use Rattle.glsl_ast.specs.declared.items.Size.{Size}
use Rattle.serde_json.specs.Data.{Data, null, number, unsigned, array}
use Rattle.serde_json.specs.View.{items_of}

-- the number of the part along an axis, the default where a specialization constant gives it
abbrev pub number_at : List Size → ℕ → Option ℕ
number_at ss axis = option_map (λ (s : Size). s.number) (find (λ (s : Size). not s.by_id && (s.axis == axis)) ss)

-- the SpecId of the part along an axis, where it has one
abbrev pub id_at : List Size → ℕ → Option ℕ
id_at ss axis = option_map (λ (s : Size). s.number) (find (λ (s : Size). s.by_id && (s.axis == axis)) ss)

abbrev pub number_or_null : Option ℕ → Data
number_or_null None = null
number_or_null (Some n) = number (unsigned n)

abbrev pub array_of : List Data → Data
array_of ds = array (items_of ds)

abbrev pub axes : List ℕ
axes = 0 ∷ 1 ∷ 2 ∷ []

abbrev pub size_data : List Size → Data
size_data ss = array_of (map (λ axis. number_or_null (number_at ss axis)) axes)

abbrev pub size_ids_data : List Size → Data
size_ids_data ss = array_of (map (λ axis. number_or_null (id_at ss axis)) axes)
