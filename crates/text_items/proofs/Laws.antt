-- What is held of what is written.
use Rattle.std.proofs.Common.{◌≡◌, ℕ, Bool, List, ap, ◌∙◌}
use Rattle.std.specs.List.{list_any}
use Rattle.id_map.specs.Entries.{is_in}
use Rattle.id_map.specs.declared.set.IdSet.{IdSet}
use Rattle.spv_module.specs.declared.inst.Function.{Function}
use Rattle.text_rules.specs.Constants.{Source}
use Rattle.text_rules.specs.Printed.{is_operand_in, is_needed, needed_from, type_has_struct}
use Rattle.text_items.specs.State.{needed_first, types_by, IsHeld}

pub holding : (s : Source) (fs : List Function) (types mentions : List ℕ) (ids constants structs : IdSet)
    → ((id : ℕ) → is_in ids id ≡ is_operand_in fs id)
    → ((id : ℕ) → is_in constants id ≡ needed_from s (needed_first s (is_in ids) mentions) s.of.globals id)
    → ((id : ℕ) → is_in structs id ≡ list_any (type_has_struct s.of.globals id) (types_by s (is_in ids) (is_in constants) fs types))
    → IsHeld s (record { functions = fs; types = types; mentions = mentions }) ids constants structs
holding s fs types mentions ids constants structs operands needed typed =
    let first : is_in ids ≡ is_operand_in fs = λ i id. operands id i in
    let wanted : (id : ℕ) → is_in constants id ≡ is_needed s (record { functions = fs; types = types; mentions = mentions }) id =
    λ id. needed id ∙ ap (λ (f : ℕ → Bool). needed_from s (needed_first s f mentions) s.of.globals id) first in
    let second : is_in constants ≡ is_needed s (record { functions = fs; types = types; mentions = mentions }) = λ i id. wanted id i in
    record {
      operands = operands;
      needed = wanted;
      types = λ id. typed id ∙ (ap (λ (f : ℕ → Bool). list_any (type_has_struct s.of.globals id) (types_by s f (is_in constants) fs types)) first
          ∙ ap (λ (f : ℕ → Bool). list_any (type_has_struct s.of.globals id) (types_by s (is_operand_in fs) f fs types)) second);
    }
