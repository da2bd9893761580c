-- What contracts see of what is written.
use Rattle.std.specs.Prelude.{ℕ, ◌≡◌, ◌==◌, ◌++◌, ◌&&◌, ◌||◌, Bool, true, List, filter, flat_map, map}
use Rattle.std.specs.Borrow.{Bor}
use Rattle.std.specs.List.{list_any}
use Rattle.id_map.specs.Entries.{is_in}
use Rattle.id_map.specs.declared.set.IdSet.{IdSet}
use Rattle.spv_ops.specs.Enumerants.{class_number}
use Rattle.spv_ops.specs.declared.StorageClass.TheVariants as storage
use Rattle.spv_module.specs.declared.inst.Inst.{Inst}
use Rattle.spv_module.specs.declared.inst.Function.{Function}
use Rattle.text_items.specs.declared.live.Live.{Live}
use Rattle.text_rules.specs.Constants.{Source}
use Rattle.text_rules.specs.Printed.{Reached, is_private, is_workgroup, is_block_variable, is_operand_in, has_operand, is_length_of, declares, is_needed, type_has_struct, written_types}
use Rattle.profile_rules.specs.TypeForm.{signature}

-- what is translated, and what of its functions is written
pub record WrittenState : Type 0 where
  pub source : Source
  pub reached : Reached

abbrev pub functions_at : List (Bor Function) → List Function
functions_at fs = map (λ (f : Bor Function). f.now) fs

abbrev pub reached_of : List (Bor Function) → Live → Reached
reached_of fs live = record { functions = functions_at fs; types = live.types.items; mentions = live.mentions.items }

-- the variables of these classes are written
abbrev pub is_written_class : ℕ → Bool
is_written_class n =
    (n == class_number storage.Private) || ((n == class_number storage.Workgroup) || ((n == class_number storage.Uniform) || ((n == class_number storage.PushConstant) || (n == class_number storage.StorageBuffer))))

-- a variable is written that is among these, the operands in functions
abbrev pub is_written_by : (ℕ → Bool) → Inst → Bool
is_written_by operand_ids g = (is_private g || (is_workgroup g || is_block_variable g)) && operand_ids g.result

-- of itself, without the other constants, the text needs the constant with this id, where these are the operands in functions, and live instructions mention those
abbrev pub needed_first : Source → (ℕ → Bool) → List ℕ → ℕ → Bool
needed_first s operand_ids mentions id =
    list_any (λ (n : ℕ). n == id) mentions ||
    (list_any (is_length_of id) s.of.globals ||
    list_any (λ (g : Inst). is_private g && (is_written_by operand_ids g && has_operand g id)) s.of.globals)

-- the types of what is written, where these are the operands in functions, the text needs these constants, and live instructions have results of those types
abbrev pub types_by : Source → (ℕ → Bool) → (ℕ → Bool) → List Function → List ℕ → List ℕ
types_by s operand_ids needed fs types =
    map (λ (g : Inst). g.ty) (filter (λ g. is_written_by operand_ids g || declares s needed g) s.of.globals) ++
    (flat_map signature fs ++ types)

-- something that is written has the struct with this id
abbrev pub has_type : Source → Reached → ℕ → Bool
has_type s r id = list_any (type_has_struct s.of.globals id) (written_types s r)

-- the operands in functions, the constants that the text needs, and the structs of what is written
pub record IsHeld (s : Source) (r : Reached) (ids constants structs : IdSet) : Type 0 where
  pub operands : (id : ℕ) → is_in ids id ≡ is_operand_in r.functions id
  pub needed : (id : ℕ) → is_in constants id ≡ is_needed s r id
  pub types : (id : ℕ) → is_in structs id ≡ has_type s r id

-- the structs of the types that were gone through are found
pub record HasThose (gs : List Inst) (seen found : IdSet) : Type 0 where
  pub each : (ty id : ℕ) → is_in seen ty ≡ true → type_has_struct gs id ty ≡ true → is_in found id ≡ true
