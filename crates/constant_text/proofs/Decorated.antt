-- Without a decoration SpecId no id has a SpecId.
use Rattle.std.proofs.Common.{◌≡◌, ◌==◌, ◌&&◌, ℕ, true, false, List, [], ◌∷◌, None, refl, ap, find, option_map}
use Rattle.std.specs.List.{list_any}
use Rattle.std.specs.Option.{option_map_or}
use Rattle.std.proofs.lemmas.Bool.{and_right}
use Rattle.list_law.proofs.Tests.{or_left, or_right}
use Rattle.spv_ops.specs.Opcode.{is, number}
use Rattle.spv_ops.specs.Enumerants.{decoration_number}
use Rattle.spv_ops.specs.declared.Op.{Op}
use Rattle.spv_ops.specs.declared.Op.TheVariants as code
use Rattle.spv_ops.specs.declared.Decoration.TheVariants as decoration
use Rattle.spv_module.specs.declared.inst.Inst.{Inst}
use Rattle.spv_decor.specs.Rows.{Key, is_same, key_by, key_of, has_key, word}
use Rattle.profile_rules.specs.Constants.{spec_id}
use Rattle.constant_text.specs.SpecIds.{is_spec_id_row}

-- what a row about a SpecId is about
abbrev spec_id_key : ℕ → Key
spec_id_key id = (number code.Decorate, id, 0, decoration_number decoration.SpecId)

key_apart : (o : Op) (i : Inst) (id : ℕ) → (is o code.Decorate && (word i 1 == decoration_number decoration.SpecId)) ≡ false → option_map_or (λ other. is_same other (spec_id_key id)) (key_by o i) false ≡ false
unfolding number
key_apart code.Decorate i id absent = and_right ((word i 0 == id) && true) (word i 1 == 1) absent
key_apart o i id absent = refl

row_apart : (i : Inst) (id : ℕ) → is_spec_id_row i ≡ false → has_key (spec_id_key id) i ≡ false
unfolding key_of
row_apart i id absent = key_apart i.op i id absent

no_row : (heads : List Inst) (id : ℕ) → list_any is_spec_id_row heads ≡ false → find (has_key (spec_id_key id)) heads ≡ None
no_row [] id absent = refl
no_row (i ∷ heads) id absent =
    let first : is_spec_id_row i ≡ false = or_left (is_spec_id_row i) (list_any is_spec_id_row heads) absent in
    let rest : list_any is_spec_id_row heads ≡ false = or_right (is_spec_id_row i) (list_any is_spec_id_row heads) absent in
    rw (row_apart i id first) (no_row heads id rest)

pub no_spec_id : (heads : List Inst) (id : ℕ) → list_any is_spec_id_row heads ≡ false → spec_id heads id ≡ None
no_spec_id heads id absent = ap (option_map (λ (i : Inst). word i 2)) (no_row heads id absent)
