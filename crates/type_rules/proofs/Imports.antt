-- The imports found by id, with one more row.
use Rattle.std.proofs.Common.{◌≡◌, ◌==◌, ◌&&◌, ◌<◌, ◌+◌, ℕ, true, false, List, length, take, get_or, Some, None, Option, cond, ap, sym, ◌∙◌, option_map}
use Rattle.std.specs.List.{find}
use Rattle.std.specs.Option.{option_or}
use Rattle.list_law.proofs.Options.{or_none}
use Rattle.spv_ops.specs.Opcode.{is}
use Rattle.spv_ops.specs.declared.Op.TheVariants as code
use Rattle.spv_module.specs.declared.inst.Inst.{Inst}
use Rattle.spv_index.proofs.First.{find_more, map_or, map_entry}
use Rattle.profile_rules.specs.Operands.{is_import_row}
use Rattle.type_rules.specs.Indexed.{or_entry}

at_by : Inst → ℕ
at_by i = i.at

-- the word of the import with this id
abbrev found : List Inst → ℕ → Option ℕ
found heads id = option_map (λ (i : Inst). i.at) (find (is_import_row id) heads)

found_more : (heads : List Inst) (i : ℕ) (x : Inst) (id : ℕ) → i < length heads → found (take (i + 1) heads) id ≡ option_or (found (take i heads) id) (cond (is_import_row id (get_or heads i x)) (Some (get_or heads i x).at) None)
found_more heads i x id inside =
    ap (option_map (λ (i : Inst). i.at)) (find_more (is_import_row id) heads i x inside)
    ∙ map_or (λ (i : Inst). i.at) (find (is_import_row id) (take i heads)) (cond (is_import_row id (get_or heads i x)) (Some (get_or heads i x)) None)
    ∙ ap (option_or (found (take i heads) id)) (map_entry (λ (i : Inst). i.at) (get_or heads i x) (is_import_row id (get_or heads i x)))

-- a row that is an import, and one that is none
pub import_more : (heads : List Inst) (i : ℕ) (x : Inst) (old new : ℕ → Option ℕ) → i < length heads → x ≡ get_or heads i x → (is x.op code.ExtInstImport) ≡ true → ((id : ℕ) → old id ≡ found (take i heads) id) → ((id : ℕ) → new id ≡ or_entry (old id) x.result x.at id) → (id : ℕ) → new id ≡ found (take (i + 1) heads) id
import_more heads i x old new inside own yes_it_is before now id =
    now id
    ∙ ap (λ o. or_entry o x.result x.at id) (before id)
    ∙ sym (found_more heads i x id inside ∙ ap (λ (y : Inst). option_or (found (take i heads) id) (cond (is_import_row id y) (Some y.at) None)) (sym own) ∙ ap (λ b. option_or (found (take i heads) id) (cond (b && (x.result == id)) (Some x.at) None)) yes_it_is)

pub other_more : (heads : List Inst) (i : ℕ) (x : Inst) (old : ℕ → Option ℕ) → i < length heads → x ≡ get_or heads i x → (is x.op code.ExtInstImport) ≡ false → ((id : ℕ) → old id ≡ found (take i heads) id) → (id : ℕ) → old id ≡ found (take (i + 1) heads) id
other_more heads i x old inside own no_it_is_not before id =
    before id
    ∙ sym (found_more heads i x id inside ∙ ap (λ (y : Inst). option_or (found (take i heads) id) (cond (is_import_row id y) (Some y.at) None)) (sym own) ∙ ap (λ b. option_or (found (take i heads) id) (cond (b && (x.result == id)) (Some x.at) None)) no_it_is_not ∙ or_none (found (take i heads) id))
