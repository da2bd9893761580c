-- A module of words that breaks no rule, as the laws ask it, by computation.
use Rattle.std.proofs.Common.{◌≡◌, ℕ, List, [], ◌∷◌, map, None, refl}
use Rattle.spv_words.specs.Words.{first_fault}
use Rattle.spv_words.specs.declared.rule.Rule.{Rule}
use Rattle.spv_ops.specs.Opcode.{op_of, number}
use Rattle.spv_ops.specs.OpGroups.{group_of, takes_of}
use Rattle.spv_ops.specs.Operands.{is_id, inner_of}
use Rattle.spv_ops.specs.Shape.{shape}
use Rattle.spv_module.specs.Inst.{known}
use Rattle.spv_module.specs.Kinds.{kind_of_op, kind_of_opcode}
use Rattle.spv_module.specs.Lists.{module_of}
use Rattle.spv_decor.specs.Rows.{key_of}
use Rattle.spv_types.specs.Types.{kind, below}
use Rattle.profile_rules.specs.Operands.{need}
use Rattle.profile_rules.specs.Variables.{is_other_block}
use Rattle.profile_rules.specs.MemoryRules.{is_way_by}
use Rattle.profile_rules.specs.TypeRules.{broken}
use Rattle.profile_rules.specs.AccessRules.{broken_at as broken_access, access_rules}

unfoldable opened : Unit {0}
unfolding shape op_of number known inner_of is_id kind_of_opcode kind_of_op key_of kind below group_of takes_of need is_other_block is_way_by
opened = tt

-- it reads an element of a buffer, adds 1 and writes it
abbrev adds_one : List ℕ
adds_one =
    0x07230203 ∷ 0x10300 ∷ 0 ∷ 0x16 ∷ 0 ∷ 0x20011 ∷ 1 ∷ 0x3000E ∷ 0 ∷ 1 ∷ 0x6000F ∷ 5 ∷ 1 ∷ 0x6E69616D ∷ 0 ∷ 2 ∷
    0x60010 ∷ 1 ∷ 0x11 ∷ 0x40 ∷ 1 ∷ 1 ∷ 0x40047 ∷ 2 ∷ 0xB ∷ 0x1C ∷ 0x30047 ∷ 3 ∷ 2 ∷ 0x50048 ∷ 3 ∷ 0 ∷ 0x23 ∷ 0 ∷
    0x40047 ∷ 4 ∷ 6 ∷ 4 ∷ 0x40047 ∷ 5 ∷ 0x22 ∷ 0 ∷ 0x40047 ∷ 5 ∷ 0x21 ∷ 0 ∷ 0x20013 ∷ 6 ∷ 0x30021 ∷ 7 ∷ 6 ∷
    0x40015 ∷ 8 ∷ 0x20 ∷ 0 ∷ 0x40017 ∷ 9 ∷ 8 ∷ 3 ∷ 0x40020 ∷ 0xA ∷ 1 ∷ 9 ∷ 0x4003B ∷ 0xA ∷ 2 ∷ 1 ∷ 0x40020 ∷ 0xB ∷ 1 ∷ 8 ∷
    0x3001D ∷ 4 ∷ 8 ∷ 0x3001E ∷ 3 ∷ 4 ∷ 0x40020 ∷ 0xC ∷ 0xC ∷ 3 ∷ 0x4003B ∷ 0xC ∷ 5 ∷ 0xC ∷ 0x40020 ∷ 0xD ∷ 0xC ∷ 8 ∷
    0x4002B ∷ 8 ∷ 0xE ∷ 0 ∷ 0x4002B ∷ 8 ∷ 0xF ∷ 1 ∷ 0x50036 ∷ 6 ∷ 1 ∷ 0 ∷ 7 ∷ 0x200F8 ∷ 0x10 ∷ 0x50041 ∷ 0xB ∷ 0x11 ∷ 2 ∷ 0xE ∷
    0x4003D ∷ 8 ∷ 0x12 ∷ 0x11 ∷ 0x60041 ∷ 0xD ∷ 0x13 ∷ 5 ∷ 0xE ∷ 0x12 ∷ 0x4003D ∷ 8 ∷ 0x14 ∷ 0x13 ∷
    0x50080 ∷ 8 ∷ 0x15 ∷ 0x14 ∷ 0xF ∷ 0x3003E ∷ 0x13 ∷ 0x15 ∷ 0x100FD ∷ 0x10038 ∷ []

uncut : first_fault adds_one ≡ None
uncut = refl

types : broken (module_of adds_one) ≡ []
unfolding opened
types = refl

accesses : map (broken_access (module_of adds_one)) access_rules ≡ map (λ (r : Rule). []) access_rules
unfolding opened
accesses = refl
