-- The words of a generated module of one piece, written out.
use Rattle.std.proofs.Common.{◌≡◌, [], ◌∷◌, length, refl}
use Rattle.spv_ops.specs.Opcode.{number}
use Rattle.module_gen.specs.Generated.{generated, frame}

pub one_piece : generated 1 ≡
    0x7230203 ∷ 0x10300 ∷ 0 ∷ 48 ∷ 0
    ∷ 0x20011 ∷ 1
    ∷ 0x3000e ∷ 0 ∷ 1
    ∷ 0x6000f ∷ 5 ∷ 1 ∷ 0x6e69616d ∷ 0 ∷ 2
    ∷ 0x60010 ∷ 1 ∷ 17 ∷ 64 ∷ 1 ∷ 1
    ∷ 0x40047 ∷ 2 ∷ 11 ∷ 28
    ∷ 0x30047 ∷ 3 ∷ 2
    ∷ 0x50048 ∷ 3 ∷ 0 ∷ 35 ∷ 0
    ∷ 0x40047 ∷ 4 ∷ 6 ∷ 4
    ∷ 0x40047 ∷ 5 ∷ 34 ∷ 0
    ∷ 0x40047 ∷ 5 ∷ 33 ∷ 0
    ∷ 0x20013 ∷ 6
    ∷ 0x30021 ∷ 7 ∷ 6
    ∷ 0x40015 ∷ 8 ∷ 32 ∷ 0
    ∷ 0x40017 ∷ 9 ∷ 8 ∷ 3
    ∷ 0x40020 ∷ 10 ∷ 1 ∷ 9
    ∷ 0x4003b ∷ 10 ∷ 2 ∷ 1
    ∷ 0x40020 ∷ 11 ∷ 1 ∷ 8
    ∷ 0x3001d ∷ 4 ∷ 8
    ∷ 0x3001e ∷ 3 ∷ 4
    ∷ 0x40020 ∷ 12 ∷ 12 ∷ 3
    ∷ 0x4003b ∷ 12 ∷ 5 ∷ 12
    ∷ 0x40020 ∷ 13 ∷ 12 ∷ 8
    ∷ 0x4002b ∷ 8 ∷ 14 ∷ 0
    ∷ 0x4002b ∷ 8 ∷ 15 ∷ 1
    ∷ 0x20014 ∷ 19
    ∷ 0x4002b ∷ 8 ∷ 20 ∷ 8
    ∷ 0x50036 ∷ 6 ∷ 1 ∷ 0 ∷ 7
    ∷ 0x200f8 ∷ 16
    ∷ 0x50041 ∷ 11 ∷ 17 ∷ 2 ∷ 14
    ∷ 0x4003d ∷ 8 ∷ 18 ∷ 17
    ∷ 0x60041 ∷ 13 ∷ 32 ∷ 5 ∷ 14 ∷ 18
    ∷ 0x4003d ∷ 8 ∷ 33 ∷ 32
    ∷ 0x50080 ∷ 8 ∷ 34 ∷ 33 ∷ 15
    ∷ 0x3003e ∷ 32 ∷ 34
    ∷ 0x100fd
    ∷ 0x10038
    ∷ []
unfolding generated frame number
one_piece = refl

pub size_of_three_pieces : length (generated 3) ≡ 249
unfolding generated frame number
size_of_three_pieces = refl
