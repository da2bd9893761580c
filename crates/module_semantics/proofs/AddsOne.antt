-- A module of words that reads an element of a buffer, adds 1 and writes it, run for invocation 3.
use Rattle.std.proofs.Common.{◌≡◌, ℕ, List, [], ◌∷◌, refl}
use Rattle.spv_module.specs.Lists.{module_of}
use Rattle.traces.specs.Events.{read, write, buffer}
use Rattle.traces.specs.Runs.{made, running, ended, waiting}
use Rattle.module_semantics.proofs.Samples.{opened, run}

abbrev adds_one : List ℕ
adds_one =
    0x07230203 ∷ 0x10300 ∷ 0 ∷ 0x16 ∷ 0 ∷ 0x20011 ∷ 1 ∷ 0x3000E ∷ 0 ∷ 1 ∷ 0x6000F ∷ 5 ∷ 1 ∷ 0x6E69616D ∷ 0 ∷ 2 ∷
    0x60010 ∷ 1 ∷ 0x11 ∷ 0x40 ∷ 1 ∷ 1 ∷ 0x40047 ∷ 2 ∷ 0xB ∷ 0x1C ∷ 0x30047 ∷ 3 ∷ 2 ∷ 0x50048 ∷ 3 ∷ 0 ∷ 0x23 ∷ 0 ∷
    0x40047 ∷ 4 ∷ 6 ∷ 4 ∷ 0x40047 ∷ 5 ∷ 0x22 ∷ 0 ∷ 0x40047 ∷ 5 ∷ 0x21 ∷ 0 ∷ 0x20013 ∷ 6 ∷ 0x30021 ∷ 7 ∷ 6 ∷
    0x40015 ∷ 8 ∷ 0x20 ∷ 0 ∷ 0x40017 ∷ 9 ∷ 8 ∷ 3 ∷ 0x40020 ∷ 0xA ∷ 1 ∷ 9 ∷ 0x4003B ∷ 0xA ∷ 2 ∷ 1 ∷ 0x40020 ∷ 0xB ∷ 1 ∷ 8 ∷
    0x3001D ∷ 4 ∷ 8 ∷ 0x3001E ∷ 3 ∷ 4 ∷ 0x40020 ∷ 0xC ∷ 0xC ∷ 3 ∷ 0x4003B ∷ 0xC ∷ 5 ∷ 0xC ∷ 0x40020 ∷ 0xD ∷ 0xC ∷ 8 ∷
    0x4002B ∷ 8 ∷ 0xE ∷ 0 ∷ 0x4002B ∷ 8 ∷ 0xF ∷ 1 ∷ 0x50036 ∷ 6 ∷ 1 ∷ 0 ∷ 7 ∷ 0x200F8 ∷ 0x10 ∷ 0x50041 ∷ 0xB ∷ 0x11 ∷ 2 ∷ 0xE ∷
    0x4003D ∷ 8 ∷ 0x12 ∷ 0x11 ∷ 0x60041 ∷ 0xD ∷ 0x13 ∷ 5 ∷ 0xE ∷ 0x12 ∷ 0x4003D ∷ 8 ∷ 0x14 ∷ 0x13 ∷
    0x50080 ∷ 8 ∷ 0x15 ∷ 0x14 ∷ 0xF ∷ 0x3003E ∷ 0x13 ∷ 0x15 ∷ 0x100FD ∷ 0x10038 ∷ []

-- seven instructions are seven steps
ends : run (module_of adds_one) ((41 ∷ []) ∷ []) 7 ≡ made (read (buffer 0 0 12 ∷ []) (41 ∷ []) ∷ write (buffer 0 0 12 ∷ []) (42 ∷ []) ∷ []) ended
unfolding opened
ends = refl

runs_still : run (module_of adds_one) ((41 ∷ []) ∷ []) 6 ≡ made (read (buffer 0 0 12 ∷ []) (41 ∷ []) ∷ write (buffer 0 0 12 ∷ []) (42 ∷ []) ∷ []) running
unfolding opened
runs_still = refl

-- without an answer, and with one of another length, it waits
waits : run (module_of adds_one) [] 9 ≡ made [] waiting
unfolding opened
waits = refl

waits_still : run (module_of adds_one) ((41 ∷ 42 ∷ []) ∷ []) 9 ≡ made [] waiting
unfolding opened
waits_still = refl
