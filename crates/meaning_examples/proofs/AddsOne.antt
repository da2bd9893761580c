-- A module that reads an element of a buffer, adds 1 and writes it, as words, and its text.
use Rattle.std.proofs.Common.{◌≡◌, ℕ, List, [], ◌∷◌, refl}
use Rattle.std.specs.Prelude.{codes}
use Rattle.spv_module.specs.Lists.{module_of}
use Rattle.traces.specs.Events.{Event, read, write, buffer}
use Rattle.traces.specs.Runs.{made as run_made, ended, waiting}
use Rattle.traces.specs.Preservation.{text_made, has_ended, is_waiting}
use Rattle.module_semantics.specs.Run.{module_run}
use Rattle.meaning_examples.specs.Runs.{run_of_text}
use Rattle.meaning_examples.proofs.Samples.{module_opened, text_opened, invocation}

abbrev words : List ℕ
words =
    0x07230203 ∷ 0x10300 ∷ 0 ∷ 0x16 ∷ 0 ∷ 0x20011 ∷ 1 ∷ 0x3000E ∷ 0 ∷ 1 ∷ 0x6000F ∷ 5 ∷ 1 ∷ 0x6E69616D ∷ 0 ∷ 2 ∷
    0x60010 ∷ 1 ∷ 0x11 ∷ 0x40 ∷ 1 ∷ 1 ∷ 0x40047 ∷ 2 ∷ 0xB ∷ 0x1C ∷ 0x30047 ∷ 3 ∷ 2 ∷ 0x50048 ∷ 3 ∷ 0 ∷ 0x23 ∷ 0 ∷
    0x40047 ∷ 4 ∷ 6 ∷ 4 ∷ 0x40047 ∷ 5 ∷ 0x22 ∷ 0 ∷ 0x40047 ∷ 5 ∷ 0x21 ∷ 0 ∷ 0x20013 ∷ 6 ∷ 0x30021 ∷ 7 ∷ 6 ∷
    0x40015 ∷ 8 ∷ 0x20 ∷ 0 ∷ 0x40017 ∷ 9 ∷ 8 ∷ 3 ∷ 0x40020 ∷ 0xA ∷ 1 ∷ 9 ∷ 0x4003B ∷ 0xA ∷ 2 ∷ 1 ∷ 0x40020 ∷ 0xB ∷ 1 ∷ 8 ∷
    0x3001D ∷ 4 ∷ 8 ∷ 0x3001E ∷ 3 ∷ 4 ∷ 0x40020 ∷ 0xC ∷ 0xC ∷ 3 ∷ 0x4003B ∷ 0xC ∷ 5 ∷ 0xC ∷ 0x40020 ∷ 0xD ∷ 0xC ∷ 8 ∷
    0x4002B ∷ 8 ∷ 0xE ∷ 0 ∷ 0x4002B ∷ 8 ∷ 0xF ∷ 1 ∷ 0x50036 ∷ 6 ∷ 1 ∷ 0 ∷ 7 ∷ 0x200F8 ∷ 0x10 ∷ 0x50041 ∷ 0xB ∷ 0x11 ∷ 2 ∷ 0xE ∷
    0x4003D ∷ 8 ∷ 0x12 ∷ 0x11 ∷ 0x60041 ∷ 0xD ∷ 0x13 ∷ 5 ∷ 0xE ∷ 0x12 ∷ 0x4003D ∷ 8 ∷ 0x14 ∷ 0x13 ∷
    0x50080 ∷ 8 ∷ 0x15 ∷ 0x14 ∷ 0xF ∷ 0x3003E ∷ 0x13 ∷ 0x15 ∷ 0x100FD ∷ 0x10038 ∷ []

abbrev text : List ℕ
text = codes "#version 460\nlayout(local_size_x = 64, local_size_y = 1, local_size_z = 1) in;\nlayout(set = 0, binding = 0, std430) buffer v3 {\n    layout(offset = 0) uint[] m0;\n} v5;\nvoid main() {\n    uint v18 = gl_GlobalInvocationID.x;\n    uint v20 = v5.m0[v18];\n    v5.m0[v18] = (v20 + 1u);\n    return;\n}\n"

abbrev events : List Event
events = read (buffer 0 0 12 ∷ []) (41 ∷ []) ∷ write (buffer 0 0 12 ∷ []) (42 ∷ []) ∷ []

of_module : module_run (module_of words) 1 [] (invocation 3) ((41 ∷ []) ∷ []) 7 ≡ run_made events ended
unfolding module_opened
of_module = refl

of_text : run_of_text text (invocation 3) ((41 ∷ []) ∷ []) 1 ≡ text_made events has_ended
unfolding text_opened
of_text = refl

-- without an answer both wait
module_waits : module_run (module_of words) 1 [] (invocation 3) [] 7 ≡ run_made [] waiting
unfolding module_opened
module_waits = refl

text_waits : run_of_text text (invocation 3) [] 1 ≡ text_made [] is_waiting
unfolding text_opened
text_waits = refl
