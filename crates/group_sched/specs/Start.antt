-- What a case and the size of a workgroup make a dispatch: its invocations, what each is told, and the first memory.
use Rattle.std.specs.Prelude.{ℕ, ◌+◌, ◌*◌, List, [], ◌∷◌, Option, length, map}
use Rattle.traces.specs.Events.{Location, buffer, push}
use Rattle.traces.specs.Invocations.{Triple}
use Rattle.dispatch_semantics.specs.Store.{Store, put}
use Rattle.dispatch_semantics.specs.Grid.{Grid, product, count, invocation}
use Rattle.group_items.specs.Sides.{bytes_in}
use Rattle.group_items.specs.Schedule.{Setup}
use Rattle.dispatch_case.specs.Cases.{CaseParts, Buffer}

-- a buffer has four bytes for each word
abbrev pub size_of : Buffer → ℕ × ℕ × ℕ
size_of b = (b.0, b.1, 4 * length b.2)

abbrev pub grid_of : CaseParts → Triple → (ℕ → Option ℕ) → Grid
grid_of c size special = record { groups = c.groups; size = size; buffer_bytes = bytes_in (map size_of c.buffers); specialization = special }

-- words stand every four bytes, from this byte on
abbrev pub spread : (ℕ → Location) → ℕ → List ℕ → Store → Store
spread at byte [] store = store
spread at byte (w ∷ ws) store = spread at (byte + 4) ws (put 0 (at byte) w store)

abbrev pub with_buffers : List Buffer → Store → Store
with_buffers [] store = store
with_buffers (b ∷ bs) store = with_buffers bs (spread (buffer b.0 b.1) 0 b.2 store)

abbrev pub nowhere : Store
nowhere g at = 0

-- the words of buffers and push constants, and 0 elsewhere
abbrev pub first_store : CaseParts → Store
first_store c = spread push 0 c.push (with_buffers c.buffers nowhere)

abbrev pub setup_of : CaseParts → Triple → (ℕ → Option ℕ) → Setup
setup_of c size special = record {
  count = count (grid_of c size special);
  group = product size;
  told = invocation (grid_of c size special);
  store = first_store c;
}
