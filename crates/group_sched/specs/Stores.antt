-- The program's own memory.
use Rattle.std.specs.Prelude.{ℕ, length}
use Rattle.traces.specs.Events.{Location, buffer, push}
use Rattle.dispatch_semantics.specs.Store as dispatch
use Rattle.group_items.specs.declared.store.Store.{Store}
use Rattle.group_items.specs.Memory.{stored}
use Rattle.group_sched.specs.declared.start.Base.{Base}
use Rattle.group_sched.specs.declared.start.Base.TheVariants.{Buffer, Push}

abbrev pub words_in : Store → dispatch.Store
words_in store = stored store.maps.items

-- for so many workgroups
abbrev pub rooms_in : Store → ℕ
rooms_in store = length store.maps.items

-- the place of a byte
abbrev pub location_in : Base → ℕ → Location
location_in (Buffer set binding) byte = buffer set binding byte
location_in Push byte = push byte
