-- The definitions, computed.
use Rattle.std.proofs.Common.{◌≡◌, [], ◌∷◌, refl}
use Rattle.traces.specs.Events as trace
use Rattle.group_items.specs.Events.{filled, weight_of}
use Rattle.group_items.specs.Sides.{bytes_in}
use Rattle.group_items.specs.Schedule.{schedule}

-- of two invocations: the items that name one, and two rounds
rounds_behind_items : schedule 2 (1 ∷ 7 ∷ 0 ∷ []) 2 ≡ 1 ∷ 0 ∷ 0 ∷ 1 ∷ 0 ∷ 1 ∷ []
rounds_behind_items = refl

words_are_filled : filled (trace.read (trace.push 0 ∷ trace.push 4 ∷ []) []) (8 ∷ 9 ∷ []) ≡ trace.read (trace.push 0 ∷ trace.push 4 ∷ []) (8 ∷ 9 ∷ [])
words_are_filled = refl

-- a read of two scalars, an atomic and a barrier
weight_is : weight_of ((0, trace.read (trace.push 0 ∷ trace.push 4 ∷ []) (8 ∷ 9 ∷ [])) ∷ (1, trace.atomic trace.add (trace.shared 0 []) (1 ∷ []) 0) ∷ (0, trace.control_barrier) ∷ []) ≡ 6
weight_is = refl

sizes_are_found : bytes_in ((0, 0, 8) ∷ (0, 3, 4) ∷ []) 0 3 ≡ 4
sizes_are_found = refl

no_size_is_none : bytes_in ((0, 0, 8) ∷ (0, 3, 4) ∷ []) 3 0 ≡ 0
no_size_is_none = refl
