-- Cases: what a dispatch is run on.
use Rattle.std.specs.Prelude.{ℕ, ◌&&◌, ◌||◌, ◌==◌, not, Bool, false, List, [], ◌∷◌, length, map, nat_le}
use Rattle.std.specs.List.{list_all, list_any}
use Rattle.std.specs.declared.vec.Vec.{Vec}
use Rattle.std.specs.declared.alloc.Global.{Global}
use Rattle.traces.specs.Invocations.{Triple}
use Rattle.dispatch_case.specs.declared.case.Case.{Case}
use Rattle.dispatch_case.specs.Three.{triple_of}

-- a buffer by its set and its binding, with its words
abbrev pub Buffer : Type 0
Buffer = ℕ × ℕ × List ℕ

-- how many workgroups there are on each axis, what buffers and push constants hold, the invocations that come first in the schedule, and how many steps an invocation may make
pub record CaseParts : Type 0 where
  pub groups : Triple
  pub buffers : List Buffer
  pub push : List ℕ
  pub first : List ℕ
  pub steps : ℕ

abbrev pub buffer_view : ℕ × ℕ × Vec ℕ Global → Buffer
buffer_view b = (b.0, b.1, b.2.items)

abbrev pub parts_of : Case → CaseParts
parts_of c = record { groups = triple_of c.groups; buffers = map buffer_view c.buffers.items; push = c.push.items; first = c.first.items; steps = c.steps }

-- how many numbers a list has at most
abbrev pub most_numbers : ℕ
most_numbers = 1073741823

abbrev pub is_side : ℕ → Bool
is_side n = nat_le 1 n && nat_le n 1024

abbrev pub is_short : List ℕ → Bool
is_short ws = nat_le (length ws) most_numbers

abbrev pub is_at : ℕ → ℕ → Buffer → Bool
is_at set binding b = (b.0 == set) && (b.1 == binding)

-- a set and a binding come twice
abbrev pub buffers_repeat : List Buffer → Bool
buffers_repeat [] = false
buffers_repeat (b ∷ bs) = list_any (is_at b.0 b.1) bs || buffers_repeat bs

abbrev pub are_buffers : List Buffer → Bool
are_buffers bs = list_all (λ (b : Buffer). is_short b.2) bs && not (buffers_repeat bs)

abbrev pub are_groups : Triple → Bool
are_groups t = is_side t.0 && (is_side t.1 && is_side t.2)

-- each number of workgroups is 1 to 1024, no buffer comes twice, no list is too long, and there is a step
abbrev pub is_fine : CaseParts → Bool
is_fine c = are_groups c.groups && (are_buffers c.buffers && (is_short c.push && (is_short c.first && (nat_le 1 c.steps && nat_le c.steps 100000))))
