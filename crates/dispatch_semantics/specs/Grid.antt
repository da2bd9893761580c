-- The invocations of a dispatch, with what they are told (GLSL 4.60, section 7.1).
use Rattle.std.specs.Prelude.{ℕ, ◌+◌, ◌*◌, ◌/◌, ◌%◌, Option}
use Rattle.traces.specs.Invocations.{Triple, Invocation}

-- how many workgroups there are and how many invocations one has, on each axis; the sizes of buffers, and the specialization
pub record Grid : Type 0 where
  pub groups : Triple
  pub size : Triple
  pub buffer_bytes : ℕ → ℕ → ℕ
  pub specialization : ℕ → Option ℕ

abbrev pub product : Triple → ℕ
product t = t.0 * (t.1 * t.2)

-- what a number stands for on three axes, x first
abbrev pub along : Triple → ℕ → Triple
along t n = (n % t.0, n / t.0 % t.1, n / (t.0 * t.1))

abbrev pub global_id : ℕ → ℕ → ℕ → ℕ
global_id group size own = group * size + own

-- invocations are numbered workgroup by workgroup, and inside one by their LocalInvocationIndex
abbrev pub group_of : Grid → ℕ → ℕ
group_of g i = i / product g.size

abbrev pub count : Grid → ℕ
count g = product g.groups * product g.size

abbrev pub invocation_by : Grid → (group own : Triple) → ℕ → Invocation
invocation_by g group own index = record {
  num_workgroups = g.groups;
  workgroup_id = group;
  local_invocation_id = own;
  global_invocation_id = (global_id group.0 g.size.0 own.0, global_id group.1 g.size.1 own.1, global_id group.2 g.size.2 own.2);
  local_invocation_index = index;
  buffer_bytes = g.buffer_bytes;
  specialization = g.specialization;
}

abbrev pub invocation : Grid → ℕ → Invocation
invocation g i = invocation_by g (along g.groups (group_of g i)) (along g.size (i % product g.size)) (i % product g.size)
