-- One invocation of a kernel: what it is told from outside, save what it reads.
use Rattle.std.specs.Prelude.{ℕ, ◌<◌, ◌^◌, Option, IfSome}

-- three words: x, y and z
abbrev pub Triple : Type 0
Triple = ℕ × ℕ × ℕ

-- The built-in variables (SPIR-V 1.6, section 3.21; GLSL 4.60, section 7.1), the number of bytes of each buffer by its descriptor set and binding, and the word that each specialization constant is given by its SpecId (SPIR-V 1.6, section 2.12).
pub record Invocation : Type 0 where
  pub num_workgroups : Triple
  pub workgroup_id : Triple
  pub local_invocation_id : Triple
  pub global_invocation_id : Triple
  pub local_invocation_index : ℕ
  pub buffer_bytes : ℕ → ℕ → ℕ
  pub specialization : ℕ → Option ℕ

abbrev pub AreWords : Triple → Type 0
AreWords t = (t.0 < 2 ^ 32) × (t.1 < 2 ^ 32) × (t.2 < 2 ^ 32)

-- all its numbers are words
pub record IsInvocation (v : Invocation) : Type 0 where
  pub num_workgroups : AreWords v.num_workgroups
  pub workgroup_id : AreWords v.workgroup_id
  pub local_invocation_id : AreWords v.local_invocation_id
  pub global_invocation_id : AreWords v.global_invocation_id
  pub local_invocation_index : v.local_invocation_index < 2 ^ 32
  pub buffer_bytes : (set binding : ℕ) → v.buffer_bytes set binding < 2 ^ 32
  pub specialization : (id : ℕ) → IfSome (v.specialization id) (λ (w : ℕ). w < 2 ^ 32)
