-- The modes that give the size of workgroups.
use Rattle.std.specs.Prelude.{ℕ, Bool}
use Rattle.spv_module.specs.declared.inst.Inst.{Inst}
use Rattle.profile_rules.specs.Entry.{is_local_size, is_local_size_id}
use Rattle.declaration_check.specs.declared.kernel.SizeMode.{SizeMode}
use Rattle.declaration_check.specs.declared.kernel.SizeMode.TheVariants.{Literals, Ids}

abbrev pub gives_size : SizeMode → ℕ → Inst → Bool
gives_size Literals = is_local_size
gives_size Ids = is_local_size_id
