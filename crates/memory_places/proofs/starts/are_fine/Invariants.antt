use Rattle.std.proofs.Common.{◌≡◌, drop}
use Rattle.std.specs.List.{list_all}
use Rattle.id_map.specs.Entries.{is_in}
use Rattle.module_semantics.specs.Run.{have_values}
use Rattle.memory_places.specs.Kernel.{bare_with, kernel, plain}
use Rattle.memory_places.specs.Mentions.{is_fine_by}
use Rattle.memory_places.proofs.starts.are_fine.Given as goal

abbrev pub invariant-loop-inst : goal.invariant-loop-inst
invariant-loop-inst l = list_all (is_fine_by (bare_with l.«module» l.values) (is_in l.mentioned)) (drop l.inst-index l.inst-items) ≡ have_values (plain (kernel l.«module» l.entry l.values))
