use Rattle.std.proofs.Common.{ap, sym, ◌∙◌}
use Rattle.std.specs.Prelude.{option_map}
use Rattle.spv_types.specs.View.{value_of}
use Rattle.module_semantics.specs.State.{global}
use Rattle.run_memory.specs.Outcomes.{kept_with}
use Rattle.run_memory.proofs.stores.store_over.Goals as goal

pub returns-in-None : goal.returns-in-None
returns-in-None c = λ d rest. ap (kept_with d rest (global c.args.id)) (sym (ap (option_map value_of) c.in-None.is) ∙ c.in_ok-inserted.ensures)

pub returns-in-Some : goal.returns-in-Some
returns-in-Some c = λ d rest. ap (kept_with d rest (global c.args.id)) (sym (ap (option_map value_of) c.in-Some.is) ∙ c.in_ok-inserted.ensures)
