use Rattle.std.proofs.Common.{ℕ, List, ap, ◌∙◌}
use Rattle.std.specs.Prelude.{option_and_then}
use Rattle.spv_types.specs.Tree.{ValueTree}
use Rattle.spv_types.specs.View.{value_of}
use Rattle.op_semantics.specs.Composite.{inserted}
use Rattle.run_state.specs.Ids.{root_of}
use Rattle.run_variables.specs.Stored.{kept_by}
use Rattle.run_memory.specs.Outcomes.{kept_with}
use Rattle.run_memory.proofs.stores.store_part.Goals as goal

pub returns : goal.returns
returns c = λ d rest.
    ap (λ (v : ValueTree). kept_with d rest (root_of c.args.root) (option_and_then (inserted v c.in_ok-indexes.indexes.items) (kept_by d (root_of c.args.root)))) c.in_ok-copied.ensures
    ∙ ap (λ (p : List ℕ). kept_with d rest (root_of c.args.root) (option_and_then (inserted (value_of c.args.storing.now.value.now) p) (kept_by d (root_of c.args.root)))) (c.in_ok-indexes.ensures.items_if_clones_equal (λ x y same. same))
