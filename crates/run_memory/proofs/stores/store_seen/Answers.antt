use Rattle.std.proofs.Common.{ℕ, List, [], ◌∷◌, ap, sym, ◌∙◌}
use Rattle.spv_types.specs.View.{value_of}
use Rattle.value_words.specs.Words.{words_of}
use Rattle.traces.specs.Events as trace
use Rattle.traces.specs.Events.{Location}
use Rattle.traces.specs.Runs.{goes}
use Rattle.group_items.specs.Events.{locations_of}
use Rattle.module_semantics.specs.Steps.{advanced}
use Rattle.run_memory.proofs.stores.store_seen.Goals as goal

pub returns : goal.returns
returns c = λ told d rest r.
    ap (λ (l : List Location). goes (trace.write l (words_of (value_of c.args.storing.now.value.now)) ∷ []) (advanced d rest)) (sym (c.in_ok-places.ensures told))
    ∙ ap (λ (l : List ℕ). goes (trace.write (locations_of c.in_ok-places.places.items) l ∷ []) (advanced d rest)) (sym c.in_ok-words.ensures)
