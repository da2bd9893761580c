use Rattle.std.proofs.Common.{◌∙◌, ◌==◌, List, ℕ, ap}
use Rattle.std.proofs.lemmas.Result.{IfOk-weaker}
use Rattle.std.specs.List.{position_from}
use Rattle.unit_text.specs.Reached.{id_in}
use Rattle.unit_text.proofs.Placing.{position_map}
use Rattle.unit_text.proofs.plans.places_in.Goals as goal

pub returns : goal.returns
returns c =
    IfOk-weaker c.places_of.result _ _ (λ places stand. record {
      each = λ n.
          stand n
          ∙ (ap (λ (ids : List ℕ). position_from (λ i. i == n) 0 ids) (c.as_slice.ensures.value ∙ c.in_ok-ids.ensures)
          ∙ position_map (λ i. i == n) id_in 0 c.args.plans.now);
    }) c.places_of.ensures
