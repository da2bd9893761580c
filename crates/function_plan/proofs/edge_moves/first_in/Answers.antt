use Rattle.std.proofs.Common.{◌∙◌, Option, ap}
use Rattle.std.specs.Prelude.{option_map}
use Rattle.function_plan.specs.Moved.{items_at}
use Rattle.function_plan.proofs.Edges.{Edge}
use Rattle.function_plan.proofs.edge_moves.first_in.Goals as goal

pub returns-in-Some : goal.returns-in-Some
returns-in-Some c = c.as_slice.ensures.value ∙ ap (λ (o : Option Edge). items_at (option_map (λ (e : Edge). e.1) o)) c.in-Some.ensures

pub returns-in-None : goal.returns-in-None
returns-in-None c = ap (λ (o : Option Edge). items_at (option_map (λ (e : Edge). e.1) o)) c.in-None.ensures
