use Rattle.std.proofs.Common.{◌≡◌, ◌∙◌, List, ℕ, ap}
use Rattle.spv_module.specs.declared.inst.Function.{Function}
use Rattle.structure_rules.specs.Graph.{graph}
use Rattle.switch_ladder.specs.Flags.{blocks_that, needs_fell}
use Rattle.hoist_plan.specs.Kept.{form_in}
use Rattle.function_plan.specs.Orders.{is_among}
use Rattle.function_plan.specs.Phis.{phi_blocks}
use Rattle.function_plan.proofs.planning.flags_of.Goals as goal

pub returns : goal.returns
returns c =
    let f : Function = c.args.function.now in
    let flags = c.in_ok-of.ensures in
    let needed = c.in_ok-needed.ensures in
    let phis_are : c.as_slice.result.now ≡ phi_blocks (form_in c.args.naming.now) f = c.as_slice.ensures.value ∙ c.in_ok-phis.ensures in
    record {
      again = λ b. flags.again b ∙ ap (λ (bs : List ℕ). is_among bs b) needed.again;
      leave = λ b. flags.leave b ∙ ap (λ (bs : List ℕ). is_among bs b) needed.leave;
      fell = λ b. flags.fell b ∙ ap (λ (bs : List ℕ). is_among bs b) needed.fell ∙ ap (λ (ps : List ℕ). is_among (blocks_that (needs_fell (graph f) ps) (graph f)) b) phis_are;
    }
