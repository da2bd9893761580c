use Rattle.std.proofs.Common.{rules, ◌≡◌, ◌≤◌, ◌+◌, ◌∙◌, arith, length, get_or, ap}
use Rattle.std.specs.Prelude.{slice_get}
use Rattle.run_state.specs.Ids.{ids_of}
use Rattle.run_state.proofs.Phis.{phis_popped, length_snoc, if_some}
use Rattle.run_state.proofs.edge.set_phis.Goals as goal

pub loop-value-preserved : goal.loop-value-preserved
loop-value-preserved c =
    let left = c.pop.new.self.items in
    let was = c.loop-value.left.items in
    let phis = c.args.phis.now in
    let count : length was ≡ length left + 1 = ap length c.in-Some.ensures.items ∙ length_snoc left c.in-Some.value in
    let within : length was ≤ length phis = c.loop-value.invariant.within in
    record {
      within = omega (arith, count, within);
      places = λ k. if_some (slice_get phis k) (c.loop-value.invariant.places k) (λ i h. c.put_in_place.ensures.places i.result h);
      rest = phis_popped phis left was c.in-Some.value (get_or phis c.len.result c.index-phis-len.result) c.len.result (ids_of c.loop-value.ids) (ids_of c.put_in_place.new.ids) c.in-Some.ensures.items (search rules) (search rules) (ap (λ x. get_or phis c.len.result x) c.index-phis-len.is) c.put_in_place.ensures.put ∙ c.loop-value.invariant.rest;
    }
