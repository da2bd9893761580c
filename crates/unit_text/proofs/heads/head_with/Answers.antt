use Rattle.std.proofs.Common.{◌∙◌, List, ap, map, subst, sym}
use Rattle.std.specs.List.{All, flat_map}
use Rattle.name_alloc.specs.declared.claims.Claim.{Claim}
use Rattle.name_alloc.specs.Naming.{name_of}
use Rattle.few_law.specs.Short.{HasFewArgs}
use Rattle.text_items.specs.State.{WrittenState, functions_at}
use Rattle.function_plan.specs.Claimed.{claimed_by}
use Rattle.function_text.specs.Live.{types_in, mentions_in}
use Rattle.unit_text.specs.declared.heads.Head.{Head}
use Rattle.unit_text.specs.Reached.{IsHead}
use Rattle.unit_text.proofs.Unasked.{head_live}
use Rattle.unit_text.proofs.heads.head_with.Goals as goal

pub claims-requires : goal.claims-requires
claims-requires c = subst (λ (w : WrittenState). All HasFewArgs w.source.of.globals) (sym c.in_ok-written.ensures) c.requires

pub declarations-requires : goal.declarations-requires
declarations-requires c = subst (λ (w : WrittenState). All HasFewArgs w.source.of.globals) (sym c.in_ok-written.ensures) c.requires

pub returns : goal.returns
returns c =
    let readings = c.args.readings.now in
    let plans = c.args.plans.now in
    let head : Head = record { names = c.in_ok-names.names; items = c.in_ok-items.items } in
    let written : IsHead c.in_ok-written.written.source c.in_ok-written.written.reached (map claimed_by plans) head = record {
      named = record {
        claimed = c.in_ok-claims.claims.items;
        claims_are = c.in_ok-claims.ensures;
        lawful = c.in_ok-names.ensures.laws;
        names_are = λ key. c.in_ok-names.ensures.names key ∙ ap (λ (cs : List Claim). name_of cs key) c.as_slice.ensures.value;
      };
      items_are = c.in_ok-items.ensures;
    } in
    head_live readings (functions_at c.args.functions.now) c.in_ok-live.live (flat_map types_in plans) (flat_map mentions_in plans) (map claimed_by plans) head
    c.in_ok-live.ensures.types c.in_ok-live.ensures.mentions (subst (λ (w : WrittenState). IsHead w.source w.reached (map claimed_by plans) head) c.in_ok-written.ensures written)
