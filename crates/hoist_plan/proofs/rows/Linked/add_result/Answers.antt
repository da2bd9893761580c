use Rattle.std.proofs.Common.{◌≡◌, ◌∙◌, ◌++◌, List, [], ◌∷◌, ap, arith, map, refl, sym}
use Rattle.std.specs.Prelude.{fold, sum_by}
use Rattle.std.proofs.lemmas.List.{append-nil}
use Rattle.std.proofs.lemmas.List.Sums.{sum_by-cons}
use Rattle.use_chains.specs.declared.slot.SlotPlace.{SlotPlace}
use Rattle.hoist_plan.specs.Plan.{Placed, mentions_of, with_result}
use Rattle.hoist_plan.specs.Kept.{chains_among, known_in, placed, placed_chain, result_in, steps_of}
use Rattle.hoist_plan.proofs.Passes.{known_is, result_is, result_none}
use Rattle.hoist_plan.proofs.rows.Linked.add_result.Goals as goal

pub returns-then-not-has_result-clause-known : goal.returns-then-not-has_result-clause-known
returns-then-not-has_result-clause-known g c =
    ap (fold (with_result c.args.self.now.«module».now.globals c.args.self.now.locals.now) (known_in c.args.told.now.forms)) (result_none c.args.self.now.uses.now c.args.row c.has_result.result c.has_result.ensures c.if-not-has_result.true)

pub returns-then-not-has_result-clause-chains : goal.returns-then-not-has_result-clause-chains
returns-then-not-has_result-clause-chains g c =
    let none : [] ≡ result_in c.args.self.now.uses.now c.args.row = result_none c.args.self.now.uses.now c.args.row c.has_result.result c.has_result.ensures c.if-not-has_result.true in
    sym (append-nil (map placed_chain c.args.told.now.chains.items)) ∙ ap (λ (ps : List Placed). map placed_chain c.args.told.now.chains.items ++ chains_among ps) none

pub returns-then-not-has_result-clause-steps : goal.returns-then-not-has_result-clause-steps
returns-then-not-has_result-clause-steps g c =
    let none : [] ≡ result_in c.args.self.now.uses.now c.args.row = result_none c.args.self.now.uses.now c.args.row c.has_result.result c.has_result.ensures c.if-not-has_result.true in
    let sum = ap (sum_by steps_of) none in
    omega (arith, sum)

pub returns-clause-known : goal.returns-clause-known
returns-clause-known g c =
    let are : c.deref.result.now ≡ mentions_of c.args.self.now.uses.now c.args.row.result = c.deref.ensures.value ∙ c.in_ok-list_mentions.ensures.places in
    let one : placed c.deref.result.now c.args.row ∷ [] ≡ result_in c.args.self.now.uses.now c.args.row = result_is c.args.self.now.uses.now c.args.row c.deref.result.now c.has_result.result c.has_result.ensures c.if-not-has_result.false are in
    known_is c.add_form.new.forms (with_result c.args.self.now.«module».now.globals c.args.self.now.locals.now (known_in c.args.told.now.forms) (placed c.deref.result.now c.args.row)) c.in_ok-add_form.ensures.operands c.in_ok-add_form.ensures.forms
    ∙ ap (fold (with_result c.args.self.now.«module».now.globals c.args.self.now.locals.now) (known_in c.args.told.now.forms)) one

pub returns-clause-chains : goal.returns-clause-chains
returns-clause-chains g c =
    let are : c.deref-2.result.now ≡ mentions_of c.args.self.now.uses.now c.args.row.result = c.deref-2.ensures.value ∙ c.in_ok-list_mentions.ensures.places in
    let one : placed c.deref-2.result.now c.args.row ∷ [] ≡ result_in c.args.self.now.uses.now c.args.row = result_is c.args.self.now.uses.now c.args.row c.deref-2.result.now c.has_result.result c.has_result.ensures c.if-not-has_result.false are in
    c.in_ok-add_chain.ensures ∙ ap (λ (ps : List Placed). map placed_chain c.args.told.now.chains.items ++ chains_among ps) one

pub returns-clause-steps : goal.returns-clause-steps
returns-clause-steps g c =
    let ms : List SlotPlace = mentions_of c.args.self.now.uses.now c.args.row.result in
    let one : placed ms c.args.row ∷ [] ≡ result_in c.args.self.now.uses.now c.args.row = result_is c.args.self.now.uses.now c.args.row ms c.has_result.result c.has_result.ensures c.if-not-has_result.false refl in
    let sum = ap (sum_by steps_of) one in
    let first = sum_by-cons steps_of (placed ms c.args.row) [] in
    omega (arith, sum, first, c.in_ok-list_mentions.ensures.steps)
