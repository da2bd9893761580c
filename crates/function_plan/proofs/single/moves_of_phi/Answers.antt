use Rattle.std.proofs.Common.{◌∙◌, ◌++◌, ◌∷◌, [], ℕ, List, Option, if◌then◌else◌, ap, get_or, drop, subst, sym, arith}
use Rattle.phi_copies.specs.Sequence.{IsSequence}
use Rattle.phi_copies.specs.declared.moves.Src.{Src}
use Rattle.phi_copies.specs.declared.moves.Move.{Move}
use Rattle.function_plan.specs.Phis.{is_block, source_of, given_words, given_by, firsts}
use Rattle.function_plan.specs.Moved.{first_from, left_moves}
use Rattle.function_plan.proofs.Phied.{given_few}
use Rattle.function_plan.proofs.Lone.{given_two, left_end, first_sequence}
use Rattle.function_plan.proofs.single.moves_of_phi.Goals as goal

pub loop-rest-preserved : goal.loop-rest-preserved
loop-rest-preserved c = λ b.
    let gs = c.args.«module».now.globals in
    let f = c.args.locals.now in
    let r = c.args.phi.now.result in
    let words = c.loop-rest.rest.now in
    let more = given_words gs f b r (drop 2 words) in
    let old = first_from c.loop-rest.list.items b in
    let added =
    c.in_ok-add_move.ensures b more
    ∙ (ap (λ (s : Src). left_moves old ((if is_block b c.block.result then (record { 0 = r }, s) ∷ [] else []) ++ more)) c.source.ensures
    ∙ (ap (λ (o : Option ℕ). left_moves old ((if is_block b o then (record { 0 = r }, source_of gs (get_or words 0 0)) ∷ [] else []) ++ more)) c.block.ensures
    ∙ (ap (left_moves old) (sym (given_two gs f b r words (omega arith))) ∙ c.loop-rest.invariant b))) in
    ap (λ (ws : List ℕ). left_moves (first_from c.add_move.new.list.items b) (given_words gs f b r ws)) c.behind-rest.ensures ∙ added

pub returns : goal.returns
returns c = λ b.
    let gs = c.args.«module».now.globals in
    let f = c.args.locals.now in
    let few = given_few gs f b c.args.phi.now.result c.loop-rest.rest.now (omega arith) in
    let found = first_from c.loop-rest.list.items b in
    let is = sym (left_end found) ∙ (ap (left_moves found) (sym few) ∙ c.loop-rest.invariant b) in
    subst (λ (ms : List Move). IsSequence (firsts (given_by gs f b c.args.phi.now)) ms) (sym is) (first_sequence gs f b c.args.phi.now)
