use Rattle.std.proofs.Common.{◌≡◌, ◌∙◌, ◌++◌, ◌∷◌, [], ℕ, List, Option, if◌then◌else◌, ap, get_or, refl, subst, sym, arith}
use Rattle.phi_copies.specs.declared.moves.Src.{Src}
use Rattle.function_plan.specs.Phis.{is_block, source_of, given_words, given_by}
use Rattle.function_plan.specs.Moved.{pairs_from}
use Rattle.function_plan.proofs.Phied.{one, given_next}
use Rattle.function_plan.proofs.moves.add_phi.Goals as goal

pub loop-rest-preserved : goal.loop-rest-preserved
loop-rest-preserved c = λ b.
    let gs = c.args.«module».now.globals in
    let f = c.args.locals.now in
    let r = c.args.phi.now.result in
    let words = c.loop-rest.rest.now in
    let old = pairs_from c.loop-rest.pairs b in
    let added : pairs_from c.add_pair.new.pairs b ≡ old ++ one gs f b r (get_or words 0 0) (get_or words 1 0) =
    c.in_ok-add_pair.ensures b
    ∙ (ap (λ (s : Src). old ++ (if is_block b c.block.result then (record { 0 = r }, s) ∷ [] else [])) c.source.ensures
    ∙ ap (λ (o : Option ℕ). old ++ (if is_block b o then (record { 0 = r }, source_of gs (get_or words 0 0)) ∷ [] else [])) c.block.ensures) in
    let next = given_next gs f b r (get_or words 0 0) (get_or words 1 0) words old (pairs_from c.add_pair.new.pairs b) (pairs_from c.args.pairs.now b ++ given_by gs f b c.args.phi.now) (omega arith) refl refl added (c.loop-rest.invariant b) in
    subst (λ (ws : List ℕ). pairs_from c.add_pair.new.pairs b ++ given_words gs f b r ws ≡ pairs_from c.args.pairs.now b ++ given_by gs f b c.args.phi.now) (sym c.behind-rest.ensures) next
