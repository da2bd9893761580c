use Rattle.std.proofs.Common.{subst}
use Rattle.step_run.specs.KeptAll.{IsKept}
use Rattle.step_run.proofs.Giving.{given_kept, given_begun}
use Rattle.step_run.proofs.thread.give_to.Goals as goal

pub returns-in-Some-clause-kept : goal.returns-in-Some-clause-kept
returns-in-Some-clause-kept g c =
    let walk = g.P.Program.walk c.args.program.now in
    let goes = g.P.Program.goes c.args.program.now in
    let asks = g.P.Program.asks c.args.program.now in
    let old = c.args.thread.now.row in
    λ steps kept. given_kept walk steps goes asks old c.answer.new.row c.in-Some.state c.resume.new.state c.args.words.now (subst (IsKept walk steps goes asks old) c.in-Some.is kept) c.resume.ensures c.answer.ensures c.requires.fits

pub returns-in-Some-clause-moved : goal.returns-in-Some-clause-moved
returns-in-Some-clause-moved g c = given_begun c.args.thread.now.row c.answer.new.row c.args.words.now c.answer.ensures c.requires.fits
