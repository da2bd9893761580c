use Rattle.std.proofs.Common.{◌≡◌, Ok, Err, rules}
use Rattle.cc_outside.specs.declared.all.WriteEnd.TheVariants.{Fault, Memory}
use Rattle.glsl_print.proofs.Steps.{goes_handed, handed_fault, handed_memory}
use Rattle.glsl_print.proofs.page.hand.Goals as goal

pub returns-in-Err-Fault : goal.returns-in-Err-Fault
returns-in-Err-Fault g c =
    let start : c.args.status ≡ Ok c.in_ok-status.field-0 = search rules in
    let end : c.write_all.result ≡ Err Fault = cc in
    rw start (handed_fault c.write_all.result end c.write_all.ensures.front c.write_all.ensures.fault c.write_all.ensures.want)

pub returns-in-Err-Memory : goal.returns-in-Err-Memory
returns-in-Err-Memory g c =
    let start : c.args.status ≡ Ok c.in_ok-status.field-0 = search rules in
    let end : c.write_all.result ≡ Err Memory = cc in
    rw start (handed_memory c.write_all.result end c.write_all.ensures.front c.write_all.ensures.fault c.write_all.ensures.want)

pub returns-in-Ok : goal.returns-in-Ok
returns-in-Ok g c =
    let start : c.args.status ≡ Ok c.in_ok-status.field-0 = search rules in
    rw start (goes_handed _ _ _ _ (Ok tt) c.in-Ok.ensures.all c.write_all.ensures.front (record { later = c.write_all.ensures.fault.later; failed = λ e. cc }) (record { later = c.write_all.ensures.want.later; failed = λ e. cc }))
