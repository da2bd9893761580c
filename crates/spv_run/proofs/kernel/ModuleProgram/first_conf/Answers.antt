use Rattle.std.proofs.Common.{◌≡◌, ◌∙◌, ℕ, ap, sym, rules}
use Rattle.std.specs.Prelude.{Some, None}
use Rattle.profile_rules.specs.Entry.{function_of}
use Rattle.memory_places.specs.Kernel.{setting_for}
use Rattle.run_state.specs.Ids.{ids_of, variables_of}
use Rattle.run_state.specs.Confs.{frame_of, calls_of}
use Rattle.spv_run.proofs.Begun.{no_values, no_entry, begun}
use Rattle.spv_run.proofs.kernel.ModuleProgram.first_conf.Goals as goal

pub returns-then-not-have_values : goal.returns-then-not-have_values
returns-then-not-have_values c = λ told. no_values (setting_for c.args.self.now.map told) (sym (c.have_values.ensures told) ∙ c.if-not-have_values.true)

pub returns-in-None : goal.returns-in-None
returns-in-None c = λ told.
    let p = c.args.self.now in
    no_entry (setting_for p.map told) (ap (λ fs. function_of fs p.map.entry) (sym p.routines_are) ∙ ap (function_of p.routines) (sym p.entry_is) ∙ c.in-None.ensures)

pub returns-in_ok-privates-in-Some : goal.returns-in_ok-privates-in-Some
returns-in_ok-privates-in-Some c = λ told.
    let p = c.args.self.now in
    let fs = p.map.of.functions in
    let there : function_of fs p.map.entry ≡ Some c.in-Some.routine.now = ap (λ fs. function_of fs p.map.entry) (sym p.routines_are) ∙ ap (function_of p.routines) (sym p.entry_is) ∙ c.in-Some.ensures.1 in
    let none : (q : ℕ) → ids_of c.new-ids.result q ≡ None = λ q. search rules in
    begun (setting_for p.map told) c.in-Some.routine.now (frame_of fs c.in_ok-top-in-Some.top) (calls_of fs c.new.result.items) (ids_of c.new-ids.result) (variables_of c.in_ok-privates-in-Some.privates)
    (ap (calls_of fs) c.new.ensures.items) (sym (c.have_values.ensures told) ∙ c.if-not-have_values.false) there (c.in_ok-top-in-Some.ensures told) none c.in_ok-privates-in-Some.ensures
