use Rattle.std.proofs.Common.{◌≡◌, ◌≤◌, ◌<◌, ◌∙◌, ◌==◌, Some, ap, sym, subst, length, get_or, rules}
use Rattle.std.specs.Prelude.{None, slice_get}
use Rattle.std.proofs.lemmas.Option.{slice_get-get_or, slice_get_past}
use Rattle.spv_decor.proofs.First.{slice_get_first, find_none}
use Rattle.spv_module.specs.declared.inst.Function.{Function}
use Rattle.spv_index.specs.Locals.{function_in}
use Rattle.run_flow.proofs.routines.Routines.called.Goals as goal

pub returns-in-None : goal.returns-in-None
returns-in-None c =
    let none : function_in c.args.self.now c.args.id ≡ None = subst (λ fs. function_in fs c.args.id ≡ None) (c.self.invariant ∙ c.self.view_is) (sym c.in-None.ensures) in
    find_none (λ (f : Function). f.id.0 == c.args.id) 0 c.args.self.now none

pub returns-in-None-get : goal.returns-in-None-get
returns-in-None-get c =
    let at : function_in c.args.self.now c.args.id ≡ Some c.in-Some.place = subst (λ fs. function_in fs c.args.id ≡ Some c.in-Some.place) (c.self.invariant ∙ c.self.view_is) (sym c.in-Some.ensures) in
    let past : length c.deref.result.now ≤ c.in-Some.place = search rules in
    let none : slice_get c.args.self.now c.in-Some.place ≡ None = subst (λ fs. slice_get fs c.in-Some.place ≡ None) (c.deref.ensures.value ∙ c.self.view_is) (slice_get_past c.deref.result.now c.in-Some.place past) in
    sym (slice_get_first (λ (f : Function). f.id.0 == c.args.id) c.args.self.now c.in-Some.place at) ∙ none

pub returns-in-Some-get : goal.returns-in-Some-get
returns-in-Some-get c =
    let at : function_in c.args.self.now c.args.id ≡ Some c.in-Some.place = subst (λ fs. function_in fs c.args.id ≡ Some c.in-Some.place) (c.self.invariant ∙ c.self.view_is) (sym c.in-Some.ensures) in
    let is : c.in-Some-get.routine.now ≡ get_or c.deref.result.now c.in-Some.place c.in-Some-get.routine.now = search rules in
    let inside : c.in-Some.place < length c.deref.result.now = search rules in
    let there : slice_get c.args.self.now c.in-Some.place ≡ Some c.in-Some-get.routine.now = subst (λ fs. slice_get fs c.in-Some.place ≡ Some c.in-Some-get.routine.now) (c.deref.ensures.value ∙ c.self.view_is) (slice_get-get_or c.deref.result.now c.in-Some.place c.in-Some-get.routine.now inside ∙ ap Some (sym is)) in
    (there, sym (slice_get_first (λ (f : Function). f.id.0 == c.args.id) c.args.self.now c.in-Some.place at) ∙ there)
