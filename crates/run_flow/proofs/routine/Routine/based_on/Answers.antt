use Rattle.std.proofs.Common.{◌≡◌, ◌∙◌, false, ap, sym, subst}
use Rattle.spv_module.specs.declared.inst.Function.{Function}
use Rattle.spv_index.specs.Locals.{insts_of}
use Rattle.module_semantics.specs.Steps.{is_based_on}
use Rattle.run_flow.specs.Chains.{is_base_in}
use Rattle.run_flow.proofs.Bases.{none_based}
use Rattle.run_flow.proofs.routine.Routine.based_on.Goals as goal

pub returns-then-not-has : goal.returns-then-not-has
returns-then-not-has c = λ id.
    let none : is_base_in c.self.inside.locals c.args.chain ≡ false = sym (c.self.invariant.its_bases c.args.chain) ∙ sym c.has.ensures ∙ c.if-not-has.true in
    subst (λ (f : Function). false ≡ is_based_on f c.args.chain id) c.self.view_is (sym (ap (λ g. g id) (none_based c.args.chain (insts_of c.self.inside.locals) none)))
