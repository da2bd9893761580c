-- Where a run says something, no quantity is above its largest number.
use Rattle.std.proofs.Common.{◌≡◌, ◌≢◌, ◌++◌, ℕ, List, inl, refl, subst, arith}
use Rattle.std.specs.Prelude.{Option, Some, None, string_bytes}
use Rattle.traces.specs.Runs.{waiting}
use Rattle.run_law.proofs.Settled.{settled}
use Rattle.spv_module.specs.State.{ModuleState}
use Rattle.profile_rules.specs.Entry.{chosen}
use Rattle.profile_rules.specs.declared.given.Given.{Given}
use Rattle.conformance.specs.Rules.{Options}
use Rattle.module_check.specs.Judged.{IsEntry}
use Rattle.module_semantics.specs.Setting.{Setting, setting}
use Rattle.module_semantics.specs.State.{Conf}
use Rattle.module_semantics.specs.Steps.{act}
use Rattle.module_semantics.specs.Run.{start, run_from}
use Rattle.dispatch_case.specs.Cases.{CaseParts}
use Rattle.dispatch_law.specs.Steady.{Branches, AreSteady}
use Rattle.dispatch_law.proofs.Branches.{branches}
use Rattle.dispatch_law.proofs.Single.{not_too_much}
use Rattle.group_sched.specs.Start.{setup_of}
use Rattle.command_line.specs.declared.endings.RunLimit.{RunLimit}
use Rattle.command_line.specs.declared.endings.RunLimit.TheVariants.{Invocations, Events}
use Rattle.run_module.specs.Runs.{given_words, workgroup_size, module_runs}
use Rattle.run_module.specs.Ends.{IsAboveFrom, IsSaidOf, IsAboveOf, IsRunFrom, IsRunOf}
use Rattle.run_module.specs.declared.run.CaseRun.{CaseRun}
use Rattle.run_module.specs.declared.run.CaseRun.TheVariants.{Said, Above}
use Rattle.run_module.proofs.Causes.{same_entry}

-- the runs of a module are steady
module _ (s : Setting) (steps : ℕ) where
  settled_by : (o : Option Conf) (answers more : List (List ℕ)) → (run_from s o answers steps).status ≢ waiting → run_from s o (answers ++ more) steps ≡ run_from s o answers steps
  settled_by None answers more flows = refl
  settled_by (Some c) answers more flows = settled Conf (act s) steps c answers more flows

  branches_by : (o : Option Conf) → Branches (λ answers. run_from s o answers steps)
  branches_by None answers = inl (λ words. refl)
  branches_by (Some c) answers = branches Conf (act s) steps c answers

module_steady : (m : ModuleState) (entry : ℕ) (pairs : List (ℕ × Given)) (steps : ℕ) → AreSteady (module_runs m entry pairs steps)
module_steady m entry pairs steps = record {
  settled = λ told answers more. settled_by (setting m entry pairs told) steps (start (setting m entry pairs told)) answers more;
  branches = λ told. branches_by (setting m entry pairs told) steps (start (setting m entry pairs told));
}

module _ (m : ModuleState) (o : Options) (c : CaseParts) (text : List ℕ) (of : IsSaidOf m o c text) where
  none_from : (l : RunLimit) → IsAboveFrom m o.overrides of.entry c l → ⊥
  none_from Invocations many = let few = of.said.few in omega (arith, few, many)
  none_from Events much =
      not_too_much (setup_of c (workgroup_size m (given_words o.overrides) of.entry) (given_words o.overrides)) (module_runs m of.entry o.overrides c.steps) (module_steady m of.entry o.overrides c.steps) c.first of.said.events of.said.store of.said.end of.said.comes of.said.light much

  none_above : (l : RunLimit) → IsAboveOf m o c l → ⊥
  none_above l above =
      let same : above.entry ≡ of.entry = same_entry (chosen o.entry m.heads) above.entry of.entry above.is of.is in
      none_from l (subst (λ (e : ℕ). IsAboveFrom m o.overrides e c l) same above.above)

-- what a run comes to from the entry point that is asked for
pub run_of : (m : ModuleState) (o : Options) (c : CaseParts) (entry : ℕ) → IsEntry m o entry → (r : CaseRun) → IsRunFrom m o.overrides entry c r → IsRunOf m o c r
run_of m o c entry is (Said text) said = let of : IsSaidOf m o c (string_bytes text) = record { entry = entry; is = is; said = said } in (of, none_above m o c (string_bytes text) of)
run_of m o c entry is (Above limit) above = record { entry = entry; is = is; above = above }
