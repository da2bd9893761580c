-- Why a case is not run.
use Rattle.std.proofs.Common.{◌≡◌, ℕ, ◌∙◌, sym, subst}
use Rattle.std.specs.Prelude.{Option, Some, None, IsSomeAnd}
use Rattle.spv_words.specs.declared.rule.Fault.{Fault}
use Rattle.spv_words.specs.declared.rule.Fault.TheVariants.{Refused, Limit, Memory}
use Rattle.spv_words.specs.declared.rule.Limit.TheVariants.{Bytes, Bound, Depth, Types, Parts, Calls, Leaves}
use Rattle.spv_module.specs.State.{ModuleState}
use Rattle.spv_module.specs.declared.inst.Inst.{Inst}
use Rattle.spv_decor.specs.Rows.{word}
use Rattle.profile_rules.specs.Calls.{IsWithinCalls}
use Rattle.profile_rules.specs.Entry.{chosen}
use Rattle.profile_check.specs.Data.{overridden}
use Rattle.constant_values.specs.Refused.{IsCause}
use Rattle.conformance.specs.Rules.{Options}
use Rattle.module_check.specs.Judged.{IsRead, IsFine, IsEntry, IsFault, by_types, by_later, by_rest}
use Rattle.module_check.proofs.Causes.{entry_is_function}
use Rattle.module_check.proofs.OfBytes.{own_functions, called_functions}
use Rattle.accepted_law.proofs.Small.{read_few}
use Rattle.memory_places.specs.Conditions.{CanRun}

pub same_entry : (o : Option Inst) (a b : ℕ) → IsSomeAnd o (λ (i : Inst). a ≡ word i 1) → IsSomeAnd o (λ (i : Inst). b ≡ word i 1) → a ≡ b
same_entry None a b h k = absurd h
same_entry (Some i) a b h k = h ∙ sym k

-- a module in which the judges find no fault can run from its entry point
pub can_run : (m : ModuleState) (o : Options) (entry : ℕ) → IsRead m → IsFine m o → IsEntry m o entry → CanRun m entry
can_run m o entry read fine is = record {
  own_ids = own_functions m read;
  callees = called_functions m read fine.typed.unbroken;
  entry_is = entry_is_function m o entry fine.declared is;
  acyclic = fine.later.acyclic;
  within = subst (IsWithinCalls m.functions) (same_entry (chosen o.entry m.heads) fine.entry entry fine.is is) fine.later.calls;
  types = fine.typed.within;
  few = read_few read.bytes m read.is;
}

-- what refuses the values of constants refuses the module
pub cause_fault : (m : ModuleState) (o : Options) (fault : Fault) → IsFine m o → IsCause m o.overrides fault → IsFault m o fault
cause_fault m o (Refused r) fine h = by_later fine.declared fine.typed fine.entry fine.is (by_rest (overridden h))
cause_fault m o (Limit Leaves) fine h = by_later fine.declared fine.typed fine.entry fine.is (by_rest h)
cause_fault m o (Limit Bytes) fine h = by_types fine.declared h
cause_fault m o (Limit Bound) fine h = by_types fine.declared h
cause_fault m o (Limit Depth) fine h = by_types fine.declared h
cause_fault m o (Limit Types) fine h = by_types fine.declared h
cause_fault m o (Limit Parts) fine h = by_types fine.declared h
cause_fault m o (Limit Calls) fine h = by_types fine.declared h
cause_fault m o Memory fine h = by_types fine.declared tt
