-- A module that was read from bytes, and that the judges do not refuse, is conforming: so it keeps its values in the shapes of their types, whatever its overrides, its invocation and the answers to its accesses.
use Rattle.std.proofs.Common.{◌≡◌, ℕ, List, [], Some, sym, subst}
use Rattle.std.specs.Prelude.{Contains}
use Rattle.spv_words.specs.Words.{words}
use Rattle.spv_words.specs.Breaks.{NoRuleBroken}
use Rattle.spv_module.specs.State.{ModuleState}
use Rattle.spv_module.specs.declared.inst.Inst.{Inst}
use Rattle.spv_module.specs.declared.inst.Function.{Function}
use Rattle.spv_index.specs.Locals.{insts_of}
use Rattle.profile_rules.specs.declared.given.Given.{Given}
use Rattle.profile_rules.specs.DataRules.{Broken as BrokenData, data_rules}
use Rattle.profile_rules.specs.TypeRules.{broken}
use Rattle.profile_rules.specs.AccessRules.{Broken as BrokenAccess, access_rules}
use Rattle.conformance.specs.Rules.{Options}
use Rattle.module_check.specs.Judged.{IsFine}
use Rattle.module_check.specs.ReadFrom.{IsReadFrom}
use Rattle.plan_law.specs.InOrder.{IsAmong}
use Rattle.traces.specs.Invocations.{Invocation}
use Rattle.module_semantics.specs.Setting.{Setting, setting}
use Rattle.module_semantics.specs.State.{Conf}
use Rattle.module_semantics.specs.Steps.{step_kind, act}
use Rattle.module_semantics.specs.Run.{start}
use Rattle.fits_law.specs.State.{ModuleFits}
use Rattle.fits_law.specs.Typed.{IsTyped}
use Rattle.typed_law.specs.Conforms.{BreakNone, IsConforming}
use Rattle.typed_law.specs.Runs.{IsTypedState, LeadsOn, Reaches}
use Rattle.typed_law.proofs.Words.{conforms}
use Rattle.typed_law.proofs.Conforming.{uncut_words, conforming_inst, conforming_module, conforming_start, conforming_step, conforming_reached}

module _ (bytes : List ℕ) (m : ModuleState) (o : Options) (read : IsReadFrom bytes m) (fine : IsFine m o) where
  -- its words break none of the rules that this needs
  pub break_none : BreakNone (words bytes) o.entry
  break_none = record {
    uncut = uncut_words bytes read.fine;
    form = read.form.1;
    declared = subst (λ (n : ModuleState). NoRuleBroken (BrokenData n o.entry) data_rules) read.made fine.declared;
    typed = subst (λ (n : ModuleState). broken n ≡ []) read.made fine.typed.unbroken;
    accessed = subst (λ (n : ModuleState). NoRuleBroken (BrokenAccess n) access_rules) read.made fine.later.access;
  }

  -- its instructions are formed and in order, and results are apart
  pub accepted_conforming : IsConforming m o.entry
  accepted_conforming = subst (λ (n : ModuleState). IsConforming n o.entry) (sym read.made) (conforms (words bytes) o.entry break_none)

  module _ (function : ℕ) (overrides : List (ℕ × Given)) (inv : Invocation) where
    abbrev at : ModuleState → Setting
    at n = setting n function overrides inv

    -- each instruction of its functions is typed, its constants and variables fit their types
    pub accepted_inst : (f : Function) → Contains m.functions f → (i : Inst) → IsAmong i (insts_of f) → IsTyped (at m) f i (step_kind i.op)
    accepted_inst =
        subst (λ (n : ModuleState). (f : Function) → Contains n.functions f → (i : Inst) → IsAmong i (insts_of f) → IsTyped (at n) f i (step_kind i.op)) (sym read.made)
        (conforming_inst (words bytes) o.entry break_none function overrides inv)

    pub accepted_module : ModuleFits (at m)
    accepted_module = subst (λ (n : ModuleState). ModuleFits (at n)) (sym read.made) (conforming_module (words bytes) o.entry break_none function overrides inv)

    -- a run starts in a state that is typed, and each of its steps leads to such states
    pub accepted_start : (c : Conf) → start (at m) ≡ Some c → IsTypedState (at m) c
    accepted_start =
        subst (λ (n : ModuleState). (c : Conf) → start (at n) ≡ Some c → IsTypedState (at n) c) (sym read.made)
        (conforming_start (words bytes) o.entry break_none function overrides inv)

    pub accepted_step : (c : Conf) → IsTypedState (at m) c → LeadsOn (IsTypedState (at m)) (act (at m) c)
    accepted_step =
        subst (λ (n : ModuleState). (c : Conf) → IsTypedState (at n) c → LeadsOn (IsTypedState (at n)) (act (at n) c)) (sym read.made)
        (conforming_step (words bytes) o.entry break_none function overrides inv)

    -- so is each state that it comes to
    pub accepted_reached : (d c : Conf) → IsTypedState (at m) c → Reaches (at m) d c → IsTypedState (at m) d
    accepted_reached =
        subst (λ (n : ModuleState). (d c : Conf) → IsTypedState (at n) c → Reaches (at n) d c → IsTypedState (at n) d) (sym read.made)
        (conforming_reached (words bytes) o.entry break_none function overrides inv)
