-- The text of a module that was read and is accepted preserves what the module does, where what is left is told: whatever the invocation and the answers to its accesses, wherever the module's meaning is defined, the text makes the same events in the same order, and ends exactly when the module ends.
use Rattle.std.proofs.Common.{◌≡◌, ◌++◌, ℕ, Bool, false, List, map, Some, None, sym, ap, subst, if◌then◌else◌}
use Rattle.spv_module.specs.State.{ModuleState}
use Rattle.conformance.specs.Rules.{Options}
use Rattle.module_check.specs.Judged.{IsFine as IsAccepted}
use Rattle.module_check.specs.ReadFrom.{IsReadFrom}
use Rattle.traces.specs.Invocations.{Invocation, IsInvocation}
use Rattle.traces.specs.Preservation.{PreservesEvents}
use Rattle.module_semantics.specs.Setting.{Setting}
use Rattle.module_semantics.specs.Run.{first_state, start, run_from}
use Rattle.glsl_ast.specs.Tree.{Decl, TranslationUnit}
use Rattle.glsl_semantics.specs.Run.{text_run}
use Rattle.text_rules.specs.Constants.{sizes}
use Rattle.function_text.specs.Functions.{function_decl}
use Rattle.unit_rules.specs.Unit.{source_of, IsUnitOf}
use Rattle.function_law.specs.First.{IsFirst}
use Rattle.function_law.specs.Texts.{FunctionText}
use Rattle.function_law.proofs.Preserving.{IsKnownUnit, unit_preserves}
use Rattle.preservation.specs.Preserves.{PreservesIn, Preserves}
use Rattle.typed_law.specs.Words.{IsSettingOfWords}
use Rattle.accepted_law.proofs.Accepted.{accepted_start}
use Rattle.text_law.specs.Names.{shape_of}
use Rattle.grammar_law.specs.Traced.{IsTraced}
use Rattle.text_law.proofs.Naming.Keys.{S, key, R}
use Rattle.grammar_law.proofs.Formed.Traced.{accepted_first}
use Rattle.text_law.proofs.Naming.Unit.{text, ordered, items, texts, functions_are, once_named}
use Rattle.text_law.proofs.Whole.Worded.{worded as worded_of}
use Rattle.text_law.proofs.Whole.Accepted.{ruled}
use Rattle.text_law.proofs.Whole.Entry.{p, entry_plan, entry_text, entry_one, entry_found, no_params, is_void_result, none_written, no_result, is_main}
use Rattle.text_law.proofs.Whole.Known.{all_known}
use Rattle.text_law.proofs.Whole.Left.{D, others, IsLeft}

module _ (bytes : List ℕ) (m : ModuleState) (o : Options) (read : IsReadFrom bytes m) (fine : IsAccepted m o) (unit : TranslationUnit) (u : IsUnitOf m o unit) where
  -- of one invocation
  module _ (inv : Invocation) (of_words : IsSettingOfWords (S m o unit u inv)) (left : IsLeft bytes m o read fine unit u inv of_words) where
    abbrev s : Setting
    s = S m o unit u inv

    abbrev decls : List Decl
    decls = items m o unit u inv ++ map function_decl (ordered m o unit u inv)

    abbrev T : FunctionText
    T = text m o unit u inv (p bytes m o read fine unit u inv)

    -- the first moment of a run
    first_is : start s ≡ Some (first_state s T.function) → ((D bytes m o read fine unit u inv).is_stuck ≡ false) × IsFirst s (IsTraced s) (D bytes m o read fine unit u inv).globals T
    first_is at =
        let plan = entry_plan bytes m o read fine unit u inv in (
          left.goes (first_state s T.function) at,
          record {
            no_parameters = no_params bytes m o read fine unit u inv;
            none_written = none_written bytes m o read fine unit u inv;
            no_result = no_result bytes m o read fine unit u inv;
            gives_none = void_result;
            of_module = entry_one bytes m o read fine unit u inv;
            fits = (accepted_start bytes m o read fine u.entry o.overrides inv (first_state s T.function) at).fit;
            more = accepted_first bytes m o read fine u.entry o.overrides inv of_words T.function (entry_one bytes m o read fine unit u inv) at;
            privates = left.privates plan.plan plan.among (first_state s T.function) at;
            outside = left.outside plan.plan plan.among;
          },
        )
      where
        void_result : T.naming.result ≡ None
        void_result = ap (λ (b : Bool). if b then None else Some (shape_of s o.overrides (R m o unit u inv) (key m o unit u inv) T.function.result.0)) (is_void_result bytes m o read fine unit u inv)

    known_unit : (answers : List (List ℕ)) → IsKnownUnit s (IsTraced s) (ruled bytes m o read fine unit u inv of_words) (sizes (source_of m o u.entry)) decls (others bytes m o read fine unit u inv) inv answers (texts m o unit u inv) T
    known_unit answers = record {
      functions = functions_are m o unit u inv;
      once = once_named m o unit u inv;
      known = all_known bytes m o read fine unit u inv of_words left;
      there = entry_text bytes m o read fine unit u inv;
      main = is_main bytes m o read fine unit u inv;
      entry = entry_found bytes m o read fine unit u inv;
      first = first_is;
    }

    pub invocation_preserved : PreservesIn m u.entry o.overrides unit inv
    invocation_preserved answers words =
        subst (λ (x : TranslationUnit). PreservesEvents (run_from s (start s) answers) (text_run x inv answers)) (sym u.unit_is)
        (unit_preserves s (IsTraced s) (ruled bytes m o read fine unit u inv of_words) (sizes (source_of m o u.entry)) decls (others bytes m o read fine unit u inv) inv answers (texts m o unit u inv) T (known_unit answers) (worded_of answers words))

  pub text_preserves : ((inv : Invocation) → IsInvocation inv → (of_words : IsSettingOfWords (S m o unit u inv)) × IsLeft bytes m o read fine unit u inv of_words) → Preserves m u.entry o.overrides unit
  text_preserves left = record { events = λ inv told. let w = left inv told in invocation_preserved inv w.0 w.1 }
