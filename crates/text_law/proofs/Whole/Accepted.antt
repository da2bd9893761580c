-- What the law of functions asks of the planned functions of an accepted module, but of what their blocks and edges do: how they are formed, and how their names are given.
use Rattle.std.proofs.Common.{◌≡◌, ◌<◌, ◌^◌, ℕ, true, false, List, length, subst}
use Rattle.std.proofs.lemmas.List.Elements.{All-contains}
use Rattle.spv_words.specs.Words.{words}
use Rattle.spv_module.specs.Lists.{module_of}
use Rattle.spv_module.specs.State.{ModuleState}
use Rattle.spv_module.specs.declared.inst.Inst.{Inst}
use Rattle.spv_module.specs.declared.inst.Function.{Function}
use Rattle.spv_index.specs.Locals.{insts_of}
use Rattle.conformance.specs.Rules.{Options}
use Rattle.module_check.specs.Judged.{IsFine}
use Rattle.module_check.specs.ReadFrom.{IsReadFrom}
use Rattle.traces.specs.Invocations.{Invocation}
use Rattle.glsl_ast.specs.Tree.{TranslationUnit}
use Rattle.function_plan.specs.Phis.{pairs}
use Rattle.function_text.specs.Functions.{FunctionPlan, written}
use Rattle.unit_rules.specs.Unit.{IsUnitOf}
use Rattle.agree_law.specs.Agree.{Naming, AreApart}
use Rattle.agree_law.specs.Blocks.{IsOf}
use Rattle.call_law.specs.Known.{IsFunctionOf}
use Rattle.function_law.specs.UnderWay.{IsRuled}
use Rattle.function_law.specs.Passed.{AreOnceIds}
use Rattle.typed_law.specs.Conforms.{IsFormed, IsConforming}
use Rattle.typed_law.specs.Words.{IsSettingOfWords}
use Rattle.typed_law.proofs.Values.{inside}
use Rattle.accepted_law.proofs.Accepted.{accepted_conforming}
use Rattle.accepted_law.proofs.Small.{args_in, read_operands}
use Rattle.grammar_law.proofs.Ruled.Ruled.{contains_of, among_of}
use Rattle.claim_law.specs.Claimed.{IsIn}
use Rattle.text_law.specs.Alone.{AreAlone}
use Rattle.grammar_law.specs.Declares.{DeclaresFirst}
use Rattle.text_law.specs.Ends.{HasLabels}
use Rattle.grammar_law.specs.Formed.{IsFormedFunction}
use Rattle.grammar_law.specs.Traced.{IsTraced}
use Rattle.text_law.proofs.Naming.Alone.{are_alone, kept_once}
use Rattle.grammar_law.proofs.Formed.Declares.{declares_first}
use Rattle.text_law.proofs.Naming.Fine.{each_found}
use Rattle.grammar_law.proofs.Formed.Formed.{formed}
use Rattle.text_law.proofs.Naming.Keys.{S, key, R, names, are_apart}
use Rattle.text_law.proofs.Naming.Labels.{labels_there}
use Rattle.grammar_law.proofs.Formed.Parameters.{parameters_once}
use Rattle.grammar_law.proofs.Formed.Traced.{accepted_traced}
use Rattle.grammar_law.proofs.Grammar.FewPairs.{few_pairs}
use Rattle.text_law.proofs.Naming.Functions.{function_of_plan}

module _ (bytes : List ℕ) (m : ModuleState) (o : Options) (read : IsReadFrom bytes m) (fine : IsFine m o) (unit : TranslationUnit) (u : IsUnitOf m o unit) (inv : Invocation) where
  pub right : IsConforming m o.entry
  right = accepted_conforming bytes m o read fine

  pub ruled : IsSettingOfWords (S m o unit u inv) → IsRuled (S m o unit u inv) (IsTraced (S m o unit u inv))
  ruled of_words = accepted_traced bytes m o read fine u.entry o.overrides inv of_words

  -- of a function of the module
  module _ (f : Function) (one : IsFunctionOf f m.functions) where
    of_words : IsFunctionOf f (module_of (words bytes)).functions
    of_words = subst (λ (n : ModuleState). IsFunctionOf f n.functions) read.made one

    pub formed_so : IsFormedFunction f
    formed_so = formed (words bytes) read.form.1.1.1.1.0 f of_words

    pub declares_so : DeclaresFirst f.blocks
    declares_so = declares_first (words bytes) read.form.1.1.1.1.0 f of_words

    pub once_so : AreOnceIds f.params
    once_so = parameters_once (words bytes) read.form.1.1.1.0 f of_words (inside (S m o unit u inv) o.entry right f (contains_of m.functions f one)).some

    pub few_so : (i : Inst) → IsOf i (insts_of f) → IsFormed i
    few_so i there = (inside (S m o unit u inv) o.entry right f (contains_of m.functions f one)).formed i (among_of (insts_of f) i there)

    pub labels_so : HasLabels f
    labels_so = labels_there (S m o unit u inv) o.entry right f one

    pub alone_so : AreAlone m.globals f
    alone_so = are_alone (S m o unit u inv) o.entry right f one

  -- of a plan
  module _ (p : FunctionPlan) (among : IsIn p u.plans) where
    abbrev pub N : Naming
    N = names m o unit u inv p

    pub is_one : IsFunctionOf (written p) m.functions
    is_one = function_of_plan bytes m o read fine unit u p among

    pub few_pairs_so : (b t : ℕ) → length (pairs m.globals p.scope.form (written p) b t) < 2 ^ 32
    few_pairs_so = few_pairs m.globals p.scope.form (written p) (All-contains (λ (f : Function). args_in (insts_of f) < 2 ^ 32) m.functions (written p) (read_operands bytes m read) (contains_of m.functions (written p) is_one))

    pub apart_so : AreApart N
    apart_so = are_apart m o unit u inv p among (alone_so (written p) is_one) (each_found m.globals m.globals right.results.each)

    pub kept_so : (q k : ℕ) → N.is_kept q k ≡ true → N.is_outer q ≡ false
    kept_so q k on = (kept_once (S m o unit u inv) o.overrides (R m o unit u inv) (key m o unit u inv) (written p) p.graph p.scope.form p.scope.carried (alone_so (written p) is_one) q k on).0
