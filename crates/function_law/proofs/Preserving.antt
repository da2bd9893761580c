-- A text preserves what its module does, where of each of its functions it is known what its blocks and edges do.
use Rattle.std.proofs.Common.{◌≡◌, ◌⊎◌, ◌+◌, ◌++◌, ℕ, Bool, true, false, List, [], map, reverse, codes, Option, Some, None, inl, inr, refl, sym, ap, ◌∙◌, subst}
use Rattle.spv_module.specs.declared.inst.Function.{Function}
use Rattle.profile_rules.specs.Entry.{function_of}
use Rattle.traces.specs.Runs.{Status, running, ended, waiting, undefined, Run, made, exec, Supplied, supplied}
use Rattle.traces.specs.Events.{Event}
use Rattle.traces.specs.Simulation.{IsPrefix}
use Rattle.traces.specs.Preservation.{TextRun, IsUnderWay as IsOn, MatchesOrFails, PreservesEvents}
use Rattle.traces.specs.Invocations.{Invocation}
use Rattle.traces.proofs.Clauses.{preserves_from}
use Rattle.module_semantics.specs.Setting.{Setting}
use Rattle.module_semantics.specs.State.{Conf}
use Rattle.module_semantics.specs.Run.{have_values, first_state, start_by, start, run_from}
use Rattle.glsl_ast.specs.Tree.{Text, TypeName, stmts_in, Param, Decl, translation_unit}
use Rattle.glsl_ast.specs.declared.items.Size.{Size}
use Rattle.glsl_semantics.specs.Items.{Declared, declared_by}
use Rattle.glsl_semantics.specs.Run.{function_run, calls_of, ended_by, run_if, text_run}
use Rattle.agree_law.specs.Answers.{AreWorded}
use Rattle.agree_law.proofs.Machine.{machine, machine_runs}
use Rattle.function_law.specs.UnderWay.{IsRuled}
use Rattle.function_law.specs.Texts.{FunctionText, decl_of, IsText, AreOnceNames}
use Rattle.function_law.specs.First.{IsFirst}
use Rattle.function_law.proofs.AllFunctions.{IsRun, in_text, AllKnown, all_run}
use Rattle.function_law.proofs.FirstRun.{run_matches}

-- a run without a meaning from the start is preserved by any text
undefined_preserved : (of_text : ℕ → TextRun) → PreservesEvents (λ n. made [] undefined) of_text
undefined_preserved of_text = record {
  ends = λ n e is. let never : undefined ≡ ended = ap (λ (r : Run). r.status) is in cc;
  ends_only = λ k e is. inr (record { at = 0; events = []; is = refl });
  goes_on = λ n e s on is. by_status n e s on is;
  never_stuck = λ defined k is. defined (record { at = 0; events = []; is = refl });
  makes_no_more = λ k. inr (record { at = 0; events = []; is = refl });
}
  where
    by_status : (n : ℕ) (e : List Event) (s : Status) → IsOn s → made [] undefined ≡ made e s → IsPrefix e (of_text (n + 1)).events
    by_status n e s (inl on) is = let never : undefined ≡ running = ap (λ (r : Run). r.status) is ∙ on in cc
    by_status n e s (inr on) is = let never : undefined ≡ waiting = ap (λ (r : Run). r.status) is ∙ on in cc

-- the state at the start, where there is one
start_is : (s : Setting) (f : Function) → function_of s.of.functions s.entry ≡ Some f → (start s ≡ Some (first_state s f)) ⊎ (start s ≡ None)
unfolding start
start_is s f is = by_values (have_values s) (ap (start_by s (have_values s)) is) refl
  where
    by_values : (b : Bool) → start_by s (have_values s) (function_of s.of.functions s.entry) ≡ start_by s (have_values s) (Some f) → have_values s ≡ b → (start_by s (have_values s) (function_of s.of.functions s.entry) ≡ Some (first_state s f)) ⊎ (start_by s (have_values s) (function_of s.of.functions s.entry) ≡ None)
    by_values true e values = inl (e ∙ ap (λ t. start_by s t (Some f)) values)
    by_values false e values = inr (e ∙ ap (λ t. start_by s t (Some f)) values)

module _ (s : Setting) (More : Conf → Type 0) (ruled : IsRuled s More) (sizes : List Size) (items others : List Decl) (inv : Invocation) (answers : List (List ℕ)) (ts : List FunctionText) (t : FunctionText) where
  abbrev d : Declared
  d = declared_by inv sizes items

  -- What is asked of a text: its functions stand in the order of calls, and of each it is known what its blocks and edges do; its first state is the module's.
  pub record IsKnownUnit : Type 1 where
    pub functions : reverse items ≡ map decl_of ts ++ others
    pub once : AreOnceNames ts
    pub known : (k : ℕ) → AllKnown d.program k s More ruled others ts
    pub there : IsText t ts
    pub main : t.name ≡ codes "main"
    pub entry : function_of s.of.functions s.entry ≡ Some t.function
    pub first : start s ≡ Some (first_state s t.function) → (d.is_stuck ≡ false) × IsFirst s More d.globals t

  module _ (unit : IsKnownUnit) where
    text_is : (first : IsFirst s More d.globals t) (k : ℕ) (run : IsRun d.program k s More ruled (in_text d.program k s More ruled others ts) t) → d.is_stuck ≡ false
        → text_run (translation_unit sizes items) inv answers k ≡ ended_by (function_run d.program k run.later None [] (stmts_in t.statements) [] (record { frames = []; globals = d.globals; answers = answers }))
    text_is first k run fine =
        ap (λ (b : Bool). run_if d k items answers b) fine
        ∙ (ap (λ (l : List Decl). ended_by (calls_of d.program k l (codes "main") [] (record { frames = []; globals = d.globals; answers = answers }))) unit.functions
        ∙ (ap (λ (x : Text). ended_by (calls_of d.program k (map decl_of ts ++ others) x [] (record { frames = []; globals = d.globals; answers = answers }))) (sym unit.main)
        ∙ (ap ended_by (run.runs [] (record { frames = []; globals = d.globals; answers = answers }))
        ∙ (ap (λ (o : Option TypeName). ended_by (function_run d.program k run.later o t.parameters (stmts_in t.statements) [] (record { frames = []; globals = d.globals; answers = answers }))) first.no_result
        ∙ ap (λ (qs : List Param). ended_by (function_run d.program k run.later None qs (stmts_in t.statements) [] (record { frames = []; globals = d.globals; answers = answers }))) first.none_written))))

    pub unit_preserves : AreWorded answers → PreservesEvents (run_from s (start s) answers) (text_run (translation_unit sizes items) inv answers)
    unit_preserves worded = elim (start_is s t.function unit.entry) [
      | inl there ↦ subst (λ o. PreservesEvents (run_from s o answers) (text_run (translation_unit sizes items) inv answers)) (sym there) (from_first (unit.first there))
      | inr none ↦ subst (λ o. PreservesEvents (run_from s o answers) (text_run (translation_unit sizes items) inv answers)) (sym none) (undefined_preserved (text_run (translation_unit sizes items) inv answers))
    ]
      where
        from_first : (d.is_stuck ≡ false) × IsFirst s More d.globals t → PreservesEvents (run_from s (Some (first_state s t.function)) answers) (text_run (translation_unit sizes items) inv answers)
        from_first first = subst (λ (r : ℕ → Run). PreservesEvents r (text_run (translation_unit sizes items) inv answers)) (λ i n. machine_runs s n (supplied (first_state s t.function) answers) worded i) (preserves_from (Supplied Conf) (machine s) (supplied (first_state s t.function) answers) (text_run (translation_unit sizes items) inv answers) (λ k.
            let run : IsRun d.program k s More ruled (in_text d.program k s More ruled others ts) t = all_run d.program k s More ruled others ts unit.once (unit.known k) t unit.there in
            subst (MatchesOrFails (λ n. exec (machine s) n (supplied (first_state s t.function) answers)) k) (sym (text_is first.1 k run first.0))
            (run_matches d.program k s More ruled d.globals t first.1 answers run.later run.IsFlag run.written)))
