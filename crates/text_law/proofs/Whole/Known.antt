-- Of the functions of an accepted module's text it is known that they do what their functions do, each given those that stand before it.
use Rattle.std.proofs.Common.{◌≡◌, ◌++◌, ℕ, true, List, [], ◌∷◌, refl, sym, ◌∙◌, subst, append_assoc, append-nil}
use Rattle.std.proofs.lemmas.List.Elements.{All-contains}
use Rattle.spv_ops.specs.Opcode.{is, number}
use Rattle.spv_ops.specs.OpGroups.{group_of}
use Rattle.spv_ops.specs.declared.Op.{Op}
use Rattle.spv_ops.specs.declared.Op.TheVariants as code
use Rattle.spv_module.specs.State.{ModuleState}
use Rattle.spv_module.specs.declared.inst.Id.{Id as IdOf}
use Rattle.spv_module.specs.declared.inst.Function.{Function}
use Rattle.spv_index.specs.Locals.{insts_of}
use Rattle.structure_rules.specs.Graph.{graph}
use Rattle.nest_place.specs.Nests.{IsSound}
use Rattle.conformance.specs.Rules.{Options}
use Rattle.module_check.specs.Structure.{IsStructured}
use Rattle.module_check.specs.Judged.{IsFine as IsAccepted}
use Rattle.module_check.specs.ReadFrom.{IsReadFrom}
use Rattle.traces.specs.Invocations.{Invocation}
use Rattle.module_semantics.specs.Setting.{Setting}
use Rattle.module_semantics.specs.Steps.{call, step_kind}
use Rattle.name_alloc.specs.Naming.{name_of}
use Rattle.glsl_ast.specs.Tree.{TranslationUnit}
use Rattle.glsl_semantics.specs.Expressions.{Program}
use Rattle.function_text.specs.Functions.{FunctionPlan, written, body_text}
use Rattle.unit_rules.specs.Unit.{source_of, IsUnitOf}
use Rattle.agree_law.specs.Blocks.{IsOf}
use Rattle.grammar_law.proofs.Height.Closed.{sound-of}
use Rattle.function_law.specs.Texts.{FunctionText, IsFine}
use Rattle.function_law.proofs.AllFunctions.{IsKnownText, AllKnown}
use Rattle.function_law.proofs.OneFunction.{IsWritten}
use Rattle.call_law.specs.Known.{IsFunctionOf}
use Rattle.typed_law.specs.Words.{IsSettingOfWords}
use Rattle.grammar_law.proofs.Ruled.Ruled.{contains_of}
use Rattle.claim_law.specs.Claimed.{IsIn}
use Rattle.grammar_law.specs.Traced.{IsTraced}
use Rattle.text_law.proofs.Naming.Alone.{names_memory}
use Rattle.text_law.proofs.Naming.Fine.{is_fine}
use Rattle.text_law.proofs.Naming.Firsts.{variables_first}
use Rattle.text_law.proofs.Naming.Keys.{S, key, R}
use Rattle.grammar_law.proofs.Formed.Labelled.{accepted_labels}
use Rattle.text_law.proofs.Naming.Literals.{literals_once}
use Rattle.text_law.proofs.Naming.Once.{tops_named}
use Rattle.text_law.proofs.Naming.Planned.{leave_inside, flags_apart}
use Rattle.text_law.proofs.Naming.Unit.{text, texts}
use Rattle.text_law.proofs.Naming.Whole.{IsKnownPlan, function_written}
use Rattle.text_law.proofs.Whole.Accepted.{right, ruled, N, is_one, formed_so, declares_so, once_so, few_so, labels_so, alone_so, apart_so, kept_so}
use Rattle.text_law.proofs.Naming.Functions.{planned_of}
use Rattle.text_law.proofs.Whole.Left.{P, others, calls_in, StandBefore, HasBlocks, IsLeft}
use Rattle.text_law.proofs.Whole.Order.{texts_of, texts_more, text_of_plans, plan_there, callee_there}

call_code : (o : Op) → step_kind o ≡ call → is o code.FunctionCall ≡ true
unfolding step_kind group_of number
call_code code.FunctionCall e = refl
call_code o e = cc

module _ (bytes : List ℕ) (m : ModuleState) (o : Options) (read : IsReadFrom bytes m) (fine : IsAccepted m o) (unit : TranslationUnit) (u : IsUnitOf m o unit) (inv : Invocation) (of_words : IsSettingOfWords (S m o unit u inv)) (left : IsLeft bytes m o read fine unit u inv of_words) where
  abbrev s : Setting
  s = S m o unit u inv

  abbrev T : FunctionPlan → FunctionText
  T = text m o unit u inv

  abbrev Prog : Program
  Prog = P bytes m o read fine unit u inv

  sound_so : (f : Function) → IsFunctionOf f m.functions → IsSound (graph f)
  sound_so f one = sound-of f (All-contains IsStructured m.functions f fine.later.structure (contains_of m.functions f one)).unbroken

  -- the text of a plan, given those before it
  module _ (k : ℕ) (p : FunctionPlan) (among : IsIn p u.plans) (ts : List FunctionText) (before : StandBefore bytes m o read fine unit u inv of_words k p ts) where
    blocks : HasBlocks bytes m o read fine unit u inv of_words k p among (left.IsFlag p) ts
    blocks = left.blocks k p among ts before

    abbrev f : Function
    f = written p

    abbrev one : IsFunctionOf f m.functions
    one = is_one bytes m o read fine unit u inv p among

    known_plan : IsKnownPlan Prog (calls_in bytes m o read fine unit u inv of_words k ts) k s (ruled bytes m o read fine unit u inv of_words) (N bytes m o read fine unit u inv p among) (apart_so bytes m o read fine unit u inv p among) (kept_so bytes m o read fine unit u inv p among) (left.IsFlag p)
        (source_of m o u.entry) (name_of u.claimed) f (formed_so bytes m o read fine unit u inv f one) (few_so bytes m o read fine unit u inv f one) p (planned_of bytes m o read fine unit u p among) refl
    known_plan = record {
      sound = sound_so f one;
      labels = labels_so bytes m o read fine unit u inv f one;
      once = literals_once s o.entry (right bytes m o read fine unit u inv) f one;
      flags = flags_apart m o unit u p among (accepted_labels bytes m o read fine f one);
      inside = leave_inside (graph f);
      says = left.says p among (calls_in bytes m o read fine unit u inv of_words k ts);
      tops = tops_named m o unit u inv p among o.entry (right bytes m o read fine unit u inv) one;
      variables = variables_first m o unit u inv p among (alone_so bytes m o read fine unit u inv f one) (declares_so bytes m o read fine unit u inv f one);
      names = names_memory s o.overrides (R m o unit u inv) (key m o unit u inv) f p.graph p.scope.form p.scope.carried;
      asked = blocks.asked;
    }

    known_written : IsWritten Prog (calls_in bytes m o read fine unit u inv of_words k ts) k s (IsTraced s) (ruled bytes m o read fine unit u inv of_words) (N bytes m o read fine unit u inv p among) f (left.IsFlag p) (body_text p)
    known_written =
        function_written Prog (calls_in bytes m o read fine unit u inv of_words k ts) k s (ruled bytes m o read fine unit u inv of_words) (N bytes m o read fine unit u inv p among) (apart_so bytes m o read fine unit u inv p among) (kept_so bytes m o read fine unit u inv p among) (left.IsFlag p)
        (source_of m o u.entry) (name_of u.claimed) f (formed_so bytes m o read fine unit u inv f one) (few_so bytes m o read fine unit u inv f one) p (planned_of bytes m o read fine unit u p among) refl known_plan

  -- its names and types are as the law asks
  pub fine_text : (p : FunctionPlan) → IsIn p u.plans → IsFine Prog (T p)
  fine_text p among =
      let one = is_one bytes m o read fine unit u inv p among in
      is_fine m o unit u inv o.entry (right bytes m o read fine unit u inv) Prog p among one (left.types p among) (once_so bytes m o read fine unit u inv (written p) one)

  -- so of each function in the order of calls
  module _ (k : ℕ) where
    abbrev Known : List FunctionText → Type 1
    Known ts = AllKnown Prog k s (IsTraced s) (ruled bytes m o read fine unit u inv of_words) (others bytes m o read fine unit u inv) ts

    known_text : (before rest : List IdOf) (n : IdOf) (whole : u.order ≡ before ++ n ∷ rest)
        → IsKnownText Prog k s (IsTraced s) (ruled bytes m o read fine unit u inv of_words) (others bytes m o read fine unit u inv) (texts_of bytes m o read fine unit u inv before) (T (plan_there bytes m o read fine unit u inv before rest n whole).plan)
    known_text before rest n whole =
        let w = plan_there bytes m o read fine unit u inv before rest n whole in
        record {
          IsFlag = left.IsFlag w.plan;
          written = λ runs. known_written k w.plan w.among (texts_of bytes m o read fine unit u inv before) (record {
            runs = runs;
            fines = λ v is. let q = text_of_plans bytes m o read fine unit u inv before v is in subst (IsFine Prog) q.2 (fine_text q.0 q.1);
            callees = λ i i_in kind. let q = callee_there bytes m o read fine unit u inv before rest n whole i (subst (λ (g : Function). IsOf i (insts_of g)) w.of_it i_in) (call_code i.op kind) in (q.plan, q.among, q.found, q.before_it, q.other);
          });
        }

    known_on : (before rest : List IdOf) → u.order ≡ before ++ rest → Known (texts_of bytes m o read fine unit u inv before) → Known (texts_of bytes m o read fine unit u inv u.order)
    known_on before [] whole known = subst (λ (ns : List IdOf). Known (texts_of bytes m o read fine unit u inv ns)) (sym (whole ∙ append-nil before)) known
    known_on before (n ∷ rest) whole known =
        let w = plan_there bytes m o read fine unit u inv before rest n whole in
        known_on (before ++ n ∷ []) rest (whole ∙ sym (append_assoc before (n ∷ []) rest))
        (subst Known (sym (texts_more bytes m o read fine unit u inv before n w.plan w.at)) (known_text before rest n whole, known))

    pub all_known : Known (texts m o unit u inv)
    all_known = known_on [] u.order refl tt
