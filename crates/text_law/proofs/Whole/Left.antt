-- What is still asked of the text of an accepted module, of one invocation, so that it does what the module does: of what stands outside of functions, and of what blocks and edges do.
use Rattle.std.proofs.Common.{◌≡◌, ◌++◌, ℕ, true, false, List, map, reverse, Option, Some, None, refl}
use Rattle.spv_module.specs.State.{ModuleState}
use Rattle.spv_module.specs.declared.inst.Inst.{Inst}
use Rattle.spv_index.specs.Locals.{insts_of}
use Rattle.conformance.specs.Rules.{Options}
use Rattle.module_check.specs.Judged.{IsFine as IsAccepted}
use Rattle.module_check.specs.ReadFrom.{IsReadFrom}
use Rattle.profile_rules.specs.Entry.{function_of}
use Rattle.traces.specs.Invocations.{Invocation}
use Rattle.traces.specs.Outcomes.{Result}
use Rattle.module_semantics.specs.Setting.{Setting}
use Rattle.module_semantics.specs.State.{Held, Frame, Conf}
use Rattle.module_semantics.specs.Operands.{arg}
use Rattle.module_semantics.specs.Steps.{call, step_kind}
use Rattle.module_semantics.specs.Accesses.{initial_private}
use Rattle.module_semantics.specs.Run.{start}
use Rattle.name_alloc.specs.Naming.{name_of}
use Rattle.glsl_ast.specs.Tree.{Text, Decl, TranslationUnit}
use Rattle.glsl_semantics.specs.Shapes.{Typed}
use Rattle.glsl_semantics.specs.States.{State, found}
use Rattle.glsl_semantics.specs.Expressions.{Program, Argument}
use Rattle.glsl_semantics.specs.Items.{Declared, declared_by}
use Rattle.text_rules.specs.Constants.{sizes}
use Rattle.function_text.specs.Functions.{FunctionPlan, written, function_decl}
use Rattle.unit_rules.specs.Unit.{source_of, IsUnitOf}
use Rattle.agree_law.specs.Agree.{variable_with}
use Rattle.agree_law.specs.Blocks.{IsOf}
use Rattle.function_law.specs.Texts.{FunctionText, IsText, IsFine}
use Rattle.function_law.specs.Tops.{AllSay}
use Rattle.function_law.specs.UnderWay.{IsUnderWay}
use Rattle.function_law.proofs.AllFunctions.{IsRun, in_text}
use Rattle.function_law.proofs.PlannedText.{tops_of}
use Rattle.function_law.proofs.UnderWay.{way_kept}
use Rattle.typed_law.specs.Words.{IsSettingOfWords}
use Rattle.claim_law.specs.Claimed.{IsIn}
use Rattle.grammar_law.specs.Traced.{IsTraced}
use Rattle.text_law.specs.Types.{HasTypesOfText}
use Rattle.text_law.proofs.Naming.Keys.{S, key}
use Rattle.text_law.proofs.Naming.Unit.{text, ordered, items}
use Rattle.text_law.proofs.Naming.Whole.{stands_reached}
use Rattle.text_law.proofs.Naming.Written.{AreAsked}
use Rattle.text_law.proofs.Naming.Functions.{planned_of}
use Rattle.text_law.proofs.Whole.Accepted.{ruled, N, is_one, formed_so, few_so, labels_so, apart_so, kept_so}

module _ (bytes : List ℕ) (m : ModuleState) (o : Options) (read : IsReadFrom bytes m) (fine : IsAccepted m o) (unit : TranslationUnit) (u : IsUnitOf m o unit) (inv : Invocation) where
  abbrev s : Setting
  s = S m o unit u inv

  -- what the items of the text declare, and those that are no functions, the last one first
  abbrev pub D : Declared
  D = declared_by inv (sizes (source_of m o u.entry)) (items m o unit u inv ++ map function_decl (ordered m o unit u inv))

  abbrev pub P : Program
  P = D.program

  abbrev pub others : List Decl
  others = reverse (items m o unit u inv)

  -- where its constants and the invocation are of words
  module _ (of_words : IsSettingOfWords s) where
    -- what calls do where the functions that stand before have these texts, the last one first
    abbrev pub calls_in : ℕ → List FunctionText → Text → List Argument → State → Result (Option Typed × State)
    calls_in k ts = in_text P k s (IsTraced s) (ruled bytes m o read fine unit u inv of_words) others ts

    -- these run as their functions do, and each function that a planned one calls is among them, and is not the entry's
    pub record StandBefore (k : ℕ) (p : FunctionPlan) (ts : List FunctionText) : Type 1 where
      pub runs : (v : FunctionText) → IsText v ts → IsRun P k s (IsTraced s) (ruled bytes m o read fine unit u inv of_words) (calls_in k ts) v
      pub fines : (v : FunctionText) → IsText v ts → IsFine P v
      pub callees : (i : Inst) → IsOf i (insts_of (written p)) → step_kind i.op ≡ call → (q : FunctionPlan) × IsIn q u.plans × (function_of m.functions (arg i 0) ≡ Some (written q)) × IsText (text m o unit u inv q) ts × (arg i 0 ≡ u.entry → ⊥)

    -- what the law asks of the blocks and edges of a planned function, where these names are flags
    pub record HasBlocks (k : ℕ) (p : FunctionPlan) (among : IsIn p u.plans) (IsFlag : Text → Type 0) (ts : List FunctionText) : Type 1 where
      pub asked : (IsLent : ℕ → ℕ → Type 0) (first : List (Frame × ℕ)) (given : ℕ → Option Held)
          → AreAsked P (calls_in k ts) k (N bytes m o read fine unit u inv p among) (apart_so bytes m o read fine unit u inv p among) (kept_so bytes m o read fine unit u inv p among) s
          (IsUnderWay s (IsTraced s) IsLent first (written p) given) (way_kept s (IsTraced s) (ruled bytes m o read fine unit u inv of_words) IsLent first (written p) given) (written p)
          (formed_so bytes m o read fine unit u inv (written p) (is_one bytes m o read fine unit u inv p among)) (few_so bytes m o read fine unit u inv (written p) (is_one bytes m o read fine unit u inv p among))
          (labels_so bytes m o read fine unit u inv (written p) (is_one bytes m o read fine unit u inv p among)) p refl
          (stands_reached P (calls_in k ts) k s (ruled bytes m o read fine unit u inv of_words) (N bytes m o read fine unit u inv p among) (apart_so bytes m o read fine unit u inv p among) (kept_so bytes m o read fine unit u inv p among) IsFlag (source_of m o u.entry) (name_of u.claimed) (written p)
          (formed_so bytes m o read fine unit u inv (written p) (is_one bytes m o read fine unit u inv p among)) (few_so bytes m o read fine unit u inv (written p) (is_one bytes m o read fine unit u inv p among)) p (planned_of bytes m o read fine unit u p among) refl IsLent first given) IsFlag

    pub record IsLeft : Type 1 where
      -- the first value of each Private variable has a meaning where the module's values have, and what stands outside of functions is declared so: Private variables, other names, types, and the variables at the top of functions
      pub goes : (c : Conf) → start s ≡ Some c → D.is_stuck ≡ false
      pub privates : (p : FunctionPlan) (among : IsIn p u.plans) (c : Conf) → start s ≡ Some c → (n : ℕ) → (N bytes m o read fine unit u inv p among).is_private n ≡ true
          → found D.globals ((N bytes m o read fine unit u inv p among).name n) ≡ Some (variable_with ((N bytes m o read fine unit u inv p among).shape n) (initial_private s n))
      pub outside : (p : FunctionPlan) (among : IsIn p u.plans) (x : Text) → (N bytes m o read fine unit u inv p among).is_outside x ≡ true → found D.globals x ≡ None
      pub types : (p : FunctionPlan) → IsIn p u.plans → HasTypesOfText P s o.overrides (key m o unit u inv) (written p)
      pub says : (p : FunctionPlan) (among : IsIn p u.plans) (calls : Text → List Argument → State → Result (Option Typed × State)) → AllSay P calls (N bytes m o read fine unit u inv p among) (tops_of p.scope (N bytes m o read fine unit u inv p among) s (written p).blocks)
      -- what blocks and edges do, and which names are flags
      pub IsFlag : FunctionPlan → Text → Type 0
      pub blocks : (k : ℕ) (p : FunctionPlan) (among : IsIn p u.plans) (ts : List FunctionText) → StandBefore k p ts → HasBlocks k p among (IsFlag p) ts
