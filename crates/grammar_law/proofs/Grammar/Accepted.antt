-- The text of a module that was read and is not refused is in the grammar, where bytes are octets and overrides are words.
use Rattle.std.proofs.Common.{◌≡◌, ◌<◌, ◌^◌, ◌∙◌, ℕ, true, List, length, Contains}
use Rattle.std.proofs.lemmas.List.Elements.{All-contains}
use Rattle.spv_module.specs.State.{ModuleState}
use Rattle.spv_module.specs.declared.inst.Inst.{Inst}
use Rattle.spv_module.specs.declared.inst.Function.{Function}
use Rattle.spv_index.specs.Locals.{insts_of}
use Rattle.structure_rules.specs.Graph.{graph}
use Rattle.nest_place.specs.Nests.{IsSound}
use Rattle.conformance.specs.Rules.{Options}
use Rattle.module_check.specs.Judged.{IsRead, IsFine}
use Rattle.module_check.specs.Structure.{IsStructured}
use Rattle.name_alloc.specs.Naming.{name_of}
use Rattle.glsl_ast.specs.Tree.{TranslationUnit}
use Rattle.glsl_grammar.specs.Read.{is_declared}
use Rattle.glsl_grammar.specs.InGrammar.{IsInGrammar}
use Rattle.text_rules.specs.Constants.{Source}
use Rattle.text_rules.specs.Printed.{is_written_struct}
use Rattle.function_plan.specs.Phis.{pairs}
use Rattle.function_text.specs.Functions.{FunctionPlan}
use Rattle.unit_rules.specs.Translation.{id_text}
use Rattle.unit_rules.specs.Unit.{source_of, IsUnitOf}
use Rattle.claim_law.specs.Blocks.{FitWords}
use Rattle.global_law.specs.Items.{AreSizes}
use Rattle.global_law.proofs.Constant.Conforming.{sizes_conform}
use Rattle.typed_law.specs.Conforms.{IsConforming}
use Rattle.typed_law.specs.Words.{AreBytes, AreGivenWords}
use Rattle.accepted_law.proofs.Small.{args_in, read_operands}
use Rattle.grammar_law.proofs.Height.Closed.{sound-of}
use Rattle.claim_law.specs.Claimed.{IsIn}
use Rattle.grammar_law.specs.Words.{AreOfStructs}
use Rattle.grammar_law.proofs.Unit.ArgWords.{args_words, global_words, head_words}
use Rattle.grammar_law.proofs.Unit.Lists.{of_contained, as_among}
use Rattle.grammar_law.proofs.Unit.Ways.{HaveKinds, F, in_module, reached_nth}
use Rattle.grammar_law.proofs.Grammar.Readings.{plain_word_fits, constant_uses}
use Rattle.grammar_law.proofs.Grammar.Lengths.{lengths_use}
use Rattle.grammar_law.proofs.Meets.BlocksMade.{AreKnown, block_asked, block_uses}
use Rattle.grammar_law.proofs.Meets.Known.{known}
use Rattle.grammar_law.proofs.Grammar.Held.{Run, Written}
use Rattle.grammar_law.proofs.Grammar.Sizes.{chosen_is}
use Rattle.grammar_law.proofs.Grammar.FirstBlocks.{variables_reached}
use Rattle.grammar_law.proofs.Grammar.Inner.{stands_within}
use Rattle.grammar_law.proofs.Grammar.Called.{right, kinds, called_uses}
use Rattle.grammar_law.proofs.Grammar.Lives.{lives}
use Rattle.grammar_law.proofs.Grammar.FewPairs.{few_pairs}
use Rattle.grammar_law.proofs.Grammar.Edges.{copies_made}
use Rattle.grammar_law.proofs.Grammar.FunctionsMade.{IsFunctionMade}
use Rattle.grammar_law.proofs.Grammar.UnitMade.{Last, structs as text_structs, declared as text_declared, made-in-grammar}

module _ (m : ModuleState) (o : Options) (unit : TranslationUnit) (read : IsRead m) (fine : IsFine m o) (u : IsUnitOf m o unit) (octets : AreBytes read.bytes) (given : AreGivenWords o.overrides) where
  abbrev pub Right : IsConforming m o.entry
  Right = right m o unit read fine u

  abbrev pub Kinds : HaveKinds m.globals
  Kinds = kinds m o unit read fine u

  abbrev S : Source
  S = source_of m o u.entry

  pub words : (g : Inst) → IsIn g m.globals → FitWords g.args
  words = global_words read.bytes m read.is octets

  sizes : AreSizes (source_of m o u.entry)
  sizes = let c = chosen_is m o Right u.entry u.is_entry in sizes_conform (Run m o.entry Right o unit u) o.entry Right o.overrides c.0 c.1 c.2

  module _ (p : FunctionPlan) (among : IsIn p u.plans) (names : List (List ℕ)) (structs : AreOfStructs m.globals (name_of u.claimed) names) (declared : (g : Inst) → IsIn g m.globals → is_written_struct (source_of m o u.entry) (Written m o.entry Right o unit u) g ≡ true → is_declared names (id_text (name_of u.claimed) g.result) ≡ true) where
    abbrev Fn : Function
    Fn = F (Run m o.entry Right o unit u) o.entry Right Kinds o unit u p among

    there : Contains m.functions Fn
    there = in_module (Run m o.entry Right o unit u) o.entry Right Kinds o unit u p among

    fn_in : IsIn Fn m.functions
    fn_in = of_contained m.functions Fn there

    pub sound : IsSound (graph Fn)
    sound = sound-of Fn (All-contains IsStructured m.functions Fn fine.later.structure there).unbroken

    pub few : (b t : ℕ) → length (pairs m.globals p.scope.form Fn b t) < 2 ^ 32
    few b t = few_pairs m.globals p.scope.form Fn (All-contains (λ (f : Function). args_in (insts_of f) < 2 ^ 32) m.functions Fn (read_operands read.bytes m read.is) there) b t

    pub all_known : AreKnown (Run m o.entry Right o unit u) o.entry Right Kinds o unit u p among names structs
    all_known =
        known (Run m o.entry Right o unit u) o.entry Right Kinds o unit u p among names structs
        (λ i i_in. args_words read.bytes m read.is octets Fn there i i_in)
        (λ i i_in. stands_within read.bytes m read.is Fn fn_in i i_in)
        (λ c b i at i_in on. reached_nth (graph Fn) c ∙ variables_reached read.bytes m read.is Fn fn_in c b i at i_in on)
        declared
        (λ l is_it. lengths_use m o.entry Right o unit u words given names structs l is_it)
        (λ g g_in. plain_word_fits S given g (words g g_in))
        (λ g g_in on named. constant_uses m o.entry Right o unit u words given names structs g g_in on named)
        (λ i i_in on. called_uses m o unit read fine u p among names structs i i_in on)
        (λ g g_in on. (sizes.composite g (as_among m.globals g g_in) on).1)
        (λ n g on at. (sizes.part n g on at).0)

    pub made_function : IsFunctionMade (Run m o.entry Right o unit u) o.entry Right Kinds o unit u p among names structs declared words given
    made_function = record {
      asked = λ b. block_asked (Run m o.entry Right o unit u) o.entry Right Kinds o unit u p among names structs all_known b;
      statements = λ b here. block_uses (Run m o.entry Right o unit u) o.entry Right Kinds o unit u p among names structs all_known b here;
      copies = λ b t here leads. copies_made (Run m o.entry Right o unit u) o.entry Right Kinds o unit u p among names structs declared words given (λ c place i at kept. lives (Run m o.entry Right o unit u) o.entry Right Kinds o unit u p among c place i at kept) sound few b t here leads;
      variables = λ c holder i at i_in on. variables_reached read.bytes m read.is Fn fn_in c holder i at i_in on;
      low = λ i i_in. (args_words read.bytes m read.is octets Fn there i i_in).args;
      sound = sound;
    }

  -- the names of the structs of the text, which are declared before its functions
  abbrev pub Structs : List (List ℕ)
  Structs = Last m o Right unit u Kinds words (head_words read.bytes m read.is octets) given (λ p among names structs declared. made_function p among names structs declared)

  pub of_structs : AreOfStructs m.globals (name_of u.claimed) Structs
  of_structs = text_structs m o Right unit u Kinds words (head_words read.bytes m read.is octets) given (λ p among names structs declared. made_function p among names structs declared)

  pub declared_structs : (g : Inst) → IsIn g m.globals → is_written_struct (source_of m o u.entry) (Written m o.entry Right o unit u) g ≡ true → is_declared Structs (id_text (name_of u.claimed) g.result) ≡ true
  declared_structs = text_declared m o Right unit u Kinds words (head_words read.bytes m read.is octets) given (λ p among names structs declared. made_function p among names structs declared)

  -- the law
  pub accepted-in-grammar : IsInGrammar unit
  accepted-in-grammar =
      made-in-grammar m o Right unit u Kinds words (head_words read.bytes m read.is octets) given
      (λ p among names structs declared. made_function p among names structs declared)
