-- What commands leave in the output.
use Rattle.std.proofs.Common.{◌≡◌, ◌++◌, inl, inr, length, ℕ, false, List, Option, None, Some, IfSome, refl, sym, subst, ◌∙◌}
use Rattle.std.specs.Prelude.{codes, option_map}
use Rattle.spv_words.specs.declared.rule.Fault.{Fault}
use Rattle.spv_words.specs.declared.rule.Fault.TheVariants.{Refused as RefusedFault, Limit as LimitFault, Memory as NoMemory}
use Rattle.spv_module.specs.State.{ModuleState}
use Rattle.conformance.specs.Rules.{Options, module_in}
use Rattle.glsl_ast.specs.Tree.{TranslationUnit}
use Rattle.glsl_grammar.specs.Layout.{unit_text}
use Rattle.glsl_grammar.specs.Reading.{glsl_read}
use Rattle.glsl_grammar.proofs.ReadsBack.{reads_back}
use Rattle.serde_json.specs.Data.{Data}
use Rattle.serde_json.specs.Written.{compact_text, has_float}
use Rattle.text_report.specs.Report.{IsReportBy}
use Rattle.text_report.proofs.Floats.{no_float}
use Rattle.command_line.specs.State.{Task, prints, judges, reports, sums, runs, CommandState}
use Rattle.command_line.specs.declared.endings.Ending.{Ending}
use Rattle.command_line.specs.declared.endings.Ending.TheVariants.{Done, Usage, Refused, Limit, RunLimit, ReadFault, WriteFault, Memory}
use Rattle.command_line.specs.Asked.{bytes_by, bytes_of}
use Rattle.command_line.specs.Summary.{summary}
use Rattle.dispatch_case.specs.Cases.{CaseParts}
use Rattle.run_module.specs.Ends.{IsSaidOf}
use Rattle.cross_core.specs.Trees.{IsOfModule}
use Rattle.cross_core.specs.Answers.{IsAnswer, IsAnswerBy, IsTextOf, IsRunText}
use Rattle.command_line.specs.Endings.{ending_of, IsOutput}

module _ {K : Type 0} (written : K → Option (List ℕ)) (faults : K → ℕ) where
  -- an answer in other words
  pub output_of : (P Q : List ℕ → Type 0) (old new : K) (ending : Ending) → ((text : List ℕ) → P text → Q text) → IsOutput written faults P old new ending → IsOutput written faults Q old new ending
  output_of P Q old new Done f (text, is, wrote) = (text, f text is, wrote)
  output_of P Q old new Usage f h = h
  output_of P Q old new (Refused r) f h = h
  output_of P Q old new (Limit l) f h = h
  output_of P Q old new (RunLimit l) f h = h
  output_of P Q old new ReadFault f h = h
  output_of P Q old new WriteFault f (rose, (text, is, wrote)) = (rose, (text, f text is, wrote))
  output_of P Q old new Memory f (inl same) = inl same
  output_of P Q old new Memory f (inr (text, is, wrote)) = inr (text, f text is, wrote)

  -- nothing is written of a module with a fault
  pub unwritten : (P : List ℕ → Type 0) (k : K) (fault : Fault) → IsOutput written faults P k k (ending_of fault)
  unwritten P k (RefusedFault r) = refl
  unwritten P k (LimitFault l) = refl
  unwritten P k NoMemory = inl refl

  -- what is written for this action
  pub output_by : (P : List ℕ → Type 0) (task this : Task) (o : Options) (told : Option ModuleState) (old new : K) (ending : Ending) → task ≡ this →
      ((text : List ℕ) → P text → IsAnswerBy this o told text) → IsOutput written faults P old new ending → IsOutput written faults (IsAnswerBy task o told) old new ending
  output_by P task this o told old new ending is f h =
      subst (λ (t : Task). IsOutput written faults (IsAnswerBy t o told) old new ending) (sym is) (output_of P (IsAnswerBy this o told) old new ending f h)

  -- a command on the input, and one on a generated module
  pub output_on_input : (command : CommandState) (left : Option (List ℕ)) (old new : K) (ending : Ending) → command.pieces ≡ None → IsOutput written faults (IsAnswer command left) old new ending → IsOutput written faults (IsAnswer command (bytes_of command left)) old new ending
  output_on_input command left old new ending is h =
      subst (λ (p : Option ℕ). IsOutput written faults (IsAnswer command (bytes_by p left)) old new ending) (sym is) h

  pub output_on_generated : (command : CommandState) (pieces : ℕ) (left : Option (List ℕ)) (old new : K) (ending : Ending) → command.pieces ≡ Some pieces → IsOutput written faults (IsAnswer command (bytes_by (Some pieces) left)) old new ending → IsOutput written faults (IsAnswer command (bytes_of command left)) old new ending
  output_on_generated command pieces left old new ending is h =
      subst (λ (p : Option ℕ). IsOutput written faults (IsAnswer command (bytes_by p left)) old new ending) (sym is) h

-- the text that is laid out of a module's tree
pub glsl_answer : (o : Options) (m : ModuleState) (u : TranslationUnit) (text : List ℕ) → IsOfModule m o u → text ≡ unit_text u → IsTextOf o (Some m) text
glsl_answer o m u text of same = record {
  unit = u;
  laid_out = same;
  reads = subst (λ (t : List ℕ). glsl_read t ≡ Some u) (sym same) (reads_back u of.translation.grammar);
  of_module = of;
}

-- the line of a report
pub report_answer : (o : Options) (m : ModuleState) (d : Data) (line text : List ℕ) → IsReportBy m o.entry (IsOfModule m o) d → (has_float d ≡ false → line ≡ compact_text d ++ codes "\n") → text ≡ line → IsAnswerBy reports o (Some m) text
report_answer o m d line text report is same = (d, same ∙ is (no_float m o.entry (IsOfModule m o) d report), report)

-- what is said of the module that was read is said of that in what was left, where that is told
module_told : (left : Option (List ℕ)) (read : List ℕ) (P : ModuleState → Type 0) → IfSome left (λ b. read ≡ b) → P (module_in read) → IfSome (option_map module_in left) P
module_told None read P same h = tt
module_told (Some b) read P same h = subst (λ (r : List ℕ). P (module_in r)) same h

module _ (o : Options) (left : Option (List ℕ)) (read : List ℕ) (same : IfSome left (λ b. read ≡ b)) where
  text_told : (text : List ℕ) → IsTextOf o (Some (module_in read)) text → IsTextOf o (option_map module_in left) text
  text_told text of = record {
    unit = of.unit;
    laid_out = of.laid_out;
    reads = of.reads;
    of_module = module_told left read (λ m. IsOfModule m o of.unit) same of.of_module;
  }

  run_told : (c : CaseParts) (text : List ℕ) → IsRunText c o (Some (module_in read)) text → IsRunText c o (option_map module_in left) text
  run_told c text of = record {
    store = of.store;
    count = of.count;
    end = of.end;
    lines = of.lines;
    said = module_told left read (λ m. IsSaidOf m o c text) same of.said;
  }

  answer_told : (task : Task) (text : List ℕ) → IsAnswerBy task o (Some (module_in read)) text → IsAnswerBy task o (option_map module_in left) text
  answer_told prints text of = text_told text of
  answer_told judges text h = h
  answer_told reports text (d, is, report) = (d, is, module_told left read (λ m. IsReportBy m o.entry (IsOfModule m o) d) same report)
  answer_told sums text (listing, of, is) = (listing, text_told listing of, module_told left read (λ m. text ≡ summary m listing) same is)
  answer_told (runs c) text of = run_told c text of

pub answer_on_left : (command : CommandState) (left : Option (List ℕ)) (read : List ℕ) → IfSome left (λ b. read ≡ b) → (text : List ℕ) → IsAnswer command (Some read) text → IsAnswer command left text
answer_on_left command left read same text h = answer_told command.options left read same command.task text h

-- the lines of a run
pub run_answer : (o : Options) (m : ModuleState) (c : CaseParts) (line text : List ℕ) → IsSaidOf m o c line → text ≡ line → IsRunText c o (Some m) text
run_answer o m c line text of same = subst (λ (t : List ℕ). IsRunText c o (Some m) t) (sym same) (record {
  store = of.said.store;
  count = length of.said.events;
  end = of.said.end;
  lines = of.said.lines;
  said = of;
})
