-- In a run of a conforming module each call under way stands in a block that is reached, and its chains lead where their bases and indexes say: so it is at the start, and each step keeps it.
use Rattle.std.proofs.Common.{◌≡◌, ◌<◌, ◌^◌, ℕ, Bool, true, false, List, [], ◌∷◌, nat_lt, Option, Some, None, refl, sym, subst, arith}
use Rattle.std.proofs.lemmas.Bool.{and_parts}
use Rattle.std.proofs.lemmas.Bool.Decides.{nat_tests}
use Rattle.spv_words.specs.Words.{words as words_of}
use Rattle.spv_module.specs.Lists.{module_of}
use Rattle.spv_module.specs.State.{ModuleState}
use Rattle.spv_module.specs.declared.inst.Function.{Function}
use Rattle.profile_rules.specs.declared.given.Given.{Given}
use Rattle.conformance.specs.Rules.{Options}
use Rattle.module_check.specs.Judged.{IsFine}
use Rattle.module_check.specs.ReadFrom.{IsReadFrom}
use Rattle.traces.specs.Events.{Event, event_of}
use Rattle.traces.specs.Invocations.{Invocation}
use Rattle.traces.specs.Runs.{go, told, Act, goes, asks, stops, fails, Supplied, supplied}
use Rattle.module_semantics.specs.Setting.{Setting, setting}
use Rattle.module_semantics.specs.State.{Conf}
use Rattle.module_semantics.specs.Steps.{act}
use Rattle.module_semantics.specs.Run.{first_state, start}
use Rattle.agree_law.specs.Answers.{are_words, told_words, move, machine}
use Rattle.call_law.specs.Known.{IsFunctionOf}
use Rattle.call_law.specs.Reached.{IsInReached}
use Rattle.call_law.proofs.FramesKept.{all_kept}
use Rattle.call_law.proofs.Lending.{first_lending}
use Rattle.call_law.proofs.Reached.{reached_closed, first_reached}
use Rattle.global_law.specs.Chains.{AreLed, ChainsAreRight}
use Rattle.global_law.proofs.Path.Led.{called_led, led_closed}
use Rattle.function_law.specs.UnderWay.{IsRuled}
use Rattle.typed_law.specs.Conforms.{BreakNone}
use Rattle.typed_law.specs.Words.{AreAllWords, IsSettingOfWords, IsStateOfWords, LeadsToWords}
use Rattle.typed_law.proofs.LowSteps.{words_step, words_start}
use Rattle.accepted_law.proofs.Accepted.{break_none}
use Rattle.grammar_law.proofs.Ruled.Ruled.{conforming_lends, conforming_ruled}
use Rattle.grammar_law.specs.Traced.{IsReachedBlock, IsTraced}
use Rattle.grammar_law.proofs.Formed.Pointing.{conforming_chains}
use Rattle.grammar_law.proofs.Formed.Reach.{conforming_reached}

-- words
words_are : (ws : List ℕ) → are_words ws ≡ true → AreAllWords ws
words_are [] on = tt
words_are (w ∷ ws) on = let parts = and_parts (nat_lt w (2 ^ 32)) (are_words ws) on in (below w parts.0, words_are ws parts.1)
  where
    below : (w : ℕ) → nat_lt w (2 ^ 32) ≡ true → w < 2 ^ 32
    below w e = grind (arith, nat_tests, e)

-- each step keeps that values are of words
pub words_kept : (s : Setting) → IsSettingOfWords s → (c d : Supplied Conf) (e : List Event) → machine s c ≡ go e d → IsStateOfWords c.at → IsStateOfWords d.at
words_kept s right c d e is at = by_act (act s c.at) (words_step s right c.at at) c.answers is
  where
    to : (f : Conf) (answers : List (List ℕ)) → IsStateOfWords f → supplied f answers ≡ d → IsStateOfWords d.at
    to f answers there same = subst (λ (q : Supplied Conf). IsStateOfWords q.at) same there

    by_event : (o : Option Event) (f : Conf) (more : List (List ℕ)) → IsStateOfWords f → told o f more ≡ go e d → IsStateOfWords d.at
    by_event None f more there is = cc
    by_event (Some x) f more there is = to f more there (let same : supplied f more ≡ d = cc in same)

    by_act : (a : Act Conf) → LeadsToWords a → (answers : List (List ℕ)) → move a answers ≡ go e d → IsStateOfWords d.at
    by_act (goes x f) there answers is = to f answers there (let same : supplied f answers ≡ d = cc in same)
    by_act (asks a f) there [] is = cc
    by_act (asks a f) there (words ∷ more) is = by_words (are_words words) refl is
      where
        by_words : (b : Bool) → are_words words ≡ b → told_words b a f words more ≡ go e d → IsStateOfWords d.at
        by_words true on is = by_event (event_of a words) (f words) more (there words (words_are words on)) is
        by_words false off is = cc
    by_act stops there answers is = cc
    by_act fails there answers is = cc

module _ (ws : List ℕ) (entry : Option (List ℕ)) (right : BreakNone ws entry) (function : ℕ) (overrides : List (ℕ × Given)) (inv : Invocation) where
  abbrev S : Setting
  S = setting (module_of ws) function overrides inv

  chains : ChainsAreRight S
  chains = conforming_chains ws entry right function overrides inv

  -- where its constants and the invocation are of words
  module _ (words : IsSettingOfWords S) where
    traced_kept : (c d : Supplied Conf) (e : List Event) → machine S c ≡ go e d → IsTraced S c.at → IsTraced S d.at
    traced_kept c d e is at = record {
      reached = all_kept 0 (λ ds f. IsInReached S IsReachedBlock f) S (reached_closed S IsReachedBlock (conforming_reached ws entry right function overrides inv)) c d e is (omega arith) at.reached;
      led = all_kept 0 (AreLed S) S (led_closed S (conforming_lends ws entry right function overrides inv) chains) c d e is (omega arith) at.led;
      words = words_kept S words c d e is at.words;
    }

    pub conforming_traced : IsRuled S (IsTraced S)
    conforming_traced = conforming_ruled ws entry right function overrides inv (IsTraced S) traced_kept

    pub first_traced : (g : Function) → IsFunctionOf g S.of.functions → start S ≡ Some (first_state S g) → IsTraced S (first_state S g)
    first_traced g is begins = record {
      reached = first_reached S IsReachedBlock (conforming_reached ws entry right function overrides inv) 0 g is;
      led = record { top = λ le. called_led S (conforming_lends ws entry right function overrides inv) chains [] g [] is (first_lending S g is); below = tt };
      words = words_start S words (first_state S g) begins;
    }

-- so of a module that was read from bytes and that the judges do not refuse
module _ (bytes : List ℕ) (m : ModuleState) (o : Options) (read : IsReadFrom bytes m) (fine : IsFine m o) (function : ℕ) (overrides : List (ℕ × Given)) (inv : Invocation) where
  abbrev at : ModuleState → Setting
  at n = setting n function overrides inv

  module _ (of_words : IsSettingOfWords (at m)) where
    pub accepted_traced : IsRuled (at m) (IsTraced (at m))
    accepted_traced =
        subst (λ (n : ModuleState). IsSettingOfWords (at n) → IsRuled (at n) (IsTraced (at n))) (sym read.made) (conforming_traced (words_of bytes) o.entry (break_none bytes m o read fine) function overrides inv) of_words

    pub accepted_first : (g : Function) → IsFunctionOf g m.functions → start (at m) ≡ Some (first_state (at m) g) → IsTraced (at m) (first_state (at m) g)
    accepted_first =
        subst (λ (n : ModuleState). IsSettingOfWords (at n) → (g : Function) → IsFunctionOf g n.functions → start (at n) ≡ Some (first_state (at n) g) → IsTraced (at n) (first_state (at n) g)) (sym read.made)
        (first_traced (words_of bytes) o.entry (break_none bytes m o read fine) function overrides inv) of_words
