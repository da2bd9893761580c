-- A module of words, overridden by words, told words and answered by words, has values of words alone.
use Rattle.std.proofs.Common.{◌≡◌, ◌<◌, ◌+◌, ◌*◌, ◌^◌, ◌==◌, arith, ℕ, zero, suc, Bool, true, false, List, [], ◌∷◌, take, drop, Option, Some, None, subst, if◌then◌else◌}
use Rattle.std.specs.Prelude.{find, option_map, option_and_then, slice_index, IfSome}
use Rattle.std.specs.Option.{option_or}
use Rattle.spv_words.specs.Words.{magic, words_by, words, insts, slice}
use Rattle.byteorder.specs.Endian.{little_number, big_number}
use Rattle.spv_words.specs.declared.words.Inst1.{Inst1}
use Rattle.spv_module.specs.declared.inst.Inst.{Inst}
use Rattle.spv_module.specs.declared.kind.Place.TheVariants.{Outside}
use Rattle.spv_module.specs.Inst.{inst_of}
use Rattle.spv_module.specs.Lists.{globals, module_of}
use Rattle.profile_rules.specs.declared.given.Given.{Given}
use Rattle.profile_rules.specs.Constants.{word_given, spec_id, given_to, chosen_word}
use Rattle.plan_law.specs.InOrder.{IsAmong}
use Rattle.traces.specs.Invocations.{Invocation, IsInvocation}
use Rattle.module_semantics.specs.Setting.{Setting, setting}
use Rattle.module_semantics.specs.State.{Conf}
use Rattle.module_semantics.specs.Steps.{act}
use Rattle.module_semantics.specs.Run.{start}
use Rattle.typed_law.specs.Words.{AreBytes, AreAllWords, AreGivenWords, IsSettingOfWords, IsStateOfWords, LeadsToWords}
use Rattle.typed_law.proofs.Words.{global_made}
use Rattle.typed_law.proofs.LowValues.{first_low, drop_low}
use Rattle.typed_law.proofs.LowConstants.{constants_low}
use Rattle.typed_law.proofs.LowSteps.{words_step, words_start}

pub take_low : (n : ℕ) (ws : List ℕ) → AreAllWords ws → AreAllWords (take n ws)
take_low zero ws h = tt
take_low (suc n) [] h = tt
take_low (suc n) (w ∷ ws) h = (h.0, take_low n ws h.1)

-- the words of bytes are words
word_of_four : (a b c d : ℕ) → a < 256 → b < 256 → c < 256 → d < 256 → (little_number 4 (a ∷ b ∷ c ∷ d ∷ []) < 2 ^ 32) × (big_number 4 (a ∷ b ∷ c ∷ d ∷ []) < 2 ^ 32)
word_of_four a b c d ha hb hc hd = (
  let low : a + 256 * (b + 256 * (c + 256 * (d + 256 * 0))) < 2 ^ 32 = omega (arith, ha, hb, hc, hd) in low,
  (let low : a * 16777216 + (b * 65536 + (c * 256 + (d * 1 + 0))) < 2 ^ 32 = omega (arith, ha, hb, hc, hd) in low),
)

words_by_low : (number : ℕ → List ℕ → ℕ) → ((a b c d : ℕ) → a < 256 → b < 256 → c < 256 → d < 256 → number 4 (a ∷ b ∷ c ∷ d ∷ []) < 2 ^ 32) → (bytes : List ℕ) → AreBytes bytes → AreAllWords (words_by number bytes)
words_by_low number low [] h = tt
words_by_low number low (a ∷ []) h = tt
words_by_low number low (a ∷ b ∷ []) h = tt
words_by_low number low (a ∷ b ∷ c ∷ []) h = tt
words_by_low number low (a ∷ b ∷ c ∷ d ∷ bytes) h = (low a b c d h.0 h.1.0 h.1.1.0 h.1.1.1.0, words_by_low number low bytes h.1.1.1.1)

pub words_of_bytes : (bytes : List ℕ) → AreBytes bytes → AreAllWords (words bytes)
words_of_bytes bytes h = by_order (little_number 4 bytes == magic)
  where
    by_order : (b : Bool) → AreAllWords (if b then words_by little_number bytes else words_by big_number bytes)
    by_order true = words_by_low little_number (λ a b c d ha hb hc hd. (word_of_four a b c d ha hb hc hd).0) bytes h
    by_order false = words_by_low big_number (λ a b c d ha hb hc hd. (word_of_four a b c d ha hb hc hd).1) bytes h

-- what constants take in place of their defaults
given_low : (pairs : List (ℕ × Given)) (id : ℕ) → AreGivenWords pairs → IfSome (option_map word_given (given_to pairs id)) (λ (w : ℕ). w < 2 ^ 32)
given_low [] id all = tt
given_low (p ∷ ps) id all = by_test (p.0 == id) (given_low ps id all.1)
  where
    by_test : (b : Bool) → IfSome (option_map word_given (given_to ps id)) (λ (w : ℕ). w < 2 ^ 32) → IfSome (option_map word_given (option_map (λ (q : ℕ × Given). q.1) (if b then Some p else find (λ (q : ℕ × Given). q.0 == id) ps))) (λ (w : ℕ). w < 2 ^ 32)
    by_test true later = all.0
    by_test false later = later

either_low : (a b : Option ℕ) → IfSome a (λ (w : ℕ). w < 2 ^ 32) → IfSome b (λ (w : ℕ). w < 2 ^ 32) → IfSome (option_or a b) (λ (w : ℕ). w < 2 ^ 32)
either_low None b h k = k
either_low (Some a) b h k = h

module _ (ws : List ℕ) (all : AreAllWords ws) (function : ℕ) (overrides : List (ℕ × Given)) (given : AreGivenWords overrides) (inv : Invocation) (told : IsInvocation inv) where
  abbrev S : Setting
  S = setting (module_of ws) function overrides inv

  operand_low : (x : Inst1) → slice_index (inst_of ws x).args 0 < 2 ^ 32
  operand_low x = first_low (inst_of ws x).args (drop_low _ (slice ws x) (take_low x.len (drop x.start ws) (drop_low x.start ws all)))

  global_low : (g : Inst) → IsAmong g (globals ws) → slice_index g.args 0 < 2 ^ 32
  global_low g there = let x = global_made ws Outside (insts ws) g there in subst (λ (i : Inst). slice_index i.args 0 < 2 ^ 32) x.2 (operand_low x.0)

  chosen_low : (id : ℕ) → IfSome (chosen_word S.of.heads overrides inv.specialization id) (λ (w : ℕ). w < 2 ^ 32)
  chosen_low id = by_spec (spec_id S.of.heads id)
    where
      by_spec : (o : Option ℕ) → IfSome (option_and_then (λ n. option_or (option_map word_given (given_to overrides n)) (inv.specialization n)) o) (λ (w : ℕ). w < 2 ^ 32)
      by_spec None = tt
      by_spec (Some n) = either_low (option_map word_given (given_to overrides n)) (inv.specialization n) (given_low overrides n given) (told.specialization n)

  pub setting_of_words : IsSettingOfWords S
  setting_of_words = record { constants = constants_low S.of (chosen_word S.of.heads overrides inv.specialization) chosen_low global_low; told = told }

  pub words_at_start : (c : Conf) → start S ≡ Some c → IsStateOfWords c
  words_at_start c e = words_start S setting_of_words c e

  pub words_on : (c : Conf) → IsStateOfWords c → LeadsToWords (act S c)
  words_on c state = words_step S setting_of_words c state
