-- What a check of one rule answers.
use Rattle.std.specs.Prelude.{ℕ, ◌≡◌, List, [], ◌∷◌, Contains, Option, Result, OnOk, IfErr}
use Rattle.std.specs.Option.{option_map_or}
use Rattle.spv_words.specs.declared.rule.Rule.{Rule}
use Rattle.spv_words.specs.declared.rule.Fault.{Fault}
use Rattle.spv_words.specs.declared.rule.Fault.TheVariants.{Refused, Limit, Memory}
use Rattle.spv_module.specs.declared.inst.Inst.{Inst}

-- a refusal by this rule, at one of these words
abbrev pub IsCause : Rule → List ℕ → Fault → Type 0
IsCause rule words (Refused r) = (r.rule ≡ rule) × Contains words r.at
IsCause rule words (Limit l) = ⊥
IsCause rule words Memory = Unit {0}

-- it passes where there is no such word, and is refused at one of them
pub record IsChecked (rule : Rule) (words : List ℕ) (result : Result (Unit {0}) Fault) : Type 0 where
  pub passes : OnOk result (words ≡ [])
  pub refused : IfErr result (IsCause rule words)

-- the word of an instruction, where there is one
abbrev pub word_of : Option Inst → List ℕ
word_of found = option_map_or (λ (i : Inst). i.at ∷ []) found []
