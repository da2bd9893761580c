-- Which rules of the profile the bytes of a module break, which of these are considered, and which limits are exceeded.
use Rattle.std.specs.Prelude.{ℕ, ◌≡◌, ◌<◌, ◌==◌, true, List, [], ◌∷◌, ◌++◌, length, Contains, Option, IsSomeAnd, if◌then◌else◌}
use Rattle.spv_words.specs.Rule.{letter_of}
use Rattle.spv_words.specs.declared.rule.Rule.{Rule}
use Rattle.spv_words.specs.declared.rule.Rule.TheVariants.{W1, W2, W3, W4, W5, W6, W7, W8, W9, X1, X2, X3, X4, P1, P2, P3, P4, P8, P11, P12, M6}
use Rattle.spv_words.specs.declared.rule.Fault.{Fault}
use Rattle.spv_words.specs.declared.rule.Fault.TheVariants.{Refused, Limit as Exceeded, Memory}
use Rattle.spv_words.specs.declared.rule.Limit.{Limit}
use Rattle.spv_words.specs.declared.rule.Limit.TheVariants.{Bytes, Bound, Depth, Types, Parts, Calls, Leaves}
use Rattle.spv_words.specs.Limit.{limit_number}
use Rattle.spv_words.specs.Words.{words}
use Rattle.spv_words.specs.Breaks.{Broken as BrokenWords, NoRuleBroken, AreWords, bound, earlier}
use Rattle.spv_module.specs.Broken.{Broken as BrokenForm, form_rules}
use Rattle.spv_module.specs.Lists.{module_of}
use Rattle.spv_module.specs.State.{ModuleState}
use Rattle.spv_module.specs.declared.inst.Inst.{Inst}
use Rattle.spv_module.specs.declared.inst.Function.{Function}
use Rattle.spv_decor.specs.Broken.{Broken as BrokenDecorations}
use Rattle.spv_decor.specs.Rows.{word}
use Rattle.profile_rules.specs.declared.given.Given.{Given}
use Rattle.profile_rules.specs.Entry.{chosen}
use Rattle.profile_rules.specs.DataRules.{Broken as BrokenData, choice_rules, form_rules as data_rules}
use Rattle.profile_rules.specs.TypeRules.{Broken as BrokenTypes, Exceeds as TypesExceed, type_rules}
use Rattle.profile_rules.specs.AccessRules.{Broken as BrokenAccess}
use Rattle.profile_rules.specs.Constants.{breaks_x3, breaks_x4}
use Rattle.profile_rules.specs.Leaves.{leaves_of_module}
use Rattle.profile_rules.specs.Calls.{Broken as BrokenCalls, Exceeds as CallsExceed}
use Rattle.layout_rules.specs.Blocks.{Broken as BrokenLayout}
use Rattle.structure_rules.specs.Graph.{graph}
use Rattle.structure_rules.specs.Structure.{BrokenIn, BreaksIn, IsTooDeep, place_rules}

-- what is asked besides the command: the name of an entry point, and what constants are overridden by, each by its SpecId
pub record Options : Type 0 where
  pub entry : Option (List ℕ)
  pub overrides : List (ℕ × Given)

-- the groups of rules, in the order in which they are considered: those on the form and on decorations together, and all behind those on types together
pub data Group : Type 0 where
  on_words : Group
  on_strings : Group
  on_form : Group
  on_decorations : Group
  on_choice : Group
  on_data : Group
  on_types : Group
  on_layout : Group
  on_access : Group
  on_recursion : Group
  on_structure : Group
  on_overrides : Group

-- the rules that are not told apart by their numbers, by their letters: W, P, K, and the others, A and M
abbrev pub group_by_letter : ℕ → Group
group_by_letter letter = if letter == 87 then on_words else (if letter == 80 then on_data else (if letter == 75 then on_structure else on_access))

abbrev pub other_group : Rule → Group
other_group W9 = on_strings
other_group P1 = on_form
other_group P2 = on_form
other_group P3 = on_form
other_group P4 = on_form
other_group P11 = on_decorations
other_group P12 = on_decorations
other_group X1 = on_choice
other_group X2 = on_choice
other_group X3 = on_overrides
other_group X4 = on_overrides
other_group M6 = on_recursion
other_group rule = group_by_letter (letter_of rule)

-- those with the letter T are on types, and those with the letter L on layout
abbrev pub group_of : Rule → Group
group_of rule = if letter_of rule == 84 then on_types else (if letter_of rule == 76 then on_layout else other_group rule)

-- the module that these bytes are
abbrev pub module_in : List ℕ → ModuleState
module_in bytes = module_of (words bytes)

-- the fact holds of a function of the module
abbrev pub SomeFunction : ModuleState → (Function → Type 0) → Type 0
SomeFunction m P = (f : Function) × Contains m.functions f × P f

-- the rule on what constants are overridden by is broken at this word, which is 0
abbrev pub BrokenOverrides : ModuleState → List (ℕ × Given) → Rule → ℕ → Type 0
BrokenOverrides m pairs X3 at = (at ≡ 0) × (breaks_x3 m pairs ≡ true)
BrokenOverrides m pairs X4 at = (at ≡ 0) × (breaks_x4 m pairs ≡ true)
BrokenOverrides m pairs _ at = ⊥

-- a rule of this group is broken at this word
abbrev pub BrokenOf : List ℕ → Options → Group → Rule → ℕ → Type 0
BrokenOf bytes o on_words rule at = BrokenWords bytes rule at
BrokenOf bytes o on_strings rule at = BrokenForm (words bytes) rule at
BrokenOf bytes o on_form rule at = BrokenForm (words bytes) rule at
BrokenOf bytes o on_decorations rule at = BrokenDecorations (module_in bytes) rule at
BrokenOf bytes o on_choice rule at = BrokenData (module_in bytes) o.entry rule at
BrokenOf bytes o on_data rule at = BrokenData (module_in bytes) o.entry rule at
BrokenOf bytes o on_types rule at = BrokenTypes (module_in bytes) rule at
BrokenOf bytes o on_layout rule at = BrokenLayout (module_in bytes) rule at
BrokenOf bytes o on_access rule at = BrokenAccess (module_in bytes) rule at
BrokenOf bytes o on_recursion rule at = BrokenCalls (module_in bytes).functions rule at
BrokenOf bytes o on_structure rule at = SomeFunction (module_in bytes) (λ f. BrokenIn (graph f) rule at)
BrokenOf bytes o on_overrides rule at = BrokenOverrides (module_in bytes) o.overrides rule at

-- the rule is broken at this word
abbrev pub Broken : List ℕ → Options → Rule → ℕ → Type 0
Broken bytes o rule at = BrokenOf bytes o (group_of rule) rule at

-- the rules on words, on words and strings, those and the ones on the form and decorations, with the choice of the entry point, with the other rules on data, and with those on types
abbrev pub word_rules : List Rule
word_rules = W1 ∷ W2 ∷ W3 ∷ W4 ∷ W5 ∷ W6 ∷ W7 ∷ W8 ∷ []

abbrev pub text_rules : List Rule
text_rules = word_rules ++ W9 ∷ []

abbrev pub list_rules : List Rule
list_rules = text_rules ++ P1 ∷ P2 ∷ P3 ∷ P4 ∷ P11 ∷ P12 ∷ []

abbrev pub rules_to_choice : List Rule
rules_to_choice = list_rules ++ choice_rules

abbrev pub rules_to_data : List Rule
rules_to_data = rules_to_choice ++ data_rules

abbrev pub rules_to_types : List Rule
rules_to_types = rules_to_data ++ type_rules

-- the rules of the groups before
abbrev pub before_group : Group → Rule → List Rule
before_group on_words rule = earlier rule
before_group on_strings rule = word_rules
before_group on_form rule = text_rules
before_group on_decorations rule = text_rules
before_group on_choice rule = list_rules
before_group on_data rule = rules_to_choice
before_group on_types rule = rules_to_data
before_group _ rule = rules_to_types

-- the rules that come before: a rule is considered only where none of them is broken
abbrev pub before : Rule → List Rule
before rule = before_group (group_of rule) rule

-- a rule of this group is broken at this word, and none that comes before it in the group: in one function, a rule on structure is considered only where none with a smaller number is broken
abbrev pub BrokenFirst : List ℕ → Options → Group → Rule → ℕ → Type 0
BrokenFirst bytes o on_structure rule at = SomeFunction (module_in bytes) (λ f. BreaksIn (graph f) rule at)
BrokenFirst bytes o group rule at = BrokenOf bytes o group rule at

-- the rule is broken at this word, and considered
abbrev pub Breaks : List ℕ → Options → Rule → ℕ → Type 0
Breaks bytes o rule at = NoRuleBroken (Broken bytes o) (before rule) × BrokenFirst bytes o (group_of rule) rule at

-- no rule is broken anywhere
abbrev pub Conforms : List ℕ → Options → Type 0
Conforms bytes o = (rule : Rule) (at : ℕ) → Broken bytes o rule at → ⊥

-- no rule on words, strings and the form is broken, so that the lists of the module are those of its words
abbrev pub IsFormed : List ℕ → Type 0
IsFormed bytes = AreWords bytes × NoRuleBroken (BrokenForm (words bytes)) form_rules

-- a reached block of a function is nested too deep, which is considered where each block has its place
abbrev pub IsTooDeepIn : Function → Type 0
IsTooDeepIn f = NoRuleBroken (BrokenIn (graph f)) place_rules × IsTooDeep (graph f)

-- the function of the chosen entry point calls too deep, which is considered where one is chosen that is a function
abbrev pub AreTooManyCalls : ModuleState → Options → Type 0
AreTooManyCalls m o =
    NoRuleBroken (BrokenData m o.entry) (X1 ∷ X2 ∷ P8 ∷ [])
    × IsSomeAnd (chosen o.entry m.heads) (λ (i : Inst). CallsExceed m.functions (word i 1) Calls)

-- the limit is exceeded; the bound is considered where no rule on words is broken, and all behind it where the module is formed
abbrev pub Exceeds : List ℕ → Options → Limit → Type 0
Exceeds bytes o Bytes = limit_number Bytes < length bytes
Exceeds bytes o Bound = AreWords bytes × (limit_number Bound < bound bytes)
Exceeds bytes o Types = IsFormed bytes × TypesExceed (module_in bytes) Types
Exceeds bytes o Parts = IsFormed bytes × TypesExceed (module_in bytes) Parts
Exceeds bytes o Leaves = IsFormed bytes × (limit_number Leaves < leaves_of_module (module_in bytes))
Exceeds bytes o Depth = IsFormed bytes × SomeFunction (module_in bytes) IsTooDeepIn
Exceeds bytes o Calls = IsFormed bytes × AreTooManyCalls (module_in bytes) o

-- no limit is exceeded
abbrev pub IsWithinLimits : List ℕ → Options → Type 0
IsWithinLimits bytes o = (limit : Limit) → Exceeds bytes o limit → ⊥

-- the fault has its cause
abbrev pub IsRight : List ℕ → Options → Fault → Type 0
IsRight bytes o (Refused r) = Breaks bytes o r.rule r.at
IsRight bytes o (Exceeded l) = Exceeds bytes o l
IsRight bytes o Memory = Unit {0}
