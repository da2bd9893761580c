-- A constant is read by a literal of a word, by a name that is declared, or as the size of workgroups or a part of it.
use Rattle.std.proofs.Common.{◌≡◌, ◌^◌, ◌==◌, ℕ, Bool, true, false, List, [], ◌∷◌, Option, Some, None, codes, inr, refl, ap, ◌∙◌, if◌then◌else◌, arith}
use Rattle.std.specs.Prelude.{find, nat_lt, option_map, option_and_then, unwrap_or, slice_index}
use Rattle.std.specs.Option.{option_map_or}
use Rattle.spv_ops.specs.Opcode.{is}
use Rattle.spv_ops.specs.declared.Op.TheVariants as code
use Rattle.spv_module.specs.State.{ModuleState}
use Rattle.spv_module.specs.Lists.{id}
use Rattle.spv_module.specs.declared.inst.Inst.{Inst}
use Rattle.spv_types.specs.Tree as plain
use Rattle.spv_types.specs.Tree.{Tree, ValueTree, truth, word, many}
use Rattle.op_semantics.specs.Fits.{IsOfWords}
use Rattle.profile_rules.specs.declared.given.Given.{Given}
use Rattle.profile_rules.specs.declared.constant.ConstantKind.{ConstantKind}
use Rattle.profile_rules.specs.declared.constant.ConstantKind.TheVariants as kinds
use Rattle.profile_rules.specs.Constants.{constant_kind, word_given, spec_id, given_to}
use Rattle.conformance.specs.Rules.{Options}
use Rattle.hoist_plan.specs.Plan.{has_type}
use Rattle.name_alloc.specs.declared.claims.Key.TheVariants.{Id}
use Rattle.name_alloc.specs.Naming.{name_of}
use Rattle.glsl_ast.specs.Tree.{TranslationUnit}
use Rattle.glsl_ast.specs.declared.expressions.Literal.TheVariants.{Int, Hex}
use Rattle.glsl_grammar.specs.Spelled.{FitsWord, IsSpelledLiteral}
use Rattle.text_rules.specs.declared.readings.Reading.{Reading}
use Rattle.text_rules.specs.declared.readings.Reading.TheVariants.{Plain, Named, GroupSize, GroupSizePart}
use Rattle.text_rules.specs.Constants.{Source, is_constant, reading, scalar_literal, override_word, constant_shape, plain_value_by, plain_value, axis_text, group_size_text, expr_by, constant_expr}
use Rattle.text_rules.specs.Declarations.{word_of}
use Rattle.unit_rules.specs.Translation.{Naming, id_text}
use Rattle.unit_rules.specs.Unit.{source_of, IsUnitOf}
use Rattle.claim_law.specs.Uses.{Words, UsesExpr}
use Rattle.claim_law.specs.Blocks.{FitWords}
use Rattle.typed_law.specs.Conforms.{IsConforming}
use Rattle.typed_law.specs.Words.{AreGivenWords}
use Rattle.typed_law.proofs.LowValues.{zero_low}
use Rattle.typed_law.proofs.Used.{global_found}
use Rattle.claim_law.specs.Claimed.{IsIn, HasName}
use Rattle.claim_law.proofs.Claim.Constants.{no_struct}
use Rattle.claim_law.proofs.Claim.Told.{named_is}
use Rattle.grammar_law.specs.Words.{words_of, AreOfStructs}
use Rattle.grammar_law.proofs.Unit.Lists.{as_among}
use Rattle.grammar_law.proofs.Unit.Words.{own_value, built_value}

-- numbers
pub none_fits : FitsWord 0
none_fits = omega arith

pub first_fits : (args : List ℕ) → FitWords args → FitsWord (slice_index args 0)
first_fits [] fit = none_fits
first_fits (a ∷ args) fit = fit.0

-- the literal of a value of words
int_fits : (w : ℕ) (b : Bool) → FitsWord w → IsSpelledLiteral (if b then Int w else Hex w)
int_fits w true low = low
int_fits w false low = low

pub literal_fits : (t : Tree) (v : ValueTree) → IsOfWords v → IsSpelledLiteral (scalar_literal t v)
literal_fits plain.boolean (truth b) low = tt
literal_fits plain.boolean (word w) low = low
literal_fits plain.boolean (many vs) low = none_fits
literal_fits plain.int (truth b) low = tt
literal_fits plain.int (word w) low = int_fits w (nat_lt w (2 ^ 31)) low
literal_fits plain.int (many vs) low = none_fits
literal_fits plain.uint (truth b) low = tt
literal_fits plain.uint (word w) low = low
literal_fits plain.uint (many vs) low = none_fits
literal_fits (plain.vector e n) (truth b) low = tt
literal_fits (plain.vector e n) (word w) low = low
literal_fits (plain.vector e n) (many vs) low = none_fits
literal_fits (plain.array t l) (truth b) low = tt
literal_fits (plain.array t l) (word w) low = low
literal_fits (plain.array t l) (many vs) low = none_fits
literal_fits (plain.runtime t) (truth b) low = tt
literal_fits (plain.runtime t) (word w) low = low
literal_fits (plain.runtime t) (many vs) low = none_fits
literal_fits (plain.struct n ts) (truth b) low = tt
literal_fits (plain.struct n ts) (word w) low = low
literal_fits (plain.struct n ts) (many vs) low = none_fits

word_fits : (v : ValueTree) → IsOfWords v → FitsWord (word_of v)
word_fits (truth b) low = none_fits
word_fits (word w) low = low
word_fits (many vs) low = none_fits

-- what is given in place of defaults
abbrev pub FitsIfGiven : Option ℕ → Type 0
FitsIfGiven None = Unit {0}
FitsIfGiven (Some w) = FitsWord w

pub given_fits : (pairs : List (ℕ × Given)) (k : ℕ) → AreGivenWords pairs → FitsIfGiven (option_map word_given (given_to pairs k))
given_fits [] k all = tt
given_fits (p ∷ ps) k all = by_test (p.0 == k) (given_fits ps k all.1)
  where
    by_test : (b : Bool) → FitsIfGiven (option_map word_given (given_to ps k)) → FitsIfGiven (option_map word_given (option_map (λ (q : ℕ × Given). q.1) (if b then Some p else find (λ (q : ℕ × Given). q.0 == k) ps)))
    by_test true later = all.0
    by_test false later = later

-- the value of a constant that is written as a literal
module _ (s : Source) (given : AreGivenWords s.overrides) where
  override_fits : (n : ℕ) → FitsIfGiven (override_word s n)
  override_fits n = by_spec (spec_id s.of.heads n)
    where
      by_spec : (q : Option ℕ) → FitsIfGiven (option_and_then (λ (spec : ℕ). option_map word_given (given_to s.overrides spec)) q)
      by_spec None = tt
      by_spec (Some spec) = given_fits s.overrides spec given

  chosen_fits : (q : Option ℕ) (w : ℕ) → FitsIfGiven q → FitsWord w → FitsWord (unwrap_or q w)
  chosen_fits None w has low = low
  chosen_fits (Some x) w has low = has

  kind_fits : (g : Inst) → FitWords g.args → (k : ConstantKind) → IsOfWords (plain_value_by s g k)
  kind_fits g fit kinds.True = tt
  kind_fits g fit kinds.False = tt
  kind_fits g fit kinds.Word = first_fits g.args fit
  kind_fits g fit kinds.Composite = none_fits
  kind_fits g fit kinds.Zero = zero_low (constant_shape s g)
  kind_fits g fit kinds.SpecTrue = tt
  kind_fits g fit kinds.SpecFalse = tt
  kind_fits g fit kinds.SpecWord = chosen_fits (override_word s g.result) (slice_index g.args 0) (override_fits g.result) (first_fits g.args fit)
  kind_fits g fit kinds.Operation = none_fits
  kind_fits g fit kinds.Other = none_fits

  pub plain_fits : (g : Inst) → FitWords g.args → IsOfWords (plain_value s g)
  plain_fits g fit = kind_fits g fit (constant_kind g.op)

  pub plain_word_fits : (g : Inst) → FitWords g.args → FitsWord (word_of (plain_value s g))
  plain_word_fits g fit = word_fits (plain_value s g) (plain_fits g fit)

module _ (m : ModuleState) (entry : Option (List ℕ)) (right : IsConforming m entry) (o : Options) (unit : TranslationUnit) (u : IsUnitOf m o unit) (words : (g : Inst) → IsIn g m.globals → FitWords g.args) (given : AreGivenWords o.overrides) (names : List (List ℕ)) (structs : AreOfStructs m.globals (name_of u.claimed) names) where
  abbrev S : Source
  S = source_of m o u.entry

  abbrev Found : Naming
  Found = name_of u.claimed

  abbrev W : Words
  W = words_of m.globals (name_of u.claimed) names

  -- a name of an id that is no struct's
  pub id_value : (n : ℕ) → has_type m.globals code.TypeStruct n ≡ false → HasName Found (Id (id n)) → W.value (id_text Found n)
  id_value n other named = own_value m.globals Found u.lawful names structs (id_text Found n) (record { key = Id (id n); is = named_is Found (Id (id n)) named; space = refl; other = other })

  pub size_value : W.value group_size_text
  size_value = built_value m.globals Found u.lawful names structs group_size_text refl

  pub axis_member : (axis : ℕ) → W.member (axis_text axis)
  axis_member axis = by_axis (axis == 0) (axis == 1)
    where
      by_axis : (a b : Bool) → W.member (if a then codes "x" else (if b then codes "y" else codes "z"))
      by_axis true b = inr refl
      by_axis false true = inr refl
      by_axis false false = inr refl

  pub no_struct_there : (g : Inst) → IsIn g m.globals → is g.op code.TypeStruct ≡ false → has_type m.globals code.TypeStruct g.result ≡ false
  no_struct_there g among off = ap (λ (q : Option Inst). option_map_or (λ (x : Inst). is x.op code.TypeStruct) q false) (global_found m entry right g (as_among m.globals g among)) ∙ off

  -- the law: where a constant that is read by its name has one, its expression is made of declared names
  pub constant_uses : (g : Inst) → IsIn g m.globals → is_constant g ≡ true → (reading S g ≡ Named → HasName Found (Id (id g.result))) → UsesExpr W (constant_expr S (id_text Found) g)
  constant_uses g among on named = by_reading (reading S g) refl
    where
      by_reading : (r : Reading) → reading S g ≡ r → UsesExpr W (expr_by S (id_text Found) g r)
      by_reading Plain is_it = literal_fits (constant_shape S g) (plain_value S g) (plain_fits S given g (words g among))
      by_reading Named is_it = id_value g.result (no_struct_there g among (no_struct g.op on)) (named is_it)
      by_reading GroupSize is_it = size_value
      by_reading (GroupSizePart axis) is_it = (size_value, axis_member axis)
