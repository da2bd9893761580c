-- The structs in a type of what is written stand before it, are written, and have names: so the name of the type, and its zero, are made of declared words.
use Rattle.std.proofs.Common.{◌≡◌, ◌<◌, ◌==◌, ◌||◌, ℕ, Bool, true, false, List, [], Option, Some, None, refl, subst}
use Rattle.spv_module.specs.State.{ModuleState}
use Rattle.spv_module.specs.Lists.{id}
use Rattle.spv_module.specs.declared.inst.Inst.{Inst}
use Rattle.spv_module.specs.declared.tree.Length.{Length}
use Rattle.spv_types.specs.Tree as plain
use Rattle.spv_types.specs.Tree.{Tree, Trees, no_trees, tree}
use Rattle.spv_types.specs.Types.{type_tree}
use Rattle.conformance.specs.Rules.{Options}
use Rattle.traces.specs.Invocations.{Invocation}
use Rattle.module_semantics.specs.Setting.{Setting, setting}
use Rattle.name_alloc.specs.declared.claims.Key.TheVariants.{Id}
use Rattle.name_alloc.specs.Naming.{name_of}
use Rattle.glsl_ast.specs.Tree.{TranslationUnit}
use Rattle.glsl_grammar.specs.Read.{is_declared}
use Rattle.text_rules.specs.Constants.{Source}
use Rattle.text_rules.specs.Declarations.{Names, length_extent, type_at, zero_at}
use Rattle.text_rules.specs.Printed.{Reached, has_struct, have_struct, is_written_struct}
use Rattle.unit_rules.specs.Translation.{Naming, id_text}
use Rattle.unit_rules.specs.Unit.{reached_of, source_of, IsUnitOf}
use Rattle.list_law.proofs.Numbers.{same_number}
use Rattle.list_law.proofs.Tests.{off_on}
use Rattle.claim_law.specs.Uses.{Words, UsesExtent, UsesType, UsesExpr}
use Rattle.typed_law.specs.Conforms.{IsConforming}
use Rattle.global_law.specs.Within.{IsStructBefore, IsWithin, AreWithin, IsNoBlock}
use Rattle.global_law.proofs.Constant.Written.{IsHeld, struct_written}
use Rattle.claim_law.specs.Claimed.{IsIn}
use Rattle.claim_law.proofs.Claim.Constants.{found_in}
use Rattle.claim_law.proofs.Claim.Told.{named_is}
use Rattle.grammar_law.specs.Types.{IsLengthOf}
use Rattle.grammar_law.specs.Words.{words_of}
use Rattle.grammar_law.proofs.Unit.Types.{AreNamedIn, type_uses, zero_at_uses}
use Rattle.grammar_law.proofs.Unit.Structs.{struct_named}

-- what is written hangs on no invocation
abbrev pub any_invocation : Invocation
any_invocation = record {
  num_workgroups = (0, 0, 0);
  workgroup_id = (0, 0, 0);
  local_invocation_id = (0, 0, 0);
  global_invocation_id = (0, 0, 0);
  local_invocation_index = 0;
  buffer_bytes = λ set binding. 0;
  specialization = λ id. None;
}

-- a struct in such a type stands before the word
module _ (Q : Inst → Type 0) (m : ModuleState) (n j : ℕ) where
  abbrev pub StandsBefore : Type 0
  StandsBefore = (ts : Trees) × IsStructBefore Q m n j ts

  own_or : (k : ℕ) (ts : Trees) → IsStructBefore Q m n k ts → (have_struct j ts ≡ true → StandsBefore) → ((k == j) || have_struct j ts) ≡ true → StandsBefore
  own_or k ts own later has = by_test (k == j) refl has
    where
      by_test : (b : Bool) → (k == j) ≡ b → (b || have_struct j ts) ≡ true → StandsBefore
      by_test true same has = subst (λ (x : ℕ). (us : Trees) × IsStructBefore Q m n x us) (same_number k j same) (ts, own)
      by_test false other has = later has

  either : (t : Tree) (ts : Trees) → (has_struct j t ≡ true → StandsBefore) → (have_struct j ts ≡ true → StandsBefore) → (has_struct j t || have_struct j ts) ≡ true → StandsBefore
  either t ts one rest has = by_test (has_struct j t) refl has
    where
      by_test : (b : Bool) → has_struct j t ≡ b → (b || have_struct j ts) ≡ true → StandsBefore
      by_test true on has = one on
      by_test false off has = rest has

  mutual
    pub struct_in : (t : Tree) → IsWithin Q m n t → has_struct j t ≡ true → StandsBefore
    struct_in plain.boolean w has = off_on has
    struct_in plain.int w has = off_on has
    struct_in plain.uint w has = off_on has
    struct_in (plain.vector e k) w has = off_on has
    struct_in (plain.array t l) w has = struct_in t w.0 has
    struct_in (plain.runtime t) w has = struct_in t w has
    struct_in (plain.struct k ts) w has = own_or k ts w.0 (λ more. struct_among ts w.1 more) has

    pub struct_among : (ts : Trees) → AreWithin Q m n ts → have_struct j ts ≡ true → StandsBefore
    struct_among no_trees w has = off_on has
    struct_among (tree t ts) w has = either t ts (λ own. struct_in t w.0 own) (λ more. struct_among ts w.1 more) has

module _ (m : ModuleState) (entry : Option (List ℕ)) (right : IsConforming m entry) (o : Options) (unit : TranslationUnit) (u : IsUnitOf m o unit) where
  abbrev pub S : Source
  S = source_of m o u.entry

  abbrev pub Found : Naming
  Found = name_of u.claimed

  abbrev pub Written : Reached
  Written = reached_of (source_of m o u.entry) u.plans

  -- any run of the module, of which only the module and its entry matter
  abbrev pub Run : Setting
  Run = setting m u.entry [] any_invocation

  -- something that is written has the struct
  abbrev pub Held : ℕ → Type 0
  Held j = IsHeld Run entry right o.overrides Written j

  -- the structs that are written and stand before a word are declared
  abbrev pub AreDeclaredBefore : List (List ℕ) → ℕ → Type 0
  AreDeclaredBefore names n = (h : Inst) → IsIn h m.globals → h.at < n → is_written_struct S Written h ≡ true → is_declared names (id_text Found h.result) ≡ true

  module _ (names : List (List ℕ)) (n : ℕ) (declared : AreDeclaredBefore names n) (lengths : (l : Length) → IsLengthOf m.globals l → UsesExtent (words_of m.globals (name_of u.claimed) names) (length_extent (source_of m o u.entry) (id_text (name_of u.claimed)) l)) where
    abbrev W : Words
    W = words_of m.globals (name_of u.claimed) names

    struct_value : (j : ℕ) (ts : Trees) → IsStructBefore (IsNoBlock m) m n j ts → Held j → W.struct (id_text Found j)
    struct_value j ts w held =
        let there = found_in m.globals j w.inst w.there in
        let written : is_written_struct S Written w.inst ≡ true = struct_written Run entry right o.overrides Written n j ts w held in
        subst (λ (k : ℕ). W.struct (id_text Found k)) there.1 ((Id (id w.inst.result), named_is Found (Id (id w.inst.result)) (struct_named m o unit u w.inst there.0 w.opcode written)), declared w.inst there.0 w.less written)

    structs_stand : (t : Tree) → IsWithin (IsNoBlock m) m n t → ((j : ℕ) → has_struct j t ≡ true → Held j) → AreNamedIn W m.globals S (id_text Found) lengths t
    structs_stand t w held j has = let x = struct_in (IsNoBlock m) m n j t w has in struct_value j x.0 x.1 (held j has)

    -- the name of a type, and its zero, by whatever names of other things
    module _ (N : Names) (ids : N.id ≡ id_text Found) (ty : ℕ) (t : Tree) (shaped : type_tree m.globals ty ≡ Some t) (within : IsWithin (IsNoBlock m) m n t) (held : (j : ℕ) → has_struct j t ≡ true → Held j) where
      pub type_stands : UsesType W (type_at S N ty)
      type_stands = type_uses W m.globals S (id_text Found) lengths refl N ids ty t shaped (structs_stand t within held)

      pub zero_stands : UsesExpr W (zero_at S N ty)
      zero_stands = zero_at_uses W m.globals S (id_text Found) lengths refl N ids ty t shaped (structs_stand t within held)
