-- Names that an item may have are names of the grammar; those of structs are declared, and the others are none of them.
use Rattle.std.proofs.Common.{◌≡◌, ◌&&◌, ◌||◌, ℕ, Bool, true, false, List, [], ◌∷◌, codes, Option, Some, None, inl, inr, refl, sym, ap, ◌∙◌, subst, bytes_eq}
use Rattle.std.specs.Prelude.{◌⊎◌}
use Rattle.std.specs.List.{list_all}
use Rattle.std.proofs.lemmas.Slice.Eq.{bytes_eq-Decides}
use Rattle.std.proofs.lemmas.Bool.{or_from}
use Rattle.std.proofs.lemmas.Option.{none-some}
use Rattle.spv_ops.specs.declared.AtomicOp.{AtomicOp}
use Rattle.spv_ops.specs.declared.Op.TheVariants as code
use Rattle.spv_module.specs.Lists.{id}
use Rattle.spv_module.specs.declared.inst.Inst.{Inst}
use Rattle.hoist_plan.specs.Plan.{has_type}
use Rattle.name_alloc.specs.declared.claims.Key.{Key}
use Rattle.name_alloc.specs.declared.claims.Key.TheVariants.{Main, Id}
use Rattle.name_alloc.specs.Reserved.{is_word, has_prefix}
use Rattle.name_alloc.specs.Law.{IsFree, AreNames}
use Rattle.glsl_ast.specs.Tree.{Text, TranslationUnit}
use Rattle.glsl_grammar.specs.Read.{is_declared}
use Rattle.glsl_grammar.specs.Spelled.{IsName}
use Rattle.glsl_grammar.specs.InGrammar.{IsInGrammar}
use Rattle.int_lowering.specs.declared.built_ins.BuiltIn.{BuiltIn}
use Rattle.int_lowering.specs.Term.{built_in_name}
use Rattle.expr_forward.specs.Statements.{atomic_name}
use Rattle.claim_law.specs.Uses.{AreSpelledWords, AreDeclaredWords}
use Rattle.claim_law.specs.Units.{UsesUnit}
use Rattle.claim_law.proofs.Spell.Units.{unit-in-grammar}
use Rattle.typed_law.proofs.Lists.{clash}
use Rattle.claim_law.specs.Told.{built_ins, is_among, told}
use Rattle.claim_law.proofs.Claim.Told.{value_name, member_name, built_told, atomic_told}
use Rattle.claim_law.proofs.Claim.Words.{given_is_name}
use Rattle.grammar_law.specs.Words.{is_struct_key, IsOwnName, words_of, AreOfStructs}

-- what GLSL has is a reserved word, or begins with a reserved prefix
abbrev is_barred : Text → Bool
is_barred w = is_word w || has_prefix w

built_barred : list_all is_barred built_ins ≡ true
unfolding is_word has_prefix
built_barred = refl

barred_of : (ws : List Text) (w : Text) → list_all is_barred ws ≡ true → is_among ws w ≡ true → is_barred w ≡ true
barred_of [] w all on = cc
barred_of (v ∷ ws) w all on = by_test (bytes_eq w v) refl (is_barred v) refl all on (barred_of ws w)
  where
    by_test : (b : Bool) → bytes_eq w v ≡ b → (n : Bool) → is_barred v ≡ n → (n && list_all is_barred ws) ≡ true → (b || is_among ws w) ≡ true → (list_all is_barred ws ≡ true → is_among ws w ≡ true → is_barred w ≡ true) → is_barred w ≡ true
    by_test true same true is all on later = subst (λ (t : Text). is_barred t ≡ true) (sym ((bytes_eq-Decides w v).0 same)) is
    by_test false same true is all on later = later all on
    by_test b same false is all on later = cc

not_barred : (w : Text) → IsFree w → is_barred w ≡ false
not_barred w free = or_from (is_word w) (has_prefix w) free.word free.prefix

no_main : (n : ℕ) → Id (id n) ≡ Main → ⊥
no_main n e = cc

module _ (gs : List Inst) (found : Key → Option Text) (lawful : AreNames found) where
  struct_barred : (n : ℕ) (w : Text) → found (Id (id n)) ≡ Some w → is_barred w ≡ true → ⊥
  struct_barred n w is on = by_form (lawful.each (Id (id n)) w is).free
    where
      by_form : ((Id (id n) ≡ Main) × (w ≡ codes "main")) ⊎ IsFree w → ⊥
      by_form (inl main) = no_main n main.0
      by_form (inr free) = clash (sym on ∙ not_barred w free)

  module _ (names : List Text) (structs : AreOfStructs gs found names) where
    undeclared : (w : Text) → ((n : ℕ) → has_type gs code.TypeStruct n ≡ true → found (Id (id n)) ≡ Some w → ⊥) → is_declared names w ≡ false
    undeclared w never = by_test (is_declared names w) refl
      where
        by_test : (b : Bool) → is_declared names w ≡ b → b ≡ false
        by_test false is = refl
        by_test true is = let s = structs w is in absurd (never s.0 s.1 s.2)

    -- a name of the text's own
    pub own_value : (w : Text) → IsOwnName gs found w → (words_of gs found names).value w
    own_value w own = (
      inl own,
      undeclared w (λ n struct is. clash (sym struct ∙ (sym (ap (is_struct_key gs) (lawful.apart own.key (Id (id n)) w own.space own.is is)) ∙ own.other))),
    )

    -- and one that GLSL has
    pub built_value : (w : Text) → is_among built_ins w ≡ true → (words_of gs found names).value w
    built_value w on = (inr on, undeclared w (λ n struct is. struct_barred n w is (barred_of built_ins w built_barred on)))

    none_told : (w : Text) → (told (λ key. None)).value w → is_among built_ins w ≡ true
    none_told w (inl is) = absurd (none-some w is.1)
    none_told w (inr on) = on

    pub built_in_value : (f : BuiltIn) → (words_of gs found names).value (built_in_name f)
    built_in_value f = built_value (built_in_name f) (none_told (built_in_name f) (built_told (λ key. None) f))

    pub atomic_value : (a : AtomicOp) → (words_of gs found names).value (atomic_name a)
    atomic_value a = built_value (atomic_name a) (none_told (atomic_name a) (atomic_told (λ key. None) a))

    pub barrier_values : ((words_of gs found names).value (codes "memoryBarrierBuffer") × (words_of gs found names).value (codes "memoryBarrierShared")) × (words_of gs found names).value (codes "barrier")
    barrier_values = ((built_value (codes "memoryBarrierBuffer") refl, built_value (codes "memoryBarrierShared") refl), built_value (codes "barrier") refl)

  -- such names are names of the grammar
  own_name : (names : List Text) (w : Text) → (words_of gs found names).value w → IsName w
  own_name names w has = by_own has.0
    where
      by_own : IsOwnName gs found w ⊎ (is_among built_ins w ≡ true) → IsName w
      by_own (inl own) = value_name found lawful w (inl (own.key, own.is))
      by_own (inr on) = value_name found lawful w (inr on)

  struct_name : (names : List Text) (w : Text) → (words_of gs found names).struct w → IsName w
  struct_name names w has = given_is_name found lawful has.0.0 w has.0.1

  words_spelled : (names : List Text) → AreSpelledWords (words_of gs found names)
  words_spelled names = record {
    value = own_name names;
    called = own_name names;
    size = own_name names;
    measured = own_name names;
    member = member_name found lawful;
    struct = struct_name names;
  }

  words_declared : (names : List Text) → AreDeclaredWords (words_of gs found names) names
  words_declared names = record { value = λ w v. v.1; called = λ w v. v.1; measured = λ w v. v.1; struct = λ w v. v.1 }

  -- so a unit that is made of such names is in the grammar
  pub words-in-grammar : (unit : TranslationUnit) → UsesUnit (words_of gs found) unit → IsInGrammar unit
  words-in-grammar unit has = unit-in-grammar (words_of gs found) words_spelled words_declared unit has
