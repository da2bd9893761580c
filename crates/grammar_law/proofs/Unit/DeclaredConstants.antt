-- A constant that the text mentions is declared, or there is no struct in it.
use Rattle.std.proofs.Common.{◌≡◌, ◌+◌, ◌==◌, ◌&&◌, ◌||◌, not, ℕ, Bool, true, false, List, [], ◌∷◌, Option, Some, None, inl, inr, refl, sym, ap, ◌∙◌, subst, if◌then◌else◌}
use Rattle.std.specs.Prelude.{◌⊎◌, is_some}
use Rattle.std.specs.Option.{option_map_or}
use Rattle.std.specs.List.{list_any, position_from}
use Rattle.std.proofs.lemmas.Bool.{and_from, or_left, or_right}
use Rattle.std.proofs.lemmas.Option.{same_Some}
use Rattle.spv_ops.specs.Opcode.{is}
use Rattle.spv_ops.specs.Groups.{is_constant as is_constant_op}
use Rattle.spv_ops.specs.declared.Op.TheVariants as code
use Rattle.spv_module.specs.Held.{global}
use Rattle.spv_module.specs.State.{ModuleState}
use Rattle.spv_module.specs.declared.inst.Inst.{Inst}
use Rattle.spv_module.specs.declared.tree.Elem.TheVariants as elem
use Rattle.spv_types.specs.Tree.{Tree, boolean, int, uint, vector, array, runtime, struct}
use Rattle.spv_types.specs.Types.{type_tree}
use Rattle.profile_rules.specs.Entry.{is_size_composite}
use Rattle.conformance.specs.Rules.{Options}
use Rattle.glsl_ast.specs.Tree.{TranslationUnit}
use Rattle.text_rules.specs.Constants.{Source, is_scalar, is_constant, has_literal, size_ids, free_spec_id, reading, reading_by_spec, reading_by_part, reading_by_literal}
use Rattle.text_rules.specs.declared.readings.Reading.TheVariants.{Named, GroupSize}
use Rattle.text_rules.specs.Printed.{Reached, needs_constant, is_needed, is_named, has_struct, is_declared_constant}
use Rattle.unit_rules.specs.Unit.{source_of, IsUnitOf}
use Rattle.list_law.proofs.Numbers.{number_same}
use Rattle.list_law.proofs.Tests.{off_on}
use Rattle.claim_law.specs.Claimed.{IsIn}
use Rattle.claim_law.proofs.Claim.Constants.{found_in, needed_first}
use Rattle.claim_law.proofs.Claim.Listed.{any_in}
use Rattle.grammar_law.proofs.Unit.Structs.{Written}

found_any : {X : Type 0} (p : X → Bool) (n : ℕ) (xs : List X) (k : ℕ) → position_from p n xs ≡ Some k → list_any p xs ≡ true
found_any p n [] k e = cc
found_any p n (x ∷ xs) k e = by_test (p x) e (found_any p (n + 1) xs k)
  where
    by_test : (b : Bool) → (if b then Some n else position_from p (n + 1) xs) ≡ Some k → (position_from p (n + 1) xs ≡ Some k → list_any p xs ≡ true) → (b || list_any p xs) ≡ true
    by_test true e later = refl
    by_test false e later = later e

-- scalars and vectors have no structs
scalar_plain : (v : Tree) → is_scalar v ≡ true → (k : ℕ) → has_struct k v ≡ true → ⊥
scalar_plain boolean on k has = off_on has
scalar_plain int on k has = off_on has
scalar_plain uint on k has = off_on has
scalar_plain (vector e n) on k has = off_on on
scalar_plain (array t l) on k has = off_on on
scalar_plain (runtime t) on k has = off_on on
scalar_plain (struct n ts) on k has = off_on on

literal_scalar : (gs : List Inst) (ty : ℕ) (v : Tree) (b : Bool) → type_tree gs ty ≡ Some v → (option_map_or is_scalar (type_tree gs ty) false && b) ≡ true → is_scalar v ≡ true
literal_scalar gs ty v b shaped on = by_test (is_scalar v) (sym (ap (λ (q : Option Tree). option_map_or is_scalar q false && b) shaped) ∙ on)
  where
    by_test : (a : Bool) → (a && b) ≡ true → a ≡ true
    by_test true e = refl
    by_test false e = cc

module _ (m : ModuleState) (o : Options) (unit : TranslationUnit) (u : IsUnitOf m o unit)
    (whole : (g : Inst) → IsIn g m.globals → is_size_composite m.heads g ≡ true → type_tree m.globals g.ty ≡ Some (vector elem.Uint 3))
    (part : (n : ℕ) (g : Inst) → list_any (λ (k : ℕ). k == n) (size_ids (source_of m o u.entry)) ≡ true → global m.globals n ≡ Some g → type_tree m.globals g.ty ≡ Some uint) where
  abbrev S : Source
  S = source_of m o u.entry

  abbrev All : Reached
  All = Written m o unit u

  module _ (n : ℕ) (g : Inst) (n_in : IsIn n (Written m o unit u).mentions) (found : global m.globals n ≡ Some g) (constant : is_constant_op g.op ≡ true) (v : Tree) (shaped : type_tree m.globals g.ty ≡ Some v) where
    there : IsIn g m.globals × (g.result ≡ n)
    there = found_in m.globals n g found

    abbrev Told : Type 0
    Told = (is_declared_constant S All g ≡ true) ⊎ ((k : ℕ) → has_struct k v ≡ true → ⊥)

    needed : is_needed S All g.result ≡ true
    needed =
        subst (λ (k : ℕ). is_needed S All k ≡ true) (sym there.1)
        (needed_first S (needs_constant S All) m.globals n (or_left (list_any (λ (k : ℕ). k == n) All.mentions) _ (any_in (λ (k : ℕ). k == n) All.mentions n n_in (number_same n n refl))))

    by_name : reading S g ≡ Named → Told
    by_name named = inl (and_from (is_constant g) _ constant (and_from (is_named (reading S g)) _ (ap is_named named) (or_right (is_some (free_spec_id S g.result)) (is_needed S All g.result) needed)))

    plain_shape : (t : Tree) → type_tree m.globals g.ty ≡ Some t → ((k : ℕ) → has_struct k t ≡ true → ⊥) → Told
    plain_shape t is_it none = inr (subst (λ (x : Tree). (k : ℕ) → has_struct k x ≡ true → ⊥) (same_Some t v (sym is_it ∙ shaped)) none)

    vector_free : (k : ℕ) → has_struct k (vector elem.Uint 3) ≡ true → ⊥
    vector_free k has = cc

    by_literal : is_size_composite m.heads g ≡ false → free_spec_id S g.result ≡ None → (b : Bool) → has_literal S g ≡ b → Told
    by_literal off none true has = inr (scalar_plain v (literal_scalar m.globals g.ty v (not (is g.op code.SpecConstantOp)) shaped has))
    by_literal off none false has =
        by_name (ap (λ (b : Bool). if b then GroupSize else reading_by_spec S g (free_spec_id S g.result)) off ∙ (ap (reading_by_spec S g) none ∙ ap reading_by_literal has))

    by_part : is_size_composite m.heads g ≡ false → (spec : ℕ) → free_spec_id S g.result ≡ Some spec → (q : Option ℕ) → position_from (λ (k : ℕ). k == g.result) 0 (size_ids S) ≡ q → Told
    by_part off spec is_it None at =
        by_name (ap (λ (b : Bool). if b then GroupSize else reading_by_spec S g (free_spec_id S g.result)) off ∙ (ap (reading_by_spec S g) is_it ∙ ap reading_by_part at))
    by_part off spec is_it (Some axis) at =
        plain_shape uint (part n g (subst (λ (i : ℕ). list_any (λ (k : ℕ). k == i) (size_ids S) ≡ true) there.1 (found_any (λ (k : ℕ). k == g.result) 0 (size_ids S) axis at)) found) (scalar_plain uint refl)

    by_spec : is_size_composite m.heads g ≡ false → (q : Option ℕ) → free_spec_id S g.result ≡ q → Told
    by_spec off None none = by_literal off none (has_literal S g) refl
    by_spec off (Some spec) is_it = by_part off spec is_it (position_from (λ (k : ℕ). k == g.result) 0 (size_ids S)) refl

    by_whole : (b : Bool) → is_size_composite m.heads g ≡ b → Told
    by_whole true on = plain_shape (vector elem.Uint 3) (whole g there.0 on) vector_free
    by_whole false off = by_spec off (free_spec_id S g.result) refl

    pub declared_or_plain : Told
    declared_or_plain = by_whole (is_size_composite m.heads g) refl
