-- The lengths of a module's array types are written as numbers that are words, by names that are declared, or as parts of the size of workgroups.
use Rattle.std.proofs.Common.{◌≡◌, ◌==◌, ℕ, true, List, Option, Some, None, refl, sym, ap, ◌∙◌, subst}
use Rattle.std.specs.Prelude.{is_some, slice_index}
use Rattle.std.specs.Option.{option_map_or}
use Rattle.std.specs.List.{list_any}
use Rattle.std.proofs.lemmas.Bool.{or_left, or_right, and_from}
use Rattle.spv_ops.specs.Opcode.{is}
use Rattle.spv_ops.specs.Groups.{is_constant as is_constant_op}
use Rattle.spv_ops.specs.declared.Op.{Op}
use Rattle.spv_ops.specs.declared.Op.TheVariants as code
use Rattle.spv_module.specs.State.{ModuleState}
use Rattle.spv_module.specs.Held.{global}
use Rattle.spv_module.specs.Lists.{id}
use Rattle.spv_module.specs.declared.inst.Id.{Id as IdOf}
use Rattle.spv_module.specs.declared.inst.Inst.{Inst}
use Rattle.spv_module.specs.declared.tree.Length.{Length}
use Rattle.spv_module.specs.declared.tree.Length.TheVariants.{Fixed, Spec}
use Rattle.spv_types.specs.Types.{length_of, length_by}
use Rattle.conformance.specs.Rules.{Options}
use Rattle.name_alloc.specs.declared.claims.Key.TheVariants.{Id}
use Rattle.name_alloc.specs.Naming.{name_of}
use Rattle.glsl_ast.specs.Tree.{number, TranslationUnit}
use Rattle.glsl_grammar.specs.Spelled.{FitsWord}
use Rattle.text_rules.specs.declared.readings.Reading.{Reading}
use Rattle.text_rules.specs.declared.readings.Reading.TheVariants.{Plain, Named, GroupSize, GroupSizePart}
use Rattle.text_rules.specs.Constants.{Source, is_constant, reading, free_spec_id}
use Rattle.text_rules.specs.Declarations.{extent_by, length_extent}
use Rattle.text_rules.specs.Printed.{Reached, is_named, is_length_of, needs_constant, is_needed, is_declared_constant}
use Rattle.unit_rules.specs.Translation.{Naming, id_text}
use Rattle.unit_rules.specs.Unit.{reached_of, source_of, IsUnitOf}
use Rattle.list_law.proofs.Numbers.{number_same}
use Rattle.claim_law.specs.Uses.{Words, UsesExtent}
use Rattle.claim_law.specs.Blocks.{FitWords}
use Rattle.typed_law.specs.Conforms.{IsConforming}
use Rattle.typed_law.specs.Words.{AreGivenWords}
use Rattle.global_law.proofs.Constant.Standing.{needed_kept}
use Rattle.claim_law.specs.Claimed.{IsIn, HasName}
use Rattle.claim_law.proofs.Claim.Listed.{any_in}
use Rattle.claim_law.proofs.Claim.Keys.{constant_claimed}
use Rattle.claim_law.proofs.Claim.Constants.{found_in, no_struct}
use Rattle.claim_law.proofs.Claim.Named.{Plans, has_name_of}
use Rattle.grammar_law.specs.Types.{IsLengthOf}
use Rattle.grammar_law.specs.Words.{words_of, AreOfStructs}
use Rattle.grammar_law.proofs.Grammar.Readings.{none_fits, first_fits, plain_word_fits, id_value, axis_member, no_struct_there}

-- what gives a length
fixed_is : (o : Op) (q w n : ℕ) → length_of o q w ≡ Some (Fixed n) → n ≡ w
fixed_is code.Constant q w n e = cc
fixed_is o q w n e = cc

spec_is : (o : Op) (q w : ℕ) (l : IdOf) → length_of o q w ≡ Some (Spec l) → (is_constant_op o ≡ true) × (l.0 ≡ q)
spec_is code.Constant q w l e = cc
spec_is code.SpecConstantTrue q w l e = (refl, (let same : record { 0 = q } ≡ l = cc in ap (λ (x : IdOf). x.0) (sym same)))
spec_is code.SpecConstantFalse q w l e = (refl, (let same : record { 0 = q } ≡ l = cc in ap (λ (x : IdOf). x.0) (sym same)))
spec_is code.SpecConstant q w l e = (refl, (let same : record { 0 = q } ≡ l = cc in ap (λ (x : IdOf). x.0) (sym same)))
spec_is code.SpecConstantComposite q w l e = (refl, (let same : record { 0 = q } ≡ l = cc in ap (λ (x : IdOf). x.0) (sym same)))
spec_is code.SpecConstantOp q w l e = (refl, (let same : record { 0 = q } ≡ l = cc in ap (λ (x : IdOf). x.0) (sym same)))
spec_is o q w l e = cc

module _ (m : ModuleState) (entry : Option (List ℕ)) (right : IsConforming m entry) (o : Options) (unit : TranslationUnit) (u : IsUnitOf m o unit) where
  abbrev S : Source
  S = source_of m o u.entry

  abbrev Found : Naming
  Found = name_of u.claimed

  abbrev Written : Reached
  Written = reached_of (source_of m o u.entry) u.plans

  -- a constant that is declared has a name
  pub declared_named : (g : Inst) → IsIn g m.globals → is_constant g ≡ true → is_declared_constant S Written g ≡ true → HasName Found (Id (id g.result))
  declared_named g among constant declared = has_name_of m o unit u (Id (id g.result)) (constant_claimed S Written (Plans m o unit u) g among (no_struct g.op constant) declared)

  -- it is declared where it is needed, and read by its name
  pub needed_declared : (g : Inst) → is_constant g ≡ true → reading S g ≡ Named → is_needed S Written g.result ≡ true → is_declared_constant S Written g ≡ true
  needed_declared g constant named needed = and_from (is_constant g) _ constant (and_from (is_named (reading S g)) _ (ap is_named named) (or_right (is_some (free_spec_id S g.result)) (is_needed S Written g.result) needed))

  pub first_needed : (n : ℕ) → needs_constant S Written n ≡ true → is_needed S Written n ≡ true
  first_needed n on = needed_kept S (needs_constant S Written) m.globals n on

  -- the length of an array type is needed
  length_needed : (g : Inst) (n : ℕ) → IsIn g m.globals → is g.op code.TypeArray ≡ true → slice_index g.args 1 ≡ n → needs_constant S Written n ≡ true
  length_needed g n among array length =
      or_right (list_any (λ (k : ℕ). k == n) Written.mentions) _
      (or_left (list_any (is_length_of n) m.globals) _ (any_in (is_length_of n) m.globals g among (and_from (is g.op code.TypeArray) (slice_index g.args 1 == n) array (number_same (slice_index g.args 1) n length))))

  module _ (words : (g : Inst) → IsIn g m.globals → FitWords g.args) (given : AreGivenWords o.overrides) (names : List (List ℕ)) (structs : AreOfStructs m.globals (name_of u.claimed) names) where
    abbrev W : Words
    W = words_of m.globals (name_of u.claimed) names

    extent_uses : (c : Inst) → IsIn c m.globals → is_constant c ≡ true → needs_constant S Written c.result ≡ true → (r : Reading) → reading S c ≡ r → UsesExtent W (extent_by S (id_text Found) c r)
    extent_uses c among constant needs Plain is_it = plain_word_fits S given c (words c among)
    extent_uses c among constant needs Named is_it =
        id_value m entry right o unit u words given names structs c.result (no_struct_there m entry right o unit u words given names structs c among (no_struct c.op constant))
        (declared_named c among constant (needed_declared c constant is_it (first_needed c.result needs)))
    extent_uses c among constant needs GroupSize is_it = none_fits
    extent_uses c among constant needs (GroupSizePart axis) is_it = axis_member m entry right o unit u words given names structs axis

    -- the law
    pub lengths_use : (l : Length) → IsLengthOf m.globals l → UsesExtent W (length_extent S (id_text Found) l)
    lengths_use l of_it = by_constant (slice_index of_it.ty.args 1) refl (global m.globals (slice_index of_it.ty.args 1)) refl l of_it.length
      where
        by_constant : (q : ℕ) → slice_index of_it.ty.args 1 ≡ q → (c : Option Inst) → global m.globals q ≡ c → (l : Length) → length_by q c ≡ Some l → UsesExtent W (length_extent S (id_text Found) l)
        by_constant q own None at l is_it = cc
        by_constant q own (Some c) at (Fixed n) is_it = subst FitsWord (sym (fixed_is c.op q (slice_index c.args 0) n is_it)) (first_fits c.args (words c (found_in m.globals q c at).0))
        by_constant q own (Some c) at (Spec k) is_it =
            let there = found_in m.globals q c at in
            let w = spec_is c.op q (slice_index c.args 0) k is_it in
            subst (λ (x : Option Inst). UsesExtent W (option_map_or (λ (g : Inst). extent_by S (id_text Found) g (reading S g)) x (number 0))) (sym (ap (global m.globals) w.1 ∙ at))
            (extent_uses c there.0 w.0 (length_needed of_it.ty c.result of_it.among of_it.is_array (own ∙ sym there.1)) (reading S c) refl)
