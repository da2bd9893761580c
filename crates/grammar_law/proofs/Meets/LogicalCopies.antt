-- What OpCopyLogical asks for: the names of structs and members of both types, part by part (T12).
use Rattle.std.proofs.Common.{◌≡◌, ◌+◌, ◌==◌, ℕ, zero, suc, true, List, Option, Some, inl, sym, ap, ◌∙◌, subst, arith}
use Rattle.std.specs.Prelude.{slice_get, slice_index}
use Rattle.std.proofs.lemmas.Bool.{or_left, or_right}
use Rattle.std.proofs.lemmas.Option.{same_Some}
use Rattle.spv_module.specs.Lists.{id}
use Rattle.spv_module.specs.Held.{global}
use Rattle.spv_module.specs.declared.inst.Inst.{Inst}
use Rattle.spv_module.specs.declared.tree.Length.{Length}
use Rattle.spv_module.specs.declared.tree.Length.TheVariants.{Fixed}
use Rattle.spv_types.specs.Tree.{Tree, boolean, int, uint, vector, array, struct, Trees, no_trees, tree}
use Rattle.spv_types.specs.Types.{tree_before}
use Rattle.conformance.specs.Rules.{Options}
use Rattle.module_semantics.specs.Setting.{Setting}
use Rattle.name_alloc.specs.declared.claims.Key.TheVariants.{Id, Member}
use Rattle.name_alloc.specs.Naming.{name_of}
use Rattle.glsl_ast.specs.Tree.{TranslationUnit}
use Rattle.glsl_grammar.specs.Read.{is_declared}
use Rattle.glsl_grammar.specs.Spelled.{FitsWord}
use Rattle.text_rules.specs.Printed.{has_struct, have_struct, is_written_struct}
use Rattle.text_rules.specs.Declarations.{length_extent}
use Rattle.vec_lowering.specs.Named.{id_name, member_name}
use Rattle.vec_lowering.specs.Composite.{nth_or}
use Rattle.unit_rules.specs.Translation.{Naming, id_text}
use Rattle.unit_rules.specs.Unit.{source_of, IsUnitOf}
use Rattle.fits_law.specs.Takes.{nth_of, Alike, AllAlike}
use Rattle.claim_law.specs.Uses.{Words, UsesExtent}
use Rattle.claim_law.specs.Named.{IsNamedType, CanCopy, CanCopyParts}
use Rattle.typed_law.specs.Conforms.{IsConforming}
use Rattle.typed_law.proofs.Used.{global_found}
use Rattle.claim_law.specs.Claimed.{IsIn, HasName}
use Rattle.claim_law.proofs.Claim.Told.{named_is}
use Rattle.global_law.proofs.Constant.Calculated.{text_same}
use Rattle.grammar_law.specs.Words.{words_of}
use Rattle.grammar_law.specs.Types.{IsLengthOf, IsStructOf, IsOfTypes, AreOfTypes}
use Rattle.grammar_law.proofs.Unit.Lists.{as_among}
use Rattle.grammar_law.proofs.Unit.Structs.{Written, IsWrittenStruct, HasNames, structs_named, part_named}
use Rattle.grammar_law.proofs.Unit.Types.{own_struct}
use Rattle.grammar_law.proofs.Unit.Parts.{nth_arg}

nth_same : (ts : Trees) (k : ℕ) (v : Tree) → nth_of ts k ≡ Some v → nth_or ts k boolean ≡ v
nth_same no_trees k v at = cc
nth_same (tree t ts) zero v at = same_Some t v at
nth_same (tree t ts) (suc k) v at = nth_same ts k v at

module _ (s : Setting) (entry : Option (List ℕ)) (right : IsConforming s.of entry) (o : Options) (unit : TranslationUnit) (u : IsUnitOf s.of o unit) (names : List (List ℕ))
    (declared : (g : Inst) → IsIn g s.of.globals → is_written_struct (source_of s.of o u.entry) (Written s.of o unit u) g ≡ true → is_declared names (id_text (name_of u.claimed) g.result) ≡ true)
    (lengths : (l : Length) → IsLengthOf s.of.globals l → UsesExtent (words_of s.of.globals (name_of u.claimed) names) (length_extent (source_of s.of o u.entry) (id_text (name_of u.claimed)) l)) where
  abbrev Gs : List Inst
  Gs = s.of.globals

  abbrev Found : Naming
  Found = name_of u.claimed

  abbrev W : Words
  W = words_of s.of.globals (name_of u.claimed) names

  abbrev Here : Tree → Type 0
  Here = HasNames s.of o unit u

  -- each struct in one of these is written
  abbrev AllHere : Trees → Type 0
  AllHere ts = (n : ℕ) → have_struct n ts ≡ true → IsWrittenStruct s.of o unit u n

  struct_name : (n : ℕ) (ts : Trees) → Here (struct n ts) → W.struct (id_name Found n)
  struct_name n ts has = subst W.struct (sym (text_same (Found (Id (id n))))) (structs_named s.of o unit u names declared lengths (struct n ts) has n (own_struct n ts))

  length_fits : (n : ℕ) → IsLengthOf Gs (Fixed n) → FitsWord n
  length_fits n of_it = lengths (Fixed n) of_it

  -- the name of a type that is like another, which has no length that is specialized
  mutual
    type_named : (t v : Tree) → Alike t v → IsOfTypes Gs t → Here t → IsNamedType W Found t
    type_named boolean v like of_it has = tt
    type_named int v like of_it has = tt
    type_named uint v like of_it has = tt
    type_named (vector e n) v like of_it has = of_it
    type_named (array t (Fixed n)) (array v (Fixed m)) like of_it has = (length_fits n of_it.0, type_named t v like.0 of_it.1 has)
    type_named (struct n ts) v like of_it has = struct_name n ts has
    type_named t v like of_it has = absurd like

  -- the members of a struct whose type is written have names
  member_there : (n : ℕ) (ts : Trees) (k : ℕ) (v : Tree) → IsStructOf Gs n ts → IsWrittenStruct s.of o unit u n → nth_of ts k ≡ Some v → W.member (member_name Found n k)
  member_there n ts k v own has at =
      let arg = (nth_arg (tree_before Gs own.ty.at) own.ty.args ts k v own.parts at).0 in
      let same : has.ty ≡ own.ty = same_Some has.ty own.ty (sym (global_found s.of entry right has.ty (as_among Gs has.ty has.among)) ∙ (ap (global Gs) (has.result ∙ sym own.result) ∙ global_found s.of entry right own.ty (as_among Gs own.ty own.among))) in
      let named : HasName Found (Member (id n) k) = subst (λ (m : ℕ). HasName Found (Member (id m) k)) has.result (part_named s.of o unit u has.ty k (slice_index own.ty.args k) has.among has.is_struct has.written (subst (λ (g : Inst). slice_get g.args k ≡ Some (slice_index own.ty.args k)) (sym same) arg)) in
      subst W.member (sym (text_same (Found (Member (id n) k)))) (inl (Member (id n) k, named_is Found (Member (id n) k) named))

  mutual
    pub can_copy : (t v : Tree) → Alike t v → IsOfTypes Gs t → IsOfTypes Gs v → Here t → Here v → CanCopy W Found t v
    can_copy boolean v like of_it from_it has from_has = tt
    can_copy int v like of_it from_it has from_has = tt
    can_copy uint v like of_it from_it has from_has = tt
    can_copy (vector e n) v like of_it from_it has from_has = tt
    can_copy (array t (Fixed n)) (array v (Fixed m)) like of_it from_it has from_has = (type_named (array t (Fixed n)) (array v (Fixed m)) like of_it has, can_copy t v like.0 of_it.1 from_it.1 has from_has)
    can_copy (struct n ts) (struct m us) like of_it from_it has from_has =
        (struct_name n ts has, parts_copy ts us us m 0 like of_it.1 from_it.1 (λ k there. has k (or_right (n == k) (have_struct k ts) there)) (λ k there. from_has k (or_right (m == k) (have_struct k us) there)) from_it.0 (from_has m (own_struct m us)) (λ j. ap (nth_of us) (let first : 0 + j ≡ j = omega arith in first)))
    can_copy t v like of_it from_it has from_has = absurd like

    -- of the whole struct these are the members from k on
    parts_copy : (ts us whole : Trees) (m k : ℕ) → AllAlike ts us → AreOfTypes Gs ts → AreOfTypes Gs us → AllHere ts → AllHere us → IsStructOf Gs m whole → IsWrittenStruct s.of o unit u m → ((j : ℕ) → nth_of whole (k + j) ≡ nth_of us j) → CanCopyParts W Found ts m whole k
    parts_copy no_trees no_trees whole m k like of_it from_it has from_has own written same = tt
    parts_copy (tree t ts) (tree v us) whole m k like of_it from_it has from_has own written same =
        let at : nth_of whole k ≡ Some v = ap (nth_of whole) (let first : k ≡ k + 0 = omega arith in first) ∙ same 0 in (
          member_there m whole k v own written at,
          subst (CanCopy W Found t) (sym (nth_same whole k v at)) (can_copy t v like.0 of_it.0 from_it.0 (λ n there. has n (or_left (has_struct n t) (have_struct n ts) there)) (λ n there. from_has n (or_left (has_struct n v) (have_struct n us) there))),
          parts_copy ts us whole m (k + 1) like.1 of_it.1 from_it.1 (λ n there. has n (or_right (has_struct n t) (have_struct n ts) there)) (λ n there. from_has n (or_right (has_struct n v) (have_struct n us) there)) own written
              (λ j. ap (nth_of whole) (let next : k + 1 + j ≡ k + suc j = omega arith in next) ∙ same (suc j)),
        )
    parts_copy ts us whole m k like of_it from_it has from_has own written same = absurd like
