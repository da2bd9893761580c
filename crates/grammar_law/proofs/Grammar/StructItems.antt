-- A struct that is written has members, and these have names, and types that are declared before it; so have the members of a block.
use Rattle.std.proofs.Common.{◌≡◌, ◌≤◌, ◌<◌, ◌==◌, ◌&&◌, ◌||◌, not, ℕ, zero, suc, Bool, true, false, List, [], ◌∷◌, length, map, Option, Some, None, inl, inr, refl, sym, ap, ◌∙◌, subst, arith}
use Rattle.std.specs.Prelude.{option_map, unwrap_or, slice_get, slice_index}
use Rattle.std.specs.Option.{option_map_or}
use Rattle.std.specs.List.{enumerate_from, list_any}
use Rattle.std.proofs.lemmas.Bool.Decides.{nat_tests}
use Rattle.std.proofs.lemmas.Bool.{or_left, or_right}
use Rattle.std.proofs.lemmas.Option.{same_Some}
use Rattle.spv_ops.specs.Opcode.{is, number}
use Rattle.spv_ops.specs.declared.Op.TheVariants as code
use Rattle.spv_module.specs.State.{ModuleState}
use Rattle.spv_module.specs.Lists.{id}
use Rattle.spv_module.specs.declared.inst.Inst.{Inst}
use Rattle.spv_types.specs.Tree.{Tree, Trees, tree}
use Rattle.spv_types.specs.Types.{both, all_trees, tree_before, tree_at, type_tree, earlier}
use Rattle.spv_types.proofs.Below.{tree_before_is}
use Rattle.spv_decor.specs.Rows.{Key, word, first_row, has_key, value_of, member_value_of}
use Rattle.spv_index.specs.BlockStructs.{is_block}
use Rattle.conformance.specs.Rules.{Options}
use Rattle.name_alloc.specs.declared.claims.Key.{Key as NameKey}
use Rattle.name_alloc.specs.declared.claims.Key.TheVariants.{Id, Member}
use Rattle.name_alloc.specs.Naming.{name_of}
use Rattle.glsl_ast.specs.Tree.{field, TranslationUnit}
use Rattle.glsl_grammar.specs.Spelled.{FitsWord, IsName}
use Rattle.text_rules.specs.Declarations.{Names, members, struct_decl, member_decl, type_at}
use Rattle.text_rules.specs.Printed.{has_struct, have_struct, is_written_struct, pointee_or_self, type_has_struct, written_types}
use Rattle.unit_rules.specs.Translation.{text_of}
use Rattle.unit_rules.specs.Unit.{source_of, item_names_of, IsUnitOf}
use Rattle.claim_law.specs.Uses.{Words, UsesType}
use Rattle.claim_law.specs.Units.{UseFields, UseMembers, UsesDecl}
use Rattle.claim_law.specs.Blocks.{FitWords}
use Rattle.typed_law.specs.Conforms.{IsConforming}
use Rattle.typed_law.specs.Words.{AreGivenWords}
use Rattle.typed_law.proofs.Lists.{and_right, and_off, earlier_some, some_by}
use Rattle.typed_law.proofs.Types.{of_form}
use Rattle.typed_law.proofs.Used.{global_found}
use Rattle.global_law.specs.Within.{IsWithin, AreWithin, IsNoBlock, Anything}
use Rattle.global_law.proofs.Constant.Within.{members_unblocked, any_within}
use Rattle.global_law.proofs.Constant.Written.{held_member}
use Rattle.claim_law.specs.Claimed.{IsIn, HasName}
use Rattle.claim_law.proofs.Claim.Told.{named_is}
use Rattle.claim_law.proofs.Claim.Words.{given_is_name}
use Rattle.grammar_law.specs.Words.{words_of, AreOfStructs}
use Rattle.grammar_law.proofs.Unit.Lists.{found_by, as_among, of_numbered_first}
use Rattle.grammar_law.proofs.Unit.Structs.{struct_named, part_named}
use Rattle.grammar_law.proofs.Grammar.Readings.{none_fits}
use Rattle.grammar_law.proofs.Grammar.Lengths.{lengths_use}
use Rattle.grammar_law.proofs.Grammar.Held.{struct_in, Written, Run, Held, AreDeclaredBefore, type_stands}

-- lists
any_found : (test : ℕ → Bool) (xs : List ℕ) → list_any test xs ≡ true → (x : ℕ) × (test x ≡ true)
any_found test [] on = cc
any_found test (x ∷ xs) on = by_test (test x) refl on (any_found test xs)
  where
    by_test : (b : Bool) → test x ≡ b → (b || list_any test xs) ≡ true → (list_any test xs ≡ true → (y : ℕ) × (test y ≡ true)) → (y : ℕ) × (test y ≡ true)
    by_test true is_it on later = (x, is_it)
    by_test false is_it on later = later on

-- types of members
whole_type : (gs : List Inst) (at p : ℕ) (v : Tree) → tree_before gs at p ≡ Some v → type_tree gs p ≡ Some v
whole_type gs at p v shaped = by_earlier (earlier gs at p) refl (sym (tree_before_is gs at p) ∙ shaped)
  where
    by_earlier : (q : Option Inst) → earlier gs at p ≡ q → option_map_or (tree_at gs) q None ≡ Some v → type_tree gs p ≡ Some v
    by_earlier None there e = cc
    by_earlier (Some h) there e = ap (λ (q : Option Inst). option_map_or (tree_at gs) q None) (earlier_some gs at p h there).0 ∙ e

module _ (Q : Inst → Type 0) (m : ModuleState) (n : ℕ) (f : ℕ → Option Tree) where
  -- the member at a place has a type with a shape, which is within, and of which each struct is one of the struct's
  abbrev pub IsMember : ℕ → Trees → Type 0
  IsMember ty ts = (v : Tree) × (f ty ≡ Some v) × IsWithin Q m n v × ((j : ℕ) → has_struct j v ≡ true → have_struct j ts ≡ true)

  pub member_of : (args : List ℕ) (ts : Trees) (k ty : ℕ) → all_trees f args ≡ Some ts → slice_get args k ≡ Some ty → AreWithin Q m n ts → IsMember ty ts
  member_of [] ts k ty all at within = absurd (no_part k at)
    where
      no_part : (k : ℕ) → slice_get [] k ≡ Some ty → ⊥
      no_part zero at = cc
      no_part (suc k) at = cc
  member_of (a ∷ args) ts k ty all at within = by_both (f a) refl (all_trees f args) refl all (λ us i rest there parts. member_of args us i ty rest there parts)
    where
      by_place : (v : Tree) (vs : Trees) → f a ≡ Some v → all_trees f args ≡ Some vs → AreWithin Q m n (tree v vs) → ((us : Trees) (i : ℕ) → all_trees f args ≡ Some us → slice_get args i ≡ Some ty → AreWithin Q m n us → IsMember ty us) → (i : ℕ) → slice_get (a ∷ args) i ≡ Some ty → IsMember ty (tree v vs)
      by_place v vs one rest parts later zero there = (v, (let same : a ≡ ty = cc in subst (λ (x : ℕ). f x ≡ Some v) same one), parts.0, λ j has. or_left (has_struct j v) (have_struct j vs) has)
      by_place v vs one rest parts later (suc i) there = let w = later vs i rest there parts.1 in (w.0, w.1, w.2, λ j has. or_right (has_struct j v) (have_struct j vs) (w.3 j has))

      by_both : (q : Option Tree) → f a ≡ q → (r : Option Trees) → all_trees f args ≡ r → both q r ≡ Some ts → ((us : Trees) (i : ℕ) → all_trees f args ≡ Some us → slice_get args i ≡ Some ty → AreWithin Q m n us → IsMember ty us) → IsMember ty ts
      by_both None one r rest e later = cc
      by_both (Some v) one None rest e later = cc
      by_both (Some v) one (Some vs) rest e later =
          let same = same_Some (tree v vs) ts e in
          subst (IsMember ty) same (by_place v vs one rest (subst (AreWithin Q m n) (sym same) within) later k at)

-- numbers in decorations
pub nth_fits : (args : List ℕ) (k : ℕ) → FitWords args → FitsWord (slice_index args k)
nth_fits [] zero fit = none_fits
nth_fits [] (suc k) fit = none_fits
nth_fits (a ∷ args) zero fit = fit.0
nth_fits (a ∷ args) (suc k) fit = nth_fits args k fit.1

module _ (heads : List Inst) (rows : (h : Inst) → IsIn h heads → FitWords h.args) where
  row_fits : (key : Key) (k : ℕ) → FitsWord (unwrap_or (option_map (λ (h : Inst). word h k) (first_row heads key)) 0)
  row_fits key k = by_row (first_row heads key) refl
    where
      by_row : (q : Option Inst) → first_row heads key ≡ q → FitsWord (unwrap_or (option_map (λ (h : Inst). word h k) q) 0)
      by_row None at = none_fits
      by_row (Some h) at = nth_fits h.args k (rows h (found_by (has_key key) heads h at).0)

  pub value_fits : (n decoration : ℕ) → FitsWord (unwrap_or (value_of heads n decoration) 0)
  value_fits n decoration = row_fits (number code.Decorate, n, 0, decoration) 2

  pub member_value_fits : (n k decoration : ℕ) → FitsWord (unwrap_or (member_value_of heads n k decoration) 0)
  member_value_fits n k decoration = row_fits (number code.MemberDecorate, n, k, decoration) 3

module _ (m : ModuleState) (entry : Option (List ℕ)) (right : IsConforming m entry) (o : Options) (unit : TranslationUnit) (u : IsUnitOf m o unit) where
  abbrev pub N : Names
  N = item_names_of (source_of m o u.entry) (name_of u.claimed)

  abbrev Held' : ℕ → Type 0
  Held' = Held m entry right o unit u

  -- a key that has a name has one of the grammar
  pub key_is_name : (key : NameKey) → HasName (name_of u.claimed) key → IsName (text_of (name_of u.claimed) key)
  key_is_name key named = given_is_name (name_of u.claimed) u.lawful key (text_of (name_of u.claimed) key) (named_is (name_of u.claimed) key named)

  -- a struct that something written has, has a shape
  module _ (g : Inst) (there : IsIn g m.globals) (struct : is g.op code.TypeStruct ≡ true) where
    shaped_by : (t : Tree) (ty : ℕ) → type_tree m.globals ty ≡ Some t → has_struct g.result t ≡ true → (ts : Trees) × (all_trees (tree_before m.globals g.at) g.args ≡ Some ts)
    shaped_by t ty shaped has =
        let w = any_within m entry right ty t shaped in
        let b = struct_in Anything m w.0 g.result t w.1 has in
        let same : b.1.inst ≡ g = same_Some b.1.inst g (sym b.1.there ∙ global_found m entry right g (as_among m.globals g there)) in
        (b.0, ap (λ (x : Inst). all_trees (tree_before m.globals x.at) x.args) (sym same) ∙ b.1.members)

    pub held_parts : Held' g.result → (ts : Trees) × (all_trees (tree_before m.globals g.at) g.args ≡ Some ts)
    held_parts held =
        let ty = any_found (type_has_struct m.globals g.result) (written_types (source_of m o u.entry) (Written m entry right o unit u)) held in
        let t = some_by (has_struct g.result) (type_tree m.globals (pointee_or_self m.globals ty.0)) ty.1 in
        shaped_by t.0 (pointee_or_self m.globals ty.0) t.1 t.2

    some_args : (args : List ℕ) → (length args == 0) ≡ false → 1 ≤ length args
    some_args args some = grind (arith, nat_tests, some)

    pub some_members : 1 ≤ length g.args
    some_members = some_args g.args (and_off (is g.op code.TypeStruct) (length g.args == 0) (of_form m entry right g (as_among m.globals g there)).3 struct)

    module _ (words : (h : Inst) → IsIn h m.globals → FitWords h.args) (given : AreGivenWords o.overrides) (names : List (List ℕ)) (structs : AreOfStructs m.globals (name_of u.claimed) names) (n : ℕ) (low : g.at ≤ n) (declared : AreDeclaredBefore m entry right o unit u names n) (held : (j : ℕ) (ts : Trees) → all_trees (tree_before m.globals g.at) g.args ≡ Some ts → have_struct j ts ≡ true → Held' j) (ts : Trees) (all : all_trees (tree_before m.globals g.at) g.args ≡ Some ts) where
      abbrev W : Words
      W = words_of m.globals (name_of u.claimed) names

      earlier_declared : AreDeclaredBefore m entry right o unit u names g.at
      earlier_declared h h_in less written = declared h h_in (let lower : h.at < n = omega (arith, less, low) in lower) written

      abbrev pub IsUsedMember : ℕ × ℕ → Type 0
      IsUsedMember k = UsesType W (type_at (source_of m o u.entry) N k.1) × W.member (N.member g.result k.0)

      -- the type of a member
      member_type : (k ty : ℕ) → slice_get g.args k ≡ Some ty → UsesType W (type_at (source_of m o u.entry) N ty)
      member_type k ty at =
          let v = member_of (IsNoBlock m) m g.at (tree_before m.globals g.at) g.args ts k ty all at (members_unblocked m entry right g ts (as_among m.globals g there) struct all) in
          type_stands m entry right o unit u names g.at earlier_declared (lengths_use m entry right o unit u words given names structs) N refl ty v.0 (whole_type m.globals g.at ty v.0 v.1) v.2 (λ j has. held j ts all (v.3 j has))

      -- each member, where it has a name
      pub members_use : ((k ty : ℕ) → slice_get g.args k ≡ Some ty → HasName (name_of u.claimed) (Member (id g.result) k)) → (k : ℕ × ℕ) → IsIn k (members g) → IsUsedMember k
      members_use named k k_in =
          let at = of_numbered_first g.args k.0 k.1 k_in in
          (member_type k.0 k.1 at, inl (Member (id g.result) k.0, named_is (name_of u.claimed) (Member (id g.result) k.0) (named k.0 k.1 at)))

      -- in the fields of a struct
      fields_use : (ks : List (ℕ × ℕ)) → ((k : ℕ × ℕ) → IsIn k ks → IsUsedMember k) → UseFields W (map (λ (k : ℕ × ℕ). field (type_at (source_of m o u.entry) N k.1) (N.member g.result k.0)) ks)
      fields_use [] each = tt
      fields_use (k ∷ ks) each = let one = each k (inl refl) in (one.0, one.1, fields_use ks (λ j there. each j (inr there)))

      some_fields : (args : List ℕ) → 1 ≤ length args → 1 ≤ length (map (λ (k : ℕ × ℕ). field (type_at (source_of m o u.entry) N k.1) (N.member g.result k.0)) (enumerate_from 0 args))
      some_fields [] some = absurd (omega (arith, some))
      some_fields (a ∷ args) some = omega arith

      -- and of a block
      module _ (v : Inst) (rows : (h : Inst) → IsIn h m.heads → FitWords h.args) where
        pub block_members_use : (ks : List (ℕ × ℕ)) → ((k : ℕ × ℕ) → IsIn k ks → IsUsedMember k) → UseMembers W (map (member_decl (source_of m o u.entry) N v g) ks)
        block_members_use [] each = tt
        block_members_use (k ∷ ks) each = let one = each k (inl refl) in (member_value_fits m.heads rows g.result k.0 _, one.0, one.1, block_members_use ks (λ j there. each j (inr there)))

        pub some_members_written : (args : List ℕ) → 1 ≤ length args → 1 ≤ length (map (member_decl (source_of m o u.entry) N v g) (enumerate_from 0 args))
        some_members_written [] some = absurd (omega (arith, some))
        some_members_written (a ∷ args) some = omega arith

      pub struct_made : is_written_struct (source_of m o u.entry) (Written m entry right o unit u) g ≡ true → UsesDecl W (struct_decl (source_of m o u.entry) N g)
      struct_made written = (
        key_is_name (Id (id g.result)) (struct_named m o unit u g there struct written),
        some_fields g.args some_members,
        fields_use (members g) (members_use (λ k ty at. part_named m o unit u g k ty there struct written at)),
      )

    -- a struct that is written is held, and so are those in its members
    pub written_held : is_written_struct (source_of m o u.entry) (Written m entry right o unit u) g ≡ true → Held' g.result
    written_held written =
        and_right (not (is_block m.heads g.result)) (list_any (type_has_struct m.globals g.result) (written_types (source_of m o u.entry) (Written m entry right o unit u)))
        (and_right (is g.op code.TypeStruct) (not (is_block m.heads g.result) && list_any (type_has_struct m.globals g.result) (written_types (source_of m o u.entry) (Written m entry right o unit u))) written)

    pub inner_held : Held' g.result → (j : ℕ) (ts : Trees) → all_trees (tree_before m.globals g.at) g.args ≡ Some ts → have_struct j ts ≡ true → Held' j
    inner_held held j ts all has = held_member (Run m entry right o unit u) entry right o.overrides (Written m entry right o unit u) g.result g ts j (global_found m entry right g (as_among m.globals g there)) all has held
