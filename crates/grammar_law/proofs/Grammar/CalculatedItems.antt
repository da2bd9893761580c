-- What a calculated constant is written as is made of declared words: its operands are, and of names of members and types it asks for those of its operand's type.
use Rattle.std.proofs.Common.{◌≡◌, ◌==◌, ◌&&◌, ◌||◌, not, ℕ, zero, suc, Bool, true, false, List, [], ◌∷◌, drop, take, length, map, Option, Some, None, nat_lt, nat_le, inl, refl, sym, ap, ◌∙◌, subst, if◌then◌else◌}
use Rattle.std.specs.Prelude.{◌+◌, is_some, option_and_then, slice_get, slice_index, unwrap_or}
use Rattle.std.specs.Option.{option_map_or, option_or}
use Rattle.std.specs.List.{list_any, position_from}
use Rattle.std.proofs.lemmas.Bool.{not-false, or_left as or_on_left, or_right as or_on_right}
use Rattle.std.proofs.lemmas.Option.{same_Some, none-some}
use Rattle.spv_ops.specs.Opcode.{is, number, op_of}
use Rattle.spv_ops.specs.OpGroups.{group_of}
use Rattle.spv_ops.specs.Groups.{is_inner, is_constant as is_constant_op}
use Rattle.spv_ops.specs.Operands.{inner_of}
use Rattle.spv_ops.specs.declared.Op.{Op}
use Rattle.spv_ops.specs.declared.Op.TheVariants as code
use Rattle.spv_module.specs.State.{ModuleState}
use Rattle.spv_module.specs.Held.{global}
use Rattle.spv_module.specs.Lists.{id}
use Rattle.spv_module.specs.declared.inst.Inst.{Inst}
use Rattle.spv_module.specs.declared.tree.Elem.TheVariants as elem
use Rattle.spv_module.specs.declared.tree.Length.TheVariants.{Fixed, Spec}
use Rattle.spv_types.specs.Leaves.{IsSized}
use Rattle.spv_types.specs.Tree as plain
use Rattle.spv_types.specs.Tree.{Tree, Trees, no_trees, tree}
use Rattle.spv_types.specs.Types.{both, all_trees, tree_before, tree_at, type_tree}
use Rattle.spv_decor.specs.Rows.{word}
use Rattle.spv_index.specs.Locals.{typed, local_type, type_in}
use Rattle.op_semantics.specs.declared.operation.Operation.{Operation}
use Rattle.op_semantics.specs.declared.operation.Operation.TheVariants as op
use Rattle.op_semantics.specs.Value.{operation, operation_of}
use Rattle.profile_rules.specs.declared.constant.ConstantKind.TheVariants as kinds
use Rattle.profile_rules.specs.Constants.{constant_kind, inner_operands, inner_literals, is_flat}
use Rattle.profile_rules.specs.TypeRows.{fails, value_fails, is_vector}
use Rattle.profile_rules.specs.TypeRules.{inner, is_sound, is_value_broken}
use Rattle.profile_rules.specs.ValueRules.{has_other_components, has_other_sizes, is_elsewhere, part_of, breaks_t9, breaks_t11_extract}
use Rattle.conformance.specs.Rules.{Options}
use Rattle.name_alloc.specs.declared.claims.Key.{Key}
use Rattle.name_alloc.specs.declared.claims.Key.TheVariants.{Member}
use Rattle.name_alloc.specs.Naming.{name_of}
use Rattle.glsl_ast.specs.Tree.{TranslationUnit}
use Rattle.glsl_ast.specs.declared.expressions.Literal.TheVariants.{Uint}
use Rattle.glsl_grammar.specs.Spelled.{FitsWord}
use Rattle.int_lowering.specs.declared.built_ins.BuiltIn.{BuiltIn}
use Rattle.int_lowering.specs.Operand.{basic_type}
use Rattle.int_lowering.specs.Term.{built_in_name}
use Rattle.int_lowering.specs.Lowered.{zero as zero_expr}
use Rattle.vec_lowering.specs.Named.{Naming, text_or_none, member_name}
use Rattle.vec_lowering.specs.Composite.{Argument, first_of, nth_or}
use Rattle.text_rules.specs.declared.readings.Reading.{Reading}
use Rattle.text_rules.specs.declared.readings.Reading.TheVariants.{Plain, Named, GroupSize, GroupSizePart}
use Rattle.text_rules.specs.Constants.{is_scalar, size_ids, is_constant, reading, plain_value}
use Rattle.text_rules.specs.Declarations.{Names, word_of, shape_at}
use Rattle.text_rules.specs.Printed.{has_operand, has_struct, have_struct, is_needed, is_written_variable, is_declared_constant}
use Rattle.text_items.specs.Names.{is_plain, is_number, literal_word, operand_by, operand, inner_opcode, calculated_by}
use Rattle.spv_types.specs.Types.{elem_of}
use Rattle.list_law.proofs.Numbers.{number_same}
use Rattle.fits_law.specs.Takes as takes
use Rattle.unit_rules.specs.Translation.{id_text}
use Rattle.unit_rules.specs.Unit.{source_of, IsUnitOf}
use Rattle.claim_law.specs.Uses.{Words, UsesExpr}
use Rattle.claim_law.specs.Named.{FitsShape, FitsIfSome, LeadIn, IsArgument, AreArguments, IsNamedType, AreNamedAlong, AsksIfAny}
use Rattle.claim_law.specs.Blocks.{FitWords}
use Rattle.claim_law.proofs.Spell.Scalars.{zero-uses}
use Rattle.claim_law.proofs.Spell.Composites.{lowered-uses}
use Rattle.claim_law.proofs.Spell.Values.{shape-fits}
use Rattle.type_law.proofs.Parts.{extract_takes}
use Rattle.type_law.proofs.Rows.{vector_parts}
use Rattle.typed_law.specs.Conforms.{IsConforming}
use Rattle.typed_law.specs.Words.{AreGivenWords}
use Rattle.typed_law.proofs.Lists.{or_left, or_right}
use Rattle.typed_law.proofs.Types.{row_is}
use Rattle.typed_law.proofs.Used.{global_found}
use Rattle.typed_law.proofs.Values.{type_suits, typed_is, global_row, global_typed_some}
use Rattle.global_law.specs.Within.{IsWithin, AreWithin, IsNoBlock}
use Rattle.global_law.proofs.Constant.Within.{typed_constant, constant_within}
use Rattle.global_law.proofs.Constant.Written.{own_type, held_by, struct_written}
use Rattle.global_law.proofs.Constant.Needed.{AllOperands, inner_operands_are}
use Rattle.global_law.proofs.Constant.Constituents.{nothing, calculated_op, operation_right}
use Rattle.global_law.specs.Items.{AreSizes}
use Rattle.global_law.proofs.Constant.Inner.{inner_operation}
use Rattle.global_law.proofs.Constant.Conforming.{sizes_conform}
use Rattle.global_law.proofs.Constant.Reading.{size_reading, part_reading}
use Rattle.global_law.proofs.Global.Plain.{plain_is}
use Rattle.claim_law.specs.Claimed.{IsIn, HasName}
use Rattle.claim_law.proofs.Claim.Constants.{found_in}
use Rattle.claim_law.proofs.Claim.Told.{axes_told}
use Rattle.grammar_law.specs.Words.{words_of, AreOfStructs}
use Rattle.grammar_law.proofs.Unit.Lists.{as_among}
use Rattle.grammar_law.proofs.Unit.Structs.{part_named}
use Rattle.grammar_law.proofs.Unit.Words.{built_in_value}
use Rattle.grammar_law.proofs.Grammar.Readings.{none_fits, plain_word_fits}
use Rattle.grammar_law.proofs.Grammar.Lengths.{needed_declared}
use Rattle.grammar_law.proofs.Grammar.Held.{Written, Run, Held, AreDeclaredBefore}
use Rattle.grammar_law.proofs.Grammar.StructItems.{N}
use Rattle.grammar_law.proofs.Grammar.ConstantItems.{has_operands, broken_none, constant_typed, constant_is, typed_as, operand_is_needed, operand_constant, operand_uses}
use Rattle.grammar_law.proofs.Grammar.Sizes.{chosen_is}

-- opcodes that may stand there: all but two ask for no names
abbrev asks_nothing : Option Operation → Bool
asks_nothing None = true
asks_nothing (Some op.CompositeConstruct) = false
asks_nothing (Some op.CompositeExtract) = false
asks_nothing (Some op.VectorShuffle) = false
asks_nothing (Some op.Copy) = false
asks_nothing (Some _) = true

inner_asks : (o : Op) → is_inner o ≡ true → is o code.CompositeExtract ≡ false → is o code.VectorShuffle ≡ false → asks_nothing (operation o) ≡ true
unfolding operation number
inner_asks code.CompositeExtract on first second = cc
inner_asks o on first second = cc

extract_is : (o : Op) → is o code.CompositeExtract ≡ true → (operation o ≡ Some op.CompositeExtract) × ((args : List ℕ) → (inner_operands o args ≡ take 1 args) × (inner_literals o args ≡ drop 1 args))
unfolding operation number
extract_is code.CompositeExtract on = (refl, λ args. (refl, refl))
extract_is o on = cc

shuffle_is : (o : Op) → is o code.VectorShuffle ≡ true → operation o ≡ Some op.VectorShuffle
unfolding operation number
shuffle_is code.VectorShuffle on = refl
shuffle_is o on = cc

extract_right : (m : ModuleState) (t : ℕ → Option ℕ) (i : Inst) (o : Op) → is o code.CompositeExtract ≡ true → is_value_broken m t i (group_of o) ≡ false → breaks_t11_extract m.globals t i ≡ false
unfolding group_of number
extract_right m t i code.CompositeExtract on off = off
extract_right m t i o on off = cc

shuffle_right : (m : ModuleState) (t : ℕ → Option ℕ) (i : Inst) (o : Op) → is o code.VectorShuffle ≡ true → is_value_broken m t i (group_of o) ≡ false → breaks_t9 m.globals t i ≡ false
unfolding group_of number
shuffle_right m t i code.VectorShuffle on off = off
shuffle_right m t i o on off = cc

inner_is : (n : ℕ) (o : Op) → inner_of n ≡ Some o → (op_of n ≡ Some o) × (is_inner o ≡ true)
unfolding inner_of
inner_is n o at = by_op (op_of n) at
  where
    by_inner : (p : Op) (b : Bool) → is_inner p ≡ b → (if b then Some p else None) ≡ Some o → (Some p ≡ Some o) × (is_inner o ≡ true)
    by_inner p true on e = let same : p ≡ o = cc in (e, ap is_inner (sym same) ∙ on)
    by_inner p false off e = cc

    by_op : (q : Option Op) → option_and_then (λ (p : Op). if is_inner p then Some p else None) q ≡ Some o → (q ≡ Some o) × (is_inner o ≡ true)
    by_op None e = cc
    by_op (Some p) e = by_inner p (is_inner p) refl e

module _ (W : Words) (names : Naming) where
  plain_asks : (o : Op) (x : Option Operation) (t : Tree) (ks : List ℕ) (xs : List Argument) → asks_nothing x ≡ true → AsksIfAny W names o x t ks xs
  plain_asks o None t ks xs on = tt
  plain_asks o (Some (op.Unary f)) t ks xs on = tt
  plain_asks o (Some (op.Binary f)) t ks xs on = tt
  plain_asks o (Some (op.Comparison f)) t ks xs on = tt
  plain_asks o (Some (op.Logical f)) t ks xs on = tt
  plain_asks o (Some op.LogicalNot) t ks xs on = tt
  plain_asks o (Some (op.Clamp f)) t ks xs on = tt
  plain_asks o (Some op.BitFieldInsert) t ks xs on = tt
  plain_asks o (Some op.BitFieldSExtract) t ks xs on = tt
  plain_asks o (Some op.BitFieldUExtract) t ks xs on = tt
  plain_asks o (Some op.Any) t ks xs on = tt
  plain_asks o (Some op.All) t ks xs on = tt
  plain_asks o (Some op.Select) t ks xs on = tt
  plain_asks o (Some op.Undef) t ks xs on = tt
  plain_asks o (Some op.VectorExtractDynamic) t ks xs on = tt
  plain_asks o (Some op.VectorInsertDynamic) t ks xs on = tt
  plain_asks o (Some op.CompositeInsert) t ks xs on = tt
  plain_asks o (Some op.CompositeConstruct) t ks xs on = cc
  plain_asks o (Some op.CompositeExtract) t ks xs on = cc
  plain_asks o (Some op.VectorShuffle) t ks xs on = cc
  plain_asks o (Some op.Copy) t ks xs on = cc

  asks_by : (o : Op) (t : Tree) (ks : List ℕ) (xs : List Argument) → is_inner o ≡ true → (is o code.CompositeExtract ≡ true → AreNamedAlong W names (first_of xs).shape ks × LeadIn (first_of xs).shape ks) → (is o code.VectorShuffle ≡ true → IsNamedType W names t) → AsksIfAny W names o (operation_of o (0 ∷ [])) t ks xs
  asks_by o t ks xs on extract shuffle = subst (λ (x : Option Operation). AsksIfAny W names o x t ks xs) (sym (inner_operation o on)) (by_tests (is o code.CompositeExtract) refl (is o code.VectorShuffle) refl)
    where
      by_tests : (a : Bool) → is o code.CompositeExtract ≡ a → (b : Bool) → is o code.VectorShuffle ≡ b → AsksIfAny W names o (operation o) t ks xs
      by_tests true first b second = subst (λ (x : Option Operation). AsksIfAny W names o x t ks xs) (sym (extract_is o first).0) (extract first)
      by_tests false first true second = subst (λ (x : Option Operation). AsksIfAny W names o x t ks xs) (sym (shuffle_is o second)) (shuffle second)
      by_tests false first false second = plain_asks o (operation o) t ks xs (inner_asks o on first second)

-- what is found stands there
position_any : (test : ℕ → Bool) (xs : List ℕ) (from k : ℕ) → position_from test from xs ≡ Some k → list_any test xs ≡ true
position_any test [] from k at = cc
position_any test (x ∷ xs) from k at = by_test (test x) at (position_any test xs (from + 1) k)
  where
    by_test : (b : Bool) → (if b then Some from else position_from test (from + 1) xs) ≡ Some k → (position_from test (from + 1) xs ≡ Some k → list_any test xs ≡ true) → (b || list_any test xs) ≡ true
    by_test true at later = refl
    by_test false at later = later at

-- a part of a struct has an argument
nth_same : (ts : Trees) (k : ℕ) (v d : Tree) → takes.nth_of ts k ≡ Some v → nth_or ts k d ≡ v
nth_same no_trees k v d at = cc
nth_same (tree t ts) zero v d at = let same : t ≡ v = cc in same
nth_same (tree t ts) (suc k) v d at = nth_same ts k v d at

part_arg : (f : ℕ → Option Tree) (args : List ℕ) (ts : Trees) (k : ℕ) (v : Tree) → all_trees f args ≡ Some ts → takes.nth_of ts k ≡ Some v → (ty : ℕ) × (slice_get args k ≡ Some ty)
part_arg f [] ts k v all at = no_part ts all at
  where
    no_part : (us : Trees) → Some no_trees ≡ Some us → takes.nth_of us k ≡ Some v → (ty : ℕ) × (slice_get [] k ≡ Some ty)
    no_part no_trees same at = cc
    no_part (tree u us) same at = cc
part_arg f (a ∷ args) ts k v all at = by_both (f a) (all_trees f args) refl all (λ us i rest there. part_arg f args us i v rest there)
  where
    by_place : (u : Tree) (us : Trees) → all_trees f args ≡ Some us → ((ws : Trees) (i : ℕ) → all_trees f args ≡ Some ws → takes.nth_of ws i ≡ Some v → (ty : ℕ) × (slice_get args i ≡ Some ty)) → (i : ℕ) → takes.nth_of (tree u us) i ≡ Some v → (ty : ℕ) × (slice_get (a ∷ args) i ≡ Some ty)
    by_place u us rest later zero there = (a, refl)
    by_place u us rest later (suc i) there = later us i rest there

    by_both : (q : Option Tree) (r : Option Trees) → all_trees f args ≡ r → both q r ≡ Some ts → ((ws : Trees) (i : ℕ) → all_trees f args ≡ Some ws → takes.nth_of ws i ≡ Some v → (ty : ℕ) × (slice_get args i ≡ Some ty)) → (ty : ℕ) × (slice_get (a ∷ args) k ≡ Some ty)
    by_both None r rest e later = cc
    by_both (Some u) None rest e later = cc
    by_both (Some u) (Some us) rest e later = let same : tree u us ≡ ts = cc in by_place u us rest later k (ap (λ (x : Trees). takes.nth_of x k) same ∙ at)

module _ (Q : Inst → Type 0) (m : ModuleState) (n : ℕ) where
  part_within : (ts : Trees) (k : ℕ) (v : Tree) → AreWithin Q m n ts → takes.nth_of ts k ≡ Some v → IsWithin Q m n v
  part_within no_trees k v within at = cc
  part_within (tree t ts) zero v within at = let same : t ≡ v = cc in subst (IsWithin Q m n) same within.0
  part_within (tree t ts) (suc k) v within at = part_within ts k v within.1 at

part_has : (ts : Trees) (k : ℕ) (v : Tree) (j : ℕ) → takes.nth_of ts k ≡ Some v → has_struct j v ≡ true → have_struct j ts ≡ true
part_has no_trees k v j at has = cc
part_has (tree t ts) zero v j at has = let same : t ≡ v = cc in or_on_left (has_struct j t) (have_struct j ts) (ap (has_struct j) same ∙ has)
part_has (tree t ts) (suc k) v j at has = or_on_right (has_struct j t) (have_struct j ts) (part_has ts k v j at has)

module _ (m : ModuleState) (o : Options) (right : IsConforming m o.entry) (unit : TranslationUnit) (u : IsUnitOf m o unit) (words : (h : Inst) → IsIn h m.globals → FitWords h.args) (given : AreGivenWords o.overrides) (names : List (List ℕ)) where
  abbrev W : Words
  W = words_of m.globals (name_of u.claimed) names

  abbrev Gs : List Inst
  Gs = m.globals

  -- along literals to a part
  module _ (n : ℕ) where
    abbrev IsAlong : Tree → List ℕ → Type 0
    IsAlong t ks = AreNamedAlong W (name_of u.claimed) t ks × LeadIn t ks

    along : (a : Tree) (ks : List ℕ) (t : Tree) → IsWithin (IsNoBlock m) m n a → ((j : ℕ) → has_struct j a ≡ true → Held m o.entry right o unit u j) → FitWords ks → takes.shape_at a ks ≡ Some t → IsAlong a ks
    along plain.boolean [] t within held fit at = (tt, tt)
    along plain.int [] t within held fit at = (tt, tt)
    along plain.uint [] t within held fit at = (tt, tt)
    along (plain.vector e k) [] t within held fit at = (tt, tt)
    along (plain.array v l) [] t within held fit at = (tt, tt)
    along (plain.runtime v) [] t within held fit at = (tt, tt)
    along (plain.struct j ts) [] t within held fit at = (tt, tt)
    along plain.boolean (k ∷ ks) t within held fit at = (tt, tt)
    along plain.int (k ∷ ks) t within held fit at = (tt, tt)
    along plain.uint (k ∷ ks) t within held fit at = (tt, tt)
    along (plain.vector e i) (k ∷ ks) t within held fit at = (tt, tt)
    along (plain.runtime v) (k ∷ ks) t within held fit at = absurd (none-some t at)
    along (plain.array v (Spec l)) (k ∷ ks) t within held fit at = absurd (none-some t at)
    along (plain.array v (Fixed i)) (k ∷ ks) t within held fit at = by_test (nat_lt k i) at (along v ks t within.0 held fit.1)
      where
        by_test : (b : Bool) → option_and_then (λ (x : Tree). takes.shape_at x ks) (if b then Some v else None) ≡ Some t → (takes.shape_at v ks ≡ Some t → IsAlong v ks) → AreNamedAlong W (name_of u.claimed) v ks × (FitsWord k × LeadIn v ks)
        by_test true e later = let w = later e in (w.0, (fit.0, w.1))
        by_test false e later = absurd (none-some t e)
    along (plain.struct j ts) (k ∷ ks) t within held fit at = by_part (takes.nth_of ts k) refl at (λ v there e. along v ks t (part_within (IsNoBlock m) m n ts k v within.1 there) (λ i has. held i (or_on_right (j == i) (have_struct i ts) (part_has ts k v i there has))) fit.1 e)
      where
        named : (v : Tree) → takes.nth_of ts k ≡ Some v → W.member (member_name (name_of u.claimed) j k)
        named v there =
            let w = within.0 in
            let own = found_in Gs j w.inst w.there in
            let ty = part_arg (tree_before Gs w.inst.at) w.inst.args ts k v w.members there in
            let written = struct_written (Run m o.entry right o unit u) o.entry right o.overrides (Written m o.entry right o unit u) n j ts w (held j (or_on_left (j == j) (have_struct j ts) (number_same j j refl))) in
            subst (λ (x : ℕ). W.member (member_name (name_of u.claimed) x k)) own.1 (inl (Member (id w.inst.result) k, name_is (Member (id w.inst.result) k) (part_named m o unit u w.inst k ty.0 own.0 w.opcode written ty.1)))
          where
            name_is : (key : Key) → HasName (name_of u.claimed) key → name_of u.claimed key ≡ Some (text_or_none (name_of u.claimed key))
            name_is key has = by_name (name_of u.claimed key) has
              where
                by_name : (q : Option (List ℕ)) → is_some q ≡ true → q ≡ Some (text_or_none q)
                by_name None has = cc
                by_name (Some w) has = refl

        by_part : (q : Option Tree) → takes.nth_of ts k ≡ q → option_and_then (λ (x : Tree). takes.shape_at x ks) q ≡ Some t → ((v : Tree) → takes.nth_of ts k ≡ Some v → takes.shape_at v ks ≡ Some t → IsAlong v ks) → (W.member (member_name (name_of u.claimed) j k) × AreNamedAlong W (name_of u.claimed) (nth_or ts k plain.boolean) ks) × LeadIn (nth_or ts k plain.boolean) ks
        by_part None there e later = absurd (none-some t e)
        by_part (Some v) there e later =
            let w = later v there e in
            let same = nth_same ts k v plain.boolean there in
            ((named v there, subst (λ (x : Tree). AreNamedAlong W (name_of u.claimed) x ks) (sym same) w.0), subst (λ (x : Tree). LeadIn x ks) (sym same) w.1)

  module _ (structs : AreOfStructs m.globals (name_of u.claimed) names) (g : Inst) (there : IsIn g m.globals) (declared_here : is_declared_constant (source_of m o u.entry) (Written m o.entry right o unit u) g ≡ true) (kind : constant_kind g.op ≡ kinds.Operation) (declared : AreDeclaredBefore m o.entry right o unit u names g.at) where
    abbrev Names_of : Names
    Names_of = N m o.entry right o unit u

    built : (f : BuiltIn) → W.value (built_in_name f)
    built f = built_in_value m.globals (name_of u.claimed) u.lawful names structs f

    sizes : AreSizes (source_of m o u.entry)
    sizes = let c = chosen_is m o right u.entry u.is_entry in sizes_conform (Run m o.entry right o unit u) o.entry right o.overrides c.0 c.1 c.2

    kind_on : has_operands (constant_kind g.op) ≡ true
    kind_on = ap has_operands kind

    -- its operands
    operand_fits : (n : ℕ) → has_operand g n ≡ true → IsArgument W (operand (source_of m o u.entry) (id_text (name_of u.claimed)) n)
    operand_fits n on = by_global (global Gs n) refl
      where
        word_fits : (h : Inst) → IsIn h Gs → FitsIfSome (literal_word (source_of m o u.entry) h)
        word_fits h h_in = by_test (is_constant h && (is_plain (reading (source_of m o u.entry) h) && is_number (option_and_then elem_of (type_tree Gs h.ty))))
          where
            by_test : (b : Bool) → FitsIfSome (if b then Some (word_of (plain_value (source_of m o u.entry) h)) else None)
            by_test true = plain_word_fits (source_of m o u.entry) given h (words h h_in)
            by_test false = tt

        by_global : (x : Option Inst) → global Gs n ≡ x → IsArgument W (operand_by (source_of m o u.entry) (id_text (name_of u.claimed)) x)
        by_global None at = record { of = none_fits; shape = tt; word = tt }
        by_global (Some h) at = record {
          of = operand_uses m o.entry right o unit u g there declared_here words given names structs declared kind_on n on h at;
          shape = shape-fits Gs h.ty;
          word = word_fits h (found_in Gs n h at).0;
        }

    operands_fit : (ns : List ℕ) → AllOperands g ns → AreArguments W (map (operand (source_of m o u.entry) (id_text (name_of u.claimed))) ns)
    operands_fit [] all = tt
    operands_fit (n ∷ ns) all = (operand_fits n all.0, operands_fit ns all.1)

    type_shape : shape_at (source_of m o u.entry) g.ty ≡ (typed_as m o.entry right o unit u g there declared_here).0
    type_shape = ap (λ (x : Option Tree). unwrap_or x plain.uint) (typed_as m o.entry right o unit u g there declared_here).1

    sound : is_sound m g ≡ true
    sound = ap (λ l. length l == 0) (broken_none m o.entry right o unit u g there)

    module _ (p : Op) (inside : inner_opcode g ≡ Some p) where
      told : (op_of (word g 0) ≡ Some p) × (is_inner p ≡ true)
      told = inner_is (word g 0) p inside

      right_of : is_value_broken m (type_in m.globals nothing) (inner g) (group_of p) ≡ false
      right_of = (operation_right (Run m o.entry right o unit u) g p sound kind told.0).0

      -- T9: the result of a shuffle is a vector
      shuffle_asks : is p code.VectorShuffle ≡ true → IsNamedType W (name_of u.claimed) (shape_at (source_of m o u.entry) g.ty)
      shuffle_asks on =
          let off = shuffle_right m (type_in m.globals nothing) (inner g) p on right_of in
          let first = or_left (fails is_vector Gs g.ty) (value_fails is_vector Gs (type_in m.globals nothing) (word (inner g) 0)) (or_left _ (value_fails is_vector Gs (type_in m.globals nothing) (word (inner g) 1)) (or_left _ (has_other_components Gs g.ty (type_in m.globals nothing (word (inner g) 0)) (type_in m.globals nothing (word (inner g) 1))) (or_left _ (has_other_sizes Gs g.ty (type_in m.globals nothing (word (inner g) 0)) (type_in m.globals nothing (word (inner g) 1)) (drop 2 (inner g).args)) off))) in
          let row = global_row (Run m o.entry right o unit u) o.entry right g (as_among Gs g there) (global_typed_some (Run m o.entry right o unit u) o.entry right g (as_among Gs g there) (typed_constant g.op (constant_is m o.entry right o unit u g there declared_here))) in
          let vector_row = not-false (is_vector row.0) (ap (λ (x : Option Inst). option_map_or (λ (y : Inst). not (is_vector y)) x false) (sym (row_is m o.entry right g.ty row.0 row.1 (type_suits g.op row.0 row.2))) ∙ first) in
          let t = typed_as m o.entry right o unit u g there declared_here in
          let parts = vector_parts Gs row.0 t.0 vector_row (sym (ap (λ (x : Option Inst). option_map_or (tree_at Gs) x None) row.1) ∙ t.1) in
          let same = type_shape ∙ parts.4 in
          subst (IsNamedType W (name_of u.claimed)) (sym same) (subst FitsShape same (shape-fits Gs g.ty))

      -- T11: the literals of an extract lead to a part
      module _ (on : is p code.CompositeExtract ≡ true) (n : ℕ) (ks : List ℕ) (args_are : drop 1 g.args ≡ n ∷ ks) where
        operand_here : has_operand g n ≡ true
        operand_here =
            let first : AllOperands g (n ∷ []) = subst (AllOperands g) (((extract_is p on).1 (drop 1 g.args)).0 ∙ ap (take 1) args_are) (inner_operands_are g p (calculated_op g.op kind) inside) in
            first.0

        fit : FitWords ks
        fit = behind g.args args_are (words g there)
          where
            behind : (ws : List ℕ) → drop 1 ws ≡ n ∷ ks → FitWords ws → FitWords ks
            behind [] e fits = cc
            behind (w ∷ ws) e fits = let more : FitWords (n ∷ ks) = subst FitWords e fits.1 in more.1

        module _ (h : Inst) (at : global Gs n ≡ Some h) where
          own : IsIn h Gs × (h.result ≡ n)
          own = found_in Gs n h at

          constant : is_constant_op h.op ≡ true
          constant = operand_constant m o.entry right o unit u g there declared_here n operand_here kind_on h at

          of_h : (a : Tree) × (type_tree Gs h.ty ≡ Some a) × IsSized a
          of_h = constant_typed m o.entry right o unit u h own.0 constant

          leads : takes.shape_at of_h.0 ks ≡ Some (typed_as m o.entry right o unit u g there declared_here).0
          leads =
              let off = extract_right m (type_in Gs nothing) (inner g) p on right_of in
              let rest : is_elsewhere Gs g.ty (part_of Gs (type_in Gs nothing n) ks) ≡ false = ap (λ (args : List ℕ). is_elsewhere Gs g.ty (part_of Gs (type_in Gs nothing (slice_index args 0)) (drop 1 args))) (sym args_are) ∙ or_right (nat_le (length (inner g).args) 1) (is_elsewhere Gs g.ty (part_of Gs (type_in Gs nothing (word (inner g) 0)) (drop 1 (inner g).args))) off in
              let told : type_in Gs nothing n ≡ Some h.ty = ap (λ (x : Option Inst). option_or (option_and_then typed x) (local_type nothing n)) at ∙ ap (λ (x : Option ℕ). option_or x (local_type nothing n)) (typed_is h (global_typed_some (Run m o.entry right o unit u) o.entry right h (as_among Gs h own.0) (typed_constant h.op constant))) in
              extract_takes (Run m o.entry right o unit u) nothing g.ty n ks (typed_as m o.entry right o unit u g there declared_here).0 of_h.0 rest (typed_as m o.entry right o unit u g there declared_here).1 (ap (option_and_then (type_tree Gs)) told ∙ of_h.1) of_h.2

          -- one that is read by its name is declared, and its structs are written; another is a scalar or a vector
          flat_along : (a : Tree) → is_flat a ≡ true → IsAlong 0 a ks
          flat_along plain.boolean on = by_words ks
            where
              by_words : (is : List ℕ) → IsAlong 0 plain.boolean is
              by_words [] = (tt, tt)
              by_words (i ∷ is) = (tt, tt)
          flat_along plain.int on = by_words ks
            where
              by_words : (is : List ℕ) → IsAlong 0 plain.int is
              by_words [] = (tt, tt)
              by_words (i ∷ is) = (tt, tt)
          flat_along plain.uint on = by_words ks
            where
              by_words : (is : List ℕ) → IsAlong 0 plain.uint is
              by_words [] = (tt, tt)
              by_words (i ∷ is) = (tt, tt)
          flat_along (plain.vector e k) on = by_words ks
            where
              by_words : (is : List ℕ) → IsAlong 0 (plain.vector e k) is
              by_words [] = (tt, tt)
              by_words (i ∷ is) = (tt, tt)
          flat_along a on = cc

          scalar_flat : (a : Tree) → is_scalar a ≡ true → is_flat a ≡ true
          scalar_flat plain.boolean on = refl
          scalar_flat plain.int on = refl
          scalar_flat plain.uint on = refl
          scalar_flat a on = cc

          by_reading : (r : Reading) → reading (source_of m o u.entry) h ≡ r → IsAlong 0 of_h.0 ks
          by_reading Named reads =
              let needed = subst (λ (k : ℕ). is_needed (source_of m o u.entry) (Written m o.entry right o unit u) k ≡ true) (sym own.1) (operand_is_needed m o.entry right o unit u g there declared_here n operand_here) in
              let also = needed_declared m o.entry right o unit u h constant reads needed in
              along h.at of_h.0 ks (typed_as m o.entry right o unit u g there declared_here).0 (constant_within m o.entry right h of_h.0 (as_among Gs h own.0) constant of_h.1)
              (λ j has. held_by (Run m o.entry right o unit u) o.entry right o.overrides (Written m o.entry right o unit u) h j (as_among Gs h own.0) (or_on_right (is_written_variable (Written m o.entry right o unit u) h) (is_declared_constant (source_of m o u.entry) (Written m o.entry right o unit u) h) also) (own_type (Run m o.entry right o unit u) o.entry right o.overrides (Written m o.entry right o unit u) h.ty j of_h.0 of_h.1 has))
              fit leads
          by_reading Plain reads =
              let w = plain_is (Run m o.entry right o unit u) o.overrides h reads in
              flat_along of_h.0 (scalar_flat of_h.0 (ap is_scalar (same_Some of_h.0 w.shape (sym of_h.1 ∙ w.typed_as)) ∙ w.scalar))
          by_reading GroupSize reads =
              let w = sizes.composite h (as_among Gs h own.0) (size_reading (source_of m o u.entry) h reads) in
              flat_along of_h.0 (ap is_flat (same_Some of_h.0 (plain.vector elem.Uint 3) (sym of_h.1 ∙ w.1)))
          by_reading (GroupSizePart axis) reads =
              let w = sizes.part h.result h (position_any (λ (k : ℕ). k == h.result) (size_ids (source_of m o u.entry)) 0 axis (part_reading (source_of m o u.entry) h axis reads)) (global_found m o.entry right h (as_among Gs h own.0)) in
              flat_along of_h.0 (ap is_flat (same_Some of_h.0 plain.uint (sym of_h.1 ∙ w.0)))

      extract_asks : is p code.CompositeExtract ≡ true → IsAlong 0 (first_of (map (operand (source_of m o u.entry) (id_text (name_of u.claimed))) (inner_operands p (drop 1 g.args)))).shape (inner_literals p (drop 1 g.args))
      extract_asks on = by_args (drop 1 g.args) refl
        where
          by_global : (n : ℕ) (ks : List ℕ) → drop 1 g.args ≡ n ∷ ks → (x : Option Inst) → global Gs n ≡ x → IsAlong 0 (operand_by (source_of m o u.entry) (id_text (name_of u.claimed)) x).shape ks
          by_global n ks are None at = by_words ks
            where
              by_words : (is : List ℕ) → IsAlong 0 plain.uint is
              by_words [] = (tt, tt)
              by_words (i ∷ is) = (tt, tt)
          by_global n ks are (Some h) at = subst (λ (x : Option Tree). IsAlong 0 (unwrap_or x plain.uint) ks) (sym (of_h on n ks are h at).1) (by_reading on n ks are h at (reading (source_of m o u.entry) h) refl)

          by_args : (args : List ℕ) → drop 1 g.args ≡ args → IsAlong 0 (first_of (map (operand (source_of m o u.entry) (id_text (name_of u.claimed))) (inner_operands p (drop 1 g.args)))).shape (inner_literals p (drop 1 g.args))
          by_args args are =
              subst (λ (ns : List ℕ). IsAlong 0 (first_of (map (operand (source_of m o u.entry) (id_text (name_of u.claimed))) ns)).shape (inner_literals p (drop 1 g.args))) (sym ((extract_is p on).1 (drop 1 g.args)).0)
              (subst (λ (ks : List ℕ). IsAlong 0 (first_of (map (operand (source_of m o u.entry) (id_text (name_of u.claimed))) (take 1 (drop 1 g.args)))).shape ks) (sym ((extract_is p on).1 (drop 1 g.args)).1)
              (subst (λ (l : List ℕ). IsAlong 0 (first_of (map (operand (source_of m o u.entry) (id_text (name_of u.claimed))) (take 1 l))).shape (drop 1 l)) (sym are) (by_list args are)))
            where
              by_list : (args : List ℕ) → drop 1 g.args ≡ args → IsAlong 0 (first_of (map (operand (source_of m o u.entry) (id_text (name_of u.claimed))) (take 1 args))).shape (drop 1 args)
              by_list [] are = (tt, tt)
              by_list (n ∷ ks) are = by_global n ks are (global Gs n) refl

      opcode_made : UsesExpr W (calculated_by (source_of m o u.entry) (name_of u.claimed) (id_text (name_of u.claimed)) g (drop 1 g.args) p)
      opcode_made =
          let xs = map (operand (source_of m o u.entry) (id_text (name_of u.claimed))) (inner_operands p (drop 1 g.args)) in
          lowered-uses W built (axes_told (name_of u.claimed)) (name_of u.claimed) p 0 (shape_at (source_of m o u.entry) g.ty) (inner_literals p (drop 1 g.args)) xs (shape-fits Gs g.ty) (operands_fit (inner_operands p (drop 1 g.args)) (inner_operands_are g p (calculated_op g.op kind) inside))
          (asks_by W (name_of u.claimed) p (shape_at (source_of m o u.entry) g.ty) (inner_literals p (drop 1 g.args)) xs told.1 extract_asks shuffle_asks)

    -- the law
    pub calculated_made : UsesExpr W (Names_of.calculated g)
    calculated_made = by_opcode (inner_opcode g) refl
      where
        by_opcode : (x : Option Op) → inner_opcode g ≡ x → UsesExpr W (option_map_or (calculated_by (source_of m o u.entry) (name_of u.claimed) (id_text (name_of u.claimed)) g (drop 1 g.args)) x (zero_expr (basic_type (shape_at (source_of m o u.entry) g.ty))))
        by_opcode None inside = zero-uses W built (basic_type (shape_at (source_of m o u.entry) g.ty))
        by_opcode (Some p) inside = opcode_made p inside
