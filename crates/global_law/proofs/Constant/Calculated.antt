-- The expression of a calculated constant says its value, where those of its operands say theirs.
use Rattle.std.proofs.Common.{◌≡◌, ◌≤◌, ◌+◌, ◌==◌, ◌||◌, ◌&&◌, ℕ, Bool, true, false, List, [], ◌∷◌, drop, map, Option, Some, None, inl, inr, refl, sym, ap, ap₂, ◌∙◌, subst, if◌then◌else◌, arith}
use Rattle.std.specs.Prelude.{◌⊎◌, ◌<◌, bytes_eq, option_and_then, slice_index, unwrap_or}
use Rattle.std.specs.Option.{option_map_or}
use Rattle.std.proofs.lemmas.Bool.Decides.{nat_tests}
use Rattle.std.proofs.lemmas.Option.{same_Some}
use Rattle.spv_ops.specs.Opcode.{op_of}
use Rattle.spv_ops.specs.Groups.{is_inner}
use Rattle.spv_ops.specs.Operands.{inner_of}
use Rattle.spv_ops.specs.declared.Op.{Op}
use Rattle.spv_module.specs.Lists.{id}
use Rattle.spv_module.specs.declared.inst.Inst.{Inst}
use Rattle.spv_module.specs.declared.tree.Length.TheVariants.{Fixed, Spec}
use Rattle.spv_types.specs.Tree as plain
use Rattle.spv_types.specs.Tree.{Tree, Trees, no_trees, tree, ValueTree, truth, word, many}
use Rattle.spv_types.specs.Types.{elem_of, type_tree}
use Rattle.spv_types.specs.Leaves.{IsSized, AreSized}
use Rattle.op_semantics.specs.declared.operation.Operation.{Operation}
use Rattle.op_semantics.specs.Component.{each_one}
use Rattle.op_semantics.specs.Fits.{fits}
use Rattle.op_semantics.specs.Value.{operation, value_of_operation}
use Rattle.profile_rules.specs.declared.given.Given.{Given}
use Rattle.profile_rules.specs.declared.constant.ConstantKind.TheVariants as kinds
use Rattle.profile_rules.specs.Constants.{constant_kind, is_flat, gives_parts, may_give, inner_operands, inner_literals, value_by_operation, operation_value, value_by_kind}
use Rattle.profile_rules.specs.TypeRules.{is_sound, inner}
use Rattle.module_semantics.specs.Setting.{Setting}
use Rattle.name_alloc.specs.declared.claims.Key.{Key}
use Rattle.name_alloc.specs.declared.claims.Key.TheVariants.{Id, Member}
use Rattle.glsl_ast.specs.Tree.{Text}
use Rattle.traces.specs.Outcomes.{Result}
use Rattle.int_lowering.specs.Operand.{basic_type}
use Rattle.int_lowering.specs.Lowered.{zero}
use Rattle.vec_lowering.specs.Named.{text_or_none}
use Rattle.vec_lowering.specs.Composite.{Argument}
use Rattle.vec_lowering.specs.Lowered.{written, written_if_any, lowered_vector}
use Rattle.glsl_semantics.specs.Shapes as shapes
use Rattle.glsl_semantics.specs.Shapes.{Typed, typed}
use Rattle.glsl_semantics.specs.States.{State}
use Rattle.glsl_semantics.specs.Expressions.{Program, Argument as Passed}
use Rattle.text_rules.specs.Constants.{Source, reading, plain_value, constant_expr, is_constant}
use Rattle.text_rules.specs.Declarations.{word_of, shape_at}
use Rattle.text_items.specs.Names.{is_plain, is_number, literal_word, operand_by, operand, calculated_by, calculated_with}
use Rattle.list_law.proofs.Options.{none_some}
use Rattle.plan_law.specs.InOrder.{AreRising}
use Rattle.type_law.specs.Shaped.{HaveResults, HasConstants}
use Rattle.lowering_law.specs.Says.{Says}
use Rattle.lowering_law.specs.BuiltIns.{NoneDeclared}
use Rattle.lowering_law.specs.Written.{text_shape, text_fields, IsWritten, AreWritten}
use Rattle.lowering_law.specs.Arguments.{MeansAs, AllMeanAs, AllWritten}
use Rattle.lowering_law.proofs.Arguments.{written_says}
use Rattle.fits_law.specs.Takes.{nth_of}
use Rattle.global_law.specs.Parts.{StructNames, HasMembersApart, HaveMembersApart, shape_in, fields_in}
use Rattle.global_law.specs.Walks.{struct_names}
use Rattle.global_law.specs.Sources.{source_of, chosen}
use Rattle.global_law.proofs.Global.Plain.{plain_has}
use Rattle.global_law.proofs.Global.Zeros.{HasZero, HaveZeros}
use Rattle.global_law.proofs.Global.Indexes.{plain_reading}
use Rattle.typed_law.specs.Words.{HoldWords}
use Rattle.typed_law.proofs.Lists.{and_left, and_right, some_part}
use Rattle.global_law.specs.Items.{key_text}
use Rattle.global_law.proofs.Constant.Valued.{IsOperand, AreOperands}
use Rattle.global_law.proofs.Constant.Constituents.{have_shapes, all_fit, operation_right}
use Rattle.global_law.proofs.Constant.Inner.{AllSized, inner_operation, inner_given}

pub inner_is : (n : ℕ) (o : Op) → op_of n ≡ Some o → is_inner o ≡ true → inner_of n ≡ Some o
unfolding inner_of
inner_is n o e on = ap (option_and_then (λ (o : Op). if is_inner o then Some o else None)) e ∙ ap (λ b. if b then Some o else None) on

-- the value of a calculated constant: its operation, with the values of its operands
pub record IsCalculated (g : Inst) (t : Tree) (from : ℕ → Option ValueTree) (v : ValueTree) : Type 0 where
  pub opcode : Op
  pub numbered : op_of (slice_index g.args 0) ≡ Some opcode
  pub inside : is_inner opcode ≡ true
  pub makes : Operation
  pub named : operation opcode ≡ Some makes
  pub values : List ValueTree
  pub each : each_one from (inner_operands opcode (drop 1 g.args)) ≡ Some values
  pub value : value_of_operation makes t (inner_literals opcode (drop 1 g.args)) values ≡ Some v

pub calculated_is : (g : Inst) (t : Tree) (from : ℕ → Option ValueTree) (c : Option ℕ) (v : ValueTree) → constant_kind g.op ≡ kinds.Operation → value_by_kind from c t g.args (constant_kind g.op) ≡ Some v → IsCalculated g t from v
calculated_is g t from c v kind made = by_may o.0 o.1 (may_give t o.0) refl o.2
  where
    o : (o : Op) × (op_of (slice_index g.args 0) ≡ Some o) × (operation_value t from o (drop 1 g.args) ≡ Some v)
    o = some_part (λ (o : Op). operation_value t from o (drop 1 g.args)) (op_of (slice_index g.args 0)) v (ap (value_by_kind from c t g.args) (sym kind) ∙ made)

    by_parts : (o : Op) → op_of (slice_index g.args 0) ≡ Some o → is_inner o ≡ true → (vs : Option (List ValueTree)) → each_one from (inner_operands o (drop 1 g.args)) ≡ vs → (q : Option Operation) → operation o ≡ q → value_by_operation t (inner_literals o (drop 1 g.args)) vs q ≡ Some v → IsCalculated g t from v
    by_parts o at on None each q named e = none_some e
    by_parts o at on (Some vs) each None named e = none_some e
    by_parts o at on (Some vs) each (Some q) named e = record { opcode = o; numbered = at; inside = on; makes = q; named = named; values = vs; each = each; value = e }

    by_may : (o : Op) → op_of (slice_index g.args 0) ≡ Some o → (b : Bool) → may_give t o ≡ b → (if b then value_by_operation t (inner_literals o (drop 1 g.args)) (each_one from (inner_operands o (drop 1 g.args))) (operation o) else None) ≡ Some v → IsCalculated g t from v
    by_may o at true may e = by_parts o at (and_left (is_inner o) (is_flat t || gives_parts o) may) (each_one from (inner_operands o (drop 1 g.args))) refl (operation o) refl e
    by_may o at false may e = none_some e

-- the names of structs and members are those of their keys
pub text_same : (o : Option Text) → text_or_none o ≡ unwrap_or o []
text_same None = refl
text_same (Some w) = refl

module _ (p : Program) (s : Setting) (source : Source) (found : Key → Option Text) where
  abbrev Y : StructNames
  Y = struct_names (key_text found)

  mutual
    pub shape_same : (t : Tree) → HasZero p s source (key_text found) t → text_shape found t ≡ shape_in s Y t
    shape_same plain.boolean z = refl
    shape_same plain.int z = refl
    shape_same plain.uint z = refl
    shape_same (plain.vector e n) z = refl
    shape_same (plain.array t (Fixed n)) z = ap (λ u. shapes.array u (Some n)) (shape_same t z)
    shape_same (plain.array t (Spec l)) z = absurd z
    shape_same (plain.runtime t) z = absurd z
    shape_same (plain.struct k ts) z = ap₂ (λ w fs. shapes.struct w fs) (text_same (found (Id (id k)))) (fields_same k 0 ts z.1)

    fields_same : (k j : ℕ) (ts : Trees) → HaveZeros p s source (key_text found) ts → text_fields found k j ts ≡ fields_in s Y k j ts
    fields_same k j no_trees z = refl
    fields_same k j (tree t ts) z = ap₂ (λ w u. shapes.field w u (text_fields found k (j + 1) ts)) (text_same (found (Member (id k) j))) (shape_same t z.0) ∙ ap (shapes.field (key_text found (Member (id k) j)) (shape_in s Y t)) (fields_same k (j + 1) ts z.1)

  mutual
    zero_sized : (t : Tree) → HasZero p s source (key_text found) t → IsSized t
    zero_sized plain.boolean z = tt
    zero_sized plain.int z = tt
    zero_sized plain.uint z = tt
    zero_sized (plain.vector e n) z = tt
    zero_sized (plain.array t (Fixed n)) z = zero_sized t z
    zero_sized (plain.array t (Spec l)) z = absurd z
    zero_sized (plain.runtime t) z = absurd z
    zero_sized (plain.struct k ts) z = zeros_sized ts z.1

    zeros_sized : (ts : Trees) → HaveZeros p s source (key_text found) ts → AreSized ts
    zeros_sized no_trees z = tt
    zeros_sized (tree t ts) z = (zero_sized t z.0, zeros_sized ts z.1)

  mutual
    pub type_written : (t : Tree) → HasZero p s source (key_text found) t → HasMembersApart (struct_names (key_text found)) t → IsWritten p found t
    type_written plain.boolean z apart = tt
    type_written plain.int z apart = tt
    type_written plain.uint z apart = tt
    type_written (plain.vector e n) z apart = sized n z
      where
        sized : (n : ℕ) → (n ≡ 2) ⊎ ((n ≡ 3) ⊎ (n ≡ 4)) → (n ≤ 4) × ((n == 1) ≡ false)
        sized n (inl two) = (omega (arith, two), grind (arith, nat_tests, two))
        sized n (inr (inl three)) = (omega (arith, three), grind (arith, nat_tests, three))
        sized n (inr (inr four)) = (omega (arith, four), grind (arith, nat_tests, four))
    type_written (plain.array t (Fixed n)) z apart = type_written t z apart
    type_written (plain.array t (Spec l)) z apart = absurd z
    type_written (plain.runtime t) z apart = absurd z
    type_written (plain.struct k ts) z apart =
        (ap p.structs (text_same (found (Id (id k)))) ∙ z.0 ∙ ap (λ fs. Some fs) (sym (fields_same k 0 ts z.1)), members_apart, types_written ts z.1 apart.1)
      where
        members_apart : (i j : ℕ) (t : Tree) → i < j → nth_of ts j ≡ Some t → bytes_eq (text_or_none (found (Member (id k) i))) (text_or_none (found (Member (id k) j))) ≡ false
        members_apart i j t less at = ap₂ (λ a b. bytes_eq a b) (text_same (found (Member (id k) i))) (text_same (found (Member (id k) j))) ∙ apart.0 i j t less at

    types_written : (ts : Trees) → HaveZeros p s source (key_text found) ts → HaveMembersApart (struct_names (key_text found)) ts → AreWritten p found ts
    types_written no_trees z apart = tt
    types_written (tree t ts) z apart = (type_written t z.0 apart.0, types_written ts z.1 apart.1)

-- an operand that is written as a literal has its word
pub number_value : (t : Tree) (v : ValueTree) → is_number (elem_of t) ≡ true → fits t v ≡ true → v ≡ word (word_of v)
number_value plain.int (word a) on fit = refl
number_value plain.uint (word a) on fit = refl
number_value plain.int (truth b) on fit = cc
number_value plain.int (many vs) on fit = cc
number_value plain.uint (truth b) on fit = cc
number_value plain.uint (many vs) on fit = cc
number_value plain.boolean v on fit = cc
number_value (plain.vector e n) v on fit = cc
number_value (plain.array t l) v on fit = cc
number_value (plain.runtime t) v on fit = cc
number_value (plain.struct k ts) v on fit = cc

module _ (s : Setting) (overrides : List (ℕ × Given)) (found : Key → Option Text) (have : HasConstants s (chosen s overrides)) (results : HaveResults s.of.globals) (rising : AreRising 0 s.of.globals) (low : HoldWords s.constants) where
  abbrev source : Source
  source = source_of s overrides

  abbrev key : Key → Text
  key = key_text found

  abbrev names : ℕ → Text
  names n = key (Id (id n))

  abbrev IsOne : ℕ → ℕ → Tree → ValueTree → Type 0
  IsOne at n t v = IsOperand s (chosen s overrides) have results rising at n t v

  literal_is : (at n : ℕ) (t : Tree) (v : ValueTree) (w : IsOne at n t v) (k : ℕ) → literal_word source w.inst ≡ Some k → v ≡ word k
  literal_is at n t v w k e = by_test (is_constant w.inst && (is_plain (reading source w.inst) && is_number (option_and_then elem_of (type_tree s.of.globals w.inst.ty)))) refl e
    where
      by_test : (b : Bool) → (is_constant w.inst && (is_plain (reading source w.inst) && is_number (option_and_then elem_of (type_tree s.of.globals w.inst.ty)))) ≡ b → (if b then Some (word_of (plain_value source w.inst)) else None) ≡ Some k → v ≡ word k
      by_test true on e =
          let parts = and_right (is_constant w.inst) (is_plain (reading source w.inst) && is_number (option_and_then elem_of (type_tree s.of.globals w.inst.ty))) on in
          let reads = plain_reading (reading source w.inst) (and_left (is_plain (reading source w.inst)) (is_number (option_and_then elem_of (type_tree s.of.globals w.inst.ty))) parts) in
          let number = and_right (is_plain (reading source w.inst)) (is_number (option_and_then elem_of (type_tree s.of.globals w.inst.ty))) parts in
          let c = plain_has s overrides have results n w.inst v w.there reads w.has in
          let same : word_of (plain_value source w.inst) ≡ k = same_Some (word_of (plain_value source w.inst)) k e in
          number_value t v (ap (λ o. is_number (option_and_then elem_of o)) (sym w.typed_as) ∙ number) w.fit ∙ ap word (sym (ap word_of c.value) ∙ same)
      by_test false on e = none_some e

  module _ (p : Program) (calls : Text → List Passed → State → Result (Option Typed × State)) (z : State) where
    abbrev YS : StructNames
    YS = struct_names (key_text found)

    -- what is known of each operand of the constant
    pub record IsRead (at n : ℕ) (t : Tree) (v : ValueTree) : Type 0 where
      pub is_one : IsOne at n t v
      pub says : Says p calls z (constant_expr source names is_one.inst) (typed (shape_in s YS t) v)
      pub zero : HasZero p s source key t
      pub apart : HasMembersApart (struct_names (key_text found)) t

    abbrev pub AreRead : ℕ → List ℕ → List Tree → List ValueTree → Type 0
    AreRead at [] [] [] = Unit {0}
    AreRead at (n ∷ ns) (t ∷ ts) (v ∷ vs) = IsRead at n t v × AreRead at ns ts vs
    AreRead at _ _ _ = ⊥

    means : (at n : ℕ) (t : Tree) (v : ValueTree) → IsRead at n t v → MeansAs p found calls z (operand source names n) t v
    means at n t v w =
        let c = w.is_one in
        subst (λ (o : Option Inst). MeansAs p found calls z (operand_by source names o) t v) (sym c.there) (record {
          shape = ap (λ o. unwrap_or o plain.uint) c.typed_as;
          says = subst (λ u. Says p calls z (constant_expr source names c.inst) (typed u v)) (sym (shape_same p s source found t w.zero)) w.says;
          fit = c.fit;
          low = low n v c.has;
          literal = literal_is at n t v c;
        })

    all_mean : (at : ℕ) (ns : List ℕ) (ts : List Tree) (vs : List ValueTree) → AreRead at ns ts vs → AllMeanAs p found calls z (map (operand source names) ns) ts vs
    all_mean at [] [] [] are = tt
    all_mean at (n ∷ ns) (t ∷ ts) (v ∷ vs) are = (means at n t v are.0, all_mean at ns ts vs are.1)
    all_mean at [] [] (v ∷ vs) are = absurd are
    all_mean at [] (t ∷ ts) vs are = absurd are
    all_mean at (n ∷ ns) [] vs are = absurd are
    all_mean at (n ∷ ns) (t ∷ ts) [] are = absurd are

    all_written : (at : ℕ) (ns : List ℕ) (ts : List Tree) (vs : List ValueTree) → AreRead at ns ts vs → AllWritten p found ts
    all_written at [] [] [] are = tt
    all_written at (n ∷ ns) (t ∷ ts) (v ∷ vs) are = let w = are.0 in (type_written p s source found t w.zero w.apart, all_written at ns ts vs are.1)
    all_written at [] [] (v ∷ vs) are = absurd are
    all_written at [] (t ∷ ts) vs are = absurd are
    all_written at (n ∷ ns) [] vs are = absurd are
    all_written at (n ∷ ns) (t ∷ ts) [] are = absurd are

    all_sized : (at : ℕ) (ns : List ℕ) (ts : List Tree) (vs : List ValueTree) → AreRead at ns ts vs → AllSized ts
    all_sized at [] [] [] are = tt
    all_sized at (n ∷ ns) (t ∷ ts) (v ∷ vs) are = let w = are.0 in (zero_sized p s source found t w.zero, all_sized at ns ts vs are.1)
    all_sized at [] [] (v ∷ vs) are = absurd are
    all_sized at [] (t ∷ ts) vs are = absurd are
    all_sized at (n ∷ ns) [] vs are = absurd are
    all_sized at (n ∷ ns) (t ∷ ts) [] are = absurd are

    all_ones : (at : ℕ) (ns : List ℕ) (ts : List Tree) (vs : List ValueTree) → AreRead at ns ts vs → AreOperands s (chosen s overrides) have results rising at ns ts vs
    all_ones at [] [] [] are = tt
    all_ones at (n ∷ ns) (t ∷ ts) (v ∷ vs) are = let w = are.0 in (w.is_one, all_ones at ns ts vs are.1)
    all_ones at [] [] (v ∷ vs) are = absurd are
    all_ones at [] (t ∷ ts) vs are = absurd are
    all_ones at (n ∷ ns) [] vs are = absurd are
    all_ones at (n ∷ ns) (t ∷ ts) [] are = absurd are

    -- So its expression says its value.
    pub calculated_says : NoneDeclared p → (g : Inst) (t : Tree) (from : ℕ → Option ValueTree) (v : ValueTree) → is_sound s.of g ≡ true → constant_kind g.op ≡ kinds.Operation → type_tree s.of.globals g.ty ≡ Some t
        → HasZero p s source key t → HasMembersApart (struct_names (key_text found)) t → (w : IsCalculated g t from v) (us : List Tree) → AreRead g.at (inner_operands w.opcode (drop 1 g.args)) us w.values → Says p calls z (calculated_with source found names g) (typed (shape_in s YS t) v)
    calculated_says none g t from v sound kind shape zero_is apart w us are =
        let operands_are = all_ones g.at (inner_operands w.opcode (drop 1 g.args)) us w.values are in
        let right = operation_right s g w.opcode sound kind w.numbered in
        let given = inner_given s (inner g) t shape us w.values v (all_fit s (chosen s overrides) have results rising g.at (inner_operands w.opcode (drop 1 g.args)) us w.values operands_are) (all_sized g.at (inner_operands w.opcode (drop 1 g.args)) us w.values are) w.opcode w.makes w.inside right.0 right.1 w.named w.value
        (have_shapes s (chosen s overrides) have results rising g.at (inner_operands w.opcode (drop 1 g.args)) us w.values operands_are) in
        let xs : List Argument = map (operand source names) (inner_operands w.opcode (drop 1 g.args)) in
        let literals : List ℕ = inner_literals w.opcode (drop 1 g.args) in
        let text : calculated_with source found names g ≡ written found w.opcode w.makes t literals xs =
        ap (λ o. option_map_or (calculated_by source found names g (drop 1 g.args)) o (zero (basic_type (shape_at source g.ty)))) (inner_is (slice_index g.args 0) w.opcode w.numbered w.inside)
        ∙ ap (λ o. lowered_vector found w.opcode 0 (unwrap_or o plain.uint) literals xs) shape ∙ ap (λ o. written_if_any found w.opcode o t literals xs) (inner_operation w.opcode w.inside ∙ w.named) in
        let says : Says p calls z (written found w.opcode w.makes t literals xs) (typed (text_shape found t) v) =
        written_says p none found calls z w.opcode w.makes t literals xs us w.values v (type_written p s source found t zero_is apart) (all_written g.at (inner_operands w.opcode (drop 1 g.args)) us w.values are) given.0 given.1
        (all_mean g.at (inner_operands w.opcode (drop 1 g.args)) us w.values are) w.value in
        subst (λ e. Says p calls z e (typed (shape_in s YS t) v)) (sym text) (subst (λ u. Says p calls z (written found w.opcode w.makes t literals xs) (typed u v)) (shape_same p s source found t zero_is) says)
