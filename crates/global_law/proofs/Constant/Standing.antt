-- What the items of a text have declared before each global: its structs with their members, its constants with their values, and the size of workgroups.
use Rattle.std.proofs.Common.{◌≡◌, ◌⊎◌, ◌<◌, ◌≤◌, ◌+◌, ◌==◌, ◌||◌, ◌&&◌, ◌++◌, ℕ, Bool, true, false, List, [], ◌∷◌, drop, map, not, Option, Some, None, inl, inr, refl, sym, ap, ◌∙◌, subst, if◌then◌else◌, arith}
use Rattle.std.specs.Prelude.{bytes_eq, flat_map, is_some, option_map, option_and_then, nat_lt, slice_index}
use Rattle.std.specs.Option.{option_map_or}
use Rattle.std.specs.List.{list_any}
use Rattle.std.proofs.lemmas.Bool.Decides.{eqb_tells, nat_tests}
use Rattle.std.proofs.lemmas.List.Concat.{flat_map-cons}
use Rattle.std.proofs.lemmas.Slice.Eq.{bytes_eq-Decides}
use Rattle.std.proofs.lemmas.Bool.{and_from, and_left as first_off, or_cases, or_left, or_right}
use Rattle.std.proofs.lemmas.Option.{same_Some}
use Rattle.spv_ops.specs.Opcode.{is, number}
use Rattle.spv_ops.specs.Groups.{is_constant as is_constant_op}
use Rattle.spv_ops.specs.Operands.{is_id}
use Rattle.spv_ops.specs.declared.Op.{Op}
use Rattle.spv_ops.specs.declared.Op.TheVariants as code
use Rattle.spv_module.specs.Held.{global}
use Rattle.spv_module.specs.Lists.{id}
use Rattle.spv_module.specs.declared.inst.Inst.{Inst}
use Rattle.spv_module.specs.declared.tree.Elem.TheVariants as elem
use Rattle.spv_module.specs.declared.tree.Length.TheVariants.{Fixed, Spec}
use Rattle.spv_types.specs.Tree as plain
use Rattle.spv_types.specs.Tree.{Tree, Trees, no_trees, tree, ValueTree, truth, word as value_word, many}
use Rattle.spv_types.specs.Types.{all_trees, tree_before, type_tree}
use Rattle.spv_types.specs.Leaves.{IsSized, AreSized}
use Rattle.spv_decor.specs.Decorations.{local_insts}
use Rattle.spv_index.specs.BlockStructs.{is_block}
use Rattle.op_semantics.specs.Component.{each_one, composite}
use Rattle.op_semantics.specs.Fits.{fits}
use Rattle.layout_rules.specs.Blocks.{block_of}
use Rattle.profile_rules.specs.declared.given.Given.{Given}
use Rattle.profile_rules.specs.declared.constant.ConstantKind.{ConstantKind}
use Rattle.profile_rules.specs.declared.constant.ConstantKind.TheVariants as kinds
use Rattle.profile_rules.specs.Constants.{constant_kind, spec_id, value_by_kind, inner_operands}
use Rattle.profile_rules.specs.Entry.{is_size_composite}
use Rattle.profile_rules.specs.TypeRules.{is_sound}
use Rattle.module_semantics.specs.Setting.{Setting}
use Rattle.module_semantics.specs.Memory.{array_length}
use Rattle.list_law.proofs.Options.{none_some}
use Rattle.list_law.proofs.Numbers.{number_same}
use Rattle.plan_law.specs.InOrder.{IsAmong, AreRising}
use Rattle.plan_law.proofs.Order.{among_left as inst_left}
use Rattle.fits_law.proofs.Steps.{named as named_so}
use Rattle.name_alloc.specs.declared.claims.Key.{Key}
use Rattle.name_alloc.specs.declared.claims.Key.TheVariants.{Id}
use Rattle.glsl_ast.specs.Tree as items
use Rattle.glsl_ast.specs.Tree.{Text, Expr, exprs_in, Decl}
use Rattle.glsl_ast.specs.declared.expressions.Literal.TheVariants.{Uint}
use Rattle.int_lowering.specs.Term.{built_in_name}
use Rattle.glsl_semantics.specs.Shapes as shapes
use Rattle.glsl_semantics.specs.Shapes.{Shape, Typed, typed}
use Rattle.glsl_semantics.specs.States.{State, value, found}
use Rattle.glsl_semantics.specs.Expressions.{Program, type_of, with_extent, named}
use Rattle.glsl_semantics.specs.Items.{Declared, no_calls, known_if, known_value, with_global, with_item, with_items}
use Rattle.text_rules.specs.declared.readings.Reading.{Reading}
use Rattle.text_rules.specs.declared.readings.Reading.TheVariants.{Plain, Named, GroupSize, GroupSizePart}
use Rattle.text_rules.specs.Constants.{Source, if_free, free_spec_id, is_scalar, is_constant, has_literal, reading_by_literal, reading_by_spec, reading, constant_expr, group_size_text}
use Rattle.text_rules.specs.Printed.{Reached, has_struct, have_struct, has_operand, is_private, is_workgroup, is_block_variable, is_operand_in, is_written_variable, is_length_of, needs_constant, is_named, declares, needed_from, is_needed, is_declared_constant, is_written_struct, type_has_struct, written_types}
use Rattle.text_rules.specs.Declarations.{Names, type_at, pointee_at, initial, expr_at, value_by, extent_by, length_extent, struct_decl, constant_decl, variable_decl, declaration}
use Rattle.text_items.specs.Names.{calculated_with}
use Rattle.global_law.specs.Parts.{StructNames, HasMembersApart, shape_in, HasLength}
use Rattle.global_law.specs.Walks.{struct_names}
use Rattle.global_law.proofs.Path.Parts.{all_sized_lengths, only_fields}
use Rattle.global_law.proofs.Path.Starts.{outside_is}
use Rattle.lowering_law.specs.Says.{Says, AllSay}
use Rattle.typed_law.proofs.Lists.{and_left, and_right, found_in, clash, from_zero}
use Rattle.typed_law.proofs.Sized.{rising_low}
use Rattle.typed_law.proofs.Used.{global_found, used_sized}
use Rattle.global_law.specs.Sources.{source_of, chosen}
use Rattle.global_law.specs.Names.{names_of, IsDeclared}
use Rattle.global_law.proofs.Global.BuiltIns.{AreOtherNames, items_keep}
use Rattle.global_law.proofs.Global.Blocks.{AreDeclared, items_more, type_declared}
use Rattle.global_law.proofs.Global.Structs.{AreOtherStructs, structs_keep, struct_item}
use Rattle.global_law.proofs.Global.Told.{IsSpec, items_invocation, told_item}
use Rattle.global_law.proofs.Global.Nulls.{given_item, null_item}
use Rattle.global_law.proofs.Global.Plain.{plain_is}
use Rattle.global_law.proofs.Global.Privates.{AreOtherVariables, items_find, own_value}
use Rattle.global_law.proofs.Global.Extents.{extent_length, length_word, plain_extent, named_extent}
use Rattle.global_law.proofs.Global.Zeros.{HasZero, HaveZeros, is_declared, zero_lengths}
use Rattle.global_law.specs.Within.{IsSpecBefore, IsStructBefore, IsWithin, AreWithin, IsNoBlock}
use Rattle.global_law.specs.Items.{key_text, is_item, IsScalarSpec, AreAsked}
use Rattle.global_law.proofs.Constant.Valued.{IsValued, valued, IsOperand, AreOperands, operands}
use Rattle.global_law.proofs.Constant.Within.{wider, constant_no_variable, constant_within, members_unblocked}
use Rattle.global_law.proofs.Constant.Needed.{AllOperands, all_operands, inner_operands_are, operand_needed}
use Rattle.global_law.proofs.Constant.Constituents.{nothing, calculated_op, composite_right, constituents_are, have_shapes, all_fit}
use Rattle.global_law.proofs.Constant.Composites.{as_typed, composite_says}
use Rattle.global_law.proofs.Constant.Calculated.{calculated_is, inner_is, IsRead, AreRead, calculated_says}
use Rattle.global_law.proofs.Constant.GroupSizes.{size_value, size_has, part_is_of, part_length}
use Rattle.global_law.proofs.Constant.Reading.{size_reading, part_reading, reads_says}
use Rattle.global_law.proofs.Constant.Written.{IsHeld, held_member, own_type, held_by, struct_written}

pub bytes_off : (a b : Text) → (a ≡ b → ⊥) → bytes_eq a b ≡ false
bytes_off a b off = by_test (bytes_eq a b) refl
  where
    by_test : (q : Bool) → bytes_eq a b ≡ q → q ≡ false
    by_test true e = absurd (off ((bytes_eq-Decides a b).0 e))
    by_test false e = refl

-- opcodes
constant_no_struct : (o : Op) → is_constant_op o ≡ true → is o code.TypeStruct ≡ false
unfolding number
constant_no_struct code.TypeStruct on = cc
constant_no_struct o on = refl

pub kind_constant : (o : Op) → (constant_kind o ≡ kinds.Other → ⊥) → is_constant_op o ≡ true
unfolding constant_kind
kind_constant code.ConstantTrue far = refl
kind_constant code.ConstantFalse far = refl
kind_constant code.Constant far = refl
kind_constant code.ConstantComposite far = refl
kind_constant code.SpecConstantComposite far = refl
kind_constant code.ConstantNull far = refl
kind_constant code.Undef far = refl
kind_constant code.SpecConstantTrue far = refl
kind_constant code.SpecConstantFalse far = refl
kind_constant code.SpecConstant far = refl
kind_constant code.SpecConstantOp far = refl
kind_constant o far = absurd (far refl)

pub composite_ids : (o : Op) (args : List ℕ) (k : ℕ) → constant_kind o ≡ kinds.Composite → is_id o args k ≡ true
unfolding constant_kind is_id
composite_ids code.ConstantComposite args k e = from_zero k
composite_ids code.SpecConstantComposite args k e = from_zero k
composite_ids o args k e = cc

no_calculation : (o : Op) → (constant_kind o ≡ kinds.Operation → ⊥) → is o code.SpecConstantOp ≡ false
unfolding constant_kind number
no_calculation code.SpecConstantOp far = absurd (far refl)
no_calculation o far = refl

variable_op : (r : Reached) (g : Inst) → is_written_variable r g ≡ true → is g.op code.Variable ≡ true
variable_op r g on = elim (or_cases (is_private g) (is_workgroup g || is_block_variable g) (and_left (is_private g || (is_workgroup g || is_block_variable g)) (is_operand_in r.functions g.result) on)) [
  | inl own ↦ and_left (is g.op code.Variable) _ own
  | inr more ↦ elim (or_cases (is_workgroup g) (is_block_variable g) more) [ inl own ↦ and_left (is g.op code.Variable) _ own | inr own ↦ and_left (is g.op code.Variable) _ own ]
]

-- a value that is no composite is of a scalar
abbrev pub IsSingle : ValueTree → Type 0
IsSingle (truth b) = Unit {0}
IsSingle (value_word w) = Unit {0}
IsSingle (many vs) = ⊥

pub scalar_fit : (t : Tree) (v : ValueTree) → IsSingle v → fits t v ≡ true → is_scalar t ≡ true
scalar_fit plain.boolean v one fit = refl
scalar_fit plain.int v one fit = refl
scalar_fit plain.uint v one fit = refl
scalar_fit (plain.vector e n) (truth b) one fit = cc
scalar_fit (plain.vector e n) (value_word w) one fit = cc
scalar_fit (plain.vector e n) (many vs) one fit = absurd one
scalar_fit (plain.array t (Fixed n)) (truth b) one fit = cc
scalar_fit (plain.array t (Fixed n)) (value_word w) one fit = cc
scalar_fit (plain.array t (Fixed n)) (many vs) one fit = absurd one
scalar_fit (plain.array t (Spec l)) v one fit = cc
scalar_fit (plain.runtime t) v one fit = cc
scalar_fit (plain.struct k ts) (truth b) one fit = cc
scalar_fit (plain.struct k ts) (value_word w) one fit = cc
scalar_fit (plain.struct k ts) (many vs) one fit = absurd one

below : (a b : ℕ) → a < b + 1 → (a ≡ b → ⊥) → a < b
below a b less far = by_test (nat_lt a b) refl
  where
    by_test : (q : Bool) → nat_lt a b ≡ q → a < b
    by_test true e = grind (arith, nat_tests, e)
    by_test false e = absurd (far (let le : b ≤ a = grind (arith, nat_tests, e) in omega (arith, less, le)))

-- two of a rising list that stand at one word are one
same_at : (gs : List Inst) (k : ℕ) (g h : Inst) → AreRising k gs → IsAmong g gs → IsAmong h gs → g.at ≡ h.at → g ≡ h
same_at [] k g h rise a b e = absurd a
same_at (x ∷ gs) k g h rise (inl same) (inl other) e = sym same ∙ other
same_at (x ∷ gs) k g h rise (inl same) (inr there) e = let far = rising_low (x.at + 1) gs h rise.1 there in let at : x.at ≡ g.at = ap (λ (y : Inst). y.at) same in absurd (omega (arith, far, at, e))
same_at (x ∷ gs) k g h rise (inr there) (inl other) e = let far = rising_low (x.at + 1) gs g rise.1 there in let at : x.at ≡ h.at = ap (λ (y : Inst). y.at) other in absurd (omega (arith, far, at, e))
same_at (x ∷ gs) k g h rise (inr there) (inr later) e = same_at gs (x.at + 1) g h rise.1 there later e

-- what the text needs of itself it needs
pub needed_kept : (s : Source) (first : ℕ → Bool) (gs : List Inst) (n : ℕ) → first n ≡ true → needed_from s first gs n ≡ true
needed_kept s first [] n on = on
needed_kept s first (g ∷ gs) n on = by_test (needed_from s first gs n) (needed_kept s first gs n on)
  where
    by_test : (b : Bool) → b ≡ true → elim b as (λ q. Bool) [ true ↦ true | false ↦ declares s (needed_from s first gs) g && has_operand g n ] ≡ true
    by_test true e = refl
    by_test false e = cc

pub any_among : (test : Inst → Bool) (gs : List Inst) (g : Inst) → IsAmong g gs → test g ≡ true → list_any test gs ≡ true
any_among test [] g there on = absurd there
any_among test (x ∷ gs) g (inl same) on = or_left (test x) (list_any test gs) (subst (λ (y : Inst). test y ≡ true) (sym same) on)
any_among test (x ∷ gs) g (inr there) on = or_right (test x) (list_any test gs) (any_among test gs g there on)

named_reading : (r : Reading) → is_named r ≡ true → r ≡ Named
named_reading Named e = refl
named_reading Plain e = cc
named_reading GroupSize e = cc
named_reading (GroupSizePart axis) e = cc

-- a constant that is declared is one by its opcode
pub declared_op : (source : Source) (r : Reached) (g : Inst) → is_declared_constant source r g ≡ true → is_constant_op g.op ≡ true
declared_op source r g on = and_left (is_constant g) (is_named (reading source g) && (is_some (free_spec_id source g.result) || is_needed source r g.result)) on

module _ (s : Setting) (entry : Option (List ℕ)) (overrides : List (ℕ × Given)) (found_key : Key → Option Text) (r : Reached) (asked : AreAsked s entry overrides found_key r) where
  abbrev source : Source
  source = source_of s overrides

  abbrev key : Key → Text
  key = key_text found_key

  abbrev names : ℕ → Text
  names n = key (Id (id n))

  abbrev pub calculated : Inst → Expr
  calculated = calculated_with source found_key names

  abbrev pub N : Names
  N = names_of key calculated

  abbrev Gs : List Inst
  Gs = s.of.globals

  abbrev Y : StructNames
  Y = struct_names key

  abbrev C : ℕ → Option ℕ
  C = chosen s overrides

  -- no Private variable that is written has the name
  abbrev pub HasNoVariable : Text → Type 0
  HasNoVariable x = (g : Inst) → IsAmong g Gs → is_private g ≡ true → is_written_variable r g ≡ true → bytes_eq (names g.result) x ≡ false

  pub record Stands (k : ℕ) (d : Declared) : Type 0 where
    pub invocation : d.program.invocation ≡ s.invocation
    pub functions : (w : Text) → d.program.is_function w ≡ false
    pub size : d.program.things group_size_text ≡ Some (value (size_value s overrides))
    pub hidden : (x : Text) → HasNoVariable x → found d.globals x ≡ None
    pub structs : (h : Inst) (ts : Trees) → IsAmong h Gs → h.at < k → is_written_struct source r h ≡ true → all_trees (tree_before Gs h.at) h.args ≡ Some ts → IsDeclared d.program s source key (plain.struct h.result ts)
    pub constants : (h : Inst) (t : Tree) (v : ValueTree) → IsAmong h Gs → h.at < k → is_declared_constant source r h ≡ true → s.constants h.result ≡ Some v → type_tree Gs h.ty ≡ Some t → d.program.things (names h.result) ≡ Some (value (typed (shape_in s Y t) v))

  -- globals by their ids and names
  pub own : (g : Inst) → IsAmong g Gs → global Gs g.result ≡ Some g
  own g there = global_found s.of entry asked.right g there

  pub same_item : (g h : Inst) → IsAmong g Gs → IsAmong h Gs → is_item source r g ≡ true → is_item source r h ≡ true → names g.result ≡ names h.result → g ≡ h
  same_item g h g_in h_in a b same = same_Some g h (sym (own g g_in) ∙ ap (global Gs) (asked.names.apart g h g_in h_in a b same) ∙ own h h_in)

  struct_is_item : (g : Inst) → is_written_struct source r g ≡ true → is_item source r g ≡ true
  struct_is_item g on = or_left (is_written_struct source r g) (is_declared_constant source r g || is_written_variable r g) on

  constant_is_item : (g : Inst) → is_declared_constant source r g ≡ true → is_item source r g ≡ true
  constant_is_item g on = or_right (is_written_struct source r g) (is_declared_constant source r g || is_written_variable r g) (or_left (is_declared_constant source r g) (is_written_variable r g) on)

  pub variable_is_item : (g : Inst) → is_written_variable r g ≡ true → is_item source r g ≡ true
  variable_is_item g on = or_right (is_written_struct source r g) (is_declared_constant source r g || is_written_variable r g) (or_right (is_declared_constant source r g) (is_written_variable r g) on)

  declared_reading : (g : Inst) → is_declared_constant source r g ≡ true → reading source g ≡ Named
  declared_reading g on = named_reading (reading source g) (and_left (is_named (reading source g)) (is_some (free_spec_id source g.result) || is_needed source r g.result) (and_right (is_constant g) (is_named (reading source g) && (is_some (free_spec_id source g.result) || is_needed source r g.result)) on))

  pub declared_by : (g : Inst) → is_constant g ≡ true → reading source g ≡ Named → is_needed source r g.result ≡ true → is_declared_constant source r g ≡ true
  declared_by g constant reads needed =
      and_from (is_constant g) (is_named (reading source g) && (is_some (free_spec_id source g.result) || is_needed source r g.result)) constant
      (and_from (is_named (reading source g)) (is_some (free_spec_id source g.result) || is_needed source r g.result) (ap is_named reads) (or_right (is_some (free_spec_id source g.result)) (is_needed source r g.result) needed))

  -- the name of a constant is none of a variable, and neither is that of the size of workgroups
  pub constant_hidden : (g : Inst) → IsAmong g Gs → is_declared_constant source r g ≡ true → HasNoVariable (names g.result)
  constant_hidden g there on h h_in own written = bytes_off (names h.result) (names g.result) (λ same.
      let one : h ≡ g = same_item h g h_in there (variable_is_item h written) (constant_is_item g on) same in
      clash (sym (variable_op r h written) ∙ ap (λ (x : Inst). is x.op code.Variable) one ∙ constant_no_variable g.op (declared_op source r g on)))

  pub size_hidden : HasNoVariable group_size_text
  size_hidden h h_in own written = bytes_off (names h.result) group_size_text (λ same. asked.names.size_apart h h_in (variable_is_item h written) same)

  -- what is declared of one global
  declares_struct : (g : Inst) → is_written_struct source r g ≡ true → declaration source r N g ≡ struct_decl source N g ∷ []
  declares_struct g on = ap (λ b. if b then struct_decl source N g ∷ [] else (if is_declared_constant source r g then constant_decl source N g ∷ [] else (if is_written_variable r g then variable_decl source N g (block_of Gs g) else []))) on

  declares_constant : (g : Inst) → is_declared_constant source r g ≡ true → declaration source r N g ≡ constant_decl source N g ∷ []
  declares_constant g on =
      let off : is_written_struct source r g ≡ false = first_off (is g.op code.TypeStruct) (not (is_block s.of.heads g.result) && list_any (type_has_struct Gs g.result) (written_types source r)) (constant_no_struct g.op (declared_op source r g on)) in
      ap (λ b. if b then struct_decl source N g ∷ [] else (if is_declared_constant source r g then constant_decl source N g ∷ [] else (if is_written_variable r g then variable_decl source N g (block_of Gs g) else []))) off
      ∙ ap (λ b. if b then constant_decl source N g ∷ [] else (if is_written_variable r g then variable_decl source N g (block_of Gs g) else [])) on

  abbrev By : Bool → Bool → Bool → Inst → List Decl
  By a b c g = if a then struct_decl source N g ∷ [] else (if b then constant_decl source N g ∷ [] else (if c then variable_decl source N g (block_of Gs g) else []))

  pub other_names : (x : Text) (g : Inst) → (is_item source r g ≡ true → bytes_eq x (names g.result) ≡ false) → AreOtherNames x (declaration source r N g)
  other_names x g off = by_kind (is_written_struct source r g) (is_declared_constant source r g) (is_written_variable r g) off
    where
      by_private : (b : Bool) → bytes_eq x (names g.result) ≡ false → AreOtherNames x ((if b then items.global (type_at source N (pointee_at source g.ty)) (names g.result) (initial source N g) else items.shared (type_at source N (pointee_at source g.ty)) (names g.result)) ∷ [])
      by_private true off = (tt, tt)
      by_private false off = (off, tt)

      by_block : (o : Option Inst) → bytes_eq x (names g.result) ≡ false → AreOtherNames x (variable_decl source N g o)
      by_block (Some b) off = (off, tt)
      by_block None off = by_private (is_private g) off

      by_kind : (a b c : Bool) → ((a || (b || c)) ≡ true → bytes_eq x (names g.result) ≡ false) → AreOtherNames x (By a b c g)
      by_kind true b c off = (tt, tt)
      by_kind false true c off = (off refl, tt)
      by_kind false false true off = by_block (block_of Gs g) (off refl)
      by_kind false false false off = tt

  other_structs : (x : Text) (g : Inst) → (is_written_struct source r g ≡ true → bytes_eq x (names g.result) ≡ false) → AreOtherStructs x (declaration source r N g)
  other_structs x g off = by_kind (is_written_struct source r g) (is_declared_constant source r g) (is_written_variable r g) off
    where
      by_private : (b : Bool) → AreOtherStructs x ((if b then items.global (type_at source N (pointee_at source g.ty)) (names g.result) (initial source N g) else items.shared (type_at source N (pointee_at source g.ty)) (names g.result)) ∷ [])
      by_private true = (tt, tt)
      by_private false = (tt, tt)

      by_block : (o : Option Inst) → AreOtherStructs x (variable_decl source N g o)
      by_block (Some b) = (tt, tt)
      by_block None = by_private (is_private g)

      by_kind : (a b c : Bool) → (a ≡ true → bytes_eq x (names g.result) ≡ false) → AreOtherStructs x (By a b c g)
      by_kind true b c off = (off refl, tt)
      by_kind false true c off = (tt, tt)
      by_kind false false true off = by_block (block_of Gs g)
      by_kind false false false off = tt

  pub other_variables : (x : Text) (g : Inst) → (is_private g ≡ true → is_written_variable r g ≡ true → bytes_eq (names g.result) x ≡ false) → AreOtherVariables x (declaration source r N g)
  other_variables x g off = by_kind (is_written_struct source r g) (is_declared_constant source r g) (is_written_variable r g) off
    where
      by_private : (b : Bool) → (b ≡ true → bytes_eq (names g.result) x ≡ false) → AreOtherVariables x ((if b then items.global (type_at source N (pointee_at source g.ty)) (names g.result) (initial source N g) else items.shared (type_at source N (pointee_at source g.ty)) (names g.result)) ∷ [])
      by_private true off = (off refl, tt)
      by_private false off = (tt, tt)

      by_block : (o : Option Inst) → (is_private g ≡ true → bytes_eq (names g.result) x ≡ false) → AreOtherVariables x (variable_decl source N g o)
      by_block (Some b) off = (tt, tt)
      by_block None off = by_private (is_private g) off

      by_kind : (a b c : Bool) → (is_private g ≡ true → c ≡ true → bytes_eq (names g.result) x ≡ false) → AreOtherVariables x (By a b c g)
      by_kind true b c off = (tt, tt)
      by_kind false true c off = (tt, tt)
      by_kind false false true off = by_block (block_of Gs g) (λ own. off own refl)
      by_kind false false false off = tt

  no_function : (d : Declared) (w : Text) (g : Inst) → (with_items d (declaration source r N g)).program.is_function w ≡ d.program.is_function w
  no_function d w g = by_kind (is_written_struct source r g) (is_declared_constant source r g) (is_written_variable r g)
    where
      by_value : (o : Option Typed) → (with_global (names g.result) o d).program.is_function w ≡ d.program.is_function w
      by_value None = refl
      by_value (Some v) = refl

      by_private : (b : Bool) → (with_items d ((if b then items.global (type_at source N (pointee_at source g.ty)) (names g.result) (initial source N g) else items.shared (type_at source N (pointee_at source g.ty)) (names g.result)) ∷ [])).program.is_function w ≡ d.program.is_function w
      by_private true = by_value _
      by_private false = refl

      by_block : (o : Option Inst) → (with_items d (variable_decl source N g o)).program.is_function w ≡ d.program.is_function w
      by_block (Some b) = refl
      by_block None = by_private (is_private g)

      by_kind : (a b c : Bool) → (with_items d (By a b c g)).program.is_function w ≡ d.program.is_function w
      by_kind true b c = refl
      by_kind false true c = refl
      by_kind false false true = by_block (block_of Gs g)
      by_kind false false false = refl

  -- so much is known of types
  module _ (k : ℕ) (d : Declared) (stands : Stands k d) where
    struct_stands : (j : ℕ) (ts : Trees) → IsStructBefore (IsNoBlock s.of) s.of k j ts → IsHeld s entry asked.right overrides r j → IsDeclared d.program s source key (plain.struct j ts)
    struct_stands j ts w held =
        subst (λ x. IsDeclared d.program s source key (plain.struct x ts)) (named_so Gs j w.inst w.there) (stands.structs w.inst ts (found_in Gs j w.inst w.there) w.less (struct_written s entry asked.right overrides r k j ts w held) w.members)

    mutual
      pub zero_stands : (t : Tree) → IsWithin (IsNoBlock s.of) s.of k t → IsSized t → ((j : ℕ) → has_struct j t ≡ true → IsHeld s entry asked.right overrides r j) → HasZero d.program s source key t
      zero_stands plain.boolean w sized held = tt
      zero_stands plain.int w sized held = tt
      zero_stands plain.uint w sized held = tt
      zero_stands (plain.vector e n) w sized held = w
      zero_stands (plain.array t (Fixed n)) w sized held = zero_stands t w.0 sized held
      zero_stands (plain.array t (Spec l)) w sized held = absurd sized
      zero_stands (plain.runtime t) w sized held = absurd sized
      zero_stands (plain.struct j ts) w sized held =
          let fields = struct_stands j ts w.0 (held j (or_left (j == j) (have_struct j ts) (grind (arith, nat_tests)))) in
          (fields.1 ∙ ap (λ fs. Some fs) (only_fields s Y j 0 ts fields.0 (all_sized_lengths ts sized) fields.2), zeros_stand ts w.1 sized (λ i has. held i (or_right (j == i) (have_struct i ts) has)))

      zeros_stand : (ts : Trees) → AreWithin (IsNoBlock s.of) s.of k ts → AreSized ts → ((j : ℕ) → have_struct j ts ≡ true → IsHeld s entry asked.right overrides r j) → HaveZeros d.program s source key ts
      zeros_stand no_trees w sized held = tt
      zeros_stand (tree t ts) w sized held = (zero_stands t w.0 sized.0 (λ j has. held j (or_left (has_struct j t) (have_struct j ts) has)), zeros_stand ts w.1 sized.1 (λ j has. held j (or_right (has_struct j t) (have_struct j ts) has)))

    -- a length that a specialization constant gives, where it is one
    extent_known : (n : ℕ) → IsSpecBefore s.of k n → (l : ℕ) → array_length s n ≡ Some l → (u : Shape) → with_extent d.program (length_extent source names (Spec (id n))) u ≡ shapes.array u (array_length s n)
    extent_known n w l long u = by_reading (reading source c) refl
      where
        c : Inst
        c = w.inst

        among : IsAmong c Gs
        among = found_in Gs n c w.there

        itself : c.result ≡ n
        itself = named_so Gs n c w.there

        told : (x : ℕ) × (s.constants n ≡ Some (value_word x)) × (array_length s n ≡ Some x)
        told = (l, length_word s n l long, long)

        has : s.constants c.result ≡ Some (value_word told.0)
        has = ap s.constants itself ∙ told.1

        v : IsValued s C asked.have asked.right.results asked.right.rising c.result (value_word told.0)
        v = valued s C asked.have asked.right.results asked.right.rising c.result (value_word told.0) has

        same : v.inst ≡ c
        same = same_Some v.inst c (sym v.there ∙ own c among)

        shape : type_tree Gs c.ty ≡ Some v.shape
        shape = ap (λ (x : Inst). type_tree Gs x.ty) (sym same) ∙ v.typed_as

        constant : is_constant_op c.op ≡ true
        constant = kind_constant c.op (λ other. none_some (ap (value_by_kind v.from (C v.inst.result) v.shape v.inst.args) (sym other ∙ ap (λ (x : Inst). constant_kind x.op) (sym same)) ∙ v.made))

        needed : is_needed source r c.result ≡ true
        needed = needed_kept source (needs_constant source r) Gs c.result (or_right (list_any (λ (m : ℕ). m == c.result) r.mentions) _ (or_left (list_any (is_length_of c.result) Gs) _ (any_among (is_length_of c.result) Gs w.array w.among (and_from (is w.array.op code.TypeArray) (slice_index w.array.args 1 == c.result) w.opcode (number_same (slice_index w.array.args 1) c.result (w.length ∙ sym itself))))))

        by_reading : (q : Reading) → reading source c ≡ q → with_extent d.program (length_extent source names (Spec (id n))) u ≡ shapes.array u (array_length s n)
        by_reading Plain reads = plain_extent s overrides key d.program u n c w.there asked.have asked.right.results told.0 reads told.1 told.2
        by_reading Named reads = named_extent s overrides key d.program u n c w.there told.0 v.shape reads shape v.fit told.1 (stands.constants c v.shape (value_word told.0) among w.less (declared_by c constant reads needed) has shape)
        by_reading GroupSize reads =
            let z = size_has s overrides asked.have asked.right.results asked.right.rising asked.spec_ids asked.sizes c (value_word told.0) among (own c among) (size_reading source c reads) has in
            absurd (never (subst (λ q. fits q (value_word told.0) ≡ true) (same_Some v.shape (plain.vector elem.Uint 3) (sym shape ∙ z.0)) v.fit))
          where
            never : fits (plain.vector elem.Uint 3) (value_word told.0) ≡ true → ⊥
            never e = cc
        by_reading (GroupSizePart axis) reads =
            let p = part_is_of s overrides asked.have asked.right.results asked.right.rising asked.spec_ids asked.sizes c axis (value_word told.0) (own c among) has (part_reading source c axis reads) in
            let counted : told.0 ≡ p.count = word_same told.0 p.count p.value_is in
            ap (λ o. with_extent d.program (option_map_or (λ (g : Inst). extent_by source names g (reading source g)) o (items.number 0)) u) w.there ∙ ap (λ q. with_extent d.program (extent_by source names c q) u) reads
            ∙ ap (shapes.array u) (part_length s overrides asked.have asked.right.results asked.right.rising asked.spec_ids asked.sizes d.program c axis (value_word told.0) stands.size p ∙ ap (λ x. Some x) (sym counted) ∙ sym told.2)
          where
            word_same : (a b : ℕ) → value_word a ≡ value_word b → a ≡ b
            word_same a b e = cc

    extent_stands : (n : ℕ) → IsSpecBefore s.of k n → (m : Option ℕ) × ((u : Shape) → with_extent d.program (length_extent source names (Spec (id n))) u ≡ shapes.array u m) × HasLength (array_length s n) m
    extent_stands n w = by_length (array_length s n) refl
      where
        by_length : (o : Option ℕ) → array_length s n ≡ o → (m : Option ℕ) × ((u : Shape) → with_extent d.program (length_extent source names (Spec (id n))) u ≡ shapes.array u m) × HasLength o m
        by_length None none = let e = extent_length d.program source names (id n) in (e.0, e.1, tt)
        by_length (Some l) long = (Some l, λ u. extent_known n w l long u ∙ ap (shapes.array u) long, refl)

    -- the type of what is no value, and those of members
    pub declared_stands : (t : Tree) → IsWithin (IsNoBlock s.of) s.of k t → ((j : ℕ) → has_struct j t ≡ true → IsHeld s entry asked.right overrides r j) → IsDeclared d.program s source key t
    declared_stands plain.boolean w held = tt
    declared_stands plain.int w held = tt
    declared_stands plain.uint w held = tt
    declared_stands (plain.vector e n) w held = tt
    declared_stands (plain.array t (Fixed n)) w held = declared_stands t w.0 held
    declared_stands (plain.array t (Spec l)) w held = (declared_stands t w.0 held, extent_stands l.0 w.1)
    declared_stands (plain.runtime t) w held = declared_stands t w held
    declared_stands (plain.struct j ts) w held = struct_stands j ts w.0 (held j (or_left (j == j) (have_struct j ts) (grind (arith, nat_tests))))

    pub all_declared : (ts : Trees) → AreWithin (IsNoBlock s.of) s.of k ts → ((j : ℕ) → have_struct j ts ≡ true → IsHeld s entry asked.right overrides r j) → AreDeclared s nothing overrides key calculated d.program ts
    all_declared no_trees w held = tt
    all_declared (tree t ts) w held = (declared_stands t w.0 (λ j has. held j (or_left (has_struct j t) (have_struct j ts) has)), all_declared ts w.1 (λ j has. held j (or_right (has_struct j t) (have_struct j ts) has)))

  -- what is known of a scalar type
  scalar_known : (p : Program) (t : Tree) → is_scalar t ≡ true → HasZero p s source key t × HasMembersApart (struct_names key) t
  scalar_known p plain.boolean on = (tt, tt)
  scalar_known p plain.int on = (tt, tt)
  scalar_known p plain.uint on = (tt, tt)
  scalar_known p (plain.vector e n) on = cc
  scalar_known p (plain.array t l) on = cc
  scalar_known p (plain.runtime t) on = cc
  scalar_known p (plain.struct j ts) on = cc

  -- what has a value is a constant
  pub constant_op : (h : Inst) (v : ValueTree) → IsAmong h Gs → s.constants h.result ≡ Some v → is_constant_op h.op ≡ true
  constant_op h v there has = kind_constant h.op (λ other. none_some (ap (value_by_kind w.from (C w.inst.result) w.shape w.inst.args) (sym other ∙ ap (λ (x : Inst). constant_kind x.op) (sym (same_Some w.inst h (sym w.there ∙ own h there)))) ∙ w.made))
    where
      w : IsValued s C asked.have asked.right.results asked.right.rising h.result v
      w = valued s C asked.have asked.right.results asked.right.rising h.result v has

  constant_sized : (h : Inst) (t : Tree) → IsAmong h Gs → is_constant_op h.op ≡ true → type_tree Gs h.ty ≡ Some t → IsSized t
  constant_sized h t there on shape = used_sized s.of entry asked.right h (inst_left h Gs (local_insts s.of) there) (constant_no_variable h.op on) t shape

  constant_held : (h : Inst) (t : Tree) → IsAmong h Gs → is_declared_constant source r h ≡ true → type_tree Gs h.ty ≡ Some t → (j : ℕ) → has_struct j t ≡ true → IsHeld s entry asked.right overrides r j
  constant_held h t there on shape j has = held_by s entry asked.right overrides r h j there (or_right (is_written_variable r h) (is_declared_constant source r h) on) (own_type s entry asked.right overrides r h.ty j t shape has)

  -- what is declared of a constant is read by its name: so it is no scalar without a SpecId
  no_literal : (g : Inst) → reading source g ≡ Named → free_spec_id source g.result ≡ None → has_literal source g ≡ true → ⊥
  no_literal g reads free has = by_size (is_size_composite s.of.heads g) reads
    where
      by_size : (b : Bool) → (if b then GroupSize else reading_by_spec source g (free_spec_id source g.result)) ≡ Named → ⊥
      by_size true e = cc
      by_size false e = never (sym (ap (reading_by_spec source g) free ∙ ap reading_by_literal has) ∙ e)
        where
          never : Plain ≡ Named → ⊥
          never e = cc

  no_free : (g : Inst) → IsAmong g Gs → (IsScalarSpec (constant_kind g.op) → ⊥) → free_spec_id source g.result ≡ None
  no_free g there far = by_spec (spec_id s.of.heads g.result) refl
    where
      by_spec : (o : Option ℕ) → spec_id s.of.heads g.result ≡ o → option_and_then (if_free overrides) o ≡ None
      by_spec None e = refl
      by_spec (Some k) e = absurd (far (asked.spec_ids g there (ap is_some e)))

  -- the item of a constant, from what stands before it
  module _ (g : Inst) (there : IsAmong g Gs) (d : Declared) (stands : Stands g.at d) (on : is_declared_constant source r g ≡ true) where
    abbrev Z : State
    Z = record { frames = []; globals = d.globals; answers = [] }

    seen : (x : Text) → HasNoVariable x → named d.program Z x ≡ d.program.things x
    seen x off = outside_is d.program Z x refl (stands.hidden x off)

    size_seen : named d.program Z group_size_text ≡ Some (value (size_value s overrides))
    size_seen = seen group_size_text size_hidden ∙ stands.size

    operand_declared : (h : Inst) (n : ℕ) → h.result ≡ n → has_operand g n ≡ true → is_constant h ≡ true → reading source h ≡ Named → is_declared_constant source r h ≡ true
    operand_declared h n same has constant reads =
        declared_by h constant reads (subst (λ m. is_needed source r m ≡ true) (sym same) (operand_needed s.of entry asked.right source (needs_constant source r) Gs 0 asked.right.rising (λ x x_in. x_in) g there n on has))

    abbrev IsOne : ℕ → Tree → ValueTree → Type 0
    IsOne n t v = IsOperand s C asked.have asked.right.results asked.right.rising g.at n t v

    reads : (n : ℕ) (t : Tree) (v : ValueTree) → IsOne n t v → has_operand g n ≡ true → IsRead s overrides found_key asked.have asked.right.results asked.right.rising asked.low d.program no_calls Z g.at n t v
    reads n t v w operand = record { is_one = w; says = says; zero = known.0; apart = known.1 }
      where
        h : Inst
        h = w.inst

        among : IsAmong h Gs
        among = found_in Gs n h w.there

        itself : h.result ≡ n
        itself = named_so Gs n h w.there

        has : s.constants h.result ≡ Some v
        has = ap s.constants itself ∙ w.has

        constant : is_constant_op h.op ≡ true
        constant = constant_op h v among has

        says : Says d.program no_calls Z (constant_expr source names h) (typed (shape_in s Y t) v)
        says = reads_says s overrides key asked.have asked.right.results asked.right.rising asked.spec_ids asked.sizes d.program no_calls Z size_seen h t v among (own h among) has w.typed_as
            (λ reads.
            let declared = operand_declared h n itself operand constant reads in
            seen (names h.result) (constant_hidden h among declared) ∙ stands.constants h t v among w.less declared has w.typed_as)

        same_type : (u : Tree) → type_tree Gs h.ty ≡ Some u → u ≡ t
        same_type u e = same_Some u t (sym e ∙ w.typed_as)

        by_reading : (q : Reading) → reading source h ≡ q → HasZero d.program s source key t × HasMembersApart (struct_names key) t
        by_reading Plain reads = let c = plain_is s overrides h reads in scalar_known d.program t (subst (λ u. is_scalar u ≡ true) (same_type c.shape c.typed_as) c.scalar)
        by_reading Named reads =
            let declared = operand_declared h n itself operand constant reads in
            let less = w.less in (
              zero_stands g.at d stands t (wider (IsNoBlock s.of) s.of h.at g.at (let low : h.at ≤ g.at = omega (arith, less) in low) t (constant_within s.of entry asked.right h t among constant w.typed_as)) (constant_sized h t among constant w.typed_as) (constant_held h t among declared w.typed_as),
              asked.members h t among declared w.typed_as,
            )
        by_reading GroupSize reads =
            let c = size_has s overrides asked.have asked.right.results asked.right.rising asked.spec_ids asked.sizes h v among (own h among) (size_reading source h reads) has in
            subst (λ u. HasZero d.program s source key u × HasMembersApart (struct_names key) u) (same_type (plain.vector elem.Uint 3) c.0) (inr (inl refl), tt)
        by_reading (GroupSizePart axis) reads =
            let c = part_is_of s overrides asked.have asked.right.results asked.right.rising asked.spec_ids asked.sizes h axis v (own h among) has (part_reading source h axis reads) in
            subst (λ u. HasZero d.program s source key u × HasMembersApart (struct_names key) u) (same_type plain.uint c.typed_as) (tt, tt)

        known : HasZero d.program s source key t × HasMembersApart (struct_names key) t
        known = by_reading (reading source h) refl

    all_read : (ns : List ℕ) (ts : List Tree) (vs : List ValueTree) → AreOperands s C asked.have asked.right.results asked.right.rising g.at ns ts vs → AllOperands g ns → AreRead s overrides found_key asked.have asked.right.results asked.right.rising asked.low d.program no_calls Z g.at ns ts vs
    all_read [] [] [] are all = tt
    all_read (n ∷ ns) (t ∷ ts) (v ∷ vs) are all = (reads n t v are.0 all.0, all_read ns ts vs are.1 all.1)
    all_read [] [] (v ∷ vs) are all = absurd are
    all_read [] (t ∷ ts) vs are all = absurd are
    all_read (n ∷ ns) [] vs are all = absurd are
    all_read (n ∷ ns) (t ∷ ts) [] are all = absurd are

    all_say : (ns : List ℕ) (ts : List Tree) (vs : List ValueTree) → AreOperands s C asked.have asked.right.results asked.right.rising g.at ns ts vs → AllOperands g ns → AllSay d.program no_calls Z (exprs_in (map (expr_at source N) ns)) (as_typed d.program s source key ts vs)
    all_say [] [] [] are all = tt
    all_say (n ∷ ns) (t ∷ ts) (v ∷ vs) are all =
        let w = are.0 in
        let q = reads n t v w all.0 in
        (subst (λ (o : Option Inst). Says d.program no_calls Z (option_map_or (constant_expr source names) o (items.literal (Uint 0))) (typed (shape_in s Y t) v)) (sym w.there) (one_says n t v w q), all_say ns ts vs are.1 all.1)
      where
        one_says : (n : ℕ) (t : Tree) (v : ValueTree) (w : IsOne n t v) → IsRead s overrides found_key asked.have asked.right.results asked.right.rising asked.low d.program no_calls Z g.at n t v → Says d.program no_calls Z (constant_expr source names w.inst) (typed (shape_in s Y t) v)
        one_says n t v w q =
            let c = q.is_one in
            subst (λ (x : Inst). Says d.program no_calls Z (constant_expr source names x) (typed (shape_in s Y t) v)) (same_Some c.inst w.inst (sym c.there ∙ w.there)) q.says
    all_say [] [] (v ∷ vs) are all = absurd are
    all_say [] (t ∷ ts) vs are all = absurd are
    all_say (n ∷ ns) [] vs are all = absurd are
    all_say (n ∷ ns) (t ∷ ts) [] are all = absurd are

    module _ (t : Tree) (v : ValueTree) (shape : type_tree Gs g.ty ≡ Some t) (has : s.constants g.result ≡ Some v) where
      abbrev Goal : Type 0
      Goal = (with_item d (constant_decl source N g)).program.things (names g.result) ≡ Some (value (typed (shape_in s Y t) v))

      constant : is_constant_op g.op ≡ true
      constant = declared_op source r g on

      sized : IsSized t
      sized = constant_sized g t there constant shape

      zero_is : HasZero d.program s source key t
      zero_is = zero_stands g.at d stands t (constant_within s.of entry asked.right g t there constant shape) sized (constant_held g t there on shape)

      -- a scalar
      literal_none : IsSingle v → fits t v ≡ true → (constant_kind g.op ≡ kinds.Operation → ⊥) → free_spec_id source g.result ≡ None → ⊥
      literal_none one fit far free =
          no_literal g (declared_reading g on) free (and_from (option_map_or is_scalar (type_tree Gs g.ty) false) (not (is g.op code.SpecConstantOp)) (ap (λ o. option_map_or is_scalar o false) shape ∙ scalar_fit t v one fit) (ap not (no_calculation g.op far)))

      told_there : (k : ConstantKind) → constant_kind g.op ≡ k → IsSpec k → IsSingle v → fits t v ≡ true → (k ≡ kinds.Operation → ⊥) → Goal
      told_there k kind spec one fit far = by_free (free_spec_id source g.result) refl
        where
          by_free : (o : Option ℕ) → free_spec_id source g.result ≡ o → Goal
          by_free None free = absurd (literal_none one fit (λ e. far (sym kind ∙ e)) free)
          by_free (Some i) free =
              let w = told_item s overrides asked.have asked.right.results key calculated nothing d g.result i g v stands.invocation (own g there) (subst IsSpec (sym kind) spec) free has in
              subst (λ u. (with_item d (constant_decl source N g)).program.things (names g.result) ≡ Some (value (typed (shape_in s Y u) v))) (same_Some w.0 t (sym w.1 ∙ shape)) w.2

      -- an expression that says the value
      said_there : (k : ConstantKind) → constant_kind g.op ≡ k → free_spec_id source g.result ≡ None → Says d.program no_calls Z (value_by source N g k) (typed (shape_in s Y t) v) → Goal
      said_there k kind free says =
          given_item s overrides key calculated nothing d g t v free shape zero_is
          (ap (λ q. known_value d.program d.globals (shape_in s Y t) (value_by source N g q)) kind ∙ ap (known_if (shape_in s Y t)) says ∙ own_value s overrides key calculated d.program t v zero_is)

      module _ (from : ℕ → Option ValueTree) (fit : fits t v ≡ true) (sound : is_sound s.of g ≡ true) (last : (k : ℕ) (u : ValueTree) → from k ≡ Some u → s.constants k ≡ Some u) (earlier : (k : ℕ) (u : ValueTree) → from k ≡ Some u → (h : Inst) × (global Gs k ≡ Some h) × (h.at < g.at)) where
        composite_there : constant_kind g.op ≡ kinds.Composite → free_spec_id source g.result ≡ None → option_map composite (each_one from g.args) ≡ Some v → Goal
        composite_there kind free made = by_values (each_one from g.args) refl made
          where
            by_values : (o : Option (List ValueTree)) → each_one from g.args ≡ o → option_map composite o ≡ Some v → Goal
            by_values None each e = none_some e
            by_values (Some vs) each e =
                let ops = operands s C asked.have asked.right.results asked.right.rising g.at from last earlier g.args vs each in
                let shapes_are = have_shapes s C asked.have asked.right.results asked.right.rising g.at g.args ops.0 vs ops.1 in
                let fit_all = all_fit s C asked.have asked.right.results asked.right.rising g.at g.args ops.0 vs ops.1 in
                let parts = constituents_are s g t ops.0 (composite_right s g sound kind) shape sized shapes_are in
                let typed_as : type_of d.program (type_at source N g.ty) ≡ Some (shape_in s Y t) = type_declared s nothing overrides key calculated d.program g.ty t shape (zero_lengths d.program s source key t zero_is) (is_declared d.program s source key t zero_is) in
                let says : Says d.program no_calls Z (value_by source N g kinds.Composite) (typed (shape_in s Y t) (composite vs)) =
                composite_says d.program s source key no_calls Z (type_at source N g.ty) (exprs_in (map (expr_at source N) g.args)) t ops.0 vs typed_as zero_is parts fit_all (all_say g.args ops.0 vs ops.1 (all_operands g (λ k. composite_ids g.op g.args k kind))) in
                said_there kinds.Composite kind free (subst (λ u. Says d.program no_calls Z (value_by source N g kinds.Composite) (typed (shape_in s Y t) u)) (same_Some (composite vs) v e) says)

        calculated_there : constant_kind g.op ≡ kinds.Operation → free_spec_id source g.result ≡ None → value_by_kind from (C g.result) t g.args (constant_kind g.op) ≡ Some v → Goal
        calculated_there kind free made =
            let w = calculated_is g t from (C g.result) v kind made in
            let ops = operands s C asked.have asked.right.results asked.right.rising g.at from last earlier (inner_operands w.opcode (drop 1 g.args)) w.values w.each in
            let are = all_read (inner_operands w.opcode (drop 1 g.args)) ops.0 w.values ops.1 (inner_operands_are g w.opcode (calculated_op g.op kind) (inner_is (slice_index g.args 0) w.opcode w.numbered w.inside)) in
            said_there kinds.Operation kind free (calculated_says s overrides found_key asked.have asked.right.results asked.right.rising asked.low d.program no_calls Z (λ f. stands.functions (built_in_name f)) g t from v sound kind shape zero_is (asked.members g t there on shape) w ops.0 are)

        by_kind : (k : ConstantKind) → constant_kind g.op ≡ k → value_by_kind from (C g.result) t g.args k ≡ Some v → Goal
        by_kind kinds.True kind e = absurd (literal_none (subst IsSingle (same_Some _ v e) tt) fit (λ o. no_kind (sym kind ∙ o)) (no_free g there (λ spec. subst IsScalarSpec kind spec)))
          where
            no_kind : kinds.True ≡ kinds.Operation → ⊥
            no_kind e = cc
        by_kind kinds.False kind e = absurd (literal_none (subst IsSingle (same_Some _ v e) tt) fit (λ o. no_kind (sym kind ∙ o)) (no_free g there (λ spec. subst IsScalarSpec kind spec)))
          where
            no_kind : kinds.False ≡ kinds.Operation → ⊥
            no_kind e = cc
        by_kind kinds.Word kind e = absurd (literal_none (subst IsSingle (same_Some _ v e) tt) fit (λ o. no_kind (sym kind ∙ o)) (no_free g there (λ spec. subst IsScalarSpec kind spec)))
          where
            no_kind : kinds.Word ≡ kinds.Operation → ⊥
            no_kind e = cc
        by_kind kinds.SpecTrue kind e = told_there kinds.SpecTrue kind tt (subst IsSingle (same_Some _ v e) tt) fit no_kind
          where
            no_kind : kinds.SpecTrue ≡ kinds.Operation → ⊥
            no_kind e = cc
        by_kind kinds.SpecFalse kind e = told_there kinds.SpecFalse kind tt (subst IsSingle (same_Some _ v e) tt) fit no_kind
          where
            no_kind : kinds.SpecFalse ≡ kinds.Operation → ⊥
            no_kind e = cc
        by_kind kinds.SpecWord kind e = told_there kinds.SpecWord kind tt (subst IsSingle (same_Some _ v e) tt) fit no_kind
          where
            no_kind : kinds.SpecWord ≡ kinds.Operation → ⊥
            no_kind e = cc
        by_kind kinds.Zero kind e = null_item s overrides key calculated asked.have asked.right.results nothing d g.result g t v (own g there) kind (no_free g there (λ spec. subst IsScalarSpec kind spec)) shape has zero_is
        by_kind kinds.Composite kind e = composite_there kind (no_free g there (λ spec. subst IsScalarSpec kind spec)) e
        by_kind kinds.Operation kind e = calculated_there kind (no_free g there (λ spec. subst IsScalarSpec kind spec)) (ap (value_by_kind from (C g.result) t g.args) kind ∙ e)
        by_kind kinds.Other kind e = none_some e

      pub constant_item : Goal
      constant_item =
          let w = valued s C asked.have asked.right.results asked.right.rising g.result v has in
          let same = same_Some w.inst g (sym w.there ∙ own g there) in
          let whole = same_Some w.shape t (sym w.typed_as ∙ ap (λ (x : Inst). type_tree Gs x.ty) same ∙ shape) in
          by_kind w.from (subst (λ q. fits q v ≡ true) whole w.fit) (subst (λ (x : Inst). is_sound s.of x ≡ true) same w.sound) w.last
          (λ k u e. subst (λ (x : Inst). (h : Inst) × (global Gs k ≡ Some h) × (h.at < x.at)) same (w.earlier k u e)) (constant_kind g.op) refl
          (ap (λ q. value_by_kind w.from (C g.result) q g.args (constant_kind g.op)) (sym whole) ∙ ap (λ (x : Inst). value_by_kind w.from (C x.result) w.shape x.args (constant_kind x.op)) (sym same) ∙ w.made)

  -- what is known of the structs in a struct that is written
  struct_held : (g : Inst) → is_written_struct source r g ≡ true → IsHeld s entry asked.right overrides r g.result
  struct_held g on = and_right (not (is_block s.of.heads g.result)) (list_any (type_has_struct Gs g.result) (written_types source r)) (and_right (is g.op code.TypeStruct) (not (is_block s.of.heads g.result) && list_any (type_has_struct Gs g.result) (written_types source r)) on)

  -- one item further
  module _ (g : Inst) (there : IsAmong g Gs) (d : Declared) (stands : Stands g.at d) where
    only : (h : Inst) → IsAmong h Gs → h.at < g.at + 1 → (h.at < g.at) ⊎ (h ≡ g)
    only h h_in less = elim (eqb_tells h.at g.at) [ inl w ↦ inr (same_at Gs 0 h g asked.right.rising h_in there w.1) | inr w ↦ inl (below h.at g.at less w.1) ]

    -- what stands before has another name
    earlier_off : (h : Inst) → IsAmong h Gs → h.at < g.at → is_item source r h ≡ true → is_item source r g ≡ true → bytes_eq (names h.result) (names g.result) ≡ false
    earlier_off h h_in less a b = bytes_off (names h.result) (names g.result) (λ same. let at : h.at ≡ g.at = ap (λ (x : Inst). x.at) (same_item h g h_in there a b same) in omega (arith, less, at))

    abbrev After : Declared
    After = with_items d (declaration source r N g)

    struct_after : (h : Inst) (ts : Trees) → IsAmong h Gs → h.at < g.at + 1 → is_written_struct source r h ≡ true → all_trees (tree_before Gs h.at) h.args ≡ Some ts → IsDeclared After.program s source key (plain.struct h.result ts)
    struct_after h ts h_in less on all = by_only (only h h_in less)
      where
        own_struct : (ts : Trees) → is_written_struct source r g ≡ true → all_trees (tree_before Gs g.at) g.args ≡ Some ts → IsDeclared After.program s source key (plain.struct g.result ts)
        own_struct ts on all =
            subst (λ l. IsDeclared (with_items d l).program s source key (plain.struct g.result ts)) (sym (declares_struct g on))
            (struct_item s nothing overrides key calculated d g ts all
            (all_declared g.at d stands ts (members_unblocked s.of entry asked.right g ts there (and_left (is g.op code.TypeStruct) (not (is_block s.of.heads g.result) && list_any (type_has_struct Gs g.result) (written_types source r)) on) all)
            (λ j has. held_member s entry asked.right overrides r g.result g ts j (own g there) all has (struct_held g on))))

        by_only : (h.at < g.at) ⊎ (h ≡ g) → IsDeclared After.program s source key (plain.struct h.result ts)
        by_only (inl low) =
            let fields = stands.structs h ts h_in low on all in
            (fields.0, structs_keep (declaration source r N g) d (names h.result) (other_structs (names h.result) g (λ also. earlier_off h h_in low (struct_is_item h on) (struct_is_item g also))) ∙ fields.1, fields.2)
        by_only (inr same) = subst (λ (x : Inst). is_written_struct source r x ≡ true → all_trees (tree_before Gs x.at) x.args ≡ Some ts → IsDeclared After.program s source key (plain.struct x.result ts)) (sym same) (own_struct ts) on all

    constant_after : (h : Inst) (t : Tree) (v : ValueTree) → IsAmong h Gs → h.at < g.at + 1 → is_declared_constant source r h ≡ true → s.constants h.result ≡ Some v → type_tree Gs h.ty ≡ Some t → After.program.things (names h.result) ≡ Some (value (typed (shape_in s Y t) v))
    constant_after h t v h_in less on has shape = by_only (only h h_in less)
      where
        own_constant : is_declared_constant source r g ≡ true → s.constants g.result ≡ Some v → type_tree Gs g.ty ≡ Some t → After.program.things (names g.result) ≡ Some (value (typed (shape_in s Y t) v))
        own_constant on has shape = ap (λ l. (with_items d l).program.things (names g.result)) (declares_constant g on) ∙ constant_item g there d stands on t v shape has

        by_only : (h.at < g.at) ⊎ (h ≡ g) → After.program.things (names h.result) ≡ Some (value (typed (shape_in s Y t) v))
        by_only (inl low) = items_keep (declaration source r N g) d (names h.result) (other_names (names h.result) g (λ also. earlier_off h h_in low (constant_is_item h on) also)) ∙ stands.constants h t v h_in low on has shape
        by_only (inr same) = subst (λ (x : Inst). is_declared_constant source r x ≡ true → s.constants x.result ≡ Some v → type_tree Gs x.ty ≡ Some t → After.program.things (names x.result) ≡ Some (value (typed (shape_in s Y t) v))) (sym same) own_constant on has shape

    pub step : Stands (g.at + 1) After
    step = record {
      invocation = items_invocation (declaration source r N g) d ∙ stands.invocation;
      functions = λ w. no_function d w g ∙ stands.functions w;
      size = items_keep (declaration source r N g) d group_size_text (other_names group_size_text g (λ also. bytes_off group_size_text (names g.result) (λ same. asked.names.size_apart g there also (sym same)))) ∙ stands.size;
      hidden = λ x off. items_find (declaration source r N g) d x (other_variables x g (λ own written. off g there own written)) ∙ stands.hidden x off;
      structs = struct_after;
      constants = constant_after;
    }

  -- up to a later word, where no global stands between
  pub later : (k n : ℕ) (d : Declared) → ((h : Inst) → IsAmong h Gs → h.at < n → h.at < k) → Stands k d → Stands n d
  later k n d none stands = record {
    invocation = stands.invocation;
    functions = stands.functions;
    size = stands.size;
    hidden = stands.hidden;
    structs = λ h ts h_in less on all. stands.structs h ts h_in (none h h_in less) on all;
    constants = λ h t v h_in less on has shape. stands.constants h t v h_in (none h h_in less) on has shape;
  }

  -- behind the items of these globals stands what they declare
  pub record StandsAt (after : List Inst) (d : Declared) : Type 0 where
    pub word_at : ℕ
    pub stands : Stands word_at d
    pub rising : AreRising word_at after
    pub rest : (h : Inst) → IsAmong h Gs → (h.at < word_at) ⊎ IsAmong h after

  steps : (before after : List Inst) (k : ℕ) (d : Declared) → AreRising k (before ++ after) → ((h : Inst) → IsAmong h (before ++ after) → IsAmong h Gs) → ((h : Inst) → IsAmong h Gs → (h.at < k) ⊎ IsAmong h (before ++ after)) → Stands k d → StandsAt after (with_items d (flat_map (declaration source r N) before))
  steps [] after k d rise all rest stands = record { word_at = k; stands = stands; rising = rise; rest = rest }
  steps (g ∷ before) after k d rise all rest stands =
      let le = rise.0 in
      let here : Stands g.at d = later k g.at d (λ h h_in less. below h less (rest h h_in)) stands in
      subst (StandsAt after) (sym (ap (λ l. with_items d l) (flat_map-cons (declaration source r N) g before) ∙ items_more (declaration source r N g) (flat_map (declaration source r N) before) d))
      (steps before after (g.at + 1) (with_items d (declaration source r N g)) rise.1 (λ h h_in. all h (inr h_in)) (λ h h_in. next h (rest h h_in)) (step g (all g (inl refl)) d here))
    where
      below : (h : Inst) → h.at < g.at → (h.at < k) ⊎ IsAmong h (g ∷ (before ++ after)) → h.at < k
      below h less (inl low) = low
      below h less (inr (inl same)) = let at : g.at ≡ h.at = ap (λ (x : Inst). x.at) same in absurd (omega (arith, less, at))
      below h less (inr (inr more)) = let far = rising_low (g.at + 1) (before ++ after) h rise.1 more in absurd (omega (arith, less, far))

      next : (h : Inst) → (h.at < k) ⊎ IsAmong h (g ∷ (before ++ after)) → (h.at < g.at + 1) ⊎ IsAmong h (before ++ after)
      next h (inl low) = let le = rise.0 in inl (let more : h.at < g.at + 1 = omega (arith, low, le) in more)
      next h (inr (inl same)) = let at : g.at ≡ h.at = ap (λ (x : Inst). x.at) same in inl (let more : h.at < g.at + 1 = omega (arith, at) in more)
      next h (inr (inr more)) = inr more

  -- So it is behind the items of any globals with which those of the module begin.
  pub stands_at : (before after : List Inst) (first : Declared) → Gs ≡ before ++ after → Stands 0 first → StandsAt after (with_items first (flat_map (declaration source r N) before))
  stands_at before after first whole start =
      steps before after 0 first (subst (AreRising 0) whole asked.right.rising) (λ h h_in. subst (IsAmong h) (sym whole) h_in) (λ h h_in. inr (subst (IsAmong h) whole h_in)) start
