-- Pointers that no chain makes: blocks, what is built in, and parameters.
use Rattle.std.proofs.Common.{◌≡◌, ◌==◌, ◌&&◌, ◌||◌, not, ℕ, Bool, true, false, List, [], ◌∷◌, fold, Contains, Option, Some, None, unwrap_or, inl, inr, refl, sym, ap, ◌∙◌, subst, if◌then◌else◌}
use Rattle.std.specs.Prelude.{◌⊎◌, count_by, nat_le, option_map, option_and_then, slice_get, slice_index}
use Rattle.std.specs.Option.{option_map_or}
use Rattle.std.proofs.lemmas.Bool.{and_from, or_left as first_on, false_from_ne_true, not-false, or_right as second_on}
use Rattle.std.proofs.lemmas.Option.{same_Some}
use Rattle.spv_ops.specs.Opcode.{is, number}
use Rattle.spv_ops.specs.Enumerants.{class_number, built_in_number, built_in_of_number, decoration_number}
use Rattle.spv_ops.specs.declared.Op.{Op}
use Rattle.spv_ops.specs.declared.Op.TheVariants as code
use Rattle.spv_ops.specs.declared.BuiltIn.TheVariants as built
use Rattle.spv_ops.specs.declared.StorageClass.TheVariants as storage
use Rattle.spv_ops.specs.declared.Decoration.TheVariants as decoration
use Rattle.spv_module.specs.Held.{global}
use Rattle.spv_module.specs.Lists.{id}
use Rattle.spv_module.specs.declared.inst.Id.{Id as IdOf}
use Rattle.spv_module.specs.declared.inst.Inst.{Inst}
use Rattle.spv_module.specs.declared.inst.Function.{Function}
use Rattle.spv_types.specs.declared.kind.TypeKind.TheVariants as kinds
use Rattle.spv_types.specs.Tree.{Tree, struct, Trees}
use Rattle.spv_types.specs.Types.{all_trees, tree_before, tree_at, type_tree}
use Rattle.spv_decor.specs.Rows.{word, value_of}
use Rattle.spv_decor.specs.Decorations.{local_insts}
use Rattle.spv_index.specs.Locals.{insts_of, type_in}
use Rattle.spv_index.specs.Pointers.{pointee, as_pointer}
use Rattle.spv_index.specs.BlockStructs.{is_block, is_block_struct}
use Rattle.spv_index.specs.ValueTypes.{is_no_value_type, other_step, with_other}
use Rattle.layout_rules.specs.Blocks.{is_block_class, as_struct, block_of}
use Rattle.profile_rules.specs.TypeRows.{is_uint, type_row}
use Rattle.profile_rules.specs.Places.{is_among, is_variable, body_insts}
use Rattle.profile_rules.specs.TypeForm.{is_no_variable}
use Rattle.profile_rules.specs.Entry.{is_no_uvec3, is_no_uint}
use Rattle.profile_rules.specs.Variables.{pointed_type, is_pointee, inputs, is_other_input_type, is_buffer, is_push, is_no_block, is_unbound, is_other_block}
use Rattle.conformance.specs.Rules.{Options}
use Rattle.list_law.proofs.Numbers.{same_number, number_same}
use Rattle.list_law.proofs.Tests.{clash}
use Rattle.plan_law.specs.InOrder.{IsAmong}
use Rattle.plan_law.proofs.Order.{among_left as insts_left}
use Rattle.module_semantics.specs.Setting.{Setting}
use Rattle.name_alloc.specs.declared.claims.Key.TheVariants.{Id, Member}
use Rattle.name_alloc.specs.Naming.{name_of}
use Rattle.glsl_ast.specs.Tree.{Expr, name, TranslationUnit}
use Rattle.text_rules.specs.Constants.{constant_expr, is_constant}
use Rattle.text_rules.specs.Printed.{has_operand, has_struct, have_struct, is_private, is_workgroup, is_block_variable, type_has_struct, written_types, is_written_variable, is_declared_constant}
use Rattle.text_items.specs.Globals.{built_in_text, is_input, global_by}
use Rattle.function_text.specs.Live.{is_composite_type}
use Rattle.function_text.specs.Functions.{FunctionPlan, written}
use Rattle.expr_forward.specs.Scope.{Scope}
use Rattle.expr_forward.specs.Paths.{name_in}
use Rattle.unit_rules.specs.Translation.{Naming, text_of, id_text}
use Rattle.unit_rules.specs.Unit.{source_of, IsUnitOf}
use Rattle.fits_law.specs.State.{element_shape}
use Rattle.claim_law.specs.Uses.{Words}
use Rattle.type_law.proofs.Rows.{by_kind as tree_kind}
use Rattle.type_law.proofs.Parts.{struct_kind}
use Rattle.type_law.proofs.Vectors.{three_off}
use Rattle.typed_law.specs.Conforms.{IsConforming, IsParameter}
use Rattle.typed_law.proofs.Lists.{and_left, and_off, or_left, or_right, none_at_fault}
use Rattle.typed_law.proofs.Rules.{input_right}
use Rattle.typed_law.proofs.Types.{row_is}
use Rattle.typed_law.proofs.Values.{IsRow, inside, parameter_right, parameter_row}
use Rattle.typed_law.proofs.Shapes.{row_of_shape}
use Rattle.global_law.proofs.Constant.Within.{other_struct}
use Rattle.claim_law.specs.Claimed.{IsIn, HasName}
use Rattle.claim_law.proofs.Claim.Constants.{found_in}
use Rattle.claim_law.proofs.Claim.Variables.{variable_no_constant, written_in, variable_named}
use Rattle.claim_law.proofs.Claim.Named.{parameter_named}
use Rattle.grammar_law.specs.Words.{words_of, AreOfStructs}
use Rattle.grammar_law.proofs.Unit.Lists.{as_among}
use Rattle.grammar_law.proofs.Unit.Ways.{HaveKinds, F, V, written_is, in_module}
use Rattle.grammar_law.proofs.Unit.Words.{built_value}
use Rattle.grammar_law.proofs.Unit.Free.{AreFree, open_free, inner_free}
use Rattle.grammar_law.proofs.Unit.Structs.{Written, IsWrittenStruct, HasNames, struct_written, block_member_named, written_names}
use Rattle.grammar_law.proofs.Unit.TypesWritten.{global_type_written, parameter_type_written}
use Rattle.grammar_law.proofs.Unit.Parts.{nth_has}
use Rattle.grammar_law.proofs.Unit.Steps.{elem_free, named_members}
use Rattle.grammar_law.proofs.Unit.Sets.{own_text}
use Rattle.grammar_law.proofs.Unit.Indexes.{value_other}
use Rattle.grammar_law.proofs.Unit.Places.{IsRoot}
use Rattle.grammar_law.proofs.Meets.Roots.{own_base, unread_variable}
use Rattle.grammar_law.proofs.Meets.OperandNames.{composite_of}
use Rattle.grammar_law.proofs.Meets.GlobalReads.{input_among}

-- a struct of a value type is no block's
fold_off : (heads gs list : List Inst) (others : ℕ → Bool) (n : ℕ) → fold (with_other heads gs) others list n ≡ false → others n ≡ false
fold_off heads gs [] others n off = off
fold_off heads gs (h ∷ list) others n off = or_left (others n) ((h.result == n) && other_step heads gs others h) (fold_off heads gs list (with_other heads gs others h) n off)

no_block_by : (heads gs list : List Inst) (others : ℕ → Bool) (g : Inst) → IsIn g list → is g.op code.TypeStruct ≡ true → fold (with_other heads gs) others list g.result ≡ false → is_block heads g.result ≡ false
no_block_by heads gs [] others g there on off = absurd there
no_block_by heads gs (h ∷ list) others g (inl same) on off =
    subst (λ (x : Inst). is_block heads x.result ≡ false) same
    (own (or_right (others h.result) ((h.result == h.result) && other_step heads gs others h) (fold_off heads gs list (with_other heads gs others h) h.result (subst (λ (x : Inst). fold (with_other heads gs) (with_other heads gs others h) list x.result ≡ false) (sym same) off))))
  where
    own : ((h.result == h.result) && other_step heads gs others h) ≡ false → is_block heads h.result ≡ false
    own e = other_struct heads gs others h h.op (subst (λ (x : Inst). is x.op code.TypeStruct ≡ true) (sym same) on) (and_off (h.result == h.result) (other_step heads gs others h) e (number_same h.result h.result refl))
no_block_by heads gs (h ∷ list) others g (inr there) on off = no_block_by heads gs list (with_other heads gs others h) g there on off

-- what is of a class of blocks is a buffer, or is pushed
pub buffer_on : (v a b c : Bool) → (v && (a || b || c)) ≡ true → ((a || c) || (v && b)) ≡ true
buffer_on true true b c on = refl
buffer_on true false true true on = refl
buffer_on true false true false on = refl
buffer_on true false false true on = refl
buffer_on true false false false on = cc
buffer_on false a b c on = cc

-- P15: what a block variable points to is a struct
block_struct : (s : Setting) (entry : Option (List ℕ)) (right : IsConforming s.of entry) (v : Inst) → IsAmong v s.of.globals → is_variable v ≡ true → is_block_variable v ≡ true → (t : Inst) → pointed_type s.of.globals v.ty ≡ Some t → is t.op code.TypeStruct ≡ true
unfolding is_other_block
block_struct s entry right v there on class t at =
    let pushes : ℕ = count_by is_push (body_insts s.of) in
    let right_block : is_other_block s.of.heads s.of.globals pushes v ≡ false =
    none_at_fault (is_other_block s.of.heads s.of.globals pushes) (body_insts s.of) v right.declared.1.1.1.1.1.1.1.1.1.1.0 (insts_left v s.of.globals (local_insts s.of) there) in
    let parts = three_off ((is_buffer v || is_push v) && is_pointee s.of.globals (is_no_block s.of.heads (word v 0)) v) (is_buffer v && is_unbound s.of.heads v) (is_push v && nat_le 2 pushes)
    (and_off (is_variable v) (((is_buffer v || is_push v) && is_pointee s.of.globals (is_no_block s.of.heads (word v 0)) v) || (is_buffer v && is_unbound s.of.heads v) || (is_push v && nat_le 2 pushes)) right_block on) in
    let none = and_off (is_buffer v || is_push v) (is_pointee s.of.globals (is_no_block s.of.heads (word v 0)) v) parts.0 (buffer_on (is_variable v) (word v 0 == class_number storage.Uniform) (word v 0 == class_number storage.PushConstant) (word v 0 == class_number storage.StorageBuffer) class) in
    let fit : is_no_block s.of.heads (word v 0) t ≡ false = ap (λ q. option_map_or (is_no_block s.of.heads (word v 0)) q false) (sym at) ∙ none in
    and_left (is t.op code.TypeStruct) (is_block_struct s.of.heads (word v 0) t.result) (not-false ((is t.op code.TypeStruct) && is_block_struct s.of.heads (word v 0) t.result) fit)

classed : (v a b c : Bool) → (v && (a || b || c)) ≡ true → (a || (b || c)) ≡ true
classed true true b c e = refl
classed true false true c e = refl
classed true false false true e = refl
classed true false false false e = cc
classed false a b c e = cc

-- it is of no class Input
no_input : (v : Bool) (c : ℕ) → (v && ((c == class_number storage.Uniform) || (c == class_number storage.PushConstant) || (c == class_number storage.StorageBuffer))) ≡ true → (v && (c == class_number storage.Input)) ≡ false
no_input false c e = refl
no_input true c e = false_from_ne_true (c == class_number storage.Input) (λ input. apart (same_number c (class_number storage.Input) input))
  where
    apart : c ≡ class_number storage.Input → ⊥
    apart same = never (sym (subst (λ (n : ℕ). ((n == class_number storage.Uniform) || (n == class_number storage.PushConstant) || (n == class_number storage.StorageBuffer)) ≡ true) same e))
      where
        never : true ≡ ((class_number storage.Input == class_number storage.Uniform) || (class_number storage.Input == class_number storage.PushConstant) || (class_number storage.Input == class_number storage.StorageBuffer)) → ⊥
        never x = cc

no_composite : (o : Op) → (is o code.TypeInt ≡ true) ⊎ (is o code.TypeVector ≡ true) → (is_composite_type o ≡ false) × (is o code.TypeStruct ≡ false)
unfolding number
no_composite code.TypeInt on = (refl, refl)
no_composite code.TypeVector on = (refl, refl)
no_composite o (inl on) = cc
no_composite o (inr on) = cc

module _ (s : Setting) (entry : Option (List ℕ)) (right : IsConforming s.of entry) (kinds_of : HaveKinds s.of.globals) (o : Options) (unit : TranslationUnit) (u : IsUnitOf s.of o unit) (p : FunctionPlan) (among : IsIn p u.plans) (names : List (List ℕ)) (structs : AreOfStructs s.of.globals (name_of u.claimed) names) where
  abbrev Gs : List Inst
  Gs = s.of.globals

  abbrev Found : Naming
  Found = name_of u.claimed

  abbrev Fn : Function
  Fn = F s entry right kinds_of o unit u p among

  abbrev Where : Scope
  Where = V s entry right kinds_of o unit u p among

  abbrev T : ℕ → Option ℕ
  T = type_in s.of.globals Fn

  abbrev W : Words
  W = words_of s.of.globals (name_of u.claimed) names

  abbrev Root : ℕ → ℕ → Tree → Type 0
  Root = IsRoot s entry right kinds_of o unit u p among names structs

  abbrev Types : List ℕ
  Types = written_types (source_of s.of o u.entry) (Written s.of o unit u)

  in_it : Contains s.of.functions Fn
  in_it = in_module s entry right kinds_of o unit u p among

  -- a pointer parameter: what it leads to is of a value type (P19)
  pub parameter_root : (q : IdOf × IdOf) → IsIn q Fn.params → IsParameter q Fn.params → (ty : ℕ) (t : Tree) → pointee Gs q.1.0 ≡ Some ty → type_tree Gs ty ≡ Some t → T q.0.0 ≡ Some q.1.0 → Root q.0.0 ty t
  parameter_root q there parameter ty t points shaped typed_is = record {
    members = named_members s entry right Fn o unit u names Where.setting.global ty t shaped
        (written_names s.of o unit u entry right q.1.0 ty t (parameter_type_written s.of o unit u p among q listed_there) (ap (λ (x : Option ℕ). option_map_or (λ y. y) x q.1.0) points) shaped free);
    named = own_base s entry right kinds_of o unit u p among names structs q.0.0 (ap (option_and_then (global_by (source_of s.of o u.entry) (id_text Found))) ((inside s entry right Fn in_it).outside q parameter))
        (own_text s entry right kinds_of o unit u p among names structs (Id (id q.0.0)) (parameter_named s.of o unit u p q among listed_there) refl (value_other s entry right kinds_of o unit u p among names structs q.0.0 q.1.0 typed_is));
  }
    where
      listed_there : IsIn q (written p).params
      listed_there = subst (λ (f : Function). IsIn q f.params) (sym (written_is s entry right kinds_of o unit u p among)) there

      row : IsRow s entry right q.1.0
      row = parameter_row s entry right Fn in_it q parameter

      target : IsRow s entry right ty
      target = row_of_shape s entry right Fn in_it ty t shaped

      on_pointer : (b : Bool) → is row.0.op code.TypePointer ≡ b → option_map (λ (g : Inst). slice_index g.args 1) (if b then Some row.0 else None) ≡ Some ty → (b ≡ true) × (word row.0 1 ≡ ty)
      on_pointer true is_it e = (refl, same_Some (word row.0 1) ty e)
      on_pointer false is_it e = cc

      pointed : (is row.0.op code.TypePointer ≡ true) × (word row.0 1 ≡ ty)
      pointed = on_pointer (is row.0.op code.TypePointer) refl (sym (ap (λ (x : Option Inst). option_map (λ (g : Inst). slice_index g.args 1) (option_and_then as_pointer x)) row.1) ∙ points)

      value : is_no_value_type s.of.heads Gs ty ≡ false
      value =
          let fit : is_no_variable s.of.heads Gs row.0 ≡ false =
          ap (λ (b : Bool). if b then is_no_variable s.of.heads Gs row.0 else is_no_value_type s.of.heads Gs q.1.0) (sym pointed.0)
          ∙ (ap (λ x. option_map_or (λ (y : Inst). if is y.op code.TypePointer then is_no_variable s.of.heads Gs y else is_no_value_type s.of.heads Gs q.1.0) x false) (sym row.1) ∙ parameter_right s entry right Fn in_it q parameter) in
          ap (is_no_value_type s.of.heads Gs) (sym pointed.1) ∙ or_right (not (word row.0 0 == class_number storage.Function)) (is_no_value_type s.of.heads Gs (word row.0 1)) fit

      free : AreFree s.of entry right t
      free =
          let g = target.0 in
          let g_in = (found_in Gs ty g target.1).0 in
          let result : g.result ≡ ty = (found_in Gs ty g target.1).1 in
          open_free s.of entry right g t g_in (λ on. no_block_by s.of.heads Gs Gs (λ n. false) g g_in on (ap (is_no_value_type s.of.heads Gs) result ∙ value)) (sym (ap (λ x. option_map_or (tree_at Gs) x None) target.1) ∙ shaped)

  -- a variable that an instruction has as an operand
  module _ (g : Inst) (g_in : IsIn g Gs) (i : Inst) (i_in : IsIn i (insts_of Fn)) (operand : has_operand i g.result ≡ true) (found : global Gs g.result ≡ Some g) (on_variable : is_variable g ≡ true) (ty : ℕ) (t : Tree) (points : pointee Gs g.ty ≡ Some ty) (shaped : type_tree Gs ty ≡ Some t) where
    abbrev at_type : IsRow s entry right ty
    at_type = row_of_shape s entry right Fn in_it ty t shaped

    body : IsAmong g (body_insts s.of)
    body = insts_left g Gs (local_insts s.of) (as_among Gs g g_in)

    shape_is : tree_at Gs at_type.0 ≡ Some t
    shape_is = sym (ap (λ x. option_map_or (tree_at Gs) x None) at_type.1) ∙ shaped

    pointed : pointed_type Gs g.ty ≡ Some at_type.0
    pointed = ap (option_and_then (type_row Gs)) points ∙ row_is s.of entry right ty at_type.0 at_type.1 at_type.2

    listed_function : IsIn i (insts_of (written p))
    listed_function = subst (λ (f : Function). IsIn i (insts_of f)) (sym (written_is s entry right kinds_of o unit u p among)) i_in

    -- of a block (P15)
    module _ (class : is_block_variable g ≡ true) (typed_is : T g.result ≡ Some g.ty) where
      of_class : (is_private g || (is_workgroup g || is_block_variable g)) ≡ true
      of_class = second_on (is_private g) (is_workgroup g || is_block_variable g) (second_on (is_workgroup g) (is_block_variable g) class)

      written_so : is_written_variable (Written s.of o unit u) g ≡ true
      written_so = written_in s.of o unit u p i g among listed_function operand of_class

      listed : IsIn g.ty Types
      listed = global_type_written s.of o unit u g g_in (first_on (is_written_variable (Written s.of o unit u) g) (is_declared_constant (source_of s.of o u.entry) (Written s.of o unit u) g) written_so)

      is_struct_type : is at_type.0.op code.TypeStruct ≡ true
      is_struct_type = block_struct s entry right g (as_among Gs g g_in) on_variable class at_type.0 pointed

      member_of : (k x : ℕ) (h : Inst) → global Gs ty ≡ Some h → is h.op code.TypeStruct ≡ true → slice_get h.args k ≡ Some x → HasName Found (Member (id ty) k)
      member_of k x h at on arg =
          let there = found_in Gs ty h at in
          let block : block_of Gs g ≡ Some h =
          ap (λ (b : Bool). if b then option_and_then as_struct (option_and_then (global Gs) (pointee Gs g.ty)) else None) (and_from (is_variable g) (is_block_class (slice_index g.args 0)) on_variable (classed (is_variable g) (slice_index g.args 0 == class_number storage.Uniform) (slice_index g.args 0 == class_number storage.PushConstant) (slice_index g.args 0 == class_number storage.StorageBuffer) class))
          ∙ (ap (λ (q : Option ℕ). option_and_then as_struct (option_and_then (global Gs) q)) points ∙ (ap (option_and_then as_struct) at ∙ ap (λ (b : Bool). if b then Some h else None) on)) in
          subst (λ (n : ℕ). HasName Found (Member (id n) k)) there.1 (block_member_named s.of o unit u g h k x g_in written_so block there.0 on arg)

      part_names : (k : ℕ) (v : Tree) → element_shape t k ≡ Some v → HasNames s.of o unit u v
      part_names k v at n has = by_members (all_trees (tree_before Gs at_type.0.at) at_type.0.args) refl (tree_kind Gs (tree_before Gs at_type.0.at) at_type.0 kinds.Struct t (struct_kind at_type.0.op is_struct_type) shape_is)
        where
          by_members : (q : Option Trees) → all_trees (tree_before Gs at_type.0.at) at_type.0.args ≡ q → option_map (struct at_type.0.result) q ≡ Some t → IsWrittenStruct s.of o unit u n
          by_members None all e = cc
          by_members (Some ts) all e =
              let same : struct at_type.0.result ts ≡ t = same_Some (struct at_type.0.result ts) t e in
              let in_parts : have_struct n ts ≡ true = nth_has ts k v n (ap (λ (x : Tree). element_shape x k) same ∙ at) has in
              let fr = inner_free s.of entry right at_type.0 ts (found_in Gs ty at_type.0 at_type.1).0 is_struct_type all n in_parts in
              let in_it : has_struct n t ≡ true = ap (has_struct n) (sym same) ∙ second_on (at_type.0.result == n) (have_struct n ts) in_parts in
              let has_it : type_has_struct Gs fr.ty.result g.ty ≡ true =
              ap (λ (q : Option ℕ). option_map_or (has_struct fr.ty.result) (type_tree Gs (option_map_or (λ x. x) q g.ty)) false) points ∙ (ap (λ (q : Option Tree). option_map_or (has_struct fr.ty.result) q false) shaped ∙ (ap (λ (m : ℕ). has_struct m t) fr.result ∙ in_it)) in
              record {
                ty = fr.ty;
                among = fr.among;
                is_struct = fr.is_struct;
                result = fr.result;
                written = struct_written s.of o unit u fr.ty g.ty fr.is_struct (subst (λ (m : ℕ). is_block s.of.heads m ≡ false) (sym fr.result) fr.free) listed has_it;
              }

      unread : Where.setting.global g.result ≡ None
      unread = unread_variable s entry right kinds_of o unit u p among names structs g found on_variable (no_input (is_variable g) (slice_index g.args 0) class)

      pub block_root : Root g.result ty t
      block_root = record {
        members = record { shaped = shaped; own = λ h at on k x arg. member_of k x h at on arg; parts = part_names };
        named = own_base s entry right kinds_of o unit u p among names structs g.result unread
            (own_text s entry right kinds_of o unit u p among names structs (Id (id g.result)) (variable_named s.of o unit u p i g g.result among listed_function operand found of_class) refl
            (value_other s entry right kinds_of o unit u p among names structs g.result g.ty typed_is));
      }

    -- of what is built in (P14)
    module _ (class : (slice_index g.args 0 == class_number storage.Input) ≡ true) where
      plain_type : (is at_type.0.op code.TypeInt ≡ true) ⊎ (is at_type.0.op code.TypeVector ≡ true)
      plain_type =
          let off = and_off (is_variable g && (word g 0 == class_number storage.Input)) (option_map_or (λ b. not (is_among inputs b) || is_pointee Gs (is_other_input_type Gs b) g) (value_of s.of.heads g.result (decoration_number decoration.BuiltIn)) true)
          (input_right s.of entry right g body) (and_from (is_variable g) (word g 0 == class_number storage.Input) on_variable class) in
          by_value (value_of s.of.heads g.result (decoration_number decoration.BuiltIn)) off
        where
          by_built : (b : Bool) → (if b then not (is_uint at_type.0) else is_no_uvec3 Gs at_type.0) ≡ false → (is at_type.0.op code.TypeInt ≡ true) ⊎ (is at_type.0.op code.TypeVector ≡ true)
          by_built true off = inl (and_left (is at_type.0.op code.TypeInt) (word at_type.0 0 == 32) (and_left ((is at_type.0.op code.TypeInt) && (word at_type.0 0 == 32)) (word at_type.0 1 == 0) (not-false (is_uint at_type.0) off)))
          by_built false off = inr (and_left (is at_type.0.op code.TypeVector) (word at_type.0 1 == 3) (not-false ((is at_type.0.op code.TypeVector) && (word at_type.0 1 == 3)) (or_left (not ((is at_type.0.op code.TypeVector) && (word at_type.0 1 == 3))) (is_no_uint Gs (word at_type.0 0)) off)))

          by_value : (q : Option ℕ) → option_map_or (λ b. not (is_among inputs b) || is_pointee Gs (is_other_input_type Gs b) g) q true ≡ false → (is at_type.0.op code.TypeInt ≡ true) ⊎ (is at_type.0.op code.TypeVector ≡ true)
          by_value None off = cc
          by_value (Some b) off =
              let of_type : is_other_input_type Gs b at_type.0 ≡ false = ap (λ q. option_map_or (is_other_input_type Gs b) q false) (sym pointed) ∙ or_right (not (is_among inputs b)) (is_pointee Gs (is_other_input_type Gs b) g) off in
              by_built (b == built_in_number built.LocalInvocationIndex) of_type

      pub input_root : Root g.result ty t
      input_root = record {
        members = record {
          shaped = shaped;
          own = λ h at on k x arg. clash (sym on ∙ (ap (λ (y : Inst). is y.op code.TypeStruct) (same_Some h at_type.0 (sym at ∙ at_type.1)) ∙ (no_composite at_type.0.op plain_type).1));
          parts = λ k v at n has. clash (sym (composite_of Gs ty t n shaped (elem_free t k v n at has)) ∙ (ap (λ (q : Option Inst). option_map_or (λ (y : Inst). is_composite_type y.op) q false) at_type.1 ∙ (no_composite at_type.0.op plain_type).0));
        };
        named = subst (λ (q : Option Expr). W.value (option_map_or name_in q (text_of Found (Id (id g.result))))) (sym read)
            (built_value Gs Found u.lawful names structs (built_in_text (unwrap_or (value_of s.of.heads g.result (decoration_number decoration.BuiltIn)) 0)) (input_among (built_in_of_number (unwrap_or (value_of s.of.heads g.result (decoration_number decoration.BuiltIn)) 0))));
      }
        where
          read : Where.setting.global g.result ≡ Some (name (built_in_text (unwrap_or (value_of s.of.heads g.result (decoration_number decoration.BuiltIn)) 0)))
          read = ap (option_and_then (global_by (source_of s.of o u.entry) (id_text Found))) found ∙ by_tests (is_constant g) (is_input g) (variable_no_constant g.op on_variable) (and_from (is_variable g) (slice_index g.args 0 == class_number storage.Input) on_variable class)
            where
              by_tests : (a b : Bool) → a ≡ false → b ≡ true → (if a then Some (constant_expr (source_of s.of o u.entry) (id_text Found) g) else (if b then Some (name (built_in_text (unwrap_or (value_of s.of.heads g.result (decoration_number decoration.BuiltIn)) 0))) else None)) ≡ Some (name (built_in_text (unwrap_or (value_of s.of.heads g.result (decoration_number decoration.BuiltIn)) 0)))
              by_tests false true x y = refl
              by_tests true b x y = cc
              by_tests false false x y = cc
