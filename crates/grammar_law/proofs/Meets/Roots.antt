-- Pointers that no chain makes are variables and parameters: they have names, and so have the members of what they lead to.
use Rattle.std.proofs.Common.{◌≡◌, ◌==◌, ◌&&◌, ◌||◌, not, ℕ, Bool, true, false, List, [], ◌∷◌, ◌++◌, flat_map, filter_map, length, map, Option, Some, None, unwrap_or, inl, inr, refl, sym, ap, ◌∙◌, subst, if◌then◌else◌}
use Rattle.std.specs.Prelude.{option_and_then, slice_get, slice_index, slice_index_or, nat_lt}
use Rattle.std.specs.Option.{option_map_or}
use Rattle.std.specs.List.{cons_option}
use Rattle.std.proofs.lemmas.Bool.{and_from, or_left, false_from_ne_true, or_right as second_on}
use Rattle.spv_ops.specs.Opcode.{is, number}
use Rattle.spv_ops.specs.Shape.{shape, is_pure}
use Rattle.spv_ops.specs.Enumerants.{class_number, decoration_number}
use Rattle.spv_ops.specs.declared.Op.{Op}
use Rattle.spv_ops.specs.declared.Op.TheVariants as code
use Rattle.spv_ops.specs.declared.StorageClass.TheVariants as storage
use Rattle.spv_ops.specs.declared.Decoration.TheVariants as decoration
use Rattle.spv_module.specs.Held.{global}
use Rattle.spv_module.specs.Lists.{id}
use Rattle.spv_module.specs.Inst.{has_type}
use Rattle.spv_module.specs.declared.inst.Inst.{Inst}
use Rattle.spv_module.specs.declared.inst.Block.{Block}
use Rattle.spv_module.specs.declared.inst.Function.{Function}
use Rattle.spv_types.specs.Tree.{Tree}
use Rattle.spv_types.specs.Types.{type_tree}
use Rattle.spv_decor.specs.Rows.{word, value_of}
use Rattle.spv_decor.specs.Decorations.{local_insts}
use Rattle.spv_index.specs.Locals.{insts_of, type_in}
use Rattle.spv_index.specs.Pointers.{pointee}
use Rattle.spv_index.specs.BlockStructs.{is_block_struct, is_some_block}
use Rattle.profile_rules.specs.Places.{is_among, is_variable, body_insts}
use Rattle.profile_rules.specs.TypeForm.{parts_of, pointee_by, pointees, value_types, signature_types, block_misuses}
use Rattle.conformance.specs.Rules.{Options}
use Rattle.list_law.proofs.Numbers.{same_number, number_same}
use Rattle.list_law.proofs.Tests.{or_true}
use Rattle.plan_law.proofs.Order.{among_left as insts_left, among_right as insts_right}
use Rattle.module_semantics.specs.Setting.{Setting}
use Rattle.name_alloc.specs.declared.claims.Key.TheVariants.{Id}
use Rattle.name_alloc.specs.Naming.{name_of}
use Rattle.glsl_ast.specs.Tree.{Expr, TranslationUnit, name}
use Rattle.text_rules.specs.Printed.{has_operand, written_types, is_written_variable, is_declared_constant, is_private, is_workgroup, is_block_variable}
use Rattle.text_items.specs.Globals.{global_by, is_input, built_in_text}
use Rattle.expr_forward.specs.Scope.{Scope}
use Rattle.expr_forward.specs.Paths.{name_in, base_text}
use Rattle.function_plan.specs.Planned.{has_name_by, is_reached_node}
use Rattle.function_plan.specs.Phis.{is_gone}
use Rattle.function_text.specs.Functions.{FunctionPlan, written}
use Rattle.unit_rules.specs.Translation.{Naming, text_of, id_text}
use Rattle.unit_rules.specs.Unit.{source_of, IsUnitOf, claims_by}
use Rattle.claim_law.specs.Uses.{Words}
use Rattle.text_rules.specs.Constants.{is_constant, constant_expr}
use Rattle.typed_law.specs.Conforms.{IsConforming}
use Rattle.typed_law.proofs.Rules.{function_class}
use Rattle.typed_law.proofs.Used.{among_left, among_right as ids_right}
use Rattle.typed_law.proofs.Values.{inside, among_functions, typed_result}
use Rattle.claim_law.specs.Claimed.{IsIn, IsOf}
use Rattle.claim_law.proofs.Claim.Listed.{in_flat, at_place}
use Rattle.claim_law.proofs.Claim.Variables.{variable_no_constant, written_in, variable_named}
use Rattle.grammar_law.specs.Words.{words_of, AreOfStructs}
use Rattle.grammar_law.proofs.Unit.Lists.{as_in, as_among}
use Rattle.grammar_law.proofs.Unit.Ways.{HaveKinds, S, F, R, V, written_is, in_module, ordered, plan_is}
use Rattle.grammar_law.proofs.Unit.Free.{misused_free}
use Rattle.grammar_law.proofs.Unit.Structs.{Written, HasNames, written_names}
use Rattle.grammar_law.proofs.Unit.TypesWritten.{global_type_written, live_type_written}
use Rattle.grammar_law.proofs.Unit.Steps.{named_members}
use Rattle.grammar_law.proofs.Unit.Sets.{own_text, formed_text}
use Rattle.grammar_law.proofs.Unit.Indexes.{value_other}
use Rattle.grammar_law.proofs.Unit.Places.{IsRoot}
use Rattle.structure_rules.specs.declared.graph.Node.{Node}
use Rattle.structure_rules.specs.Graph.{nth}
use Rattle.hoist_plan.specs.declared.form.Form.{Form}
use Rattle.hoist_plan.specs.declared.form.Form.TheVariants.{Local, Hoisted}
use Rattle.hoist_plan.specs.Plan.{mentions_of}
use Rattle.plan_law.specs.InOrder.{IsAmong}
use Rattle.grammar_law.proofs.Meets.LiveOrGone.{live_form}

-- variables of these classes are no blocks
function_no_block : (heads : List Inst) (n : ℕ) → is_block_struct heads (class_number storage.Function) n ≡ false
function_no_block heads n = refl

private_no_block : (heads : List Inst) (n : ℕ) → is_block_struct heads (class_number storage.Private) n ≡ false
private_no_block heads n = refl

workgroup_no_block : (heads : List Inst) (n : ℕ) → is_block_struct heads (class_number storage.Workgroup) n ≡ false
workgroup_no_block heads n = refl

no_block : (heads gs : List Inst) (v : Inst) (c : ℕ) → slice_index v.args 0 ≡ c → ((n : ℕ) → is_block_struct heads c n ≡ false) → is_some_block heads gs v ≡ false
no_block heads gs v c class none = by_pointee (pointee gs v.ty)
  where
    by_pointee : (q : Option ℕ) → option_map_or (is_block_struct heads (slice_index v.args 0)) q false ≡ false
    by_pointee None = refl
    by_pointee (Some n) = ap (λ (k : ℕ). is_block_struct heads k n) class ∙ none n

-- what a variable points to is among the pointees
pointee_in : (gs : List Inst) (test : Inst → Bool) (is : List Inst) (v : Inst) (ty : ℕ) → IsIn v is → pointee_by gs test v ≡ Some ty → is_among (filter_map (pointee_by gs test) is) ty ≡ true
pointee_in gs test [] v ty there e = absurd there
pointee_in gs test (x ∷ is) v ty (inl same) e =
    subst (λ (q : Option ℕ). is_among (cons_option q (filter_map (pointee_by gs test) is)) ty ≡ true) (sym (ap (pointee_by gs test) same ∙ e))
    (or_left (ty == ty) (is_among (filter_map (pointee_by gs test) is) ty) (number_same ty ty refl))
pointee_in gs test (x ∷ is) v ty (inr there) e = by_option (pointee_by gs test x) (pointee_in gs test is v ty there e)
  where
    by_option : (q : Option ℕ) → is_among (filter_map (pointee_by gs test) is) ty ≡ true → is_among (cons_option q (filter_map (pointee_by gs test) is)) ty ≡ true
    by_option None e = e
    by_option (Some x) e = second_on (x == ty) (is_among (filter_map (pointee_by gs test) is) ty) e

pub named_variable : (x : Form) (reached : Bool) → has_name_by x reached true ≡ true
named_variable Hoisted reached = refl
named_variable Local reached = or_true reached
named_variable x reached = refl

pub variable_impure : (o : Op) → is o code.Variable ≡ true → is_pure o ≡ false
unfolding number shape
variable_impure code.Variable on = refl
variable_impure o on = cc

module _ (s : Setting) (entry : Option (List ℕ)) (right : IsConforming s.of entry) (kinds : HaveKinds s.of.globals) (o : Options) (unit : TranslationUnit) (u : IsUnitOf s.of o unit) (p : FunctionPlan) (among : IsIn p u.plans) (names : List (List ℕ)) (structs : AreOfStructs s.of.globals (name_of u.claimed) names) where
  abbrev Gs : List Inst
  Gs = s.of.globals

  abbrev Found : Naming
  Found = name_of u.claimed

  abbrev Fn : Function
  Fn = F s entry right kinds o unit u p among

  abbrev Marks : List Bool
  Marks = R s entry right kinds o unit u p among

  abbrev Where : Scope
  Where = V s entry right kinds o unit u p among

  abbrev T : ℕ → Option ℕ
  T = type_in s.of.globals Fn

  abbrev W : Words
  W = words_of s.of.globals (name_of u.claimed) names

  abbrev Root : ℕ → ℕ → Tree → Type 0
  Root = IsRoot s entry right kinds o unit u p among names structs

  abbrev Types : List ℕ
  Types = written_types (source_of s.of o u.entry) (Written s.of o unit u)

  -- what is no global is read by its own name
  pub own_base : (n : ℕ) → Where.setting.global n ≡ None → W.value (text_of Found (Id (id n))) → W.value (base_text Where.setting n)
  own_base n none named = subst (λ (q : Option Expr). W.value (option_map_or name_in q (text_of Found (Id (id n))))) (sym none) named

  local_none : (n : ℕ) → global Gs n ≡ None → Where.setting.global n ≡ None
  local_none n none = ap (option_and_then (global_by (source_of s.of o u.entry) (id_text Found))) none

  -- nor is a variable that is not built in
  pub unread_variable : (g : Inst) → global Gs g.result ≡ Some g → is_variable g ≡ true → is_input g ≡ false → Where.setting.global g.result ≡ None
  unread_variable g found variable input = ap (option_and_then (global_by (source_of s.of o u.entry) (id_text Found))) found ∙ by_tests (is_constant g) (is_input g) (variable_no_constant g.op variable) input
    where
      by_tests : (a b : Bool) → a ≡ false → b ≡ false → (if a then Some (constant_expr (source_of s.of o u.entry) (id_text Found) g) else (if b then Some (name (built_in_text (unwrap_or (value_of s.of.heads g.result (decoration_number decoration.BuiltIn)) 0))) else None)) ≡ None
      by_tests false false x y = refl
      by_tests true b x y = cc
      by_tests false true x y = cc

  -- the structs in what a variable points to, where its type is written
  pointee_names : (v : Inst) (ty : ℕ) (t : Tree) → IsIn v (body_insts s.of) → is_variable v ≡ true → is_some_block s.of.heads Gs v ≡ false → pointee Gs v.ty ≡ Some ty → type_tree Gs ty ≡ Some t → IsIn v.ty Types → HasNames s.of o unit u t
  pointee_names v ty t there on off points shaped listed =
      let test : Inst → Bool = λ v. not (is_some_block s.of.heads Gs v) in
      let own : pointee_by Gs test v ≡ Some ty = ap (λ (b : Bool). if b then pointee Gs v.ty else None) (and_from (is_variable v) (test v) on (ap not off)) ∙ points in
      let misused : is_among (block_misuses s.of) ty ≡ true =
      among_left (flat_map parts_of Gs ++ pointees s.of test ++ value_types s.of) (signature_types s.of) ty
      (among_left (flat_map parts_of Gs ++ pointees s.of test) (value_types s.of) ty (ids_right (flat_map parts_of Gs) (pointees s.of test) ty (pointee_in Gs test (body_insts s.of) v ty there own))) in
      written_names s.of o unit u entry right v.ty ty t listed (ap (λ (q : Option ℕ). option_map_or (λ x. x) q v.ty) points) shaped (misused_free s.of entry right ty t misused shaped)

  -- a variable of the function
  module _ (c : ℕ) (holder : Block) (j : Inst) (there : slice_get Fn.blocks c ≡ Some holder) (inside_it : IsIn j holder.insts) (on : is j.op code.Variable ≡ true) (here : slice_index_or Marks c false ≡ true) (has : has_type j.op ≡ true) where
    stands : IsIn j (insts_of Fn)
    stands = in_flat (λ (b : Block). b.insts) Fn.blocks holder j (at_place Fn.blocks c holder there) inside_it

    made : j.result ≡ 0 → ⊥
    made = ((inside s entry right Fn (in_module s entry right kinds o unit u p among)).formed j (as_among (insts_of Fn) j stands)).result (typed_result j.op has)

    -- P13
    local : IsAmong j (local_insts s.of)
    local = among_functions s.of.functions Fn j (in_module s entry right kinds o unit u p among) (as_among (insts_of Fn) j stands)

    of_function : word j 0 ≡ class_number storage.Function
    of_function = function_class s.of entry right j local on

    of_it : IsOf (claims_by (S s entry right kinds o unit u p among) p) j
    of_it = record { number = c; block = holder; there = subst (λ (f : Function). slice_get f.blocks c ≡ Some holder) (sym (written_is s entry right kinds o unit u p among)) there; among = inside_it }

    type_listed : IsIn j.ty Types
    unfolding of_it
    type_listed = live_type_written s.of o unit u p among j of_it (ap (λ (g : List Node). slice_index_or (map is_reached_node g) c false) (plan_is s entry right kinds o unit u p among).graph_is ∙ here) kept
      where
        kept : is_gone (p.scope.form j.result) ≡ false
        kept =
            ap (λ (w : Scope). is_gone (w.form j.result)) (plan_is s entry right kinds o unit u p among).scope_is
            ∙ live_form s entry right kinds o unit u p among c holder j there inside_it true (or_left (not (is_pure j.op)) (nat_lt 0 (length (mentions_of (plan_is s entry right kinds o unit u p among).links j.result))) (ap not (variable_impure j.op on))) made

    pub variable_root : (ty : ℕ) (t : Tree) → pointee Gs j.ty ≡ Some ty → type_tree Gs ty ≡ Some t → Root j.result ty t
    variable_root ty t points shaped = record {
      members = named_members s entry right Fn o unit u names Where.setting.global ty t shaped
          (pointee_names j ty t (as_in (body_insts s.of) j (insts_right j Gs (local_insts s.of) local)) on (no_block s.of.heads Gs j (class_number storage.Function) of_function (function_no_block s.of.heads)) points shaped type_listed);
      named = own_base j.result (local_none j.result ((ordered s entry right kinds o unit u p among).own j (as_among (insts_of Fn) j stands) made).inside)
          (formed_text s entry right kinds o unit u p among names structs c holder j there inside_it made (Where.form j.result) refl
          (ap (has_name_by (Where.form j.result) (nth p.graph c).reached) on ∙ named_variable (Where.form j.result) (nth p.graph c).reached));
    }

  -- a variable of the module, of class Private or Workgroup
  module _ (g : Inst) (g_in : IsIn g Gs) (i : Inst) (i_in : IsIn i (insts_of Fn)) (operand : has_operand i g.result ≡ true) (found : global Gs g.result ≡ Some g) (class : ((is_private g || is_workgroup g) ≡ true)) (typed_is : T g.result ≡ Some g.ty) where
    on_variable : is_variable g ≡ true
    on_variable = either_left (is_variable g) (slice_index g.args 0 == class_number storage.Private) (slice_index g.args 0 == class_number storage.Workgroup) class
      where
        either_left : (v a b : Bool) → ((v && a) || (v && b)) ≡ true → v ≡ true
        either_left true a b e = refl
        either_left false a b e = cc

    of_class : (is_private g || (is_workgroup g || is_block_variable g)) ≡ true
    of_class = more (is_private g) (is_workgroup g) (is_block_variable g) class
      where
        more : (a b c : Bool) → (a || b) ≡ true → (a || (b || c)) ≡ true
        more true b c e = refl
        more false true c e = refl
        more false false c e = cc

    no_block_class : is_some_block s.of.heads Gs g ≡ false
    no_block_class = by_class (slice_index g.args 0 == class_number storage.Private) refl (slice_index g.args 0 == class_number storage.Workgroup) refl (either_right (is_variable g) (slice_index g.args 0 == class_number storage.Private) (slice_index g.args 0 == class_number storage.Workgroup) class)
      where
        either_right : (v a b : Bool) → ((v && a) || (v && b)) ≡ true → (a || b) ≡ true
        either_right true a b e = e
        either_right false a b e = cc

        by_class : (a : Bool) → (slice_index g.args 0 == class_number storage.Private) ≡ a → (b : Bool) → (slice_index g.args 0 == class_number storage.Workgroup) ≡ b → (a || b) ≡ true → is_some_block s.of.heads Gs g ≡ false
        by_class true is_it b other e = no_block s.of.heads Gs g (class_number storage.Private) (same_number (slice_index g.args 0) (class_number storage.Private) is_it) (private_no_block s.of.heads)
        by_class false is_it true other e = no_block s.of.heads Gs g (class_number storage.Workgroup) (same_number (slice_index g.args 0) (class_number storage.Workgroup) other) (workgroup_no_block s.of.heads)
        by_class false is_it false other e = cc

    listed_function : IsIn i (insts_of (written p))
    listed_function = subst (λ (f : Function). IsIn i (insts_of f)) (sym (written_is s entry right kinds o unit u p among)) i_in

    written_so : is_written_variable (Written s.of o unit u) g ≡ true
    written_so = written_in s.of o unit u p i g among listed_function operand of_class

    unread : Where.setting.global g.result ≡ None
    unread = unread_variable g found on_variable input_off
      where
        input_off : is_input g ≡ false
        input_off = by_class (is_variable g) (slice_index g.args 0) class
          where
            by_class : (v : Bool) (c : ℕ) → ((v && (c == class_number storage.Private)) || (v && (c == class_number storage.Workgroup))) ≡ true → (v && (c == class_number storage.Input)) ≡ false
            by_class false c e = refl
            by_class true c e = false_from_ne_true (c == class_number storage.Input) (λ input. apart (same_number c (class_number storage.Input) input))
              where
                apart : c ≡ class_number storage.Input → ⊥
                apart same = never (sym (subst (λ (n : ℕ). ((n == class_number storage.Private) || (n == class_number storage.Workgroup)) ≡ true) same e))
                  where
                    never : true ≡ ((class_number storage.Input == class_number storage.Private) || (class_number storage.Input == class_number storage.Workgroup)) → ⊥
                    never x = cc

    pub outer_root : (ty : ℕ) (t : Tree) → pointee Gs g.ty ≡ Some ty → type_tree Gs ty ≡ Some t → Root g.result ty t
    outer_root ty t points shaped = record {
      members = named_members s entry right Fn o unit u names Where.setting.global ty t shaped
          (pointee_names g ty t (as_in (body_insts s.of) g (insts_left g Gs (local_insts s.of) (as_among Gs g g_in))) on_variable no_block_class points shaped
          (global_type_written s.of o unit u g g_in (or_left (is_written_variable (Written s.of o unit u) g) (is_declared_constant (source_of s.of o u.entry) (Written s.of o unit u) g) written_so)));
      named = own_base g.result unread
          (own_text s entry right kinds o unit u p among names structs (Id (id g.result)) (variable_named s.of o unit u p i g g.result among listed_function operand found of_class) refl
          (value_other s entry right kinds o unit u p among names structs g.result g.ty typed_is));
    }
