-- Each pointer that no chain makes, and that a live instruction mentions, has a name, and so have the members of what it leads to.
use Rattle.std.proofs.Common.{◌≡◌, ◌==◌, ◌&&◌, ◌||◌, not, ℕ, Bool, true, false, List, Contains, Option, Some, refl, sym, ap, ◌∙◌, subst}
use Rattle.std.specs.Prelude.{slice_get, slice_index, slice_index_or}
use Rattle.std.specs.List.{enumerate_from}
use Rattle.std.proofs.lemmas.List.Elements.{Contains-append_left}
use Rattle.std.proofs.lemmas.Bool.{and_from, or_left as first_on, not-false, or_right as second_on}
use Rattle.spv_ops.specs.Opcode.{is}
use Rattle.spv_ops.specs.OpGroups.{group_of}
use Rattle.spv_ops.specs.Operands.{is_id}
use Rattle.spv_ops.specs.Enumerants.{class_number}
use Rattle.spv_ops.specs.declared.Op.TheVariants as code
use Rattle.spv_ops.specs.declared.StorageClass.TheVariants as storage
use Rattle.spv_module.specs.Held.{global}
use Rattle.spv_module.specs.declared.inst.Inst.{Inst}
use Rattle.spv_module.specs.declared.inst.Block.{Block}
use Rattle.spv_module.specs.declared.inst.Function.{Function}
use Rattle.spv_types.specs.Tree.{Tree}
use Rattle.spv_types.specs.Types.{type_tree}
use Rattle.spv_decor.specs.Rows.{word}
use Rattle.spv_decor.specs.Decorations.{local_insts}
use Rattle.spv_index.specs.Locals.{insts_of, type_in}
use Rattle.spv_index.specs.Pointers.{pointee, pointee_of}
use Rattle.profile_rules.specs.Places.{places, is_among, is_variable}
use Rattle.profile_rules.specs.Variables.{classes, is_other_class, is_misclassed}
use Rattle.conformance.specs.Rules.{Options}
use Rattle.list_law.proofs.Numbers.{same_number, number_same}
use Rattle.list_law.proofs.Tests.{clash}
use Rattle.plan_law.specs.InOrder.{IsAmong}
use Rattle.module_semantics.specs.Setting.{Setting}
use Rattle.use_chains.specs.Slots.{is_value, is_taken, is_base, is_slot}
use Rattle.name_alloc.specs.Naming.{name_of}
use Rattle.glsl_ast.specs.Tree.{TranslationUnit}
use Rattle.text_rules.specs.Printed.{has_operand, is_private, is_workgroup}
use Rattle.function_text.specs.Functions.{FunctionPlan}
use Rattle.unit_rules.specs.Unit.{IsUnitOf}
use Rattle.global_law.specs.Chains.{NoneMakes}
use Rattle.typed_law.specs.Conforms.{IsConforming}
use Rattle.typed_law.proofs.Lists.{some_part, and_left, and_right, and_off, or_left, or_right, none_at_fault}
use Rattle.claim_law.specs.Claimed.{IsIn}
use Rattle.claim_law.proofs.Claim.Listed.{in_flat, any_in, at_place}
use Rattle.grammar_law.specs.Mentioned.{IsLinked}
use Rattle.grammar_law.specs.Words.{AreOfStructs}
use Rattle.grammar_law.proofs.Unit.Lists.{as_among, in_block, numbered_first, as_parameter}
use Rattle.grammar_law.proofs.Unit.Ways.{HaveKinds, F, R, in_module}
use Rattle.grammar_law.proofs.Unit.Places.{IsRoot}
use Rattle.grammar_law.proofs.Unit.ResultShapes.{stands_inside}
use Rattle.grammar_law.proofs.Meets.PointerStarts.{IsStart, outside, lent, own, pointer_start}
use Rattle.grammar_law.proofs.Meets.Roots.{variable_root, outer_root}
use Rattle.grammar_law.proofs.Meets.OuterRoots.{parameter_root, block_root, input_root}

module _ (s : Setting) (entry : Option (List ℕ)) (right : IsConforming s.of entry) (kinds : HaveKinds s.of.globals) (o : Options) (unit : TranslationUnit) (u : IsUnitOf s.of o unit) (p : FunctionPlan) (among : IsIn p u.plans) (names : List (List ℕ)) (structs : AreOfStructs s.of.globals (name_of u.claimed) names) where
  abbrev Gs : List Inst
  Gs = s.of.globals

  abbrev Fn : Function
  Fn = F s entry right kinds o unit u p among

  abbrev Marks : List Bool
  Marks = R s entry right kinds o unit u p among

  abbrev T : ℕ → Option ℕ
  T = type_in s.of.globals Fn

  abbrev Root : ℕ → ℕ → Tree → Type 0
  Root = IsRoot s entry right kinds o unit u p among names structs

  in_it : Contains s.of.functions Fn
  in_it = in_module s entry right kinds o unit u p among

  -- P13
  class_of_global : (g : Inst) → IsAmong g Gs → is_variable g ≡ true → (is_among classes (word g 0) ≡ true) × ((word g 0 == class_number storage.Function) ≡ false)
  class_of_global g there on =
      let none = none_at_fault (is_misclassed false Gs) Gs g (λ at has. right.declared.1.1.1.1.1.1.1.1.0 at (Contains-append_left (places (is_misclassed false Gs) Gs) (places (is_misclassed true Gs) (local_insts s.of)) at has)) there in
      let off = and_off (is_variable g) (is_other_class Gs g || (word g 0 == class_number storage.Function)) none on in
      (not-false (is_among classes (word g 0)) (or_left (not (is_among classes (word g 0))) _ (or_left (is_other_class Gs g) (word g 0 == class_number storage.Function) off)), or_right (is_other_class Gs g) (word g 0 == class_number storage.Function) off)

  module _ (inner : (i : Inst) → IsIn i (insts_of Fn) → stands_inside (group_of i.op) ≡ true) (first : (c : ℕ) (b : Block) (i : Inst) → slice_get Fn.blocks c ≡ Some b → IsIn i b.insts → is i.op code.Variable ≡ true → slice_index_or Marks c false ≡ true) where
    module _ (n ty : ℕ) (t : Tree) (none : NoneMakes n (insts_of Fn)) (c : ℕ) (i : Inst) (m : IsLinked Fn Marks c i n) (shaped : type_tree Gs ty ≡ Some t) where
      holder : (b : Block) × (slice_get Fn.blocks c ≡ Some b) × (slice_get b.insts m.place ≡ Some i)
      holder = some_part (λ (b : Block). slice_get b.insts m.place) (slice_get Fn.blocks c) i m.there

      user_in : IsIn i (insts_of Fn)
      user_in = in_flat (λ (b : Block). b.insts) Fn.blocks holder.0 i (at_place Fn.blocks c holder.0 holder.1) (at_place holder.0.insts m.place i holder.2)

      operand : has_operand i n ≡ true
      operand =
          let slot = and_right (slice_index_or Marks c false || is_base i m.arg) (is_slot Fn Marks i m.arg) m.slot in
          let names_id = and_left (is_id i.op i.args m.arg) (is_value i.op m.arg && is_taken Fn Marks i m.arg) slot in
          any_in (λ (q : ℕ × ℕ). is_id i.op i.args q.0 && (q.1 == n)) (enumerate_from 0 i.args) (m.arg, n) (numbered_first i.args m.arg n m.word) (and_from (is_id i.op i.args m.arg) (n == n) names_id (number_same n n refl))

      -- a variable of the module, by its class
      module _ (g : Inst) (g_in : IsIn g Gs) (found : global Gs g.result ≡ Some g) (result : g.result ≡ n) (on : is_variable g ≡ true) (points : pointee Gs g.ty ≡ Some ty) (typed_is : T g.result ≡ Some g.ty) where
        operand_of : has_operand i g.result ≡ true
        operand_of = subst (λ (k : ℕ). has_operand i k ≡ true) (sym result) operand

        of_private : slice_index g.args 0 ≡ class_number storage.Private → Root g.result ty t
        of_private class =
            outer_root s entry right kinds o unit u p among names structs g g_in i user_in operand_of found
            (first_on (is_private g) (is_workgroup g) (and_from (is_variable g) (slice_index g.args 0 == class_number storage.Private) on (number_same (slice_index g.args 0) (class_number storage.Private) class))) typed_is ty t points shaped

        of_workgroup : slice_index g.args 0 ≡ class_number storage.Workgroup → Root g.result ty t
        of_workgroup class =
            outer_root s entry right kinds o unit u p among names structs g g_in i user_in operand_of found
            (second_on (is_private g) (is_workgroup g) (and_from (is_variable g) (slice_index g.args 0 == class_number storage.Workgroup) on (number_same (slice_index g.args 0) (class_number storage.Workgroup) class))) typed_is ty t points shaped

        of_block : ((slice_index g.args 0 == class_number storage.Uniform) || (slice_index g.args 0 == class_number storage.PushConstant) || (slice_index g.args 0 == class_number storage.StorageBuffer)) ≡ true → Root g.result ty t
        of_block class = block_root s entry right kinds o unit u p among names structs g g_in i user_in operand_of found on ty t points shaped (and_from (is_variable g) _ on class) typed_is

        of_input : slice_index g.args 0 ≡ class_number storage.Input → Root g.result ty t
        of_input class = input_root s entry right kinds o unit u p among names structs g g_in i user_in operand_of found on ty t points shaped (number_same (slice_index g.args 0) (class_number storage.Input) class)

        abbrev C : ℕ
        C = slice_index g.args 0

        is_it : (k : ℕ) → (k == C) ≡ true → C ≡ k
        is_it k e = sym (same_number k C e)

        left_test : (a b d : Bool) → a ≡ true → (a || b || d) ≡ true
        left_test true b d e = refl
        left_test false b d e = cc

        mid_test : (a b d : Bool) → b ≡ true → (a || b || d) ≡ true
        mid_test true true d e = refl
        mid_test false true d e = refl
        mid_test a false d e = cc

        last_test : (a b d : Bool) → d ≡ true → (a || b || d) ≡ true
        last_test true b true e = refl
        last_test false true true e = refl
        last_test false false true e = refl
        last_test a b false e = cc

        by_class : (a b d e f g' h : Bool) → (class_number storage.Input == C) ≡ a → (class_number storage.Uniform == C) ≡ b → (class_number storage.Workgroup == C) ≡ d → (class_number storage.Private == C) ≡ e → (class_number storage.Function == C) ≡ f → (class_number storage.PushConstant == C) ≡ g' → (class_number storage.StorageBuffer == C) ≡ h
            → (a || (b || (d || (e || (f || (g' || (h || false))))))) ≡ true → (C == class_number storage.Function) ≡ false → Root g.result ty t
        by_class true b d e f g' h ea eb ed ee ef eg eh some off = of_input (is_it (class_number storage.Input) ea)
        by_class false true d e f g' h ea eb ed ee ef eg eh some off = of_block (left_test (C == class_number storage.Uniform) (C == class_number storage.PushConstant) (C == class_number storage.StorageBuffer) (number_same C (class_number storage.Uniform) (is_it (class_number storage.Uniform) eb)))
        by_class false false true e f g' h ea eb ed ee ef eg eh some off = of_workgroup (is_it (class_number storage.Workgroup) ed)
        by_class false false false true f g' h ea eb ed ee ef eg eh some off = of_private (is_it (class_number storage.Private) ee)
        by_class false false false false true g' h ea eb ed ee ef eg eh some off = clash (sym (number_same C (class_number storage.Function) (is_it (class_number storage.Function) ef)) ∙ off)
        by_class false false false false false true h ea eb ed ee ef eg eh some off = of_block (mid_test (C == class_number storage.Uniform) (C == class_number storage.PushConstant) (C == class_number storage.StorageBuffer) (number_same C (class_number storage.PushConstant) (is_it (class_number storage.PushConstant) eg)))
        by_class false false false false false false true ea eb ed ee ef eg eh some off = of_block (last_test (C == class_number storage.Uniform) (C == class_number storage.PushConstant) (C == class_number storage.StorageBuffer) (number_same C (class_number storage.StorageBuffer) (is_it (class_number storage.StorageBuffer) eh)))
        by_class false false false false false false false ea eb ed ee ef eg eh some off = cc

        variable_of_module : Root g.result ty t
        variable_of_module =
            let w = class_of_global g (as_among Gs g g_in) on in
            by_class (class_number storage.Input == C) (class_number storage.Uniform == C) (class_number storage.Workgroup == C) (class_number storage.Private == C) (class_number storage.Function == C) (class_number storage.PushConstant == C) (class_number storage.StorageBuffer == C) refl refl refl refl refl refl refl w.0 w.1

      pub pointer_root : pointee_of Gs Fn n ≡ Some ty → Root n ty t
      pointer_root points = by_start (pointer_start s entry right kinds o unit u p among inner n ty none points)
        where
          by_start : IsStart s entry right kinds o unit u p among inner n ty none → Root n ty t
          by_start (outside g g_in result at on points typed_is) = subst (λ (k : ℕ). Root k ty t) result (variable_of_module g g_in (ap (global Gs) result ∙ at) result on points (ap T result ∙ typed_is))
          by_start (lent q q_in result points typed_is) = subst (λ (k : ℕ). Root k ty t) result (parameter_root s entry right kinds o unit u p among names structs q q_in (as_parameter q Fn.params q_in) ty t points shaped (ap T result ∙ typed_is))
          by_start (own j j_in result on has points) =
              let at = in_block Fn.blocks j j_in in
              subst (λ (k : ℕ). Root k ty t) result (variable_root s entry right kinds o unit u p among names structs at.0 at.1 j at.2 at.3 on (first at.0 at.1 j at.2 at.3 on) has ty t points shaped)
