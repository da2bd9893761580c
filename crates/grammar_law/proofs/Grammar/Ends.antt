-- The condition or the selector by which a block ends, and the value that it returns, are values of the block: so their expressions are made of declared words.
use Rattle.std.proofs.Common.{◌≡◌, ◌≤◌, ◌<◌, ◌^◌, ◌+◌, drop, ◌&&◌, ◌||◌, not, ℕ, Bool, true, false, List, length, Option, Some, None, Contains, refl, sym, ap, ◌∙◌, subst, arith}
use Rattle.std.specs.Prelude.{option_and_then, slice_get, slice_index, nat_lt, if◌then◌else◌}
use Rattle.std.specs.Option.{option_map_or}
use Rattle.std.specs.List.{list_any}
use Rattle.std.proofs.lemmas.Bool.{and_from, not-false}
use Rattle.spv_ops.specs.Opcode.{is, number}
use Rattle.spv_ops.specs.OpGroups.{group_of, takes_of}
use Rattle.spv_ops.specs.Operands.{is_id}
use Rattle.spv_ops.specs.Shape.{shape, is_pure, count_of}
use Rattle.spv_ops.specs.Groups.{is_terminator}
use Rattle.spv_ops.specs.declared.Op.{Op}
use Rattle.spv_ops.specs.declared.Op.TheVariants as code
use Rattle.spv_module.specs.Inst.{has_type, has_result}
use Rattle.spv_module.specs.State.{ModuleState}
use Rattle.spv_module.specs.declared.inst.Inst.{Inst}
use Rattle.spv_module.specs.declared.inst.Block.{Block}
use Rattle.spv_module.specs.declared.inst.Function.{Function}
use Rattle.spv_module.specs.declared.tree.Elem.{Elem}
use Rattle.spv_module.specs.declared.tree.Elem.TheVariants as elem
use Rattle.spv_types.specs.Tree.{Tree}
use Rattle.spv_types.specs.Types.{type_tree}
use Rattle.spv_decor.specs.Rows.{word}
use Rattle.spv_index.specs.Locals.{insts_of, type_in}
use Rattle.structure_rules.specs.declared.graph.Node.{Node}
use Rattle.structure_rules.specs.Graph.{terminator, exit_of, exit_by, graph, nth, is_conditional, is_switch}
use Rattle.profile_rules.specs.declared.needs.Need.TheVariants.{Value, AnyType}
use Rattle.profile_rules.specs.FlowRules.{breaks_t24_value, has_repeat, every_second}
use Rattle.profile_rules.specs.Operands.{need, suits, is_there, is_there_in}
use Rattle.profile_rules.specs.TypeForm.{is_other_pointer, is_other_parameter, is_other_result, is_other_function}
use Rattle.profile_rules.specs.TypeRows.{is_bool, is_int, is_void, fails, value_fails, is_other}
use Rattle.profile_rules.specs.TypeRules.{is_flow_broken}
use Rattle.spv_index.specs.ValueTypes.{is_no_value_type}
use Rattle.spv_types.specs.Types.{earlier}
use Rattle.conformance.specs.Rules.{Options}
use Rattle.module_semantics.specs.Setting.{Setting}
use Rattle.use_chains.specs.Slots.{is_value, is_taken, is_label_reached}
use Rattle.glsl_ast.specs.Tree.{TranslationUnit}
use Rattle.glsl_ast.specs.declared.expressions.Literal.TheVariants.{Int, Hex}
use Rattle.glsl_grammar.specs.Spelled.{FitsWord, IsSpelledLiteral}
use Rattle.expr_forward.specs.Scope.{Scope}
use Rattle.expr_forward.specs.Values.{value}
use Rattle.function_text.specs.Functions.{FunctionPlan, operand_in, first_operand, returned_by, returned, case_by}
use Rattle.unit_rules.specs.Unit.{IsUnitOf}
use Rattle.block_graph.proofs.Within.{graph_sized}
use Rattle.nest_place.proofs.Outward.{reached_inside}
use Rattle.list_law.proofs.Lists.{index_get}
use Rattle.function_law.proofs.Nodes.{node_is}
use Rattle.fits_law.specs.State.{value_shape}
use Rattle.plan_law.specs.InOrder.{IsAmong}
use Rattle.typed_law.specs.Conforms.{IsConforming}
use Rattle.typed_law.proofs.Lists.{and_off, or_left, or_right, some_by, earlier_some}
use Rattle.typed_law.proofs.Rules.{operand_there, global_there, pointed_type, value_right, number_right, flow_right}
use Rattle.typed_law.proofs.Types.{row_is}
use Rattle.typed_law.proofs.Values.{function_id, function_need, function_least, bool_shaped, int_shaped, inside, result_row, declared_by, one_type, same_type, passing, HasType, value_type_has}
use Rattle.typed_law.proofs.Operations.{Facts}
use Rattle.typed_law.proofs.Others.{typed_operand}
use Rattle.claim_law.specs.Claimed.{IsIn}
use Rattle.claim_law.proofs.Claim.Listed.{in_flat, at_place}
use Rattle.claim_law.proofs.Claim.Flags.{at_inside}
use Rattle.grammar_law.specs.Mentioned.{IsMentioned, IsValueIn}
use Rattle.grammar_law.specs.Switches.{Chooses, by_condition, by_selector}
use Rattle.grammar_law.proofs.Unit.Lists.{found_by, as_among}
use Rattle.grammar_law.proofs.Unit.Links.{placed_in}
use Rattle.grammar_law.proofs.Unit.Kept.{shaped_type}
use Rattle.grammar_law.proofs.Unit.Ways.{HaveKinds, F, R, V, in_module, reached_nth}

-- what is known of such opcodes: the value at the end of a block
pub record IsEnd (o : Op) (args : List ℕ) : Type 0 where
  pub impure : is_pure o ≡ false
  pub some : 0 < length args
  pub is_operand : is_id o args 0 ≡ true
  pub mentions : is_value o 0 ≡ true
  pub no_phi : is o code.Phi ≡ false
  pub needs : need o 0 ≡ Value

abbrev AreWords : Op → List ℕ → Type 0
AreWords o args = (shape o).least ≤ 1 + count_of (has_type o) + count_of (has_result o) + length args

branch_end : (o : Op) (args : List ℕ) → is_conditional (exit_of o) ≡ true → AreWords o args → IsEnd o args
unfolding group_of takes_of need is_id shape number
branch_end code.BranchConditional args on least = record { impure = refl; some = (let many : 0 < length args = omega (arith, least) in many); is_operand = refl; mentions = refl; no_phi = refl; needs = refl }
branch_end o args on least = cc

switch_end : (o : Op) (args : List ℕ) → is_switch (exit_of o) ≡ true → AreWords o args → IsEnd o args
unfolding group_of takes_of need is_id shape number
switch_end code.Switch args on least = record { impure = refl; some = (let many : 0 < length args = omega (arith, least) in many); is_operand = refl; mentions = refl; no_phi = refl; needs = refl }
switch_end o args on least = cc

return_end : (o : Op) (args : List ℕ) → is o code.ReturnValue ≡ true → AreWords o args → IsEnd o args
unfolding group_of takes_of need is_id shape number
return_end code.ReturnValue args on least = record { impure = refl; some = (let many : 0 < length args = omega (arith, least) in many); is_operand = refl; mentions = refl; no_phi = refl; needs = refl }
return_end o args on least = cc

-- T23, T24
branch_right : (m : ModuleState) (f : Function) (b : Block) (i : Inst) (o : Op) → is_conditional (exit_of o) ≡ true → is_flow_broken m f b i (group_of o) ≡ false → value_fails is_bool m.globals (type_in m.globals f) (word i 0) ≡ false
unfolding group_of
branch_right m f b i code.BranchConditional on off = off
branch_right m f b i o on off = cc

switch_right : (m : ModuleState) (f : Function) (b : Block) (i : Inst) (o : Op) → is_switch (exit_of o) ≡ true → is_flow_broken m f b i (group_of o) ≡ false → value_fails is_int m.globals (type_in m.globals f) (word i 0) ≡ false
unfolding group_of
switch_right m f b i code.Switch on off = or_left (value_fails is_int m.globals (type_in m.globals f) (word i 0)) (has_repeat (every_second 0 (drop 2 i.args))) off
switch_right m f b i o on off = cc

return_right : (m : ModuleState) (f : Function) (b : Block) (i : Inst) (o : Op) → is o code.ReturnValue ≡ true → is_flow_broken m f b i (group_of o) ≡ false → breaks_t24_value m.globals (type_in m.globals f) f i ≡ false
unfolding group_of number
return_right m f b i code.ReturnValue on off = off
return_right m f b i o on off = cc

no_conditional : is_conditional (exit_by None) ≡ true → ⊥
no_conditional e = cc

no_switch : is_switch (exit_by None) ≡ true → ⊥
no_switch e = cc

-- the literal of a case
pub case_fits : (q : Option Elem) (n : ℕ) → FitsWord n → IsSpelledLiteral (case_by q n)
case_fits (Some elem.Int) n low = by_sign (nat_lt n (2 ^ 31))
  where
    by_sign : (b : Bool) → IsSpelledLiteral (if b then Int n else Hex n)
    by_sign true = low
    by_sign false = low
case_fits (Some elem.Uint) n low = low
case_fits (Some elem.Bool) n low = low
case_fits None n low = low

module _ (s : Setting) (entry : Option (List ℕ)) (right : IsConforming s.of entry) (kinds : HaveKinds s.of.globals) (o : Options) (unit : TranslationUnit) (u : IsUnitOf s.of o unit) (p : FunctionPlan) (among : IsIn p u.plans) where
  abbrev Gs : List Inst
  Gs = s.of.globals

  abbrev Fn : Function
  Fn = F s entry right kinds o unit u p among

  abbrev Marks : List Bool
  Marks = R s entry right kinds o unit u p among

  abbrev Where : Scope
  Where = V s entry right kinds o unit u p among

  abbrev T : ℕ → Option ℕ
  T = type_in s.of.globals Fn

  abbrev Usable : ℕ → ℕ → Type 0
  Usable b n = IsValueIn Where Marks b n

  in_it : Contains s.of.functions Fn
  in_it = in_module s entry right kinds o unit u p among

  -- the end of a reached block
  module _ (b : ℕ) (here : (nth (graph Fn) b).reached ≡ true) where
    holder : (x : Block) × (slice_get Fn.blocks b ≡ Some x)
    holder = at_inside Fn.blocks b (let inside = reached_inside (graph Fn) b here in let size = graph_sized Fn in let low : b < length Fn.blocks = omega (arith, inside, size) in low)

    module _ (i : Inst) (ends : terminator holder.0 ≡ Some i) where
      inside_it : IsIn i holder.0.insts
      inside_it = (found_by (λ (x : Inst). is_terminator x.op) holder.0.insts i ends).0

      i_among : IsAmong i (insts_of Fn)
      i_among = as_among (insts_of Fn) i (in_flat (λ (x : Block). x.insts) Fn.blocks holder.0 i (at_place Fn.blocks b holder.0 holder.1) inside_it)

      first_is : first_operand Fn b ≡ slice_index i.args 0
      first_is = ap (λ (x : Option Block). option_map_or operand_in (option_and_then terminator x) 0) holder.1 ∙ ap (λ (x : Option Inst). option_map_or operand_in x 0) ends

      facts_of : Facts s entry right Fn in_it i i_among i.op
      facts_of = record {
        value = value_right s.of entry right Fn in_it i i_among;
        number = number_right s.of entry right Fn in_it i i_among;
        least = ((inside s entry right Fn in_it).formed i i_among).least;
        most = ((inside s entry right Fn in_it).formed i i_among).most;
        has = operand_there (is_there_in s.of Fn i.at) i ((inside s entry right Fn in_it).order.there i i_among);
      }

      -- its first operand is a value of the block
      module _ (end : IsEnd i.op i.args) where
        has_type_of : HasType s entry right Fn in_it (slice_index i.args 0)
        has_type_of = typed_operand s entry right Fn in_it i i_among i.op facts_of 0 end.some end.is_operand end.needs

        mentioned : IsMentioned Fn Marks b i (slice_index i.args 0)
        mentioned =
            let k = placed_in Fn b holder.0 i holder.1 inside_it in
            record {
              place = k.0;
              arg = 0;
              there = k.1;
              here = reached_nth (graph Fn) b ∙ here;
              live = λ set closed. closed.effects b k.0 i k.1 end.impure;
              slot = and_from (is_id i.op i.args 0) (is_value i.op 0 && is_taken Fn Marks i 0) end.is_operand
                  (and_from (is_value i.op 0) (is_taken Fn Marks i 0) end.mentions (ap (λ (x : Bool). not x || is_label_reached Fn Marks (slice_index i.args (0 + 1))) end.no_phi));
              word = index_get i.args 0 end.some;
            }

        usable_of : (t : Tree) → value_shape s Fn (slice_index i.args 0) ≡ Some t → Usable b (slice_index i.args 0)
        usable_of t shaped = record { user = i; mentioned = mentioned; no_phi = end.no_phi; shape = t; shaped = shaped_type (type_tree Gs) (T (slice_index i.args 0)) t shaped }

      -- T23 of a condition, and of a selector
      condition_usable : is_conditional (exit_of i.op) ≡ true → Usable b (slice_index i.args 0)
      condition_usable on =
          let end = branch_end i.op i.args on facts_of.least in
          let flow = flow_right s.of entry right Fn in_it i i_among in
          let t = passing s entry right Fn in_it is_bool (λ g test. bool_shaped g.op test) (slice_index i.args 0) (has_type_of end) (branch_right s.of Fn flow.0 i i.op on flow.1) in
          usable_of end t.0 t.1

      selector_usable : is_switch (exit_of i.op) ≡ true → Usable b (slice_index i.args 0)
      selector_usable on =
          let end = switch_end i.op i.args on facts_of.least in
          let flow = flow_right s.of entry right Fn in_it i i_among in
          let t = passing s entry right Fn in_it is_int (λ g test. int_shaped g.op test) (slice_index i.args 0) (has_type_of end) (switch_right s.of Fn flow.0 i i.op on flow.1) in
          usable_of end t.0 t.1

      -- T24 of what is returned: the result of the function is no void, and so of a value type (P19)
      return_usable : is i.op code.ReturnValue ≡ true → Usable b (slice_index i.args 0)
      return_usable on =
          let end = return_end i.op i.args on facts_of.least in
          let flow = flow_right s.of entry right Fn in_it i i_among in
          let off = return_right s.of Fn flow.0 i i.op on flow.1 in
          let row = result_row s entry right Fn in_it in
          let no_void : not (is_void row.0) ≡ true = not-false (not (is_void row.0)) (ap (λ (x : Option Inst). option_map_or (λ (g : Inst). not (not (is_void g))) x false) (sym (row_is s.of entry right Fn.result.0 row.0 row.1 row.2)) ∙ or_left (fails (λ g. not (is_void g)) Gs Fn.result.0) (is_other Gs T Fn.result.0 (word i 0)) off) in
          let t = value_type_has s entry right Fn.result.0 row (and_off (not (is_void row.0)) (is_no_value_type s.of.heads Gs Fn.result.0) (ap (λ (x : Option Inst). option_map_or (λ (g : Inst). not (is_void g) && is_no_value_type s.of.heads Gs Fn.result.0) x false) (sym row.1) ∙ result_right) no_void) in
          let typed = same_type s entry right Fn in_it Fn.result.0 (word i 0) row (has_type_of end) (or_right (fails (λ g. not (is_void g)) Gs Fn.result.0) (is_other Gs T Fn.result.0 (word i 0)) off) in
          usable_of end t.0 (ap (option_and_then (type_tree Gs)) typed ∙ t.1)
        where
          result_right : is_other_result s.of.heads Gs Fn.result.0 ≡ false
          result_right =
              let g = declared_by s entry right Fn in_it in
              let on = operand_there (is_there Gs g.0.at) g.0 (global_there s.of entry right g.0 g.1.there) 0 (function_least g.0.op (length g.0.args) g.1.on (right.formed g.0 g.1.there).least) (function_id g.0.op g.0.args 0 g.1.on) in
              let h = some_by (suits AnyType) (earlier Gs g.0.at (word g.0 0)) (subst (λ q. is_there Gs g.0.at q (slice_index g.0.args 0) ≡ true) (function_need g.0.op 0 g.1.on) on) in
              let same = one_type s entry right Fn in_it (word g.0 0) Fn.result.0 (h.0, (earlier_some Gs g.0.at (word g.0 0) h.0 h.1).0, h.2) (result_row s entry right Fn in_it) g.1.result in
              let told = and_off (is g.0.op code.TypeFunction) (is_other_result s.of.heads Gs (word g.0 0) || list_any (is_other_parameter s.of.heads Gs) (drop 1 g.0.args)) (or_right (is_other_pointer Gs g.0) (is_other_function s.of.heads Gs g.0) (pointed_type s.of entry right g.0 g.1.there)) g.1.on in
              subst (λ x. is_other_result s.of.heads Gs x ≡ false) same (or_left (is_other_result s.of.heads Gs (word g.0 0)) (list_any (is_other_parameter s.of.heads Gs) (drop 1 g.0.args)) told)

    -- by what the block's node says
    exit_is : (nth (graph Fn) b).exit ≡ exit_by (terminator holder.0)
    exit_is = ap (λ (n : Node). n.exit) (node_is Fn b holder.0 holder.1)

    pub chooser_usable : Chooses (graph Fn) b → Usable b (first_operand Fn b)
    chooser_usable (by_condition on) = by_end (terminator holder.0) refl (ap is_conditional (sym exit_is) ∙ on)
      where
        by_end : (x : Option Inst) → terminator holder.0 ≡ x → is_conditional (exit_by x) ≡ true → Usable b (first_operand Fn b)
        by_end None ends off = absurd (no_conditional off)
        by_end (Some i) ends on = subst (Usable b) (sym (first_is i ends)) (condition_usable i ends on)
    chooser_usable (by_selector on) = by_end (terminator holder.0) refl (ap is_switch (sym exit_is) ∙ on)
      where
        by_end : (x : Option Inst) → terminator holder.0 ≡ x → is_switch (exit_by x) ≡ true → Usable b (first_operand Fn b)
        by_end None ends off = absurd (no_switch off)
        by_end (Some i) ends on = subst (Usable b) (sym (first_is i ends)) (selector_usable i ends on)

    pub returned_usable : (n : ℕ) → returned Fn b ≡ Some n → Usable b n
    returned_usable n told = by_end (terminator holder.0) refl (sym (ap (λ (x : Option Block). option_and_then returned_by (option_and_then terminator x)) holder.1) ∙ told)
      where
        by_test : (i : Inst) → terminator holder.0 ≡ Some i → (t : Bool) → is i.op code.ReturnValue ≡ t → (if t then Some (operand_in i) else None) ≡ Some n → Usable b n
        by_test i ends true on e = let same : slice_index i.args 0 ≡ n = cc in subst (Usable b) same (return_usable i ends on)
        by_test i ends false off e = cc

        by_end : (x : Option Inst) → terminator holder.0 ≡ x → option_and_then returned_by x ≡ Some n → Usable b n
        by_end None ends e = cc
        by_end (Some i) ends e = by_test i ends (is i.op code.ReturnValue) refl e
