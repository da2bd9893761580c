-- Where a value stands that an instruction of a block mentions: it has a variable at the top of the function, or it is made in the block, and has a variable there or stands in expressions.
use Rattle.std.proofs.Common.{◌≡◌, ◌⊎◌, ◌==◌, ◌&&◌, ◌||◌, not, ℕ, Bool, true, false, List, Option, Some, None, is_some, inl, inr, refl, sym, ap, ◌∙◌, if◌then◌else◌}
use Rattle.std.specs.Prelude.{slice_get, slice_index, option_map, option_and_then}
use Rattle.std.specs.Option.{option_map_or, option_or}
use Rattle.std.specs.List.{enumerate_from}
use Rattle.std.proofs.lemmas.Bool.{and_from, or_left}
use Rattle.std.proofs.lemmas.Option.{none-some}
use Rattle.spv_ops.specs.Opcode.{is, number}
use Rattle.spv_ops.specs.Groups.{is_chain}
use Rattle.spv_ops.specs.OpGroups.{group_of}
use Rattle.spv_ops.specs.declared.Op.{Op}
use Rattle.spv_ops.specs.declared.Op.TheVariants as code
use Rattle.spv_module.specs.Held.{global}
use Rattle.spv_module.specs.declared.inst.Inst.{Inst}
use Rattle.spv_module.specs.declared.inst.Block.{Block}
use Rattle.spv_module.specs.declared.inst.Function.{Function}
use Rattle.spv_types.specs.Tree.{Tree}
use Rattle.spv_types.specs.Types.{tree_at, type_tree}
use Rattle.spv_index.specs.Locals.{insts_of, inst_in, parameter_in, typed, local_type, type_in}
use Rattle.spv_index.specs.Pointers.{as_pointer, pointer}
use Rattle.structure_rules.specs.Graph.{graph, nth}
use Rattle.conformance.specs.Rules.{Options}
use Rattle.profile_rules.specs.MemoryRules.{is_pointer}
use Rattle.module_semantics.specs.Setting.{Setting}
use Rattle.module_semantics.specs.Steps as steps
use Rattle.module_semantics.specs.Steps.{step_kind}
use Rattle.hoist_plan.specs.declared.form.Form.{Form}
use Rattle.hoist_plan.specs.declared.form.Form.TheVariants.{Forwarded, Local}
use Rattle.glsl_ast.specs.Tree.{TranslationUnit}
use Rattle.expr_forward.specs.Scope.{Scope}
use Rattle.function_plan.specs.Planned.{has_name_by, names_id, block_names, is_named_in}
use Rattle.function_text.specs.Functions.{FunctionPlan, is_hoisted}
use Rattle.unit_rules.specs.Unit.{IsUnitOf}
use Rattle.agree_law.specs.Blocks.{IsOf}
use Rattle.call_law.specs.Known.{IsFunctionOf, is_parameter, LendsWhole}
use Rattle.typed_law.specs.Conforms.{IsConforming}
use Rattle.typed_law.proofs.Lists.{clash}
use Rattle.claim_law.specs.Claimed.{IsIn}
use Rattle.claim_law.proofs.Claim.Listed.{any_in}
use Rattle.claim_law.proofs.Claim.Constants.{found_in}
use Rattle.grammar_law.specs.Mentioned.{IsMentioned, Stands}
use Rattle.grammar_law.proofs.Unit.Lists.{same_test, numbered_first}
use Rattle.grammar_law.proofs.Unit.Shaped.{pointer_none, shaped_value}
use Rattle.grammar_law.proofs.Unit.Ways.{HaveKinds, F, R, V, own_type_of, CountsIn, home, stands, reached_here}
use Rattle.text_law.specs.Names.{is_other, is_result, is_value_parameter, is_local_form}
use Rattle.text_law.proofs.Naming.Firsts.{of_in}

-- opcodes that make pointers, and what their steps are
pub chain_step : (o : Op) → is_chain o ≡ true → step_kind o ≡ steps.chain
unfolding step_kind group_of
chain_step code.AccessChain on = refl
chain_step code.InBoundsAccessChain on = refl
chain_step o on = cc

pub variable_step : (o : Op) → is o code.Variable ≡ true → step_kind o ≡ steps.variable
unfolding step_kind group_of number
variable_step code.Variable on = refl
variable_step o on = cc

-- a value is no pointer
pub value_no_pointer : (gs : List Inst) (f : Function) (n ty : ℕ) (t : Tree) → type_in gs f n ≡ Some ty → type_tree gs ty ≡ Some t → is_pointer gs f n ≡ false
value_no_pointer gs f n ty t typed shaped = ap (λ (o : Option ℕ). is_some (option_and_then (λ (k : ℕ). option_map (λ (g : Inst). slice_index g.args 0) (pointer gs k)) o)) typed ∙ ap (λ (o : Option Inst). is_some (option_map (λ (g : Inst). slice_index g.args 0) o)) (by_global (global gs ty) shaped)
  where
    by_test : (g : Inst) → tree_at gs g ≡ Some t → (b : Bool) → is g.op code.TypePointer ≡ b → (if b then Some g else None) ≡ None
    by_test g at true on = absurd (pointer_none gs g t on at)
    by_test g at false off = refl

    by_global : (o : Option Inst) → option_map_or (tree_at gs) o None ≡ Some t → option_and_then as_pointer o ≡ None
    by_global None e = refl
    by_global (Some g) e = by_test g e (is g.op code.TypePointer) refl

module _ (s : Setting) (entry : Option (List ℕ)) (right : IsConforming s.of entry) (kinds : HaveKinds s.of.globals) (o : Options) (unit : TranslationUnit) (u : IsUnitOf s.of o unit) (p : FunctionPlan) (among : IsIn p u.plans) (lends : LendsWhole s) where
  abbrev gs : List Inst
  gs = s.of.globals

  abbrev Fn : Function
  Fn = F s entry right kinds o unit u p among

  abbrev Where : Scope
  Where = V s entry right kinds o unit u p among

  abbrev Marks : List Bool
  Marks = R s entry right kinds o unit u p among

  -- a value parameter, or the result of an instruction of the function
  pub record IsMadeBy (n : ℕ) (t : Tree) (j : Inst) : Type 0 where
    pub made : inst_in Fn n ≡ Some j
    pub some_type : j.ty ≡ 0 → ⊥
    pub shaped : type_tree gs j.ty ≡ Some t
    pub type_is : type_in gs Fn n ≡ Some j.ty

  pub maker : (n : ℕ) (t : Tree) → option_and_then (type_tree gs) (type_in gs Fn n) ≡ Some t → global gs n ≡ None → (is_value_parameter gs Fn n ≡ true) ⊎ ((j : Inst) × IsMadeBy n t j)
  maker n t whole local = by_parameter (parameter_in Fn n) refl
    where
      type_by : (x : Option ℕ) → parameter_in Fn n ≡ x → type_in gs Fn n ≡ option_or x (option_and_then typed (inst_in Fn n))
      type_by x at = ap (λ (g : Option Inst). option_or (option_and_then typed g) (local_type Fn n)) local ∙ ap (λ (y : Option ℕ). option_or y (option_and_then typed (inst_in Fn n))) at

      by_inst : (x : Option Inst) → inst_in Fn n ≡ x → type_in gs Fn n ≡ option_and_then typed x → (j : Inst) × IsMadeBy n t j
      by_inst None made type_is = absurd (none-some t (sym (ap (option_and_then (type_tree gs)) type_is) ∙ whole))
      by_inst (Some j) made type_is = by_typed (typed j) refl
        where
          by_typed : (x : Option ℕ) → typed j ≡ x → (k : Inst) × IsMadeBy n t k
          by_typed None lacks = absurd (none-some t (sym (ap (option_and_then (type_tree gs)) (type_is ∙ lacks)) ∙ whole))
          by_typed (Some ty) is =
              let own = own_type_of j ty is in
              let ty_is : type_in gs Fn n ≡ Some j.ty = type_is ∙ (is ∙ ap (λ (k : ℕ). Some k) (sym own.0)) in
              (j, record { made = made; some_type = own.1; shaped = sym (ap (option_and_then (type_tree gs)) ty_is) ∙ whole; type_is = ty_is })

      by_parameter : (x : Option ℕ) → parameter_in Fn n ≡ x → (is_value_parameter gs Fn n ≡ true) ⊎ ((j : Inst) × IsMadeBy n t j)
      by_parameter None at = inr (by_inst (inst_in Fn n) refl (type_by None at))
      by_parameter (Some ty) at =
          let ty_is : type_in gs Fn n ≡ Some ty = type_by (Some ty) at in
          inl (and_from (is_parameter Fn n) (not (is_pointer gs Fn n)) (ap is_some at) (ap not (value_no_pointer gs Fn n ty t ty_is (sym (ap (option_and_then (type_tree gs)) ty_is) ∙ whole))))

  -- a result that is a value is one of no variable and of no chain
  module _ (is_one : IsFunctionOf Fn s.of.functions) (n : ℕ) (t : Tree) (j : Inst) (by : IsMadeBy n t j) where
    own : IsIn j (insts_of Fn) × (j.result ≡ n)
    own = found_in (insts_of Fn) n j by.made

    of_it : IsOf j (insts_of Fn)
    of_it = of_in (insts_of Fn) j own.0

    no_pointer : is_pointer gs Fn j.result ≡ false
    no_pointer = ap (is_pointer gs Fn) own.1 ∙ value_no_pointer gs Fn n j.ty t by.type_is by.shaped

    no_variable : is j.op code.Variable ≡ false
    no_variable = by_test (is j.op code.Variable) refl
      where
        by_test : (b : Bool) → is j.op code.Variable ≡ b → b ≡ false
        by_test false off = refl
        by_test true on = clash (sym (lends.variables Fn is_one j of_it (variable_step j.op on)) ∙ no_pointer)

    pub no_chain : is_chain j.op ≡ false
    no_chain = by_test (is_chain j.op) refl
      where
        by_test : (b : Bool) → is_chain j.op ≡ b → b ≡ false
        by_test false off = refl
        by_test true on = clash (sym (lends.chains Fn is_one j of_it (chain_step j.op on)).1 ∙ no_pointer)

    pub result_on : is_result Fn n ≡ true
    result_on = ap (λ (x : Option Inst). option_map_or is_other x false) by.made ∙ (ap (λ (b : Bool). not (b || is_chain j.op)) no_variable ∙ ap not no_chain)

    -- where an instruction of a block mentions it: at the top, or in the block
    module _ (block : ℕ) (i : Inst) (w : IsMentioned Fn Marks block i n) (b : ℕ) (counts : CountsIn s entry right kinds o unit u p among block i n w b) where
      abbrev pub home_is : (c : ℕ) × (holder : Block) × (slice_get Fn.blocks c ≡ Some holder) × IsIn j holder.insts
      home_is = home s entry right kinds o unit u p among block n i j w b counts by.made by.some_type (shaped_value gs j.ty t by.shaped)

      stands_so : Stands (Where.form n) home_is.0 b
      stands_so = stands s entry right kinds o unit u p among block n i j w b counts by.made by.some_type (shaped_value gs j.ty t by.shaped)

      named_there : home_is.0 ≡ b → Where.form n ≡ Local → is_named_in Where.form p.graph Fn.blocks n ≡ true
      named_there same form =
          let reached : (nth p.graph home_is.0).reached ≡ true = reached_here s entry right kinds o unit u p among block n i j w b counts by.made by.some_type (shaped_value gs j.ty t by.shaped) same in
          any_in (block_names Where.form p.graph n) (enumerate_from 0 Fn.blocks) (home_is.0, home_is.1) (numbered_first Fn.blocks home_is.0 home_is.1 home_is.2)
          (any_in (names_id Where.form (nth p.graph home_is.0).reached n) home_is.1.insts j home_is.3
          (and_from _ (j.result == n)
          (ap (λ (x : Form). has_name_by x (nth p.graph home_is.0).reached (is j.op code.Variable)) (ap Where.form own.1 ∙ form) ∙ or_left (nth p.graph home_is.0).reached (is j.op code.Variable) reached)
          (same_test j.result n own.1)))

      -- with a variable at the top; or of the block, with a variable there or without
      abbrev pub IsPlaced : Type 0
      IsPlaced = ((is_hoisted (Where.form n) && is_result Fn n) ≡ true) ⊎ ((home_is.0 ≡ b) × (((is_local_form (Where.form n) && (is_result Fn n && is_named_in Where.form p.graph Fn.blocks n)) ≡ true) ⊎ (Where.form n ≡ Forwarded)))

      pub placed : IsPlaced
      placed = by_stands stands_so
        where
          by_stands : Stands (Where.form n) home_is.0 b → IsPlaced
          by_stands (inl top) = inl (and_from (is_hoisted (Where.form n)) (is_result Fn n) (ap is_hoisted top) result_on)
          by_stands (inr (inl form, same)) = inr (same, inl (and_from (is_local_form (Where.form n)) _ (ap is_local_form form) (and_from (is_result Fn n) _ result_on (named_there same form))))
          by_stands (inr (inr form, same)) = inr (same, inr form)
