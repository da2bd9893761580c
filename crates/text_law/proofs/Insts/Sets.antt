-- Where the result of an instruction of a planned function has a variable, that is the one that its naming gives it, of the shape of its type; any other result has none.
use Rattle.std.proofs.Common.{◌≡◌, ◌==◌, ◌&&◌, ◌||◌, ◌+◌, not, ℕ, Bool, true, false, List, Option, Some, refl, sym, ap, ◌∙◌, subst, unwrap_or, arith}
use Rattle.std.specs.Prelude.{slice_get, is_some}
use Rattle.std.specs.Option.{option_map_or}
use Rattle.std.specs.List.{enumerate_from}
use Rattle.std.proofs.lemmas.Bool.{and_from, or_from, and_left, false_from_ne_true, or_left, and_right, or_right}
use Rattle.spv_ops.specs.Opcode.{is}
use Rattle.spv_ops.specs.Groups.{is_chain}
use Rattle.spv_ops.specs.Shape.{is_pure}
use Rattle.spv_ops.specs.declared.Op.TheVariants as code
use Rattle.spv_module.specs.Lists.{id}
use Rattle.spv_module.specs.State.{ModuleState}
use Rattle.spv_module.specs.declared.inst.Inst.{Inst}
use Rattle.spv_module.specs.declared.inst.Block.{Block}
use Rattle.spv_module.specs.declared.inst.Function.{Function}
use Rattle.spv_types.specs.Tree.{Tree}
use Rattle.spv_types.specs.Tree as plain
use Rattle.spv_types.specs.Types.{type_tree}
use Rattle.spv_types.specs.Leaves.{IsSized}
use Rattle.spv_index.specs.Locals.{insts_of, inst_in, type_in}
use Rattle.structure_rules.specs.Graph.{nth, graph}
use Rattle.structure_rules.specs.declared.graph.Node.{Node}
use Rattle.conformance.specs.Rules.{Options}
use Rattle.profile_rules.specs.MemoryRules.{is_pointer}
use Rattle.traces.specs.Invocations.{Invocation}
use Rattle.module_semantics.specs.Setting.{Setting}
use Rattle.hoist_plan.specs.declared.form.Form.{Form}
use Rattle.hoist_plan.specs.declared.form.Form.TheVariants.{Gone, Forwarded, Local, Hoisted}
use Rattle.hoist_plan.specs.Plan.{is_value, is_always_named}
use Rattle.name_alloc.specs.declared.claims.Key.TheVariants.{Id}
use Rattle.glsl_ast.specs.Tree.{TranslationUnit}
use Rattle.glsl_semantics.specs.Shapes.{Shape, same_shape}
use Rattle.glsl_semantics.specs.Expressions.{Program, type_of}
use Rattle.text_rules.specs.Declarations.{type_at}
use Rattle.expr_forward.specs.Scope.{Scope}
use Rattle.expr_forward.specs.Statements.{is_variable_form}
use Rattle.function_plan.specs.Planned.{has_name_by, has_name, names_id, block_names, is_named_in}
use Rattle.function_text.specs.Functions.{FunctionPlan, written, is_hoisted}
use Rattle.unit_rules.specs.Unit.{IsUnitOf}
use Rattle.agree_law.specs.Agree.{Naming}
use Rattle.call_law.specs.Known.{is_parameter, IsFunctionOf, LendsWhole}
use Rattle.global_law.specs.Parts.{shape_in}
use Rattle.global_law.specs.Walks.{struct_names}
use Rattle.global_law.proofs.Path.Accesses.{shape_itself}
use Rattle.plan_law.specs.InOrder.{IsAmong}
use Rattle.plan_law.proofs.Order.{found}
use Rattle.typed_law.specs.Conforms.{IsConforming, IsConformingIn}
use Rattle.typed_law.proofs.Lists.{clash}
use Rattle.typed_law.proofs.Values.{inside, own_type}
use Rattle.grammar_law.proofs.Ruled.Ruled.{contains_of}
use Rattle.claim_law.specs.Claimed.{IsIn}
use Rattle.claim_law.proofs.Claim.Listed.{any_in, numbered}
use Rattle.grammar_law.proofs.Unit.Lists.{same_test, as_among}
use Rattle.grammar_law.proofs.Unit.Forms.{unmade_gone}
use Rattle.grammar_law.proofs.Unit.Ways.{HaveKinds, F, V, plan_is, written_is}
use Rattle.text_law.specs.Names.{is_other, is_result, is_value_parameter, is_local_form}
use Rattle.text_law.specs.Types.{IsTypeOfText}
use Rattle.text_law.proofs.Naming.Keys.{S, key, names}
use Rattle.text_law.proofs.Naming.Fine.{type_stands}
use Rattle.text_law.proofs.Naming.Firsts.{of_in}
use Rattle.text_law.proofs.Written.Shapes.{shape_of_type}
use Rattle.text_law.proofs.Written.Placed.{chain_step, variable_step, value_no_pointer}
use Rattle.text_law.proofs.Written.Expressed.{no_zero, variable_value, always_variable}

-- forms
hoisted_variable : (x : Form) → x ≡ Hoisted → is_hoisted x ≡ true
hoisted_variable x e = ap is_hoisted e

no_hoisted : (x : Form) → is_variable_form x ≡ false → is_hoisted x ≡ false
no_hoisted Gone off = refl
no_hoisted Forwarded off = refl
no_hoisted Local off = refl
no_hoisted Hoisted off = cc

no_local : (x : Form) → is_variable_form x ≡ false → is_local_form x ≡ false
no_local Gone off = refl
no_local Forwarded off = refl
no_local Local off = cc
no_local Hoisted off = refl

neither : (a b : Bool) → a ≡ false → b ≡ false → not (a || b) ≡ true
neither false b off e = ap not e
neither true b off e = cc

module _ (m : ModuleState) (opts : Options) (right : IsConforming m opts.entry) (kinds : HaveKinds m.globals) (unit : TranslationUnit) (u : IsUnitOf m opts unit) (inv : Invocation) (p : FunctionPlan) (among : IsIn p u.plans) (lends : LendsWhole (S m opts unit u inv)) where
  abbrev s : Setting
  s = S m opts unit u inv

  abbrev N : Naming
  N = names m opts unit u inv p

  abbrev f : Function
  f = written p

  abbrev gs : List Inst
  gs = m.globals

  abbrev Fn : Function
  Fn = F s opts.entry right kinds opts unit u p among

  abbrev Where : Scope
  Where = V s opts.entry right kinds opts unit u p among

  scope_is : p.scope ≡ Where
  scope_is = (plan_is s opts.entry right kinds opts unit u p among).scope_is

  -- 0 has no form
  zero_gone : p.scope.form 0 ≡ Gone
  zero_gone = ap (λ (w : Scope). w.form 0) scope_is ∙ unmade_gone gs Fn (plan_is s opts.entry right kinds opts unit u p among).links

  -- what has no result has no variable of its block
  pub zero_local : (i : Inst) → i.result ≡ 0 → N.is_local i.result ≡ false
  zero_local i zero =
      ap N.is_local zero ∙ and_left (is_local_form (p.scope.form 0)) (is_result f 0 && is_named_in p.scope.form p.graph f.blocks 0) (ap is_local_form zero_gone)

  module _ (is_one : IsFunctionOf f m.functions) (i : Inst) (there : IsIn i (insts_of f)) (some : i.result ≡ 0 → ⊥) where
    inside_it : IsConformingIn m f
    inside_it = inside s opts.entry right f (contains_of m.functions f is_one)

    among_it : IsAmong i (insts_of f)
    among_it = as_among (insts_of f) i there

    no_parameter : is_parameter f i.result ≡ false
    no_parameter = ap is_some (inside_it.order.own i among_it some).made

    no_value : is_value_parameter gs f i.result ≡ false
    no_value = and_left (is_parameter f i.result) (not (is_pointer gs f i.result)) no_parameter

    pub no_lent : N.is_lent i.result ≡ false
    no_lent = and_left (is_parameter f i.result) (is_pointer gs f i.result) no_parameter

    made : inst_in f i.result ≡ Some i
    made = found i (insts_of f) inside_it.order.apart among_it some

    result_is : is_result f i.result ≡ is_other i
    result_is = ap (λ (x : Option Inst). option_map_or is_other x false) made

    -- chains and variables have none
    pub pointer_unset : is_other i ≡ false → (N.is_outer i.result ≡ false) × (N.is_local i.result ≡ false)
    pointer_unset off = (
      or_from (is_value_parameter gs f i.result) (is_hoisted (p.scope.form i.result) && is_result f i.result) no_value (and_right (is_hoisted (p.scope.form i.result)) (is_result f i.result) (result_is ∙ off)),
      and_right (is_local_form (p.scope.form i.result)) (is_result f i.result && is_named_in p.scope.form p.graph f.blocks i.result) (and_left (is_result f i.result) (is_named_in p.scope.form p.graph f.blocks i.result) (result_is ∙ off)),
    )

    pub form_unset : is_variable_form (p.scope.form i.result) ≡ false → (N.is_outer i.result ≡ false) × (N.is_local i.result ≡ false)
    form_unset off = (
      or_from (is_value_parameter gs f i.result) (is_hoisted (p.scope.form i.result) && is_result f i.result) no_value (and_left (is_hoisted (p.scope.form i.result)) (is_result f i.result) (no_hoisted (p.scope.form i.result) off)),
      and_left (is_local_form (p.scope.form i.result)) (is_result f i.result && is_named_in p.scope.form p.graph f.blocks i.result) (no_local (p.scope.form i.result) off),
    )

    pub named_so : N.name i.result ≡ p.scope.setting.key (Id (id i.result))
    named_so = subst (λ (w : Scope). N.name i.result ≡ w.setting.key (Id (id i.result))) (sym scope_is) refl

    -- what has a variable is a value
    pub value_so : is_variable_form (p.scope.form i.result) ≡ true → is_value gs i.ty ≡ true
    value_so on =
        variable_value s opts.entry right kinds opts unit u p among i (subst (λ (g : Function). IsIn i (insts_of g)) (written_is s opts.entry right kinds opts unit u p among) there) some
        (ap (λ (w : Scope). is_variable_form (w.form i.result)) (sym scope_is) ∙ on)

    pub always_so : is_always_named i.op ≡ true → is_pure i.op ≡ false → is_value gs i.ty ≡ true → is_variable_form (p.scope.form i.result) ≡ true
    always_so named effect value =
        ap (λ (w : Scope). is_variable_form (w.form i.result)) scope_is
        ∙ always_variable s opts.entry right kinds opts unit u p among i (subst (λ (g : Function). IsIn i (insts_of g)) (written_is s opts.entry right kinds opts unit u p among) there) some named effect value

    -- of a shape
    module _ (t : Tree) (shaped : type_tree gs i.ty ≡ Some t) (sized : IsSized t) where
      typed_so : (i.ty ≡ 0 → ⊥)
      typed_so = no_zero s opts.entry right i.ty t shaped

      own_is : type_in gs f i.result ≡ Some i.ty
      own_is = own_type s opts.entry right f (contains_of m.functions f is_one) i among_it typed_so

      no_pointer : is_pointer gs f i.result ≡ false
      no_pointer = value_no_pointer gs f i.result i.ty t own_is shaped

      pub other_so : is_other i ≡ true
      other_so =
          neither (is i.op code.Variable) (is_chain i.op)
          (false_from_ne_true (is i.op code.Variable) (λ on. clash (sym (lends.variables f is_one i (of_in (insts_of f) i there) (variable_step i.op on)) ∙ no_pointer)))
          (false_from_ne_true (is_chain i.op) (λ on. clash (sym (lends.chains f is_one i (of_in (insts_of f) i there) (chain_step i.op on)).1 ∙ no_pointer)))

      pub shape_so : N.shape i.result ≡ shape_in s (struct_names (key m opts unit u inv)) t
      shape_so = shape_of_type m opts unit u inv p i.result i.ty t own_is shaped

      pub same_so : same_shape (N.shape i.result) (N.shape i.result) ≡ true
      same_so = subst (λ (x : Shape). same_shape x x ≡ true) (sym shape_so) (shape_itself s (key m opts unit u inv) t sized)

      pub hoisted_so : p.scope.form i.result ≡ Hoisted → N.is_outer i.result ≡ true
      hoisted_so form =
          or_right (is_value_parameter gs f i.result) (is_hoisted (p.scope.form i.result) && is_result f i.result)
          (and_from (is_hoisted (p.scope.form i.result)) (is_result f i.result) (hoisted_variable (p.scope.form i.result) form) (result_is ∙ other_so))

      -- in a reached block
      module _ (b : ℕ) (block : Block) (at : slice_get f.blocks b ≡ Some block) (in_it : IsIn i block.insts) (reached : (nth (graph f) b).reached ≡ true) where
        graph_is : p.graph ≡ graph f
        graph_is = (plan_is s opts.entry right kinds opts unit u p among).graph_is ∙ ap graph (sym (written_is s opts.entry right kinds opts unit u p among))

        named_in : p.scope.form i.result ≡ Local → is_named_in p.scope.form p.graph f.blocks i.result ≡ true
        named_in form =
            any_in (block_names p.scope.form p.graph i.result) (enumerate_from 0 f.blocks) (0 + b, block) (numbered f.blocks 0 b block at)
            (any_in (names_id p.scope.form (nth p.graph (0 + b)).reached i.result) block.insts i in_it
            (and_from (has_name p.scope.form (nth p.graph (0 + b)).reached i) (i.result == i.result) (named_by (p.scope.form i.result) form (nth p.graph (0 + b)).reached reached_so) (same_test i.result i.result refl)))
          where
            zero_plus : 0 + b ≡ b
            zero_plus = omega arith

            reached_so : (nth p.graph (0 + b)).reached ≡ true
            reached_so = ap (λ (n : ℕ). (nth p.graph n).reached) zero_plus ∙ (ap (λ (g : List Node). (nth g b).reached) graph_is ∙ reached)

            named_by : (x : Form) → x ≡ Local → (r : Bool) → r ≡ true → has_name_by x r (is i.op code.Variable) ≡ true
            named_by Local e r on = or_left r (is i.op code.Variable) on
            named_by Gone e r on = cc
            named_by Forwarded e r on = cc
            named_by Hoisted e r on = cc

        pub local_so : (program : Program) → p.scope.form i.result ≡ Local → IsTypeOfText program s opts.overrides (key m opts unit u inv) i.ty → (N.is_local i.result ≡ true) × (type_of program (type_at p.scope.setting.source p.scope.names i.ty) ≡ Some (N.shape i.result))
        local_so program form text = (
          and_from (is_local_form (p.scope.form i.result)) (is_result f i.result && is_named_in p.scope.form p.graph f.blocks i.result) (ap is_local_form form)
              (and_from (is_result f i.result) (is_named_in p.scope.form p.graph f.blocks i.result) (result_is ∙ other_so) (named_in form)),
          ap (λ (w : Scope). type_of program (type_at w.setting.source w.names i.ty)) scope_is
              ∙ (type_stands m opts unit u inv program i.ty text
              ∙ ap (λ (x : Shape). Some x) (ap (λ (x : Option Tree). shape_in s (struct_names (key m opts unit u inv)) (unwrap_or x plain.uint)) shaped ∙ sym shape_so)),
        )
