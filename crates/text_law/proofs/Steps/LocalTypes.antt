-- The text declares the types of what it declares in blocks: results of live instructions of reached blocks.
use Rattle.std.proofs.Common.{◌≡◌, ◌||◌, ℕ, true, false, List, Some, refl, sym, ap, ◌∙◌}
use Rattle.std.proofs.lemmas.Bool.{true_from_ne_false, not-true}
use Rattle.spv_ops.specs.Opcode.{is}
use Rattle.spv_ops.specs.Groups.{is_chain}
use Rattle.spv_ops.specs.declared.Op.TheVariants as code
use Rattle.spv_module.specs.State.{ModuleState}
use Rattle.spv_module.specs.Inst.{has_type}
use Rattle.spv_module.specs.declared.inst.Inst.{Inst}
use Rattle.spv_module.specs.declared.inst.Block.{Block}
use Rattle.spv_module.specs.declared.inst.Function.{Function}
use Rattle.spv_types.specs.Tree.{Tree}
use Rattle.spv_types.specs.Types.{type_tree}
use Rattle.spv_types.specs.Leaves.{IsSized}
use Rattle.spv_index.specs.Locals.{insts_of}
use Rattle.structure_rules.specs.Graph.{nth, graph}
use Rattle.structure_rules.specs.declared.graph.Node.{Node}
use Rattle.conformance.specs.Rules.{Options}
use Rattle.profile_rules.specs.Places.{is_variable}
use Rattle.module_check.specs.Judged.{IsFine}
use Rattle.module_check.specs.ReadFrom.{IsReadFrom}
use Rattle.traces.specs.Invocations.{Invocation, IsInvocation}
use Rattle.module_semantics.specs.Setting.{Setting}
use Rattle.hoist_plan.specs.declared.form.Form.{Form}
use Rattle.hoist_plan.specs.declared.form.Form.TheVariants.{Gone, Local}
use Rattle.glsl_ast.specs.Tree.{TranslationUnit}
use Rattle.glsl_semantics.specs.Expressions.{Program}
use Rattle.expr_forward.specs.Scope.{Scope}
use Rattle.expr_forward.specs.Statements.{is_variable_form}
use Rattle.function_plan.specs.Phis.{is_gone}
use Rattle.function_text.specs.Functions.{FunctionPlan, written}
use Rattle.unit_rules.specs.Unit.{claims_by, source_of, IsUnitOf}
use Rattle.list_law.proofs.Tests.{off_on}
use Rattle.agree_law.specs.Points.{Body}
use Rattle.call_law.specs.Known.{IsFunctionOf, LendsWhole}
use Rattle.typed_law.specs.Conforms.{IsConforming}
use Rattle.typed_law.proofs.Lists.{or_left}
use Rattle.global_law.proofs.Global.Zeros.{is_declared}
use Rattle.claim_law.specs.Claimed.{IsIn, IsOf}
use Rattle.claim_law.proofs.Claim.Listed.{in_flat, at_place}
use Rattle.grammar_law.proofs.Unit.Forms.{unmade_gone}
use Rattle.grammar_law.proofs.Unit.Lists.{as_in, as_among}
use Rattle.grammar_law.proofs.Unit.Ways.{HaveKinds, F, plan_is, written_is, reached_nth}
use Rattle.grammar_law.specs.Formed.{IsFormedFunction}
use Rattle.grammar_law.proofs.Formed.Blocks.{reached_body, reached_only}
use Rattle.grammar_law.proofs.Formed.Inner.{accepted_inner}
use Rattle.grammar_law.proofs.Formed.Shaped.{AreGlobals, accepted_shaped}
use Rattle.text_law.specs.Types.{IsTypeOfText}
use Rattle.text_law.proofs.Naming.Keys.{S, key as key_of}
use Rattle.text_law.specs.Left.{IsLeftOfGlobals}
use Rattle.text_law.proofs.Outside.Text.{P as program_in}
use Rattle.text_law.proofs.Texts.ValueTypes.{IsTextType, live_text}
use Rattle.text_law.proofs.Insts.Sets.{value_so, other_so}

not_local : Gone ≡ Local → ⊥
not_local e = cc

pub variable_gone : (x : Form) → is_variable_form x ≡ true → is_gone x ≡ false
variable_gone Gone on = cc
variable_gone x on = refl

module _ (bytes : List ℕ) (m : ModuleState) (o : Options) (read : IsReadFrom bytes m) (fine : IsFine m o) (unit : TranslationUnit) (u : IsUnitOf m o unit) (inv : Invocation) (told : IsInvocation inv) (left : IsLeftOfGlobals bytes m o)
    (right : IsConforming m o.entry) (kinds : HaveKinds m.globals) (p : FunctionPlan) (among : IsIn p u.plans) (lends : LendsWhole (S m o unit u inv)) where
  abbrev s : Setting
  s = S m o unit u inv

  abbrev f : Function
  f = written p

  abbrev P : Program
  P = program_in bytes m o read fine unit u inv told left

  are_globals : AreGlobals m.globals
  are_globals g there some = kinds g (as_in m.globals g there) some

  -- 0 has no variable
  some_result : (i : Inst) → is_variable_form (p.scope.form i.result) ≡ true → i.result ≡ 0 → ⊥
  some_result i on zero =
      off_on (sym (ap is_variable_form (ap p.scope.form zero ∙ (ap (λ (w : Scope). w.form 0) (plan_is s o.entry right kinds o unit u p among).scope_is ∙ unmade_gone m.globals (F s o.entry right kinds o unit u p among) (plan_is s o.entry right kinds o unit u p among).links))) ∙ on)

  -- an instruction of a reached block whose result has a variable
  module _ (is_one : IsFunctionOf f m.functions) (form : IsFormedFunction f) (b : ℕ) (body : Body f b) (has : reached_body f form b ≡ Some body) (i : Inst) (in_it : IsIn i body.block.insts) (on : is_variable_form (p.scope.form i.result) ≡ true) where
    there : IsIn i (insts_of f)
    there = in_flat (λ (x : Block). x.insts) f.blocks body.block i (at_place f.blocks b body.block body.there) in_it

    some : i.result ≡ 0 → ⊥
    some = some_result i on

    pub shape : (t : Tree) × (type_tree m.globals i.ty ≡ Some t) × IsSized t
    shape =
        accepted_shaped bytes m o read fine are_globals f is_one i (as_among (insts_of f) i there) (true_from_ne_false (has_type i.op) (λ off. some ((accepted_inner bytes m read f is_one i (as_among (insts_of f) i there)).1 off)))
        (value_so m o right kinds unit u inv p among lends is_one i there some on)

    no_variable : is_variable i ≡ false
    no_variable = or_left (is i.op code.Variable) (is_chain i.op) (not-true (is i.op code.Variable || is_chain i.op) (other_so m o right kinds unit u inv p among lends is_one i there some shape.0 shape.1 shape.2))

    abbrev of_it : IsOf (claims_by (source_of m o u.entry) p) i
    of_it = record { number = b; block = body.block; there = body.there; among = in_it }

    graph_is : p.graph ≡ graph f
    graph_is = (plan_is s o.entry right kinds o unit u p among).graph_is ∙ ap graph (sym (written_is s o.entry right kinds o unit u p among))

    -- its type stands in the text
    pub declared_text : IsTextType bytes m o read fine unit u inv told left p among shape.0
    declared_text =
        live_text bytes m o read fine unit u inv told left p among i there no_variable shape.0 shape.1 of_it
        (reached_nth p.graph b ∙ (ap (λ (g : List Node). (nth g b).reached) graph_is ∙ reached_only f form b body has)) (variable_gone (p.scope.form i.result) on)

  -- The law: so it is with what is declared in its block.
  pub types_left : (is_one : IsFunctionOf f m.functions) (form : IsFormedFunction f) (b : ℕ) (body : Body f b) → reached_body f form b ≡ Some body → (i : Inst) → IsIn i body.block.insts → p.scope.form i.result ≡ Local → IsTypeOfText P s o.overrides (key_of m o unit u inv) i.ty
  types_left is_one form b body has i in_it local =
      let on = ap is_variable_form local in
      let t = shape is_one form b body has i in_it on in
      record { shape = t.0; is = t.1; sized = t.2; declared = is_declared P s (source_of m o u.entry) (key_of m o unit u inv) t.0 (declared_text is_one form b body has i in_it on).0 }
