-- The expression of an operation that is written to a variable says what the operation gives, where it says so of its operands: these are ready at the operation, since it is live.
use Rattle.std.proofs.Common.{◌≡◌, ◌≤◌, ◌++◌, ℕ, Bool, true, false, List, [], ◌∷◌, Option, Some, inl, inr, sym, ap, ◌∙◌, subst, arith}
use Rattle.std.specs.Prelude.{◌⊎◌, slice_index_or}
use Rattle.spv_ops.specs.OpGroups.{group_of}
use Rattle.spv_module.specs.State.{ModuleState}
use Rattle.spv_module.specs.declared.inst.Inst.{Inst}
use Rattle.spv_module.specs.declared.inst.Function.{Function}
use Rattle.spv_types.specs.Tree.{Tree, ValueTree}
use Rattle.spv_types.specs.Types.{type_tree}
use Rattle.spv_index.specs.Locals.{insts_of}
use Rattle.structure_rules.specs.Graph.{graph}
use Rattle.conformance.specs.Rules.{Options}
use Rattle.traces.specs.Invocations.{Invocation}
use Rattle.traces.specs.Runs.{Supplied}
use Rattle.traces.specs.Outcomes.{Result}
use Rattle.use_chains.specs.Slots.{inst_at, IsLive}
use Rattle.module_semantics.specs.Setting.{Setting}
use Rattle.module_semantics.specs.State.{value as holds_value, Conf}
use Rattle.module_semantics.specs.Operands.{value_at, arg}
use Rattle.module_semantics.specs.Steps as steps
use Rattle.module_semantics.specs.Steps.{step_kind}
use Rattle.glsl_ast.specs.Tree.{Text, TranslationUnit}
use Rattle.glsl_semantics.specs.Shapes.{Typed}
use Rattle.glsl_semantics.specs.States.{State}
use Rattle.glsl_semantics.specs.Expressions.{Program, Argument}
use Rattle.expr_forward.specs.declared.kinds.InstKind.TheVariants as kind
use Rattle.expr_forward.specs.declared.kinds.OperationKind.{OperationKind}
use Rattle.expr_forward.specs.Kinds.{kind_of, operation_kind_of}
use Rattle.expr_forward.specs.Scope.{Scope}
use Rattle.expr_forward.specs.Statements.{is_variable_form}
use Rattle.expr_forward.specs.Values.{value}
use Rattle.function_text.specs.Functions.{FunctionPlan}
use Rattle.unit_rules.specs.Unit.{IsUnitOf}
use Rattle.region_law.specs.Leads.{In}
use Rattle.agree_law.specs.Agree.{Naming}
use Rattle.agree_law.specs.Blocks.{IsOf, read_ids, reads, outcome, At}
use Rattle.agree_law.specs.Points.{Body}
use Rattle.claim_law.specs.Ranked.{operand_ids}
use Rattle.call_law.specs.Known.{IsFunctionOf, LendsWhole}
use Rattle.plan_law.specs.InOrder.{IsAmong}
use Rattle.typed_law.specs.Conforms.{IsConforming, IsConformingIn}
use Rattle.typed_law.proofs.Values.{inside}
use Rattle.claim_law.specs.Claimed.{IsIn}
use Rattle.grammar_law.proofs.Unit.Lists.{as_in}
use Rattle.grammar_law.proofs.Unit.Links.{placed_in}
use Rattle.grammar_law.proofs.Unit.Operands.{same_ids, operand_shaped, operation_no_phi, operand_mentioned}
use Rattle.grammar_law.proofs.Unit.Ways.{HaveKinds, F, R, V, in_module, reached_nth}
use Rattle.grammar_law.proofs.Meets.LiveOrGone.{placed_live}
use Rattle.grammar_law.specs.Formed.{IsFormedBlock, IsFormedFunction}
use Rattle.grammar_law.proofs.Formed.Blocks.{reached_body, reached_only}
use Rattle.grammar_law.proofs.Formed.Inner.{is_inner}
use Rattle.text_law.proofs.Naming.Keys.{S, names}
use Rattle.text_law.proofs.Written.Expressed.{is_operation, operands_by, variable_live}
use Rattle.text_law.proofs.Written.NamesOf.{names_are}
use Rattle.text_law.proofs.Written.Says.{IsReady, SaysSo, IsLeftOfValues, measured_pointer, ready_says, only}
use Rattle.text_law.proofs.Insts.KindSteps.{gives, gives_result, value_step, value_unnamed}
use Rattle.text_law.proofs.Insts.New.{split_behind, stands_in, stands_among}

module _ (m : ModuleState) (opts : Options) (right : IsConforming m opts.entry) (kinds : HaveKinds m.globals) (unit : TranslationUnit) (u : IsUnitOf m opts unit) (inv : Invocation) (p : FunctionPlan) (among : IsIn p u.plans) (lends : LendsWhole (S m opts unit u inv)) where
  abbrev s : Setting
  s = S m opts unit u inv

  abbrev N : Naming
  N = names m opts unit u inv p

  abbrev Fn : Function
  Fn = F s opts.entry right kinds opts unit u p among

  abbrev Where : Scope
  Where = V s opts.entry right kinds opts unit u p among

  abbrev Marks : List Bool
  Marks = R s opts.entry right kinds opts unit u p among

  in_it : IsConformingIn m Fn
  in_it = inside s opts.entry right Fn (in_module s opts.entry right kinds opts unit u p among)

  module _ (is_one : IsFunctionOf Fn m.functions) (inner : (j : Inst) → IsAmong j (insts_of Fn) → is_inner (group_of j.op) ≡ true) (program : Program) (calls : Text → List Argument → State → Result (Option Typed × State)) (Holds : Conf → Type 0) (form : IsFormedFunction Fn)
      (b : ℕ) (o : Body Fn b) (has : reached_body Fn form b ≡ Some o) (done befores : List Inst) (i : Inst) (rest : List Inst) (split : o.insts ≡ befores ++ i ∷ rest) (all : (j : Inst) → IsOf j befores → IsOf j done) where
    abbrev pub block : IsFormedBlock o.block.insts
    block = form.blocks b o.block o.there

    abbrev R' : List Inst
    R' = rest ++ o.last ∷ []

    pub split_so : block.behind ≡ befores ++ i ∷ R'
    split_so = split_behind m Fn in_it.order in_it.formed inner b o block befores i rest split

    pub there : IsAmong i (insts_of Fn)
    there = stands_among m Fn in_it.order in_it.formed inner b o block befores i rest split

    pub here : slice_index_or Marks b false ≡ true
    here = reached_nth (graph Fn) b ∙ reached_only Fn form b o has

    pub place : (n : ℕ) × (inst_at Fn b n ≡ Some i)
    place = placed_in Fn b o.block i o.there (stands_in m Fn in_it.order in_it.formed inner b o block befores i rest split)

    -- what is left at a state
    abbrev pub LeftAt : (c : Supplied Conf) (z : State) → At N s Holds Fn b done (i ∷ R') c z → Type 0
    LeftAt c z at = IsLeftOfValues s opts.entry right kinds opts unit u p among lends b is_one program calls N (names_are m opts right kinds unit u inv p among lends b) Holds done c z at.stands o block befores i R' split_so all

    abbrev pub Says : (c : Supplied Conf) (z : State) → At N s Holds Fn b done (i ∷ R') c z → ℕ → ℕ → ValueTree → Type 0
    Says c z at k n v = SaysSo s opts.entry right kinds opts unit u p among lends b is_one program calls N (names_are m opts right kinds unit u inv p among lends b) Holds done c z at.stands o block befores i R' split_so all (value Where b k) n v

    module _ (q : OperationKind) (is : kind_of i.op ≡ kind.Value q) (on : is_variable_form (Where.form i.result) ≡ true) (t : Tree) (shaped : type_tree m.globals i.ty ≡ Some t) where
      some : i.result ≡ 0 → ⊥
      some = (in_it.formed i there).result (gives_result i.op (ap gives is))

      live : IsLive Fn Marks b place.0
      live =
          placed_live s opts.entry right kinds opts unit u p among b place.0 i place.1
          (variable_live s opts.entry right kinds opts unit u p among i (as_in (insts_of Fn) i there) some on)

      pub ready : (k : ℕ) → IsIn k (operand_ids i) → IsReady s opts.entry right kinds opts unit u p among lends b i.at k
      ready k operand =
          let shape = operand_shaped s opts.entry right Fn (in_module s opts.entry right kinds opts unit u p among) i there t shaped k operand in
          record {
            value = record {
              user = i;
              mentioned = operand_mentioned s opts.entry right Fn (in_module s opts.entry right kinds opts unit u p among) i there Marks b place.0 place.1 here live k operand;
              no_phi = operation_no_phi s opts.entry right Fn (in_module s opts.entry right kinds opts unit u p among) i there k operand;
              shape = shape.0;
              shaped = shape.1;
            };
            early = (let itself : i.at ≤ i.at = omega arith in itself);
          }

      pub operand : step_kind i.op ≡ steps.operation → (k : ℕ) → In k (reads i) → IsIn k (operand_ids i)
      operand step k read =
          subst (IsIn k) (sym (same_ids (operation_kind_of i.op) i))
          (operands_by i.op i.args k (inner i there) (value_unnamed i.op q is) (ap is_operation step) (in_it.formed i there).most (subst (λ (x : steps.StepKind). In k (read_ids x i)) step read))

      -- the law: its operands say their values
      pub operands_say : (c : Supplied Conf) (z : State) (at : At N s Holds Fn b done (i ∷ R') c z) → LeftAt c z at → (v : ValueTree) → outcome (step_kind i.op) s c.at.top i ≡ Some (holds_value v) → (k : ℕ) → In k (reads i) → (w : ValueTree) → value_at s c.at.top k ≡ Some w → Says c z at k k w
      operands_say c z at left v gives_it k read w has_it = by_step (value_step i.op q is)
        where
          by_step : (step_kind i.op ≡ steps.operation) ⊎ (step_kind i.op ≡ steps.array_length) → Says c z at k k w
          by_step (inl step) =
              ready_says s opts.entry right kinds opts unit u p among lends b is_one program calls N (names_are m opts right kinds unit u inv p among lends b) Holds done c z at.stands o block befores i R' split_so all left
              k (ready k (operand step k read)) w has_it
          by_step (inr step) =
              let same : arg i 0 ≡ k = only (arg i 0) k (subst (λ (x : steps.StepKind). In k (read_ids x i)) step read) in
              absurd (measured_pointer s c.at.top i (holds_value v) (sym (ap (λ (x : steps.StepKind). outcome x s c.at.top i) step) ∙ gives_it) w (ap (value_at s c.at.top) same ∙ has_it))
