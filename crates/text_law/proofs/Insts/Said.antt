-- So operations say what they give in the plan's own scope; and of the instructions of blocks are left what places stand for, what inserts assign, calls, and the semantics of barriers.
use Rattle.std.proofs.Common.{◌≡◌, ◌++◌, ℕ, true, false, List, [], ◌∷◌, Option, Some, refl, sym, ap, subst}
use Rattle.std.proofs.lemmas.Bool.{true_from_ne_false}
use Rattle.spv_ops.specs.Opcode.{is}
use Rattle.spv_ops.specs.Groups.{is_chain}
use Rattle.spv_ops.specs.OpGroups.{group_of}
use Rattle.spv_ops.specs.declared.Op.TheVariants as code
use Rattle.spv_module.specs.Inst.{has_type}
use Rattle.spv_module.specs.State.{ModuleState}
use Rattle.spv_module.specs.declared.inst.Inst.{Inst}
use Rattle.spv_module.specs.declared.inst.Function.{Function}
use Rattle.spv_types.specs.Tree.{Tree, ValueTree}
use Rattle.spv_types.specs.Types.{type_tree}
use Rattle.spv_types.specs.Leaves.{IsSized}
use Rattle.spv_index.specs.Locals.{insts_of}
use Rattle.conformance.specs.Rules.{Options}
use Rattle.traces.specs.Invocations.{Invocation}
use Rattle.traces.specs.Runs.{Supplied}
use Rattle.traces.specs.Outcomes.{Result, got}
use Rattle.module_semantics.specs.Setting.{Setting}
use Rattle.module_semantics.specs.State.{value as holds_value, Conf}
use Rattle.module_semantics.specs.Operands.{value_at, arg}
use Rattle.module_semantics.specs.Steps.{step_kind}
use Rattle.hoist_plan.specs.declared.form.Form.TheVariants.{Local}
use Rattle.hoist_plan.specs.Plan.{is_value}
use Rattle.glsl_ast.specs.Tree.{Text, TranslationUnit}
use Rattle.glsl_semantics.specs.Shapes.{Typed, typed}
use Rattle.glsl_semantics.specs.States.{State}
use Rattle.glsl_semantics.specs.Expressions.{Program, Argument, evaluate}
use Rattle.expr_forward.specs.declared.kinds.InstKind.{InstKind}
use Rattle.expr_forward.specs.declared.kinds.InstKind.TheVariants as kind
use Rattle.expr_forward.specs.declared.kinds.OperationKind.{OperationKind}
use Rattle.expr_forward.specs.Kinds.{kind_of}
use Rattle.expr_forward.specs.Scope.{Scope}
use Rattle.expr_forward.specs.Statements.{captured_of, is_variable_form}
use Rattle.expr_forward.specs.Values.{value, expression}
use Rattle.function_text.specs.Functions.{FunctionPlan, written}
use Rattle.unit_rules.specs.Unit.{IsUnitOf}
use Rattle.region_law.specs.Leads.{In}
use Rattle.agree_law.specs.Agree.{Naming, AreApart}
use Rattle.agree_law.specs.Blocks.{IsOf, reads, outcome, At}
use Rattle.agree_law.specs.Evaluates.{IsKept}
use Rattle.agree_law.specs.Points.{Body}
use Rattle.agree_law.proofs.Machine.{machine}
use Rattle.call_law.specs.Known.{IsFunctionOf, LendsWhole}
use Rattle.plan_law.specs.InOrder.{IsAmong}
use Rattle.plan_law.proofs.Order.{found}
use Rattle.typed_law.specs.Conforms.{IsConforming, IsConformingIn}
use Rattle.typed_law.proofs.Values.{inside}
use Rattle.grammar_law.proofs.Ruled.Ruled.{contains_of}
use Rattle.claim_law.specs.Claimed.{IsIn}
use Rattle.grammar_law.proofs.Unit.Lists.{as_in}
use Rattle.grammar_law.proofs.Unit.Sets.{chain_no_phi}
use Rattle.grammar_law.proofs.Unit.Ways.{HaveKinds, F, V, in_module, plan_is, written_is}
use Rattle.grammar_law.specs.Formed.{IsFormedFunction}
use Rattle.grammar_law.proofs.Formed.Blocks.{reached_body}
use Rattle.grammar_law.proofs.Formed.Inner.{is_inner}
use Rattle.text_law.specs.Types.{IsTypeOfText}
use Rattle.text_law.proofs.Naming.Keys.{S, key, names}
use Rattle.text_law.proofs.Naming.Once.{chain_result}
use Rattle.text_law.proofs.Written.Expressed.{variable_value}
use Rattle.text_law.proofs.Insts.KindSteps.{gives, gives_result}
use Rattle.text_law.proofs.Insts.New.{stands_among, is_new, is_free}
use Rattle.text_law.proofs.Insts.Asks.{LeftBy, IsLeftOfInsts}
use Rattle.text_law.proofs.Insts.Barriers.{HasNoBarriers, AreRead, memory_barrier_left, control_barrier_left}
use Rattle.text_law.proofs.Insts.Indexes.{HasIndex, chain_left}
use Rattle.text_law.proofs.Insts.Values.{LeftAt, Says, operands_say}

module _ (m : ModuleState) (opts : Options) (right : IsConforming m opts.entry) (kinds : HaveKinds m.globals) (unit : TranslationUnit) (u : IsUnitOf m opts unit) (inv : Invocation) (p : FunctionPlan) (among : IsIn p u.plans) (lends : LendsWhole (S m opts unit u inv)) where
  abbrev s : Setting
  s = S m opts unit u inv

  abbrev N : Naming
  N = names m opts unit u inv p

  abbrev Fn : Function
  Fn = F s opts.entry right kinds opts unit u p among

  abbrev Where : Scope
  Where = V s opts.entry right kinds opts unit u p among

  abbrev IsInnerOf : Inst → Type 0
  IsInnerOf j = (is_inner (group_of j.op) ≡ true) × (has_type j.op ≡ false → j.result ≡ 0)

  abbrev HasShape : Inst → Type 0
  HasShape j = has_type j.op ≡ true → is_value m.globals j.ty ≡ true → (t : Tree) × (type_tree m.globals j.ty ≡ Some t) × IsSized t

  module _ (one : IsFunctionOf Fn m.functions) (inner : (j : Inst) → IsAmong j (insts_of Fn) → IsInnerOf j) (shapes : (j : Inst) → IsAmong j (insts_of Fn) → HasShape j) (program : Program) (calls : Text → List Argument → State → Result (Option Typed × State)) (Holds : Function → Conf → Type 0) where
    in_it : IsConformingIn m Fn
    in_it = inside s opts.entry right Fn (in_module s opts.entry right kinds opts unit u p among)

    pub inner_of : (j : Inst) → IsAmong j (insts_of Fn) → is_inner (group_of j.op) ≡ true
    inner_of j there = (inner j there).0

    -- an operation that is written to a variable says what it gives
    abbrev pub SayOperations : Scope → Type 0
    SayOperations v = (form : IsFormedFunction v.setting.function) (b : ℕ) (o : Body v.setting.function b) → reached_body v.setting.function form b ≡ Some o → (done befores : List Inst) (i : Inst) (rest : List Inst) → o.insts ≡ befores ++ i ∷ rest → ((j : Inst) → IsOf j befores → IsOf j done)
        → (q : OperationKind) → kind_of i.op ≡ kind.Value q → is_variable_form (v.form i.result) ≡ true → (c : Supplied Conf) (z : State) → At N s (Holds v.setting.function) v.setting.function b done (i ∷ (rest ++ o.last ∷ [])) c z
        → (x : ValueTree) → outcome (step_kind i.op) s c.at.top i ≡ Some (holds_value x) → evaluate program calls (expression v (value v b) b i) z ≡ got [] (typed (N.shape i.result) x, z)

    -- what is left: that of the values of the block, and that the text of the operation says what it makes of its operands
    pub record IsLeftOfOperation (form : IsFormedFunction Fn) (b : ℕ) (o : Body Fn b) (has : reached_body Fn form b ≡ Some o) (done befores : List Inst) (i : Inst) (rest : List Inst) (split : o.insts ≡ befores ++ i ∷ rest) (all : (j : Inst) → IsOf j befores → IsOf j done)
        (c : Supplied Conf) (z : State) (at : At N s (Holds Fn) Fn b done (i ∷ (rest ++ o.last ∷ [])) c z) : Type 0 where
      pub values : LeftAt m opts right kinds unit u inv p among lends one inner_of program calls (Holds Fn) form b o has done befores i rest split all c z at
      pub lowers : (q : OperationKind) → kind_of i.op ≡ kind.Value q → is_variable_form (Where.form i.result) ≡ true → (t : Tree) → type_tree m.globals i.ty ≡ Some t → (x : ValueTree) → outcome (step_kind i.op) s c.at.top i ≡ Some (holds_value x)
          → ((k : ℕ) → In k (reads i) → (w : ValueTree) → value_at s c.at.top k ≡ Some w → Says m opts right kinds unit u inv p among lends one inner_of program calls (Holds Fn) form b o has done befores i rest split all c z at k k w)
          → evaluate program calls (expression Where (value Where b) b i) z ≡ got [] (typed (N.shape i.result) x, z)

    abbrev pub AreLeftOfOperations : Type 0
    AreLeftOfOperations = (form : IsFormedFunction Fn) (b : ℕ) (o : Body Fn b) (has : reached_body Fn form b ≡ Some o) (done befores : List Inst) (i : Inst) (rest : List Inst) (split : o.insts ≡ befores ++ i ∷ rest) (all : (j : Inst) → IsOf j befores → IsOf j done) (c : Supplied Conf) (z : State)
        (at : At N s (Holds Fn) Fn b done (i ∷ (rest ++ o.last ∷ [])) c z) → IsLeftOfOperation form b o has done befores i rest split all c z at

    say_there : AreLeftOfOperations → SayOperations Where
    say_there left form b o has done befores i rest split all q e on c z at x told =
        let l = left form b o has done befores i rest split all c z at in
        let there = stands_among m Fn in_it.order in_it.formed inner_of b o (form.blocks b o.block o.there) befores i rest split in
        let result = (in_it.formed i there).result (gives_result i.op (ap gives e)) in
        let t = shapes i there (true_from_ne_false (has_type i.op) (λ off. result ((inner i there).1 off))) (variable_value s opts.entry right kinds opts unit u p among i (as_in (insts_of Fn) i there) result on) in
        l.lowers q e on t.0 t.1 x told (operands_say m opts right kinds unit u inv p among lends one inner_of program calls (Holds Fn) form b o has done befores i rest split all q e on t.0 t.1 c z at l.values x told)

    pub say_operations : AreLeftOfOperations → SayOperations p.scope
    say_operations left = subst SayOperations (sym (plan_is s opts.entry right kinds opts unit u p among).scope_is) (say_there left)

    -- so of all instructions
    module _ (k : ℕ) (apart : AreApart N) (keeps : IsKept (machine s) (Holds (written p))) (form : IsFormedFunction (written p)) (is_one : IsFunctionOf (written p) m.functions) (none : HasNoBarriers program) where
      abbrev L : (b : ℕ) (o : Body (written p) b) (done : List Inst) (i : Inst) (rest : List Inst) → InstKind → Type 0
      L b o done i rest q = LeftBy m opts right kinds unit u inv p among lends is_one program calls k apart (Holds (written p)) keeps form b o done i rest q

      abbrev A : (b : ℕ) (o : Body (written p) b) (done : List Inst) (i : Inst) (rest : List Inst) → ℕ → Type 0
      A b o done i rest n = AreRead m opts right kinds unit u inv p among lends is_one program calls k apart (Holds (written p)) keeps form none b o done i rest n

      -- by what is written: of operations nothing more, of a chain that its kept indexes have variables, and of a barrier that the text reads its semantics
      abbrev pub PlaceBy : (b : ℕ) (o : Body (written p) b) (done : List Inst) (i : Inst) (rest : List Inst) → InstKind → Type 0
      PlaceBy b o done i rest (kind.Value q) = Unit {0}
      PlaceBy b o done i rest kind.Chain = (x : ℕ × ℕ) → IsIn x (captured_of p.scope i) → HasIndex m opts right kinds unit u inv p among lends is_one program calls k apart (Holds (written p)) keeps form b o done i rest x.0 x.1
      PlaceBy b o done i rest kind.ControlBarrier = A b o done i rest (arg i 2)
      PlaceBy b o done i rest kind.MemoryBarrier = A b o done i rest (arg i 1)
      PlaceBy b o done i rest q = L b o done i rest q

      pub record IsLeftOfPlaces : Type 0 where
        pub places : (b : ℕ) (o : Body (written p) b) → reached_body (written p) form b ≡ Some o → (done befores : List Inst) (i : Inst) (rest : List Inst) → o.insts ≡ befores ++ i ∷ rest → ((j : Inst) → IsOf j done → IsOf j befores) → ((j : Inst) → IsOf j befores → IsOf j done) → PlaceBy b o done i rest (kind_of i.op)
        pub types : (b : ℕ) (o : Body (written p) b) → reached_body (written p) form b ≡ Some o → (i : Inst) → IsIn i o.block.insts → p.scope.form i.result ≡ Local → IsTypeOfText program s opts.overrides (key m opts unit u inv) i.ty

      module _ (says : SayOperations p.scope) (b : ℕ) (o : Body (written p) b) (has : reached_body (written p) form b ≡ Some o) (done befores : List Inst) (i : Inst) (rest : List Inst) (split : o.insts ≡ befores ++ i ∷ rest) (only : (j : Inst) → IsOf j done → IsOf j befores) (all : (j : Inst) → IsOf j befores → IsOf j done) where
        inside_it : IsConformingIn m (written p)
        inside_it = inside s opts.entry right (written p) (contains_of m.functions (written p) is_one)

        inner_there : (j : Inst) → IsAmong j (insts_of (written p)) → is_inner (group_of j.op) ≡ true
        inner_there = subst (λ (h : Function). (j : Inst) → IsAmong j (insts_of h) → is_inner (group_of j.op) ≡ true) (sym (written_is s opts.entry right kinds opts unit u p among)) inner_of

        there : IsAmong i (insts_of (written p))
        there = stands_among m (written p) inside_it.order inside_it.formed inner_there b o (form.blocks b o.block o.there) befores i rest split

        chains : (j : Inst) → IsAmong j (insts_of (written p)) → is_chain j.op ≡ true → (j.result ≡ 0 → ⊥) × (is j.op code.Phi ≡ false)
        chains j j_in on = ((inside_it.formed j j_in).result (chain_result j.op on), chain_no_phi j.op on)

        left_by : (q : InstKind) → kind_of i.op ≡ q → PlaceBy b o done i rest q → L b o done i rest q
        left_by (kind.Value q) e place = λ on c z at x told. says form b o has done befores i rest split all q e on c z at x told
        left_by kind.Chain e place =
            let some = (inside_it.formed i there).result (gives_result i.op (ap gives e)) in
            chain_left m opts right kinds unit u inv p among lends is_one program calls k apart (Holds (written p)) keeps form b o done i rest e
            (is_new m (written p) inside_it.order inside_it.formed inner_there b o (form.blocks b o.block o.there) befores i rest split some done only)
            (is_free m (written p) inside_it.order inside_it.formed inner_there b o (form.blocks b o.block o.there) befores i rest split some done only chains)
            (found i (insts_of (written p)) inside_it.order.apart there some) place
        left_by kind.ControlBarrier e place = control_barrier_left m opts right kinds unit u inv p among lends is_one program calls k apart (Holds (written p)) keeps form none b o done i rest place
        left_by kind.MemoryBarrier e place = memory_barrier_left m opts right kinds unit u inv p among lends is_one program calls k apart (Holds (written p)) keeps form none b o done i rest place
        left_by q e place = place

      -- the law
      pub left_of_insts : AreLeftOfOperations → IsLeftOfPlaces → IsLeftOfInsts m opts right kinds unit u inv p among lends is_one program calls k apart (Holds (written p)) keeps form
      left_of_insts operations left = record {
        insts = λ b o has done befores i rest split only all. left_by (say_operations operations) b o has done befores i rest split only all (kind_of i.op) refl (left.places b o has done befores i rest split only all);
        types = left.types;
      }
