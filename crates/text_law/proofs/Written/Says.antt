-- What the values of a block are written as says what they have: those that an instruction mentions which stands no later than the one that is next.
use Rattle.std.proofs.Common.{◌≡◌, ◌⊎◌, ◌≤◌, ◌<◌, ◌==◌, ◌&&◌, ℕ, Bool, true, false, List, [], ◌∷◌, ◌++◌, Option, Some, None, unwrap_or, inl, inr, refl, sym, ap, ◌∙◌, subst, arith}
use Rattle.std.specs.Prelude.{slice_get, slice_index_or, option_map, option_and_then}
use Rattle.std.proofs.lemmas.Option.{same_Some, none-some}
use Rattle.spv_ops.specs.OpGroups.{group_of}
use Rattle.spv_module.specs.Held.{global}
use Rattle.spv_module.specs.Lists.{id}
use Rattle.spv_module.specs.declared.inst.Inst.{Inst}
use Rattle.spv_module.specs.declared.inst.Block.{Block}
use Rattle.spv_module.specs.declared.inst.Function.{Function}
use Rattle.spv_types.specs.Tree.{Tree, ValueTree, word}
use Rattle.spv_types.specs.Types.{type_tree}
use Rattle.spv_index.specs.Locals.{insts_of, inst_in, type_in}
use Rattle.conformance.specs.Rules.{Options}
use Rattle.traces.specs.Runs.{Supplied}
use Rattle.traces.specs.Outcomes.{Result, got}
use Rattle.module_semantics.specs.Setting.{Setting}
use Rattle.module_semantics.specs.State.{Held, value as holds_value, pointer, Frame, Conf}
use Rattle.module_semantics.specs.Memory.{elements}
use Rattle.module_semantics.specs.Accesses.{seen}
use Rattle.module_semantics.specs.Operands.{of_module, held, as_value, as_pointer, Target, value_at, arg}
use Rattle.module_semantics.specs.Steps as steps
use Rattle.module_semantics.specs.Steps.{step_kind, is_phi}
use Rattle.use_chains.specs.Slots.{inst_at}
use Rattle.hoist_plan.specs.declared.form.Form.{Form}
use Rattle.hoist_plan.specs.declared.form.Form.TheVariants.{Gone, Forwarded, Local, Hoisted}
use Rattle.name_alloc.specs.declared.claims.Key.TheVariants.{Id}
use Rattle.glsl_ast.specs.Tree.{Text, Expr, name, TranslationUnit}
use Rattle.glsl_semantics.specs.Shapes.{Typed, typed}
use Rattle.glsl_semantics.specs.States.{State}
use Rattle.glsl_semantics.specs.Expressions.{Program, Argument, evaluate}
use Rattle.expr_forward.specs.Scope.{Scope, type_of}
use Rattle.expr_forward.specs.Values.{value, expression}
use Rattle.function_plan.specs.Planned.{is_named_in}
use Rattle.function_text.specs.Functions.{FunctionPlan, is_hoisted}
use Rattle.unit_rules.specs.Unit.{IsUnitOf}
use Rattle.list_law.proofs.Tests.{and_left}
use Rattle.region_law.specs.Leads.{In}
use Rattle.agree_law.specs.Agree.{Naming}
use Rattle.agree_law.specs.Blocks.{IsOf, have_result, measured, outcome, has_outcome, read_ids, reads, Stands}
use Rattle.agree_law.specs.Points.{Body}
use Rattle.agree_law.proofs.Values.{Way, value_held, value_says}
use Rattle.claim_law.specs.Ranked.{operand_ids, AreBelow, AreUsableBelow, IsForwardedBy, IsRanked}
use Rattle.claim_law.proofs.Block.Steady.{written_as, written_by_name}
use Rattle.call_law.specs.Known.{IsFunctionOf, LendsWhole}
use Rattle.typed_law.specs.Conforms.{IsConforming}
use Rattle.typed_law.proofs.Values.{typed_result, has_a_type, inside}
use Rattle.claim_law.specs.Claimed.{IsIn, HasName}
use Rattle.claim_law.proofs.Claim.Constants.{found_in}
use Rattle.claim_law.proofs.Claim.Listed.{at_place}
use Rattle.grammar_law.specs.Mentioned.{IsValueIn}
use Rattle.grammar_law.proofs.Unit.Lists.{same_test, as_among}
use Rattle.grammar_law.proofs.Unit.Shaped.{shaped_value}
use Rattle.grammar_law.proofs.Unit.Ranked.{rank_falls}
use Rattle.grammar_law.proofs.Unit.Ways.{HaveKinds, Found, F, R, V, in_module, plan_is, ordered, counts_here, IsOwnResult, ways}
use Rattle.grammar_law.proofs.Unit.Operands.{operand_shaped, operation_no_phi, operand_mentioned}
use Rattle.grammar_law.proofs.Unit.Usable.{Ranks, ranked}
use Rattle.grammar_law.specs.Formed.{IsFormedBlock}
use Rattle.grammar_law.proofs.Formed.Inner.{is_inner}
use Rattle.text_law.specs.Names.{is_result, is_value_parameter, is_local_form}
use Rattle.text_law.proofs.Written.Done.{maker_before, done_before}
use Rattle.text_law.proofs.Written.Mentions.{length_mentions, length_no_undef}
use Rattle.text_law.proofs.Written.Expressed.{no_zero, local_no_phi, forwarded_kind, forwarded_operands}
use Rattle.text_law.proofs.Written.Outside.{no_global}
use Rattle.text_law.proofs.Written.Placed.{IsMadeBy, maker, home_is, IsPlaced, placed}

pub local_form_is : (x : Form) → is_local_form x ≡ true → x ≡ Local
local_form_is Local on = refl
local_form_is Gone on = cc
local_form_is Forwarded on = cc
local_form_is Hoisted on = cc

-- a list of one
pub only : (a k : ℕ) → In k (a ∷ []) → a ≡ k
only a k (inl same) = sym same
only a k (inr none) = absurd none

-- what has the length of an array has a pointer to it
pub measured_pointer : (s : Setting) (f : Frame) (i : Inst) (h : Held) → measured s f i ≡ Some h → (w : ValueTree) → value_at s f (arg i 0) ≡ Some w → ⊥
measured_pointer s f i h is w has = by_held (held s f (arg i 0)) is has
  where
    by_held : (x : Option Held) → option_and_then (λ (p : Target). option_map (λ (v : Inst). holds_value (word (elements s v (arg i 1)))) (seen s p.0)) (as_pointer x) ≡ Some h → as_value x ≡ Some w → ⊥
    by_held None is has = cc
    by_held (Some (holds_value u)) is has = cc
    by_held (Some (pointer r path)) is has = cc

-- one of these has this result
pub have_done : (is : List Inst) (j : Inst) (n : ℕ) → IsOf j is → j.result ≡ n → have_result is n ≡ true
have_done [] j n one same = absurd one
have_done (i ∷ is) j n (inl here) same = by_test (n == i.result) (same_test n i.result (sym (ap (λ (x : Inst). x.result) here ∙ same)))
  where
    by_test : (t : Bool) → t ≡ true → elim t [ true ↦ true | false ↦ have_result is n ] ≡ true
    by_test true on = refl
    by_test false on = cc
have_done (i ∷ is) j n (inr later) same = by_test (n == i.result) (have_done is j n later same)
  where
    by_test : (t : Bool) → have_result is n ≡ true → elim t [ true ↦ true | false ↦ have_result is n ] ≡ true
    by_test true on = refl
    by_test false on = on

below_in : (rank : ℕ → ℕ) (n : ℕ) (ids : List ℕ) (k : ℕ) → AreBelow rank n ids → IsIn k ids → rank k < n
below_in rank n [] k below among = absurd among
below_in rank n (id ∷ ids) k below (inl same) = subst (λ (x : ℕ). rank x < n) same below.0
below_in rank n (id ∷ ids) k below (inr among) = below_in rank n ids k below.1 among

inst_of_block : (f : Function) (b k : ℕ) (block : Block) (j : Inst) → slice_get f.blocks b ≡ Some block → inst_at f b k ≡ Some j → IsIn j block.insts
inst_of_block f b k block j there at = at_place block.insts k j (sym (ap (option_and_then (λ (x : Block). slice_get x.insts k)) there) ∙ at)

module _ (s : Setting) (entry : Option (List ℕ)) (right : IsConforming s.of entry) (kinds : HaveKinds s.of.globals) (o : Options) (unit : TranslationUnit) (u : IsUnitOf s.of o unit) (p : FunctionPlan) (among : IsIn p u.plans) (lends : LendsWhole s) (b : ℕ) where
  abbrev gs : List Inst
  gs = s.of.globals

  abbrev Fn : Function
  Fn = F s entry right kinds o unit u p among

  abbrev Where : Scope
  Where = V s entry right kinds o unit u p among

  abbrev Marks : List Bool
  Marks = R s entry right kinds o unit u p among

  abbrev rank : ℕ → ℕ
  rank = Ranks s entry right kinds o unit u p among

  whole_of : (n : ℕ) (t : Tree) → type_tree gs (type_of Where n) ≡ Some t → option_and_then (type_tree gs) (type_in gs Fn n) ≡ Some t
  whole_of n t shaped = by_type (type_in gs Fn n) shaped
    where
      by_type : (x : Option ℕ) → type_tree gs (unwrap_or x 0) ≡ Some t → option_and_then (type_tree gs) x ≡ Some t
      by_type None shaped = absurd (no_zero s entry right 0 t shaped refl)
      by_type (Some ty) shaped = shaped

  some_result : (j : Inst) → IsIn j (insts_of Fn) → (j.ty ≡ 0 → ⊥) → j.result ≡ 0 → ⊥
  some_result j there some =
      let formed = (inside s entry right Fn (in_module s entry right kinds o unit u p among)).formed j (as_among (insts_of Fn) j there) in
      formed.result (typed_result j.op (has_a_type j formed some))

  -- an instruction of the block mentions the value, and stands no later than this word
  pub record IsReady (at n : ℕ) : Type 0 where
    pub value : IsValueIn Where Marks b n
    pub early : value.user.at ≤ at

  -- a value that is ready and stands in expressions: so are its operands
  module _ (at n : ℕ) (r : IsReady at n) (j : Inst) (own : IsOwnResult s entry right kinds o unit u p among b n r.value.shape j) where
    of_it : IsIn j (insts_of Fn) × (j.result ≡ n)
    of_it = found_in (insts_of Fn) n j own.0

    made_early : j.at < r.value.user.at
    made_early =
        maker_before s.of Fn (ordered s entry right kinds o unit u p among) Marks b r.value.user n r.value.mentioned r.value.no_phi j own.0
        (some_result j of_it.0 (no_zero s entry right j.ty r.value.shape own.3))

    operand_ready : (k : ℕ) → IsIn k (operand_ids j) → IsReady at k
    operand_ready k operand =
        let shape = operand_shaped s entry right Fn (in_module s entry right kinds o unit u p among) j (as_among (insts_of Fn) j of_it.0) r.value.shape own.3 k operand in
        let less = made_early in
        let early = r.early in
        record {
          value = record {
            user = j;
            mentioned = operand_mentioned s entry right Fn (in_module s entry right kinds o unit u p among) j (as_among (insts_of Fn) j of_it.0) Marks b own.2.0 own.2.1 r.value.mentioned.here own.2.2 k operand;
            no_phi = operation_no_phi s entry right Fn (in_module s entry right kinds o unit u p among) j (as_among (insts_of Fn) j of_it.0) k operand;
            shape = shape.0;
            shaped = shape.1;
          };
          early = omega (arith, less, early);
        }

    all_ready : (ids : List ℕ) → ((k : ℕ) → IsIn k ids → IsIn k (operand_ids j)) → AreBelow rank (rank n) ids → AreUsableBelow (IsReady at) rank (rank n) ids
    all_ready [] sub below = tt
    all_ready (k ∷ ids) sub below = (operand_ready k (sub k (inl refl)), below.0, all_ready ids (λ x x_in. sub x (inr x_in)) below.1)

  ready_falls : (at n : ℕ) (i : Inst) → IsReady at n → IsForwardedBy Where n i → AreUsableBelow (IsReady at) rank (rank n) (operand_ids i)
  ready_falls at n i r by = by_way (ways s entry right kinds o unit u p among b n r.value by.local)
    where
      by_way : (HasName (Found s entry right kinds o unit u p among) (Id (id n)) × (Where.form n ≡ Forwarded → ⊥)) ⊎ ((j : Inst) × IsOwnResult s entry right kinds o unit u p among b n r.value.shape j) → AreUsableBelow (IsReady at) rank (rank n) (operand_ids i)
      by_way (inl named) = absurd (named.1 by.form)
      by_way (inr w) =
          let same : w.0 ≡ i = same_Some w.0 i (sym w.1.0 ∙ by.there) in
          subst (λ (j : Inst). AreUsableBelow (IsReady at) rank (rank n) (operand_ids j)) same
          (all_ready at n r w.0 w.1 (operand_ids w.0) (λ k k_in. k_in)
          (subst (λ (j : Inst). AreBelow rank (rank n) (operand_ids j)) (sym same) ((ranked s entry right kinds o unit u p among b).falls n i r.value by)))

  ready_ranked : (at : ℕ) → IsRanked Where (IsReady at) rank
  ready_ranked at = record { falls = ready_falls at; low = (ranked s entry right kinds o unit u p among b).low }

  -- the names of the function's text are those of the plan
  pub record AreNamesOf (N : Naming) : Type 0 where
    pub name_is : (n : ℕ) → N.name n ≡ Where.setting.key (Id (id n))
    pub parameter : (n : ℕ) → is_value_parameter gs Fn n ≡ true → N.is_outer n ≡ true
    pub hoisted : (n : ℕ) → (is_hoisted (Where.form n) && is_result Fn n) ≡ true → N.is_outer n ≡ true
    pub local : (n : ℕ) → (is_local_form (Where.form n) && (is_result Fn n && is_named_in Where.form p.graph Fn.blocks n)) ≡ true → N.is_local n ≡ true

  -- what has a variable has it at an instruction of the block
  module _ (is_one : IsFunctionOf Fn s.of.functions) (N : Naming) (names : AreNamesOf N) (done : List Inst) (body : Body Fn b) (formed : IsFormedBlock body.block.insts) (befores : List Inst) (i : Inst) (rest : List Inst) (split : formed.behind ≡ befores ++ i ∷ rest) (all_done : (j : Inst) → IsOf j befores → IsOf j done) where
    -- what makes a value that is ready is done
    made_done : (n : ℕ) (r : IsReady i.at n) (j : Inst) → inst_in Fn n ≡ Some j → type_tree gs j.ty ≡ Some r.value.shape → IsIn j body.block.insts → is_phi j ≡ false → IsOf j done
    made_done n r j made shaped there off =
        let of_it = found_in (insts_of Fn) n j made in
        let before = maker_before s.of Fn (ordered s entry right kinds o unit u p among) Marks b r.value.user n r.value.mentioned r.value.no_phi j made (some_result j of_it.0 (no_zero s entry right j.ty r.value.shape shaped)) in
        let early = r.early in
        all_done j (done_before s.of Fn (ordered s entry right kinds o unit u p among) b body formed befores i rest split j there off (omega (arith, before, early)))

    -- a value that has a variable
    module _ (n : ℕ) (r : IsReady i.at n) (local : Where.setting.global n ≡ None) (named : Where.form n ≡ Forwarded → ⊥) where
      abbrev pub There : Type 0
      There = (N.is_outer n ≡ true) ⊎ ((N.is_local n ≡ true) × (have_result done n ≡ true))

      pub inner_is : global gs n ≡ None
      inner_is = no_global s entry right kinds o unit u p among n r.value.shape r.value.shaped local

      by_placed : (j : Inst) (by : IsMadeBy s entry right kinds o unit u p among lends n r.value.shape j) → IsPlaced s entry right kinds o unit u p among lends is_one n r.value.shape j by b r.value.user r.value.mentioned b (counts_here s entry right kinds o unit u p among b r.value.user n r.value.mentioned r.value.no_phi) → There
      by_placed j by (inl top) = inl (names.hoisted n top)
      by_placed j by (inr (same, inl form)) =
          let home = home_is s entry right kinds o unit u p among lends is_one n r.value.shape j by b r.value.user r.value.mentioned b (counts_here s entry right kinds o unit u p among b r.value.user n r.value.mentioned r.value.no_phi) in
          let of_it = found_in (insts_of Fn) n j by.made in
          let block_is : home.1 ≡ body.block = same_Some home.1 body.block (sym home.2 ∙ (ap (λ (k : ℕ). slice_get Fn.blocks k) same ∙ body.there)) in
          let local_is : Where.form j.result ≡ Local = ap Where.form of_it.1 ∙ local_form_is (Where.form n) (and_left (is_local_form (Where.form n)) _ form) in
          inr (names.local n form, have_done done j n (made_done n r j by.made by.shaped (subst (λ (x : Block). IsIn j x.insts) block_is home.3) (local_no_phi s entry right kinds o unit u p among j of_it.0 local_is)) of_it.1)
      by_placed j by (inr (same, inr form)) = absurd (named form)

      by_maker : (is_value_parameter gs Fn n ≡ true) ⊎ ((j : Inst) × IsMadeBy s entry right kinds o unit u p among lends n r.value.shape j) → There
      by_maker (inl parameter) = inl (names.parameter n parameter)
      by_maker (inr w) = by_placed w.0 w.1 (placed s entry right kinds o unit u p among lends is_one n r.value.shape w.0 w.1 b r.value.user r.value.mentioned b (counts_here s entry right kinds o unit u p among b r.value.user n r.value.mentioned r.value.no_phi))

      pub variable_there : There
      variable_there = by_maker (maker s entry right kinds o unit u p among lends n r.value.shape (whole_of n r.value.shape r.value.shaped) inner_is)

  -- at an instruction of the block
  module _ (is_one : IsFunctionOf Fn s.of.functions) (program : Program) (calls : Text → List Argument → State → Result (Option Typed × State)) (N : Naming) (names : AreNamesOf N) (Holds : Conf → Type 0) (done : List Inst) (c : Supplied Conf) (z : State) (stands : Stands N s Holds Fn b done c z)
      (body : Body Fn b) (formed : IsFormedBlock body.block.insts) (befores : List Inst) (i : Inst) (rest : List Inst) (split : formed.behind ≡ befores ++ i ∷ rest) (all_done : (j : Inst) → IsOf j befores → IsOf j done) where
    abbrev expr : ℕ → Expr
    expr n = value Where b n

    abbrev pub SaysSo : Expr → ℕ → ValueTree → Type 0
    SaysSo e n v = evaluate program calls e z ≡ got [] (typed (N.shape n) v, z)

    -- the expression of an operation says its value, where those of its operands say theirs
    abbrev pub AreLowered : Type 0
    AreLowered = (j : Inst) → IsIn j (insts_of Fn) → (k : ℕ) → inst_at Fn b k ≡ Some j → slice_index_or Marks b false ≡ true → (step_kind j.op ≡ steps.operation → (n : ℕ) → In n (reads j) → IsReady i.at n) → (t : Tree) → type_tree gs j.ty ≡ Some t → Where.form j.result ≡ Forwarded → (v : ValueTree) → outcome (step_kind j.op) s c.at.top j ≡ Some (holds_value v) → ((k : ℕ) → In k (reads j) → (w : ValueTree) → value_at s c.at.top k ≡ Some w → SaysSo (expr k) k w) → SaysSo (expression Where expr b j) j.result v

    -- what the expressions of operations say is asked for one by one; what is read of the module says its value; and what stands in expressions is an operation, or the length of an array
    pub record IsLeftOfValues : Type 0 where
      pub own : (n : ℕ) → global gs n ≡ None → of_module s n ≡ None
      pub read : (n : ℕ) (e : Expr) → Where.setting.global n ≡ Some e → IsReady i.at n → (v : ValueTree) → value_at s c.at.top n ≡ Some v → SaysSo (expr n) n v
      pub inner_op : (j : Inst) → IsIn j (insts_of Fn) → is_inner (group_of j.op) ≡ true
      pub lowers : AreLowered

    module _ (left : IsLeftOfValues) where
      abbrev IsUsable : ℕ → Type 0
      IsUsable n = IsReady i.at n ⊎ ((v : ValueTree) → value_at s c.at.top n ≡ Some v → ⊥)

      abbrev WayOf : ℕ → Type 0
      WayOf n = Way program calls N s Holds Fn b done c z stands expr rank IsUsable n

      -- a value that has a variable
      named_way : (n : ℕ) → IsReady i.at n → Where.setting.global n ≡ None → (Where.form n ≡ Forwarded → ⊥) → WayOf n
      named_way n r local named = inl (record {
        written = written_by_name Where b n local named ∙ ap name (sym (names.name_is n));
        own = left.own n (inner_is is_one N names done body formed befores i rest split all_done n r local named);
        there = variable_there is_one N names done body formed befores i rest split all_done n r local named;
      })

      -- and one that stands in expressions
      module _ (n : ℕ) (r : IsReady i.at n) (local : Where.setting.global n ≡ None) (j : Inst) (own : IsOwnResult s entry right kinds o unit u p among b n r.value.shape j) where
        here : IsIn j (insts_of Fn) × (j.result ≡ n)
        here = found_in (insts_of Fn) n j own.0

        by_it : IsForwardedBy Where n j
        by_it = record { local = local; form = own.1; there = own.0 }

        kind_is : ((step_kind j.op ≡ steps.operation) ⊎ (step_kind j.op ≡ steps.array_length)) × (is_phi j ≡ false)
        kind_is = forwarded_kind s entry right kinds o unit u p among j here.0 r.value.shape own.3 (ap Where.form here.1 ∙ own.1) lends is_one

        pure_by : (step_kind j.op ≡ steps.operation) ⊎ (step_kind j.op ≡ steps.array_length) → has_outcome (step_kind j.op) ≡ true
        pure_by (inl step) = ap has_outcome step
        pure_by (inr step) = ap has_outcome step

        -- the array whose length it is stands lower
        pointer_lower : step_kind j.op ≡ steps.array_length → rank (arg j 0) < rank n
        pointer_lower step =
            let formed_so = (inside s entry right Fn (in_module s entry right kinds o unit u p among)).formed j (as_among (insts_of Fn) j here.0) in
            rank_falls s.of Fn (ordered s entry right kinds o unit u p among) Marks (plan_is s entry right kinds o unit u p among).links (plan_is s entry right kinds o unit u p among).live n j own.0 own.1 (shaped_value gs j.ty r.value.shape own.3) (length_no_undef j.op step)
            b (arg j 0) (length_mentions Fn Marks b own.2.0 j own.2.1 r.value.mentioned.here own.2.2 step formed_so.least)

        done_so : IsOf j done
        done_so = made_done is_one N names done body formed befores i rest split all_done n r j own.0 own.3 (inst_of_block Fn b own.2.0 body.block j body.there own.2.1) kind_is.1

        -- what has a length is a pointer
        measured_so : step_kind j.op ≡ steps.array_length → (v : ValueTree) → value_at s c.at.top n ≡ Some v → (w : ValueTree) → value_at s c.at.top (arg j 0) ≡ Some w → ⊥
        measured_so step v has =
            let held_is : held s c.at.top j.result ≡ Some (holds_value v) = ap (held s c.at.top) here.1 ∙ value_held (held s c.at.top n) v has in
            measured_pointer s c.at.top j (holds_value v) (sym (ap (λ (q : steps.StepKind). outcome q s c.at.top j) step) ∙ (sym (stands.settled.still j done_so (ap has_outcome step)) ∙ held_is))

        -- an operation's operands stand in its expression, and are ready
        operand_of : step_kind j.op ≡ steps.operation → (k : ℕ) → In k (reads j) → IsIn k (operand_ids j)
        operand_of step k among_them = forwarded_operands s entry right kinds o unit u p among j here.0 r.value.shape own.3 (ap Where.form here.1 ∙ own.1) (left.inner_op j here.0) step k (subst (λ (q : steps.StepKind). In k (read_ids q j)) step among_them)

        readable : step_kind j.op ≡ steps.operation → (k : ℕ) → In k (reads j) → IsReady i.at k
        readable step k among_them = operand_ready i.at n r j own k (operand_of step k among_them)

        operands_by : (v : ValueTree) → value_at s c.at.top n ≡ Some v → (step_kind j.op ≡ steps.operation) ⊎ (step_kind j.op ≡ steps.array_length) → (k : ℕ) → In k (reads j) → IsUsable k × (rank k < rank n)
        operands_by v has (inl step) k among_them =
            let operand = operand_of step k among_them in
            (inl (readable step k among_them), below_in rank (rank n) (operand_ids j) k ((ranked s entry right kinds o unit u p among b).falls n j r.value by_it) operand)
        operands_by v has (inr step) k among_them =
            let same : arg j 0 ≡ k = only (arg j 0) k (subst (λ (q : steps.StepKind). In k (read_ids q j)) step among_them) in
            (inr (subst (λ (x : ℕ). (w : ValueTree) → value_at s c.at.top x ≡ Some w → ⊥) same (measured_so step v has)), subst (λ (x : ℕ). rank x < rank n) same (pointer_lower step))

        lowers : (v : ValueTree) → outcome (step_kind j.op) s c.at.top j ≡ Some (holds_value v) → ((k : ℕ) → In k (reads j) → (w : ValueTree) → value_at s c.at.top k ≡ Some w → SaysSo (expr k) k w) → SaysSo (expr n) n v
        lowers v has each =
            subst (λ (e : Expr). SaysSo e n v) (sym (written_as Where (IsReady i.at) rank (ready_ranked i.at) b n j r by_it))
            (subst (λ (k : ℕ). SaysSo (expression Where expr b j) k v) here.1 (left.lowers j here.0 own.2.0 own.2.1 r.value.mentioned.here readable r.value.shape own.3 (ap Where.form here.1 ∙ own.1) v has each))

        forwarded_way : WayOf n
        forwarded_way = by_value (value_at s c.at.top n) refl
          where
            by_value : (x : Option ValueTree) → value_at s c.at.top n ≡ x → WayOf n
            by_value None none = inr (inl (λ v has. absurd (none-some v (sym none ∙ has))))
            by_value (Some v) has = inr (inr (record {
              by = j;
              result = here.1;
              before = done_so;
              pure = pure_by kind_is.0;
              operands = operands_by v has kind_is.0;
              lowers = lowers;
            }))

      ready_way : (n : ℕ) → IsReady i.at n → WayOf n
      ready_way n r = by_global (Where.setting.global n) refl
        where
          by_way : Where.setting.global n ≡ None → (HasName (Found s entry right kinds o unit u p among) (Id (id n)) × (Where.form n ≡ Forwarded → ⊥)) ⊎ ((j : Inst) × IsOwnResult s entry right kinds o unit u p among b n r.value.shape j) → WayOf n
          by_way local (inl named) = named_way n r local named.1
          by_way local (inr w) = forwarded_way n r local w.0 w.1

          by_global : (x : Option Expr) → Where.setting.global n ≡ x → WayOf n
          by_global (Some e) is = inr (inl (λ v has. left.read n e is r v has))
          by_global None is = by_way is (ways s entry right kinds o unit u p among b n r.value is)

      way_of : (n : ℕ) → IsUsable n → WayOf n
      way_of n (inl r) = ready_way n r
      way_of n (inr none) = inr (inl (λ v has. absurd (none v has)))

      -- the law
      pub ready_says : (n : ℕ) → IsReady i.at n → (v : ValueTree) → value_at s c.at.top n ≡ Some v → SaysSo (value Where b n) n v
      ready_says n r v has = value_says program calls N s Holds Fn b done c z stands expr rank IsUsable way_of n (inl r) v has
