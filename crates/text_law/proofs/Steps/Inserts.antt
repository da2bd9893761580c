-- What is asked of inserts: what is copied says the whole; behind the copy the place that is assigned to is the part, and the object says itself.
use Rattle.std.proofs.Common.{◌≡◌, ◌<◌, ◌≤◌, ◌^◌, ◌++◌, ℕ, zero, suc, Bool, true, List, [], ◌∷◌, drop, Option, Some, None, inr, refl, sym, ap, ◌∙◌, subst, arith, if◌then◌else◌}
use Rattle.std.specs.Prelude.{nat_lt, option_and_then}
use Rattle.std.proofs.lemmas.Option.{same_Some}
use Rattle.spv_ops.specs.OpGroups.{group_of}
use Rattle.spv_module.specs.State.{ModuleState}
use Rattle.spv_module.specs.declared.inst.Inst.{Inst}
use Rattle.spv_module.specs.declared.inst.Function.{Function}
use Rattle.spv_module.specs.declared.tree.Elem.{Elem}
use Rattle.spv_types.specs.Tree as plain
use Rattle.spv_types.specs.Tree.{Tree, ValueTree, word}
use Rattle.spv_types.specs.Types.{type_tree}
use Rattle.spv_types.specs.Leaves.{IsSized}
use Rattle.spv_index.specs.Locals.{insts_of, type_in}
use Rattle.op_semantics.specs.Fits.{fits}
use Rattle.conformance.specs.Rules.{Options}
use Rattle.module_check.specs.Judged.{IsFine}
use Rattle.module_check.specs.ReadFrom.{IsReadFrom}
use Rattle.traces.specs.Invocations.{Invocation, IsInvocation}
use Rattle.traces.specs.Outcomes.{Result, got, or_stuck}
use Rattle.traces.specs.Runs.{Supplied}
use Rattle.module_semantics.specs.Setting.{Setting}
use Rattle.module_semantics.specs.State.{Conf}
use Rattle.module_semantics.specs.Operands.{value_at, arg}
use Rattle.module_semantics.specs.Steps as steps
use Rattle.module_semantics.specs.Steps.{step_kind, computed}
use Rattle.hoist_plan.specs.declared.form.Form.TheVariants.{Local, Hoisted}
use Rattle.name_alloc.specs.Naming.{name_of}
use Rattle.glsl_ast.specs.Tree.{Text, TranslationUnit, LStep}
use Rattle.glsl_semantics.specs.Shapes as shapes
use Rattle.glsl_semantics.specs.Shapes.{Shape, Typed, typed, scalar}
use Rattle.glsl_semantics.specs.States.{State, Thing, variable, found_in, put_in, declared, part_of_option, part_at_index, index_word, element_at}
use Rattle.glsl_semantics.specs.Expressions.{Program, Argument, evaluate}
use Rattle.glsl_semantics.specs.Expressions as expressions
use Rattle.expr_forward.specs.declared.kinds.InstKind.TheVariants as kind
use Rattle.expr_forward.specs.Kinds.{kind_of}
use Rattle.expr_forward.specs.Scope.{Scope}
use Rattle.expr_forward.specs.Paths.{part_steps}
use Rattle.expr_forward.specs.Statements.{is_variable_form}
use Rattle.expr_forward.specs.Values.{value}
use Rattle.function_text.specs.Functions.{FunctionPlan, written}
use Rattle.unit_rules.specs.Unit.{IsUnitOf}
use Rattle.list_law.proofs.Numbers.{less_is}
use Rattle.region_law.proofs.Flags.{found_put, found_declared}
use Rattle.fits_law.specs.State.{value_shape, functions_of, HasShape, ConfFits, ModuleFits}
use Rattle.fits_law.specs.Typed.{IsTyped}
use Rattle.agree_law.specs.Agree.{Naming, AreApart, AgreeIn, variable_with, value_of}
use Rattle.agree_law.specs.Blocks.{IsOf, with_done, have_result, IsNew, At}
use Rattle.agree_law.specs.Evaluates.{IsKept}
use Rattle.agree_law.specs.Points.{Body}
use Rattle.agree_law.proofs.Changes.{with_put}
use Rattle.agree_law.proofs.Evaluating.{named_is}
use Rattle.agree_law.proofs.InBlocks.{assigns_in, declares_value_in}
use Rattle.agree_law.proofs.Inserts.{Inserting}
use Rattle.agree_law.proofs.Machine.{machine}
use Rattle.agree_law.proofs.Owned.{own_found}
use Rattle.call_law.specs.Known.{IsFunctionOf, LendsWhole}
use Rattle.plan_law.specs.InOrder.{IsAmong}
use Rattle.global_law.specs.Parts.{StructNames, HasMembersApart, shape_in}
use Rattle.global_law.specs.Walks.{struct_names, Walks}
use Rattle.global_law.proofs.Path.Accesses.{shape_itself}
use Rattle.global_law.proofs.Path.Parts.{scalar_in}
use Rattle.global_law.proofs.Path.Types.{vector_size_is}
use Rattle.global_law.proofs.Path.Walks.{steps_walk}
use Rattle.global_law.proofs.Global.Indexes.{word_number}
use Rattle.typed_law.specs.Conforms.{IsConforming, IsConformingIn}
use Rattle.typed_law.specs.Words.{IsSettingOfWords, IsStateOfWords}
use Rattle.typed_law.proofs.Lists.{some_part}
use Rattle.typed_law.proofs.Values.{inside, value_sized}
use Rattle.grammar_law.proofs.Ruled.Ruled.{contains_of}
use Rattle.claim_law.specs.Claimed.{IsIn}
use Rattle.grammar_law.proofs.Unit.Lists.{as_in}
use Rattle.grammar_law.proofs.Unit.Ways.{HaveKinds, F, V, plan_is, written_is}
use Rattle.grammar_law.specs.Formed.{IsFormedFunction}
use Rattle.grammar_law.proofs.Formed.Blocks.{reached_body, reached_only}
use Rattle.grammar_law.proofs.Formed.Inner.{is_inner, accepted_inner}
use Rattle.text_law.proofs.Naming.Keys.{S, key as key_of, names}
use Rattle.text_law.specs.Left.{IsLeftOfGlobals}
use Rattle.text_law.proofs.Outside.Text.{P as program_in}
use Rattle.text_law.proofs.Written.Shapes.{shape_of_value, value_has}
use Rattle.text_law.proofs.Written.KnownValues.{low_values}
use Rattle.text_law.proofs.Insts.Asks.{LeftBy}
use Rattle.text_law.proofs.Insts.KindSteps.{composite_step, vector_step, gives, gives_result}
use Rattle.text_law.proofs.Insts.New.{stands_in, stands_among, is_new}
use Rattle.text_law.proofs.Insts.Sets.{hoisted_so, local_so}
use Rattle.text_law.proofs.Steps.Operands.{IsKeptBy, operands_say}
use Rattle.text_law.proofs.Steps.LocalTypes.{shape as shape_so, declared_text, types_left}
use Rattle.text_law.proofs.Steps.PartSteps.{parts_lead}
use Rattle.text_law.proofs.Steps.InsertParts.{IsOperand, IsInsert, composite_insert, IsComponentInsert, component_insert}
use Rattle.text_law.proofs.Steps.Copied.{still_says}

-- an index of a vector's component
low_index : (k : ℕ) → k < 4 → nat_lt k (2 ^ 31) ≡ true
low_index zero less = refl
low_index (suc zero) less = refl
low_index (suc (suc zero)) less = refl
low_index (suc (suc (suc zero))) less = refl
low_index (suc (suc (suc (suc k)))) less = absurd (omega (arith, less))

-- the component there
component_is : (x : Text) (e : Elem) (n k : ℕ) (o : Option ValueTree) → k < n → n ≤ 4 → element_at (variable x [] (shapes.vector e n) o) k ≡ Some (variable x (k ∷ []) (scalar e) (part_of_option o k))
component_is x e n k o less four =
    ap (λ (b : Bool). if b then option_and_then (part_at_index (variable x [] (shapes.vector e n) o) k) (if nat_lt k n then Some (scalar e) else None) else None) (low_index k (omega (arith, less, four)))
    ∙ ap (λ (b : Bool). option_and_then (part_at_index (variable x [] (shapes.vector e n) o) k) (if b then Some (scalar e) else None)) (less_is k n less)

module _ (bytes : List ℕ) (m : ModuleState) (o : Options) (read : IsReadFrom bytes m) (fine : IsFine m o) (unit : TranslationUnit) (u : IsUnitOf m o unit) (inv : Invocation) (told : IsInvocation inv) (left : IsLeftOfGlobals bytes m o)
    (right : IsConforming m o.entry) (kinds : HaveKinds m.globals) (p : FunctionPlan) (among : IsIn p u.plans) (lends : LendsWhole (S m o unit u inv)) where
  abbrev s : Setting
  s = S m o unit u inv

  abbrev N : Naming
  N = names m o unit u inv p

  abbrev f : Function
  f = written p

  abbrev Fn : Function
  Fn = F s o.entry right kinds o unit u p among

  abbrev Where : Scope
  Where = V s o.entry right kinds o unit u p among

  abbrev P : Program
  P = program_in bytes m o read fine unit u inv told left

  abbrev Y : StructNames
  Y = struct_names (key_of m o unit u inv)

  abbrev Shaped : Tree → Shape
  Shaped t = shape_in s Y t

  module _ (one : IsFunctionOf Fn m.functions) (calls : Text → List Argument → State → Result (Option Typed × State)) (Holds : Conf → Type 0) (fitting : (c : Conf) → Holds c → ConfFits s c) (low : (c : Conf) → Holds c → IsStateOfWords c) (suits : ModuleFits s) (words : IsSettingOfWords s)
      (typed_so : (j : Inst) → IsIn j (insts_of Fn) → IsTyped s Fn j (step_kind j.op)) (is_one : IsFunctionOf f m.functions) (k : ℕ) (apart : AreApart N) (keeps : IsKept (machine s) Holds) (form : IsFormedFunction f)
      (b : ℕ) (body : Body f b) (has : reached_body f form b ≡ Some body) (done befores : List Inst) (i : Inst) (rest : List Inst) (split : body.insts ≡ befores ++ i ∷ rest) (only : (j : Inst) → IsOf j done → IsOf j befores) (all : (j : Inst) → IsOf j befores → IsOf j done) where
    abbrev R : List Inst
    R = rest ++ body.last ∷ []

    abbrev x : Text
    x = N.name i.result

    in_it : IsConformingIn m f
    in_it = inside s o.entry right f (contains_of m.functions f is_one)

    inner_of : (j : Inst) → IsAmong j (insts_of f) → is_inner (group_of j.op) ≡ true
    inner_of j there = (accepted_inner bytes m read f is_one j there).0

    in_block : IsIn i body.block.insts
    in_block = stands_in m f in_it.order in_it.formed inner_of b body (form.blocks b body.block body.there) befores i rest split

    there : IsAmong i (insts_of f)
    there = stands_among m f in_it.order in_it.formed inner_of b body (form.blocks b body.block body.there) befores i rest split

    typed_there : step_kind i.op ≡ steps.operation → IsTyped s f i steps.operation
    typed_there step =
        let same = written_is s o.entry right kinds o unit u p among in
        subst (IsTyped s f i) step (subst (λ (g : Function). IsTyped s g i (step_kind i.op)) (sym same) (typed_so i (subst (λ (g : Function). IsIn i (insts_of g)) same (as_in (insts_of f) i there))))

    -- a result with a variable
    module _ (some : i.result ≡ 0 → ⊥) (on : is_variable_form (p.scope.form i.result) ≡ true) where
      kept : IsKeptBy bytes m o read fine unit u inv told left right kinds p among lends p.scope i
      kept = inr (some, on)

      new : IsNew i done
      new = is_new m f in_it.order in_it.formed inner_of b body (form.blocks b body.block body.there) befores i rest split some done only

      -- the state behind its copy
      pub record IsCopied (copied : State → ValueTree → State) : Type 0 where
        pub answers : (z : State) (v : ValueTree) → (copied z v).answers ≡ z.answers
        pub agrees : (c : Conf) (z : State) (v : ValueTree) → AgreeIn N (have_result done) c z → AgreeIn N (with_done (have_result done) i.result) (with_put c R i.result v) (copied z v)
        pub finds : (c : Conf) (z : State) (v : ValueTree) → AgreeIn N (have_result done) c z → found_in (copied z v).frames x ≡ Some (variable_with (N.shape i.result) (Some v))

      module _ (copied : State → ValueTree → State) (is : IsCopied copied) (c : Supplied Conf) (z : State) (here : At N s Holds f b done (i ∷ R) c z) (v : ValueTree) where
        -- of a value of the function
        fit_value : (n : ℕ) (t : Tree) → value_shape s f n ≡ Some t → (w : ValueTree) → value_at s c.at.top n ≡ Some w → fits t w ≡ true
        fit_value n t shaped w has_it =
            let own = value_has s suits (functions_of c.at.below) c.at.top n w (fitting c.at here.stands.holds).top.0 has_it in
            subst (λ (y : Option Tree). HasShape y w) shaped (subst (λ (g : Function). HasShape (value_shape s g n) w) here.stands.function own)

        module _ (j whole q object : ℕ) (path : List ℕ) (g : IsInsert s f c.at.top i v j whole q object path) where
          abbrev y : State
          y = copied z g.was

          whole_fit : fits g.shape g.was ≡ true
          whole_fit = fit_value whole g.shape g.whole_shape g.was g.was_is

          result_is : N.shape i.result ≡ Shaped g.shape
          result_is = shape_of_value m o unit u inv p i.result g.shape g.own

          -- operands of the insert say themselves there
          still : (a n : ℕ) → IsOperand i a n → (w : ValueTree) → value_at s c.at.top n ≡ Some w → evaluate P calls (value p.scope b n) y ≡ got [] (typed (N.shape n) w, y)
          still =
              still_says bytes m o read fine unit u inv told left right kinds p among lends one calls suits words typed_so form b body has done befores i rest split all kept new Holds c z here.stands (fitting c.at here.stands.holds) (low c.at here.stands.holds)
              g.local g.was (subst (λ (t : Option Tree). HasShape t g.was) (sym g.own) whole_fit)
              (low_values m o right kinds unit u inv p among suits words c.at (fitting c.at here.stands.holds) (low c.at here.stands.holds) (here.stands.function ∙ written_is s o.entry right kinds o unit u p among) whole g.was g.was_is)
              y (is.answers z g.was) (is.agrees c.at z g.was here.stands.agree)

          abbrev Leads : List LStep → Type 0
          Leads ls = (old : Option ValueTree) × Walks P calls y ls (variable x [] (Shaped g.shape) (Some g.was)) (variable x path (Shaped g.part_shape) old)

          object_sized : IsSized g.part_shape
          object_sized =
              let t = some_part (type_tree m.globals) (type_in m.globals f object) g.part_shape g.object_shape in
              value_sized s o.entry right f (contains_of m.functions f is_one) object t.0 t.1 g.part_shape t.2

          -- so it is what is asked
          inserting : (ls : List LStep) → Leads ls → Inserting P calls k N apart s Holds f b keeps done i R z (value p.scope b whole) ls (value p.scope b object) v (copied z)
          inserting ls leads = record {
            was = g.was;
            path = path;
            part = g.part;
            shape = Shaped g.part_shape;
            old = leads.0;
            says =
                operands_say bytes m o read fine unit u inv told left right kinds p among lends one calls (λ h. Holds) (λ h. fitting) (λ h. low) suits words typed_so form b body has done befores i rest split all kept c z here.stands j whole g.whole_read.at g.whole_read.names g.whole_read.value g.was g.was_is
                ∙ ap (λ (t : Shape). got [] (typed t g.was, z)) (shape_of_value m o unit u inv p whole g.shape g.whole_shape ∙ sym result_is);
            place =
                ap (λ (a : Option Thing). or_stuck a (λ (a : Thing). expressions.steps P calls a ls y)) (named_is P y x (variable_with (N.shape i.result) (Some g.was)) (is.finds c.at z g.was here.stands.agree) ∙ ap (λ (t : Shape). Some (variable x [] t (Some g.was))) result_is)
                ∙ steps_walk P calls y ls (variable x [] (Shaped g.shape) (Some g.was)) (variable x path (Shaped g.part_shape) leads.0) leads.1;
            object_says = still q object g.object_read g.part g.part_is ∙ ap (λ (t : Shape). got [] (typed t g.part, y)) (shape_of_value m o unit u inv p object g.part_shape g.object_shape);
            same = shape_itself s (key_of m o unit u inv) g.part_shape object_sized;
            into = g.into;
          }

        -- the part to which literals lead
        composite_inserting : kind_of i.op ≡ kind.CompositeInsert → computed s c.at.top i ≡ Some v → Inserting P calls k N apart s Holds f b keeps done i R z (value p.scope b (arg i 1)) (part_steps p.scope.setting i.ty (drop 2 i.args)) (value p.scope b (arg i 0)) v (copied z)
        composite_inserting e made =
            let g = composite_insert s f c.at.top i v e (typed_there (composite_step i.op e)) made in
            let t = shape_so bytes m o read fine unit u inv told left right kinds p among lends is_one form b body has i in_block on in
            let members : HasMembersApart Y g.is.shape = subst (HasMembersApart Y) (same_Some t.0 g.is.shape (sym t.1 ∙ g.is.typed_as)) (declared_text bytes m o read fine unit u inv told left right kinds p among lends is_one form b body has i in_block on).1 in
            inserting 1 (arg i 1) 0 (arg i 0) (drop 2 i.args) g.is (part_steps p.scope.setting i.ty (drop 2 i.args))
            (subst (λ (w : Scope). Leads 1 (arg i 1) 0 (arg i 0) (drop 2 i.args) g.is (part_steps w.setting i.ty (drop 2 i.args))) (sym (plan_is s o.entry right kinds o unit u p among).scope_is)
            (parts_lead P calls (copied z g.is.was) s u.entry o.overrides (name_of u.claimed) Fn Where.setting.global Where.form Where.carried x (drop 2 i.args) i.ty g.is.shape g.is.part_shape [] (Some g.is.was) g.is.typed_as g.leads g.low members))

        -- the component at an index
        component_inserting : kind_of i.op ≡ kind.VectorInsertDynamic → computed s c.at.top i ≡ Some v → Inserting P calls k N apart s Holds f b keeps done i R z (value p.scope b (arg i 0)) (LStep.index (value p.scope b (arg i 2)) ∷ []) (value p.scope b (arg i 1)) v (copied z)
        component_inserting e made =
            let g = component_insert s f c.at.top i v e (typed_there (vector_step i.op e)) made in
            inserting 0 (arg i 0) 1 (arg i 1) (g.index ∷ []) g.is (LStep.index (value p.scope b (arg i 2)) ∷ []) (
              part_of_option (Some g.is.was) g.index,
              (
                typed (N.shape (arg i 2)) (word g.index),
                variable x (g.index ∷ []) (Shaped g.is.part_shape) (part_of_option (Some g.is.was) g.index),
                still 0 (arg i 0) 1 (arg i 1) (g.index ∷ []) g.is 2 (arg i 2) g.index_read (word g.index) g.index_is,
                element g,
                refl,
              ),
            )
          where
            element : (g : IsComponentInsert s f c.at.top i v) → option_and_then (element_at (variable x [] (Shaped g.is.shape) (Some g.is.was))) (index_word (typed (N.shape (arg i 2)) (word g.index))) ≡ Some (variable x (g.index ∷ []) (Shaped g.is.part_shape) (part_of_option (Some g.is.was) g.index))
            element g =
                let number = word_number s Y g.index_shape g.index g.index_number (fit_value (arg i 2) g.index_shape g.index_typed (word g.index) g.index_is) in
                let size = vector_size_is s i.ty g.elem g.count (g.is.typed_as ∙ ap (λ (t : Tree). Some t) g.vector_is) in
                ap (λ (t : Shape). option_and_then (element_at (variable x [] (Shaped g.is.shape) (Some g.is.was))) (index_word (typed t (word g.index)))) (shape_of_value m o unit u inv p (arg i 2) g.index_shape g.index_typed)
                ∙ (ap (option_and_then (element_at (variable x [] (Shaped g.is.shape) (Some g.is.was)))) number
                ∙ (ap (λ (t : Tree). element_at (variable x [] (Shaped t) (Some g.is.was)) g.index) g.vector_is
                ∙ (component_is x g.elem g.count g.index (Some g.is.was) (g.below (fit_value (arg i 0) g.is.shape g.is.whole_shape g.is.was g.is.was_is)) size.4
                ∙ ap (λ (t : Shape). Some (variable x (g.index ∷ []) t (part_of_option (Some g.is.was) g.index))) (sym (scalar_in s Y g.elem) ∙ ap Shaped (sym g.part_is_elem)))))

      -- the copy is an assignment at the top of the function, or a declaration
      assigned_copy : p.scope.form i.result ≡ Hoisted → IsCopied (λ z v. record z { frames = put_in z.frames x v })
      assigned_copy top =
          let t = shape_so bytes m o read fine unit u inv told left right kinds p among lends is_one form b body has i in_block on in
          let outer = hoisted_so m o right kinds unit u inv p among lends is_one i (as_in (insts_of f) i there) some t.0 t.1 t.2 top in
          record {
            answers = λ z v. refl;
            agrees = λ c z v agree. assigns_in N apart (have_result done) c z R i.result v outer agree;
            finds = λ c z v agree. found_put z.frames x (variable_with (N.shape i.result) (value_of c i.result)) v (own_found z.frames x _ (agree.all.outer i.result outer));
          }

      declared_copy : p.scope.form i.result ≡ Local → IsCopied (λ z v. record z { frames = declared z.frames x (variable_with (N.shape i.result) (Some v)) })
      declared_copy top =
          let t = shape_so bytes m o read fine unit u inv told left right kinds p among lends is_one form b body has i in_block on in
          let local = (local_so m o right kinds unit u inv p among lends is_one i (as_in (insts_of f) i there) some t.0 t.1 t.2 b body.block body.there in_block (reached_only f form b body has) P top (types_left bytes m o read fine unit u inv told left right kinds p among lends is_one form b body has i in_block top)).0 in
          record {
            answers = λ z v. refl;
            agrees = λ c z v agree. declares_value_in N apart (have_result done) c z R i.result v local agree;
            finds = λ c z v agree. found_declared z.frames x (variable_with (N.shape i.result) (Some v));
          }

    -- The law, of both kinds.
    pub composite_left : kind_of i.op ≡ kind.CompositeInsert → LeftBy m o right kinds unit u inv p among lends is_one P calls k apart Holds keeps form b body done i rest kind.CompositeInsert
    composite_left e =
        let some = (in_it.formed i there).result (gives_result i.op (ap gives e)) in
        record {
          assigned = λ top c z here v made. let on = ap is_variable_form top in composite_inserting some on (λ z v. record z { frames = put_in z.frames x v }) (assigned_copy some on top) c z here v e made;
          declared_so = λ top c z here v made. let on = ap is_variable_form top in composite_inserting some on (λ z v. record z { frames = declared z.frames x (variable_with (N.shape i.result) (Some v)) }) (declared_copy some on top) c z here v e made;
        }

    pub component_left : kind_of i.op ≡ kind.VectorInsertDynamic → LeftBy m o right kinds unit u inv p among lends is_one P calls k apart Holds keeps form b body done i rest kind.VectorInsertDynamic
    component_left e =
        let some = (in_it.formed i there).result (gives_result i.op (ap gives e)) in
        record {
          assigned = λ top c z here v made. let on = ap is_variable_form top in component_inserting some on (λ z v. record z { frames = put_in z.frames x v }) (assigned_copy some on top) c z here v e made;
          declared_so = λ top c z here v made. let on = ap is_variable_form top in component_inserting some on (λ z v. record z { frames = declared z.frames x (variable_with (N.shape i.result) (Some v)) }) (declared_copy some on top) c z here v e made;
        }
