-- What is asked of the instructions of the blocks of a planned function, but for what its expressions and places say: that each takes the step for which it is written, that its result is new, and has a variable where it is written to one.
use Rattle.std.proofs.Common.{◌≡◌, ◌++◌, ◌==◌, ◌&&◌, ◌||◌, append_assoc, not, ℕ, Bool, true, false, List, [], ◌∷◌, map, drop, Option, Some, inl, inr, refl, sym, ap, ◌∙◌, subst, if◌then◌else◌}
use Rattle.std.specs.Prelude.{◌⊎◌, option_and_then}
use Rattle.std.specs.Option.{option_map_or}
use Rattle.std.specs.List.{list_any}
use Rattle.std.proofs.lemmas.Bool.Decides.{eqb_tells}
use Rattle.std.proofs.lemmas.Bool.{true_from_ne_false, false_from_ne_true, or_right}
use Rattle.spv_ops.specs.Opcode.{is}
use Rattle.spv_ops.specs.Groups.{is_chain}
use Rattle.spv_ops.specs.OpGroups.{group_of}
use Rattle.spv_ops.specs.declared.AtomicOp.{AtomicOp}
use Rattle.spv_ops.specs.declared.AtomicOp.TheVariants as atomics
use Rattle.spv_ops.specs.declared.Op.TheVariants as code
use Rattle.spv_module.specs.Inst.{has_type, has_result as has_result_id}
use Rattle.spv_module.specs.Lists.{id}
use Rattle.spv_module.specs.State.{ModuleState}
use Rattle.spv_module.specs.declared.inst.Inst.{Inst}
use Rattle.spv_module.specs.declared.inst.Function.{Function}
use Rattle.spv_types.specs.Tree.{Tree, ValueTree, word}
use Rattle.spv_types.specs.Types.{type_tree}
use Rattle.spv_types.specs.Leaves.{IsSized}
use Rattle.spv_index.specs.Locals.{insts_of, inst_in}
use Rattle.conformance.specs.Rules.{Options}
use Rattle.traces.specs.Events.{Event, control_barrier}
use Rattle.traces.specs.Invocations.{Invocation}
use Rattle.traces.specs.Runs.{Supplied}
use Rattle.traces.specs.Outcomes.{Result, got}
use Rattle.module_semantics.specs.Setting.{Setting}
use Rattle.module_semantics.specs.State.{value as holds_value, Conf}
use Rattle.module_semantics.specs.Operands.{word_at, arg}
use Rattle.module_semantics.specs.Steps as steps
use Rattle.module_semantics.specs.Steps.{step_kind, memory_barriers}
use Rattle.hoist_plan.specs.declared.form.Form.TheVariants.{Hoisted, Local}
use Rattle.hoist_plan.specs.Plan.{is_value}
use Rattle.access_paths.specs.Ways.{captured_indexes}
use Rattle.name_alloc.specs.declared.claims.Key.TheVariants.{Captured}
use Rattle.glsl_ast.specs.Tree.{Text, exprs_in, no_exprs, Expr, Stmt, LStep, lvalue, TranslationUnit}
use Rattle.glsl_semantics.specs.Shapes.{Shape, Typed, typed}
use Rattle.glsl_semantics.specs.States.{State, declared, put_in}
use Rattle.glsl_semantics.specs.Expressions.{Program, Argument, evaluate}
use Rattle.glsl_semantics.specs.Statements.{stmt_run}
use Rattle.expr_forward.specs.declared.kinds.InstKind.{InstKind}
use Rattle.expr_forward.specs.declared.kinds.InstKind.TheVariants as kind
use Rattle.expr_forward.specs.Scope.{Scope, globals}
use Rattle.expr_forward.specs.Kinds.{kind_of}
use Rattle.expr_forward.specs.Paths.{part_steps, place_text, place_expr}
use Rattle.expr_forward.specs.Values.{value, expression}
use Rattle.expr_forward.specs.Statements.{is_void, callee_text, call_arguments, has_result, memory_barrier_text, control_barrier_text, captured_of, is_variable_form}
use Rattle.function_text.specs.Functions.{FunctionPlan, written}
use Rattle.unit_rules.specs.Unit.{IsUnitOf}
use Rattle.agree_law.specs.Agree.{Naming, AreApart, variable_with}
use Rattle.agree_law.specs.Blocks.{IsOf, outcome, IsNew, At, have_result}
use Rattle.agree_law.specs.Evaluates.{IsKept}
use Rattle.agree_law.specs.Points.{Body}
use Rattle.agree_law.proofs.Accesses.{AreBarriers}
use Rattle.agree_law.proofs.Chains.{IsLed, HaveNone, IsNumber, SayIndexes, nowhere}
use Rattle.agree_law.proofs.Instructions.{Reads, Writes}
use Rattle.agree_law.proofs.Machine.{machine}
use Rattle.fits_law.specs.State.{value_shape}
use Rattle.fits_law.specs.Typed.{IsOfWords, IsAtomic, IsLoad, IsTyped}
use Rattle.call_law.specs.Known.{IsFunctionOf, LendsWhole}
use Rattle.global_law.proofs.Path.Based.{chain_op}
use Rattle.plan_law.specs.InOrder.{IsAmong}
use Rattle.plan_law.proofs.Order.{found}
use Rattle.typed_law.specs.Conforms.{IsConforming, IsConformingIn}
use Rattle.typed_law.proofs.Lists.{clash}
use Rattle.typed_law.proofs.Values.{inside, own_type}
use Rattle.typed_law.proofs.Others.{typed_some}
use Rattle.grammar_law.proofs.Ruled.Ruled.{contains_of}
use Rattle.claim_law.specs.Claimed.{IsIn}
use Rattle.grammar_law.proofs.Unit.Lists.{as_in}
use Rattle.grammar_law.proofs.Unit.Shaped.{shaped_value}
use Rattle.grammar_law.proofs.Unit.Sets.{chain_no_phi}
use Rattle.grammar_law.proofs.Unit.Ways.{HaveKinds, plan_is}
use Rattle.grammar_law.specs.Formed.{IsFormedBlock, IsFormedFunction}
use Rattle.grammar_law.proofs.Formed.Blocks.{reached_body, reached_only}
use Rattle.grammar_law.proofs.Formed.Inner.{is_inner}
use Rattle.text_law.specs.Names.{is_other}
use Rattle.text_law.specs.Types.{IsTypeOfText}
use Rattle.text_law.proofs.Naming.Insts.{IsSet, IsUnset, Plain, Comes, AsksAccess, Inserts, kept_exprs, Asks, AllAsk}
use Rattle.text_law.proofs.Naming.Keys.{S, key, names}
use Rattle.text_law.proofs.Naming.Once.{chain_result}
use Rattle.text_law.proofs.Naming.Firsts.{of_in}
use Rattle.text_law.proofs.Written.Shapes.{has_shape}
use Rattle.text_law.proofs.Insts.KindSteps.{load_step, store_step, atomic_step, control_step, memory_step, chain_step, composite_step, vector_step, value_step, silent_step, gives, gives_result, effects, no_type, variable_gives, merge_no_type, accesses, always_named, variable_no_chain}
use Rattle.text_law.proofs.Insts.New.{stands_in, stands_among, no_phi, no_terminator, is_new, based_later, is_free}
use Rattle.text_law.proofs.Insts.Sets.{zero_local, no_lent, pointer_unset, form_unset, named_so, value_so, always_so, other_so, same_so, hoisted_so, local_so}

variable_other : (a b : Bool) → a ≡ true → not (a || b) ≡ false
variable_other true b on = refl
variable_other false b on = cc

abbrev is_variable_op : Inst → Bool
is_variable_op i = is i.op code.Variable

atomic_words : (a : AtomicOp) (s : Setting) (f : Function) (i : Inst) → has_result a ≡ true → IsAtomic a s f i → IsOfWords (value_shape s f i.result)
atomic_words atomics.Store s f i on w = cc
atomic_words a s f i on w = w.0

-- one more at the end
more_left : (xs : List Inst) (i j : Inst) → IsOf j xs → IsOf j (xs ++ i ∷ [])
more_left [] i j one = absurd one
more_left (x ∷ xs) i j (inl same) = inl same
more_left (x ∷ xs) i j (inr later) = inr (more_left xs i j later)

more_last : (xs : List Inst) (i j : Inst) → i ≡ j → IsOf j (xs ++ i ∷ [])
more_last [] i j same = inl same
more_last (x ∷ xs) i j same = inr (more_last xs i j same)

of_more : (xs : List Inst) (i j : Inst) → IsOf j (xs ++ i ∷ []) → IsOf j xs ⊎ (i ≡ j)
of_more [] i j (inl same) = inr same
of_more [] i j (inr none) = absurd none
of_more (x ∷ xs) i j (inl same) = inl (inl same)
of_more (x ∷ xs) i j (inr later) = elim (of_more xs i j later) [ inl one ↦ inl (inr one) | inr same ↦ inr same ]

module _ (m : ModuleState) (opts : Options) (right : IsConforming m opts.entry) (kinds : HaveKinds m.globals) (unit : TranslationUnit) (u : IsUnitOf m opts unit) (inv : Invocation) (p : FunctionPlan) (among : IsIn p u.plans) (lends : LendsWhole (S m opts unit u inv)) (is_one : IsFunctionOf (written p) m.functions)
    (program : Program) (calls : Text → List Argument → State → Result (Option Typed × State)) (k : ℕ) (apart : AreApart (names m opts unit u inv p)) (Holds : Conf → Type 0) (keeps : IsKept (machine (S m opts unit u inv)) Holds) (form : IsFormedFunction (written p)) where
  abbrev s : Setting
  s = S m opts unit u inv

  abbrev N : Naming
  N = names m opts unit u inv p

  abbrev f : Function
  f = written p

  abbrev gs : List Inst
  gs = m.globals

  abbrev w : Scope
  w = p.scope

  -- What is left of an instruction, by what is written of it: what its places stand for and its expressions say.
  module _ (b : ℕ) (o : Body f b) (done : List Inst) (i : Inst) (rest : List Inst) where
    abbrev pub Rest : List Inst
    Rest = rest ++ o.last ∷ []

    abbrev pub Here : Supplied Conf → State → Type 0
    Here = At N s Holds f b done (i ∷ Rest)

    pub record LeftOfStore : Type 0 where
      pub left : Text
      pub behind : List LStep
      pub place : place_text w.setting b (arg i 0) ≡ lvalue left behind
      pub writes : (c : Supplied Conf) (z : State) → Here c z → Writes program calls k N apart s Holds f b keeps done i Rest c z left behind (value w b (arg i 1))

    pub record LeftOfCall : Type 0 where
      pub value : is_void w i.ty ≡ false → is_value gs i.ty ≡ true
      pub statement : is_void w i.ty ≡ true → (c : Supplied Conf) (z : State) → Here c z → Plain program calls k N apart s Holds f b keeps w done i Rest c (stmt_run program calls k (Stmt.call (callee_text w i) (exprs_in (call_arguments w b i))) z)
      pub comes : is_void w i.ty ≡ false → Comes program calls k N apart s Holds f b keeps w done i Rest (Expr.call (callee_text w i) (exprs_in (call_arguments w b i)))

    pub record LeftOfAtomic (a : AtomicOp) : Type 0 where
      pub finds_it : has_result a ≡ true → AsksAccess program calls k N apart s Holds f b keeps w done i Rest a (N.shape i.result)
      pub shape : Shape
      pub stores_it : has_result a ≡ false → AsksAccess program calls k N apart s Holds f b keeps w done i Rest a shape

    pub record LeftOfBarriers (semantics : ℕ) (xs : List Stmt) (events : ℕ → List Event) : Type 0 where
      pub made : List (Text × Event)
      pub text : xs ≡ map (λ (q : Text × Event). Stmt.call q.0 no_exprs) made
      pub are : AreBarriers program calls k N apart s Holds f b (machine s) keeps done i Rest made
      pub say : (c : Supplied Conf) (z : State) → Here c z → (v : ℕ) → word_at s c.at.top semantics ≡ Some v → map (λ (q : Text × Event). q.1) made ≡ events v

    pub record LeftOfInsert (whole : ℕ) (behind : List LStep) (object : ℕ) : Type 0 where
      pub assigned : w.form i.result ≡ Hoisted → Inserts program calls k N apart s Holds f b keeps w done i Rest whole behind object (λ z u. record z { frames = put_in z.frames (N.name i.result) u })
      pub declared_so : w.form i.result ≡ Local → Inserts program calls k N apart s Holds f b keeps w done i Rest whole behind object (λ z u. record z { frames = declared z.frames (N.name i.result) (variable_with (N.shape i.result) (Some u)) })

    abbrev pub LeftBy : InstKind → Type 0
    LeftBy kind.Load = (c : Supplied Conf) (z : State) → Here c z → Reads program calls k N apart s Holds f b keeps done i Rest c z (place_expr w.setting b (arg i 0))
    LeftBy kind.Store = LeftOfStore
    LeftBy kind.Call = LeftOfCall
    LeftBy (kind.Atomic a) = LeftOfAtomic a
    LeftBy kind.ControlBarrier = LeftOfBarriers (arg i 2) (control_barrier_text w i) (λ v. memory_barriers v ++ control_barrier ∷ [])
    LeftBy kind.MemoryBarrier = LeftOfBarriers (arg i 1) (memory_barrier_text w i) memory_barriers
    LeftBy kind.Chain = (c : Supplied Conf) (z : State) → Here c z → (g : IsLed s c.at Rest i)
        → SayIndexes program calls k N apart (have_result done) i.result (nowhere program calls k N apart s Holds f b keeps done i Rest c.at) (λ j. N.index_in i.result j (g.from.1 ++ g.indexes)) (kept_exprs program calls k N apart s Holds f b keeps w done i Rest (captured_of w i))
    LeftBy kind.CompositeInsert = LeftOfInsert (arg i 1) (part_steps w.setting i.ty (drop 2 i.args)) (arg i 0)
    LeftBy kind.VectorInsertDynamic = LeftOfInsert (arg i 0) (LStep.index (value w b (arg i 2)) ∷ []) (arg i 1)
    LeftBy (kind.Value q) = is_variable_form (w.form i.result) ≡ true → (c : Supplied Conf) (z : State) → Here c z → (v : ValueTree) → outcome (step_kind i.op) s c.at.top i ≡ Some (holds_value v) → evaluate program calls (expression w (value w b) b i) z ≡ got [] (typed (N.shape i.result) v, z)
    LeftBy kind.Silent = Unit {0}

  -- of each instruction of a reached block, behind those before it; and that the text declares the types of results that it declares there
  pub record IsLeftOfInsts : Type 0 where
    pub insts : (b : ℕ) (o : Body f b) → reached_body f form b ≡ Some o → (done befores : List Inst) (i : Inst) (rest : List Inst) → o.insts ≡ befores ++ i ∷ rest → ((j : Inst) → IsOf j done → IsOf j befores) → ((j : Inst) → IsOf j befores → IsOf j done) → LeftBy b o done i rest (kind_of i.op)
    pub types : (b : ℕ) (o : Body f b) → reached_body f form b ≡ Some o → (i : Inst) → IsIn i o.block.insts → w.form i.result ≡ Local → IsTypeOfText program s opts.overrides (key m opts unit u inv) i.ty

  -- the rules on instructions in blocks, and on the types of results
  module _ (inner : (j : Inst) → IsAmong j (insts_of f) → (is_inner (group_of j.op) ≡ true) × (has_type j.op ≡ false → j.result ≡ 0))
      (shapes : (j : Inst) → IsAmong j (insts_of f) → has_type j.op ≡ true → is_value gs j.ty ≡ true → (t : Tree) × (type_tree gs j.ty ≡ Some t) × IsSized t) (steps_typed : (j : Inst) → IsOf j (insts_of f) → IsTyped s f j (step_kind j.op)) where
    inside_it : IsConformingIn m f
    inside_it = inside s opts.entry right f (contains_of m.functions f is_one)

    inner_of : (j : Inst) → IsAmong j (insts_of f) → is_inner (group_of j.op) ≡ true
    inner_of j there = (inner j there).0

    chains : (j : Inst) → IsAmong j (insts_of f) → is_chain j.op ≡ true → (j.result ≡ 0 → ⊥) × (is j.op code.Phi ≡ false)
    chains j there on = ((inside_it.formed j there).result (chain_result j.op on), chain_no_phi j.op on)

    module _ (b : ℕ) (o : Body f b) (has : reached_body f form b ≡ Some o) (done befores : List Inst) (i : Inst) (rest : List Inst) (split : o.insts ≡ befores ++ i ∷ rest) (only : (j : Inst) → IsOf j done → IsOf j befores)
        (types : w.form i.result ≡ Local → IsTypeOfText program s opts.overrides (key m opts unit u inv) i.ty) where
      block : IsFormedBlock o.block.insts
      block = form.blocks b o.block o.there

      there : IsAmong i (insts_of f)
      there = stands_among m f inside_it.order inside_it.formed inner_of b o block befores i rest split

      there_in : IsIn i (insts_of f)
      there_in = as_in (insts_of f) i there

      some : has_result_id i.op ≡ true → i.result ≡ 0 → ⊥
      some on = (inside_it.formed i there).result on

      abbrev R : List Inst
      R = Rest b o done i rest

      abbrev Set : Type 0
      Set = IsSet program calls k N apart s Holds f b keeps w done i R

      abbrev Unset : Type 0
      Unset = IsUnset program calls k N apart s Holds f b keeps w done i R

      new : has_result_id i.op ≡ true → IsNew i done
      new on = is_new m f inside_it.order inside_it.formed inner_of b o block befores i rest split (some on) done only

      has_type_so : (i.result ≡ 0 → ⊥) → has_type i.op ≡ true
      has_type_so result = true_from_ne_false (has_type i.op) (λ off. result ((inner i there).1 off))

      -- what has a variable
      shape_of : (i.result ≡ 0 → ⊥) → is_variable_form (w.form i.result) ≡ true → (t : Tree) × (type_tree gs i.ty ≡ Some t) × IsSized t
      shape_of result on = shapes i there (has_type_so result) (value_so m opts right kinds unit u inv p among lends is_one i there_in result on)

      set_so : (i.result ≡ 0 → ⊥) → is_variable_form (w.form i.result) ≡ true → Set
      set_so result on =
          let t = shape_of result on in
          record {
            form = on;
            named = named_so m opts right kinds unit u inv p among lends is_one i there_in result;
            same = same_so m opts right kinds unit u inv p among lends is_one i there_in result t.0 t.1 t.2;
            hoisted = hoisted_so m opts right kinds unit u inv p among lends is_one i there_in result t.0 t.1 t.2;
            local = λ is_local.
                local_so m opts right kinds unit u inv p among lends is_one i there_in result t.0 t.1 t.2 b o.block o.there (stands_in m f inside_it.order inside_it.formed inner_of b o block befores i rest split)
                (reached_only f form b o has) program is_local (types is_local);
          }

      unset_so : (i.result ≡ 0 → ⊥) → is_variable_form (w.form i.result) ≡ false → Unset
      unset_so result off =
          let none = form_unset m opts right kinds unit u inv p among lends is_one i there_in result off in
          record { form = off; outer = none.0; lent = no_lent m opts right kinds unit u inv p among lends is_one i there_in result; local = none.1 }

      -- what is a pointer has none
      pointer_form : (i.result ≡ 0 → ⊥) → is_other i ≡ false → is_variable_form (w.form i.result) ≡ false
      pointer_form result off = false_from_ne_true (is_variable_form (w.form i.result)) (λ on.
          let t = shape_of result on in
          clash (sym (other_so m opts right kinds unit u inv p among lends is_one i there_in result t.0 t.1 t.2) ∙ off))

      pointer_so : (i.result ≡ 0 → ⊥) → is_other i ≡ false → Unset
      pointer_so result off = unset_so result (pointer_form result off)

      -- accesses always have one
      of_shape : (i.result ≡ 0 → ⊥) → (t : Tree) → value_shape s f i.result ≡ Some t → is_value gs i.ty ≡ true
      of_shape result t is =
          shaped_value gs i.ty t
          (sym (ap (option_and_then (type_tree gs)) (own_type s opts.entry right f (contains_of m.functions f is_one) i there (typed_some s opts.entry right f (contains_of m.functions f is_one) i there (has_type_so result)))) ∙ is)

      accessed : accesses (kind_of i.op) ≡ true → (i.result ≡ 0 → ⊥) → is_value gs i.ty ≡ true → is_variable_form (w.form i.result) ≡ true
      accessed on result value =
          let named = always_named i.op on in
          always_so m opts right kinds unit u inv p among lends is_one i there_in result named.0 named.1 value

      of_it : IsOf i (insts_of f)
      of_it = of_in (insts_of f) i there_in

      load_value : step_kind i.op ≡ steps.load → (i.result ≡ 0 → ⊥) → is_value gs i.ty ≡ true
      load_value step result =
          let l : IsLoad s f i = subst (IsTyped s f i) step (steps_typed i of_it) in
          of_shape result l.shape l.result

      atomic_value : (a : AtomicOp) → has_result a ≡ true → step_kind i.op ≡ steps.atomic a → (i.result ≡ 0 → ⊥) → is_value gs i.ty ≡ true
      atomic_value a on step result =
          let t = has_shape (value_shape s f i.result) (word 0) (atomic_words a s f i on (subst (IsTyped s f i) step (steps_typed i of_it)) 0) in
          of_shape result t.0 t.1

      -- what has no type has no result
      local_off : has_type i.op ≡ false → N.is_local i.result ≡ false
      local_off off = zero_local m opts right kinds unit u inv p among lends i ((inner i there).1 off)

      -- chains
      none_so : is_chain i.op ≡ true → (i.result ≡ 0 → ⊥) → HaveNone program calls k N apart s Holds f b keeps done i R f
      none_so on result n based =
          let q = based_later m f inside_it.order inside_it.formed inner_of chains i there result n based in
          let off : is_other q.0 ≡ false = ap not (or_right (is q.0.op code.Variable) (is_chain q.0.op) q.2) in
          subst (λ (n : ℕ). (N.is_outer n ≡ false) × (N.is_local n ≡ false)) q.3 (pointer_unset m opts right kinds unit u inv p among lends is_one q.0 (as_in (insts_of f) q.0 q.1) (chains q.0 q.1 q.2).0 off)

      numbers : (j : ℕ) (xs : List (ℕ × ℕ)) → list_any (λ (n : ℕ × ℕ). n.0 == j) xs ≡ true → IsNumber program calls k N apart (have_result done) i.result j (kept_exprs program calls k N apart s Holds f b keeps w done i R xs)
      numbers j [] on = cc
      numbers j (x ∷ xs) on = by_test (x.0 == j) (eqb_tells x.0 j) on (numbers j xs)
        where
          by_test : (t : Bool) → ((t ≡ true) × (x.0 ≡ j)) ⊎ ((t ≡ false) × (x.0 ≡ j → ⊥)) → (t || list_any (λ (n : ℕ × ℕ). n.0 == j) xs) ≡ true
              → (list_any (λ (n : ℕ × ℕ). n.0 == j) xs ≡ true → IsNumber program calls k N apart (have_result done) i.result j (kept_exprs program calls k N apart s Holds f b keeps w done i R xs)) → IsNumber program calls k N apart (have_result done) i.result j (kept_exprs program calls k N apart s Holds f b keeps w done i R (x ∷ xs))
          by_test true (inl same) on later = inl (sym same.1)
          by_test true (inr off) on later = cc
          by_test false off on later = inr (later on)

      globals_are : globals w ≡ gs
      globals_are = ap globals (plan_is s opts.entry right kinds opts unit u p among).scope_is

      made : (i.result ≡ 0 → ⊥) → inst_in f i.result ≡ Some i
      made result = found i (insts_of f) inside_it.order.apart there result

      abbrev kept_test : ℕ → List Inst → Inst → Bool
      kept_test j g x = list_any (λ (n : ℕ × ℕ). n.0 == j) (if is_chain x.op && w.carried x.result then captured_indexes g x else [])

      kept_is : (i.result ≡ 0 → ⊥) → (j : ℕ) → N.is_kept i.result j ≡ kept_test j gs i
      kept_is result j = ap (λ (x : Option Inst). option_map_or (kept_test j gs) x false) (made result)

      all_kept : (i.result ≡ 0 → ⊥) → (j : ℕ) → N.is_kept i.result j ≡ true → IsNumber program calls k N apart (have_result done) i.result j (kept_exprs program calls k N apart s Holds f b keeps w done i R (captured_of w i))
      all_kept result j on = numbers j (captured_of w i) (ap (λ (g : List Inst). kept_test j g i) globals_are ∙ (sym (kept_is result j) ∙ on))

      none_kept : is_chain i.op ≡ false → (i.result ≡ 0 → ⊥) → (j : ℕ) → N.is_kept i.result j ≡ false
      none_kept off result j = kept_is result j ∙ ap (λ (t : Bool). list_any (λ (n : ℕ × ℕ). n.0 == j) (if t && w.carried i.result then captured_indexes gs i else [])) off

      index_named : (j : ℕ) → N.index_name i.result j ≡ w.setting.key (Captured (id i.result) j)
      index_named j = subst (λ (v : Scope). N.index_name i.result j ≡ v.setting.key (Captured (id i.result) j)) (sym (plan_is s opts.entry right kinds opts unit u p among).scope_is) refl

      abbrev A : InstKind → Type 0
      A q = Asks program calls k N apart s Holds f b keeps w done i R q

      asks_atomic : (a : AtomicOp) → kind_of i.op ≡ kind.Atomic a → LeftOfAtomic b o done i rest a → A (kind.Atomic a)
      asks_atomic a e left = record {
        step = atomic_step i.op a e;
        new = λ on. new (given on);
        result = λ on. set_so (some (given on)) (accessed (ap accesses e ∙ on) (some (given on)) (atomic_value a on (atomic_step i.op a e) (some (given on))));
        finds_it = left.finds_it;
        local = λ off. local_off (no_type i.op (ap effects e ∙ ap not off));
        shape = left.shape;
        stores_it = left.stores_it;
      }
        where
          given : has_result a ≡ true → has_result_id i.op ≡ true
          given on = gives_result i.op (ap gives e ∙ on)

      asks_chain : kind_of i.op ≡ kind.Chain → LeftBy b o done i rest kind.Chain → A kind.Chain
      asks_chain e left =
          let on = gives_result i.op (ap gives e) in
          let step = chain_step i.op e in
          let chain = chain_op i.op step in
          record {
            step = step;
            new = new on;
            free = is_free m f inside_it.order inside_it.formed inner_of b o block befores i rest split (some on) done only chains;
            none = none_so chain (some on);
            unset = pointer_so (some on) (ap not (or_right (is_variable_op i) (is_chain i.op) chain));
            named = index_named;
            all = all_kept (some on);
            says = left;
          }

      asks_silent : kind_of i.op ≡ kind.Silent → A kind.Silent
      asks_silent silent = by_step (silent_step i.op silent (inner_of i there) (no_phi m f inside_it.order inside_it.formed inner_of b o block befores i rest split i (inr refl)) (no_terminator m f inside_it.order inside_it.formed inner_of b o block befores i rest split))
        where
          by_step : (step_kind i.op ≡ steps.variable) ⊎ (step_kind i.op ≡ steps.merge) → A kind.Silent
          by_step (inl step) =
              let w = variable_gives i.op step in
              inl (record { step = step; new = new w.1; unset = pointer_so (some w.1) (variable_other (is i.op code.Variable) (is_chain i.op) w.0); kept = none_kept (variable_no_chain i.op w.0) (some w.1) })
          by_step (inr step) = inr (record { step = step; local = local_off (merge_no_type i.op step) })

      asks_of : (q : InstKind) → kind_of i.op ≡ q → LeftBy b o done i rest q → A q
      asks_of kind.Load e left =
          let on = gives_result i.op (ap gives e) in
          let step = load_step i.op e in
          record { step = step; new = new on; result = set_so (some on) (accessed (ap accesses e) (some on) (load_value step (some on))); reads = left }
      asks_of kind.Store e left = record { step = store_step i.op e; local = local_off (no_type i.op (ap effects e)); left = left.left; behind = left.behind; place = left.place; writes = left.writes }
      asks_of kind.Call e left =
          let on = gives_result i.op (ap gives e) in
          record { statement = left.statement; result = λ off. set_so (some on) (accessed (ap accesses e) (some on) (left.value off)); comes = left.comes }
      asks_of (kind.Atomic a) e left = asks_atomic a e left
      asks_of kind.ControlBarrier e left = record { is = control_step i.op e; local = local_off (no_type i.op (ap effects e)); made = left.made; text = left.text; are = left.are; say = left.say }
      asks_of kind.MemoryBarrier e left = record { is = memory_step i.op e; local = local_off (no_type i.op (ap effects e)); made = left.made; text = left.text; are = left.are; say = left.say }
      asks_of kind.Chain e left = asks_chain e left
      asks_of kind.CompositeInsert e left =
          let on = gives_result i.op (ap gives e) in
          record { step = composite_step i.op e; new = new on; result = set_so (some on); unset = unset_so (some on); assigned = left.assigned; declared_so = left.declared_so }
      asks_of kind.VectorInsertDynamic e left =
          let on = gives_result i.op (ap gives e) in
          record { step = vector_step i.op e; new = new on; result = set_so (some on); unset = unset_so (some on); assigned = left.assigned; declared_so = left.declared_so }
      asks_of (kind.Value q) e left =
          let on = gives_result i.op (ap gives e) in
          record { step = value_step i.op q e; new = new on; result = set_so (some on); unset = unset_so (some on); says = left }
      asks_of kind.Silent e left = asks_silent e

    -- So it is of a whole block.
    module _ (left : IsLeftOfInsts) (b : ℕ) (o : Body f b) (has : reached_body f form b ≡ Some o) where
      asks_from : (is done befores : List Inst) → o.insts ≡ befores ++ is → ((j : Inst) → IsOf j done → IsOf j befores) → ((j : Inst) → IsOf j befores → IsOf j done) → AllAsk program calls k N apart s Holds f b keeps w done is (o.last ∷ [])
      asks_from [] done befores split only all = tt
      asks_from (i ∷ is) done befores split only all = (
        asks_of b o has done befores i is split only (left.types b o has i (stands_in m f inside_it.order inside_it.formed inner_of b o (form.blocks b o.block o.there) befores i is split)) (kind_of i.op) refl (left.insts b o has done befores i is split only all),
        asks_from is (i ∷ done) (befores ++ i ∷ []) (split ∙ sym (append_assoc befores (i ∷ []) is)) (λ j one. elim one [ inl same ↦ more_last befores i j same | inr old ↦ more_left befores i j (only j old) ])
            (λ j one. elim (of_more befores i j one) [ inl old ↦ inr (all j old) | inr same ↦ inl same ]),
      )

      -- the law
      pub all_asked : AllAsk program calls k N apart s Holds f b keeps w [] o.insts (o.last ∷ [])
      all_asked = asks_from o.insts [] [] refl (λ j one. one) (λ j one. one)
