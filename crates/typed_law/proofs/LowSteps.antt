-- Each step of a module keeps the values of its state of words.
use Rattle.std.proofs.Common.{◌≡◌, ◌<◌, ◌^◌, ◌==◌, ◌++◌, ℕ, Bool, true, false, List, [], ◌∷◌, length, map, drop, Option, Some, None, refl, sym, ap, subst, ◌∙◌, arith}
use Rattle.std.proofs.Math.Nat.{div-le_self}
use Rattle.std.specs.Prelude.{◌-◌, ◌/◌, option_map, option_and_then, slice_get, slice_index}
use Rattle.std.proofs.lemmas.Option.{same_Some}
use Rattle.spv_ops.specs.Enumerants.{decoration_number, built_in_of_number}
use Rattle.spv_ops.specs.declared.Decoration.TheVariants as decoration
use Rattle.spv_ops.specs.declared.AtomicOp.{AtomicOp}
use Rattle.spv_ops.specs.declared.AtomicOp.TheVariants as atomics
use Rattle.spv_ops.specs.declared.BuiltIn.{BuiltIn}
use Rattle.spv_ops.specs.declared.BuiltIn.TheVariants as built
use Rattle.spv_ops.specs.declared.StorageClass.{StorageClass}
use Rattle.spv_ops.specs.declared.StorageClass.TheVariants as storage
use Rattle.spv_ops.specs.declared.Terminator.{Terminator}
use Rattle.spv_module.specs.declared.inst.Id.{Id}
use Rattle.spv_module.specs.declared.inst.Inst.{Inst}
use Rattle.spv_module.specs.declared.inst.Function.{Function}
use Rattle.spv_types.specs.Tree.{Tree, ValueTree, word}
use Rattle.spv_types.specs.Types.{type_tree}
use Rattle.spv_types.specs.Leaves.{zero_of}
use Rattle.spv_index.specs.Locals.{inst_in, block_in}
use Rattle.spv_index.specs.Pointers.{pointee_of}
use Rattle.op_semantics.specs.declared.operation.Operation.{Operation}
use Rattle.op_semantics.specs.Fits.{IsOfWords}
use Rattle.op_semantics.specs.Component.{each_one}
use Rattle.op_semantics.specs.Composite.{extracted, inserted}
use Rattle.op_semantics.specs.Value.{operation_of, op_value, value_of_operation}
use Rattle.profile_rules.specs.Entry.{function_of}
use Rattle.value_words.specs.Words.{value_from}
use Rattle.traces.specs.Events.{updating, control_barrier}
use Rattle.traces.specs.Invocations.{Invocation, IsInvocation}
use Rattle.traces.specs.Runs.{Act, goes, asks}
use Rattle.module_semantics.specs.Setting.{Setting, as_variable, global_variable}
use Rattle.module_semantics.specs.Memory.{decorated, class_of, location, shape_along, elements, are_allowed}
use Rattle.module_semantics.specs.State.{Root, global, own, lent, Held, value, pointer, Frame, Conf, put, call_at, with_call, with_variable}
use Rattle.module_semantics.specs.Operands.{Target, of_module, as_value, held, value_at, pointer_at, word_at, words_at, value_operands, literal_operands, values_at, arg}
use Rattle.module_semantics.specs.Accesses.{three, initial_by, initial, initial_in, initial_private, built_in_value, input_value, seen, global_value_by, global_value, kept, keeping, with_lent}
use Rattle.module_semantics.specs.Steps as the
use Rattle.module_semantics.specs.Steps.{with_some, advanced, set, set_value, computed, operation_step, base, without_based, is_based_on, lead_if, chain_step, length_step, variable_step, read_shape, load_from, load_step, store_to, store_step, atomic_operation, atomic_operands, set_found, atomic_step, memory_barriers, memory_barrier_step, control_barrier_step, phis, passed, argument_of, entered, called, call_step, return_step, given_to, return_value_step, target_label, source_from, phi_value, with_phis, present_label, gone_to, edge_step, branch_step, StepKind, step_kind, step_by, act_on, act}
use Rattle.module_semantics.specs.Run.{have_values, first_state, start_by, start}
use Rattle.list_law.proofs.Options.{some_part}
use Rattle.list_law.proofs.Lists.{same_first, same_rest}
use Rattle.fits_law.proofs.Operations.{before_some}
use Rattle.typed_law.specs.Words.{AllOfWords, AreAllWords, HoldWords, IsSettingOfWords, IdsHoldWords, IsFrameOfWords, AreCallsOfWords, IsStateOfWords, LeadsToWords}
use Rattle.typed_law.proofs.LowValues.{extracted_low, inserted_low, zero_low, read_low, op_low, first_low}

-- maps with one more entry
put_value : (f : ℕ → Option Held) (n : ℕ) (h : Held) → IdsHoldWords f → ((v : ValueTree) → h ≡ value v → IsOfWords v) → IdsHoldWords (put f n h)
put_value f n h all mine id v e = by_test (id == n) e
  where
    by_test : (b : Bool) → elim b [ true ↦ Some h | false ↦ f id ] ≡ Some (value v) → IsOfWords v
    by_test true e = mine v (same_Some h (value v) e)
    by_test false e = all id v e

put_variable : (f : ℕ → Option ValueTree) (n : ℕ) (w : ValueTree) → HoldWords f → IsOfWords w → HoldWords (put f n w)
put_variable f n w all mine id v e = by_test (id == n) e
  where
    by_test : (b : Bool) → elim b [ true ↦ Some w | false ↦ f id ] ≡ Some v → IsOfWords v
    by_test true e = subst IsOfWords (same_Some w v e) mine
    by_test false e = all id v e

same_value : (v w : ValueTree) → value v ≡ value w → v ≡ w
same_value v w e = cc

no_pointer : (r : Root) (path : List ℕ) (v : ValueTree) → pointer r path ≡ value v → ⊥
no_pointer r path v e = cc

-- a call without arguments
pub no_arguments : (ps : List (Id × Id)) (id : ℕ) (h : Held) → argument_of ps [] id ≡ Some h → ⊥
no_arguments [] id h e = cc
no_arguments (p ∷ ps) id h e = cc

module _ (s : Setting) (right : IsSettingOfWords s) where
  -- what ids have
  pub value_low : (c : Frame) (id : ℕ) (v : ValueTree) → IsFrameOfWords c → value_at s c id ≡ Some v → IsOfWords v
  value_low c id v frame e = by_own (c.ids id) refl e
    where
      by_constant : (o : Option ValueTree) → s.constants id ≡ o → as_value (option_map value o) ≡ Some v → IsOfWords v
      by_constant None at e = cc
      by_constant (Some w) at e = subst IsOfWords (same_Some w v e) (right.constants id w at)

      by_global : (o : Option Inst) → as_value (elim o [ Some g ↦ Some (pointer (global id) []) | None ↦ option_map value (s.constants id) ]) ≡ Some v → IsOfWords v
      by_global (Some g) e = cc
      by_global None e = by_constant (s.constants id) refl e

      by_held : (h : Held) → c.ids id ≡ Some h → as_value (Some h) ≡ Some v → IsOfWords v
      by_held (value w) at e = subst IsOfWords (same_Some w v e) (frame.0 id w at)
      by_held (pointer r path) at e = cc

      by_own : (o : Option Held) → c.ids id ≡ o → as_value (elim o [ Some h ↦ Some h | None ↦ of_module s id ]) ≡ Some v → IsOfWords v
      by_own (Some h) at e = by_held h at e
      by_own None at e = by_global (global_variable s id) e

  values_low : (c : Frame) (ids : List ℕ) (vs : List ValueTree) → IsFrameOfWords c → values_at s c ids ≡ Some vs → AllOfWords vs
  values_low c [] vs frame e = subst AllOfWords (same_Some [] vs e) tt
  values_low c (id ∷ ids) vs frame e = let b = before_some (value_at s c id) (values_at s c ids) vs e in subst AllOfWords (sym b.4) (value_low c id b.0 frame b.2, values_low c ids b.1 frame b.3)

  some_leads : {A : Type 0} (o : Option A) (f : A → Act Conf) → ((a : A) → o ≡ Some a → LeadsToWords (f a)) → LeadsToWords (with_some o f)
  some_leads None f on = tt
  some_leads (Some a) f on = on a refl

  set_low : (c : Conf) (rest : List Inst) (i : Inst) (h : Held) → IsStateOfWords c → ((v : ValueTree) → h ≡ value v → IsOfWords v) → IsStateOfWords (set c rest i h)
  set_low c rest i h state mine = record { top = (put_value c.top.ids i.result h state.top.0 mine, state.top.1); calls = state.calls; privates = state.privates }

  value_set : (c : Conf) (rest : List Inst) (i : Inst) (v : ValueTree) → IsStateOfWords c → IsOfWords v → IsStateOfWords (set_value c rest i v)
  value_set c rest i v state low = set_low c rest i (value v) state (λ w same. subst IsOfWords (same_value v w same) low)

  advanced_low : (c : Conf) (rest : List Inst) → IsStateOfWords c → IsStateOfWords (advanced c rest)
  advanced_low c rest state = record { top = state.top; calls = state.calls; privates = state.privates }

  -- variables
  call_low : (depth id : ℕ) (bs : List (Frame × ℕ)) (v : ValueTree) → AreCallsOfWords bs → option_and_then (λ (f : Frame). f.variables id) (call_at depth bs) ≡ Some v → IsOfWords v
  call_low depth id [] v all e = cc
  call_low depth id (b ∷ bs) v all e = by_test (length bs == depth) (λ rest. call_low depth id bs v all.1 rest) e
    where
      by_test : (t : Bool) → (option_and_then (λ (f : Frame). f.variables id) (call_at depth bs) ≡ Some v → IsOfWords v) → option_and_then (λ (f : Frame). f.variables id) (elim t [ true ↦ Some b.0 | false ↦ call_at depth bs ]) ≡ Some v → IsOfWords v
      by_test true next e = all.0.1 id v e
      by_test false next e = next e

  three_low : (inv : Invocation) → IsInvocation inv → (b : BuiltIn) (v : ValueTree) → built_in_value inv b ≡ Some v → IsOfWords v
  three_low inv told built.NumWorkgroups v e = subst IsOfWords (same_Some (three inv.num_workgroups) v e) (told.num_workgroups.0, (told.num_workgroups.1, (told.num_workgroups.2, tt)))
  three_low inv told built.WorkgroupId v e = subst IsOfWords (same_Some (three inv.workgroup_id) v e) (told.workgroup_id.0, (told.workgroup_id.1, (told.workgroup_id.2, tt)))
  three_low inv told built.LocalInvocationId v e = subst IsOfWords (same_Some (three inv.local_invocation_id) v e) (told.local_invocation_id.0, (told.local_invocation_id.1, (told.local_invocation_id.2, tt)))
  three_low inv told built.GlobalInvocationId v e = subst IsOfWords (same_Some (three inv.global_invocation_id) v e) (told.global_invocation_id.0, (told.global_invocation_id.1, (told.global_invocation_id.2, tt)))
  three_low inv told built.LocalInvocationIndex v e = subst IsOfWords (same_Some (word inv.local_invocation_index) v e) told.local_invocation_index
  three_low inv told built.WorkgroupSize v e = cc

  input_low : (g : Inst) (v : ValueTree) → input_value s g ≡ Some v → IsOfWords v
  input_low g v e = let b = some_part (built_in_value s.invocation) (built_in_of_number (decorated s (decoration_number decoration.BuiltIn) g.result)) v e in three_low s.invocation right.told b.0 v b.2

  kept_low : (c : Conf) (r : Root) (v : ValueTree) → IsStateOfWords c → kept s c r ≡ Some v → IsOfWords v
  kept_low c (own id) v state e = state.top.1 id v e
  kept_low c (lent depth id) v state e = call_low depth id c.below v state.calls e
  kept_low c (global id) v state e = let g = some_part (global_value s c) (global_variable s id) v e in by_class g.0 (class_of g.0) g.2
    where
      by_class : (g : Inst) (o : Option StorageClass) → global_value_by s c g o ≡ Some v → IsOfWords v
      by_class g (Some storage.Private) e = state.privates g.result v e
      by_class g (Some storage.Input) e = input_low g v e
      by_class g _ e = cc

  calls_changed : (depth id : ℕ) (v : ValueTree) (g : Frame) (bs : List (Frame × ℕ)) → AreCallsOfWords bs → IsOfWords v → call_at depth bs ≡ Some g → AreCallsOfWords (with_call depth (with_variable id v g) bs)
  calls_changed depth id v g [] all low e = tt
  calls_changed depth id v g (b ∷ bs) all low e = by_test (length bs == depth) e (λ rest. calls_changed depth id v g bs all.1 low rest)
    where
      by_test : (t : Bool) → elim t [ true ↦ Some b.0 | false ↦ call_at depth bs ] ≡ Some g → (call_at depth bs ≡ Some g → AreCallsOfWords (with_call depth (with_variable id v g) bs)) → AreCallsOfWords (elim t [ true ↦ (with_variable id v g, b.1) ∷ bs | false ↦ b ∷ with_call depth (with_variable id v g) bs ])
      by_test true e next = let own_frame : IsFrameOfWords g = subst IsFrameOfWords (same_Some b.0 g e) all.0 in ((own_frame.0, put_variable g.variables id v own_frame.1 low), all.1)
      by_test false e next = (all.0, next e)

  keeping_low : (c : Conf) (r : Root) (v : ValueTree) → IsStateOfWords c → IsOfWords v → IsStateOfWords (keeping r v c)
  keeping_low c (global id) v state low = record { top = state.top; calls = state.calls; privates = put_variable c.privates id v state.privates low }
  keeping_low c (own id) v state low = record { top = (state.top.0, put_variable c.top.variables id v state.top.1 low); calls = state.calls; privates = state.privates }
  keeping_low c (lent depth id) v state low = by_call (call_at depth c.below) refl
    where
      by_call : (o : Option Frame) → call_at depth c.below ≡ o → IsStateOfWords (with_lent depth id v c o)
      by_call None e = state
      by_call (Some g) e = record { top = state.top; calls = calls_changed depth id v g c.below state.calls low e; privates = state.privates }

  -- the start of a call
  initial_low : (v : Inst) (w : ValueTree) → initial s v ≡ Some w → IsOfWords w
  initial_low v w e = by_args v.args (type_tree s.of.globals _) e
    where
      by_zero : (o : Option Tree) → option_map zero_of o ≡ Some w → IsOfWords w
      by_zero None e = cc
      by_zero (Some t) e = subst IsOfWords (same_Some (zero_of t) w e) (zero_low t)

      by_args : (args : List ℕ) (o : Option Tree) → initial_by s o args ≡ Some w → IsOfWords w
      by_args [] o e = by_zero o e
      by_args (class ∷ []) o e = by_zero o e
      by_args (class ∷ id ∷ rest) o e = right.constants id w e

  initial_in_low : (f : Function) → HoldWords (initial_in s f)
  initial_in_low f id v e = let g = some_part (initial s) (option_and_then as_variable (inst_in f id)) v e in initial_low g.0 v g.2

  initial_private_low : HoldWords (initial_private s)
  initial_private_low id v e = let g = some_part (initial s) (global_variable s id) v e in initial_low g.0 v g.2

  -- arguments
  abbrev AreHeldOfWords : List Held → Type 0
  AreHeldOfWords [] = Unit {0}
  AreHeldOfWords (h ∷ hs) = ((v : ValueTree) → h ≡ value v → IsOfWords v) × AreHeldOfWords hs

  held_low : (c : Frame) (id : ℕ) (h : Held) → IsFrameOfWords c → held s c id ≡ Some h → (v : ValueTree) → h ≡ value v → IsOfWords v
  held_low c id h frame e v same = value_low c id v frame (ap as_value e ∙ ap (λ x. as_value (Some x)) same)

  all_held_low : (c : Frame) (ids : List ℕ) (hs : List Held) → IsFrameOfWords c → each_one (held s c) ids ≡ Some hs → AreHeldOfWords hs
  all_held_low c [] hs frame e = subst AreHeldOfWords (same_Some [] hs e) tt
  all_held_low c (id ∷ ids) hs frame e = let b = before_some (held s c id) (each_one (held s c) ids) hs e in subst AreHeldOfWords (sym b.4) (held_low c id b.0 frame b.2, all_held_low c ids b.1 frame b.3)

  passed_low : (depth : ℕ) (h : Held) → ((v : ValueTree) → h ≡ value v → IsOfWords v) → (v : ValueTree) → passed depth h ≡ value v → IsOfWords v
  passed_low depth (value w) mine v e = mine v e
  passed_low depth (pointer (own id) path) mine v e = absurd (no_pointer (lent depth id) path v e)
  passed_low depth (pointer (global id) path) mine v e = absurd (no_pointer (global id) path v e)
  passed_low depth (pointer (lent n id) path) mine v e = absurd (no_pointer (lent n id) path v e)

  argument_low : (depth : ℕ) (ps : List (Id × Id)) (hs : List Held) → AreHeldOfWords hs → IdsHoldWords (argument_of ps (map (passed depth) hs))
  argument_low depth [] hs all id v e = cc
  argument_low depth (p ∷ ps) [] all id v e = cc
  argument_low depth (p ∷ ps) (h ∷ hs) all id v e = by_test (p.0.0 == id) (λ rest. argument_low depth ps hs all.1 id v rest) e
    where
      by_test : (t : Bool) → (argument_of ps (map (passed depth) hs) id ≡ Some (value v) → IsOfWords v) → elim t [ true ↦ Some (passed depth h) | false ↦ argument_of ps (map (passed depth) hs) id ] ≡ Some (value v) → IsOfWords v
      by_test true next e = passed_low depth h all.0 v (same_Some (passed depth h) (value v) e)
      by_test false next e = next e

  entered_low : (f : Function) (hs : List Held) → IdsHoldWords (argument_of f.params hs) → IsFrameOfWords (entered s f hs)
  unfolding entered
  entered_low f hs all = (all, initial_in_low f)

  -- phis
  phis_low : (c : Frame) (from : ℕ) (is : List Inst) (vs : List ValueTree) → IsFrameOfWords c → each_one (phi_value s c from) is ≡ Some vs → (ids : ℕ → Option Held) → IdsHoldWords ids → IdsHoldWords (with_phis is vs ids)
  phis_low c from [] vs frame e ids all = all
  phis_low c from (i ∷ js) [] frame e ids all = all
  phis_low c from (i ∷ js) (v ∷ vs) frame e ids all =
      let b = before_some (phi_value s c from i) (each_one (phi_value s c from) js) (v ∷ vs) e in
      let source = some_part (value_at s c) (source_from from i.args) b.0 b.2 in
      put_value (with_phis js vs ids) i.result (value v) (phis_low c from js vs frame (b.3 ∙ ap (λ l. Some l) (sym (same_rest v b.0 vs b.1 b.4))) ids all)
      (λ w same. subst IsOfWords (sym (same_first v b.0 vs b.1 b.4) ∙ same_value v w same) (value_low c source.0 b.0 frame source.2))

  module _ (c : Conf) (state : IsStateOfWords c) (i : Inst) (rest : List Inst) where
    operation_leads : LeadsToWords (operation_step s c rest i)
    unfolding operation_step
    operation_leads = some_leads (computed s c.top i) (λ v. goes [] (set_value c rest i v)) (λ v e.
        let t = some_part (λ (t : Tree). option_and_then (op_value i.op t (literal_operands i.op i.args)) (values_at s c.top (value_operands i.op i.args))) (type_tree s.of.globals i.ty) v e in
        let vs = some_part (op_value i.op t.0 (literal_operands i.op i.args)) (values_at s c.top (value_operands i.op i.args)) v t.2 in
        let o = some_part (λ (o : Operation). value_of_operation o t.0 (literal_operands i.op i.args) vs.0) (operation_of i.op (literal_operands i.op i.args)) v vs.2 in
        value_set c rest i v state (op_low o.0 t.0 (literal_operands i.op i.args) vs.0 v (values_low c.top (value_operands i.op i.args) vs.0 state.top vs.1) o.2))

    based_low : (chain : ℕ) → IdsHoldWords (without_based c.top.function chain c.top.ids)
    based_low chain id v e = by_test (is_based_on c.top.function chain id) e
      where
        by_test : (b : Bool) → elim b [ true ↦ None | false ↦ c.top.ids id ] ≡ Some (value v) → IsOfWords v
        by_test true e = cc
        by_test false e = state.top.0 id v e

    chain_leads : LeadsToWords (chain_step s c rest i)
    unfolding chain_step
    chain_leads =
        some_leads (pointer_at s c.top (base i)) _ (λ p e.
        some_leads (words_at s c.top (drop 1 i.args)) _ (λ indexes at.
        some_leads (pointee_of s.of.globals c.top.function (base i)) _ (λ ty found. by_test p indexes (are_allowed s ty indexes))))
      where
        by_test : (p : Target) (indexes : List ℕ) (b : Bool) → LeadsToWords (lead_if b c rest i p indexes)
        by_test p indexes true = record {
          top = (put_value (without_based c.top.function i.result c.top.ids) i.result (pointer p.0 (p.1 ++ indexes)) (based_low i.result) (λ v e. absurd (no_pointer p.0 (p.1 ++ indexes) v e)), state.top.1);
          calls = state.calls;
          privates = state.privates;
        }
        by_test p indexes false = tt

    length_leads : LeadsToWords (length_step s c rest i)
    unfolding length_step
    length_leads =
        some_leads (pointer_at s c.top (arg i 0)) _ (λ p e.
        some_leads (seen s p.0) (λ v. goes [] (set_value c rest i (word (elements s v (arg i 1))))) (λ v at. value_set c rest i (word (elements s v (arg i 1))) state (few v)))
      where
        few_of : (bytes offset stride : ℕ) → bytes < 2 ^ 32 → (bytes - offset) / stride < 2 ^ 32
        few_of bytes offset stride low = let quotient = div-le_self (bytes - offset) stride in omega (arith, low, quotient)

        few : (v : Inst) → elements s v (arg i 1) < 2 ^ 32
        few v = few_of _ _ _ (right.told.buffer_bytes _ _)

    variable_leads : LeadsToWords (variable_step s c rest i)
    unfolding variable_step
    variable_leads = some_leads (c.top.variables i.result) (λ v. goes [] (set c rest i (pointer (own i.result) []))) (λ v e. set_low c rest i (pointer (own i.result) []) state (λ w same. absurd (no_pointer (own i.result) [] w same)))

    load_leads : LeadsToWords (load_step s c rest i)
    unfolding load_step
    load_leads = some_leads (pointer_at s c.top (arg i 0)) _ (λ p e. by_seen p (seen s p.0))
      where
        by_seen : (p : Target) (o : Option Inst) → LeadsToWords (load_from s c rest i p o)
        by_seen p None = some_leads (option_and_then (extracted p.1) (kept s c p.0)) (λ v. goes [] (set_value c rest i v)) (λ v e.
            let whole = some_part (extracted p.1) (kept s c p.0) v e in
            value_set c rest i v state (extracted_low p.1 whole.0 v (kept_low c p.0 whole.0 state whole.1) whole.2))
        by_seen p (Some v) = some_leads (shape_along s v p.1) (read_shape s c rest i v p) (λ t e words low. value_set c rest i (value_from t words) state (read_low t words low))

    store_leads : LeadsToWords (store_step s c rest i)
    unfolding store_step
    store_leads = some_leads (pointer_at s c.top (arg i 0)) _ (λ p e. some_leads (value_at s c.top (arg i 1)) _ (λ v at. by_seen p v (value_low c.top (arg i 1) v state.top at) (seen s p.0)))
      where
        by_seen : (p : Target) (v : ValueTree) → IsOfWords v → (o : Option Inst) → LeadsToWords (store_to s c rest p v o)
        by_seen p v low None = some_leads (option_and_then (inserted v p.1) (kept s c p.0)) (λ whole. goes [] (keeping p.0 whole (advanced c rest))) (λ whole e.
            let old = some_part (inserted v p.1) (kept s c p.0) whole e in
            keeping_low (advanced c rest) p.0 whole (advanced_low c rest state) (inserted_low v p.1 old.0 whole low (kept_low c p.0 old.0 state old.1) old.2))
        by_seen p v low (Some var) = advanced_low c rest state

    found_leads : (o : AtomicOp) (words : List ℕ) → AreAllWords words → IsStateOfWords (set_found c rest i o words)
    found_leads atomics.Store words low = advanced_low c rest state
    found_leads o words low = value_set c rest i (word (slice_index words 0)) state (first_low words low)

    atomic_leads : (o : AtomicOp) → LeadsToWords (atomic_step o s c rest i)
    unfolding atomic_step
    atomic_leads o =
        some_leads (pointer_at s c.top (arg i 0)) _ (λ p e.
        some_leads (seen s p.0) _ (λ v at.
        some_leads (atomic_operands o s c.top i) (λ operands. asks (updating (atomic_operation o) (location s v p.1) operands) (set_found c rest i o)) (λ operands have words low. found_leads o words low)))

    memory_barrier_leads : LeadsToWords (memory_barrier_step s c rest i)
    unfolding memory_barrier_step
    memory_barrier_leads = some_leads (word_at s c.top (arg i 1)) (λ w. goes (memory_barriers w) (advanced c rest)) (λ w e. advanced_low c rest state)

    control_barrier_leads : LeadsToWords (control_barrier_step s c rest i)
    unfolding control_barrier_step
    control_barrier_leads = some_leads (word_at s c.top (arg i 2)) (λ w. goes (memory_barriers w ++ control_barrier ∷ []) (advanced c rest)) (λ w e. advanced_low c rest state)

    call_leads : LeadsToWords (call_step s c rest i)
    unfolding call_step
    call_leads =
        some_leads (function_of s.of.functions (arg i 0)) _ (λ f e.
        some_leads (each_one (held s c.top) (drop 1 i.args)) (λ arguments. goes [] (called s c rest i f arguments)) (λ arguments at. record {
          top = entered_low f (map (passed (length c.below)) arguments) (argument_low (length c.below) f.params arguments (all_held_low c.top (drop 1 i.args) arguments state.top at));
          calls = (state.top, state.calls);
          privates = state.privates;
        }))

    return_leads : (bs : List (Frame × ℕ)) → AreCallsOfWords bs → LeadsToWords (return_step c bs)
    unfolding return_step
    return_leads [] all = tt
    return_leads (b ∷ bs) all = record { top = all.0; calls = all.1; privates = state.privates }

    given_leads : (v : ValueTree) → IsOfWords v → (bs : List (Frame × ℕ)) → AreCallsOfWords bs → LeadsToWords (given_to v c bs)
    given_leads v low [] all = tt
    given_leads v low (b ∷ bs) all = record { top = (put_value b.0.ids b.1 (value v) all.0.0 (λ w same. subst IsOfWords (same_value v w same) low), all.0.1); calls = all.1; privates = state.privates }

    return_value_leads : LeadsToWords (return_value_step s c i)
    unfolding return_value_step
    return_value_leads = some_leads (value_at s c.top (arg i 0)) _ (λ v e. given_leads v (value_low c.top (arg i 0) v state.top e) c.below state.calls)

    edge_leads : (label : ℕ) → LeadsToWords (edge_step s c label)
    unfolding edge_step
    edge_leads label =
        some_leads (block_in c.top.function label) _ (λ t e.
        some_leads (slice_get c.top.function.blocks t) _ (λ b at.
        some_leads (each_one (phi_value s c.top (present_label c.top)) (phis b)) (λ values. goes [] (gone_to c t b values)) (λ values have. record {
          top = (phis_low c.top (present_label c.top) (phis b) values state.top have c.top.ids state.top.0, state.top.1);
          calls = state.calls;
          privates = state.privates;
        })))

    branch_leads : (o : Terminator) → LeadsToWords (branch_step o s c i)
    unfolding branch_step
    branch_leads o = some_leads (target_label o s c.top i) _ (λ label e. edge_leads label)

    steps_lead : (k : StepKind) → LeadsToWords (step_by k s c rest i)
    steps_lead the.operation = operation_leads
    steps_lead the.chain = chain_leads
    steps_lead the.array_length = length_leads
    steps_lead the.variable = variable_leads
    steps_lead the.load = load_leads
    steps_lead the.store = store_leads
    steps_lead (the.atomic o) = atomic_leads o
    steps_lead the.memory_barrier = memory_barrier_leads
    steps_lead the.control_barrier = control_barrier_leads
    steps_lead the.call = call_leads
    steps_lead the.merge = advanced_low c rest state
    steps_lead (the.branch o) = branch_leads o
    steps_lead the.return = return_leads c.below state.calls
    steps_lead the.return_value = return_value_leads
    steps_lead the.unreachable = tt

  -- each step leads to states of words
  pub words_step : (c : Conf) → IsStateOfWords c → LeadsToWords (act s c)
  unfolding act
  words_step c state = by_rest c.top.rest
    where
      by_rest : (js : List Inst) → LeadsToWords (act_on s c js)
      by_rest [] = tt
      by_rest (i ∷ rest) = steps_lead c state i rest (step_kind i.op)

  -- and a run starts in one
  pub words_start : (c : Conf) → start s ≡ Some c → IsStateOfWords c
  unfolding start
  words_start c e = by_start (have_values s) (function_of s.of.functions s.entry) e
    where
      by_start : (b : Bool) (o : Option Function) → start_by s b o ≡ Some c → IsStateOfWords c
      by_start true (Some f) e =
          subst IsStateOfWords (same_Some (first_state s f) c e) (record { top = entered_low f [] (λ id v at. absurd (no_arguments f.params id (value v) at)); calls = tt; privates = initial_private_low })
      by_start true None e = cc
      by_start false o e = cc
