-- Each step of a module leads from a state that fits its types to one that does.
use Rattle.std.proofs.Common.{◌≡◌, ◌≤◌, ◌==◌, ℕ, Bool, true, false, List, [], ◌∷◌, ◌++◌, length, map, drop, Option, Some, None, inl, inr, refl, sym, ap, ◌∙◌, subst, arith, if◌then◌else◌}
use Rattle.std.specs.Prelude.{◌⊎◌, option_map, option_and_then, slice_get, find}
use Rattle.std.specs.Option.{option_map_or}
use Rattle.std.proofs.lemmas.Bool.Decides.{eqb_tells}
use Rattle.std.proofs.lemmas.List.{length-map}
use Rattle.std.proofs.lemmas.Option.{same_Some}
use Rattle.spv_ops.specs.declared.AtomicOp.{AtomicOp}
use Rattle.spv_ops.specs.declared.AtomicOp.TheVariants as atomics
use Rattle.spv_ops.specs.declared.StorageClass.{StorageClass}
use Rattle.spv_ops.specs.declared.StorageClass.TheVariants as storage
use Rattle.spv_ops.specs.declared.Terminator.{Terminator}
use Rattle.spv_module.specs.Held.{global as global_inst}
use Rattle.spv_module.specs.declared.inst.Id.{Id}
use Rattle.spv_module.specs.declared.inst.Inst.{Inst}
use Rattle.spv_module.specs.declared.inst.Block.{Block}
use Rattle.spv_module.specs.declared.inst.Function.{Function}
use Rattle.spv_types.specs.Tree.{Tree, ValueTree, word}
use Rattle.spv_types.specs.Types.{type_tree}
use Rattle.spv_types.specs.Leaves.{leaf_count, IsSized}
use Rattle.spv_index.specs.Locals.{block_in}
use Rattle.spv_index.specs.Pointers.{pointee_of}
use Rattle.op_semantics.specs.declared.operation.Operation.{Operation}
use Rattle.op_semantics.specs.Fits.{fits}
use Rattle.op_semantics.specs.Component.{before, each_one}
use Rattle.op_semantics.specs.Composite.{extracted, inserted}
use Rattle.op_semantics.specs.Value.{op_value, operation_of, value_of_operation}
use Rattle.profile_rules.specs.Entry.{function_of}
use Rattle.profile_rules.specs.Places.{is_variable}
use Rattle.value_words.specs.Words.{value_from, scalar_paths}
use Rattle.traces.specs.Events.{Event, event_of, reading, read, control_barrier}
use Rattle.traces.specs.Runs.{Act, goes}
use Rattle.module_semantics.specs.Setting.{Setting, global_variable, as_variable}
use Rattle.module_semantics.specs.Memory.{location, locations, shape_along, are_allowed, elements, class_of}
use Rattle.module_semantics.specs.State.{Root, global, own, lent, Held, value, pointer, Frame, Conf, put, call_at, with_call, with_variable}
use Rattle.module_semantics.specs.Operands.{of_module, held, as_value, as_pointer, value_at, pointer_at, Target, arg, value_operands, literal_operands, values_at, word_at, words_at}
use Rattle.module_semantics.specs.Accesses.{seen, kept, keeping, with_lent, global_value, global_value_by}
use Rattle.module_semantics.specs.Steps as the
use Rattle.module_semantics.specs.Steps.{with_some, advanced, set, set_value, computed, operation_step, base, without_based, is_based_on, lead_if, chain_step, length_step, variable_step, read_shape, load_from, load_step, store_to, store_step, atomic_operands, set_found, atomic_step, memory_barriers, memory_barrier_step, control_barrier_step, phis, passed, argument_of, entered, call_step, return_step, given_to, return_value_step, target_label, phi_value, source_from, with_phis, present_label, edge_step, branch_step, StepKind, step_kind, step_by, act_on, act}
use Rattle.list_law.proofs.Options.{some_part}
use Rattle.list_law.proofs.Lists.{same_first, same_rest}
use Rattle.fits_law.specs.Takes.{AllFit}
use Rattle.fits_law.specs.State.{value_shape, target_shape, global_shape, result_shape, place_shape, functions_of, function_at, root_shape, HasShape, LeadsTo, IsLocal, HeldFits, IdsFit, VariablesFit, FrameFits, CallsFit, Await, ConfFits, ActFits, ModuleFits}
use Rattle.fits_law.specs.Typed.{HaveShapes, AreArguments, ArePhis, IsAtomic, IsLoad, IsTyped}
use Rattle.fits_law.proofs.Parts.{extracted_fits, inserted_fits, place_is, placed_is}
use Rattle.fits_law.proofs.Operations.{before_some, op_fits}
use Rattle.fits_law.proofs.Words.{read_fits, scalars}

-- shapes
has_some : (o : Option Tree) (t : Tree) (v : ValueTree) → o ≡ Some t → HasShape o v → fits t v ≡ true
has_some o t v e has = subst (λ q. HasShape q v) e has

some_has : (o : Option Tree) (t : Tree) (v : ValueTree) → o ≡ Some t → fits t v ≡ true → HasShape o v
some_has o t v e f = subst (λ q. HasShape q v) (sym e) f

pub has_is : (o : Option Tree) (v : ValueTree) → HasShape o v → (t : Tree) × (o ≡ Some t) × (fits t v ≡ true)
has_is None v has = absurd has
has_is (Some t) v has = (t, refl, has)

shape_append : (is js : List ℕ) (t u : Tree) → place_shape t is ≡ Some u → place_shape t (is ++ js) ≡ place_shape u js
shape_append [] js t u e = ap (λ x. place_shape x js) (same_Some t u e)
shape_append (i ∷ is) js t u e = let part = some_part (λ x. place_shape x is) _ u e in ap (option_and_then (λ x. place_shape x (is ++ js))) part.1 ∙ shape_append is js part.0 u part.2

leads_on : (r u w : Option Tree) (is js : List ℕ) → LeadsTo r is u → LeadsTo u js w → LeadsTo r (is ++ js) w
leads_on None u w is js a b = absurd a
leads_on (Some t) None w is js a b = absurd b
leads_on (Some t) (Some u) w is js a b = shape_append is js t u a ∙ b

leads_shape : (r : Option Tree) (is : List ℕ) (u : Tree) → LeadsTo r is (Some u) → (t : Tree) × (r ≡ Some t) × (place_shape t is ≡ Some u)
leads_shape None is u a = absurd a
leads_shape (Some t) is u a = (t, refl, a)

-- maps with one more entry
put_some : {A : Type 0} (f : ℕ → Option A) (n : ℕ) (a : A) (id : ℕ) (b : A) (P : ℕ → A → Type 0) → P n a → ((x : A) → f id ≡ Some x → P id x) → put f n a id ≡ Some b → P id b
put_some {A} f n a id b P mine other e = by_test (id == n) (eqb_tells id n) e
  where
    by_test : (t : Bool) → ((t ≡ true) × (id ≡ n)) ⊎ ((t ≡ false) × (id ≡ n → ⊥)) → elim t [ true ↦ Some a | false ↦ f id ] ≡ Some b → P id b
    by_test true (inl w) e = subst (λ k. P k b) (sym w.1) (subst (P n) (same_Some a b e) mine)
    by_test true (inr w) e = cc
    by_test false (inl w) e = cc
    by_test false (inr w) e = other b e

-- what is found by its result has it
pub named : (gs : List Inst) (id : ℕ) (g : Inst) → find (λ (x : Inst). x.result == id) gs ≡ Some g → g.result ≡ id
named [] id g e = cc
named (h ∷ gs) id g e = by_test (h.result == id) (eqb_tells h.result id) (named gs id g) e
  where
    by_test : (t : Bool) → ((t ≡ true) × (h.result ≡ id)) ⊎ ((t ≡ false) × (h.result ≡ id → ⊥)) → (find (λ (x : Inst). x.result == id) gs ≡ Some g → g.result ≡ id) → (if t then Some h else find (λ (x : Inst). x.result == id) gs) ≡ Some g → g.result ≡ id
    by_test true (inl w) later e = ap (λ (x : Inst). x.result) (sym (same_Some h g e)) ∙ w.1
    by_test true (inr w) later e = cc
    by_test false (inl w) later e = cc
    by_test false (inr w) later e = later e

module _ (s : Setting) (right : ModuleFits s) where
  ids_put : (fs : List Function) (f : Function) (ids : ℕ → Option Held) (n : ℕ) (h : Held) → IdsFit s fs f ids → IsLocal s n → HeldFits s fs f n h → IdsFit s fs f (put ids n h)
  ids_put fs f ids n h fit local mine id g e = put_some ids n h id g (λ k x. IsLocal s k × HeldFits s fs f k x) (local, mine) (λ x there. fit id x there) e

  variables_put : (f : Function) (vars : ℕ → Option ValueTree) (n : ℕ) (v : ValueTree) → VariablesFit s f vars → HasShape (target_shape s f n) v → VariablesFit s f (put vars n v)
  variables_put f vars n v fit mine id w e = put_some vars n v id w (λ k x. HasShape (target_shape s f k) x) mine (λ x there. fit id x there) e

  -- what an id has
  held_fits : (fs : List Function) (c : Frame) (id : ℕ) (h : Held) → IdsFit s fs c.function c.ids → held s c id ≡ Some h → HeldFits s fs c.function id h
  held_fits fs c id h fit e = by_own (c.ids id) refl e
    where
      by_global : (g : Option Inst) → global_variable s id ≡ g → elim g [ Some v ↦ Some (pointer (global id) []) | None ↦ option_map value (s.constants id) ] ≡ Some h → HeldFits s fs c.function id h
      by_global (Some v) is e = subst (HeldFits s fs c.function id) (same_Some (pointer (global id) []) h e) (right.globals c.function id v is)
      by_global None is e = by_constant (s.constants id) refl e
        where
          by_constant : (k : Option ValueTree) → s.constants id ≡ k → option_map value k ≡ Some h → HeldFits s fs c.function id h
          by_constant None is e = cc
          by_constant (Some v) is e = subst (HeldFits s fs c.function id) (same_Some (value v) h e) (right.constants c.function id v is)

      by_own : (o : Option Held) → c.ids id ≡ o → elim o [ Some h ↦ Some h | None ↦ of_module s id ] ≡ Some h → HeldFits s fs c.function id h
      by_own (Some g) is e = subst (HeldFits s fs c.function id) (same_Some g h e) (fit id g is).1
      by_own None is e = by_global (global_variable s id) refl e

  value_has : (fs : List Function) (c : Frame) (id : ℕ) (v : ValueTree) → IdsFit s fs c.function c.ids → value_at s c id ≡ Some v → HasShape (value_shape s c.function id) v
  value_has fs c id v fit e = by_held (held s c id) refl e
    where
      by_held : (o : Option Held) → held s c id ≡ o → as_value o ≡ Some v → HasShape (value_shape s c.function id) v
      by_held None is e = cc
      by_held (Some (value w)) is e = subst (HasShape (value_shape s c.function id)) (same_Some w v e) (held_fits fs c id (value w) fit is)
      by_held (Some (pointer r path)) is e = cc

  pointer_leads : (fs : List Function) (c : Frame) (id : ℕ) (p : Target) → IdsFit s fs c.function c.ids → pointer_at s c id ≡ Some p → LeadsTo (root_shape s fs c.function p.0) p.1 (target_shape s c.function id)
  pointer_leads fs c id p fit e = by_held (held s c id) refl e
    where
      by_held : (o : Option Held) → held s c id ≡ o → as_pointer o ≡ Some p → LeadsTo (root_shape s fs c.function p.0) p.1 (target_shape s c.function id)
      by_held None is e = cc
      by_held (Some (value w)) is e = cc
      by_held (Some (pointer r path)) is e = subst (λ (q : Target). LeadsTo (root_shape s fs c.function q.0) q.1 (target_shape s c.function id)) (same_Some (r, path) p e) (held_fits fs c id (pointer r path) fit is)

  all_fit : (fs : List Function) (c : Frame) (ids : List ℕ) (ts : List Tree) (vs : List ValueTree) → IdsFit s fs c.function c.ids → HaveShapes s c.function ids ts → values_at s c ids ≡ Some vs → AllFit ts vs
  all_fit fs c [] [] [] fit have e = tt
  all_fit fs c [] [] (v ∷ vs) fit have e = cc
  all_fit fs c [] (t ∷ ts) vs fit have e = absurd have
  all_fit fs c (id ∷ ids) [] vs fit have e = absurd have
  all_fit fs c (id ∷ ids) (t ∷ ts) vs fit have e = by_first (value_at s c id) refl (values_at s c ids) refl (λ ws rest. all_fit fs c ids ts ws fit have.1 rest) e
    where
      by_first : (o : Option ValueTree) → value_at s c id ≡ o → (q : Option (List ValueTree)) → values_at s c ids ≡ q → ((ws : List ValueTree) → values_at s c ids ≡ Some ws → AllFit ts ws) → before o q ≡ Some vs → AllFit (t ∷ ts) vs
      by_first None is q rest later e = cc
      by_first (Some v) is None rest later e = cc
      by_first (Some v) is (Some ws) rest later e =
          subst (AllFit (t ∷ ts)) (same_Some (v ∷ ws) vs e) (has_some (value_shape s c.function id) t v have.0 (value_has fs c id v fit is), later ws rest)

  -- nothing, or what follows from something
  some_fits : {A : Type 0} (o : Option A) (f : A → Act Conf) → ((a : A) → o ≡ Some a → ActFits s (f a)) → ActFits s (with_some o f)
  some_fits None f on = tt
  some_fits (Some a) f on = on a refl

  -- the state behind an instruction, and with its result
  advanced_fits : (c : Conf) (rest : List Inst) → ConfFits s c → ConfFits s (advanced c rest)
  advanced_fits c rest fit = record { top = fit.top; calls = fit.calls; awaited = fit.awaited; privates = fit.privates }

  set_fits : (c : Conf) (rest : List Inst) (i : Inst) (h : Held) → ConfFits s c → IsLocal s i.result → HeldFits s (functions_of c.below) c.top.function i.result h → ConfFits s (set c rest i h)
  set_fits c rest i h fit local mine = record { top = (ids_put (functions_of c.below) c.top.function c.top.ids i.result h fit.top.0 local mine, fit.top.1); calls = fit.calls; awaited = fit.awaited; privates = fit.privates }

  operation_fits : (c : Conf) (rest : List Inst) (i : Inst) → ConfFits s c → IsTyped s c.top.function i the.operation → ActFits s (operation_step s c rest i)
  unfolding operation_step
  operation_fits c rest i fit typed =
      some_fits (computed s c.top i) (λ v. goes [] (set_value c rest i v)) (λ v e.
      let t = some_part (λ (t : Tree). option_and_then (op_value i.op t (literal_operands i.op i.args)) (values_at s c.top (value_operands i.op i.args))) (type_tree s.of.globals i.ty) v e in
      let vs = some_part (op_value i.op t.0 (literal_operands i.op i.args)) (values_at s c.top (value_operands i.op i.args)) v t.2 in
      let o = some_part (λ (o : Operation). value_of_operation o t.0 (literal_operands i.op i.args) vs.0) (operation_of i.op (literal_operands i.op i.args)) v vs.2 in
      let is = typed.1 o.0 t.0 o.1 t.1 in
      set_fits c rest i (value v) fit typed.0
      (some_has (value_shape s c.top.function i.result) t.0 v is.0
      (op_fits o.0 t.0 (literal_operands i.op i.args) is.1.shapes vs.0 v is.1.takes (all_fit (functions_of c.below) c.top (value_operands i.op i.args) is.1.shapes vs.0 fit.top.0 is.1.have vs.1) o.2)))

  -- chains
  without_fits : (fs : List Function) (f : Function) (chain : ℕ) (ids : ℕ → Option Held) → IdsFit s fs f ids → IdsFit s fs f (without_based f chain ids)
  without_fits fs f chain ids fit id h e = by_test (is_based_on f chain id) e
    where
      by_test : (b : Bool) → elim b [ true ↦ None | false ↦ ids id ] ≡ Some h → IsLocal s id × HeldFits s fs f id h
      by_test true e = cc
      by_test false e = fit id h e

  chain_fits : (c : Conf) (rest : List Inst) (i : Inst) → ConfFits s c → IsTyped s c.top.function i the.chain → ActFits s (chain_step s c rest i)
  unfolding chain_step
  chain_fits c rest i fit typed =
      some_fits (pointer_at s c.top (base i)) _ (λ p has_base.
      some_fits (words_at s c.top (drop 1 i.args)) _ (λ indexes have.
      some_fits (pointee_of s.of.globals c.top.function (base i)) _ (λ ty is. by_test p indexes ty has_base have is (are_allowed s ty indexes) refl)))
    where
      by_test : (p : Target) (indexes : List ℕ) (ty : ℕ) → pointer_at s c.top (base i) ≡ Some p → words_at s c.top (drop 1 i.args) ≡ Some indexes → pointee_of s.of.globals c.top.function (base i) ≡ Some ty → (b : Bool) → are_allowed s ty indexes ≡ b → ActFits s (lead_if b c rest i p indexes)
      by_test p indexes ty has_base have is false allowed = tt
      by_test p indexes ty has_base have is true allowed = record {
        top = (
          ids_put (functions_of c.below) c.top.function (without_based c.top.function i.result c.top.ids) i.result (pointer p.0 (p.1 ++ indexes)) (without_fits (functions_of c.below) c.top.function i.result c.top.ids fit.top.0) typed.0
              (leads_on (root_shape s (functions_of c.below) c.top.function p.0) (target_shape s c.top.function (base i)) (target_shape s c.top.function i.result) p.1 indexes (pointer_leads (functions_of c.below) c.top (base i) p fit.top.0 has_base) (typed.1 c.top indexes ty refl (λ id h e. (fit.top.0 id h e).0) have is allowed)),
          fit.top.1,
        );
        calls = fit.calls;
        awaited = fit.awaited;
        privates = fit.privates;
      }

  length_fits : (c : Conf) (rest : List Inst) (i : Inst) → ConfFits s c → IsTyped s c.top.function i the.array_length → ActFits s (length_step s c rest i)
  unfolding length_step
  length_fits c rest i fit typed = some_fits (pointer_at s c.top (arg i 0)) _ (λ p e. some_fits (seen s p.0) _ (λ v is. set_fits c rest i (value (word (elements s v (arg i 1)))) fit typed.1 (typed.0 (elements s v (arg i 1)))))

  leads_here : (o : Option Tree) (v : ValueTree) → HasShape o v → LeadsTo o [] o
  leads_here None v has = absurd has
  leads_here (Some t) v has = refl

  variable_fits : (c : Conf) (rest : List Inst) (i : Inst) → ConfFits s c → IsLocal s i.result → ActFits s (variable_step s c rest i)
  unfolding variable_step
  variable_fits c rest i fit local = some_fits (c.top.variables i.result) _ (λ v e. set_fits c rest i (pointer (own i.result) []) fit local (leads_here (target_shape s c.top.function i.result) v (fit.top.1 i.result v e)))

  -- what variables have that no other invocation sees
  variable_named : (id : ℕ) (v : Inst) → global_variable s id ≡ Some v → v.result ≡ id
  variable_named id v e = by_global (global_inst s.of.globals id) refl e
    where
      by_variable : (g : Inst) → g.result ≡ id → (b : Bool) → elim b [ true ↦ Some g | false ↦ None ] ≡ Some v → v.result ≡ id
      by_variable g is true e = ap (λ (x : Inst). x.result) (sym (same_Some g v e)) ∙ is
      by_variable g is false e = cc

      by_global : (o : Option Inst) → global_inst s.of.globals id ≡ o → elim o [ None ↦ None | Some g ↦ as_variable g ] ≡ Some v → v.result ≡ id
      by_global None is e = cc
      by_global (Some g) is e = by_variable g (named s.of.globals id g is) (is_variable g) e

  called_at : (depth : ℕ) (bs : List (Frame × ℕ)) (g : Frame) → call_at depth bs ≡ Some g → function_at depth (functions_of bs) ≡ Some g.function
  called_at depth [] g e = cc
  called_at depth (b ∷ bs) g e = by_test (length bs == depth) refl (called_at depth bs g) e
    where
      by_test : (t : Bool) → (length bs == depth) ≡ t → (call_at depth bs ≡ Some g → function_at depth (functions_of bs) ≡ Some g.function) → elim t [ true ↦ Some b.0 | false ↦ call_at depth bs ] ≡ Some g → function_at depth (functions_of (b ∷ bs)) ≡ Some g.function
      by_test true is later e =
          ap (λ (t : Bool). elim t [ true ↦ Some b.0.function | false ↦ function_at depth (functions_of bs) ]) (ap (λ n. n == depth) (length-map bs (λ (x : Frame × ℕ). x.0.function)) ∙ is) ∙ ap (λ (x : Frame). Some x.function) (same_Some b.0 g e)
      by_test false is later e =
          ap (λ (t : Bool). elim t [ true ↦ Some b.0.function | false ↦ function_at depth (functions_of bs) ]) (ap (λ n. n == depth) (length-map bs (λ (x : Frame × ℕ). x.0.function)) ∙ is) ∙ later e

  calls_have : (depth : ℕ) (bs : List (Frame × ℕ)) (g : Frame) (id : ℕ) (v : ValueTree) → CallsFit s bs → call_at depth bs ≡ Some g → g.variables id ≡ Some v → HasShape (target_shape s g.function id) v
  calls_have depth [] g id v fit e at = cc
  calls_have depth (b ∷ bs) g id v fit e at = by_test (length bs == depth) (λ there. calls_have depth bs g id v fit.1 there at) e
    where
      by_test : (t : Bool) → (call_at depth bs ≡ Some g → HasShape (target_shape s g.function id) v) → elim t [ true ↦ Some b.0 | false ↦ call_at depth bs ] ≡ Some g → HasShape (target_shape s g.function id) v
      by_test true later e = let same : b.0 ≡ g = same_Some b.0 g e in subst (λ (x : Frame). HasShape (target_shape s x.function id) v) same (fit.0.1 id v (ap (λ (x : Frame). x.variables id) same ∙ at))
      by_test false later e = later e

  kept_has : (c : Conf) (r : Root) (v : ValueTree) → ConfFits s c → kept s c r ≡ Some v → HasShape (root_shape s (functions_of c.below) c.top.function r) v
  kept_has c (own id) v fit e = fit.top.1 id v e
  kept_has c (lent depth id) v fit e =
      let g = some_part (λ (f : Frame). f.variables id) (call_at depth c.below) v e in
      subst (λ o. HasShape (option_and_then (λ x. target_shape s x id) o) v) (sym (called_at depth c.below g.0 g.1)) (calls_have depth c.below g.0 id v fit.calls g.1 g.2)
  kept_has c (global id) v fit e =
      let g = some_part (global_value s c) (global_variable s id) v e in
      by_class g.0 g.1 (class_of g.0) refl g.2
    where
      by_class : (g : Inst) → global_variable s id ≡ Some g → (o : Option StorageClass) → class_of g ≡ o → global_value_by s c g o ≡ Some v → HasShape (global_shape s id) v
      by_class g is (Some storage.Private) class e = fit.privates id v g is class (ap c.privates (sym (variable_named id g is)) ∙ e)
      by_class g is (Some storage.Input) class e = right.inputs id g v is class e
      by_class g is _ class e = cc

  -- reads
  words_read : (t : Tree) (s_v : Inst) (path words : List ℕ) (e : Event) → shape_along s s_v path ≡ Some t → event_of (reading (locations s s_v path)) words ≡ Some e → length words ≡ leaf_count t
  words_read t v path words e shape is =
      by_test (length words == length (locations s v path)) (eqb_tells (length words) (length (locations s v path))) is
      ∙ ap (λ (o : Option Tree). length (option_map_or (λ (u : Tree). map (λ rest. location s v (path ++ rest)) (scalar_paths u)) o [])) shape
      ∙ length-map (scalar_paths t) (λ rest. location s v (path ++ rest)) ∙ scalars t
    where
      by_test : (b : Bool) → ((b ≡ true) × (length words ≡ length (locations s v path))) ⊎ ((b ≡ false) × (length words ≡ length (locations s v path) → ⊥)) → (if b then Some (read (locations s v path) words) else None) ≡ Some e → length words ≡ length (locations s v path)
      by_test true (inl w) e = w.1
      by_test true (inr w) e = cc
      by_test false w e = cc

  reads_fit_of : (c : Conf) (rest : List Inst) (i : Inst) (p : Target) → ConfFits s c → IsLoad s c.top.function i → LeadsTo (root_shape s (functions_of c.below) c.top.function p.0) p.1 (target_shape s c.top.function (arg i 0)) → (o : Option Inst) → seen s p.0 ≡ o → ActFits s (load_from s c rest i p o)
  reads_fit_of c rest i p fit typed leads (Some v) is =
      some_fits (shape_along s v p.1) (read_shape s c rest i v p) (λ t shape words e event.
      let same : t ≡ typed.shape = by_root p.0 is (subst (LeadsTo (root_shape s (functions_of c.below) c.top.function p.0) p.1) typed.target leads) t shape in
      let count = words_read t v p.1 words e shape event in
      set_fits c rest i (value (value_from t words)) fit typed.local
      (some_has (value_shape s c.top.function i.result) t (value_from t words) (typed.result ∙ ap (λ x. Some x) (sym same)) (read_fits t words (subst IsSized (sym same) typed.sized) (let enough : leaf_count t ≤ length words = omega (arith, count) in enough))))
    where
      by_root : (r : Root) → seen s r ≡ Some v → LeadsTo (root_shape s (functions_of c.below) c.top.function r) p.1 (Some typed.shape) → (t : Tree) → shape_along s v p.1 ≡ Some t → t ≡ typed.shape
      by_root (global id) is leads t shape = right.along id p.1 v t typed.shape is shape leads
      by_root (own id) is leads t shape = cc
      by_root (lent depth id) is leads t shape = cc
  reads_fit_of c rest i p fit typed leads None is =
      some_fits (option_and_then (extracted p.1) (kept s c p.0)) _ (λ v got.
      let whole = some_part (extracted p.1) (kept s c p.0) v got in
      let shape = leads_shape (root_shape s (functions_of c.below) c.top.function p.0) p.1 typed.shape (subst (LeadsTo (root_shape s (functions_of c.below) c.top.function p.0) p.1) typed.target leads) in
      let old = has_some (root_shape s (functions_of c.below) c.top.function p.0) shape.0 whole.0 shape.1 (kept_has c p.0 whole.0 fit whole.1) in
      set_fits c rest i (value v) fit typed.local
      (some_has (value_shape s c.top.function i.result) typed.shape v typed.result
      (extracted_fits p.1 shape.0 typed.shape whole.0 v (place_is p.1 shape.0 typed.shape whole.0 v shape.2 old whole.2) old whole.2)))

  load_fits : (c : Conf) (rest : List Inst) (i : Inst) → ConfFits s c → IsLoad s c.top.function i → ActFits s (load_step s c rest i)
  unfolding load_step
  load_fits c rest i fit typed = some_fits (pointer_at s c.top (arg i 0)) _ (λ p e. reads_fit_of c rest i p fit typed (pointer_leads (functions_of c.below) c.top (arg i 0) p fit.top.0 e) (seen s p.0) refl)

  -- another value of a variable
  same_functions : (depth : ℕ) (bs : List (Frame × ℕ)) (g : Frame) (id : ℕ) (v : ValueTree) → call_at depth bs ≡ Some g → functions_of (with_call depth (with_variable id v g) bs) ≡ functions_of bs
  same_functions depth [] g id v e = refl
  same_functions depth (b ∷ bs) g id v e = by_test (length bs == depth) (same_functions depth bs g id v) e
    where
      by_test : (t : Bool) → (call_at depth bs ≡ Some g → functions_of (with_call depth (with_variable id v g) bs) ≡ functions_of bs) → elim t [ true ↦ Some b.0 | false ↦ call_at depth bs ] ≡ Some g → functions_of (elim t [ true ↦ (with_variable id v g, b.1) ∷ bs | false ↦ b ∷ with_call depth (with_variable id v g) bs ]) ≡ functions_of (b ∷ bs)
      by_test true later e = ap (λ (x : Frame). x.function ∷ functions_of bs) (sym (same_Some b.0 g e))
      by_test false later e = ap (λ fs. b.0.function ∷ fs) (later e)

  calls_with : (depth : ℕ) (bs : List (Frame × ℕ)) (g : Frame) (id : ℕ) (v : ValueTree) → CallsFit s bs → call_at depth bs ≡ Some g → HasShape (target_shape s g.function id) v → CallsFit s (with_call depth (with_variable id v g) bs)
  calls_with depth [] g id v fit e has = tt
  calls_with depth (b ∷ bs) g id v fit e has = by_test (length bs == depth) (λ there. calls_with depth bs g id v fit.1 there has) e
    where
      by_test : (t : Bool) → (call_at depth bs ≡ Some g → CallsFit s (with_call depth (with_variable id v g) bs)) → elim t [ true ↦ Some b.0 | false ↦ call_at depth bs ] ≡ Some g → CallsFit s (elim t [ true ↦ (with_variable id v g, b.1) ∷ bs | false ↦ b ∷ with_call depth (with_variable id v g) bs ])
      by_test true later e = let frame : FrameFits s (functions_of bs) g = subst (FrameFits s (functions_of bs)) (same_Some b.0 g e) fit.0 in ((frame.0, variables_put g.function g.variables id v frame.1 has), fit.1)
      by_test false later e = (subst (λ fs. FrameFits s fs b.0) (sym (same_functions depth bs g id v e)) fit.0, later e)

  await_with : (depth : ℕ) (f : Function) (bs : List (Frame × ℕ)) (g : Frame) (id : ℕ) (v : ValueTree) → Await s f bs → call_at depth bs ≡ Some g → Await s f (with_call depth (with_variable id v g) bs)
  await_with depth f [] g id v wait e = tt
  await_with depth f (b ∷ bs) g id v wait e = by_test (length bs == depth) (await_with depth b.0.function bs g id v wait.1) e
    where
      by_test : (t : Bool) → (call_at depth bs ≡ Some g → Await s b.0.function (with_call depth (with_variable id v g) bs)) → elim t [ true ↦ Some b.0 | false ↦ call_at depth bs ] ≡ Some g → Await s f (elim t [ true ↦ (with_variable id v g, b.1) ∷ bs | false ↦ b ∷ with_call depth (with_variable id v g) bs ])
      by_test true later e = subst (λ (x : Frame). ((value_shape s x.function b.1 ≡ result_shape s f) × IsLocal s b.1) × Await s x.function bs) (same_Some b.0 g e) wait
      by_test false later e = (wait.0, later e)

  keeping_fits : (c : Conf) (r : Root) (v : ValueTree) → ConfFits s c → HasShape (root_shape s (functions_of c.below) c.top.function r) v → ConfFits s (keeping r v c)
  keeping_fits c (global id) v fit has = record { top = fit.top; calls = fit.calls; awaited = fit.awaited; privates = λ k w g is class e. put_some c.privates id v k w (λ n x. HasShape (global_shape s n) x) has (λ x there. fit.privates k x g is class there) e }
  keeping_fits c (own id) v fit has = record { top = (fit.top.0, variables_put c.top.function c.top.variables id v fit.top.1 has); calls = fit.calls; awaited = fit.awaited; privates = fit.privates }
  keeping_fits c (lent depth id) v fit has = by_call (call_at depth c.below) refl
    where
      by_call : (o : Option Frame) → call_at depth c.below ≡ o → ConfFits s (with_lent depth id v c o)
      by_call None is = fit
      by_call (Some g) is =
          let has_it : HasShape (target_shape s g.function id) v = subst (λ q. HasShape (option_and_then (λ x. target_shape s x id) q) v) (called_at depth c.below g is) has in record {
            top = subst (λ fs. FrameFits s fs c.top) (sym (same_functions depth c.below g id v is)) fit.top;
            calls = calls_with depth c.below g id v fit.calls is has_it;
            awaited = await_with depth c.top.function c.below g id v fit.awaited is;
            privates = fit.privates;
          }

  stored_fits : (c : Conf) (rest : List Inst) (p : Target) (v : ValueTree) (u : Option Tree) → ConfFits s c → LeadsTo (root_shape s (functions_of c.below) c.top.function p.0) p.1 u → HasShape u v → (o : Option Inst) → ActFits s (store_to s c rest p v o)
  stored_fits c rest p v u fit leads has (Some var) = advanced_fits c rest fit
  stored_fits c rest p v u fit leads has None =
      some_fits (option_and_then (inserted v p.1) (kept s c p.0)) _ (λ w got.
      let whole = some_part (inserted v p.1) (kept s c p.0) w got in
      let new = has_is u v has in
      let shape = leads_shape (root_shape s (functions_of c.below) c.top.function p.0) p.1 new.0 (subst (LeadsTo (root_shape s (functions_of c.below) c.top.function p.0) p.1) new.1 leads) in
      let old = has_some (root_shape s (functions_of c.below) c.top.function p.0) shape.0 whole.0 shape.1 (kept_has c p.0 whole.0 fit whole.1) in
      keeping_fits (advanced c rest) p.0 w (advanced_fits c rest fit) (some_has (root_shape s (functions_of c.below) c.top.function p.0) shape.0 w shape.1 (inserted_fits p.1 shape.0 new.0 v whole.0 w (placed_is p.1 shape.0 new.0 v whole.0 w shape.2 old whole.2) new.2 old whole.2)))

  store_fits : (c : Conf) (rest : List Inst) (i : Inst) → ConfFits s c → value_shape s c.top.function (arg i 1) ≡ target_shape s c.top.function (arg i 0) → ActFits s (store_step s c rest i)
  unfolding store_step
  store_fits c rest i fit typed =
      some_fits (pointer_at s c.top (arg i 0)) _ (λ p e.
      some_fits (value_at s c.top (arg i 1)) _ (λ v is.
      stored_fits c rest p v (target_shape s c.top.function (arg i 0)) fit (pointer_leads (functions_of c.below) c.top (arg i 0) p fit.top.0 e)
      (subst (λ o. HasShape o v) typed (value_has (functions_of c.below) c.top (arg i 1) v fit.top.0 is)) (seen s p.0)))

  found_fits : (o : AtomicOp) (c : Conf) (rest : List Inst) (i : Inst) (words : List ℕ) → ConfFits s c → IsAtomic o s c.top.function i → ConfFits s (set_found c rest i o words)
  found_fits atomics.Store c rest i words fit typed = advanced_fits c rest fit
  found_fits o c rest i words fit typed = set_fits c rest i (value (word _)) fit typed.1 (typed.0 _)

  atomic_fits : (o : AtomicOp) (c : Conf) (rest : List Inst) (i : Inst) → ConfFits s c → IsAtomic o s c.top.function i → ActFits s (atomic_step o s c rest i)
  unfolding atomic_step
  atomic_fits o c rest i fit typed =
      some_fits (pointer_at s c.top (arg i 0)) _ (λ p e. some_fits (seen s p.0) _ (λ v is. some_fits (atomic_operands o s c.top i) _ (λ operands have words event told. found_fits o c rest i words fit typed)))

  memory_barrier_fits : (c : Conf) (rest : List Inst) (i : Inst) → ConfFits s c → ActFits s (memory_barrier_step s c rest i)
  unfolding memory_barrier_step
  memory_barrier_fits c rest i fit = some_fits (word_at s c.top (arg i 1)) (λ w. goes (memory_barriers w) (advanced c rest)) (λ w e. advanced_fits c rest fit)

  control_barrier_fits : (c : Conf) (rest : List Inst) (i : Inst) → ConfFits s c → ActFits s (control_barrier_step s c rest i)
  unfolding control_barrier_step
  control_barrier_fits c rest i fit = some_fits (word_at s c.top (arg i 2)) (λ w. goes (memory_barriers w ++ control_barrier ∷ []) (advanced c rest)) (λ w e. advanced_fits c rest fit)

  -- calls: a pointer into the caller's variables leads into the same variable of a call below
  function_far : (depth : ℕ) (fs : List Function) → length fs ≤ depth → function_at depth fs ≡ None
  function_far depth [] le = refl
  function_far depth (f ∷ fs) le = by_test (length fs == depth) (eqb_tells (length fs) depth) (function_far depth fs (let less : length fs ≤ depth = omega (arith, le) in less))
    where
      by_test : (t : Bool) → ((t ≡ true) × (length fs ≡ depth)) ⊎ ((t ≡ false) × (length fs ≡ depth → ⊥)) → function_at depth fs ≡ None → ◌≡◌ {A = Option Function} (elim t [ true ↦ Some f | false ↦ function_at depth fs ]) None
      by_test true (inl w) later = let same = w.1 in absurd (omega (arith, le, same))
      by_test true (inr w) later = cc
      by_test false (inl w) later = cc
      by_test false (inr w) later = later

  passed_fits : (fs : List Function) (f g : Function) (depth id other : ℕ) (h : Held) → length fs ≡ depth → value_shape s g id ≡ value_shape s f other → target_shape s g id ≡ target_shape s f other → HeldFits s fs f other h → HeldFits s (f ∷ fs) g id (passed depth h)
  passed_fits fs f g depth id other (value v) size same leads fit = subst (λ o. HasShape o v) (sym same) fit
  passed_fits fs f g depth id other (pointer (global x) path) size same leads fit = subst (LeadsTo (global_shape s x) path) (sym leads) fit
  passed_fits fs f g depth id other (pointer (own x) path) size same leads fit = by_test (length fs == depth) (eqb_tells (length fs) depth)
    where
      by_test : (t : Bool) → ((t ≡ true) × (length fs ≡ depth)) ⊎ ((t ≡ false) × (length fs ≡ depth → ⊥)) → LeadsTo (option_and_then (λ k. target_shape s k x) (elim t [ true ↦ Some f | false ↦ function_at depth fs ])) path (target_shape s g id)
      by_test true w = subst (LeadsTo (target_shape s f x) path) (sym leads) fit
      by_test false (inl w) = cc
      by_test false (inr w) = absurd (w.1 size)
  passed_fits fs f g depth id other (pointer (lent n x) path) size same leads fit = by_test (length fs == n) (eqb_tells (length fs) n)
    where
      by_test : (t : Bool) → ((t ≡ true) × (length fs ≡ n)) ⊎ ((t ≡ false) × (length fs ≡ n → ⊥)) → LeadsTo (option_and_then (λ k. target_shape s k x) (elim t [ true ↦ Some f | false ↦ function_at n fs ])) path (target_shape s g id)
      by_test true (inl w) =
          let far : function_at n fs ≡ None = function_far n fs (let size_is = w.1 in let le : length fs ≤ n = omega (arith, size_is) in le) in
          absurd (subst (λ o. LeadsTo (option_and_then (λ k. target_shape s k x) o) path (target_shape s f other)) far fit)
      by_test true (inr w) = cc
      by_test false w = subst (LeadsTo (option_and_then (λ k. target_shape s k x) (function_at n fs)) path) (sym leads) fit

  arguments_fit : (fs : List Function) (c : Frame) (g : Function) (depth : ℕ) → length fs ≡ depth → IdsFit s fs c.function c.ids → (ps : List (Id × Id)) (ids : List ℕ) (hs : List Held) → AreArguments s c.function g ps ids → each_one (held s c) ids ≡ Some hs
      → IdsFit s (c.function ∷ fs) g (argument_of ps (map (passed depth) hs))
  arguments_fit fs c g depth size fit [] ids hs are e id h at = cc
  arguments_fit fs c g depth size fit (p ∷ ps) [] [] are e id h at = cc
  arguments_fit fs c g depth size fit (p ∷ ps) [] (k ∷ hs) are e id h at = cc
  arguments_fit fs c g depth size fit (p ∷ ps) (x ∷ ids) [] are e id h at = cc
  arguments_fit fs c g depth size fit (p ∷ ps) (x ∷ ids) (k ∷ hs) are e id h at =
      let b = before_some (held s c x) (each_one (held s c) ids) (k ∷ hs) e in
      let first : k ≡ b.0 = same_first k b.0 hs b.1 b.4 in
      let rest : hs ≡ b.1 = same_rest k b.0 hs b.1 b.4 in
      let own_fits = passed_fits fs c.function g depth p.0.0 x k size are.0 are.1 (held_fits fs c x k fit (b.2 ∙ ap (λ y. Some y) (sym first))) in
      by_test (p.0.0 == id) (eqb_tells p.0.0 id) (are.2, own_fits) (arguments_fit fs c g depth size fit ps ids hs are.3 (b.3 ∙ ap (λ l. Some l) (sym rest)) id h) at
    where
      by_test : (t : Bool) → ((t ≡ true) × (p.0.0 ≡ id)) ⊎ ((t ≡ false) × (p.0.0 ≡ id → ⊥)) → IsLocal s p.0.0 × HeldFits s (c.function ∷ fs) g p.0.0 (passed depth k) → (argument_of ps (map (passed depth) hs) id ≡ Some h → IsLocal s id × HeldFits s (c.function ∷ fs) g id h)
          → elim t [ true ↦ Some (passed depth k) | false ↦ argument_of ps (map (passed depth) hs) id ] ≡ Some h → IsLocal s id × HeldFits s (c.function ∷ fs) g id h
      by_test true (inl w) own_fits later at = subst (λ n. IsLocal s n × HeldFits s (c.function ∷ fs) g n h) w.1 (own_fits.0, subst (HeldFits s (c.function ∷ fs) g p.0.0) (same_Some (passed depth k) h at) own_fits.1)
      by_test true (inr w) own_fits later at = cc
      by_test false (inl w) own_fits later at = cc
      by_test false (inr w) own_fits later at = later at

  call_fits : (c : Conf) (rest : List Inst) (i : Inst) → ConfFits s c → IsTyped s c.top.function i the.call → ActFits s (call_step s c rest i)
  unfolding call_step entered
  call_fits c rest i fit typed =
      some_fits (function_of s.of.functions (arg i 0)) _ (λ g is.
      some_fits (each_one (held s c.top) (drop 1 i.args)) _ (λ arguments have.
      let how = typed g is in record {
        top = (arguments_fit (functions_of c.below) c.top g (length c.below) (length-map c.below (λ (b : Frame × ℕ). b.0.function)) fit.top.0 g.params (drop 1 i.args) arguments how.arguments have, how.variables);
        calls = (fit.top, fit.calls);
        awaited = ((how.result, how.local), fit.awaited);
        privates = fit.privates;
      }))

  return_fits : (c : Conf) (bs : List (Frame × ℕ)) → CallsFit s bs → Await s c.top.function bs → ConfFits s c → ActFits s (return_step c bs)
  unfolding return_step
  return_fits c [] calls wait fit = tt
  return_fits c (b ∷ bs) calls wait fit = record { top = calls.0; calls = calls.1; awaited = wait.1; privates = fit.privates }

  given_fits : (c : Conf) (v : ValueTree) (bs : List (Frame × ℕ)) → CallsFit s bs → Await s c.top.function bs → HasShape (result_shape s c.top.function) v → ConfFits s c → ActFits s (given_to v c bs)
  given_fits c v [] calls wait has fit = tt
  given_fits c v (b ∷ bs) calls wait has fit = record {
    top = (ids_put (functions_of bs) b.0.function b.0.ids b.1 (value v) calls.0.0 wait.0.1 (subst (λ o. HasShape o v) (sym wait.0.0) has), calls.0.1);
    calls = calls.1;
    awaited = wait.1;
    privates = fit.privates;
  }

  return_value_fits : (c : Conf) (i : Inst) → ConfFits s c → value_shape s c.top.function (arg i 0) ≡ result_shape s c.top.function → ActFits s (return_value_step s c i)
  unfolding return_value_step
  return_value_fits c i fit typed =
      some_fits (value_at s c.top (arg i 0)) _ (λ v e. given_fits c v c.below fit.calls fit.awaited (subst (λ o. HasShape o v) typed (value_has (functions_of c.below) c.top (arg i 0) v fit.top.0 e)) fit)

  -- edges
  phis_fit : (fs : List Function) (c : Frame) (from : ℕ) → IdsFit s fs c.function c.ids → (is : List Inst) (vs : List ValueTree) → ArePhis s c.function is → each_one (phi_value s c from) is ≡ Some vs → IdsFit s fs c.function (with_phis is vs c.ids)
  phis_fit fs c from fit [] vs are e = fit
  phis_fit fs c from fit (i ∷ is) [] are e = fit
  phis_fit fs c from fit (i ∷ is) (v ∷ vs) are e =
      let b = before_some (phi_value s c from i) (each_one (phi_value s c from) is) (v ∷ vs) e in
      let first : v ≡ b.0 = same_first v b.0 vs b.1 b.4 in
      let rest : vs ≡ b.1 = same_rest v b.0 vs b.1 b.4 in
      let source = some_part (value_at s c) (source_from from i.args) v (b.2 ∙ ap (λ x. Some x) (sym first)) in
      ids_put fs c.function (with_phis is vs c.ids) i.result (value v) (phis_fit fs c from fit is vs are.2 (b.3 ∙ ap (λ l. Some l) (sym rest))) are.1
      (subst (λ o. HasShape o v) (are.0 from source.0 source.1) (value_has fs c source.0 v fit source.2))

  edge_fits : (c : Conf) (label : ℕ) → ConfFits s c → ((t : ℕ) (b : Block) → slice_get c.top.function.blocks t ≡ Some b → ArePhis s c.top.function (phis b)) → ActFits s (edge_step s c label)
  unfolding edge_step
  edge_fits c label fit typed =
      some_fits (block_in c.top.function label) _ (λ t to.
      some_fits (slice_get c.top.function.blocks t) _ (λ b is.
      some_fits (each_one (phi_value s c.top (present_label c.top)) (phis b)) _ (λ values have.
      record { top = (phis_fit (functions_of c.below) c.top (present_label c.top) fit.top.0 (phis b) values (typed t b is) have, fit.top.1); calls = fit.calls; awaited = fit.awaited; privates = fit.privates })))

  branch_fits : (o : Terminator) (c : Conf) (i : Inst) → ConfFits s c → IsTyped s c.top.function i (the.branch o) → ActFits s (branch_step o s c i)
  unfolding branch_step
  branch_fits o c i fit typed = some_fits (target_label o s c.top i) _ (λ label e. edge_fits c label fit typed)

  steps_fit : (k : StepKind) (c : Conf) (rest : List Inst) (i : Inst) → ConfFits s c → IsTyped s c.top.function i k → ActFits s (step_by k s c rest i)
  steps_fit the.operation c rest i fit typed = operation_fits c rest i fit typed
  steps_fit the.chain c rest i fit typed = chain_fits c rest i fit typed
  steps_fit the.array_length c rest i fit typed = length_fits c rest i fit typed
  steps_fit the.variable c rest i fit typed = variable_fits c rest i fit typed
  steps_fit the.load c rest i fit typed = load_fits c rest i fit typed
  steps_fit the.store c rest i fit typed = store_fits c rest i fit typed
  steps_fit (the.atomic o) c rest i fit typed = atomic_fits o c rest i fit typed
  steps_fit the.memory_barrier c rest i fit typed = memory_barrier_fits c rest i fit
  steps_fit the.control_barrier c rest i fit typed = control_barrier_fits c rest i fit
  steps_fit the.call c rest i fit typed = call_fits c rest i fit typed
  steps_fit the.merge c rest i fit typed = advanced_fits c rest fit
  steps_fit (the.branch o) c rest i fit typed = branch_fits o c i fit typed
  steps_fit the.return c rest i fit typed = return_fits c c.below fit.calls fit.awaited fit
  steps_fit the.return_value c rest i fit typed = return_value_fits c i fit typed
  steps_fit the.unreachable c rest i fit typed = tt

  -- what a state that fits does next leads to states that fit
  pub fits_step : (c : Conf) → ConfFits s c → ((i : Inst) (rest : List Inst) → c.top.rest ≡ i ∷ rest → IsTyped s c.top.function i (step_kind i.op)) → ActFits s (act s c)
  unfolding act
  fits_step c fit typed = by_rest c.top.rest refl
    where
      by_rest : (is : List Inst) → c.top.rest ≡ is → ActFits s (act_on s c is)
      by_rest [] e = tt
      by_rest (i ∷ rest) e = steps_fit (step_kind i.op) c rest i fit (typed i rest e)
