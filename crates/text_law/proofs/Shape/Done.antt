-- What is seen of the statements of a block is what its instructions do.
use Rattle.std.proofs.Common.{◌≡◌, ◌||◌, ◌&&◌, ◌==◌, ℕ, Bool, true, false, List, [], ◌∷◌, ◌++◌, map, filter, flat_map, drop, is_some, refl, sym, ◌∙◌, ap, ap₂, subst, if◌then◌else◌}
use Rattle.std.specs.Prelude.{slice_index, codes, bit_and}
use Rattle.std.specs.List.{AllZip, list_all}
use Rattle.std.proofs.lemmas.Grind.{flat_map-append}
use Rattle.std.proofs.lemmas.List.Elements.{filter-append}
use Rattle.spv_ops.specs.OpGroups.{group_of}
use Rattle.spv_ops.specs.declared.OpGroup.{OpGroup}
use Rattle.spv_ops.specs.declared.OpGroup.TheVariants as groups
use Rattle.spv_ops.specs.declared.AtomicOp.{AtomicOp}
use Rattle.spv_ops.specs.declared.AtomicOp.TheVariants as atomic
use Rattle.spv_module.specs.Lists.{id}
use Rattle.spv_module.specs.declared.inst.Inst.{Inst}
use Rattle.profile_rules.specs.MemoryRules.{pointee_of}
use Rattle.hoist_plan.specs.declared.form.Form.{Form}
use Rattle.hoist_plan.specs.declared.form.Form.TheVariants.{Local, Hoisted}
use Rattle.name_alloc.specs.declared.claims.Key.TheVariants.{Id}
use Rattle.traces.specs.Events as event
use Rattle.traces.specs.Events.{Event}
use Rattle.module_semantics.specs.Steps as steps
use Rattle.module_semantics.specs.Steps.{memory_barriers}
use Rattle.glsl_ast.specs.Tree.{Text, Expr, exprs_in, Stmt}
use Rattle.text_rules.specs.Constants.{Source}
use Rattle.expr_forward.specs.Kinds.{kind_in, kind_of}
use Rattle.expr_forward.specs.declared.kinds.InstKind.{InstKind}
use Rattle.expr_forward.specs.declared.kinds.InstKind.TheVariants as kind
use Rattle.expr_forward.specs.Scope.{Scope, globals}
use Rattle.expr_forward.specs.Values.{value}
use Rattle.expr_forward.specs.Paths.{place_text, place_expr}
use Rattle.expr_forward.specs.Statements.{set_by, is_void, callee_text, call_argument, call_arguments, has_result, comparator, atomic_operand, atomic_name, atomic_arguments, bare_call, when_bit, memory_barrier, semantics, is_variable_form, inst_text}
use Rattle.list_law.proofs.Tests.{or_true}
use Rattle.claim_law.specs.Uses.{UseEach}
use Rattle.claim_law.specs.Statements.{EachStmt}
use Rattle.claim_law.specs.Told.{is_among}
use Rattle.text_law.specs.Deeds.{Deed, reads, assigns, calls, deeds, deeds_of, place_deeds}
use Rattle.text_law.specs.Walks.{Outer, is_atomic, is_barrier, is_seen}
use Rattle.text_law.specs.Pairs.{Act, loads, stores, enters, updates, bars, does, is_read, is_done}
use Rattle.text_law.specs.Shape.{bars_of, acts_in, acts_of}
use Rattle.text_law.specs.Unseen.{unseen, AreLeaves, if_some, seen_in}
use Rattle.text_law.specs.Asked.{HasVariable, IsArgument, AreArguments, AsksSeen, AllAskSeen}
use Rattle.text_law.proofs.Shape.Unseen.{uses-quiet, leaf-quiet}
use Rattle.text_law.proofs.Shape.Leaves.{seen-both, path-read, path-assigned, inst-leaves}

module _ (o : Outer) (h : ℕ) where
  abbrev Done : List Act → List (List Deed) → Type 0
  Done as' dss = AllZip (λ (a : Act) (ds : List Deed). is_done o a (does h ds) ≡ true) as' dss

  done-both : (xs ys : List Act) (ds es : List (List Deed)) → Done xs ds → Done ys es → Done (xs ++ ys) (ds ++ es)
  done-both [] ys [] es p q = q
  done-both [] ys (d ∷ ds) es p q = absurd p
  done-both (x ∷ xs) ys [] es p q = absurd p
  done-both (x ∷ xs) ys (d ∷ ds) es p q = (p.0, done-both xs ys ds es p.1 q)

  quiet-seen : (xs : List Stmt) → AreLeaves xs → EachStmt (unseen o) xs → seen_in o xs ≡ []
  quiet-seen [] leaves uses = refl
  quiet-seen (x ∷ xs) leaves uses = ap₂ (λ (ds : List Deed) (dss : List (List Deed)). if_some ds dss) (leaf-quiet o x leaves.0 uses.0) (quiet-seen xs leaves.1 uses.1)

  first-of : (d : Deed) (ds es : List Deed) → is_seen o d ≡ true → filter (is_seen o) ds ≡ es → filter (is_seen o) (d ∷ ds) ≡ d ∷ es
  first-of d ds es on rest = ap (λ (b : Bool). if b then d ∷ filter (is_seen o) ds else filter (is_seen o) ds) on ∙ ap (λ (l : List Deed). d ∷ l) rest

  each-quiet : (es : List Expr) → UseEach (unseen o) es → filter (is_seen o) (deeds_of (exprs_in es)) ≡ []
  each-quiet [] uses = refl
  each-quiet (e ∷ es) uses = filter-append (is_seen o) (deeds true e) (deeds_of (exprs_in es)) ∙ ap₂ (λ (a b : List Deed). a ++ b) (uses-quiet o true e uses.0) (each-quiet es uses.1)

  both-use : (xs ys : List Expr) → UseEach (unseen o) xs → UseEach (unseen o) ys → UseEach (unseen o) (xs ++ ys)
  both-use [] ys p q = q
  both-use (x ∷ xs) ys p q = (p.0, both-use xs ys p.1 q)

  reads-both : (xs ys : List Deed) → list_all is_read xs ≡ true → list_all is_read ys ≡ true → list_all is_read (xs ++ ys) ≡ true
  reads-both [] ys p q = q
  reads-both (x ∷ xs) ys p q = by_test (is_read x) p (reads-both xs ys)
    where
      by_test : (b : Bool) → (b && list_all is_read xs) ≡ true → (list_all is_read xs ≡ true → list_all is_read ys ≡ true → list_all is_read (xs ++ ys) ≡ true) → (b && list_all is_read (xs ++ ys)) ≡ true
      by_test true p rest = rest p q
      by_test false p rest = cc

  seen-function : (f : Text) → is_among o.functions f ≡ true → is_seen o (calls f) ≡ true
  seen-function f on = ap (λ (b : Bool). b || (is_atomic f || is_barrier f)) on

  seen-atomic : (f : Text) → is_atomic f ≡ true → is_seen o (calls f) ≡ true
  seen-atomic f on = ap (λ (b : Bool). is_among o.functions f || (b || is_barrier f)) on ∙ or_true (is_among o.functions f)

  seen-barrier : (f : Text) → (is_atomic f || is_barrier f) ≡ true → is_seen o (calls f) ≡ true
  seen-barrier f on = ap (λ (b : Bool). is_among o.functions f || b) on ∙ or_true (is_among o.functions f)

  atomic-in : (a : AtomicOp) → is_atomic (atomic_name a) ≡ true
  atomic-in atomic.Load = refl
  atomic-in atomic.Store = refl
  atomic-in atomic.Exchange = refl
  atomic-in atomic.CompareExchange = refl
  atomic-in atomic.IIncrement = refl
  atomic-in atomic.IDecrement = refl
  atomic-in atomic.IAdd = refl
  atomic-in atomic.ISub = refl
  atomic-in atomic.SMin = refl
  atomic-in atomic.UMin = refl
  atomic-in atomic.SMax = refl
  atomic-in atomic.UMax = refl
  atomic-in atomic.And = refl
  atomic-in atomic.Or = refl
  atomic-in atomic.Xor = refl

  -- a barrier
  bare-seen : (f : Text) → (is_atomic f || is_barrier f) ≡ true → seen_in o (bare_call f) ≡ (calls f ∷ []) ∷ []
  bare-seen f on = ap (λ l. if_some l []) (first-of (calls f) [] [] (seen-barrier f on) refl)

  bar-done : (f : Text) → (is_atomic f || is_barrier f) ≡ true → is_done o (bars f) (does h (calls f ∷ [])) ≡ true → Done (bars f ∷ []) (seen_in o (bare_call f))
  bar-done f on same = subst (λ l. Done (bars f ∷ []) l) (sym (bare-seen f on)) (same, tt)

  bit-done : (bits bit : ℕ) (e : Event) (f : Text) → flat_map bars_of (e ∷ []) ≡ bars f ∷ [] → (is_atomic f || is_barrier f) ≡ true → is_done o (bars f) (does h (calls f ∷ [])) ≡ true → Done (flat_map bars_of (steps.when_bit bits bit e)) (seen_in o (when_bit bits bit f))
  bit-done bits bit e f named on same = by_test (bit_and bits bit == 0)
    where
      by_test : (b : Bool) → Done (flat_map bars_of (if b then [] else e ∷ [])) (seen_in o (if b then [] else bare_call f))
      by_test true = tt
      by_test false = subst (λ l. Done l (seen_in o (bare_call f))) (sym named) (bar-done f on same)

  barriers-done : (bits : ℕ) → Done (flat_map bars_of (memory_barriers bits)) (seen_in o (memory_barrier bits))
  barriers-done bits =
      subst (λ l. Done l (seen_in o (memory_barrier bits))) (sym (flat_map-append bars_of (steps.when_bit bits 0x40 event.buffer_barrier) (steps.when_bit bits 0x100 event.shared_barrier)))
      (subst (λ l. Done (flat_map bars_of (steps.when_bit bits 0x40 event.buffer_barrier) ++ flat_map bars_of (steps.when_bit bits 0x100 event.shared_barrier)) l) (sym (seen-both o (when_bit bits 0x40 (codes "memoryBarrierBuffer")) (when_bit bits 0x100 (codes "memoryBarrierShared"))))
      (done-both (flat_map bars_of (steps.when_bit bits 0x40 event.buffer_barrier)) (flat_map bars_of (steps.when_bit bits 0x100 event.shared_barrier)) (seen_in o (when_bit bits 0x40 (codes "memoryBarrierBuffer"))) (seen_in o (when_bit bits 0x100 (codes "memoryBarrierShared")))
      (bit-done bits 0x40 event.buffer_barrier (codes "memoryBarrierBuffer") refl refl refl) (bit-done bits 0x100 event.shared_barrier (codes "memoryBarrierShared") refl refl refl)))

  control-done : (bits : ℕ) → Done (flat_map bars_of (memory_barriers bits ++ event.control_barrier ∷ [])) (seen_in o (memory_barrier bits ++ bare_call (codes "barrier")))
  control-done bits =
      subst (λ l. Done l (seen_in o (memory_barrier bits ++ bare_call (codes "barrier")))) (sym (flat_map-append bars_of (memory_barriers bits) (event.control_barrier ∷ [])))
      (subst (λ l. Done (flat_map bars_of (memory_barriers bits) ++ (bars (codes "barrier") ∷ [])) l) (sym (seen-both o (memory_barrier bits) (bare_call (codes "barrier"))))
      (done-both (flat_map bars_of (memory_barriers bits)) (bars (codes "barrier") ∷ []) (seen_in o (memory_barrier bits)) (seen_in o (bare_call (codes "barrier"))) (barriers-done bits) (bar-done (codes "barrier") refl refl)))

  module _ (s : Source) (w : Scope) (block : ℕ) where
    set-seen : (i : Inst) (e : Expr) (d : Deed) (ds : List Deed) (form : Form) → is_variable_form form ≡ true → is_among o.memory (w.setting.key (Id (id i.result))) ≡ false → filter (is_seen o) (deeds true e) ≡ d ∷ ds → seen_in o (set_by w i e form) ≡ (d ∷ ds) ∷ []
    set-seen i e d ds Local is off on = ap (λ l. if_some l []) on
    set-seen i e d ds Hoisted is off on =
        ap (λ l. if_some l []) (ap (λ (b : Bool). if b then assigns (w.setting.key (Id (id i.result))) ∷ filter (is_seen o) (deeds true e) else filter (is_seen o) (deeds true e)) off ∙ on)
    set-seen i e d ds form is off on = cc

    load-done : (i : Inst) → AsksSeen s o w block i kind.Load → Done (loads ∷ []) (seen_in o (inst_text w block i kind.Load))
    load-done i asks =
        let read = path-read o (place_text w.setting block (slice_index i.args 0)) asks.1 in
        subst (λ l. Done (loads ∷ []) l) (sym (set-seen i (place_expr w.setting block (slice_index i.args 0)) (reads read.0) [] (w.form i.result) asks.0.0 asks.0.1 read.1)) (refl, tt)

    store-done : (i : Inst) → AsksSeen s o w block i kind.Store → Done (stores ∷ []) (seen_in o (inst_text w block i kind.Store))
    store-done i asks =
        let set = path-assigned o (place_text w.setting block (slice_index i.args 0)) asks.0 in
        subst (λ l. Done (stores ∷ []) l)
        (sym (ap (λ l. if_some l []) (filter-append (is_seen o) (place_deeds (place_text w.setting block (slice_index i.args 0))) (deeds true (value w block (slice_index i.args 1))) ∙ ap₂ (λ (a b : List Deed). a ++ b) set.1 (uses-quiet o true (value w block (slice_index i.args 1)) asks.1))))
        (refl, tt)

    -- a call, as a statement or as what is set
    called-seen : (i : Inst) (f : Text) (es : List Expr) (ds : List Deed) (b : Bool) → (b ≡ true → HasVariable s o w block i) → filter (is_seen o) (calls f ∷ deeds_of (exprs_in es)) ≡ calls f ∷ ds
        → seen_in o (if b then set_by w i (Expr.call f (exprs_in es)) (w.form i.result) else Stmt.call f (exprs_in es) ∷ []) ≡ (calls f ∷ ds) ∷ []
    called-seen i f es ds true has on = set-seen i (Expr.call f (exprs_in es)) (calls f) ds (w.form i.result) (has refl).0 (has refl).1 on
    called-seen i f es ds false has on = ap (λ l. if_some l []) on

    atomic-done : (i : Inst) (a : AtomicOp) → AsksSeen s o w block i (kind.Atomic a) → Done (updates ∷ []) (seen_in o (inst_text w block i (kind.Atomic a)))
    atomic-done i a asks =
        let read = path-read o (place_text w.setting block (slice_index i.args 0)) asks.1 in
        let rest = each-quiet (comparator w block i a ++ (atomic_operand w block i a ∷ [])) (both-use (comparator w block i a) (atomic_operand w block i a ∷ []) asks.2 (asks.3, tt)) in
        let inside = filter-append (is_seen o) (deeds true (place_expr w.setting block (slice_index i.args 0))) (deeds_of (exprs_in (comparator w block i a ++ (atomic_operand w block i a ∷ [])))) ∙ ap₂ (λ (x y : List Deed). x ++ y) read.1 rest in
        let whole = first-of (calls (atomic_name a)) (deeds_of (exprs_in (atomic_arguments w block i a))) (reads read.0 ∷ []) (seen-atomic (atomic_name a) (atomic-in a)) inside in
        subst (λ l. Done (updates ∷ []) l) (sym (called-seen i (atomic_name a) (atomic_arguments w block i a) (reads read.0 ∷ []) (has_result a) asks.0 whole)) (ap (λ (b : Bool). b && true) (atomic-in a), tt)

    arguments-read : (ns : List ℕ) → AreArguments s o w block ns → list_all is_read (filter (is_seen o) (deeds_of (exprs_in (map (call_argument w block) ns)))) ≡ true
    arguments-read [] are = refl
    arguments-read (n ∷ ns) are =
        ap (list_all is_read) (filter-append (is_seen o) (deeds true (call_argument w block n)) (deeds_of (exprs_in (map (call_argument w block) ns))))
        ∙ reads-both (filter (is_seen o) (deeds true (call_argument w block n))) (filter (is_seen o) (deeds_of (exprs_in (map (call_argument w block) ns)))) (by_test (is_some (pointee_of (globals w) w.setting.function n)) are.0) (arguments-read ns are.1)
      where
        by_test : (b : Bool) → IsArgument s o w block n b → list_all is_read (filter (is_seen o) (deeds true (if b then place_expr w.setting block n else value w block n))) ≡ true
        by_test true is = let read = path-read o (place_text w.setting block n) is in ap (list_all is_read) read.1
        by_test false is = ap (list_all is_read) (uses-quiet o true (value w block n) is)

    call-done : (i : Inst) → AsksSeen s o w block i kind.Call → Done (enters ∷ []) (seen_in o (inst_text w block i kind.Call))
    call-done i asks = by_test (is_void w i.ty) asks.0
      where
        Args : List Deed
        Args = filter (is_seen o) (deeds_of (exprs_in (call_arguments w block i)))

        whole : filter (is_seen o) (calls (callee_text w i) ∷ deeds_of (exprs_in (call_arguments w block i))) ≡ calls (callee_text w i) ∷ Args
        whole = first-of (calls (callee_text w i)) (deeds_of (exprs_in (call_arguments w block i))) Args (seen-function (callee_text w i) asks.1) refl

        is_so : is_done o enters (does h (calls (callee_text w i) ∷ Args)) ≡ true
        is_so = ap₂ (λ (a b : Bool). a && b) asks.1 (arguments-read (drop 1 i.args) asks.2)

        by_test : (b : Bool) → (b ≡ false → HasVariable s o w block i)
            → Done (enters ∷ []) (seen_in o (if b then Stmt.call (callee_text w i) (exprs_in (call_arguments w block i)) ∷ [] else set_by w i (Expr.call (callee_text w i) (exprs_in (call_arguments w block i))) (w.form i.result)))
        by_test true has = subst (λ l. Done (enters ∷ []) l) (sym (ap (λ l. if_some l []) whole)) (is_so, tt)
        by_test false has = subst (λ l. Done (enters ∷ []) l) (sym (set-seen i (Expr.call (callee_text w i) (exprs_in (call_arguments w block i))) (calls (callee_text w i)) Args (w.form i.result) (has refl).0 (has refl).1 whole)) (is_so, tt)

    quiet-done : (i : Inst) (k : InstKind) → EachStmt (unseen o) (inst_text w block i k) → Done [] (seen_in o (inst_text w block i k))
    quiet-done i k uses = subst (λ l. Done [] l) (sym (quiet-seen (inst_text w block i k) (inst-leaves w block i k) uses)) tt

    group-done : (i : Inst) (g : OpGroup) → AsksSeen s o w block i (kind_in g) → Done (acts_in s i.args g) (seen_in o (inst_text w block i (kind_in g)))
    group-done i groups.Load asks = load-done i asks
    group-done i groups.Store asks = store-done i asks
    group-done i groups.Call asks = call-done i asks
    group-done i (groups.Atomic a) asks = atomic-done i a asks
    group-done i groups.MemoryBarrier asks = subst (λ n. Done (flat_map bars_of (memory_barriers n)) (seen_in o (memory_barrier (semantics w (slice_index i.args 1))))) asks (barriers-done (semantics w (slice_index i.args 1)))
    group-done i groups.ControlBarrier asks =
        subst (λ n. Done (flat_map bars_of (memory_barriers n ++ event.control_barrier ∷ [])) (seen_in o (memory_barrier (semantics w (slice_index i.args 2)) ++ bare_call (codes "barrier")))) asks (control-done (semantics w (slice_index i.args 2)))
    group-done i g asks = quiet-done i (kind_in g) asks

    inst-done : (i : Inst) → AsksSeen s o w block i (kind_of i.op) → Done (acts_of s i) (seen_in o (inst_text w block i (kind_of i.op)))
    unfolding kind_of
    inst-done i asks = group-done i (group_of i.op) asks

    pub insts-done : (is : List Inst) → AllAskSeen s o w block (λ i. kind_of i.op) is → Done (flat_map (acts_of s) is) (seen_in o (flat_map (λ (i : Inst). inst_text w block i (kind_of i.op)) is))
    insts-done [] asks = tt
    insts-done (i ∷ is) asks =
        subst (λ l. Done (acts_of s i ++ flat_map (acts_of s) is) l) (sym (seen-both o (inst_text w block i (kind_of i.op)) (flat_map (λ (i : Inst). inst_text w block i (kind_of i.op)) is)))
        (done-both (acts_of s i) (flat_map (acts_of s) is) (seen_in o (inst_text w block i (kind_of i.op))) (seen_in o (flat_map (λ (i : Inst). inst_text w block i (kind_of i.op)) is)) (inst-done i asks.0) (insts-done is asks.1))
