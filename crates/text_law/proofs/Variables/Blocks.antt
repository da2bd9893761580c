-- The statements of a block declare with a value its results that have the form Local, and nothing else.
use Rattle.std.proofs.Common.{◌≡◌, ◌+◌, ◌==◌, ℕ, Bool, true, false, List, [], ◌∷◌, map, filter, inl, inr, refl, sym, ap, ◌∙◌, arith, if◌then◌else◌}
use Rattle.std.specs.Prelude.{bytes_eq, bit_and, codes, flat_map, slice_index}
use Rattle.spv_module.specs.Lists.{id}
use Rattle.spv_module.specs.declared.inst.Inst.{Inst}
use Rattle.hoist_plan.specs.declared.form.Form.{Form}
use Rattle.hoist_plan.specs.declared.form.Form.TheVariants.{Gone, Forwarded, Local, Hoisted}
use Rattle.name_alloc.specs.declared.claims.Key.TheVariants.{Id}
use Rattle.glsl_ast.specs.Tree.{Text, Expr, exprs_in, LStep, Stmt, lvalue, assign}
use Rattle.expr_forward.specs.declared.kinds.InstKind.{InstKind}
use Rattle.expr_forward.specs.declared.kinds.InstKind.TheVariants as kind
use Rattle.expr_forward.specs.Scope.{Scope}
use Rattle.expr_forward.specs.Kinds.{kind_of}
use Rattle.expr_forward.specs.Values.{value}
use Rattle.expr_forward.specs.Statements.{callee_text, call_arguments, atomic_name, atomic_arguments, semantics, set_by, set, is_void, has_result, bare_call, when_bit, memory_barrier, capture, captured_of, insert_text, is_variable_form, insert_where_named, inst_text}
use Rattle.claim_law.specs.Claimed.{IsIn}
use Rattle.text_law.specs.Declarations.{occurs}
use Rattle.text_law.specs.Variables.{is_local}
use Rattle.text_law.proofs.Variables.Texts.{times_in, times_both}

-- an instruction of this kind may be written as a declaration
abbrev pub sets : Scope → Inst → InstKind → Bool
sets w i kind.Load = true
sets w i kind.Store = false
sets w i kind.Call = if is_void w i.ty then false else true
sets w i (kind.Atomic a) = has_result a
sets w i kind.ControlBarrier = false
sets w i kind.MemoryBarrier = false
sets w i kind.Chain = false
sets w i kind.CompositeInsert = true
sets w i kind.VectorInsertDynamic = true
sets w i (kind.Value v) = true
sets w i kind.Silent = false

-- no other has the form Local
abbrev pub IsSet : Scope → Inst → InstKind → Type 0
IsSet w i k = sets w i k ≡ false → is_local (w.form i.result) ≡ false

module _ (x : Text) (w : Scope) where
  abbrev pub is_name : Text → ℕ
  is_name y = if bytes_eq x y then 1 else 0

  abbrev pub local_by : Inst → Form → ℕ
  local_by i form = if is_local form then is_name (w.setting.key (Id (id i.result))) else 0

  -- how often the instruction is to declare the name
  abbrev pub local_times : Inst → ℕ
  local_times i = local_by i (w.form i.result)

  no_local : (i : Inst) → is_local (w.form i.result) ≡ false → 0 ≡ local_times i
  no_local i off = sym (ap (λ (b : Bool). if b then is_name (w.setting.key (Id (id i.result))) else 0) off)

  set_by_times : (i : Inst) (e : Expr) (form : Form) → times_in x (set_by w i e form) ≡ local_by i form
  set_by_times i e Local = omega arith
  set_by_times i e Hoisted = refl
  set_by_times i e Gone = refl
  set_by_times i e Forwarded = refl

  set_times : (i : Inst) (e : Expr) → times_in x (set w i e) ≡ local_times i
  set_times i e = set_by_times i e (w.form i.result)

  bit_none : (s bit : ℕ) (f : Text) → times_in x (when_bit s bit f) ≡ 0
  bit_none s bit f = by_test (bit_and s bit == 0)
    where
      by_test : (b : Bool) → times_in x (if b then [] else bare_call f) ≡ 0
      by_test true = refl
      by_test false = refl

  barrier_none : (s : ℕ) → times_in x (memory_barrier s) ≡ 0
  barrier_none s =
      let a = times_both x (when_bit s 0x40 (codes "memoryBarrierBuffer")) (when_bit s 0x100 (codes "memoryBarrierShared")) in
      let b = bit_none s 0x40 (codes "memoryBarrierBuffer") in
      let c = bit_none s 0x100 (codes "memoryBarrierShared") in
      omega (arith, a, b, c)

  captures_none : (i : Inst) (ns : List (ℕ × ℕ)) → times_in x (map (capture w i) ns) ≡ 0
  captures_none i [] = refl
  captures_none i (n ∷ ns) = captures_none i ns

  insert_times : (b : ℕ) (i : Inst) (composite : ℕ) (steps : List LStep) (object : ℕ) → times_in x (insert_where_named w b i composite steps object) ≡ local_times i
  insert_times b i composite steps object = by_form (w.form i.result) refl
    where
      whole : times_in x (insert_text w b i composite steps object) ≡ local_times i
      whole =
          let a = times_both x (set w i (value w b composite)) (assign (lvalue (w.setting.key (Id (id i.result))) steps) (value w b object) ∷ []) in
          let c = set_times i (value w b composite) in
          omega (arith, a, c)

      by_form : (form : Form) → w.form i.result ≡ form → times_in x (if is_variable_form form then insert_text w b i composite steps object else []) ≡ local_by i form
      by_form Local at = whole ∙ ap (local_by i) at
      by_form Hoisted at = whole ∙ ap (local_by i) at
      by_form Gone at = refl
      by_form Forwarded at = refl

  pub inst_times : (b : ℕ) (i : Inst) (k : InstKind) → IsSet w i k → times_in x (inst_text w b i k) ≡ local_times i
  inst_times b i kind.Load so = set_times i _
  inst_times b i kind.Store so = no_local i (so refl)
  inst_times b i kind.Call so = by_void (is_void w i.ty) so
    where
      by_void : (v : Bool) → ((if v then false else true) ≡ false → is_local (w.form i.result) ≡ false) → times_in x (if v then Stmt.call (callee_text w i) (exprs_in (call_arguments w b i)) ∷ [] else set w i (Expr.call (callee_text w i) (exprs_in (call_arguments w b i)))) ≡ local_times i
      by_void true so = no_local i (so refl)
      by_void false so = set_times i _
  inst_times b i (kind.Atomic a) so = by_result (has_result a) so
    where
      by_result : (v : Bool) → (v ≡ false → is_local (w.form i.result) ≡ false) → times_in x (if v then set w i (Expr.call (atomic_name a) (exprs_in (atomic_arguments w b i a))) else Stmt.call (atomic_name a) (exprs_in (atomic_arguments w b i a)) ∷ []) ≡ local_times i
      by_result true so = set_times i _
      by_result false so = no_local i (so refl)
  inst_times b i kind.ControlBarrier so =
      let a = times_both x (memory_barrier (semantics w (slice_index i.args 2))) (bare_call (codes "barrier")) in
      let c = barrier_none (semantics w (slice_index i.args 2)) in
      let d = no_local i (so refl) in
      omega (arith, a, c, d)
  inst_times b i kind.MemoryBarrier so = barrier_none (semantics w (slice_index i.args 1)) ∙ no_local i (so refl)
  inst_times b i kind.Chain so = captures_none i (captured_of w i) ∙ no_local i (so refl)
  inst_times b i kind.CompositeInsert so = insert_times b i _ _ _
  inst_times b i kind.VectorInsertDynamic so = insert_times b i _ _ _
  inst_times b i (kind.Value v) so = set_times i _
  inst_times b i kind.Silent so = no_local i (so refl)

  abbrev pub name_of_result : Inst → Text
  name_of_result i = w.setting.key (Id (id i.result))

  abbrev pub is_local_in : Inst → Bool
  is_local_in i = is_local (w.form i.result)

  -- all instructions of a block
  pub insts_times : (b : ℕ) (is : List Inst) → ((i : Inst) → IsIn i is → IsSet w i (kind_of i.op))
      → times_in x (flat_map (λ (i : Inst). inst_text w b i (kind_of i.op)) is) ≡ occurs x (map name_of_result (filter is_local_in is))
  insts_times b [] so = refl
  insts_times b (i ∷ is) so =
      let a = times_both x (inst_text w b i (kind_of i.op)) (flat_map (λ (j : Inst). inst_text w b j (kind_of j.op)) is) in
      let c = inst_times b i (kind_of i.op) (so i (inl refl)) in
      let d = insts_times b is (λ j there. so j (inr there)) in
      let e = by_test (is_local_in i) in
      omega (arith, a, c, d, e)
    where
      by_test : (q : Bool) → occurs x (map name_of_result (if q then i ∷ filter is_local_in is else filter is_local_in is)) ≡ (if q then is_name (w.setting.key (Id (id i.result))) else 0) + occurs x (map name_of_result (filter is_local_in is))
      by_test true = refl
      by_test false = omega arith
